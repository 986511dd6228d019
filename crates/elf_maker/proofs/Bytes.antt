-- Numbers that stand in a list of bytes, behind a prefix.
use Rattle.std.proofs.Common.{◌≡◌, ℕ, zero, suc, ◌+◌, ◌*◌, ◌^◌, ◌<◌, List, [], ◌∷◌, ◌++◌, length, take, drop, get_or, Some, refl, sym, ap, ◌∙◌, append_assoc, arith}
use Rattle.std.specs.List.{flat_map, slice_get}
use Rattle.std.proofs.lemmas.List.{length-append, drop-drop, drop_at, get_or-drop}
use Rattle.byteorder.specs.Endian.{little_number, little_bytes}
use Rattle.byteorder.specs.Numbers.{little_number-reads_back}
use Rattle.elf32_reader.specs.declared.section.Section.{Section}
use Rattle.elf32_reader.specs.Numbers.{u8_at, u16_at, u32_at}
use Rattle.elf32_reader.specs.Sections.{header_at}
use Rattle.elf_maker.specs.Spelling.{words_text, section_text}
use Rattle.byte_words.specs.Numbers.{byte_at, number_at}

-- what stands behind a prefix
pub drop_behind : {X : Type 0} (prefix rest : List X) (n at : ℕ) → length prefix ≡ n → drop (n + at) (prefix ++ rest) ≡ drop at rest
drop_behind prefix rest n at len = sym (drop-drop at n (prefix ++ rest)) ∙ ap (drop at) (drop_at prefix rest n len)

pub u32_from : (y : List ℕ) (at k : ℕ) → u32_at y (at + k) ≡ u32_at (drop at y) k
unfolding number_at
u32_from y at k = ap (little_number 4) (sym (drop-drop k at y))

pub u16_from : (y : List ℕ) (at k : ℕ) → u16_at y (at + k) ≡ u16_at (drop at y) k
unfolding number_at
u16_from y at k = ap (little_number 2) (sym (drop-drop k at y))

pub u8_from : (y : List ℕ) (at k : ℕ) → u8_at y (at + k) ≡ u8_at (drop at y) k
unfolding byte_at
u8_from y at k = sym (get_or-drop at y k 0)

pub u32_from_zero : (y : List ℕ) (at : ℕ) → u32_at y at ≡ u32_at (drop at y) 0
unfolding number_at
u32_from_zero y at = refl

pub word_at : (ns rest : List ℕ) (k : ℕ) → k < length ns → get_or ns k 0 < 2 ^ 32 → u32_at (words_text ns ++ rest) (4 * k) ≡ get_or ns k 0
unfolding number_at words_text
word_at [] rest k below fits = absurd (omega arith)
word_at (n ∷ ns) rest zero below fits = little_number-reads_back 4 n (flat_map (little_bytes 4) ns ++ rest) fits
word_at (n ∷ ns) rest (suc k) below fits =
    ap (λ p. little_number 4 (drop p (words_text (n ∷ ns) ++ rest))) (let e : 4 * suc k ≡ 4 + 4 * k = omega arith in e)
    ∙ ap (little_number 4) (drop_behind (little_bytes 4 n) (words_text ns ++ rest) 4 (4 * k) refl)
    ∙ word_at ns rest k (omega arith) fits

-- the numbers of a section header fit
pub record FitsSection (s : Section) : Type 0 where
  pub name : s.name < 2 ^ 32
  pub kind : s.kind < 2 ^ 32
  pub flags : s.flags < 2 ^ 32
  pub addr : s.addr < 2 ^ 32
  pub offset : s.offset < 2 ^ 32
  pub size : s.size < 2 ^ 32
  pub link : s.link < 2 ^ 32
  pub info : s.info < 2 ^ 32
  pub addralign : s.addralign < 2 ^ 32
  pub entsize : s.entsize < 2 ^ 32

same_section : (s t : Section) → s.name ≡ t.name → s.kind ≡ t.kind → s.flags ≡ t.flags → s.addr ≡ t.addr → s.offset ≡ t.offset → s.size ≡ t.size → s.link ≡ t.link → s.info ≡ t.info → s.addralign ≡ t.addralign → s.entsize ≡ t.entsize → s ≡ t
same_section s t n k f a o z l x g e = λ i. record { name = n i; kind = k i; flags = f i; addr = a i; offset = o i; size = z i; link = l i; info = x i; addralign = g i; entsize = e i }

-- a section header is read where it stands
pub header_read : (y : List ℕ) (at : ℕ) (s : Section) (rest : List ℕ) → drop at y ≡ section_text s ++ rest → FitsSection s → header_at y at ≡ s
unfolding section_text
header_read y at s rest here fits =
    let ns = s.name ∷ s.kind ∷ s.flags ∷ s.addr ∷ s.offset ∷ s.size ∷ s.link ∷ s.info ∷ s.addralign ∷ s.entsize ∷ [] in
    let moved : (k : ℕ) → u32_at y (at + k) ≡ u32_at (words_text ns ++ rest) k = λ k. u32_from y at k ∙ ap (λ z. u32_at z k) here in
    same_section (header_at y at) s
    (u32_from_zero y at ∙ ap (λ z. u32_at z 0) here ∙ word_at ns rest 0 (omega arith) fits.name)
    (moved 4 ∙ word_at ns rest 1 (omega arith) fits.kind)
    (moved 8 ∙ word_at ns rest 2 (omega arith) fits.flags)
    (moved 12 ∙ word_at ns rest 3 (omega arith) fits.addr)
    (moved 16 ∙ word_at ns rest 4 (omega arith) fits.offset)
    (moved 20 ∙ word_at ns rest 5 (omega arith) fits.size)
    (moved 24 ∙ word_at ns rest 6 (omega arith) fits.link)
    (moved 28 ∙ word_at ns rest 7 (omega arith) fits.info)
    (moved 32 ∙ word_at ns rest 8 (omega arith) fits.addralign)
    (moved 36 ∙ word_at ns rest 9 (omega arith) fits.entsize)

-- entry i of a table whose entries have n bytes each
pub entry_at : {X : Type 0} (f : X → List ℕ) (n : ℕ) → ((x : X) → length (f x) ≡ n) → (xs : List X) (i : ℕ) (x : X) (rest : List ℕ) → slice_get xs i ≡ Some x
    → drop (n * i) (flat_map f xs ++ rest) ≡ f x ++ (flat_map f (drop (suc i) xs) ++ rest)
entry_at f n len [] i x rest is = absurd (cc)
entry_at f n len (y ∷ ys) zero x rest is =
    let same : y ≡ x = cc in
    ap (λ k. drop k ((f y ++ flat_map f ys) ++ rest)) (let e : n * 0 ≡ 0 = omega arith in e)
    ∙ append_assoc (f y) (flat_map f ys) rest
    ∙ ap (λ z. f z ++ (flat_map f ys ++ rest)) same
entry_at f n len (y ∷ ys) (suc i) x rest is =
    ap (λ k. drop k ((f y ++ flat_map f ys) ++ rest)) (let e : n * suc i ≡ n + n * i = omega arith in e)
    ∙ ap (drop (n + n * i)) (append_assoc (f y) (flat_map f ys) rest)
    ∙ drop_behind (f y) (flat_map f ys ++ rest) n (n * i) (len y)
    ∙ entry_at f n len ys i x rest is

-- piece i of a list of pieces stands behind those before it
pub piece_at : {X : Type 0} (f : X → List ℕ) (xs : List X) (i : ℕ) (x : X) → slice_get xs i ≡ Some x → drop (length (flat_map f (take i xs))) (flat_map f xs) ≡ f x ++ flat_map f (drop (suc i) xs)
piece_at f [] i x is = absurd (cc)
piece_at f (y ∷ ys) zero x is = let same : y ≡ x = cc in ap (λ z. f z ++ flat_map f ys) same
piece_at f (y ∷ ys) (suc i) x is =
    ap (λ n. drop n (f y ++ flat_map f ys)) (length-append (f y) (flat_map f (take i ys)))
    ∙ drop_behind (f y) (flat_map f ys) (length (f y)) (length (flat_map f (take i ys))) refl
    ∙ piece_at f ys i x is
