-- Symbols, names and relocations, read where they stand.
use Rattle.std.proofs.Common.{◌≡◌, ℕ, zero, suc, ◌+◌, ◌*◌, ◌^◌, ◌<◌, ◌==◌, not, cond, false, List, [], ◌∷◌, ◌++◌, length, take, drop, Some, refl, sym, ap, ◌∙◌, append_assoc, arith}
use Rattle.std.specs.List.{slice_get, list_any, prefix_len, before_first}
use Rattle.std.specs.Int.{w32, cast_signed, cast_unsigned}
use Rattle.std.proofs.lemmas.Bool.{or_parts}
use Rattle.std.proofs.lemmas.List.{length-append, drop-drop, take_at}
use Rattle.byteorder.specs.Numbers.{little_number-reads_back}
use Rattle.elf32_reader.specs.declared.section.Section.{Section}
use Rattle.elf32_reader.specs.declared.symbol.Symbol.{Symbol}
use Rattle.elf32_reader.specs.declared.rela.Rela.{Rela}
use Rattle.elf32_reader.specs.Numbers.{u8_at, u16_at, u32_at}
use Rattle.elf32_reader.specs.Sections.{section, content}
use Rattle.elf32_reader.specs.Symbols.{symbol_at}
use Rattle.elf32_reader.specs.Relas.{entry_offset, addend_word, rela}
use Rattle.elf_maker.specs.declared.given.MakeSymbol.{MakeSymbol}
use Rattle.elf_maker.specs.declared.given.MakeRela.{MakeRela}
use Rattle.elf_maker.specs.Makes.{entry_of_rela}
use Rattle.elf_maker.specs.Fits.{FitsSymbol, FitsRela}
use Rattle.elf_maker.specs.Spelling.{Item, words_text, halves_text, symbol_text, name_text, names_text, symbols_text, rela_text}
use Rattle.elf_maker.proofs.Bytes.{drop_behind, u8_from, u16_from, u32_from, u32_from_zero, word_at, piece_at}
use Rattle.elf_maker.proofs.Places.{Stands}
use Rattle.elf_maker.proofs.Sizes.{length-symbol_text}
use Rattle.byte_words.specs.Numbers.{byte_at, number_at}

-- ---- contents

pub inside : (e : List ℕ) (k : ℕ) (x : Item) (st : Stands e k x) (m : ℕ) → drop ((section e k).offset + m) e ≡ drop m (x.bytes ++ st.rest)
inside e k x st m =
    ap (λ (s : Section). drop (s.offset + m) e) st.is ∙ sym (drop-drop m st.offset e) ∙ ap (drop m) st.here

pub content_is : (e : List ℕ) (k : ℕ) (x : Item) → Stands e k x → x.header.size ≡ length x.bytes → content e (section e k) ≡ x.bytes
unfolding content
content_is e k x st sized =
    ap (λ (s : Section). take s.size (drop s.offset e)) st.is
    ∙ ap (take x.header.size) st.here
    ∙ take_at x.bytes st.rest x.header.size (sym sized)

-- ---- symbols

pub same_symbol : (s t : Symbol) → s.name ≡ t.name → s.value ≡ t.value → s.size ≡ t.size → s.info ≡ t.info → s.other ≡ t.other → s.shndx ≡ t.shndx → s ≡ t
same_symbol s t n v z f o x = λ i. record { name = n i; value = v i; size = z i; info = f i; other = o i; shndx = x i }

pub symbol_read : (y : List ℕ) (at n : ℕ) (s : MakeSymbol) (more : List ℕ) → drop at y ≡ symbol_text n s ++ more → n < 2 ^ 32 → FitsSymbol s
    → symbol_at y at ≡ record { name = n; value = s.value; size = 0; info = s.info; other = 0; shndx = s.shndx }
unfolding symbol_text words_text halves_text byte_at number_at
symbol_read y at n s more here below fits =
    let ns = n ∷ s.value ∷ 0 ∷ [] in
    let tail = (s.info ∷ 0 ∷ halves_text (s.shndx ∷ [])) ++ more in
    same_symbol (symbol_at y at) (record { name = n; value = s.value; size = 0; info = s.info; other = 0; shndx = s.shndx })
    (u32_from_zero y at ∙ ap (λ z. u32_at z 0) here ∙ word_at ns tail 0 (omega arith) below)
    (u32_from y at 4 ∙ ap (λ z. u32_at z 4) here ∙ word_at ns tail 1 (omega arith) fits.value)
    (u32_from y at 8 ∙ ap (λ z. u32_at z 8) here ∙ word_at ns tail 2 (omega arith) (omega arith))
    (u8_from y at 12 ∙ ap (λ z. u8_at z 12) here)
    (u8_from y at 13 ∙ ap (λ z. u8_at z 13) here)
    (u16_from y at 14 ∙ ap (λ z. u16_at z 14) here ∙ little_number-reads_back 2 s.shndx more fits.shndx)

-- a prefix with what stands behind it
pub record Begins (y prefix : List ℕ) : Type 0 where
  pub more : List ℕ
  pub is : y ≡ prefix ++ more

pub symbols_at : (at : ℕ) (ss : List MakeSymbol) (j : ℕ) (s : MakeSymbol) (rest : List ℕ) → slice_get ss j ≡ Some s
    → Begins (drop (16 * j) (symbols_text at ss ++ rest)) (symbol_text (at + length (names_text (take j ss))) s)
symbols_at at [] j s rest is = absurd (cc)
symbols_at at (y ∷ ys) zero s rest is =
    let same : y ≡ s = cc in
    record {
      more = symbols_text (at + length (name_text y)) ys ++ rest;
      is = append_assoc (symbol_text at y) (symbols_text (at + length (name_text y)) ys) rest
          ∙ ap (λ z. symbol_text at z ++ (symbols_text (at + length (name_text y)) ys ++ rest)) same
          ∙ ap (λ n. symbol_text n s ++ (symbols_text (at + length (name_text y)) ys ++ rest)) (let e : at ≡ at + 0 = omega arith in e);
    }
symbols_at at (y ∷ ys) (suc j) s rest is =
    let next = at + length (name_text y) in
    let later = symbols_at next ys j s rest is in
    record {
      more = later.more;
      is = ap (λ k. drop k ((symbol_text at y ++ symbols_text next ys) ++ rest)) (let e : 16 * suc j ≡ 16 + 16 * j = omega arith in e)
          ∙ ap (drop (16 + 16 * j)) (append_assoc (symbol_text at y) (symbols_text next ys) rest)
          ∙ drop_behind (symbol_text at y) (symbols_text next ys ++ rest) 16 (16 * j) (length-symbol_text at y)
          ∙ later.is
          ∙ ap (λ n. symbol_text n s ++ later.more) (let e : next + length (names_text (take j ys)) ≡ at + length (name_text y ++ names_text (take j ys)) = omega (arith, length-append (name_text y) (names_text (take j ys))) in e);
    }

-- ---- names

-- what stands before the first zero
pub before_zero : (xs rest : List ℕ) → list_any (λ b. b == 0) xs ≡ false → before_first (λ b. b == 0) (xs ++ 0 ∷ rest) ≡ xs
before_zero [] rest none = refl
before_zero (x ∷ xs) rest none =
    let parts = or_parts (x == 0) (list_any (λ b. b == 0) xs) none in
    let n = prefix_len (λ b. not (b == 0)) (xs ++ 0 ∷ rest) in
    ap (λ t. take (cond (not t) (1 + n) 0) (x ∷ (xs ++ 0 ∷ rest))) parts.0
    ∙ ap (λ k. take k (x ∷ (xs ++ 0 ∷ rest))) (let e : 1 + n ≡ suc n = omega arith in e)
    ∙ ap (λ ys. x ∷ ys) (before_zero xs rest parts.1)

pub name_at : (ss : List MakeSymbol) (j : ℕ) (s : MakeSymbol) → slice_get ss j ≡ Some s
    → drop (length (names_text (take j ss))) (names_text ss) ≡ s.name.items ++ 0 ∷ names_text (drop (suc j) ss)
name_at ss j s is = piece_at name_text ss j s is ∙ append_assoc s.name.items (0 ∷ []) (names_text (drop (suc j) ss))

-- ---- relocations

same_rela : (r s : Rela) → r.offset ≡ s.offset → r.symbol ≡ s.symbol → r.kind ≡ s.kind → r.addend ≡ s.addend → r ≡ s
same_rela r s o y k a = λ i. record { offset = o i; symbol = y i; kind = k i; addend = a i }

pub rela_read : (e : List ℕ) (i j : ℕ) (r : MakeRela) (more : List ℕ) → drop (entry_offset e i j) e ≡ rela_text r ++ more → FitsRela r → r.symbol < 2 ^ 24 → rela e i j ≡ entry_of_rela r
unfolding rela addend_word rela_text
rela_read e i j r more here fits small =
    let at = entry_offset e i j in
    let ns = r.offset ∷ (256 * r.symbol + r.kind) ∷ cast_unsigned w32 r.addend ∷ [] in
    let info : u32_at e (at + 4) ≡ 256 * r.symbol + r.kind = u32_from e at 4 ∙ ap (λ z. u32_at z 4) here ∙ word_at ns more 1 (omega arith) (omega (arith, fits.kind, small)) in
    same_rela (rela e i j) (entry_of_rela r)
    (u32_from_zero e at ∙ ap (λ z. u32_at z 0) here ∙ word_at ns more 0 (omega arith) fits.offset)
    (omega (arith, info, fits.kind))
    (omega (arith, info, fits.kind))
    (ap (cast_signed w32) (u32_from e at 8 ∙ ap (λ z. u32_at z 8) here ∙ word_at ns more 2 (omega arith) fits.word) ∙ fits.addend)
