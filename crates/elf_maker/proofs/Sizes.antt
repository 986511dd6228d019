-- How long the parts of a file are.
use Rattle.std.proofs.Common.{◌≡◌, ◌≢◌, ℕ, zero, suc, ◌+◌, ◌*◌, ◌^◌, ◌<◌, ◌≤◌, cond, List, [], ◌∷◌, ◌++◌, length, map, refl, sym, ap, ◌∙◌, arith, inl, inr}
use Rattle.std.specs.List.{flat_map, range_with_len, slice_get}
use Rattle.std.specs.Option.{IsSomeAnd}
use Rattle.std.proofs.lemmas.Bool.{cases_eq, eq-eqb, ne_eqb}
use Rattle.std.proofs.lemmas.List.{length-append, length-map}
use Rattle.std.proofs.lemmas.List.Concat.{flat_map-append}
use Rattle.std.proofs.lemmas.List.FromFn.{length-map-range_with_len}
use Rattle.elf_maker.specs.declared.given.Part.{Part}
use Rattle.elf_maker.specs.declared.given.MakeSymbol.{MakeSymbol}
use Rattle.elf_maker.specs.declared.given.MakeRela.{MakeRela}
use Rattle.elf_maker.specs.declared.writer.Writer.{Writer}
use Rattle.elf_maker.specs.Given.{relas_of, IsRela, HasAlloc, total}
use Rattle.elf_maker.specs.Spelling.{Item, Adds, null_section, placed, contents, words_text, halves_text, symbol_text, name_text, names_text, symbols_text, symtab_text, strtab_text, rela_text, relas_text, relas_texts, part_item, symtab_item, strtab_item, relas_items, all_items}
use Rattle.elf_maker.proofs.Laid.{contents-parts, contents-relas, adds_more}

pub length-symbol_text : (at : ℕ) (s : MakeSymbol) → length (symbol_text at s) ≡ 16
unfolding symbol_text words_text halves_text
length-symbol_text at s = refl

pub length-rela_text : (r : MakeRela) → length (rela_text r) ≡ 12
unfolding rela_text words_text
length-rela_text r = refl

pub length-symbols_text : (at : ℕ) (ss : List MakeSymbol) → length (symbols_text at ss) ≡ 16 * length ss
length-symbols_text at [] = refl
length-symbols_text at (s ∷ ss) =
    omega (arith, length-append (symbol_text at s) (symbols_text (at + length (name_text s)) ss), length-symbol_text at s, length-symbols_text (at + length (name_text s)) ss)

pub length-names_text : (ss : List MakeSymbol) → length (names_text ss) ≡ length (flat_map (λ s. s.name.items) ss) + length ss
length-names_text [] = refl
length-names_text (s ∷ ss) =
    omega (
      arith,
      length-append (name_text s) (names_text ss),
      length-append s.name.items (0 ∷ []),
      length-append s.name.items (flat_map (λ (x : MakeSymbol). x.name.items) ss),
      length-names_text ss,
    )

pub length-symtab_text : (ss : List MakeSymbol) → length (symtab_text ss) ≡ 16 + 16 * length ss
unfolding symtab_text
length-symtab_text ss = omega (arith, length-symbols_text 1 ss)

pub length-strtab_text : (ss : List MakeSymbol) → length (strtab_text ss) ≡ 1 + length (flat_map (λ s. s.name.items) ss) + length ss
unfolding strtab_text
length-strtab_text ss = omega (arith, length-names_text ss)

length-entries : (rs : List MakeRela) → length (flat_map rela_text rs) ≡ 12 * length rs
length-entries [] = refl
length-entries (r ∷ rs) = omega (arith, length-append (rela_text r) (flat_map rela_text rs), length-rela_text r, length-entries rs)

pub length-relas_text : (relas : List MakeRela) (p : ℕ) → length (relas_text relas p) ≡ 12 * length (relas_of p relas)
unfolding relas_text
length-relas_text relas p = length-entries (relas_of p relas)

-- ---- all relocations together

relas_text-first : (r : MakeRela) (rs : List MakeRela) → length (relas_text (r ∷ rs) r.part) ≡ length (relas_text rs r.part) + 12
relas_text-first r rs =
    let first : length (relas_of r.part (r ∷ rs)) ≡ suc (length (relas_of r.part rs)) = ap (λ b. length (cond b (r ∷ relas_of r.part rs) (relas_of r.part rs))) (eq-eqb r.part r.part refl) in
    omega (arith, length-relas_text (r ∷ rs) r.part, length-relas_text rs r.part, first)

relas_text-later : (r : MakeRela) (rs : List MakeRela) (p : ℕ) → r.part ≢ p → length (relas_text (r ∷ rs) p) ≡ length (relas_text rs p)
relas_text-later r rs p other =
    let first : length (relas_of p (r ∷ rs)) ≡ length (relas_of p rs) = ap (λ b. length (cond b (r ∷ relas_of p rs) (relas_of p rs))) (ne_eqb r.part p other) in
    omega (arith, length-relas_text (r ∷ rs) p, length-relas_text rs p, first)

abbrev sum_of : List MakeRela → ℕ → ℕ → ℕ
sum_of relas a n = length (flat_map (relas_text relas) (range_with_len a n))

sum_of-suc : (relas : List MakeRela) (a n : ℕ) → sum_of relas a (suc n) ≡ length (relas_text relas a) + sum_of relas (a + 1) n
sum_of-suc relas a n = length-append (relas_text relas a) (flat_map (relas_text relas) (range_with_len (a + 1) n))

sum_passed : (r : MakeRela) (rs : List MakeRela) (a n : ℕ) → r.part < a → sum_of (r ∷ rs) a n ≡ sum_of rs a n
sum_passed r rs a zero passed = refl
sum_passed r rs a (suc n) passed =
    omega (arith, sum_of-suc (r ∷ rs) a n, sum_of-suc rs a n, relas_text-later r rs a (omega arith), sum_passed r rs (a + 1) n (omega arith))

sum_first : (r : MakeRela) (rs : List MakeRela) (a n : ℕ) → sum_of (r ∷ rs) a n ≤ sum_of rs a n + 12
sum_first r rs a zero = omega arith
sum_first r rs a (suc n) = elim (cases_eq r.part a) [
  | inl here ↦ (
      let first : length (relas_text (r ∷ rs) a) ≡ length (relas_text rs a) + 12 = ap (λ p. length (relas_text (r ∷ rs) p)) (sym here) ∙ relas_text-first r rs ∙ ap (λ p. length (relas_text rs p) + 12) here in
      omega (arith, sum_of-suc (r ∷ rs) a n, sum_of-suc rs a n, first, sum_passed r rs (a + 1) n (omega arith)))
  | inr other ↦ omega (arith, sum_of-suc (r ∷ rs) a n, sum_of-suc rs a n, relas_text-later r rs a other, sum_first r rs (a + 1) n)
]

sum_none : (a n : ℕ) → sum_of [] a n ≡ 0
sum_none a zero = refl
sum_none a (suc n) = omega (arith, sum_of-suc [] a n, length-relas_text [] a, sum_none (a + 1) n)

sum_of_all : (relas : List MakeRela) (a n : ℕ) → sum_of relas a n ≤ 12 * length relas
sum_of_all [] a n = omega (arith, sum_none a n)
sum_of_all (r ∷ rs) a n = omega (arith, sum_first r rs a n, sum_of_all rs a n)

flat_map-map : {X : Type 0} (f : X → List ℕ) (xs : List X) → flat_map (λ bs. bs) (map f xs) ≡ flat_map f xs
flat_map-map f [] = refl
flat_map-map f (x ∷ xs) = ap (λ bs. f x ++ bs) (flat_map-map f xs)

pub length-relas_texts : (n : ℕ) (relas : List MakeRela) → length (flat_map (λ bs. bs) (relas_texts n relas)) ≤ 12 * length relas
length-relas_texts n relas = omega (arith, ap length (flat_map-map (relas_text relas) (range_with_len 0 n)), sum_of_all relas 0 n)

pub length-relas_items : (t i : ℕ) (texts : List (List ℕ)) → length (relas_items t i texts) ≤ length texts
length-relas_items t i [] = omega arith
length-relas_items t i ([] ∷ texts) = omega (arith, length-relas_items t (i + 1) texts)
length-relas_items t i ((b ∷ bs) ∷ texts) = omega (arith, length-relas_items t (i + 1) texts)

-- ---- the whole

pub length-all_items : (parts : List Part) (symbols : List MakeSymbol) (relas : List MakeRela) → length (all_items parts symbols relas) ≤ 2 + 2 * length parts
unfolding all_items
length-all_items parts symbols relas =
    let n = length parts in
    omega (
      arith,
      length-append (map part_item parts) (symtab_item n symbols ∷ strtab_item symbols ∷ relas_items (n + 1) 0 (relas_texts n relas)),
      length-map parts part_item,
      length-relas_items (n + 1) 0 (relas_texts n relas),
      length-map-range_with_len (relas_text relas) 0 n,
    )

pub length-all_contents : (parts : List Part) (symbols : List MakeSymbol) (relas : List MakeRela) → total parts symbols < 2 ^ 24 → length symbols < 2 ^ 24 → length relas < 2 ^ 24
    → length (contents (all_items parts symbols relas)) < 2 ^ 30
unfolding all_items
length-all_contents parts symbols relas few_bytes few_symbols few_relas =
    let n = length parts in
    let texts = relas_texts n relas in
    let tables = relas_items (n + 1) 0 texts in
    omega (
      arith,
      ap length (flat_map-append (λ (x : Item). x.bytes) (map part_item parts) (symtab_item n symbols ∷ strtab_item symbols ∷ tables)),
      length-append (contents (map part_item parts)) (contents (symtab_item n symbols ∷ strtab_item symbols ∷ tables)),
      ap length (contents-parts parts),
      length-append (symtab_text symbols) (strtab_text symbols ++ contents tables),
      length-append (strtab_text symbols) (contents tables),
      length-symtab_text symbols,
      length-strtab_text symbols,
      ap length (contents-relas (n + 1) 0 texts),
      length-relas_texts n relas,
    )

-- what a writer has when all is added
pub record HasAll (w : Writer) (parts : List Part) (symbols : List MakeSymbol) (relas : List MakeRela) : Type 0 where
  pub sections : w.sections.items ≡ null_section ∷ placed 52 (all_items parts symbols relas)
  pub body : w.body.items ≡ contents (all_items parts symbols relas)

pub all_added : (a b c d : Writer) (parts : List Part) (symbols : List MakeSymbol) (relas : List MakeRela) (texts : List (List ℕ))
    → a.sections.items ≡ null_section ∷ [] → a.body.items ≡ [] → Adds a b (map part_item parts)
    → Adds b c (symtab_item (length parts) symbols ∷ strtab_item symbols ∷ []) → Adds c d (relas_items (length parts + 1) 0 texts)
    → texts ≡ relas_texts (length parts) relas → HasAll d parts symbols relas
unfolding all_items
all_added a b c d parts symbols relas texts sections body first then_ last are =
    let n = length parts in
    let tables = relas_items (n + 1) 0 texts in
    let rest : Adds b d (symtab_item n symbols ∷ strtab_item symbols ∷ tables) = adds_more b c d (symtab_item n symbols ∷ strtab_item symbols ∷ []) tables then_ last in
    let all = adds_more a b d (map part_item parts) (symtab_item n symbols ∷ strtab_item symbols ∷ tables) first rest in
    let whole = map part_item parts ++ (symtab_item n symbols ∷ strtab_item symbols ∷ tables) in
    let items : whole ≡ map part_item parts ++ (symtab_item n symbols ∷ strtab_item symbols ∷ relas_items (n + 1) 0 (relas_texts n relas)) = ap (λ ts. map part_item parts ++ (symtab_item n symbols ∷ strtab_item symbols ∷ relas_items (n + 1) 0 ts)) are in
    record {
      sections = all.sections ∙ ap (λ ss. ss ++ placed (52 + length a.body.items) whole) sections ∙ ap (λ bs. null_section ∷ placed (52 + length bs) whole) body ∙ ap (λ xs. null_section ∷ placed 52 xs) items;
      body = all.body ∙ ap (λ bs. bs ++ contents whole) body ∙ ap contents items;
    }

-- the part of a relocation is there
pub part_below : (parts : List Part) (symbols : List MakeSymbol) (r : MakeRela) → IsRela parts symbols r → r.part < length parts
part_below parts symbols r is = there parts r.part is.part
  where
    there : (xs : List Part) (i : ℕ) → IsSomeAnd (slice_get xs i) HasAlloc → i < length xs
    there [] i is = absurd is
    there (x ∷ xs) zero is = omega arith
    there (x ∷ xs) (suc i) is = omega (arith, there xs i is)
