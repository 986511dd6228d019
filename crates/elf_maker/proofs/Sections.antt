-- The sections of a file by index.
use Rattle.std.proofs.Common.{◌≡◌, ℕ, zero, suc, ◌+◌, ◌-◌, ◌^◌, ◌<◌, ◌≤◌, ◌==◌, ◌||◌, cond, true, false, List, [], ◌∷◌, ◌++◌, length, map, Some, None, Option, refl, sym, ap, ◌∙◌, subst, arith, inl, inr, ◌⊎◌}
use Rattle.std.specs.List.{slice_get, filter, range_with_len, All}
use Rattle.std.specs.Option.{IsSomeAnd}
use Rattle.std.proofs.lemmas.Bool.{cases_Bool, cases_lt, or_parts, eqb-true}
use Rattle.std.proofs.lemmas.List.{length-map}
use Rattle.std.proofs.lemmas.List.Elements.{All-filter, filter_passes}
use Rattle.std.proofs.lemmas.List.FromFn.{length-range_with_len, get_or-range_with_len}
use Rattle.std.proofs.lemmas.Option.{slice_get_within, slice_get_cases, get_or_from_slice_get, slice_get-map}
use Rattle.elf_maker.specs.declared.given.Part.{Part}
use Rattle.elf_maker.specs.declared.given.MakeSymbol.{MakeSymbol}
use Rattle.elf_maker.specs.declared.given.MakeRela.{MakeRela}
use Rattle.elf_maker.specs.Given.{HasAlloc, IsPart, HasPlainName, IsRela, total, relas_of, is_relocated, relocated}
use Rattle.elf_maker.specs.Fits.{FitsPart, FitsAll}
use Rattle.elf_maker.specs.Spelling.{Item, header_of, part_header, part_item, table_header, table_item, symtab_text, strtab_text, symtab_item, strtab_item, relas_text, relas_items, all_items, spelled}
use Rattle.elf_maker.proofs.Bytes.{FitsSection}
use Rattle.elf_maker.proofs.Sizes.{length-relas_text, length-symtab_text, length-strtab_text, length-all_items, length-all_contents}
use Rattle.elf_maker.proofs.Places.{file_of, IsSound, Stands, stands}

-- ---- elements by index

pub at_all : {X : Type 0} (P : X → Type 0) (xs : List X) (i : ℕ) (x : X) → All P xs → slice_get xs i ≡ Some x → P x
at_all P xs i x all is = subst P (get_or_from_slice_get xs i x x is) (all i x (slice_get_within xs i x is))

get_left : {X : Type 0} (xs ys : List X) (i : ℕ) (x : X) → slice_get xs i ≡ Some x → slice_get (xs ++ ys) i ≡ Some x
get_left [] ys i x is = absurd (cc)
get_left (z ∷ xs) ys zero x is = is
get_left (z ∷ xs) ys (suc i) x is = get_left xs ys i x is

get_right : {X : Type 0} (xs ys : List X) (n i : ℕ) → length xs ≡ n → slice_get (xs ++ ys) (n + i) ≡ slice_get ys i
get_right [] ys n i len = ap (slice_get ys) (let e : n + i ≡ i = omega arith in e)
get_right (z ∷ xs) ys n i len =
    ap (slice_get (z ∷ (xs ++ ys))) (let e : n + i ≡ suc (length xs + i) = omega arith in e) ∙ get_right xs ys (length xs) i refl

get_append : {X : Type 0} (xs ys : List X) (i : ℕ) (x : X) → slice_get (xs ++ ys) i ≡ Some x → (slice_get xs i ≡ Some x) ⊎ ((j : ℕ) × (slice_get ys j ≡ Some x))
get_append [] ys i x is = inr (i, is)
get_append (z ∷ xs) ys zero x is = inl is
get_append (z ∷ xs) ys (suc i) x is = get_append xs ys i x is

get_map : {X Y : Type 0} (f : X → Y) (xs : List X) (i : ℕ) (y : Y) → slice_get (map f xs) i ≡ Some y → (x : X) × (slice_get xs i ≡ Some x) × (f x ≡ y)
get_map f [] i y is = absurd (cc)
get_map f (x ∷ xs) zero y is = (x, refl, cc)
get_map f (x ∷ xs) (suc i) y is = get_map f xs i y is

someand_parts : {X : Type 0} (P : X → Type 0) (o : Option X) → IsSomeAnd o P → (x : X) × (o ≡ Some x) × P x
someand_parts P None h = absurd h
someand_parts P (Some x) h = (x, refl, h)

-- ---- parts with relocations

pub some_of : (relas : List MakeRela) (p : ℕ) → is_relocated relas p ≡ true → 0 < length (relas_of p relas)
some_of [] p is = absurd (cc)
some_of (r ∷ rs) p is = elim (cases_Bool (r.part == p)) [
  | inl here ↦ omega (arith, ap (λ b. length (cond b (r ∷ relas_of p rs) (relas_of p rs))) here)
  | inr other ↦ (
      let later : is_relocated rs p ≡ true = ap (λ b. b || is_relocated rs p) (sym other) ∙ is in
      omega (arith, ap (λ b. length (cond b (r ∷ relas_of p rs) (relas_of p rs))) other, some_of rs p later))
]

none_of : (relas : List MakeRela) (p : ℕ) → is_relocated relas p ≡ false → relas_of p relas ≡ []
none_of [] p is = refl
none_of (r ∷ rs) p is =
    let parts = or_parts (r.part == p) (is_relocated rs p) is in
    ap (λ b. cond b (r ∷ relas_of p rs) (relas_of p rs)) parts.0 ∙ none_of rs p parts.1

table_first : (t i : ℕ) (bs : List ℕ) (texts : List (List ℕ)) → 0 < length bs → relas_items t i (bs ∷ texts) ≡ table_item 4 bs t (i + 1) 12 ∷ relas_items t (i + 1) texts
table_first t i [] texts some = absurd (omega arith)
table_first t i (b ∷ bs) texts some = refl

table_skipped : (t i : ℕ) (bs : List ℕ) (texts : List (List ℕ)) → length bs ≡ 0 → relas_items t i (bs ∷ texts) ≡ relas_items t (i + 1) texts
table_skipped t i [] texts none = refl
table_skipped t i (b ∷ bs) texts none = absurd (omega arith)

-- the relocation section of part p
abbrev pub relas_item : ℕ → List MakeRela → ℕ → Item
relas_item t relas p = table_item 4 (relas_text relas p) t (p + 1) 12

relas_items_are : (t a n : ℕ) (relas : List MakeRela) → relas_items t a (map (relas_text relas) (range_with_len a n)) ≡ map (relas_item t relas) (filter (is_relocated relas) (range_with_len a n))
relas_items_are t a zero relas = refl
relas_items_are t a (suc n) relas =
    let texts = map (relas_text relas) (range_with_len (a + 1) n) in
    let rest = filter (is_relocated relas) (range_with_len (a + 1) n) in
    elim (cases_Bool (is_relocated relas a)) [
      | inl here ↦ table_first t a (relas_text relas a) texts (omega (arith, length-relas_text relas a, some_of relas a here))
          ∙ ap (λ xs. relas_item t relas a ∷ xs) (relas_items_are t (a + 1) n relas)
          ∙ ap (λ b. map (relas_item t relas) (cond b (a ∷ rest) rest)) (sym here)
      | inr other ↦ table_skipped t a (relas_text relas a) texts (omega (arith, length-relas_text relas a, ap length (none_of relas a other)))
          ∙ relas_items_are t (a + 1) n relas
          ∙ ap (λ b. map (relas_item t relas) (cond b (a ∷ rest) rest)) (sym other)
    ]

-- the sections behind the parts
abbrev pub behind : ℕ → List MakeSymbol → List MakeRela → List Item
behind n symbols relas = symtab_item n symbols ∷ strtab_item symbols ∷ map (relas_item (n + 1) relas) (relocated n relas)

pub all_are : (parts : List Part) (symbols : List MakeSymbol) (relas : List MakeRela) → all_items parts symbols relas ≡ map part_item parts ++ behind (length parts) symbols relas
unfolding all_items
all_are parts symbols relas =
    let n = length parts in
    ap (λ xs. map part_item parts ++ (symtab_item n symbols ∷ strtab_item symbols ∷ xs)) (relas_items_are (n + 1) 0 n relas)

-- a relocated part is one of them, and has SHF_ALLOC
pub relocated_below : (n : ℕ) (relas : List MakeRela) (k p : ℕ) → slice_get (relocated n relas) k ≡ Some p → p < n
relocated_below n relas k p is =
    at_all (λ q. q < n) (relocated n relas) k p (All-filter (is_relocated relas) (λ q. q < n) (range_with_len 0 n) (λ j d below.
    let within : j < n = omega (arith, length-range_with_len 0 n) in
    let at = get_or-range_with_len 0 n j d within in
    omega (arith, at))) is

pub relocated_has : (n : ℕ) (relas : List MakeRela) (k p : ℕ) → slice_get (relocated n relas) k ≡ Some p → is_relocated relas p ≡ true
relocated_has n relas k p is = at_all (λ q. is_relocated relas q ≡ true) (relocated n relas) k p (filter_passes (is_relocated relas) (range_with_len 0 n)) is

pub relocated_part : (parts : List Part) (symbols : List MakeSymbol) (relas : List MakeRela) → All (IsRela parts symbols) relas → (p : ℕ) → is_relocated relas p ≡ true → (q : Part) × (slice_get parts p ≡ Some q) × HasAlloc q
relocated_part parts symbols relas all p is =
    elim ((slice_get_cases (relas_of p relas) 0).1) [
      | inl found ↦ (
          let r : MakeRela = found.0 in
          let rela : IsRela parts symbols r = at_all (IsRela parts symbols) (relas_of p relas) 0 r (All-filter (λ (x : MakeRela). x.part == p) (IsRela parts symbols) relas all) found.2 in
          let same : r.part ≡ p = eqb-true r.part p (at_all (λ (x : MakeRela). x.part == p ≡ true) (relas_of p relas) 0 r (filter_passes (λ (x : MakeRela). x.part == p) relas) found.2) in
          someand_parts HasAlloc (slice_get parts p) (subst (λ i. IsSomeAnd (slice_get parts i) HasAlloc) same rela.part))
      | inr none ↦ absurd (omega (arith, none.0, some_of relas p is))
    ]

-- ---- what is given, all of it

pub record Fine (parts : List Part) (symbols : List MakeSymbol) (relas : List MakeRela) (entry : ℕ) : Type 0 where
  pub few_parts : length parts < 1000
  pub few_symbols : length symbols < 2 ^ 24
  pub few_relas : length relas < 2 ^ 24
  pub few_bytes : total parts symbols < 2 ^ 24
  pub each_part : All IsPart parts
  pub each_symbol : All HasPlainName symbols
  pub each_rela : All (IsRela parts symbols) relas
  pub fits : FitsAll parts symbols relas entry

part_fits : (p : Part) → FitsPart p → FitsSection (part_header p)
unfolding part_header header_of
part_fits p f = record { name = omega arith; kind = f.kind; flags = f.flags; addr = f.addr; offset = omega arith; size = f.size; link = omega arith; info = omega arith; addralign = omega arith; entsize = omega arith }

table_fits : (kind size link info entsize : ℕ) → kind < 2 ^ 32 → size < 2 ^ 32 → link < 2 ^ 32 → info < 2 ^ 32 → entsize < 2 ^ 32 → FitsSection (table_header kind size link info entsize)
unfolding table_header header_of
table_fits kind size link info entsize k z l i e =
    record { name = omega arith; kind = k; flags = omega arith; addr = omega arith; offset = omega arith; size = z; link = l; info = i; addralign = omega arith; entsize = e }

-- the relocations of one part are no more than all
relas_of_few : (p : ℕ) (relas : List MakeRela) → length (relas_of p relas) ≤ length relas
relas_of_few p [] = omega arith
relas_of_few p (r ∷ rs) = elim (cases_Bool (r.part == p)) [
  | inl here ↦ omega (arith, ap (λ b. length (cond b (r ∷ relas_of p rs) (relas_of p rs))) here, relas_of_few p rs)
  | inr other ↦ omega (arith, ap (λ b. length (cond b (r ∷ relas_of p rs) (relas_of p rs))) other, relas_of_few p rs)
]

behind_fits : (parts : List Part) (symbols : List MakeSymbol) (relas : List MakeRela) (entry : ℕ) → Fine parts symbols relas entry → (j : ℕ) (x : Item) → slice_get (behind (length parts) symbols relas) j ≡ Some x → FitsSection x.header
behind_fits parts symbols relas entry f zero x is =
    let same : symtab_item (length parts) symbols ≡ x = cc in
    subst (λ (z : Item). FitsSection z.header) same (table_fits 2 (length (symtab_text symbols)) (length parts + 2) 1 16 (omega arith) (omega (arith, length-symtab_text symbols, f.few_symbols)) (omega (arith, f.few_parts)) (omega arith) (omega arith))
behind_fits parts symbols relas entry f (suc zero) x is =
    let same : strtab_item symbols ≡ x = cc in
    subst (λ (z : Item). FitsSection z.header) same (table_fits 3 (length (strtab_text symbols)) 0 0 0 (omega arith) (omega (arith, length-strtab_text symbols, f.few_symbols, f.few_bytes)) (omega arith) (omega arith) (omega arith))
behind_fits parts symbols relas entry f (suc (suc k)) x is =
    let found = get_map (relas_item (length parts + 1) relas) (relocated (length parts) relas) k x is in
    let p = found.0 in
    subst (λ (z : Item). FitsSection z.header) found.2
    (table_fits 4 (length (relas_text relas p)) (length parts + 1) (p + 1) 12 (omega arith) (omega (arith, length-relas_text relas p, relas_of_few p relas, f.few_relas)) (omega (arith, f.few_parts)) (omega (arith, relocated_below (length parts) relas k p found.1, f.few_parts)) (omega arith))

all_fit : (parts : List Part) (symbols : List MakeSymbol) (relas : List MakeRela) (entry : ℕ) → Fine parts symbols relas entry → (i : ℕ) (x : Item) → slice_get (all_items parts symbols relas) i ≡ Some x → FitsSection x.header
all_fit parts symbols relas entry f i x is =
    elim (get_append (map part_item parts) (behind (length parts) symbols relas) i x (ap (λ xs. slice_get xs i) (sym (all_are parts symbols relas)) ∙ is)) [
      | inl part ↦ (
          let found = get_map part_item parts i x part in
          subst (λ (z : Item). FitsSection z.header) found.2 (part_fits found.0 (at_all FitsPart parts i found.0 f.fits.each_part found.1)))
      | inr later ↦ behind_fits parts symbols relas entry f later.0 x later.1
    ]

pub sound : (parts : List Part) (symbols : List MakeSymbol) (relas : List MakeRela) (entry : ℕ) → Fine parts symbols relas entry → IsSound entry (all_items parts symbols relas)
sound parts symbols relas entry f = record {
  entry_fits = f.fits.entry_fits;
  count = omega (arith, length-all_items parts symbols relas, f.few_parts);
  body = length-all_contents parts symbols relas f.few_bytes f.few_symbols f.few_relas;
  headers = all_fit parts symbols relas entry f;
}

-- ---- each section stands in its place

item_stands : (parts : List Part) (symbols : List MakeSymbol) (relas : List MakeRela) (entry : ℕ) → Fine parts symbols relas entry → (i : ℕ) (x : Item) → slice_get (map part_item parts ++ behind (length parts) symbols relas) i ≡ Some x
    → (k : ℕ) → suc i ≡ k → Stands (spelled parts symbols relas entry) k x
unfolding spelled
item_stands parts symbols relas entry f i x is k same =
    subst (λ j. Stands (file_of entry (all_items parts symbols relas)) j x) same
    (stands entry (all_items parts symbols relas) i x (sound parts symbols relas entry f) (ap (λ xs. slice_get xs i) (all_are parts symbols relas) ∙ is))

pub part_stands : (parts : List Part) (symbols : List MakeSymbol) (relas : List MakeRela) (entry : ℕ) → Fine parts symbols relas entry → (i : ℕ) (p : Part) → slice_get parts i ≡ Some p → Stands (spelled parts symbols relas entry) (i + 1) (part_item p)
part_stands parts symbols relas entry f i p is =
    item_stands parts symbols relas entry f i (part_item p) (get_left (map part_item parts) (behind (length parts) symbols relas) i (part_item p) (slice_get-map part_item parts i ∙ ap (λ (o : Option Part). elim o as (λ _. Option Item) [ None ↦ None | Some q ↦ Some (part_item q) ]) is)) (i + 1) (omega arith)

behind_stands : (parts : List Part) (symbols : List MakeSymbol) (relas : List MakeRela) (entry : ℕ) → Fine parts symbols relas entry → (j : ℕ) (x : Item) → slice_get (behind (length parts) symbols relas) j ≡ Some x
    → (k : ℕ) → suc (length parts + j) ≡ k → Stands (spelled parts symbols relas entry) k x
behind_stands parts symbols relas entry f j x is k same =
    item_stands parts symbols relas entry f (length parts + j) x (get_right (map part_item parts) (behind (length parts) symbols relas) (length parts) j (length-map parts part_item) ∙ is) k same

pub symtab_stands : (parts : List Part) (symbols : List MakeSymbol) (relas : List MakeRela) (entry : ℕ) → Fine parts symbols relas entry → Stands (spelled parts symbols relas entry) (length parts + 1) (symtab_item (length parts) symbols)
symtab_stands parts symbols relas entry f = behind_stands parts symbols relas entry f 0 (symtab_item (length parts) symbols) refl (length parts + 1) (omega arith)

pub strtab_stands : (parts : List Part) (symbols : List MakeSymbol) (relas : List MakeRela) (entry : ℕ) → Fine parts symbols relas entry → Stands (spelled parts symbols relas entry) (length parts + 2) (strtab_item symbols)
strtab_stands parts symbols relas entry f = behind_stands parts symbols relas entry f 1 (strtab_item symbols) refl (length parts + 2) (omega arith)

pub relas_stand : (parts : List Part) (symbols : List MakeSymbol) (relas : List MakeRela) (entry : ℕ) → Fine parts symbols relas entry → (k p : ℕ) → slice_get (relocated (length parts) relas) k ≡ Some p
    → Stands (spelled parts symbols relas entry) (length parts + 3 + k) (relas_item (length parts + 1) relas p)
relas_stand parts symbols relas entry f k p is =
    let n = length parts in
    behind_stands parts symbols relas entry f (suc (suc k)) (relas_item (n + 1) relas p)
    (slice_get-map (relas_item (n + 1) relas) (relocated n relas) k ∙ ap (λ (o : Option ℕ). elim o as (λ _. Option Item) [ None ↦ None | Some q ↦ Some (relas_item (n + 1) relas q) ]) is) (n + 3 + k) (omega arith)

-- what holds of section 0, of each part, of the two tables and of each relocation section holds of all
pub each_section : (parts : List Part) (relas : List MakeRela) (P : ℕ → Type 0) → P 0 → ((i : ℕ) (p : Part) → slice_get parts i ≡ Some p → P (i + 1)) → P (length parts + 1) → P (length parts + 2)
    → ((k p : ℕ) → slice_get (relocated (length parts) relas) k ≡ Some p → P (length parts + 3 + k)) → (k : ℕ) → k < length parts + 3 + length (relocated (length parts) relas) → P k
each_section parts relas P null part symtab strtab rela k below =
    let n = length parts in
    elim (cases_lt k 1) [
      | inl start ↦ subst P (let e : 0 ≡ k = omega arith in e) null
      | inr some ↦ (elim ((slice_get_cases parts (k - 1)).1) [
        | inl found ↦ subst P (let e : k - 1 + 1 ≡ k = omega arith in e) (part (k - 1) found.0 found.2)
        | inr past ↦ (elim (cases_lt k (n + 2)) [
          | inl first ↦ subst P (let e : n + 1 ≡ k = omega (arith, past.0) in e) symtab
          | inr second ↦ (elim (cases_lt k (n + 3)) [
            | inl names ↦ subst P (let e : n + 2 ≡ k = omega arith in e) strtab
            | inr more ↦ (elim ((slice_get_cases (relocated n relas) (k - (n + 3))).1) [
              | inl found ↦ subst P (let e : n + 3 + (k - (n + 3)) ≡ k = omega arith in e) (rela (k - (n + 3)) found.0 found.2)
              | inr past ↦ absurd (omega (arith, past.0))
            ])
          ])
        ])
      ])
    ]
