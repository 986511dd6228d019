-- A mapping less in the table of a list of mappings, or one that is cut.
use Rattle.std.proofs.Common.{◌≡◌, ℕ, ◌+◌, ◌-◌, ◌<◌, inl, inr, true, cond, List, [], ◌++◌, take, drop, refl, sym, ap, subst, ◌∙◌, arith, append-nil, add-one}
use Rattle.std.specs.Prelude.{Some, slice_get, option_map, count_by}
use Rattle.std.specs.List.{remove}
use Rattle.std.proofs.lemmas.Bool.{cases_Bool, cases_lt, le-leb, lt-leb}
use Rattle.std.proofs.lemmas.Option.{none-some}
use Rattle.mmap_rules.specs.declared.mapping.Range.{Range}
use Rattle.mmap_rules.specs.declared.mapping.Mapping.{Mapping}
use Rattle.mmap_rules.specs.declared.page_owner.PageOwner.{PageOwner}
use Rattle.mmap_rules.specs.Owners.{IsTable, Says, meets, taken_out, free_page}
use Rattle.mmap_rules.proofs.Lists.{each_cut, counted_found, sum_cut}
use Rattle.mmap_rules.proofs.TableMore.{Was, was}

-- ---- the entry with one range less

uses_less : (r : Range) (page : ℕ) (o : PageOwner) → (taken_out r page o).uses ≡ o.uses - cond (meets r page) 1 0
unfolding taken_out
uses_less r page o =
    elim (cases_Bool (meets r page)) [
      | inr off ↦ rw off (omega arith)
      | inl on ↦ elim (cases_lt 1 o.uses) [
        | inl more ↦ rw (on, lt-leb o.uses 1 more) refl
        | inr last ↦ rw (on, le-leb o.uses 1 last) (omega arith)
      ]
    ]

says_less : (r : Range) (page : ℕ) (o : PageOwner) (n : Range) → 0 < (taken_out r page o).uses → Says o page n → Says (taken_out r page o) page n
unfolding taken_out
says_less r page o n some says =
    elim (cases_Bool (meets r page)) [
      | inr off ↦ rw off says
      | inl on ↦ elim (cases_lt 1 o.uses) [
        | inl more ↦ rw (on, lt-leb o.uses 1 more) says
        | inr last ↦ (let none = rw (on, le-leb o.uses 1 last) at some in absurd (omega (arith, none)))
      ]
    ]

none_less : (r : Range) (page : ℕ) (o : PageOwner) → (o.uses ≡ 0 → o ≡ free_page) → (taken_out r page o).uses ≡ 0 → taken_out r page o ≡ free_page
unfolding taken_out
none_less r page o free none =
    elim (cases_Bool (meets r page)) [
      | inr off ↦ (let unused = rw off at none in rw off (free unused))
      | inl on ↦ elim (cases_lt 1 o.uses) [
        | inl more ↦ (let some = rw (on, lt-leb o.uses 1 more) at none in absurd (omega (arith, some, more)))
        | inr last ↦ rw (on, le-leb o.uses 1 last) refl
      ]
    ]

-- ---- the table

-- each page that the mapping met is met either by the range that goes or by one of the parts that stay, and no other page is
abbrev pub Shares : Mapping → Range → List Mapping → Type 0
Shares m r left = (page : ℕ) → cond (meets m.range page) 1 0 ≡ cond (meets r page) 1 0 + count_by (λ n. meets n.range page) left

-- what an entry says of the mapping it says of the parts too
abbrev pub ReadAlike : Mapping → List Mapping → Type 0
ReadAlike m left = (page : ℕ) (o : PageOwner) → Says o page m.range → (j : ℕ) (n : Mapping) → slice_get left j ≡ Some n → meets n.range page ≡ true → Says o page n.range

pub table_cut : (table new : List PageOwner) (maps : List Mapping) (k : ℕ) (m : Mapping) (r : Range) (left : List Mapping) → IsTable table maps → slice_get maps k ≡ Some m
    → Shares m r left → ReadAlike m left
    → ((page : ℕ) → slice_get new page ≡ option_map (taken_out r page) (slice_get table page))
    → IsTable new (take k maps ++ left ++ drop (k + 1) maps)
table_cut table new maps k m r left is at_k shares alike each = record { counts = counts; says = says; none = none }
  where
    at : (page : ℕ) (o : PageOwner) → slice_get new page ≡ Some o → Was (taken_out r page) (slice_get table page) o
    at page o there = was (taken_out r page) (slice_get table page) o (slice_get new page) there (each page)

    counts : (page : ℕ) (o : PageOwner) → slice_get new page ≡ Some o → o.uses ≡ count_by (λ n. meets n.range page) (take k maps ++ left ++ drop (k + 1) maps)
    counts page o there =
        let w = at page o there in
        let uses : o.uses ≡ w.entry.uses - cond {A = ℕ} (meets r page) 1 0 = ap (λ (x : PageOwner). x.uses) w.same ∙ uses_less r page w.entry in
        let before = is.counts page w.entry w.there in
        let cut = sum_cut (λ (n : Mapping). cond {A = ℕ} (meets n.range page) 1 0) k maps left m at_k in
        let share = shares page in
        omega (arith, uses, before, cut, share)

    says : (page j : ℕ) (o : PageOwner) (n : Mapping) → slice_get new page ≡ Some o → slice_get (take k maps ++ left ++ drop (k + 1) maps) j ≡ Some n → meets n.range page ≡ true → Says o page n.range
    says page j o n there item meet =
        let w = at page o there in
        let Reads : Mapping → Type 0 = λ x. meets x.range page ≡ true → Says w.entry page x.range in
        let old : (i : ℕ) (x : Mapping) → slice_get maps i ≡ Some x → Reads x = λ i x got on. is.says page i w.entry x w.there got on in
        let part : (i : ℕ) (x : Mapping) → slice_get left i ≡ Some x → Reads x = λ i x got on.
        alike page w.entry (is.says page k w.entry m w.there at_k (met page i x got on)) i x got on in
        let some = counted_found (λ (y : Mapping). meets y.range page) (take k maps ++ left ++ drop (k + 1) maps) j n item meet in
        let count = counts page o there in
        let used : 0 < (taken_out r page w.entry).uses = subst (λ (x : PageOwner). 0 < x.uses) w.same (let u : 0 < o.uses = omega (arith, some, count) in u) in
        subst (λ (x : PageOwner). Says x page n.range) (sym w.same) (says_less r page w.entry n.range used (each_cut Reads k maps left old part j n item meet))
      where
        met : (page i : ℕ) (x : Mapping) → slice_get left i ≡ Some x → meets x.range page ≡ true → meets m.range page ≡ true
        met page i x got on =
            let some = counted_found (λ (y : Mapping). meets y.range page) left i x got on in
            let share = shares page in
            elim (cases_Bool (meets m.range page)) [
              | inl here ↦ here
              | inr off ↦ (let none = rw off at share in absurd (omega (arith, some, none)))
            ]

    none : (page : ℕ) (o : PageOwner) → slice_get new page ≡ Some o → o.uses ≡ 0 → o ≡ free_page
    none page o there unused =
        let w = at page o there in
        w.same ∙ none_less r page w.entry (is.none page w.entry w.there) (ap (λ (x : PageOwner). x.uses) (sym w.same) ∙ unused)

-- all of a mapping goes
pub table_without : (table new : List PageOwner) (maps : List Mapping) (k : ℕ) (m : Mapping) → IsTable table maps → slice_get maps k ≡ Some m
    → ((page : ℕ) → slice_get new page ≡ option_map (taken_out m.range page) (slice_get table page))
    → IsTable new (take k maps ++ [] ++ drop (k + 1) maps)
table_without table new maps k m is at_k each =
    table_cut table new maps k m m.range [] is at_k (λ page. omega arith) (λ page o says j n item. absurd (none-some n item)) each

-- the list without the mapping
pub is_dropped : {X : Type 0} (xs : List X) (k : ℕ) → take k xs ++ [] ++ drop (k + 1) xs ≡ take k xs ++ drop (k + 1) xs
is_dropped xs k = ap (λ ys. ys ++ drop (k + 1) xs) (append-nil (take k xs))

pub is_removed : {X : Type 0} (xs : List X) (k : ℕ) → take k xs ++ [] ++ drop (k + 1) xs ≡ remove xs k
is_removed xs k = is_dropped xs k ∙ ap (λ n. take k xs ++ drop n xs) (add-one k)

pub table_less : (table new : List PageOwner) (maps : List Mapping) (k : ℕ) (m : Mapping) → IsTable table maps → slice_get maps k ≡ Some m
    → ((page : ℕ) → slice_get new page ≡ option_map (taken_out m.range page) (slice_get table page))
    → IsTable new (remove maps k)
table_less table new maps k m is at_k each = subst (IsTable new) (is_removed maps k) (table_without table new maps k m is at_k each)

pub table_dropped : (table new : List PageOwner) (maps : List Mapping) (k : ℕ) (m : Mapping) → IsTable table maps → slice_get maps k ≡ Some m
    → ((page : ℕ) → slice_get new page ≡ option_map (taken_out m.range page) (slice_get table page))
    → IsTable new (take k maps ++ drop (k + 1) maps)
table_dropped table new maps k m is at_k each = subst (IsTable new) (is_dropped maps k) (table_without table new maps k m is at_k each)
