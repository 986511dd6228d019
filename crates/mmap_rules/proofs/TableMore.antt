-- A mapping more in the table of a list of mappings.
use Rattle.std.proofs.Common.{◌≡◌, ℕ, ◌+◌, ◌<◌, inl, inr, true, cond, List, [], ◌∷◌, ◌++◌, length, refl, sym, ap, subst, ◌∙◌, arith}
use Rattle.std.specs.Prelude.{Option, Some, None, slice_get, option_map, replicate, count_by}
use Rattle.std.proofs.lemmas.Bool.{cases_Bool, cases_eq, eq-eqb, ne_eqb}
use Rattle.std.proofs.lemmas.Option.{none-some, same_Some, slice_get_within, get_or_from_slice_get}
use Rattle.std.proofs.lemmas.List.{get_or-replicate, length-replicate}
use Rattle.std.proofs.lemmas.List.Sums.{sum_by_push}
use Rattle.mmap_rules.specs.declared.mapping.Range.{Range}
use Rattle.mmap_rules.specs.declared.mapping.Mapping.{Mapping}
use Rattle.mmap_rules.specs.declared.page_owner.PageOwner.{PageOwner}
use Rattle.mmap_rules.specs.Owners.{IsTable, Says, meets, entered, free_page}
use Rattle.mmap_rules.proofs.Lists.{each_one, each_append, counted_found}

-- ---- an entry that was changed

pub record Was (f : PageOwner → PageOwner) (old : Option PageOwner) (now : PageOwner) : Type 0 where
  pub entry : PageOwner
  pub there : old ≡ Some entry
  pub same : now ≡ f entry

pub was : (f : PageOwner → PageOwner) (old : Option PageOwner) (now : PageOwner) (o : Option PageOwner) → o ≡ Some now → o ≡ option_map f old → Was f old now
was f None now o is each = absurd (none-some now (sym each ∙ is))
was f (Some x) now o is each = record { entry = x; there = refl; same = same_Some now (f x) (sym is ∙ each) }

-- ---- the entry with one range more

pub uses_more : (r : Range) (page : ℕ) (o : PageOwner) → (entered r page o).uses ≡ o.uses + cond (meets r page) 1 0
unfolding entered
uses_more r page o =
    elim (cases_Bool (meets r page)) [
      | inr off ↦ rw off (omega arith)
      | inl on ↦ elim (cases_eq o.uses 0) [
        | inl none ↦ rw (on, eq-eqb o.uses 0 none) (omega arith)
        | inr some ↦ rw (on, ne_eqb o.uses 0 some) (omega arith)
      ]
    ]

-- what the entry says stays where it has a use
pub says_more : (r : Range) (page : ℕ) (o : PageOwner) (n : Range) → 0 < o.uses → Says o page n → Says (entered r page o) page n
unfolding entered
says_more r page o n some says =
    elim (cases_Bool (meets r page)) [
      | inr off ↦ rw off says
      | inl on ↦ rw (on, ne_eqb o.uses 0 (λ none. absurd (omega arith))) says
    ]

says_new : (r : Range) (page : ℕ) (o : PageOwner) → meets r page ≡ true → (0 < o.uses → Says o page r) → Says (entered r page o) page r
unfolding entered
says_new r page o on agrees =
    elim (cases_eq o.uses 0) [
      | inl none ↦ rw (on, eq-eqb o.uses 0 none) (refl, refl)
      | inr some ↦ (let says = agrees (omega arith) in rw (on, ne_eqb o.uses 0 some) says)
    ]

none_more : (r : Range) (page : ℕ) (o : PageOwner) → (o.uses ≡ 0 → o ≡ free_page) → (entered r page o).uses ≡ 0 → entered r page o ≡ free_page
unfolding entered
none_more r page o free none =
    let uses = sym (uses_more r page o) ∙ none in
    elim (cases_Bool (meets r page)) [
      | inr off ↦ (let same = rw off at uses in rw off (free (omega arith)))
      | inl on ↦ (let same = rw on at uses in absurd (omega arith))
    ]

-- ---- the table

pub table_more : (table new : List PageOwner) (maps : List Mapping) (m : Mapping) → IsTable table maps
    → ((page : ℕ) (o : PageOwner) → slice_get table page ≡ Some o → meets m.range page ≡ true → 0 < o.uses → Says o page m.range)
    → ((page : ℕ) → slice_get new page ≡ option_map (entered m.range page) (slice_get table page))
    → IsTable new (maps ++ m ∷ [])
table_more table new maps m is agrees each = record { counts = counts; says = says; none = none }
  where
    at : (page : ℕ) (o : PageOwner) → slice_get new page ≡ Some o → Was (entered m.range page) (slice_get table page) o
    at page o there = was (entered m.range page) (slice_get table page) o (slice_get new page) there (each page)

    counts : (page : ℕ) (o : PageOwner) → slice_get new page ≡ Some o → o.uses ≡ count_by (λ n. meets n.range page) (maps ++ m ∷ [])
    counts page o there =
        let w = at page o there in
        let uses : o.uses ≡ w.entry.uses + cond {A = ℕ} (meets m.range page) 1 0 = ap (λ (x : PageOwner). x.uses) w.same ∙ uses_more m.range page w.entry in
        let before = is.counts page w.entry w.there in
        let push = sum_by_push (λ (n : Mapping). cond {A = ℕ} (meets n.range page) 1 0) maps m in
        omega (arith, uses, before, push)

    says : (page j : ℕ) (o : PageOwner) (n : Mapping) → slice_get new page ≡ Some o → slice_get (maps ++ m ∷ []) j ≡ Some n → meets n.range page ≡ true → Says o page n.range
    says page j o n there item meet =
        let w = at page o there in
        let Reads : Mapping → Type 0 = λ x. meets x.range page ≡ true → Says (entered m.range page w.entry) page x.range in
        let old : (i : ℕ) (x : Mapping) → slice_get maps i ≡ Some x → Reads x = λ i x got on.
        let some = counted_found (λ (y : Mapping). meets y.range page) maps i x got on in
        let before = is.counts page w.entry w.there in
        says_more m.range page w.entry x.range (omega (arith, some, before)) (is.says page i w.entry x w.there got on) in
        let new : Reads m = λ on. says_new m.range page w.entry on (agrees page w.entry w.there on) in
        subst (λ (x : PageOwner). Says x page n.range) (sym w.same) (each_append Reads maps (m ∷ []) old (each_one Reads m new) j n item meet)

    none : (page : ℕ) (o : PageOwner) → slice_get new page ≡ Some o → o.uses ≡ 0 → o ≡ free_page
    none page o there unused =
        let w = at page o there in
        w.same ∙ none_more m.range page w.entry (is.none page w.entry w.there) (ap (λ (x : PageOwner). x.uses) (sym w.same) ∙ unused)

-- nothing is own without a mapping
pub table_none : (pages : ℕ) → IsTable (replicate pages free_page) []
table_none pages = record {
  counts = λ page o there. ap (λ (x : PageOwner). x.uses) (free page o there);
  says = λ page j o m there item meet. absurd (none-some m item);
  none = λ page o there unused. free page o there;
}
  where
    free : (page : ℕ) (o : PageOwner) → slice_get (replicate pages free_page) page ≡ Some o → o ≡ free_page
    free page o there =
        let within = slice_get_within (replicate pages free_page) page o there in
        sym (get_or_from_slice_get (replicate pages free_page) page o free_page there) ∙ get_or-replicate pages page free_page free_page (omega (arith, within, length-replicate pages free_page))

-- one mapping, entered where nothing was own
pub table_first : (table new : List PageOwner) (m : Mapping) → table ≡ replicate (length table) free_page
    → ((page : ℕ) → slice_get new page ≡ option_map (entered m.range page) (slice_get table page))
    → IsTable new (m ∷ [])
table_first table new m is each =
    let blank : IsTable table [] = subst (λ (t : List PageOwner). IsTable t []) (sym is) (table_none (length table)) in
    table_more table new [] m blank (λ page o there meet some. absurd (let none = blank.counts page o there in omega (arith, some, none))) each
