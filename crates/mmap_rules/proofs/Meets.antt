-- Which mappings of a space have bytes in a page, and how many they are.
use Rattle.std.proofs.Common.{◌≡◌, ℕ, suc, ◌-◌, ◌^◌, ◌<◌, ◌≤◌, inl, inr, Bool, true, false, List, [], ◌∷◌, refl, arith}
use Rattle.std.specs.Prelude.{Some, slice_get, ◌==◌, cond}
use Rattle.std.specs.List.{count_by}
use Rattle.std.proofs.lemmas.Bool.{cases_Bool, cases_lt, eq-eqb}
use Rattle.std.proofs.lemmas.Bool.Decides.{nat_tests}
use Rattle.std.proofs.lemmas.List.Sums.{sum_by-cons}
use Rattle.page_runs.specs.Pages.{in_run}
use Rattle.nommu_regions.specs.declared.region.Region.{Region}
use Rattle.nommu_regions.specs.Regions.{holds, AreRegions}
use Rattle.mmap_rules.specs.declared.mapping.Mapping.{Mapping}
use Rattle.mmap_rules.specs.Owners.{meets}
use Rattle.mmap_rules.specs.Held.{IsMapping, AreMappings}
use Rattle.mmap_rules.specs.MapState.{Names, NameRegions, AreFew}
use Rattle.mmap_rules.proofs.Lists.{found_counted}

-- ---- mappings that are counted

abbrev one_of : (Mapping → Bool) → Mapping → ℕ
one_of p m = cond (p m) 1 0

-- one test implies the other
pub count_more : (p q : Mapping → Bool) (maps : List Mapping) →
    ((j : ℕ) (m : Mapping) → slice_get maps j ≡ Some m → p m ≡ true → q m ≡ true) → count_by p maps ≤ count_by q maps
count_more p q [] each = omega arith
count_more p q (m ∷ maps) each =
    let rest = count_more p q maps (λ j n there. each (suc j) n there) in
    let front = sum_by-cons (one_of p) m maps in
    let back = sum_by-cons (one_of q) m maps in
    let less : one_of p m ≤ one_of q m = elim (cases_Bool (p m)) [
      | inl passes ↦ rw (passes, each 0 m refl passes) (omega arith)
      | inr fails ↦ rw fails (omega arith)
    ] in
    omega (arith, rest, front, back, less)

pub count_none : (p : Mapping → Bool) (maps : List Mapping) → ((j : ℕ) (m : Mapping) → slice_get maps j ≡ Some m → p m ≡ false) → count_by p maps ≡ 0
count_none p [] each = refl
count_none p (m ∷ maps) each =
    let rest = count_none p maps (λ j n there. each (suc j) n there) in
    let front = sum_by-cons (one_of p) m maps in
    let here : one_of p m ≡ 0 = rw (each 0 m refl) refl in
    omega (arith, rest, front, here)

-- ---- mappings and the regions that they name

pub meets_in : (pages page : ℕ) (m : Mapping) → IsMapping pages m → meets m.range page ≡ true → in_run m.first m.pages page ≡ true
meets_in pages page m is on =
    let from = is.from in
    let to = is.to in
    let above = is.shaped.above in
    grind (arith, nat_tests)

pub named_holds : (rs : List Region) (m : Mapping) (page : ℕ) → AreRegions rs → (names : Names rs m) → in_run m.first m.pages page ≡ true →
    holds names.region page ≡ true
named_holds rs m page are names within =
    let first = are.begins m.first names.region names.there names.live in
    let run = names.run in
    let live = names.live in
    grind (arith, nat_tests)

-- two mappings with bytes in one page name one region
pub one_region : (pages page : ℕ) (rs : List Region) (m n : Mapping) → AreRegions rs → IsMapping pages m → IsMapping pages n → Names rs m → Names rs n →
    meets m.range page ≡ true → meets n.range page ≡ true → m.first ≡ n.first
one_region pages page rs m n are is_m is_n names_m names_n on_m on_n =
    are.apart m.first n.first names_m.region names_n.region page names_m.there names_n.there
    (named_holds rs m page are names_m (meets_in pages page m is_m on_m)) (named_holds rs n page are names_n (meets_in pages page n is_n on_n))

-- as many as a region has uses, at most
pub few_meet : (pages page : ℕ) (rs : List Region) (maps : List Mapping) → AreRegions rs → AreMappings pages maps → NameRegions rs maps → AreFew rs →
    count_by (λ m. meets m.range page) maps < 2 ^ 32 - 1
few_meet pages page rs maps are mappings names few = elim (cases_lt 0 (count_by (λ (m : Mapping). meets m.range page) maps)) [
  | inl some ↦ (
      let one = found_counted (λ (m : Mapping). meets m.range page) maps some in
      let n = one.item in
      let named = names.each one.at n one.there in
      let less = count_more (λ (m : Mapping). meets m.range page) (λ (m : Mapping). m.first == n.first) maps (λ k m there on.
      eq-eqb m.first n.first (one_region pages page rs m n are (mappings k m there) (mappings one.at n one.there) (names.each k m there) named on one.passes)) in
      let most = names.counts n.first named.region named.there in
      let limit = few n.first named.region named.there in
      omega (arith, less, most, limit))
  | inr none ↦ omega arith
]
