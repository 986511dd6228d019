-- The uses of regions behind a release.
use Rattle.std.proofs.Common.{◌≡◌, ◌≢◌, ℕ, ◌+◌, ◌-◌, ◌∙◌, inl, inr, List, [], ◌∷◌, refl, sym, ap, cond, Bool, true, false, arith}
use Rattle.std.specs.Prelude.{Option, Some, None, slice_get, count_by, ◌==◌}
use Rattle.std.proofs.lemmas.Option.{slice_get_within}
use Rattle.std.proofs.lemmas.Bool.{cases_eq}
use Rattle.std.proofs.lemmas.Bool.Decides.{nat_tests}
use Rattle.std.proofs.lemmas.List.Sums.{sum_by-cons}
use Rattle.nommu_regions.specs.declared.region.Region.{Region}
use Rattle.nommu_regions.specs.Regions.{with_uses}
use Rattle.nommu_regions.proofs.OneChanges.{get_set, get_other}
use Rattle.mmap_rules.specs.declared.mapping.Mapping.{Mapping}
use Rattle.mmap_rules.specs.Held.{released, LoseUses}

abbrev less : Region → ℕ → Region
less r n = record r { uses = r.uses - n }

abbrev dropped : List Region → ℕ → List Region
dropped rs first = with_uses rs first (λ uses. uses - 1)

dropped_at : (rs : List Region) (first : ℕ) (r : Region) → slice_get rs first ≡ Some r → slice_get (dropped rs first) first ≡ Some (less r 1)
dropped_at rs first r there = rw there (get_set rs first (less r 1) (slice_get_within rs first r there))

dropped_other : (rs : List Region) (first other : ℕ) (o : Option Region) → slice_get rs first ≡ o → other ≢ first → slice_get (dropped rs first) other ≡ slice_get rs other
dropped_other rs first other None is apart = rw is refl
dropped_other rs first other (Some r) is apart = rw is (get_other rs first other (less r 1) apart)

abbrev named : ℕ → List Mapping → ℕ
named first maps = count_by (λ m. m.first == first) maps

named_cons : (first : ℕ) (m : Mapping) (maps : List Mapping) (b : Bool) → (m.first == first) ≡ b → named first (m ∷ maps) ≡ cond b 1 0 + named first maps
named_cons first m maps b is = sum_by-cons (λ (m : Mapping). cond (m.first == first) 1 0) m maps ∙ ap (λ (t : Bool). cond t 1 0 + named first maps) is

pub lose_uses : (rs : List Region) (maps : List Mapping) → LoseUses rs maps (released rs maps)
lose_uses rs [] first r there = there ∙ ap (λ (n : ℕ). Some (record r { uses = n })) (let uses = r.uses in omega arith)
lose_uses rs (m ∷ maps) first r there = elim (cases_eq m.first first) [
  | inl same ↦
      let here : slice_get (dropped rs m.first) first ≡ Some (less r 1) = rw same (dropped_at rs first r there) in
      let count = named_cons first m maps true (grind (arith, nat_tests, same)) in
      lose_uses (dropped rs m.first) maps first (less r 1) here ∙ ap (λ (n : ℕ). Some (record r { uses = n })) (omega (arith, count))
  | inr apart ↦
      let here : slice_get (dropped rs m.first) first ≡ Some r = dropped_other rs m.first first (slice_get rs m.first) refl (λ e. apart (sym e)) ∙ there in
      let count = named_cons first m maps false (grind (arith, nat_tests, apart)) in
      lose_uses (dropped rs m.first) maps first r here ∙ ap (λ (n : ℕ). Some (record r { uses = n })) (omega (arith, count))
]
