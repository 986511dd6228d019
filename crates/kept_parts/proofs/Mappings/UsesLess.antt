-- The regions where a mapping went: what each of them was, and that their uses are exact still.
use Rattle.std.proofs.Common.{◌≡◌, ℕ, zero, suc, ◌+◌, ◌-◌, ◌<◌, ◌≤◌, ◌⊎◌, inl, inr, Bool, cond, List, [], ◌∷◌, length, get_or, Option, Some, None, sym, ap, ◌∙◌, arith}
use Rattle.std.specs.Prelude.{slice_get, slice_set, ◌==◌}
use Rattle.std.proofs.lemmas.Bool.{cases_eq, eq-eqb, ne_eqb}
use Rattle.std.proofs.lemmas.Option.{same_Some, none-some, slice_get_within, slice_get-get_or}
use Rattle.nommu_regions.specs.declared.region.Region.{Region}
use Rattle.nommu_regions.specs.declared.region.Source.TheVariants.{Own}
use Rattle.mmap_rules.specs.declared.mapping.Mapping.{Mapping}
use Rattle.mmap_rules.specs.Held.{Held, released}
use Rattle.mmap_rules.specs.MapState.{NameRegions}
use Rattle.mmap_rules.proofs.NamesLess.{others, count_others}
use Rattle.kept_parts.specs.Kept.{Kept}
use Rattle.kept_parts.specs.Regular.{Regular, named_in, uses_in}
use Rattle.kept_parts.proofs.Common.UseCounts.{named_yes, named_no, counted}
use Rattle.kept_parts.proofs.Ends.RegularWithout.{length_released, released_at}
use Rattle.kept_parts.proofs.Common.SpacesApart.{is_used}

-- ---- the spaces

-- what one space has more or less counts
pub uses_set : (id : ℕ) (spaces : List (Option Held)) (i : ℕ) (h g : Held) → slice_get spaces i ≡ Some (Some h)
    → uses_in id (slice_set spaces i (Some g)) + named_in id h.maps ≡ uses_in id spaces + named_in id g.maps
uses_set id [] i h g is = absurd (none-some _ is)
uses_set id (None ∷ spaces) zero h g is = absurd (none-some h (same_Some _ _ is))
uses_set id (Some x ∷ spaces) zero h g is =
    let same = ap (λ (y : Held). named_in id y.maps) (same_Some _ _ (same_Some _ _ is)) in omega (arith, same)
uses_set id (None ∷ spaces) (suc i) h g is = uses_set id spaces i h g is
uses_set id (Some x ∷ spaces) (suc i) h g is = omega (arith, uses_set id spaces i h g is)

-- each mapping of a live space has its region
pub names_held : (k : Kept) → Regular k → (number : ℕ) (h : Held) → slice_get k.spaces number ≡ Some (Some h) → NameRegions k.regions h.maps
names_held k regular number h home = record {
  each = λ j m there.
      let n = regular.names number j h m home there in
      let live = is_used k regular number j h m n.region home there n.there in
      record {
        region = n.region;
        there = n.there;
        live = live;
        run = n.run;
        source = n.source;
        once = λ own. omega (arith, live, regular.one_use m.first n.region n.there own);
      };
  counts = λ id r there. omega (arith, regular.uses id r there, counted id k.spaces number h home);
}

-- ---- a region as it was

-- it has no more uses than it had, and the rest is the same
pub record Was (rs : List Region) (id : ℕ) (s : Region) : Type 0 where
  pub old : Region
  pub there : slice_get rs id ≡ Some old
  pub same : s ≡ record old { uses = s.uses }
  pub fewer : s.uses ≤ old.uses

-- or it is part of a run of its own
abbrev pub WasOrOwn : List Region → ℕ → Region → Type 0
WasOrOwn rs id s = Was rs id s ⊎ ((s.source ≡ Own) × (s.uses ≤ 1))

-- ---- a mapping went

-- the region that it names has one use less
record Less (rs : List Region) (m : Mapping) (id : ℕ) (s : Region) : Type 0 where
  old : Region
  there : slice_get rs id ≡ Some old
  is : s ≡ record old { uses = old.uses - named_in id (m ∷ []) }

less_at : (rs : List Region) (m : Mapping) (id : ℕ) (s : Region) → slice_get (released rs (m ∷ [])) id ≡ Some s → Less rs m id s
less_at rs m id s is =
    let inside : id < length rs = omega (arith, slice_get_within (released rs (m ∷ [])) id s is, length_released rs (m ∷ [])) in
    let r = get_or rs id s in
    let there = slice_get-get_or rs id s inside in
    record { old = r; there = there; is = same_Some _ _ (sym is ∙ released_at rs (m ∷ []) id r there) }

pub was_less : (rs : List Region) (m : Mapping) (id : ℕ) (s : Region) → slice_get (released rs (m ∷ [])) id ≡ Some s → Was rs id s
was_less rs m id s is =
    let w = less_at rs m id s is in
    let uses = ap (λ (q : Region). q.uses) w.is in
    record {
      old = w.old;
      there = w.there;
      same = w.is ∙ ap (λ (n : ℕ). record w.old { uses = n }) (sym uses);
      fewer = omega (arith, uses);
    }

-- one item of a list alone
named_one : (id : ℕ) (m : Mapping) → named_in id (m ∷ []) ≡ cond {A = ℕ} (m.first == id) 1 0
named_one id m = elim (cases_eq m.first id) [
  | inl same ↦ (let one = ap (λ (b : Bool). cond {A = ℕ} b 1 0) (eq-eqb m.first id same) in omega (arith, one, named_yes id m [] same))
  | inr other ↦ (let none = ap (λ (b : Bool). cond {A = ℕ} b 1 0) (ne_eqb m.first id other) in omega (arith, none, named_no id m [] other))
]

pub uses_less : (k : Kept) → Regular k → (number : ℕ) (h : Held) → slice_get k.spaces number ≡ Some (Some h)
    → (at : ℕ) (m : Mapping) → slice_get h.maps at ≡ Some m → (id : ℕ) (s : Region) → slice_get (released k.regions (m ∷ [])) id ≡ Some s
    → s.uses + named_in id h.maps ≡ uses_in id k.spaces + named_in id (others at h.maps)
uses_less k regular number h home at m there id s is =
    let w = less_at k.regions m id s is in
    let uses = ap (λ (q : Region). q.uses) w.is in
    let all = count_others h.maps at id m there in
    omega (arith, uses, regular.uses id w.old w.there, all, named_one id m, counted id k.spaces number h home)
