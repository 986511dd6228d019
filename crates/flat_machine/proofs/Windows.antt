-- A mapping's own range may be used whole.
use Rattle.std.proofs.Common.{◌≡◌, ℕ, zero, suc, refl, ◌+◌, ◌<◌, ◌≤◌, ◌^◌, Bool, true, false, ◌&&◌, ◌||◌, List, [], ◌∷◌, arith, Option, Some, None}
use Rattle.std.specs.Prelude.{SomeIff, is_some, slice_get}
use Rattle.std.specs.List.{list_any}
use Rattle.std.proofs.lemmas.Bool.Decides.{nat_tests}
use Rattle.mmap_rules.specs.declared.mapping.Range.{Range}
use Rattle.mmap_rules.specs.declared.mapping.Mapping.{Mapping}
use Rattle.mmap_rules.specs.Space.{in_range, writable_in, may_use}
use Rattle.region_watch.proofs.Maps.{all_pass-each}
use Rattle.region_watch.proofs.Accesses.{range_of}

inside : (r : Range) (i : ℕ) (rest : Bool) → r.writes ≡ true → r.from ≤ i → i < r.from + r.size → ((r.writes && in_range r i) || rest) ≡ true
inside r i rest writes low high = grind (arith, nat_tests)

pub mapping_used : (maps : List Mapping) (i : ℕ) (m : Mapping) → slice_get maps i ≡ Some m → m.range.writes ≡ true → m.range.from + m.range.size < 2 ^ 32 →
    may_use (writable_in maps) m.range.from m.range.size ≡ true
unfolding writable_in
mapping_used maps i m is writes fits =
    range_of (writable_in maps) m.range.from m.range.size (omega arith)
    (all_pass-each (writable_in maps) m.range.from m.range.size (λ a low high. named maps i a is low high))
  where
    later : (first rest : Bool) → rest ≡ true → (first || rest) ≡ true
    later true rest is = refl
    later false rest is = is

    named : (ms : List Mapping) (k a : ℕ) → slice_get ms k ≡ Some m → m.range.from ≤ a → a < m.range.from + m.range.size → list_any (λ x. x.range.writes && in_range x.range a) ms ≡ true
    named [] k a is low high = absurd (let e : None ≡ Some m = is in cc)
    named (n ∷ ms) zero a is low high =
        let same : n ≡ m = let e : Some n ≡ Some m = is in cc in
        rw same (inside m.range a (list_any (λ x. x.range.writes && in_range x.range a) ms) writes low high)
    named (n ∷ ms) (suc k) a is low high = later (n.range.writes && in_range n.range a) (list_any (λ x. x.range.writes && in_range x.range a) ms) (named ms k a is low high)

pub fits_of : (n v : ℕ) (o : Option ℕ) → SomeIff o (n < 2 ^ 32) v → is_some o ≡ true → n < 2 ^ 32
fits_of n v None iff is = absurd cc
fits_of n v (Some x) iff is = iff.0
