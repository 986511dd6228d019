-- The copy that a search finds.
use Rattle.std.proofs.Common.{◌≡◌, ℕ, ◌<◌, Bool, true, false, List, length, get_or, arith, refl, ◌∙◌, sym}
use Rattle.std.specs.Prelude.{Some, slice_get, nat_lt, ◌&&◌}
use Rattle.std.proofs.lemmas.Bool.Decides.{nat_tests}
use Rattle.std.proofs.lemmas.List.Quantifiers.{position-Some}
use Rattle.std.proofs.lemmas.Option.{same_Some, slice_get-get_or}
use Rattle.nommu_regions.specs.declared.region.Region.{Region}
use Rattle.nommu_regions.specs.declared.region.Source.TheVariants.{Own}
use Rattle.nommu_regions.specs.Regions.{IsLive, copy_covers, covers, copy_of}

-- a place that has a copy
found : (rs : List Region) (file change first pages id : ℕ) (d : Region) → Some id ≡ copy_of rs file change first pages →
    (id < length rs) × (covers file change first pages (get_or rs id d) ≡ true)
unfolding copy_of
found rs file change first pages id d is =
    let at = position-Some (covers file change first pages) rs id d (sym is) in
    (at.0, at.1)

left_of : (a b : Bool) → (a && b) ≡ true → a ≡ true
left_of true b both = refl
left_of false b both = both

live_of : (file change first pages : ℕ) (r : Region) → covers file change first pages r ≡ true → 0 < r.uses
live_of file change first pages r is =
    let live : nat_lt 0 r.uses ≡ true = left_of (nat_lt 0 r.uses) (copy_covers file change first pages r.source r.pages) is in
    grind (arith, nat_tests, live)

-- what stands at a place that isn't there
abbrev pub no_region : Region
no_region = record { first = 0; pages = 0; source = Own; uses = 0 }

pub copy_inside : (rs : List Region) (file change first pages id : ℕ) → Some id ≡ copy_of rs file change first pages → id < length rs
copy_inside rs file change first pages id is = let at = found rs file change first pages id no_region is in at.0

pub copy_lives : (rs now : List Region) (file change first pages id : ℕ) → rs ≡ now → Some id ≡ copy_of rs file change first pages → IsLive now id
copy_lives rs now file change first pages id same is =
    let at = found rs file change first pages id no_region is in
    rw (← same) (record {
      region = get_or rs id no_region;
      there = slice_get-get_or rs id no_region at.0;
      live = live_of file change first pages (get_or rs id no_region) at.1;
    })

pub copy_covers_them : (rs now : List Region) (file change first pages place : ℕ) → rs ≡ now → Some place ≡ copy_of rs file change first pages →
    (id : ℕ) (r : Region) → Some place ≡ Some id → slice_get now id ≡ Some r → covers file change first pages r ≡ true
copy_covers_them rs now file change first pages place same is id r one there =
    let here : place ≡ id = same_Some _ _ one in
    let at = found rs file change first pages place r is in
    let read : slice_get rs place ≡ Some r = rw (same, here) there in
    let region : get_or rs place r ≡ r = same_Some _ _ (sym (slice_get-get_or rs place r at.0) ∙ read) in
    rw region at at.1
