-- The mappings of a live space name live regions, and a region has room for one use more.
use Rattle.std.proofs.Common.{◌≡◌, ℕ, ◌+◌, ◌≤◌, arith}
use Rattle.std.specs.Prelude.{Some, slice_get}
use Rattle.mmap_rules.specs.Held.{Held}
use Rattle.mmap_rules.specs.MapState.{NameRegions, AreFew}
use Rattle.kept_parts.specs.Kept.{Kept}
use Rattle.kept_parts.specs.Regular.{Regular}
use Rattle.kept_parts.specs.Copies.{CopiesHold}
use Rattle.machine_world.specs.Ages.{kept_calls}
use Rattle.kept_parts.proofs.Common.UseCounts.{counted}
use Rattle.kept_parts.proofs.Common.SpacesApart.{is_used}

pub name_regions : (k : Kept) → Regular k → (number : ℕ) (h : Held) → slice_get k.spaces number ≡ Some (Some h) → NameRegions k.regions h.maps
name_regions k regular number h home = record {
  each = λ j m there.
      let names = regular.names number j h m home there in
      let live = is_used k regular number j h m names.region home there names.there in
      record {
        region = names.region;
        there = names.there;
        live = live;
        run = names.run;
        source = names.source;
        once = λ own. omega (arith, live, regular.one_use m.first names.region names.there own);
      };
  counts = λ id r there. omega (arith, regular.uses id r there, counted id k.spaces number h home);
}

pub few_uses : (k : Kept) → CopiesHold k.regions k.mem k.tree k.notes → kept_calls k.notes + 1 ≤ 1048576 → AreFew k.regions
few_uses k copies few id r there =
    let most = copies.uses id r there in
    omega (arith, most, few)
