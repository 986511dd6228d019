use Rattle.std.proofs.Common.{◌≡◌, take}
use Rattle.std.specs.List.{sum_by}
use Rattle.mmap_rules.specs.Held.{places_of}
use Rattle.mmap_rules.proofs.maps.places.Given as goal

-- the places of the mappings so far
abbrev pub invariant-loop-mapping : goal.invariant-loop-mapping
invariant-loop-mapping l = l.total ≡ sum_by places_of (take l.mapping-index l.maps)
