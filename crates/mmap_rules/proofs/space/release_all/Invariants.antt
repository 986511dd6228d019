use Rattle.std.proofs.Common.{◌≡◌, drop}
use Rattle.mmap_rules.specs.Held.{CanRelease, released}
use Rattle.mmap_rules.proofs.space.release_all.Given as goal

-- what is left to release leaves what all leaves
abbrev pub invariant-loop-mapping : goal.invariant-loop-mapping
invariant-loop-mapping l = record {
  can : CanRelease l.regions.regions (drop l.mapping-index l.maps);
  same : released l.regions.regions (drop l.mapping-index l.maps) ≡ released l.fn.regions.regions l.maps;
  ids : l.regions.starts ≡ l.fn.regions.starts;
}
