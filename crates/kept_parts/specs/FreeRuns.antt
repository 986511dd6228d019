-- The free runs that the regions leave.
use Rattle.std.specs.Prelude.{◌≡◌}
use Rattle.nommu_regions.specs.Regions.{free_of}
use Rattle.machine_world.specs.Free.{free}
use Rattle.kept_parts.specs.Kept.{Kept}
use Rattle.kept_parts.specs.Regular.{Regular}
use Rattle.kept_parts.specs.Stands.{About, world_of}

-- they are those of the world: the runs of pages that no mapping of a live space holds
abbrev pub RegionsLeaveFreeRuns : Type 0
RegionsLeaveFreeRuns = (a : About) (k : Kept) → Regular k → (free_of k.regions).runs ≡ free (world_of a k)
