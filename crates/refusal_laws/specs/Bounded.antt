-- What holds of every world of a run, behind a stray store too: it says nothing of a byte. So no pid, no descriptor
-- and no address is an errno.
use Rattle.std.specs.Prelude.{◌≡◌, ◌+◌, ◌≤◌, false}
use Rattle.std.specs.List.{AllByRecursion}
use Rattle.nommu_regions.specs.declared.region.Source.{Source}
use Rattle.nommu_regions.specs.declared.region.Source.TheVariants.{Own, Copy}
use Rattle.mmap_rules.specs.declared.mapping.Mapping.{Mapping}
use Rattle.vfork_exec.specs.Keyed.{Falls}
use Rattle.flat_loader.specs.Alone.{most_pages}
use Rattle.machine_world.specs.World.{LiveSpace, World, pid_of}
use Rattle.machine_world.specs.Ages.{kept_calls}
use Rattle.machine_world.specs.Order.{IsCounted}
use Rattle.alone_laws.specs.Sound.{most_given}
use Rattle.refusal_laws.specs.Regular.{IsYounger, HasBreak}

-- a copy lies in memory, and isn't anonymous, so that no pages are cut out of it
abbrev pub IsPlaced : Mapping → Source → Type 0
IsPlaced m Own = Unit {0}
IsPlaced m (Copy file change first) = (m.first + m.pages ≤ most_pages) × (m.range.anonymous ≡ false)

-- the break and all copies of a space lie in memory
pub record IsWithin (s : LiveSpace) : Type 0 where
  pub break : HasBreak s
  pub copies : AllByRecursion (λ m. IsPlaced m m.source) s.space.maps

pub record IsBounded (w : World) : Type 0 where
  -- memory has 16,384 pages at most
  pub most : w.rest.pages ≤ most_pages
  -- pids are given once: some at boot, and each other one by a call that is noted
  pub pids : Falls pid_of w.next_pid w.procs
  pub given : w.next_pid ≤ most_given + kept_calls w.notes
  -- each process is younger than its parent
  pub parents : AllByRecursion IsYounger w.procs
  -- breaks and copies lie in memory
  pub spaces : AllByRecursion IsWithin w.spaces
  -- what is open is counted exactly, and no more calls are noted than the log keeps
  pub counted : IsCounted w
