-- What instructions of a process leave.
use Rattle.std.specs.Prelude.{◌≡◌, ◌≤◌, ℕ, List, length}
use Rattle.vfork_exec.specs.Procs.{CanRun}
use Rattle.region_watch.specs.declared.instructions.Progress.{Progress}
use Rattle.machine_world.specs.Courses.{Leads, Halts}
use Rattle.memory_world.specs.Courses.{LeadsIn}
use Rattle.region_watch.specs.declared.mode.Mode.{Mode}
use Rattle.kept_parts.specs.InMemory.{physical_of}
use Rattle.kept_parts.specs.Kept.{Kept}
use Rattle.kept_parts.specs.Stands.{About, later, world_of}
use Rattle.watch_points.specs.Points.{Found}
use Rattle.watch_points.specs.Watchers.{Watched}
use Rattle.flat_machine.specs.LeavesIn.{HaltsWithin}
use Rattle.flat_machine.specs.Hits.{turn_hits, turn_hits_in}
use Rattle.flat_machine.specs.HitsLeft.{HitsLead}

-- no more than so many; the process may still run; notes, files and the table of regions stay; and where none was carried out all stays
pub record AdvanceKeeps (pid count : ℕ) (old : Kept) (done : ℕ) (new : Kept) : Type 0 where
  pub ready : CanRun new.procs pid
  pub within : done ≤ count
  pub notes : new.notes ≡ old.notes
  pub files : new.files ≡ old.files
  pub regions : length new.regions ≡ length old.regions
  pub still : done ≡ 0 → new ≡ old

-- within the process's own bytes: they lead from one world of private spaces to the other, the process stands there at the step that ended
-- them, and the hits are those of as many events
pub record OwnSteps (watched : Watched) (pid count : ℕ) (old : Kept) (before : Found) (progress : Progress) (new : Kept) (after : Found) : Type 0 where
  pub leads : (a : About) → Leads pid (world_of a old) progress.done (world_of (later progress.done a) new)
  pub halts : (a : About) → Halts (world_of (later progress.done a) new) pid count progress.done progress.stop
  pub hits : (a : About) → HitsLead (turn_hits watched.point watched.spans pid) before after (world_of a old) progress.done (world_of (later progress.done a) new)

-- so in the one memory, of which this is reached
pub record MemorySteps (watched : Watched) (pid count : ℕ) (reach : Mode) (old : Kept) (before : Found) (progress : Progress) (new : Kept) (after : Found) : Type 0 where
  pub leads : (headers : List (List ℕ)) (a : About) → LeadsIn pid (physical_of headers a old) progress.done (physical_of headers (later progress.done a) new)
  pub halts : (headers : List (List ℕ)) (a : About) → HaltsWithin reach (physical_of headers (later progress.done a) new) pid count progress.done progress.stop
  pub hits : (headers : List (List ℕ)) (a : About) → HitsLead (turn_hits_in watched.point watched.spans pid) before after (physical_of headers a old) progress.done (physical_of headers (later progress.done a) new)
