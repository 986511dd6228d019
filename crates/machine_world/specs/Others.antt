-- What an event leaves of all other processes, spaces and tables of descriptors.
use Rattle.std.specs.Prelude.{◌≡◌, ◌≢◌, ℕ, Option, Some, None, IsSome}
use Rattle.vfork_exec.specs.Keyed.{find}
use Rattle.fd_tables.specs.Files.{table_at}
use Rattle.machine_world.specs.World.{Process, World, pid_of, id_of}
use Rattle.machine_world.specs.Event.{Trace, went, event}

-- a process that keeps its registers, its space and its table of descriptors. Its parent may have ended, and it may go on that stood
-- still or waited
pub record KeepsOwn (old new : Process) : Type 0 where
  pub regs : new.regs ≡ old.regs
  pub space : new.space ≡ old.space
  pub table : new.table ≡ old.table

abbrev pub IsKept : (old new : Option Process) → Type 0
IsKept None None = Unit {0}
IsKept (Some old) (Some new) = KeepsOwn old new
IsKept None (Some new) = ⊥
IsKept (Some old) None = ⊥

-- every process but this one, every space but this one, with all its bytes, and every table of descriptors but this one is as
-- before; what is new has a new number. Of open files, which tables share, this says nothing
pub record LeavesOthers (pid space table : ℕ) (old new : World) : Type 0 where
  pub procs : (other : ℕ) → other ≢ pid → other ≢ old.next_pid → IsKept (find pid_of other old.procs) (find pid_of other new.procs)
  pub spaces : (other : ℕ) → other ≢ space → other ≢ old.loads → find id_of other new.spaces ≡ find id_of other old.spaces
  pub tables : (other : ℕ) → other ≢ table → IsSome (table_at old.rest.files other) → table_at new.rest.files other ≡ table_at old.rest.files other

-- an event is of a process that is there, in its space, and leaves all others as they were
abbrev pub EventsLeaveOthers : Type 0
EventsLeaveOthers =
    (w : World) (pid : ℕ) (now : World) (t : Trace) → event w pid ≡ went now t →
    (p : Process) × (find pid_of pid w.procs ≡ Some p) × (t.space ≡ p.space) × LeavesOthers pid p.space p.table w now
