-- The parts of a run.
use Rattle.std.specs.Prelude.{◌≡◌, ℕ, Bool, true, List, [], reverse, Option, Some, None}
use Rattle.bflt_format.specs.Values.{Values}
use Rattle.byte_words.specs.declared.access.Access.{Access}
use Rattle.call_log.specs.Notes.{Note}
use Rattle.memory_world.specs.Physical.{has_stray}
use Rattle.region_watch.specs.declared.mode.Mode.{Mode}
use Rattle.region_watch.specs.declared.mode.Mode.TheVariants.{Halt, GoOn}
use Rattle.kept_parts.specs.InMemory.{with_range}
use Rattle.kept_parts.specs.Kept.{Kept}
use Rattle.kept_parts.specs.Noted.{first_noted}

-- what is kept of all programs, the programs that an execve may run, what becomes of the run at its first stray access, and whether one
-- was noted
pub record RunParts : Type 0 where
  pub kept : Kept
  pub programs : List Values
  pub mode : Mode
  pub noted : Bool

-- the parts behind the note of a stray access of a process
abbrev pub noted_by : ℕ → Access → RunParts → RunParts
noted_by pid access p = record p { kept = with_range pid (Some access) p.kept; noted = true }

-- a stray access is marked as noted exactly where the notes have one, and no pipe is marked: who waits on one that changed was let go on
pub record AreTied (marked : Bool) (k : Kept) : Type 0 where
  pub noted : marked ≡ has_stray k.notes
  pub unmarked : k.files.changed ≡ []

-- the programs and the mode stay, and a stray access is marked as noted exactly where the notes have one
pub record KeepsRun (old new : RunParts) : Type 0 where
  pub programs : new.programs ≡ old.programs
  pub mode : new.mode ≡ old.mode
  pub noted : new.noted ≡ has_stray new.kept.notes

-- where a run has ended that ends at its first stray access, by its notes, which stand newest first
abbrev pub halted_at : Mode → List Note → Option Access
halted_at Halt notes = first_noted (reverse notes)
halted_at GoOn notes = None
