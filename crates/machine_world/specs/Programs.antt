-- Programs that are flat files, and those that load notes name.
use Rattle.std.specs.Prelude.{◌≡◌, ℕ, List, [], ◌∷◌, length, Ok}
use Rattle.quantum_sched.specs.declared.Quantum.{Quantum}
use Rattle.call_log.specs.Notes.{Note}
use Rattle.call_log.specs.Programs.{IsProgramBelow}
use Rattle.bflt_format.specs.Values.{Values}
use Rattle.flat_loader.specs.Original.{flat_original}
use Rattle.machine_world.specs.World.{Program, Rest, World}
use Rattle.machine_world.specs.Turns.{turn, turns}
use Rattle.machine_world.specs.Boot.{StartLine, boot}

-- each program is the flat file of its path
abbrev pub programs_of : List (List ℕ) → List Values → List Program
programs_of (path ∷ paths) (flat ∷ flats) = record { path = path; original = flat_original flat } ∷ programs_of paths flats
programs_of paths flats = []

-- each load note names one of the first n programs
abbrev pub AreLoaded : ℕ → List Note → Type 0
AreLoaded n [] = Unit {0}
AreLoaded n (note ∷ notes) = IsProgramBelow n note × AreLoaded n notes

-- a world with n programs, of which all are that its load notes name
pub record LoadsPrograms (n : ℕ) (w : World) : Type 0 where
  pub count : length w.rest.programs ≡ n
  pub loaded : AreLoaded n w.notes

abbrev pub TurnsLoadPrograms : Type 0
TurnsLoadPrograms = (n count pid : ℕ) (w : World) → LoadsPrograms n w → LoadsPrograms n (turn count pid w).world

abbrev pub RunsLoadPrograms : Type 0
RunsLoadPrograms = (n : ℕ) (quanta : List Quantum) (w : World) → LoadsPrograms n w → LoadsPrograms n (turns quanta w).world

-- a boot loads programs that are there
abbrev pub BootsLoadPrograms : Type 0
BootsLoadPrograms = (rest : Rest) (starts : List StartLine) (w : World) → boot rest starts ≡ Ok w → LoadsPrograms (length rest.programs) w
