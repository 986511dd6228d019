-- Each process does what its own program, loaded at its place, does alone under the same replies.
use Rattle.std.specs.Prelude.{◌≡◌, ℕ, ◌≤◌, List, length, Ok}
use Rattle.quantum_sched.specs.declared.Quantum.{Quantum}
use Rattle.machine_world.specs.World.{Rest, World}
use Rattle.vfork_exec.specs.Procs.{most_entries}
use Rattle.machine_world.specs.Families.{MayRun}
use Rattle.machine_world.specs.Event.{Trace, went, event}
use Rattle.machine_world.specs.Turns.{turn, turns}
use Rattle.machine_world.specs.Ages.{AreChanged, most_at_boot}
use Rattle.machine_world.specs.Boot.{StartLine, empty_world, boot}
use Rattle.flat_loader.specs.Alone.{most_pages}
use Rattle.alone_laws.specs.Stays.{Stay, AreRight, collect, collect_all, stays_along, first_stays}
use Rattle.alone_laws.specs.Sound.{IsSound}

-- ---- what holds of every world

abbrev pub EventsKeepSound : Type 0
EventsKeepSound = (w : World) (pid : ℕ) (now : World) (t : Trace) → IsSound w → MayRun w pid → event w pid ≡ went now t → IsSound now

abbrev pub TurnsKeepSound : Type 0
TurnsKeepSound = (count pid : ℕ) (w : World) → IsSound w → MayRun w pid → IsSound (turn count pid w).world

abbrev pub RunsKeepSound : Type 0
RunsKeepSound = (quanta : List Quantum) (w : World) → IsSound w → IsSound (turns quanta w).world

-- a memory of some pages, whose files were changed seldom
pub record CanBoot (rest : Rest) : Type 0 where
  pub some : 1 ≤ rest.pages
  pub most : rest.pages ≤ most_pages
  pub changes : AreChanged most_at_boot rest.tree

abbrev pub BootsAreSound : Type 0
BootsAreSound = (rest : Rest) (starts : List StartLine) (w : World) → CanBoot rest → length starts ≤ most_entries → boot rest starts ≡ Ok w → IsSound w

-- ---- the stays

abbrev pub EventsKeepStays : Type 0
EventsKeepStays =
    (ys : List Stay) (w : World) (pid : ℕ) (now : World) (t : Trace) → IsSound w → MayRun w pid → AreRight ys w → event w pid ≡ went now t → AreRight (collect ys t) now

abbrev pub TurnsKeepStays : Type 0
TurnsKeepStays =
    (ys : List Stay) (count pid : ℕ) (w : World) → IsSound w → MayRun w pid → AreRight ys w → AreRight (collect_all ys (turn count pid w).traces) (turn count pid w).world

abbrev pub RunsKeepStays : Type 0
RunsKeepStays = (ys : List Stay) (quanta : List Quantum) (w : World) → IsSound w → AreRight ys w → AreRight (stays_along ys w quanta) (turns quanta w).world

abbrev pub BootsBeginStays : Type 0
BootsBeginStays =
    (rest : Rest) (starts : List StartLine) (w : World) → CanBoot rest → boot rest starts ≡ Ok w → AreRight (first_stays (empty_world rest) starts) w
