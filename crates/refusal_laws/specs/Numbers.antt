-- Numbers of nodes, tables and pipes are given at boot and by calls that are noted, one a call at most. So a run doesn't use them up.
use Rattle.std.specs.Prelude.{◌≡◌, ℕ, ◌+◌, ◌≤◌, List, length, Ok}
use Rattle.call_log.specs.Notes.{most_calls}
use Rattle.fd_tables.specs.Files.{nothing_open}
use Rattle.quantum_sched.specs.declared.Quantum.{Quantum}
use Rattle.machine_world.specs.World.{Rest, World}
use Rattle.machine_world.specs.Ages.{kept_calls}
use Rattle.machine_world.specs.Event.{Trace, went, event}
use Rattle.machine_world.specs.Turns.{turn, turns}
use Rattle.machine_world.specs.Boot.{StartLine, boot}
use Rattle.machine_world.specs.Order.{most_tables}

-- as many numbers more were given as calls were noted, or fewer
pub record GivesNumbers (w now : World) : Type 0 where
  pub nodes : length now.rest.tree + kept_calls w.notes ≤ length w.rest.tree + kept_calls now.notes
  pub pipes : now.rest.files.next_pipe + kept_calls w.notes ≤ w.rest.files.next_pipe + kept_calls now.notes

abbrev pub EventsGiveNumbers : Type 0
EventsGiveNumbers = (w : World) (pid : ℕ) (now : World) (t : Trace) → event w pid ≡ went now t → GivesNumbers w now

abbrev pub TurnsGiveNumbers : Type 0
TurnsGiveNumbers = (count pid : ℕ) (w : World) → GivesNumbers w (turn count pid w).world

abbrev pub RunsGiveNumbers : Type 0
RunsGiveNumbers = (quanta : List Quantum) (w : World) → GivesNumbers w (turns quanta w).world

-- behind a boot no run gives more than the log keeps calls: numbers of nodes beside those of its tree, of tables, and of pipes
pub record IsFewNumbers (rest : Rest) (now : World) : Type 0 where
  pub nodes : length now.rest.tree ≤ length rest.tree + most_calls
  pub tables : length now.rest.files.tables ≤ most_tables + most_calls
  pub pipes : now.rest.files.next_pipe ≤ 1 + most_calls

abbrev pub RunsGiveFewNumbers : Type 0
RunsGiveFewNumbers =
    (rest : Rest) (starts : List StartLine) (w : World) (quanta : List Quantum) → rest.files ≡ nothing_open rest.files.stdin → length starts ≤ most_tables →
    boot rest starts ≡ Ok w → IsFewNumbers rest (turns quanta w).world
