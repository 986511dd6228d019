-- What holds of the one memory of a run between its events, before its first stray access and behind it.
use Rattle.std.specs.Prelude.{◌≡◌, ℕ, ◌≤◌, List, length, Ok}
use Rattle.quantum_sched.specs.declared.Quantum.{Quantum}
use Rattle.fd_tables.specs.Files.{nothing_open}
use Rattle.vfork_exec.specs.Procs.{most_entries}
use Rattle.machine_world.specs.World.{Rest, World}
use Rattle.machine_world.specs.Boot.{StartLine, boot}
use Rattle.alone_laws.specs.Laws.{CanBoot}
use Rattle.refusal_laws.specs.Bounded.{IsBounded}
use Rattle.memory_world.specs.Physical.{Physical, event_in, turn_in, turns_in, opening_in}
use Rattle.memory_world.specs.After.{AfterIs}
use Rattle.memory_world.specs.Courses.{IsShown}
use Rattle.go_on_laws.specs.Marks.{HasNoMark}

pub record IsRegularIn (p : Physical) : Type 0 where
  -- every space has what memory has in its own ranges
  pub shown : IsShown p
  -- no pipe is marked as changed
  pub unmarked : HasNoMark p.world
  -- pids are few and given once, what is open is counted exactly, each process is younger than its parent, and breaks and copies lie in memory
  pub bounded : IsBounded p.world

-- whatever headers the programs have
abbrev pub BootsAreRegularIn : Type 0
BootsAreRegularIn =
    (rest : Rest) (starts : List StartLine) (w : World) (headers : List (List ℕ)) → CanBoot rest → rest.files ≡ nothing_open rest.files.stdin →
    length starts ≤ most_entries → boot rest starts ≡ Ok w → IsRegularIn (opening_in headers w)

abbrev pub EventsKeepRegularIn : Type 0
EventsKeepRegularIn = (p : Physical) (pid : ℕ) → IsRegularIn p → AfterIs IsRegularIn (event_in p pid)

abbrev pub TurnsKeepRegularIn : Type 0
TurnsKeepRegularIn = (count pid : ℕ) (p : Physical) → IsRegularIn p → IsRegularIn (turn_in count pid p).now

abbrev pub RunsKeepRegularIn : Type 0
RunsKeepRegularIn = (quanta : List Quantum) (p : Physical) → IsRegularIn p → IsRegularIn (turns_in quanta p).now
