-- Every event keeps the tree of names, and exact counts of what is open (POSIX.1-2017, 4.13 Pathname Resolution, close).
use Rattle.std.specs.Prelude.{◌≡◌, ℕ, ◌+◌, ◌≤◌, ◌^◌, List, length, Ok}
use Rattle.quantum_sched.specs.declared.Quantum.{Quantum}
use Rattle.mem_files.specs.Inodes.{Inodes}
use Rattle.mem_files.specs.Trees.{IsTree, AreNamedAndClosed}
use Rattle.fd_tables.specs.Files.{OpenFiles, nothing_open}
use Rattle.fd_tables.specs.Changes.{storage}
use Rattle.fd_tables.specs.Counts.{Counted}
use Rattle.call_log.specs.Notes.{most_calls}
use Rattle.machine_world.specs.World.{Rest, World}
use Rattle.machine_world.specs.Ages.{kept_calls}
use Rattle.machine_world.specs.Asks.{storage_of}
use Rattle.machine_world.specs.Event.{Trace, went, event}
use Rattle.machine_world.specs.Turns.{turn, turns}
use Rattle.machine_world.specs.Boot.{StartLine, boot}

-- the most tables at boot. Each other one has its kept call, and there are no more open files than descriptors in all tables, so that
-- numbers for open files don't run out
abbrev pub most_tables : ℕ
most_tables = 2 ^ 16

-- the nodes are a tree of names, and all counts are exact: an open file counts the descriptors that share it, and a node the
-- open files that hold it
pub record IsInOrder (w : World) : Type 0 where
  pub tree : IsTree w.rest.tree
  pub counts : Counted (storage_of w.rest)
  pub tables : length w.rest.files.tables ≤ most_tables + kept_calls w.notes
  pub calls : kept_calls w.notes ≤ most_calls

abbrev pub EventsKeepOrder : Type 0
EventsKeepOrder = (w : World) (pid : ℕ) (now : World) (t : Trace) → IsInOrder w → event w pid ≡ went now t → IsInOrder now

abbrev pub TurnsKeepOrder : Type 0
TurnsKeepOrder = (count pid : ℕ) (w : World) → IsInOrder w → IsInOrder (turn count pid w).world

abbrev pub RunsKeepOrder : Type 0
RunsKeepOrder = (quanta : List Quantum) (w : World) → IsInOrder w → IsInOrder (turns quanta w).world

-- ---- the opening world

-- a tree in which a folder names each node and none is held, nothing is open, and there are no tables
pub record IsFresh (rest : Rest) : Type 0 where
  pub tree : IsTree rest.tree
  pub closed : AreNamedAndClosed rest.tree
  pub files : rest.files ≡ nothing_open rest.files.stdin

abbrev pub BootsBeginInOrder : Type 0
BootsBeginInOrder = (rest : Rest) (starts : List StartLine) (w : World) → IsFresh rest → length starts ≤ most_tables → boot rest starts ≡ Ok w → IsInOrder w

-- ---- what is open, whatever the tree

-- how many descriptors share an open file, and which ends of a pipe are open, is counted exactly: there are nodes over which each
-- count is exact. The tree of the run needn't be these
pub record AreCounted (fs : OpenFiles) : Type 0 where
  pub nodes : Inodes
  pub counts : Counted (storage nodes fs)

pub record IsCounted (w : World) : Type 0 where
  pub counted : AreCounted w.rest.files
  pub tables : length w.rest.files.tables ≤ most_tables + kept_calls w.notes
  pub calls : kept_calls w.notes ≤ most_calls

abbrev pub EventsKeepCounted : Type 0
EventsKeepCounted = (w : World) (pid : ℕ) (now : World) (t : Trace) → IsCounted w → event w pid ≡ went now t → IsCounted now

abbrev pub TurnsKeepCounted : Type 0
TurnsKeepCounted = (count pid : ℕ) (w : World) → IsCounted w → IsCounted (turn count pid w).world

abbrev pub RunsKeepCounted : Type 0
RunsKeepCounted = (quanta : List Quantum) (w : World) → IsCounted w → IsCounted (turns quanta w).world

-- the opening world, before which nothing is open
abbrev pub BootsBeginCounted : Type 0
BootsBeginCounted =
    (rest : Rest) (starts : List StartLine) (w : World) → rest.files ≡ nothing_open rest.files.stdin → length starts ≤ most_tables →
    boot rest starts ≡ Ok w → IsCounted w
