-- A file's bytes change only with its count of changes (Linux, stat(2), st_ctim; in this project's profile).
use Rattle.std.specs.Prelude.{◌≡◌, ℕ, ◌+◌, ◌-◌, ◌^◌, ◌<◌, ◌≤◌, List, map, sum, length, Some}
use Rattle.call_log.specs.Notes.{Note, calls_in}
use Rattle.mem_files.specs.Inodes.{Inode, Inodes, inode_at, bytes_in}
use Rattle.machine_world.specs.World.{World}
use Rattle.machine_world.specs.Event.{Trace, went, event}

-- the calls that were noted: each change has its own
abbrev pub kept_calls : List Note → ℕ
kept_calls notes = sum (map calls_in notes)

-- counts of changes are this low when a run begins
abbrev pub most_at_boot : ℕ
most_at_boot = 2 ^ 63

-- no node was changed more often than that
abbrev pub AreChanged : ℕ → Inodes → Type 0
AreChanged most nodes = (id : ℕ) (n : Inode) → inode_at nodes id ≡ Some n → n.change ≤ most

-- a node as it was and as it is: its count didn't fall, and under the same count it has the same bytes
pub record Ages (old new : Inode) : Type 0 where
  pub up : old.change ≤ new.change
  pub same : old.change ≡ new.change → bytes_in old.content ≡ bytes_in new.content

-- a node that is there and had its number before
pub record Aged (old : Inodes) (id : ℕ) (new : Inode) : Type 0 where
  pub was : Inode
  pub there : inode_at old id ≡ Some was
  pub ages : Ages was new

-- numbers are given once, and each node that had one was there, and ages
pub record Follows (old new : Inodes) : Type 0 where
  pub grows : length old ≤ length new
  pub nodes : (id : ℕ) (n : Inode) → id < length old → inode_at new id ≡ Some n → Aged old id n

-- a count can be raised until the end of its type
abbrev pub most_changes : ℕ
most_changes = 2 ^ 64 - 1

abbrev pub EventsAgeFiles : Type 0
EventsAgeFiles =
    (w : World) (pid : ℕ) (now : World) (t : Trace) (most : ℕ) → AreChanged most w.rest.tree → most < most_changes → event w pid ≡ went now t →
    Follows w.rest.tree now.rest.tree × AreChanged (most + 1) now.rest.tree
