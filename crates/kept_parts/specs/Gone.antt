-- The parts without a process, and without a space.
use Rattle.std.specs.Prelude.{ℕ, Bool, if◌then◌else◌, None, slice_set}
use Rattle.call_log.specs.declared.how.How.{How}
use Rattle.fd_tables.specs.Changes.{Storage, storage, without_table}
use Rattle.mmap_rules.specs.Held.{Held, released}
use Rattle.vfork_exec.specs.declared.entry.Entry.{Entry}
use Rattle.vfork_exec.specs.Procs.{borrows, with_end}
use Rattle.kept_parts.specs.declared.task.Task.{Task}
use Rattle.kept_parts.specs.Kept.{Kept}

-- every mapping of a space gives up its use, and nothing stands at its number
abbrev pub without_space : Kept → ℕ → Held → Kept
without_space k number h = record k { regions = released k.regions h.maps; spaces = slice_set k.spaces number None }

-- the space that a process has left goes, unless another one lent it
abbrev pub space_left : Kept → (lent : Bool) → ℕ → Held → Kept
space_left k lent number h = if lent then k else without_space k number h

-- what was open through a table that is gone
abbrev pub closed_in : Kept → ℕ → Storage
closed_in k table = without_table (storage k.tree k.files) table

-- a process ends, and all its descriptors close
abbrev pub ended : Kept → Entry Task → How → Kept
ended k e how = record k {
  tree = (closed_in k e.value.table).nodes;
  files = (closed_in k e.value.table).files;
  procs = with_end k.procs e how;
}

-- and it leaves its space
abbrev pub gone : Kept → Entry Task → Held → How → Kept
gone k e h how = space_left (ended k e how) (borrows k.procs e.pid) e.value.space h
