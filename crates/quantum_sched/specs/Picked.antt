-- The process of a turn.
use Rattle.std.specs.Prelude.{ℕ, ◌%◌, List, reverse, length, slice_get, Option}

-- of the processes that may run, by their pids with the newest first: number k modulo their count, ascending by pid
unfoldable pub picked : ℕ → List ℕ → Option ℕ
picked k pids = slice_get (reverse pids) (k % length pids)
