-- Those so far are changed, and the others aren't yet.
use Rattle.std.proofs.Common.{◌≡◌, ◌++◌, map, take, drop}
use Rattle.vfork_exec.specs.Procs.{behind}
use Rattle.vfork_exec.proofs.entries.leave.Given as goal

abbrev pub invariant-loop-entry : goal.invariant-loop-entry
invariant-loop-entry g l = l.entries ≡ map (behind l.pid l.parent) (take l.entry-index l.fn.entries) ++ drop l.entry-index l.fn.entries
