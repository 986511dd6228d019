-- Those so far are changed, and the others aren't yet.
use Rattle.std.proofs.Common.{◌≡◌, ◌++◌, map, take, drop}
use Rattle.vfork_exec.specs.Families.{resumed}
use Rattle.vfork_exec.specs.Procs.{with_state}
use Rattle.vfork_exec.proofs.entries.resume.Given as goal

abbrev pub invariant-loop-entry : goal.invariant-loop-entry
invariant-loop-entry g l = l.entries ≡ map (λ e. with_state e (resumed l.child e.state)) (take l.entry-index l.fn.entries) ++ drop l.entry-index l.fn.entries
