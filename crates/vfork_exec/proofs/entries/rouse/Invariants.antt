-- Those so far are changed, and the others aren't yet.
use Rattle.std.proofs.Common.{◌≡◌, ◌++◌, map, take, drop}
use Rattle.vfork_exec.specs.Families.{roused}
use Rattle.vfork_exec.specs.Procs.{with_state}
use Rattle.vfork_exec.proofs.entries.rouse.Given as goal

abbrev pub invariant-loop-entry : goal.invariant-loop-entry
invariant-loop-entry g l = l.entries ≡ map (λ e. with_state e (roused l.pipe e.state)) (take l.entry-index l.fn.entries) ++ drop l.entry-index l.fn.entries
