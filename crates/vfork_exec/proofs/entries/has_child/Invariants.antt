-- None so far is one.
use Rattle.std.proofs.Common.{◌≡◌, false, take}
use Rattle.std.specs.List.{list_any}
use Rattle.vfork_exec.specs.Families.{is_child}
use Rattle.vfork_exec.proofs.entries.has_child.Given as goal

abbrev pub invariant-loop-entry : goal.invariant-loop-entry
invariant-loop-entry g l = list_any (λ e. is_child l.own l.who e.pid e.parent) (take l.entry-index l.entries) ≡ false
