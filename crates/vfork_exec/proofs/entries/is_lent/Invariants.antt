-- None so far stands still for it.
use Rattle.std.proofs.Common.{◌≡◌, false, take}
use Rattle.std.specs.List.{list_any}
use Rattle.vfork_exec.specs.Families.{is_lent_to}
use Rattle.vfork_exec.proofs.entries.is_lent.Given as goal

abbrev pub invariant-loop-entry : goal.invariant-loop-entry
invariant-loop-entry g l = list_any (λ e. is_lent_to l.child e.state) (take l.entry-index l.entries) ≡ false
