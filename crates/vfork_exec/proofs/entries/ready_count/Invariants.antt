-- Those so far are counted.
use Rattle.std.proofs.Common.{◌≡◌, ◌≤◌, length, take}
use Rattle.std.specs.Prelude.{filter}
use Rattle.vfork_exec.specs.Families.{is_ready}
use Rattle.vfork_exec.proofs.entries.ready_count.Given as goal

abbrev pub invariant-loop-entry : goal.invariant-loop-entry
invariant-loop-entry g l = record {
  few : l.count ≤ l.entry-index;
  counted : l.count ≡ length (filter (λ e. is_ready e.state) (take l.entry-index l.entries));
}
