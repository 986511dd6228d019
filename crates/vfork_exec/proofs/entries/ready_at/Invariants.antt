-- The one that is sought stands before the rest, of which as many may run as were counted.
use Rattle.std.proofs.Common.{◌≡◌, ◌+◌, ◌≤◌, length, drop}
use Rattle.std.specs.Prelude.{filter}
use Rattle.vfork_exec.specs.Families.{is_ready}
use Rattle.vfork_exec.proofs.entries.ready_at.Given as goal

abbrev pub invariant-loop-end : goal.invariant-loop-end
invariant-loop-end g l = record {
  within : l.end ≤ length l.entries;
  counted : l.before + length (filter (λ e. is_ready e.state) (drop l.end l.entries)) ≡ l.number;
}

abbrev pub decreases-loop-end : goal.decreases-loop-end
decreases-loop-end g l = l.end
