-- What is left to wake gives what all gives, the log has nothing ready, and the table is of this memory.
use Rattle.std.proofs.Common.{◌≡◌, length}
use Rattle.kept_parts.specs.Inside.{kept_of}
use Rattle.kept_parts.specs.Awake.{awake_in}
use Rattle.kept_parts.specs.Reach.{whole_table}
use Rattle.kept_parts.proofs.kept.KeptParts.wake_changed.Given as goal

abbrev pub invariant-loop-pipe : goal.invariant-loop-pipe
invariant-loop-pipe l =
    (awake_in (kept_of l.self-inside) ≡ awake_in (kept_of l.initial.self-inside)) × (l.self-inside.log.spare ≡ 0) × (l.self-inside.whole ≡ whole_table (length l.self-inside.regions.regions))

abbrev pub decreases-loop-pipe : goal.decreases-loop-pipe
decreases-loop-pipe l = length l.self-inside.files.open_files.changed
