-- What is taken from the end of the copies stands behind the segments.
use Rattle.std.proofs.Common.{◌≡◌, ◌+◌, ◌≤◌, ◌++◌, map, reverse, vec_len, vec_capacity}
use Rattle.core_file.specs.Code.{segment_values}
use Rattle.core_parts.specs.Code.{copy_value}
use Rattle.core_parts.proofs.bytes.turned.Given as goal

abbrev pub invariant-loop-copy : goal.invariant-loop-copy
invariant-loop-copy l =
    (segment_values l.segments.items ++ reverse (map copy_value l.copies.items) ≡ reverse (map copy_value l.fn.copies.items))
    × (vec_len l.segments + vec_len l.copies ≤ vec_capacity l.segments)

abbrev pub decreases-loop-copy : goal.decreases-loop-copy
decreases-loop-copy l = vec_len l.copies
