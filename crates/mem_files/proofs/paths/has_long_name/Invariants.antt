-- The names so far are short.
use Rattle.std.proofs.Common.{◌≡◌, length, nat_lt}
use Rattle.std.specs.List.{list_any}
use Rattle.mem_files.specs.Paths.{names, longest_name}
use Rattle.mem_files.proofs.paths.has_long_name.Given as goal

abbrev pub invariant-loop-name : goal.invariant-loop-name
invariant-loop-name l = list_any (λ name. nat_lt longest_name (length name)) (names l.rest) ≡ list_any (λ name. nat_lt longest_name (length name)) (names l.path)

abbrev pub decreases-loop-name : goal.decreases-loop-name
decreases-loop-name l = length l.rest
