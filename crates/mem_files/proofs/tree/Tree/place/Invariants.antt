-- What is left of the walk leads where the whole walk does.
use Rattle.std.proofs.Common.{◌≡◌, length}
use Rattle.mem_files.specs.Paths.{names, start, walked}
use Rattle.mem_files.specs.Walks.{place_value}
use Rattle.mem_files.proofs.tree.Tree.place.Given as goal

abbrev pub invariant-loop-name : goal.invariant-loop-name
invariant-loop-name l = walked l.self (names l.rest) (place_value l.place) ≡ walked l.self (names l.path) start

abbrev pub decreases-loop-name : goal.decreases-loop-name
decreases-loop-name l = length l.rest
