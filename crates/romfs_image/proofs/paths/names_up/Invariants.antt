-- What is left of the way, and the names that were taken.
use Rattle.std.proofs.Common.{◌≡◌, ◌-◌, ◌++◌, map}
use Rattle.romfs_image.specs.Code.{node_value}
use Rattle.romfs_image.specs.Paths.{names_to}
use Rattle.romfs_image.proofs.Ways.{taken}
use Rattle.romfs_image.proofs.paths.names_up.Given as goal

abbrev pub invariant-loop : goal.invariant-loop
invariant-loop l = names_to (l.number - l.counter) (map node_value l.nodes) l.at ++ taken l.names.items ≡ names_to l.number (map node_value l.nodes) l.number
