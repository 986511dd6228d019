use Rattle.std.proofs.Common.{◌≡◌, take, map}
use Rattle.romfs_image.specs.Reading.{node_of}
use Rattle.romfs_image.specs.Code.{found, node_value}
use Rattle.romfs_image.proofs.links.nodes_of.Given as goal

abbrev pub invariant-loop-entry : goal.invariant-loop-entry
invariant-loop-entry l = map node_value l.nodes.items ≡ map (node_of l.image) (found (take l.entry-index l.entries))
