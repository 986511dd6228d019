-- The lines so far, and those of the nodes that are left.
use Rattle.std.proofs.Common.{◌≡◌, ◌+◌, ◌++◌, map, drop, string_bytes}
use Rattle.romfs_image.specs.Code.{node_value}
use Rattle.file_commands.specs.Texts.Images.{lines_from}
use Rattle.file_commands.proofs.texts.images.image_listing.Given as goal

abbrev pub invariant-loop-index : goal.invariant-loop-index
invariant-loop-index l =
    string_bytes l.text ++ lines_from (map node_value l.nodes) (l.index + 1) (map node_value (drop l.index l.nodes)) ≡ lines_from (map node_value l.nodes) 1 (map node_value l.nodes)
