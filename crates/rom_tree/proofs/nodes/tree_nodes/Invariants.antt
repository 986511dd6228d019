-- The nodes that were taken, and those that the walk goes on with.
use Rattle.std.proofs.Common.{◌≡◌, ◌+◌, ◌-◌, ◌++◌, map}
use Rattle.std.specs.List.{AllByRecursion}
use Rattle.mem_files.specs.Inodes.{root, entries_of, most_nodes}
use Rattle.romfs_image.specs.Code.{node_value}
use Rattle.rom_tree.specs.Nodes.{waiting_in, walk}
use Rattle.rom_tree.specs.Code.{waiting_list, IsOfBytes}
use Rattle.rom_tree.proofs.nodes.tree_nodes.Given as goal

abbrev pub invariant-loop-taken : goal.invariant-loop-taken
invariant-loop-taken l = record {
  rest : map node_value l.nodes.items ++ walk (most_nodes - l.taken) l.tree (l.taken + 1) (waiting_list l.waiting.items) ≡ walk most_nodes l.tree 1 (waiting_in 0 (entries_of l.tree root));
  bytes : AllByRecursion IsOfBytes (map node_value l.nodes.items);
}
