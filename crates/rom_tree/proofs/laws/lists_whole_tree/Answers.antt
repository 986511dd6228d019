use Rattle.mem_files.specs.Inodes.{most_nodes}
use Rattle.rom_tree.specs.Nodes.{tree_nodes}
use Rattle.rom_tree.proofs.Sizes as sizes
use Rattle.rom_tree.proofs.laws.lists_whole_tree.Goals as goal

pub returns : goal.returns
unfolding tree_nodes
returns c = λ ns tree fits. sizes.whole ns tree most_nodes fits
