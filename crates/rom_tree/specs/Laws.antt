-- A law of the walk, the contract of a public function.
use Rattle.std.specs.Prelude.{◌≡◌, ℕ, ◌+◌, ◌≤◌, length, count_by}
use Rattle.mem_files.specs.Inodes.{Inodes, most_nodes}
use Rattle.mem_files.specs.Trees.{linked_in, IsTree}
use Rattle.rom_tree.specs.Nodes.{tree_nodes}

-- how many nodes a folder names, and the root
abbrev pub named_count : Inodes → ℕ
named_count ns = count_by linked_in ns

-- the walk lists as many nodes as a tree has but the root: it ends by itself, and not for want of steps
abbrev pub ListsWholeTree : Type 0
ListsWholeTree = (ns : Inodes) → IsTree ns → named_count ns ≤ most_nodes → length (tree_nodes ns) + 1 ≡ named_count ns
