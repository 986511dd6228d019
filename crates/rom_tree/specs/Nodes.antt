-- The nodes of a tree, as an image has them, in the order of its walk: a folder's entries in the order of their making, and
-- behind each folder its own entries.
use Rattle.std.specs.Prelude.{ℕ, zero, suc, ◌+◌, true, List, [], ◌∷◌, ◌++◌, map, is_some}
use Rattle.mem_files.specs.declared.node.Node.{Node}
use Rattle.mem_files.specs.declared.node.Node.TheVariants as stored
use Rattle.mem_files.specs.Inodes.{Entry, Inodes, root, entries_of, kind_of, bytes_of, program_of, most_nodes}
use Rattle.romfs_image.specs.declared.node.RomKind.TheVariants.{Dir, File}
use Rattle.romfs_image.specs.Nodes.{RomValue}

-- an entry that the walk has still to take, and the number of its folder among the nodes, 0 for the root
pub record Waiting : Type 0 where
  pub parent : ℕ
  pub entry : Entry

abbrev pub waiting_in : (parent : ℕ) → List Entry → List Waiting
waiting_in parent entries = map (λ e. record { parent = parent; entry = e }) entries

-- a program is executable, and so is a folder
abbrev pub node_of : Inodes → Waiting → Node → RomValue
node_of ns w stored.Dir = record { parent = w.parent; name = w.entry.name; kind = Dir; bytes = []; exec = true }
node_of ns w stored.File = record { parent = w.parent; name = w.entry.name; kind = File; bytes = bytes_of ns w.entry.id; exec = is_some (program_of ns w.entry.id) }

abbrev pub node_in : Inodes → Waiting → RomValue
node_in ns w = node_of ns w (kind_of ns w.entry.id)

-- The walk from where it stands, at the node that gets this number: the next entry, what is in it if it is a folder, and
-- what was left.
abbrev pub walk : (steps : ℕ) → Inodes → (number : ℕ) → List Waiting → List RomValue
walk zero ns number left = []
walk (suc steps) ns number [] = []
walk (suc steps) ns number (w ∷ left) = node_in ns w ∷ walk steps ns (number + 1) (waiting_in number (entries_of ns w.entry.id) ++ left)

-- a tree has no more nodes than a machine may have
unfoldable pub tree_nodes : Inodes → List RomValue
tree_nodes ns = walk most_nodes ns 1 (waiting_in 0 (entries_of ns root))
