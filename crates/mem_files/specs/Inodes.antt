-- The files and folders of a machine, by number (POSIX.1-2017, 3.129 Directory, 3.164 File, 3.176 File Serial Number).
use Rattle.std.specs.Prelude.{ℕ, ◌+◌, ◌-◌, ◌^◌, ◌≤◌, Bool, true, min, List, [], ◌∷◌, length, count_by, Option, Some, None, is_some, slice_get}
use Rattle.std.specs.List.{sum_by}
use Rattle.mem_files.specs.declared.node.Node.{Node}
use Rattle.mem_files.specs.declared.node.Node.TheVariants.{Dir, File}

-- a name in a folder, and the number of the node that it names
pub record Entry : Type 0 where
  pub name : List ℕ
  pub id : ℕ

-- a file has bytes; a folder has the number of the folder that it stands in, and its entries in the order of their making
pub data Content : Type 0 where
  file : List ℕ → Content
  folder : ℕ → List Entry → Content

-- a node: how often its bytes were changed, the number of the program that it is, whether a folder names it, and by how many
-- open files it is held
pub record Inode : Type 0 where
  pub content : Content
  pub change : ℕ
  pub program : Option ℕ
  pub linked : Bool
  pub holds : ℕ

-- the node of number i stands at place i, and none where the node is gone. Number 0 is no node's, and the next node gets the
-- number behind the last place
abbrev pub Inodes : Type 0
Inodes = List (Option Inode)

-- the root, which stands in itself
abbrev pub root : ℕ
root = 1

abbrev pub new_inode : Content → Option ℕ → Inode
new_inode content program = record { content = content; change = 0; program = program; linked = true; holds = 0 }

-- the root alone
abbrev pub opening : Inodes
opening = None ∷ Some (new_inode (folder root []) None) ∷ []

-- ---- reading. Where there is no node, a number reads as that of an empty file

abbrev pub inode_at : Inodes → ℕ → Option Inode
inode_at ns id = found (slice_get ns id)
  where
    found : Option (Option Inode) → Option Inode
    found (Some node) = node
    found None = None

abbrev pub content_in : Option Inode → Content
content_in (Some n) = n.content
content_in None = file []

abbrev pub bytes_in : Content → List ℕ
bytes_in (file bytes) = bytes
bytes_in (folder parent entries) = []

abbrev pub entries_in : Content → List Entry
entries_in (file bytes) = []
entries_in (folder parent entries) = entries

abbrev pub kind_in : Content → Node
kind_in (file bytes) = File
kind_in (folder parent entries) = Dir

-- in bytes, and of a folder in entries
abbrev pub size_in : Content → ℕ
size_in (file bytes) = length bytes
size_in (folder parent entries) = length entries

abbrev pub bytes_of : Inodes → ℕ → List ℕ
bytes_of ns id = bytes_in (content_in (inode_at ns id))

abbrev pub entries_of : Inodes → ℕ → List Entry
entries_of ns id = entries_in (content_in (inode_at ns id))

abbrev pub kind_of : Inodes → ℕ → Node
kind_of ns id = kind_in (content_in (inode_at ns id))

abbrev pub size_of : Inodes → ℕ → ℕ
size_of ns id = size_in (content_in (inode_at ns id))

abbrev pub change_of : Inodes → ℕ → ℕ
change_of ns id = change_in (inode_at ns id)
  where
    change_in : Option Inode → ℕ
    change_in (Some n) = n.change
    change_in None = 0

abbrev pub program_of : Inodes → ℕ → Option ℕ
program_of ns id = program_in (inode_at ns id)
  where
    program_in : Option Inode → Option ℕ
    program_in (Some n) = n.program
    program_in None = None

-- ---- limits: of the nodes that are linked or open, with the root; of the bytes of one file; and of those of all

abbrev pub most_nodes : ℕ
most_nodes = 65536

abbrev pub most_of_one : ℕ
most_of_one = 16777216

abbrev pub most_of_all : ℕ
most_of_all = 67108864

abbrev pub node_count : Inodes → ℕ
node_count ns = count_by is_some ns

-- the bytes of a node, where there is one
abbrev pub bytes_at : Option Inode → ℕ
bytes_at node = length (bytes_in (content_in node))

abbrev pub byte_count : Inodes → ℕ
byte_count ns = sum_by bytes_at ns

pub record Fits (ns : Inodes) : Type 0 where
  pub nodes : node_count ns ≤ most_nodes
  pub bytes : byte_count ns ≤ most_of_all

-- a count that rises stands still at its type's end
abbrev pub raised : ℕ → ℕ
raised count = min (count + 1) (2 ^ 64 - 1)
