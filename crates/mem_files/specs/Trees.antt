-- What the nodes always keep: they are a tree of names (POSIX.1-2017, 3.129 Directory, 3.208 Link Count, 4.13 Pathname
-- Resolution).
use Rattle.std.specs.Prelude.{ℕ, ◌≡◌, ◌≢◌, ◌<◌, ◌≤◌, ◌==◌, Bool, true, false, not, ◌&&◌, if◌then◌else◌, List, [], count_by, bytes_eq, Option, Some, None, IfSome}
use Rattle.std.specs.List.{sum_by}
use Rattle.mem_files.specs.Inodes.{Entry, Content, file, folder, Inode, Inodes, root, inode_at, content_in, entries_in, entries_of}

abbrev pub linked_in : Option Inode → Bool
linked_in (Some n) = n.linked
linked_in None = false

-- a node is there, and a folder names it
abbrev pub is_named : Inodes → ℕ → Bool
is_named ns id = linked_in (inode_at ns id)

abbrev pub parent_in : Content → Option ℕ
parent_in (file bytes) = None
parent_in (folder parent entries) = Some parent

-- the folder that a folder stands in
abbrev pub parent_of : Inodes → ℕ → Option ℕ
parent_of ns id = parent_in (content_in (inode_at ns id))

-- ---- counting

-- how many of these entries lead to a node
abbrev pub leading : ℕ → List Entry → ℕ
leading id entries = count_by (λ e. e.id == id) entries

-- how many of them have a name
abbrev pub having : List ℕ → List Entry → ℕ
having name entries = count_by (λ e. bytes_eq e.name name) entries

abbrev pub links_in : ℕ → Option Inode → ℕ
links_in id node = leading id (entries_in (content_in node))

-- how many entries of all folders lead to a node
abbrev pub link_count : Inodes → ℕ → ℕ
link_count ns id = sum_by (links_in id) ns

-- ---- the tree

-- The root is a folder that stands in itself. One entry leads to each named node but the root, and none to any other number.
-- An entry leads to a higher number than its folder's, so that there is no loop. The entries of a folder have different names.
-- A node without a name has no entries. An entry of its parent leads to each named folder but the root, so that the parent
-- isn't empty, and can't be removed before it.
pub record IsTree (ns : Inodes) : Type 0 where
  pub root_named : is_named ns root ≡ true
  pub root_above : parent_of ns root ≡ Some root
  pub once : (id : ℕ) → link_count ns id ≡ (if is_named ns id && not (id == root) then 1 else 0)
  pub below : (id at : ℕ) → 1 ≤ leading id (entries_of ns at) → at < id
  pub apart : (at : ℕ) (name : List ℕ) → having name (entries_of ns at) ≤ 1
  pub empty : (id : ℕ) → is_named ns id ≡ false → entries_of ns id ≡ []
  pub above : (id parent : ℕ) → is_named ns id ≡ true → id ≢ root → parent_of ns id ≡ Some parent → 1 ≤ leading id (entries_of ns parent)

-- a folder names each node, and no open file holds one, as before the first is opened
abbrev pub AreNamedAndClosed : Inodes → Type 0
AreNamedAndClosed ns = (id : ℕ) → IfSome (inode_at ns id) (λ n. (n.linked ≡ true) × (n.holds ≡ 0))
