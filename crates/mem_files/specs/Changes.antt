-- What changes the nodes (Linux, mkdir(2), unlink(2), rmdir(2), write(2), truncate(2), in this project's profile).
use Rattle.std.specs.Prelude.{ℕ, ◌+◌, ◌-◌, ◌==◌, Bool, true, false, not, ◌&&◌, ◌||◌, nat_le, nat_lt, if◌then◌else◌, List, [], ◌∷◌, ◌++◌, length, replicate, filter, codes, bytes_eq, Option, Some, None, Result, Ok, Err, slice_get, slice_set}
use Rattle.byte_words.specs.Patches.{laid}
use Rattle.call_log.specs.declared.errno.Errno.{Errno}
use Rattle.call_log.specs.declared.errno.Errno.TheVariants.{Enoent, Eexist, Enotdir, Eisdir, Einval, Efbig, Enospc, Enotempty}
use Rattle.mem_files.specs.declared.node.Node.{Node}
use Rattle.mem_files.specs.declared.node.Node.TheVariants.{Dir, File}
use Rattle.mem_files.specs.Inodes.{Entry, Content, file, folder, Inode, Inodes, new_inode, bytes_in, kind_of, size_of, most_nodes, most_of_one, most_of_all, node_count, byte_count, raised}
use Rattle.mem_files.specs.Paths.{Place, place_of}

-- ---- one node

-- the node of a number becomes what f makes of it; where there is none nothing changes
abbrev pub with_change : (Inode → Option Inode) → Inodes → ℕ → Inodes
with_change f ns id = at_node (slice_get ns id)
  where
    at_node : Option (Option Inode) → Inodes
    at_node (Some (Some n)) = slice_set ns id (f n)
    at_node (Some None) = ns
    at_node None = ns

-- a node stays while a folder names it or an open file holds it
abbrev pub kept : Inode → Option Inode
kept n = if n.linked || nat_lt 0 n.holds then Some n else None

unfoldable pub held : Inodes → ℕ → Inodes
held ns id = with_change (λ n. Some (record n { holds = raised n.holds })) ns id

unfoldable pub let_go : Inodes → ℕ → Inodes
let_go ns id = with_change (λ n. kept (record n { holds = n.holds - 1 })) ns id

-- the bytes of a file become what f makes of them, and the change is counted; a folder stays
abbrev pub with_bytes : (List ℕ → List ℕ) → Inode → Inode
with_bytes f n = by_content n.content
  where
    by_content : Content → Inode
    by_content (file bytes) = record n { content = file (f bytes); change = raised n.change }
    by_content (folder parent entries) = n

-- the entries of a folder become what f makes of them; a file stays
abbrev pub with_entries : (List Entry → List Entry) → Inode → Inode
with_entries f n = by_content n.content
  where
    by_content : Content → Inode
    by_content (file bytes) = n
    by_content (folder parent entries) = record n { content = folder parent (f entries) }

-- ---- the bytes of a file

-- bytes from a position on; a gap before them is filled with zeros
abbrev pub overwritten : ℕ → List ℕ → List ℕ → List ℕ
overwritten at bytes old = laid (old ++ replicate (at - length old) 0) at bytes

-- where all of it passes the limits there is no space
abbrev pub or_no_space : Inodes → Result Inodes Errno
or_no_space ns = if nat_le (node_count ns) most_nodes && nat_le (byte_count ns) most_of_all then Ok ns else Err Enospc

-- nothing is written by a write of no bytes
unfoldable pub written : Inodes → ℕ → ℕ → List ℕ → Result Inodes Errno
written ns id at bytes =
    if length bytes == 0 then Ok ns
    else if nat_lt most_of_one (at + length bytes) then Err Efbig
    else or_no_space (with_change (λ n. Some (with_bytes (overwritten at bytes) n)) ns id)

unfoldable pub truncated : Inodes → ℕ → Inodes
truncated ns id = with_change (λ n. Some (with_bytes (λ bytes. []) n)) ns id

-- ---- names

-- a name behind the entries of a folder
abbrev pub with_entry : Inodes → ℕ → List ℕ → ℕ → Inodes
with_entry ns at name id = with_change (λ folder. Some (with_entries (λ entries. entries ++ record { name = name; id = id } ∷ []) folder)) ns at

-- a new node, which gets the next number, behind the entries of a folder
abbrev pub with_new : Inodes → ℕ → List ℕ → Inode → Inodes
with_new ns at name n = with_entry ns at name (length ns) ++ Some n ∷ []

-- a new node with this content, under the last name of a path
abbrev pub made_in : Inodes → Place → Content → Option ℕ → Result Inodes Errno
made_in ns p content program =
    if nat_lt most_of_one (length (bytes_in content)) then Err Efbig
    else or_no_space (with_new ns p.folder p.name (new_inode content program))

-- what a path leads to must not be there, and the folder in which it is made
abbrev pub made_at : (ℕ → Content) → Option ℕ → Inodes → Result Place Errno → Result Inodes Errno
made_at content program ns (Err errno) = Err errno
made_at content program ns (Ok p) = by_id p.id
  where
    by_id : Option ℕ → Result Inodes Errno
    by_id (Some id) = Err Eexist
    by_id None = made_in ns p (content p.folder) program

unfoldable pub with_folder : Inodes → List ℕ → Result Inodes Errno
with_folder ns path = made_at (λ parent. folder parent []) None ns (place_of ns path)

unfoldable pub with_file : Inodes → List ℕ → List ℕ → Option ℕ → Result Inodes Errno
with_file ns path bytes program = made_at (λ parent. file bytes) program ns (place_of ns path)

-- a name that a folder may have an entry of
abbrev pub may_be_entry : List ℕ → Bool
may_be_entry name = not (length name == 0) && not (bytes_eq name (codes ".")) && not (bytes_eq name (codes ".."))

-- a folder without the entry of a name
abbrev pub without_entry : Inodes → ℕ → List ℕ → Inodes
without_entry ns at name = with_change (λ folder. Some (with_entries (λ entries. filter (λ e. not (bytes_eq e.name name)) entries) folder)) ns at

-- no folder names a node any more, so that it goes where it isn't held
abbrev pub without_link : Inodes → ℕ → Inodes
without_link ns id = with_change (λ n. kept (record n { linked = false })) ns id

-- the name goes from its folder, and the node where it isn't held
abbrev pub unnamed : Inodes → Place → ℕ → Inodes
unnamed ns p id = without_link (without_entry ns p.folder p.name) id

-- why a node's name may not go: that of a folder goes only by `rmdir`, and only where it is empty; that of a file only by `unlink`
abbrev pub naming_fault : Bool → Node → ℕ → Option Errno
naming_fault false Dir size = Some Eisdir
naming_fault true Dir size = if size == 0 then None else Some Enotempty
naming_fault true File size = Some Enotdir
naming_fault false File size = None

abbrev pub unless_fault : {A : Type 0} → Option Errno → A → Result A Errno
unless_fault (Some errno) x = Err errno
unless_fault None x = Ok x

abbrev pub unnamed_at : Bool → Inodes → Result Place Errno → Result Inodes Errno
unnamed_at dir ns (Err errno) = Err errno
unnamed_at dir ns (Ok p) = if may_be_entry p.name then by_id p.id else Err Einval
  where
    by_id : Option ℕ → Result Inodes Errno
    by_id (Some id) = unless_fault (naming_fault dir (kind_of ns id) (size_of ns id)) (unnamed ns p id)
    by_id None = Err Enoent

unfoldable pub unlinked : Inodes → List ℕ → Bool → Result Inodes Errno
unlinked ns path dir = unnamed_at dir ns (place_of ns path)
