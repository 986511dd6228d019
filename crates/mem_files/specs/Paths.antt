-- Paths and what they lead to (POSIX.1-2017, 4.13 Pathname Resolution; Linux, path_resolution(7), include/uapi/linux/limits.h).
use Rattle.std.specs.Prelude.{ℕ, ◌==◌, Bool, not, ◌||◌, nat_lt, if◌then◌else◌, List, [], ◌∷◌, length, filter, codes, bytes_eq, Option, Some, None, Result, Ok, Err}
use Rattle.std.specs.List.{list_any}
use Rattle.byte_words.specs.Pieces.{pieces}
use Rattle.call_log.specs.declared.errno.Errno.{Errno}
use Rattle.call_log.specs.declared.errno.Errno.TheVariants.{Enoent, Enotdir, Enametoolong}
use Rattle.mem_files.specs.Inodes.{Entry, Content, file, folder, Inodes, root, inode_at, content_in}

abbrev pub slash : ℕ
slash = 47

-- the names of a path: what stands between its slashes and isn't empty
unfoldable pub names : List ℕ → List (List ℕ)
names path = filter (λ piece. not (length piece == 0)) (pieces slash path)

-- the most bytes of a path, without a zero at its end, and of a name
abbrev pub longest_path : ℕ
longest_path = 4095

abbrev pub longest_name : ℕ
longest_name = 255

unfoldable pub is_too_long : List ℕ → Bool
is_too_long path = nat_lt longest_path (length path) || list_any (λ name. nat_lt longest_name (length name)) (names path)

-- the number of the first entry with a name
abbrev pub named : List ℕ → List Entry → Option ℕ
named name [] = None
named name (e ∷ es) = if bytes_eq e.name name then Some e.id else named name es

-- where a walk along names stands: the number of the last name's node, if it is there, that name, and the folder in which
-- it was looked up. Before the first name it stands at the root, without a name
pub record Place : Type 0 where
  pub id : Option ℕ
  pub folder : ℕ
  pub name : List ℕ

abbrev pub start : Place
start = record { id = Some root; folder = root; name = [] }

-- `.` is the folder itself, and `..` the one that it stands in
abbrev pub found_in : ℕ → ℕ → List Entry → List ℕ → Option ℕ
found_in at parent entries name =
    if bytes_eq name (codes ".") then Some at else if bytes_eq name (codes "..") then Some parent else named name entries

-- a name is looked up in a folder alone
abbrev pub looked_up : ℕ → List ℕ → Content → Result Place Errno
looked_up at name (folder parent entries) = Ok (record { id = found_in at parent entries name; folder = at; name = name })
looked_up at name (file bytes) = Err Enotdir

-- one name further
abbrev pub next_place : Inodes → List ℕ → Option ℕ → Result Place Errno
next_place ns name None = Err Enoent
next_place ns name (Some at) = looked_up at name (content_in (inode_at ns at))

abbrev pub then_walked : Result Place Errno → (Place → Result Place Errno) → Result Place Errno
then_walked (Ok p) more = more p
then_walked (Err errno) more = Err errno

unfoldable pub walked : Inodes → List (List ℕ) → Place → Result Place Errno
walked ns [] p = Ok p
walked ns (name ∷ more) p = then_walked (next_place ns name p.id) (walked ns more)

-- every path begins at the root
unfoldable pub place_of : Inodes → List ℕ → Result Place Errno
place_of ns path =
    if is_too_long path then Err Enametoolong else if length path == 0 then Err Enoent else walked ns (names path) start

abbrev pub id_in : Result Place Errno → Result (Option ℕ) Errno
id_in (Ok p) = Ok p.id
id_in (Err errno) = Err errno

-- the number of what a path leads to; none where only the last name is missing
abbrev pub lookup : Inodes → List ℕ → Result (Option ℕ) Errno
lookup ns path = id_in (place_of ns path)
