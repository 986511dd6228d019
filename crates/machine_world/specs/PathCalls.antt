-- The calls that take a path (Linux, open(2), mkdir(2), unlink(2), include/uapi/asm-generic/fcntl.h, in this project's profile).
use Rattle.std.specs.Prelude.{ℕ, ◌-◌, ◌%◌, ◌^◌, ◌==◌, Bool, true, false, not, ◌&&◌, ◌||◌, nat_lt, if◌then◌else◌, List, [], ◌∷◌, length, take_while, slice_index, Option, Some, None, is_some}
use Rattle.byte_words.specs.Search.{first}
use Rattle.call_log.specs.declared.errno.Errno.{Errno}
use Rattle.call_log.specs.declared.errno.Errno.TheVariants.{Enoent, Ebadf, Eacces, Eexist, Enotdir, Eisdir, Einval, Enametoolong}
use Rattle.call_log.specs.Flags.{has_flag}
use Rattle.mem_files.specs.declared.node.Node.{Node}
use Rattle.mem_files.specs.declared.node.Node.TheVariants.{Dir, File}
use Rattle.mem_files.specs.Inodes.{Inodes, kind_of, program_of}
use Rattle.mem_files.specs.Paths.{slash, is_too_long, lookup}
use Rattle.mem_files.specs.Changes.{truncated, with_folder, with_file, unlinked}
use Rattle.fd_tables.specs.declared.view.Way.{Way}
use Rattle.fd_tables.specs.Changes.{opened}
use Rattle.machine_world.specs.Asks.{Ask, arg, Row, gives, refuses, unless, with_ok, free_of, with_free, with_tree, with_storage}

-- ---- paths

-- the path that the call read, without its zero
unfoldable pub path_of : Ask → List ℕ
path_of a = take_while (λ b. not (b == 0)) a.sent

-- AT_FDCWD, -100
abbrev pub working_folder : ℕ
working_folder = 2 ^ 32 - 100

-- a path that begins at a folder's descriptor
abbrev pub is_relative : ℕ → List ℕ → Bool
is_relative folder path = not (slice_index path 0 == slash) && not (folder == working_folder)

-- what is wrong with a path before it is walked: no descriptor is a folder to begin at
abbrev pub path_fault : ℕ → List ℕ → Option Errno
path_fault folder path = first ((is_too_long path, Enametoolong) ∷ (is_relative folder path, Ebadf) ∷ [])

abbrev pub with_path : Ask → (List ℕ → Row) → Row
with_path a row = unless a (path_fault (arg a 0) (path_of a)) (row (path_of a))

-- ---- mkdirat(folder, path) and unlinkat(folder, path, flags)

abbrev pub changes_tree : Ask → Inodes → Row
changes_tree a nodes = gives a 0 [] (with_tree a.rest nodes)

unfoldable pub mkdirat_row : Ask → Row
mkdirat_row a = with_path a (λ path. with_ok a (with_folder a.rest.tree path) (changes_tree a))

-- AT_REMOVEDIR
abbrev pub remove_folder : ℕ
remove_folder = 0x200

unfoldable pub unlinkat_row : Ask → Row
unlinkat_row a =
    if not (arg a 2 == 0 || arg a 2 == remove_folder) then refuses a Einval
    else with_path a (λ path. with_ok a (unlinked a.rest.tree path (arg a 2 == remove_folder)) (changes_tree a))

-- ---- openat(folder, path, flags)

abbrev pub creates : ℕ → Bool
creates flags = has_flag flags 0x40

abbrev pub exclusive : ℕ → Bool
exclusive flags = has_flag flags 0x80

abbrev pub truncates : ℕ → Bool
truncates flags = has_flag flags 0x200

abbrev pub appends : ℕ → Bool
appends flags = has_flag flags 0x400

abbrev pub asks_folder : ℕ → Bool
asks_folder flags = has_flag flags 0x10000

-- the lowest two bits: 0 reads, 1 writes, 2 does both
abbrev pub access : ℕ → ℕ
access flags = flags % 4

abbrev pub writes : ℕ → Bool
writes flags = nat_lt 0 (access flags)

abbrev pub way_of : ℕ → Way
way_of flags = record {
  read = not (access flags == 1);
  write = writes flags;
  append = appends flags;
  cloexec = has_flag flags 0x80000;
}

-- a node opens as the lowest descriptor that is free
abbrev pub opens : Ask → ℕ → ℕ → Inodes → Row
opens a fd node nodes =
    gives a fd [] (with_storage a.rest (opened (record { nodes = nodes; files = a.rest.files }) a.process.table fd node (way_of (arg a 2))))

-- why a node that is there isn't opened
abbrev pub is_dir : Node → Bool
is_dir Dir = true
is_dir File = false

abbrev pub open_fault : Inodes → ℕ → ℕ → Option Errno
open_fault nodes node flags = first
    ((creates flags && exclusive flags, Eexist)
    ∷ (is_dir (kind_of nodes node) && (writes flags || creates flags), Eisdir)
    ∷ (not (is_dir (kind_of nodes node)) && asks_folder flags, Enotdir)
    ∷ (is_some (program_of nodes node) && writes flags, Eacces)
    ∷ [])

-- a file that is opened for writing may be emptied first
abbrev pub emptied : Inodes → ℕ → ℕ → Inodes
emptied nodes node flags = if truncates flags && writes flags then truncated nodes node else nodes

abbrev pub opens_old : Ask → ℕ → Row
opens_old a node =
    unless a (open_fault a.rest.tree node (arg a 2)) (with_free a (free_of a) (λ fd. opens a fd node (emptied a.rest.tree node (arg a 2))))

-- a new file has no bytes, and gets the next number
abbrev pub opens_new : Ask → List ℕ → Row
opens_new a path =
    if creates (arg a 2) then with_free a (free_of a) (λ fd. with_ok a (with_file a.rest.tree path [] None) (opens a fd (length a.rest.tree)))
    else refuses a Enoent

abbrev pub opens_found : Ask → List ℕ → Option ℕ → Row
opens_found a path (Some node) = opens_old a node
opens_found a path None = opens_new a path

unfoldable pub openat_row : Ask → Row
openat_row a =
    if access (arg a 2) == 3 || (creates (arg a 2) && asks_folder (arg a 2)) then refuses a Einval
    else with_path a (λ path. with_ok a (lookup a.rest.tree path) (opens_found a path))
