-- The calls that look at descriptors and no path (Linux, dup(2), ioctl(2), close(2), pipe(2), lseek(2), getdents(2), in this
-- project's profile).
use Rattle.std.specs.Prelude.{ℕ, ◌+◌, ◌-◌, ◌*◌, ◌/◌, ◌^◌, ◌==◌, Bool, false, not, ◌||◌, nat_le, nat_lt, if◌then◌else◌, List, [], ◌∷◌, ◌++◌, length, drop, replicate, Option, Some, None}
use Rattle.byte_words.specs.ByteMap.{little_bytes}
use Rattle.call_log.specs.declared.errno.Errno.TheVariants.{Enotdir, Einval, Emfile, Enotty, Espipe}
use Rattle.call_log.specs.Notes.{GotRange}
use Rattle.mem_files.specs.declared.node.Node.{Node}
use Rattle.mem_files.specs.declared.node.Node.TheVariants.{Dir, File}
use Rattle.mem_files.specs.Inodes.{Entry, Inodes, kind_of, size_of, entries_of}
use Rattle.fd_tables.specs.declared.view.View.{View}
use Rattle.fd_tables.specs.declared.view.Target.{Target}
use Rattle.fd_tables.specs.declared.view.Target.TheVariants as target
use Rattle.fd_tables.specs.declared.pipe_view.Ends.{Ends}
use Rattle.fd_tables.specs.Files.{two_free}
use Rattle.fd_tables.specs.Changes.{closed, duplicated, replaced, moved, piped}
use Rattle.fd_tables.specs.Calls.{dup_number, dup3_fault, close_fault}
use Rattle.machine_world.specs.Asks.{Ask, arg, Row, gives, refuses, unless, with_ok, view_of, with_view, free_of, with_files, storage_of, with_storage}

-- the caller's table
abbrev pub table_of : Ask → ℕ
table_of a = a.process.table

-- dup(fd)
unfoldable pub dup_row : Ask → Row
dup_row a =
    with_ok a (dup_number (view_of a (arg a 0)) (free_of a))
    (λ free. gives a free [] (with_files a.rest (duplicated a.rest.files (table_of a) (arg a 0) free false)))

-- O_CLOEXEC is the one flag of dup3 and pipe2
abbrev pub close_on_exec : ℕ
close_on_exec = 0x80000

-- dup3(old, new, flags)
unfoldable pub dup3_row : Ask → Row
dup3_row a =
    if not (arg a 2 == 0 || arg a 2 == close_on_exec) then refuses a Einval
    else unless a (dup3_fault (view_of a (arg a 0)) (arg a 0) (arg a 1))
    (gives a (arg a 1) [] (with_storage a.rest (replaced (storage_of a.rest) (table_of a) (arg a 0) (arg a 1) (arg a 2 == close_on_exec))))

-- ioctl(fd): no descriptor is a terminal
unfoldable pub ioctl_row : Ask → Row
ioctl_row a = with_view a (view_of a (arg a 0)) (λ v. refuses a Enotty)

-- close(fd)
unfoldable pub close_row : Ask → Row
close_row a =
    unless a (close_fault (view_of a (arg a 0))) (gives a 0 [] (with_storage a.rest (closed (storage_of a.rest) (table_of a) (arg a 0))))

-- ---- pipe2(p, flags)

-- the descriptors of the reading end and the writing end
abbrev pub ends_bytes : Ends → List ℕ
ends_bytes ends = little_bytes 4 ends.read ++ little_bytes 4 ends.write

-- EMFILE where fewer than two descriptors are free
abbrev pub opens_pipe : Ask → (cloexec : Bool) → Option Ends → Row
opens_pipe a cloexec None = refuses a Emfile
opens_pipe a cloexec (Some ends) =
    gives a 0 (record { addr = arg a 0; bytes = ends_bytes ends } ∷ []) (with_files a.rest (piped a.rest.files (table_of a) ends cloexec))

unfoldable pub pipe2_row : Ask → Row
pipe2_row a =
    if not (arg a 1 == 0 || arg a 1 == close_on_exec) then refuses a Einval
    else opens_pipe a (arg a 1 == close_on_exec) (two_free a.rest.files (table_of a))

-- ---- llseek(fd, high, low, p, whence)

abbrev pub largest_position : ℕ
largest_position = 2 ^ 62

abbrev pub up_to_largest : ℕ → Option ℕ
up_to_largest at = if nat_le at largest_position then Some at else None

-- a position and an offset, which is a number of 64 bits with a sign; none where the sum is no position
abbrev pub position_from : ℕ → ℕ → Option ℕ
position_from base offset =
    if nat_lt offset (2 ^ 63) then up_to_largest (base + offset)
    else if nat_le (2 ^ 64 - offset) base then up_to_largest (base - (2 ^ 64 - offset))
    else None

-- whence 0, 1 and 2 count from the beginning, the position, and the size
abbrev pub base_of : Ask → View → ℕ → ℕ → ℕ
base_of a v node whence = if whence == 0 then 0 else if whence == 1 then v.at else size_of a.rest.tree node

abbrev pub sought : Ask → Option ℕ → Row
sought a None = refuses a Einval
sought a (Some at) =
    gives a 0 (record { addr = arg a 3; bytes = little_bytes 8 at } ∷ []) (with_files a.rest (moved a.rest.files (table_of a) (arg a 0) at))

abbrev pub seek_row : Ask → View → Target → Row
seek_row a v target.Console = refuses a Espipe
seek_row a v (target.Pipe id write) = refuses a Espipe
seek_row a v (target.Node node) =
    if nat_lt 2 (arg a 4) then refuses a Einval
    else sought a (position_from (base_of a v node (arg a 4)) (arg a 1 * 2 ^ 32 + arg a 2))

unfoldable pub llseek_row : Ask → Row
llseek_row a = with_view a (view_of a (arg a 0)) (λ v. seek_row a v v.target)

-- ---- getdents64(fd, p, n)

-- d_type: DT_DIR and DT_REG
abbrev pub type_of : Node → ℕ
type_of Dir = 4
type_of File = 8

-- struct linux_dirent64 with a name of so many bytes and its zero, filled to a multiple of eight bytes
abbrev pub record_len : ℕ → ℕ
record_len name = 8 * ((19 + name + 1 + 7) / 8)

-- d_ino, d_off, d_reclen, d_type, d_name: the record of an entry; the entry behind it has position `next`
unfoldable pub dirent : Inodes → ℕ → Entry → List ℕ
dirent nodes next e =
    little_bytes 8 e.id ++ little_bytes 8 next ++ little_bytes 2 (record_len (length e.name)) ++ (type_of (kind_of nodes e.id) ∷ [])
    ++ e.name ++ replicate (record_len (length e.name) - (19 + length e.name)) 0

-- records of entries, and how many they are
pub record Listing : Type 0 where
  pub bytes : List ℕ
  pub count : ℕ

abbrev pub with_record : List ℕ → Listing → Listing
with_record bytes l = record { bytes = bytes ++ l.bytes; count = l.count + 1 }

-- as many whole records of entries, from a position on, as fit into so many bytes
abbrev pub listing : Inodes → ℕ → ℕ → List Entry → Listing
listing nodes room at [] = record { bytes = []; count = 0 }
listing nodes room at (e ∷ es) =
    if nat_le (record_len (length e.name)) room then
    with_record (dirent nodes (at + 1) e) (listing nodes (room - record_len (length e.name)) (at + 1) es)
    else record { bytes = []; count = 0 }

-- bytes that are written, if there are any
abbrev pub got_at : ℕ → List ℕ → List GotRange
got_at addr [] = []
got_at addr (b ∷ bytes) = record { addr = addr; bytes = b ∷ bytes } ∷ []

abbrev pub listed : Ask → View → Listing → Row
listed a v l =
    gives a (length l.bytes) (got_at (arg a 1) l.bytes) (with_files a.rest (moved a.rest.files (table_of a) (arg a 0) (v.at + l.count)))

-- an entry is left, and its record is longer than the room
abbrev pub is_short : ℕ → List Entry → Bool
is_short room [] = false
is_short room (e ∷ es) = nat_lt room (record_len (length e.name))

abbrev pub list_row : Ask → View → List Entry → ℕ → Row
list_row a v left room = if is_short room left then refuses a Einval else listed a v (listing a.rest.tree room v.at left)

abbrev pub folder_row : Ask → View → ℕ → Node → Row
folder_row a v node File = refuses a Enotdir
folder_row a v node Dir = list_row a v (drop v.at (entries_of a.rest.tree node)) (arg a 2)

abbrev pub dents_row : Ask → View → Target → Row
dents_row a v target.Console = refuses a Enotdir
dents_row a v (target.Pipe id write) = refuses a Enotdir
dents_row a v (target.Node node) = folder_row a v node (kind_of a.rest.tree node)

unfoldable pub getdents_row : Ask → Row
getdents_row a = with_view a (view_of a (arg a 0)) (λ v. dents_row a v v.target)
