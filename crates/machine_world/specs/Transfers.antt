-- The calls that move bytes (Linux, read(2), write(2), readv(2), pipe(7), in this project's profile).
use Rattle.std.specs.Prelude.{ℕ, ◌+◌, ◌-◌, ◌*◌, ◌==◌, Bool, not, ◌&&◌, ◌||◌, min, nat_le, nat_lt, if◌then◌else◌, List, [], ◌∷◌, ◌++◌, map, sum, length, take, drop}
use Rattle.std.specs.List.{range_with_len}
use Rattle.call_log.specs.declared.errno.Errno.TheVariants.{Ebadf, Eisdir, Einval, Epipe}
use Rattle.call_log.specs.Notes.{GotRange}
use Rattle.call_log.specs.Sent.{Span, most_moved, most_pieces, piece_at}
use Rattle.mem_files.specs.declared.node.Node.{Node}
use Rattle.mem_files.specs.declared.node.Node.TheVariants.{Dir, File}
use Rattle.mem_files.specs.Inodes.{kind_of, size_of, bytes_of}
use Rattle.mem_files.specs.Changes.{written}
use Rattle.fd_tables.specs.declared.view.View.{View}
use Rattle.fd_tables.specs.declared.view.Target.{Target}
use Rattle.fd_tables.specs.declared.view.Target.TheVariants.{Console, Node as a_node, Pipe}
use Rattle.fd_tables.specs.declared.pipe_view.PipeView.{PipeView}
use Rattle.fd_tables.specs.Files.{OpenFiles}
use Rattle.fd_tables.specs.Pipes.{most_held, pipe_view, pipe_bytes, pipe_taken, pipe_put}
use Rattle.fd_tables.specs.Changes.{moved, taken}
use Rattle.vfork_exec.specs.declared.family.State.TheVariants.{OnPipe}
use Rattle.machine_world.specs.Asks.{Ask, arg, Row, waits, gives, answers, refuses, with_ok, view_of, with_view, with_files}

-- ---- read and readv

-- bytes filled into ranges in order; none of them is empty
abbrev pub scattered : List ℕ → List Span → List GotRange
scattered bytes [] = []
scattered bytes (span ∷ spans) = part (take span.len bytes) (scattered (drop span.len bytes) spans)
  where
    part : List ℕ → List GotRange → List GotRange
    part [] rest = rest
    part (b ∷ front) rest = record { addr = span.addr; bytes = b ∷ front } ∷ rest

-- the room of ranges
abbrev pub room_of : List Span → ℕ
room_of spans = sum (map (λ span. span.len) spans)

-- so many bytes of what is left
abbrev pub moved_bytes : List Span → List ℕ → List ℕ
moved_bytes spans left = take (min (room_of spans) most_moved) left

abbrev pub read_reply : Ask → List Span → List ℕ → OpenFiles → Row
read_reply a spans bytes files = gives a (length bytes) (scattered bytes spans) (with_files a.rest files)

-- the console's input goes from its front
abbrev pub console_read : Ask → List Span → List ℕ → Row
console_read a spans bytes = read_reply a spans bytes (taken a.rest.files (length bytes))

abbrev pub file_read : Ask → View → List Span → List ℕ → Row
file_read a v spans bytes = read_reply a spans bytes (moved a.rest.files a.process.table (arg a 0) (v.at + length bytes))

abbrev pub node_read : Ask → View → List Span → ℕ → Node → Row
node_read a v spans node Dir = refuses a Eisdir
node_read a v spans node File = file_read a v spans (moved_bytes spans (drop v.at (bytes_of a.rest.tree node)))

-- a read with room waits where the pipe is empty and its writing end is open
abbrev pub read_waits : List Span → PipeView → Bool
read_waits spans v = nat_lt 0 (room_of spans) && (v.held == 0 && v.write_open)

-- the pipe's bytes go from its front
abbrev pub taken_read : Ask → ℕ → List Span → List ℕ → Row
taken_read a id spans bytes = read_reply a spans bytes (pipe_taken a.rest.files id (length bytes))

abbrev pub pipe_read : Ask → ℕ → List Span → Row
pipe_read a id spans =
    if read_waits spans (pipe_view a.rest.files id) then waits (OnPipe id)
    else taken_read a id spans (moved_bytes spans (pipe_bytes a.rest.files id))

abbrev pub target_read : Ask → View → List Span → Target → Row
target_read a v spans Console = console_read a spans (moved_bytes spans a.rest.files.stdin)
target_read a v spans (a_node node) = node_read a v spans node (kind_of a.rest.tree node)
target_read a v spans (Pipe id write) = pipe_read a id spans

abbrev pub read_into : Ask → List Span → Row
read_into a spans =
    with_view a (view_of a (arg a 0)) (λ v. if v.way.read then target_read a v spans v.target else refuses a Ebadf)

-- read(fd, p, n)
unfoldable pub read_row : Ask → Row
read_row a = read_into a (record { addr = arg a 1; len = arg a 2 } ∷ [])

-- readv(fd, v, c): the pieces are what the call read
unfoldable pub readv_row : Ask → Row
readv_row a =
    if nat_lt most_pieces (arg a 2) then refuses a Einval
    else read_into a (map (piece_at a.sent) (range_with_len 0 (arg a 2)))

-- ---- write and writev

-- with O_APPEND at the end, whatever the position
abbrev pub write_position : Ask → View → ℕ → ℕ
write_position a v node = if v.way.append then size_of a.rest.tree node else v.at

-- a write of no bytes leaves the position
abbrev pub after_write : Ask → ℕ → List ℕ → OpenFiles
after_write a at bytes =
    if length bytes == 0 then a.rest.files else moved a.rest.files a.process.table (arg a 0) (at + length bytes)

abbrev pub node_write : Ask → ℕ → ℕ → List ℕ → Row
node_write a node at bytes =
    with_ok a (written a.rest.tree node at bytes)
    (λ nodes. gives a (length bytes) [] (record a.rest { tree = nodes; files = after_write a at bytes }))

-- so many bytes are written whole, or none
abbrev pub most_whole : ℕ
most_whole = 4096

-- how many more bytes a pipe takes
abbrev pub pipe_room : PipeView → ℕ
pipe_room v = most_held - v.held

-- a write waits where it must be whole and has no room, and where there is no room at all
abbrev pub write_waits : ℕ → PipeView → Bool
write_waits count v = (nat_le count most_whole && nat_lt (pipe_room v) count) || pipe_room v == 0

-- as many as there is room for
abbrev pub put_write : Ask → ℕ → List ℕ → Row
put_write a id bytes = gives a (length bytes) [] (with_files a.rest (pipe_put a.rest.files id bytes))

-- no bytes change nothing; without a reading end it is EPIPE
abbrev pub pipe_write : Ask → ℕ → List ℕ → Row
pipe_write a id bytes =
    if length bytes == 0 then answers a 0
    else if not (pipe_view a.rest.files id).read_open then refuses a Epipe
    else if write_waits (length bytes) (pipe_view a.rest.files id) then waits (OnPipe id)
    else put_write a id (take (pipe_room (pipe_view a.rest.files id)) bytes)

-- the console takes all
abbrev pub target_write : Ask → View → List ℕ → Target → Row
target_write a v bytes Console = gives a (length bytes) [] (record a.rest { console = a.rest.console ++ bytes })
target_write a v bytes (a_node node) = node_write a node (write_position a v node) bytes
target_write a v bytes (Pipe id write) = pipe_write a id bytes

-- write(fd, p, n), with its data
unfoldable pub write_row : Ask → List ℕ → Row
write_row a bytes =
    with_view a (view_of a (arg a 0)) (λ v. if v.way.write then target_write a v bytes v.target else refuses a Ebadf)

-- writev(fd, v, c): the data stands behind the pieces, of eight bytes each
unfoldable pub writev_row : Ask → Row
writev_row a = if nat_lt most_pieces (arg a 2) then refuses a Einval else write_row a (drop (8 * arg a 2) a.sent)
