-- Pipes (POSIX.1-2017, pipe, read, write; Linux, pipe(7), in this project's profile).
use Rattle.std.specs.Prelude.{ℕ, ◌+◌, ◌==◌, Bool, true, false, not, ◌&&◌, nat_lt, if◌then◌else◌, List, [], ◌∷◌, ◌++◌, length, drop, Option, Some, None}
use Rattle.std.specs.List.{list_any}
use Rattle.vfork_exec.specs.Keyed.{find, change, without}
use Rattle.fd_tables.specs.declared.pipe_view.PipeView.{PipeView}
use Rattle.fd_tables.specs.Files.{Pipe, OpenFiles}

-- the most bytes that a pipe holds
abbrev pub most_held : ℕ
most_held = 65536

abbrev pub pipe_id : Pipe → ℕ
pipe_id p = p.id

-- the pipe with this number, while one of its ends is open
abbrev pub pipe_at : OpenFiles → ℕ → Option Pipe
pipe_at fs id = find pipe_id id fs.pipes

-- what a pipe shows; one that is gone holds nothing, and has no open end
abbrev pub shown_pipe : Option Pipe → PipeView
shown_pipe (Some p) = record { held = length p.bytes; read_open = p.read_open; write_open = p.write_open }
shown_pipe None = record { held = 0; read_open = false; write_open = false }

unfoldable pub pipe_view : OpenFiles → ℕ → PipeView
pipe_view fs id = shown_pipe (pipe_at fs id)

abbrev pub held_in : Option Pipe → List ℕ
held_in (Some p) = p.bytes
held_in None = []

-- its bytes, from the front
unfoldable pub pipe_bytes : OpenFiles → ℕ → List ℕ
pipe_bytes fs id = held_in (pipe_at fs id)

-- ---- marks

-- a number more, once, among numbers that rise
abbrev pub with_number : ℕ → List ℕ → List ℕ
with_number id [] = id ∷ []
with_number id (x ∷ xs) = if x == id then x ∷ xs else if nat_lt x id then x ∷ with_number id xs else id ∷ x ∷ xs

-- the bytes of this pipe changed, or one of its ends closed
abbrev pub marked : ℕ → OpenFiles → OpenFiles
marked id fs = record fs { changed = with_number id fs.changed }

abbrev pub is_marked : ℕ → OpenFiles → Bool
is_marked id fs = list_any (λ x. x == id) fs.changed

-- no pipe is marked
abbrev pub none_changed : OpenFiles → OpenFiles
none_changed fs = record fs { changed = [] }

-- ---- changes

-- one more, with both ends open, and no bytes
abbrev pub with_pipe : OpenFiles → OpenFiles
with_pipe fs = record fs {
  pipes = record { id = fs.next_pipe; bytes = []; read_open = true; write_open = true } ∷ fs.pipes;
  next_pipe = fs.next_pipe + 1;
}

-- a pipe that is there becomes what f makes of it, or goes, and is marked
abbrev pub changed_to : OpenFiles → ℕ → Option Pipe → List Pipe
changed_to fs id (Some p) = change pipe_id id (λ _. p) fs.pipes
changed_to fs id None = without pipe_id id fs.pipes

abbrev pub with_changed : (Pipe → Option Pipe) → OpenFiles → ℕ → Option Pipe → OpenFiles
with_changed f fs id (Some p) = marked id (record fs { pipes = changed_to fs id (f p) })
with_changed f fs id None = fs

-- so many bytes go from its front
unfoldable pub pipe_taken : OpenFiles → ℕ → ℕ → OpenFiles
pipe_taken fs id n = if n == 0 then fs else with_changed (λ p. Some (record p { bytes = drop n p.bytes })) fs id (pipe_at fs id)

-- bytes are appended
unfoldable pub pipe_put : OpenFiles → ℕ → List ℕ → OpenFiles
pipe_put fs id bytes = if length bytes == 0 then fs else with_changed (λ p. Some (record p { bytes = p.bytes ++ bytes })) fs id (pipe_at fs id)

-- one of its ends closes
abbrev pub with_closed : (write : Bool) → Pipe → Pipe
with_closed false p = record p { read_open = false }
with_closed true p = record p { write_open = false }

abbrev pub is_closed : Pipe → Bool
is_closed p = not p.read_open && not p.write_open

abbrev pub unless_closed : Pipe → Option Pipe
unless_closed p = if is_closed p then None else Some p

-- with both ends it goes
unfoldable pub without_end : OpenFiles → ℕ → (write : Bool) → OpenFiles
without_end fs id write = with_changed (λ p. unless_closed (with_closed write p)) fs id (pipe_at fs id)
