-- What a call that gives bytes makes of files and descriptors.
use Rattle.std.specs.Prelude.{◌≡◌, ◌≤◌, ℕ, length, Some, None, ⊤}
use Rattle.call_log.specs.Sent.{Span}
use Rattle.mem_files.specs.Inodes.{Inodes}
use Rattle.fd_tables.specs.Files.{OpenFiles, two_free}
use Rattle.fd_tables.specs.Pipes.{pipe_bytes}
use Rattle.machine_world.specs.Asks.{Ask, Row}
use Rattle.file_calls.specs.Calls.{MadeBy, WaitsOn, Gives}
use Rattle.file_calls.specs.declared.call.Call.{Call}
use Rattle.file_calls.specs.declared.piece.Piece.{Piece}
use Rattle.file_calls.specs.declared.outcome.Outcome.{Outcome}
use Rattle.file_calls.specs.declared.outcome.Then.{Then}
use Rattle.file_calls.specs.declared.outcome.Then.TheVariants.{Nothing, Move, Take, TakePipe, MakePipe}

-- a row is what was made of the call
abbrev pub GivesRow : (Ask → Row) → Call → Inodes → OpenFiles → Outcome → Type 0
GivesRow row call tree files o = (a : Ask) → MadeBy call a → a.rest.tree ≡ tree → a.rest.files ≡ files → Gives a (row a) o

-- of a call that doesn't wait
abbrev pub GivesUnlessWaits : (Ask → Row) → Call → Inodes → OpenFiles → Outcome → Type 0
GivesUnlessWaits row call tree files o =
    (a : Ask) → MadeBy call a → a.rest.tree ≡ tree → a.rest.files ≡ files → WaitsOn (row a) None → Gives a (row a) o

-- as many bytes of the console's input, or of the pipe, are there as go from it
abbrev pub CanTake : OpenFiles → Then → Type 0
CanTake files Nothing = ⊤
CanTake files (Move fd at) = ⊤
CanTake files (Take n) = n ≤ length files.stdin
CanTake files (TakePipe id n) = n ≤ length (pipe_bytes files id)
CanTake files (MakePipe ends cloexec) = ⊤

-- a pipe gets the two lowest descriptors that are free
abbrev pub HasEnds : OpenFiles → (table : ℕ) → Then → Type 0
HasEnds files table Nothing = ⊤
HasEnds files table (Move fd at) = ⊤
HasEnds files table (Take n) = ⊤
HasEnds files table (TakePipe id n) = ⊤
HasEnds files table (MakePipe ends cloexec) = two_free files table ≡ Some ends

-- at most a position changes
abbrev pub IsMove : Then → Type 0
IsMove Nothing = ⊤
IsMove (Move fd at) = ⊤
IsMove (Take n) = ⊥
IsMove (TakePipe id n) = ⊥
IsMove (MakePipe ends cloexec) = ⊥

abbrev pub span_of : Piece → Span
span_of piece = record { addr = piece.addr; len = piece.len }
