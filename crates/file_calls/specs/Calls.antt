-- A call on files as the code has it, and what the code makes of it.
use Rattle.std.specs.Prelude.{◌≡◌, ℕ, ◌==◌, Bool, true, ◌||◌, List, [], map, Option, Some, None, Result, Ok, Err, ⊤}
use Rattle.std.specs.declared.alloc.AllocError.{AllocError}
use Rattle.call_log.specs.Notes.{GotRange}
use Rattle.call_log.specs.Values.{got_value}
use Rattle.call_log.specs.Numbers as numbers
use Rattle.mem_files.specs.Inodes.{Inodes}
use Rattle.fd_tables.specs.Files.{OpenFiles}
use Rattle.fd_tables.specs.Spare.{SpareFiles}
use Rattle.fd_tables.specs.Pipes.{pipe_taken}
use Rattle.fd_tables.specs.Changes.{moved, taken, piped}
use Rattle.machine_world.specs.World.{Rest}
use Rattle.vfork_exec.specs.declared.family.State.TheVariants.{OnPipe}
use Rattle.machine_world.specs.Asks.{Ask, Row, replies, waits, gives, with_files}
use Rattle.machine_world.specs.Rows.{row}
use Rattle.file_calls.specs.declared.call.Call.{Call}
use Rattle.file_calls.specs.declared.outcome.Outcome.{Outcome}
use Rattle.file_calls.specs.declared.outcome.Then.{Then}
use Rattle.file_calls.specs.declared.outcome.Then.TheVariants.{Nothing, Move, Take, TakePipe, MakePipe}

-- the same call, as the world has it
pub record MadeBy (call : Call) (a : Ask) : Type 0 where
  pub pid : a.process.pid ≡ call.pid
  pub parent : a.process.parent ≡ call.parent
  pub table : a.process.table ≡ call.table
  pub number : a.number ≡ call.number
  pub args : a.args ≡ call.args
  pub sent : a.sent ≡ call.sent.items

-- dup, dup3, mkdirat, unlinkat, openat, close, write and writev
abbrev pub is_change : ℕ → Bool
is_change number =
    number == numbers.dup || number == numbers.dup3 || number == numbers.mkdirat || number == numbers.unlinkat || number == numbers.openat || number == numbers.close || number == numbers.write || number == numbers.writev

abbrev pub IsChange : ℕ → Type 0
IsChange number = is_change number ≡ true

-- pipe2, getdents64, llseek, read and readv
abbrev pub is_output : ℕ → Bool
is_output number = number == numbers.pipe2 || number == numbers.getdents64 || number == numbers.llseek || number == numbers.read || number == numbers.readv

abbrev pub IsOutput : ℕ → Type 0
IsOutput number = is_output number ≡ true

-- ---- calls that wait on a pipe

-- a row is a wait on this pipe, or no wait
abbrev pub WaitsOn : Row → Option ℕ → Type 0
WaitsOn (replies r) None = ⊤
WaitsOn (replies r) (Some pipe) = ⊥
WaitsOn (waits state) None = ⊥
WaitsOn (waits state) (Some pipe) = state ≡ OnPipe pipe

-- a call that doesn't wait, whatever it asks
abbrev pub DoesNotWait : Call → OpenFiles → Type 0
DoesNotWait call files = (a : Ask) → MadeBy call a → a.rest.files ≡ files → WaitsOn (row a) None

-- the files and the console that the world has
pub record IsRest (rest : Rest) (nodes : Inodes) (kept : SpareFiles) (text : List ℕ) : Type 0 where
  pub tree : rest.tree ≡ nodes
  pub files : rest.files ≡ kept.open_files
  pub console : rest.console ≡ text

abbrev pub with_all : Rest → Inodes → OpenFiles → List ℕ → Rest
with_all rest tree files console = record rest { tree = tree; files = files; console = console }

-- a reply, and what is left of files and console; out of memory nothing changed
abbrev pub ChangesFiles : Ask → Row → Inodes → SpareFiles → List ℕ → Inodes → SpareFiles → List ℕ → Result ℕ AllocError → Type 0
ChangesFiles a row tree files console new_tree new_files new_console (Ok value) =
    row ≡ gives a value [] (with_all a.rest new_tree new_files.open_files new_console)
ChangesFiles a row tree files console new_tree new_files new_console (Err error) =
    (new_tree ≡ tree) × (new_files.open_files ≡ files.open_files) × (new_console ≡ console)

-- what is left where bytes were given
abbrev pub after : Then → ℕ → OpenFiles → OpenFiles
after Nothing table files = files
after (Move fd at) table files = moved files table fd at
after (Take n) table files = taken files n
after (TakePipe id n) table files = pipe_taken files id n
after (MakePipe ends cloexec) table files = piped files table ends cloexec

abbrev pub got_of : Outcome → List GotRange
got_of o = map got_value o.got.items

abbrev pub Gives : Ask → Row → Outcome → Type 0
Gives a row o = row ≡ gives a o.value (got_of o) (with_files a.rest (after o.then a.process.table a.rest.files))
