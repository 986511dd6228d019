-- A system call as it is made, and what it is answered.
use Rattle.std.specs.Prelude.{ℕ, Bool, false, List, [], slice_index, Option, Some, None, Result, Ok, Err}
use Rattle.call_log.specs.declared.errno.Errno.{Errno}
use Rattle.call_log.specs.declared.errno.Errno.TheVariants.{Ebadf, Emfile}
use Rattle.call_log.specs.Errno.{refusal}
use Rattle.call_log.specs.Notes.{GotRange}
use Rattle.mmap_rules.specs.Space.{Space}
use Rattle.mem_files.specs.Inodes.{Inodes}
use Rattle.fd_tables.specs.declared.view.View.{View}
use Rattle.fd_tables.specs.Files.{OpenFiles, view, lowest_free}
use Rattle.fd_tables.specs.Changes.{Storage}
use Rattle.vfork_exec.specs.declared.family.State.{State}
use Rattle.machine_world.specs.World.{Process, LiveSpace, Rest}

-- by whom, with which number and arguments, in which space and beside which others, and the bytes that it read
pub record Ask : Type 0 where
  pub process : Process
  pub space : Space
  pub spaces : List LiveSpace
  pub rest : Rest
  pub number : ℕ
  pub args : List ℕ
  pub sent : List ℕ

abbrev pub arg : Ask → ℕ → ℕ
arg a i = slice_index a.args i

-- a reply, what is left outside of the caller's space, what is left of the space, the bytes that are written into it then, and
-- whether the turn ends; or a wait in this state
pub record Reply : Type 0 where
  pub value : ℕ
  pub got : List GotRange
  pub rest : Rest
  pub space : Space
  pub over : Bool

pub data Row : Type 0 where
  replies : Reply → Row
  waits : State → Row

-- a reply with bytes, and what is left outside
abbrev pub gives : Ask → ℕ → List GotRange → Rest → Row
gives a value got rest = replies (record { value = value; got = got; rest = rest; space = a.space; over = false })

-- a reply, and what is left of the space
abbrev pub leaves : Ask → ℕ → Space → Row
leaves a value space = replies (record { value = value; got = []; rest = a.rest; space = space; over = false })

-- nothing but the reply
abbrev pub answers : Ask → ℕ → Row
answers a value = gives a value [] a.rest

abbrev pub refuses : Ask → Errno → Row
refuses a e = answers a (refusal e)

-- ---- refusals first

-- a row behind a fault
abbrev pub unless : Ask → Option Errno → Row → Row
unless a (Some errno) row = refuses a errno
unless a None row = row

-- a row over what may be refused
abbrev pub with_ok : {A : Type 0} → Ask → Result A Errno → (A → Row) → Row
with_ok a (Ok x) row = row x
with_ok a (Err errno) row = refuses a errno

-- ---- what the caller has open

abbrev pub view_of : Ask → ℕ → Option View
view_of a fd = view a.rest.files a.process.table fd

-- EBADF where the descriptor isn't open
abbrev pub with_view : Ask → Option View → (View → Row) → Row
with_view a (Some v) row = row v
with_view a None row = refuses a Ebadf

abbrev pub free_of : Ask → Option ℕ
free_of a = lowest_free a.rest.files a.process.table

-- EMFILE where no descriptor is free
abbrev pub with_free : Ask → Option ℕ → (ℕ → Row) → Row
with_free a (Some fd) row = row fd
with_free a None row = refuses a Emfile

-- ---- what changes

abbrev pub with_tree : Rest → Inodes → Rest
with_tree rest nodes = record rest { tree = nodes }

abbrev pub with_files : Rest → OpenFiles → Rest
with_files rest files = record rest { files = files }

abbrev pub storage_of : Rest → Storage
storage_of rest = record { nodes = rest.tree; files = rest.files }

abbrev pub with_storage : Rest → Storage → Rest
with_storage rest s = record rest { tree = s.nodes; files = s.files }
