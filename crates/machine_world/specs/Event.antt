-- One event: one instruction or one system call of one process. An event changes the world and leaves a trace, or the
-- process's next access strays, or the log has no room, or there is no such process.
pub use Rattle.flat_loader.specs.Alone.{number_of, args_of, replied, put_got}
use Rattle.std.specs.Prelude.{ℕ, ◌+◌, ◌++◌, length, ◌*◌, ◌%◌, ◌==◌, Bool, true, false, not, ◌&&◌, ◌||◌, if◌then◌else◌, List, [], ◌∷◌, map, slice_index, unwrap_or, Option, Some, None, Result, Ok, Err}
use Rattle.byte_words.specs.ByteMap.{Bytes}
use Rattle.rv32im_step.specs.declared.regs.Regs.{Regs}
use Rattle.byte_words.specs.declared.access.Access.{Access}
use Rattle.byte_words.specs.declared.access.AccessKind.TheVariants.{Call}
use Rattle.rv32im_step.specs.Registers.{register}
use Rattle.rv32im_step.specs.Meaning.{Meaning, next, call, trap, refused, meaning}
use Rattle.call_log.specs.declared.how.How.{How}
use Rattle.call_log.specs.declared.how.How.TheVariants.{Exit, Signal}
use Rattle.call_log.specs.declared.errno.Errno.{Errno}
use Rattle.call_log.specs.declared.errno.Errno.TheVariants.{E2big, Eagain, Enomem, Einval, Enametoolong}
use Rattle.call_log.specs.Notes.{GotRange, CallEntry, Note, call_note, load_note, end_note, weight_of}
use Rattle.call_log.specs.Strings.{ProgramStrings, program_strings}
use Rattle.call_log.specs.Flags.{has_flag}
use Rattle.call_log.specs.Sent.{Span, bytes_from, has_zero, sent}
use Rattle.call_log.specs.Numbers as numbers
use Rattle.vfork_exec.specs.declared.family.Who.{Who}
use Rattle.vfork_exec.specs.declared.family.State.{State}
use Rattle.vfork_exec.specs.declared.family.State.TheVariants.{Ready, Waiting, Lent}
use Rattle.vfork_exec.specs.declared.family.Waited.{Waited}
use Rattle.vfork_exec.specs.declared.family.Waited.TheVariants.{Child, NoneYet, Waits}
use Rattle.vfork_exec.specs.Keyed.{find, change}
use Rattle.vfork_exec.specs.Families.{ended_behind, first_ended, without_first, told}
use Rattle.mmap_rules.specs.Space.{Space, page_size, writable_in}
use Rattle.mmap_rules.specs.Want.{pages_for, map_anonymous}
use Rattle.flat_loader.specs.Original.{block_pages}
use Rattle.flat_loader.specs.Frame.{frame_fits}
use Rattle.flat_loader.specs.Begin.{Loading, begin_space, begin_regs}
use Rattle.flat_loader.specs.Alone.{Item, is_errno, child_regs}
use Rattle.machine_world.specs.World.{Process, LiveSpace, World, pid_of, id_of}
use Rattle.fd_tables.specs.Files.{free_number}
use Rattle.fd_tables.specs.Pipes.{none_changed}
use Rattle.fd_tables.specs.Changes.{with_copy, exec_closed, without_table}
use Rattle.machine_world.specs.Families.{is_full, spaces_left, let_go, all_left_by, all_roused, has_child}
use Rattle.machine_world.specs.Free.{free}
use Rattle.machine_world.specs.Found.{Found, address_of, taken}
use Rattle.machine_world.specs.Asks.{Ask, Reply, Row, replies, waits, arg, gives, refuses, with_files, storage_of, with_storage}
use Rattle.machine_world.specs.PathCalls.{path_of}
use Rattle.machine_world.specs.FamilyCalls.{who_of, may_wait, waitid_fault, child_info, no_info, info_at, vfork_flags, runs}
use Rattle.machine_world.specs.Rows.{row}
use Rattle.machine_world.specs.Recordings.{is_recorded, launched, passed, room_in}

-- a program that begins in a new space, and the pid of its process
pub record Begins : Type 0 where
  pub loading : Loading
  pub pid : ℕ

-- what an event leaves for those who follow one space: the space, how many events it is there, the calls made in it with what
-- their mappings brought, the program that begins in the next space, and whether the turn is over
pub record Trace : Type 0 where
  pub space : ℕ
  pub events : ℕ
  pub items : List Item
  pub begins : Option Begins
  pub over : Bool

pub data Outcome : Type 0 where
  went : World → Trace → Outcome
  strays : Access → Outcome
  full : Outcome
  idle : Outcome

-- ---- what changes

-- one process with its registers, and its space, as they are now
abbrev pub with_space : World → Process → Regs → Space → World
with_space w p regs space = record w {
  procs = change pid_of p.pid (λ q. record q { regs = regs }) w.procs;
  spaces = change id_of p.space (λ s. record s { space = space }) w.spaces;
}

abbrev pub with_state : World → ℕ → State → World
with_state w pid state = record w { procs = change pid_of pid (λ q. record q { state = state }) w.procs }

-- an event more
abbrev pub counted : World → World
counted w = record w { events = w.events + 1 }

-- and no wait, in the space of this number
abbrev pub counted_in : ℕ → World → World
counted_in space w = passed space 1 (counted w)

abbrev pub noted : Note → World → World
noted note w = record w { notes = note ∷ w.notes }

-- the process goes, its space with all its mappings if no other process lent it, and its table with all that it has open. Its
-- lender and a parent that waits for it go on, its children have no parent, and its own end is told to its parent alone
abbrev pub departed : World → Process → How → World
departed w p how = record w {
  procs = all_left_by p w.procs;
  ended = ended_behind (record { pid = p.pid; parent = p.parent; how = how }) w.ended;
  spaces = spaces_left p w.procs w.spaces;
  rest = with_storage w.rest (without_table (storage_of w.rest) p.table);
}

unfoldable pub ended : World → Process → How → World
ended w p how = noted (end_note p.pid how) (departed w p how)

-- ---- an instruction

unfoldable pub stepped : World → Process → Space → Regs → Bytes → Outcome
stepped w p s regs bytes =
    went (counted_in p.space (with_space w p regs (record s { bytes = bytes }))) (record { space = p.space; events = 1; items = []; begins = None; over = false })

unfoldable pub trapped : World → Process → ℕ → Outcome
trapped w p signal =
    went (counted_in p.space (ended w p (Signal signal))) (record { space = p.space; events = 1; items = []; begins = None; over = true })

-- ---- a system call

abbrev pub ask_of : World → Process → Space → List ℕ → Ask
ask_of w p s bytes = record {
  process = p;
  space = s;
  spaces = w.spaces;
  rest = w.rest;
  number = number_of p.regs;
  args = args_of p.regs;
  sent = bytes;
}

abbrev pub entry_of : Ask → ℕ → List GotRange → CallEntry
entry_of a value got = record {
  pid = a.process.pid;
  call = a.number;
  args = a.args;
  sent = a.sent;
  reply = value;
  got = got;
}

abbrev pub call_access : Process → Span → Access
call_access p span = record { pc = p.regs.pc; addr = span.addr; len = span.len; kind = Call }

-- an mmap2 of a file that isn't refused
abbrev pub maps_file : CallEntry → Bool
maps_file e = e.call == numbers.mmap2 && not (is_errno e.reply) && not (has_flag (slice_index e.args 3) map_anonymous)

-- the bytes that it brings: those of its mapping
abbrev pub brought : CallEntry → Bytes → List ℕ
brought e m = if maps_file e then unwrap_or (bytes_from m e.reply (page_size * pages_for (slice_index e.args 1))) [] else []

-- by mappings of files, one by one
abbrev pub lists_brought : CallEntry → Bytes → List (List ℕ)
lists_brought e m = if maps_file e then brought e m ∷ [] else []

-- a call for those who follow its space, over the bytes that it leaves
abbrev pub item_of : CallEntry → Bytes → Item
item_of e m = record { entry = e; brought = brought e m }

-- a call that maps nothing
abbrev pub plain_item : CallEntry → Item
plain_item e = record { entry = e; brought = [] }

-- so many bytes, and those that it brings into the space that is recorded
abbrev pub with_bytes_of : World → ℕ → CallEntry → Bytes → ℕ → ℕ
with_bytes_of w space e m weight = if is_recorded w.recording space then length (brought e m) + weight else weight

-- there is room for a call with this reply; a mapping has its bytes before any output is written
abbrev pub room_for : World → Ask → Reply → Bool
room_for w a r = room_in w (with_bytes_of w a.process.space (entry_of a r.value r.got) r.space.bytes (weight_of a.sent r.got))

-- and what it brings is recorded
abbrev pub brought_to : ℕ → CallEntry → Bytes → World → World
brought_to space e m w = record w {
  recording = record w.recording { brought = w.recording.brought ++ (if is_recorded w.recording space then lists_brought e m else []) };
}

-- a call has its reply, over the bytes that it leaves
abbrev pub replied_world : World → Ask → Reply → Bytes → World
replied_world w a r m =
    let e : CallEntry = entry_of a r.value r.got in
    noted (call_note e) (brought_to a.process.space e r.space.bytes (counted_in a.process.space (with_space w a.process (replied a.process.regs r.value) (record r.space { bytes = m }))))

-- the effect of a call whose output can be written
unfoldable pub served : World → Ask → Reply → Bytes → Outcome
served w a r bytes =
    if room_for w a r then
    went
    (replied_world (record w { rest = r.rest }) a r bytes)
    (record { space = a.process.space; events = 1; items = item_of (entry_of a r.value r.got) bytes ∷ []; begins = None; over = r.over })
    else full

abbrev pub put : World → Ask → Reply → Result Bytes Span → Outcome
put w a r (Ok bytes) = served w a r bytes
put w a r (Err span) = strays (call_access a.process span)

-- a wait is an event without a note, and the call is made anew when the process may run again
unfoldable pub waited : World → Process → State → Outcome
waited w p state = went (counted (with_state w p.pid state)) (record { space = p.space; events = 0; items = []; begins = None; over = true })

abbrev pub answered : World → Ask → Row → Outcome
answered w a (replies r) = put w a r (put_got r.space.bytes (writable_in r.space.maps) r.got)
answered w a (waits state) = waited w a.process state

-- exit and exit_group: the lowest eight bits of the code
abbrev pub exit_code : Ask → ℕ
exit_code a = register a.process.regs.x 10 % 256

unfoldable pub exited : World → Ask → Outcome
exited w a =
    if room_in w (weight_of a.sent []) then
    went
    (ended (noted (call_note (entry_of a 0 [])) (counted_in a.process.space w)) a.process (Exit (exit_code a)))
    (record { space = a.process.space; events = 1; items = plain_item (entry_of a 0 []) ∷ []; begins = None; over = true })
    else full

abbrev pub is_exit : ℕ → Bool
is_exit number = number == numbers.exit || number == numbers.exit_group

-- ---- waitid

-- the child that is told of goes from the list
abbrev pub reaped : World → Ask → Who → Result Waited Errno → Outcome
reaped w a who (Ok (Child pid how)) =
    answered (record w { ended = without_first a.process.pid who w.ended }) a (gives a 0 (info_at (arg a 2) (child_info pid how)) a.rest)
reaped w a who (Ok NoneYet) = answered w a (gives a 0 (info_at (arg a 2) no_info) a.rest)
reaped w a who (Ok Waits) = waited w a.process (Waiting who)
reaped w a who (Err errno) = answered w a (refuses a errno)

abbrev pub told_in : World → Ask → Result Waited Errno
told_in w a = told (first_ended a.process.pid (who_of a) w.ended) (has_child a.process.pid (who_of a) w.procs) (may_wait (arg a 3))

abbrev pub waitid_behind : World → Ask → Option Errno → Outcome
waitid_behind w a (Some errno) = answered w a (refuses a errno)
waitid_behind w a None = reaped w a (who_of a) (told_in w a)

unfoldable pub waitid : World → Ask → Outcome
waitid w a = waitid_behind w a (waitid_fault a)

-- ---- clone, as vfork

-- the child runs in its parent's space, with copies of the parent's registers and descriptors; the parent stands still for it
abbrev pub child_of : World → Ask → Process
child_of w a = record {
  pid = w.next_pid;
  parent = a.process.pid;
  regs = child_regs a.process.regs (arg a 1);
  space = a.process.space;
  table = free_number w.rest.files.tables;
  state = Ready;
}

abbrev pub with_child : World → Ask → World
with_child w a = record w {
  procs = child_of w a ∷ change pid_of a.process.pid (λ q. record q { regs = replied a.process.regs w.next_pid; state = Lent w.next_pid }) w.procs;
  next_pid = w.next_pid + 1;
  rest = with_files w.rest (with_copy w.rest.files a.process.table);
}

unfoldable pub forked : World → Ask → Outcome
forked w a =
    if room_in w (weight_of a.sent []) then
    went
    (noted (call_note (entry_of a w.next_pid [])) (counted_in a.process.space (with_child w a)))
    (record { space = a.process.space; events = 1; items = plain_item (entry_of a w.next_pid []) ∷ []; begins = None; over = true })
    else full

unfoldable pub cloned : World → Ask → Outcome
cloned w a =
    if not (arg a 0 == vfork_flags) then answered w a (refuses a Einval)
    else if is_full w then answered w a (refuses a Eagain)
    else forked w a

-- ---- execve

-- the process has the program's registers and a new space; the lender of the old one goes on, and without a lender the old one goes.
-- Descriptors that are marked so close
abbrev pub with_exec : World → Process → Loading → World
with_exec w p l = record w {
  procs = change pid_of p.pid (λ q. record q { regs = begin_regs l; space = w.loads }) (map (let_go p.pid) w.procs);
  spaces = record { id = w.loads; space = begin_space l } ∷ spaces_left p w.procs w.spaces;
  loads = w.loads + 1;
  rest = with_storage w.rest (exec_closed (storage_of w.rest) p.table);
  recording = launched w.loads p.pid l w.recording;
}

abbrev pub load_of : Process → ℕ → Loading → Note
load_of p index l = load_note (record { pid = p.pid; program = index; base = l.block; pages = block_pages l.original })

unfoldable pub executed : World → Ask → ℕ → Loading → Outcome
executed w a index l =
    if room_in w (weight_of a.sent []) then
    went
    (noted (load_of a.process index l) (noted (call_note (entry_of a 0 [])) (counted_in a.process.space (with_exec w a.process l))))
    (record {
      space = a.process.space;
      events = 1;
      items = plain_item (entry_of a 0 []) ∷ [];
      begins = Some (record { loading = l; pid = a.process.pid });
      over = false;
    })
    else full

-- ENOMEM while the old space is held
abbrev pub exec_at : World → Ask → Found → ProgramStrings → Option ℕ → Outcome
exec_at w a f s None = answered w a (refuses a Enomem)
exec_at w a f s (Some page) = executed w a f.index (record { original = f.original; block = address_of page; args = s.args; env = s.env })

abbrev pub exec_fitting : World → Ask → Found → ProgramStrings → (fits : Bool) → Outcome
exec_fitting w a f s fits = if fits then exec_at w a f s (taken w (block_pages f.original) (free w)) else answered w a (refuses a E2big)

abbrev pub exec_program : World → Ask → ProgramStrings → Result Found Errno → Outcome
exec_program w a s (Ok f) = exec_fitting w a f s (frame_fits f.original s.args s.env)
exec_program w a s (Err errno) = answered w a (refuses a errno)

abbrev pub exec_strings : World → Ask → Option ProgramStrings → Outcome
exec_strings w a (Some s) = exec_program w a s (runs w.rest (path_of a))
exec_strings w a None = answered w a (refuses a E2big)

-- a path without a zero is too long, before anything else is read
unfoldable pub exec : World → Ask → Outcome
exec w a =
    if has_zero a.sent then exec_strings w a (program_strings a.sent (arg a 1) (arg a 2))
    else answered w a (refuses a Enametoolong)

-- ---- by classes of calls

abbrev pub classed : World → Ask → Outcome
classed w a =
    if is_exit a.number then exited w a
    else if a.number == numbers.waitid then waitid w a
    else if a.number == numbers.clone then cloned w a
    else if a.number == numbers.execve then exec w a
    else answered w a (row a)

abbrev pub asked : World → Process → Space → Result (List ℕ) Span → Outcome
asked w p s (Ok bytes) = classed w (ask_of w p s bytes)
asked w p s (Err span) = strays (call_access p span)

-- the call of a process in its space
unfoldable pub answer : World → Process → Space → Outcome
answer w p s = asked w p s (sent (number_of p.regs) (args_of p.regs) s.bytes)

-- ---- an event

-- behind a call or a trap those go on that wait on a pipe which it changed: its bytes changed, or one of its ends closed
abbrev pub awake : World → World
awake w = record w {
  procs = all_roused w.rest.files.changed w.procs;
  rest = with_files w.rest (none_changed w.rest.files);
}

unfoldable pub settled : Outcome → Outcome
settled (went now t) = went (awake now) t
settled (strays access) = strays access
settled full = full
settled idle = idle

abbrev pub effect : World → Process → Space → Meaning → Outcome
effect w p s (next regs bytes) = stepped w p s regs bytes
effect w p s call = settled (answer w p s)
effect w p s (trap signal) = settled (trapped w p signal)
effect w p s (refused access) = strays access

-- what comes of a process in its space, if it lives
abbrev pub in_space : (Process → Space → Outcome) → Process → Option LiveSpace → Outcome
in_space act p None = idle
in_space act p (Some s) = act p s.space

abbrev pub by_process : List LiveSpace → (Process → Space → Outcome) → Option Process → Outcome
by_process spaces act None = idle
by_process spaces act (Some p) = in_space act p (find id_of p.space spaces)

unfoldable pub at_process : World → ℕ → (Process → Space → Outcome) → Outcome
at_process w pid act = by_process w.spaces act (find pid_of pid w.procs)

unfoldable pub event : World → ℕ → Outcome
event w pid = at_process w pid (λ p s. effect w p s (meaning p.regs s.bytes (writable_in s.maps)))

-- the system call of a process, and its end by a signal
unfoldable pub called : World → ℕ → Outcome
called w pid = at_process w pid (λ p s. settled (answer w p s))

unfoldable pub died : World → ℕ → ℕ → Outcome
died w pid signal = at_process w pid (λ p s. settled (trapped w p signal))

-- the first stray access of the process's next event, if it has one
abbrev pub stray_in : Outcome → Option Access
stray_in (went w t) = None
stray_in (strays access) = Some access
stray_in full = None
stray_in idle = None

unfoldable pub stray : World → ℕ → Option Access
stray w pid = stray_in (event w pid)
