-- A system call by its parts, and what the parts of a run are after it.
use Rattle.std.specs.Prelude.{◌≡◌, ℕ, true, false, List, [], ◌∷◌, length, Some, Result, Ok, Err, ⊤, ◌%◌, ◌==◌, Bool, not, ◌&&◌, slice_index, slice_get, slice_set}
use Rattle.std.specs.declared.alloc.AllocError.{AllocError}
use Rattle.byte_words.specs.ByteMap.{Bytes}
use Rattle.call_log.specs.Notes.{GotRange, CallEntry, Note, call_note, end_note}
use Rattle.call_log.specs.Sent.{sent}
use Rattle.call_log.specs.Numbers as numbers
use Rattle.call_log.specs.declared.how.How.{How}
use Rattle.call_log.specs.declared.how.How.TheVariants.{Exit}
use Rattle.fd_tables.specs.Files.{free_number}
use Rattle.fd_tables.specs.Changes.{with_copy}
use Rattle.flat_loader.specs.Alone.{child_regs, is_errno}
use Rattle.mmap_rules.specs.Held.{Held}
use Rattle.mmap_rules.specs.Space.{Space, writable_in}
use Rattle.region_watch.specs.Private.{physical}
use Rattle.rv32im_step.specs.declared.regs.Regs.{Regs}
use Rattle.vfork_exec.specs.declared.entry.Entry.{Entry}
use Rattle.vfork_exec.specs.Procs.{process, with_value_at, with_child}
use Rattle.machine_world.specs.World.{World}
use Rattle.machine_world.specs.Asks
use Rattle.machine_world.specs.Asks.{Ask, Reply, Row, with_files}
use Rattle.machine_world.specs.Rows.{next_brk}
use Rattle.machine_world.specs.Event.{number_of, args_of, ask_of, put_got, replied, room_for}
use Rattle.file_calls.specs.Calls.{with_all, after, got_of}
use Rattle.file_calls.specs.declared.call.Call.{Call}
use Rattle.file_calls.specs.declared.outcome.Outcome.{Outcome}
use Rattle.kept_parts.specs.declared.task.Task.{Task}
use Rattle.kept_parts.specs.declared.effect.Effect.{Effect}
use Rattle.kept_parts.specs.declared.effect.Effect.TheVariants.{Answer, Yield, Break}
use Rattle.call_bytes.specs.declared.unread.Unread.{Unread}
use Rattle.call_bytes.specs.declared.unread.Unread.TheVariants.{Stray, Memory}
use Rattle.kept_parts.specs.declared.served.Served.{Served}
use Rattle.kept_parts.specs.declared.served.Served.TheVariants.{Replied, TurnEnds}
use Rattle.kept_parts.specs.Kept.{Kept}
use Rattle.kept_parts.specs.Stands.{About, private_bytes, private_of, process_of, world_of, OthersSame}
use Rattle.kept_parts.specs.Gone.{gone}
use Rattle.kept_parts.specs.Recorded.{event_recorded, call_recorded}
use Rattle.region_watch.specs.Private.{in_pages}

-- a process lives, in a live space
pub record LivesIn (k : Kept) (pid : ℕ) (e : Entry Task) (h : Held) : Type 0 where
  pub lives : process k.procs pid ≡ Some e
  pub home : slice_get k.spaces e.value.space ≡ Some (Some h)

-- ---- a call

-- it is the one at which the process stands
pub record IsCall (e : Entry Task) (call : Call) : Type 0 where
  pub pid : call.pid ≡ e.pid
  pub parent : call.parent ≡ e.parent
  pub table : call.table ≡ e.value.table
  pub number : call.number ≡ number_of e.value.regs
  pub args : call.args ≡ args_of e.value.regs

-- the caller of a call: a process that lives, in a live space, and stands at it
pub record Caller (k : Kept) (call : Call) : Type 0 where
  pub entry : Entry Task
  pub held : Held
  pub runs : LivesIn k call.pid entry held
  pub stands : IsCall entry call

-- with what it reads of these bytes, or the range of which it may not read each byte; out of memory says nothing
abbrev pub Made : Bytes → Entry Task → Result Call Unread → Type 0
Made bytes e (Ok call) = IsCall e call × (sent (number_of e.value.regs) (args_of e.value.regs) bytes ≡ Ok call.sent.items)
Made bytes e (Err (Stray addr len)) = sent (number_of e.value.regs) (args_of e.value.regs) bytes ≡ Err (record { addr = addr; len = len })
Made bytes e (Err Memory) = Unit {0}

-- the call as the world has it
abbrev pub ask_in : About → Kept → Entry Task → Held → Call → Ask
ask_in a k e h call = ask_of (world_of a k) (process_of e) (private_of k.mem h) call.sent.items

-- what its caller asks for by it
abbrev pub asked_by : {k : Kept} {call : Call} → About → Caller k call → Ask
asked_by {k} {call} a c = ask_in a k c.entry c.held call

-- the log has room for a call with this row, and for what its mapping brings
abbrev pub RoomFor : World → Ask → Row → Type 0
RoomFor w a r = (reply : Reply) → r ≡ Asks.replies reply → room_for w a reply ≡ true

-- ---- a call that touches neither files nor memory

-- its reply, and the break after it
abbrev pub reply_of : Ask → Effect → Reply
reply_of a (Answer value) = record { value = value; got = []; rest = a.rest; space = a.space; over = false }
reply_of a Yield = record { value = 0; got = []; rest = a.rest; space = a.space; over = true }
reply_of a (Break to) = record { value = next_brk a.space to; got = []; rest = a.rest; space = record a.space { brk = next_brk a.space to }; over = false }

-- its value, and the break, by how the break moves
abbrev pub value_of : (ℕ → ℕ) → Effect → ℕ
value_of next (Answer value) = value
value_of next Yield = 0
value_of next (Break to) = next to

abbrev pub brk_of : (ℕ → ℕ) → ℕ → Effect → ℕ
brk_of next brk (Answer value) = brk
brk_of next brk Yield = brk
brk_of next brk (Break to) = next to

-- it would map a file
abbrev pub maps_by : Call → Effect → Bool
maps_by call (Answer value) = call.number == numbers.mmap2 && not (is_errno value)
maps_by call Yield = call.number == numbers.mmap2
maps_by call (Break to) = call.number == numbers.mmap2

-- what comes of it, where the process lives
abbrev pub served_by : Effect → Served
served_by (Answer value) = Replied
served_by Yield = TurnEnds
served_by (Break to) = Replied

-- ---- what is kept after it

-- the note of a call
abbrev pub noted_entry : Call → ℕ → List GotRange → CallEntry
noted_entry call value got = record { pid = call.pid; call = call.number; args = call.args; sent = call.sent.items; reply = value; got = got }

abbrev pub noted_call : Call → ℕ → List GotRange → Note
noted_call call value got = call_note (noted_entry call value got)

-- memory, the registers of one process and its space are others
abbrev pub with_task : Kept → ℕ → Entry Task → Held → List ℕ → Regs → Kept
with_task k pid e h mem regs = record k {
  mem = mem;
  procs = with_value_at k.procs pid (record e.value { regs = regs });
  spaces = slice_set k.spaces e.value.space (Some h);
}

-- what is kept of a space that has become this
abbrev pub held_as : Held → Space → Held
held_as h s = record h { maps = s.maps; brk = s.brk }

-- a call has its reply, and is noted and recorded; memory is this
abbrev pub after_reply : Kept → Entry Task → Held → Call → Reply → List ℕ → Kept
after_reply k e h call r mem = record (with_task k call.pid e (held_as h r.space) mem (replied e.value.regs r.value)) {
  notes = noted_call call r.value r.got ∷ k.notes;
  tree = r.rest.tree;
  files = r.rest.files;
  console = r.rest.console;
  recording = call_recorded k.recording e.value.space (noted_entry call r.value r.got) r.space.bytes;
}

-- out of memory nothing changed
abbrev pub RepliesBy : About → Kept → Entry Task → Held → Call → Effect → Kept → Result ⊤ AllocError → Type 0
RepliesBy a old e h call f new (Ok done) = new ≡ after_reply old e h call (reply_of (ask_in a old e h call) f) old.mem
RepliesBy a old e h call f new (Err error) = new ≡ old

-- the reply of a call with this row, which changes files, or its caller's space with all its mappings: the bytes of all other
-- spaces stay
pub record Changed (a : About) (old : Kept) (e : Entry Task) (h : Held) (call : Call) (r : Row) (new : Kept) : Type 0 where
  pub reply : Reply
  pub replies : r ≡ Asks.replies reply
  pub got : reply.got ≡ []
  pub rest : reply.rest ≡ with_all (ask_in a old e h call).rest reply.rest.tree reply.rest.files reply.rest.console
  pub space : reply.space ≡ private_of new.mem (held_as h reply.space)
  pub over : reply.over ≡ false
  pub others : OthersSame old e.value.space new.mem
  pub pages : length new.regions ≡ length old.regions
  pub after : new ≡ record (after_reply old e h call reply new.mem) { regions = new.regions; starts = new.starts }

abbrev pub ChangesParts : About → Kept → Entry Task → Held → Call → Row → Kept → Result ⊤ AllocError → Type 0
ChangesParts a old e h call r new (Ok done) = Changed a old e h call r new
ChangesParts a old e h call r new (Err error) = new ≡ old

-- the reply of a call that gives bytes
abbrev pub output_reply : Ask → Outcome → Reply
output_reply a o = record {
  value = o.value;
  got = got_of o;
  rest = with_files a.rest (after o.then a.process.table a.rest.files);
  space = a.space;
  over = false;
}

-- the bytes are in its caller's space, and in no other one
pub record Gave (a : About) (old : Kept) (e : Entry Task) (h : Held) (call : Call) (o : Outcome) (new : Kept) : Type 0 where
  pub put : put_got (private_bytes old.mem h) (writable_in h.maps) (got_of o) ≡ Ok (private_bytes new.mem h)
  pub others : OthersSame old e.value.space new.mem
  pub after : new ≡ after_reply old e h call (output_reply (ask_in a old e h call) o) new.mem

abbrev pub Gives : About → Kept → Entry Task → Held → Call → Outcome → Kept → Result ⊤ AllocError → Type 0
Gives a old e h call o new (Ok done) = Gave a old e h call o new
Gives a old e h call o new (Err error) = new ≡ old

-- the bytes are in the one memory, whoever owns the places
pub record GaveIn (a : About) (old : Kept) (e : Entry Task) (h : Held) (call : Call) (o : Outcome) (new : Kept) : Type 0 where
  pub put : put_got (physical old.mem) (in_pages (length old.regions)) (got_of o) ≡ Ok (physical new.mem)
  pub len : length new.mem ≡ length old.mem
  pub after : new ≡ after_reply old e h call (output_reply (ask_in a old e h call) o) new.mem

abbrev pub GivesIn : About → Kept → Entry Task → Held → Call → Outcome → Kept → Result ⊤ AllocError → Type 0
GivesIn a old e h call o new (Ok done) = GaveIn a old e h call o new
GivesIn a old e h call o new (Err error) = new ≡ old

-- the lowest eight bits of the code
abbrev pub exit_of : Call → How
exit_of call = Exit (slice_index call.args 0 % 256)

-- a call ends its process: it is noted, and then the end
abbrev pub after_exit : Kept → Entry Task → Held → Call → Kept
after_exit k e h call = record (gone k e h (exit_of call)) {
  notes = end_note call.pid (exit_of call) ∷ noted_call call 0 [] ∷ k.notes;
  recording = event_recorded k.recording e.value.space;
}

abbrev pub Exits : Kept → Entry Task → Held → Call → Kept → Result ⊤ AllocError → Type 0
Exits old e h call new (Ok done) = new ≡ after_exit old e h call
Exits old e h call new (Err error) = new ≡ old

-- a child is there, in its parent's space, with copies of the parent's registers and descriptors
abbrev pub child_task : Kept → Entry Task → Call → Task
child_task k e call = record {
  regs = child_regs e.value.regs (slice_index call.args 1);
  space = e.value.space;
  table = free_number k.files.tables;
}

-- the parent has the child's pid, and stands still
abbrev pub after_fork : Kept → Entry Task → Call → Kept
after_fork k e call = record k {
  procs = with_value_at (with_child k.procs call.pid (child_task k e call)) call.pid (record e.value { regs = replied e.value.regs k.procs.next_pid });
  files = with_copy k.files e.value.table;
  notes = noted_call call k.procs.next_pid [] ∷ k.notes;
  recording = event_recorded k.recording e.value.space;
}

abbrev pub Forks : Kept → Entry Task → Call → Kept → Result ⊤ AllocError → Type 0
Forks old e call new (Ok done) = new ≡ after_fork old e call
Forks old e call new (Err error) = new ≡ old
