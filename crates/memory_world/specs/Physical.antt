-- A run that goes on after its first stray access: one byte map over all of physical memory, in which every access inside memory is
-- carried out, whoever owns the bytes (Linux, "No-MMU memory mapping support": without an MMU an address is what it says).
use Rattle.std.specs.Prelude.{ℕ, zero, suc, ◌+◌, ◌-◌, ◌*◌, ◌/◌, ◌==◌, Bool, true, false, not, ◌&&◌, ◌||◌, nat_le, nat_lt, if◌then◌else◌, List, [], ◌∷◌, map, slice_get, Option, Some, None, Result, Ok, Err}
use Rattle.byte_words.specs.ByteMap.{Bytes, with_bytes}
use Rattle.byte_words.specs.declared.access.Access.{Access}
use Rattle.rv32im_step.specs.declared.regs.Regs.{Regs}
use Rattle.rv32im_step.specs.Meaning.{Meaning, next, call, trap, refused, meaning}
use Rattle.call_log.specs.declared.errno.Errno.{Errno}
use Rattle.call_log.specs.Notes.{Note, call_note, load_note, end_note, stray_note}
use Rattle.call_log.specs.Sent.{Span, sent}
use Rattle.call_log.specs.Numbers as numbers
use Rattle.quantum_sched.specs.declared.Quantum.{Quantum}
use Rattle.quantum_sched.specs.Picked.{picked}
use Rattle.vfork_exec.specs.declared.family.Who.{Who}
use Rattle.vfork_exec.specs.declared.family.State.TheVariants.{Waiting}
use Rattle.vfork_exec.specs.declared.family.Waited.{Waited}
use Rattle.vfork_exec.specs.declared.family.Waited.TheVariants.{Child, NoneYet, Waits}
use Rattle.vfork_exec.specs.Keyed.{find}
use Rattle.vfork_exec.specs.Families.{without_first}
use Rattle.mmap_rules.specs.Space.{Space, memory_base, page_size, own_in}
use Rattle.region_watch.specs.Private.{only}
use Rattle.flat_loader.specs.Alone.{number_of, args_of, put_got}
use Rattle.machine_world.specs.World.{Process, LiveSpace, World, pid_of, id_of}
use Rattle.machine_world.specs.Free.{is_held}
use Rattle.machine_world.specs.Families.{ready_pids}
use Rattle.machine_world.specs.Asks.{Ask, Reply, Row, replies, waits, arg, gives, refuses}
use Rattle.machine_world.specs.FamilyCalls.{who_of, waitid_fault, child_info, no_info, info_at}
use Rattle.machine_world.specs.Rows.{row}
use Rattle.machine_world.specs.Event.{Begins, Trace, Outcome, went, strays, full, idle, with_space, noted, trapped, ask_of, served, waited, told_in, is_exit, classed, awake, stray}
use Rattle.machine_world.specs.Recordings.{passed}
use Rattle.machine_world.specs.Turns.{End, log_full, none_runs, last_end}

-- a world whose spaces have, as bytes of their own, what the one memory has in their own ranges; that memory; and the first 64 bytes of
-- each program's flat file
pub record Physical : Type 0 where
  pub world : World
  pub memory : Bytes
  pub headers : List (List ℕ)

-- ---- memory

-- the addresses of memory
abbrev pub in_memory : World → ℕ → Bool
in_memory w a = nat_le memory_base a && nat_lt a (memory_base + page_size * w.rest.pages)

abbrev pub or_below : Option ℕ → Option ℕ → Option ℕ
or_below (Some b) below = Some b
or_below None below = below

-- bytes laid over others
abbrev pub over : Bytes → Bytes → Bytes
over front back a = or_below (front a) (back a)

abbrev pub shown_space : Bytes → LiveSpace → LiveSpace
shown_space memory s = record s { space = record s.space { bytes = only (own_in s.space.maps) memory } }

-- every space shows what memory has in its own ranges
abbrev pub showing : Bytes → World → World
showing memory w = record w { spaces = map (shown_space memory) w.spaces }

-- what spaces have
abbrev pub bytes_in : List LiveSpace → Bytes
bytes_in [] a = None
bytes_in (s ∷ ss) a = or_below (s.space.bytes a) (bytes_in ss a)

-- an address in a page that no mapping holds
abbrev pub is_free_at : World → ℕ → Bool
is_free_at w a = nat_le memory_base a && not (is_held w.spaces ((a - memory_base) / page_size))

-- a program's header at its block
abbrev pub headed : List (List ℕ) → List Note → Bytes → Bytes
headed headers (load_note l ∷ notes) memory = with_header (slice_get headers l.program)
  where
    with_header : Option (List ℕ) → Bytes
    with_header (Some header) = with_bytes memory l.base header
    with_header None = memory
headed headers notes memory = memory

-- where a program begins, its header is at its block
abbrev pub begun_in : List (List ℕ) → Option Begins → List Note → Bytes → Bytes
begun_in headers (Some begins) notes memory = headed headers notes memory
begun_in headers None notes memory = memory

-- what an event brings is laid where no mapping held the page before: so a fresh mapping and a program have their bytes, a mapping that
-- is shared leaves memory as it is, and freed pages keep their bytes
unfoldable pub laid_behind : Physical → Bytes → World → Trace → Bytes
laid_behind p memory now t = over (only (is_free_at p.world) (bytes_in now.spaces)) (begun_in p.headers t.begins now.notes memory)

abbrev pub behind : Physical → Bytes → World → Trace → Physical
behind p memory now t = record p { world = showing (laid_behind p memory now t) now; memory = laid_behind p memory now t }

-- ---- an event

-- what comes of it: the run goes on, with whether the turn is over; the log has no room; there is no such process
pub data After : Type 0 where
  after : Physical → (over : Bool) → After
  no_room : Physical → After
  nobody : After

-- as in the world of private spaces, over this memory
abbrev pub carried : Physical → Bytes → Outcome → After
carried p memory (went now t) = after (behind p memory now t) t.over
carried p memory (strays access) = nobody
carried p memory full = no_room p
carried p memory idle = nobody

-- those go on that wait on a pipe which it changed
abbrev pub settled_in : After → After
settled_in (after p over) = after (record p { world = awake p.world }) over
settled_in (no_room p) = no_room p
settled_in nobody = nobody

-- an access outside memory: SIGSEGV
abbrev pub outside : ℕ
outside = 11

abbrev pub killed : Physical → Process → ℕ → After
killed p q signal = carried p p.memory (trapped p.world q signal)

abbrev pub put_in : Physical → Ask → Reply → Result Bytes Span → After
put_in p a r (Ok memory) = carried p memory (served p.world a r r.space.bytes)
put_in p a r (Err span) = killed p a.process outside

abbrev pub answered_in : Physical → Ask → Row → After
answered_in p a (replies r) = put_in p a r (put_got p.memory (in_memory p.world) r.got)
answered_in p a (waits state) = carried p p.memory (waited p.world a.process state)

-- where the log has no room for a call nothing has changed
abbrev pub full_at : Physical → After → After
full_at p (after now over) = after now over
full_at p (no_room now) = no_room p
full_at p nobody = nobody

abbrev pub reaped_in : Physical → Ask → Who → Result Waited Errno → After
reaped_in p a who (Ok (Child pid how)) =
    full_at p
    (answered_in (record p { world = record p.world { ended = without_first a.process.pid who p.world.ended } }) a (gives a 0 (info_at (arg a 2) (child_info pid how)) a.rest))
reaped_in p a who (Ok NoneYet) = answered_in p a (gives a 0 (info_at (arg a 2) no_info) a.rest)
reaped_in p a who (Ok Waits) = carried p p.memory (waited p.world a.process (Waiting who))
reaped_in p a who (Err errno) = answered_in p a (refuses a errno)

abbrev pub waitid_behind_in : Physical → Ask → Option Errno → After
waitid_behind_in p a (Some errno) = answered_in p a (refuses a errno)
waitid_behind_in p a None = reaped_in p a (who_of a) (told_in p.world a)

unfoldable pub waitid_in : Physical → Ask → After
waitid_in p a = waitid_behind_in p a (waitid_fault a)

-- exit, clone and execve write nothing into their caller's memory
abbrev pub writes_nothing : ℕ → Bool
writes_nothing number = is_exit number || number == numbers.clone || number == numbers.execve

abbrev pub classed_in : Physical → Ask → After
classed_in p a =
    if writes_nothing a.number then carried p p.memory (classed p.world a)
    else if a.number == numbers.waitid then waitid_in p a
    else answered_in p a (row a)

-- it reads from all of memory; a range outside memory ends its process
abbrev pub asked_in : Physical → Process → Space → Result (List ℕ) Span → After
asked_in p q s (Ok bytes) = classed_in p (ask_of p.world q s bytes)
asked_in p q s (Err span) = killed p q outside

unfoldable pub answer_in : Physical → Process → Space → After
answer_in p q s = asked_in p q s (sent (number_of q.regs) (args_of q.regs) p.memory)

-- an instruction that is carried out
abbrev pub moved_in : Physical → Process → Space → Regs → Bytes → ℕ → Physical
moved_in p q s regs memory done = record p {
  world = showing memory (passed q.space done (record (with_space p.world q regs s) { events = p.world.events + done }));
  memory = memory;
}

abbrev pub effect_in : Physical → Process → Space → Meaning → After
effect_in p q s (next regs memory) = after (moved_in p q s regs memory 1) false
effect_in p q s call = settled_in (answer_in p q s)
effect_in p q s (trap signal) = settled_in (killed p q signal)
effect_in p q s (refused access) = settled_in (killed p q outside)

abbrev pub in_space_in : (Process → Space → After) → Process → Option LiveSpace → After
in_space_in act q None = nobody
in_space_in act q (Some s) = act q s.space

abbrev pub by_process_in : List LiveSpace → (Process → Space → After) → Option Process → After
by_process_in spaces act None = nobody
by_process_in spaces act (Some q) = in_space_in act q (find id_of q.space spaces)

unfoldable pub at_process_in : Physical → ℕ → (Process → Space → After) → After
at_process_in p pid act = by_process_in p.world.spaces act (find pid_of pid p.world.procs)

-- the next instruction of a process, over all of memory
abbrev pub next_meaning : Physical → Process → Meaning
next_meaning p q = meaning q.regs p.memory (in_memory p.world)

unfoldable pub carried_out : Physical → ℕ → After
carried_out p pid = at_process_in p pid (λ q s. effect_in p q s (next_meaning p q))

-- the system call of a process, and its end by a signal
unfoldable pub called_in : Physical → ℕ → After
called_in p pid = at_process_in p pid (λ q s. settled_in (answer_in p q s))

unfoldable pub died_in : Physical → ℕ → ℕ → After
died_in p pid signal = at_process_in p pid (λ q s. settled_in (killed p q signal))

-- ---- the first stray access

-- a stray access was noted
abbrev pub has_stray : List Note → Bool
has_stray [] = false
has_stray (call_note entry ∷ notes) = has_stray notes
has_stray (load_note load ∷ notes) = has_stray notes
has_stray (end_note pid how ∷ notes) = has_stray notes
has_stray (stray_note pid access ∷ notes) = true

-- the run's first one, by the world of private spaces
abbrev pub first_stray_in : Physical → ℕ → Option Access
first_stray_in p pid = if has_stray p.world.notes then None else stray p.world pid

-- it is noted before all other notes of its event
abbrev pub with_stray : ℕ → Option Access → Physical → Physical
with_stray pid None p = p
with_stray pid (Some access) p = record p { world = noted (stray_note pid access) p.world }

unfoldable pub event_in : Physical → ℕ → After
event_in p pid = carried_out (with_stray pid (first_stray_in p pid) p) pid

-- ---- turns

pub record WalkIn : Type 0 where
  pub now : Physical
  pub end : Option End

abbrev pub remains_at_in : Physical → Option End → WalkIn
remains_at_in p end = record { now = p; end = end }

abbrev pub turned_in : (Physical → WalkIn) → Physical → After → WalkIn
turned_in more p (after now over) = if over then remains_at_in now None else more now
turned_in more p (no_room now) = remains_at_in now (Some log_full)
turned_in more p nobody = remains_at_in p None

unfoldable pub turn_in : ℕ → ℕ → Physical → WalkIn
turn_in zero pid p = remains_at_in p None
turn_in (suc n) pid p = turned_in (turn_in n pid) p (event_in p pid)

abbrev pub going_on_in : (Physical → WalkIn) → WalkIn → WalkIn
going_on_in more walk = gone walk.end
  where
    gone : Option End → WalkIn
    gone (Some end) = walk
    gone None = more walk.now

abbrev pub quantum_turn_in : (Physical → WalkIn) → Physical → ℕ → Option ℕ → WalkIn
quantum_turn_in more p count None = remains_at_in p (Some (none_runs p.world))
quantum_turn_in more p count (Some pid) = going_on_in more (turn_in count pid p)

unfoldable pub turns_in : List Quantum → Physical → WalkIn
turns_in [] p = remains_at_in p (Some (last_end p.world (ready_pids p.world.procs)))
turns_in (q ∷ qs) p = quantum_turn_in (turns_in qs) p q.count (picked q.pick (ready_pids p.world.procs))

-- ---- boot

-- memory all zero
abbrev pub zeros : World → Bytes
zeros w a = if in_memory w a then Some 0 else None

abbrev pub all_headed : List (List ℕ) → List Note → Bytes → Bytes
all_headed headers [] memory = memory
all_headed headers (n ∷ ns) memory = headed headers (n ∷ []) (all_headed headers ns memory)

-- the first bytes of memory: its programs' blocks, over their headers
unfoldable pub first_memory : List (List ℕ) → World → Bytes
first_memory headers w = over (bytes_in w.spaces) (all_headed headers w.notes (zeros w))

-- the opening world of private spaces, with its programs' blocks in one memory
unfoldable pub opening_in : List (List ℕ) → World → Physical
opening_in headers w = record { world = showing (first_memory headers w) w; memory = first_memory headers w; headers = headers }
