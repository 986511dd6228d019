-- What comes of a call, in the world and in the parts.
use Rattle.std.proofs.Common.{◌≡◌, ◌≢◌, ℕ, ◌+◌, Bool, true, false, List, [], ◌∷◌, length, Option, Some, None, refl, sym, ap, subst, ◌∙◌, add-zero}
use Rattle.std.specs.Prelude.{if◌then◌else◌, ◌%◌, ◌==◌, option_map, Result, Ok, Err, slice_index}
use Rattle.std.specs.declared.alloc.AllocError.{AllocError}
use Rattle.byte_words.specs.ByteMap.{Bytes}
use Rattle.byte_words.specs.declared.access.Access.{Access}
use Rattle.byte_words.specs.declared.access.AccessKind.TheVariants as access_kind
use Rattle.rv32im_step.specs.Registers.{register}
use Rattle.call_log.specs.declared.how.How.{How}
use Rattle.call_log.specs.declared.how.How.TheVariants.{Exit}
use Rattle.call_log.specs.Notes.{GotRange, CallEntry, Note, call_note, end_note, weight_of}
use Rattle.call_log.specs.Sent.{Span, sent}
use Rattle.nommu_regions.specs.declared.region.Region.{Region}
use Rattle.mmap_rules.specs.Held.{Held}
use Rattle.mmap_rules.specs.Space.{Space, writable_in}
use Rattle.mem_files.specs.Inodes.{Inodes}
use Rattle.fd_tables.specs.Files.{OpenFiles}
use Rattle.vfork_exec.specs.declared.entry.Entry.{Entry}
use Rattle.vfork_exec.specs.declared.family.State.TheVariants.{OnPipe}
use Rattle.vfork_exec.specs.Keyed.{find}
use Rattle.vfork_exec.specs.Procs.{Lives, value_at}
use Rattle.machine_world.specs.World.{Process, LiveSpace, World, pid_of, id_of}
use Rattle.machine_world.specs.Asks.{Ask, Reply, Row, replies, waits}
use Rattle.machine_world.specs.Rows.{next_brk, row}
use Rattle.machine_world.specs.Recordings.{room_in}
use Rattle.machine_world.specs.Event.{Trace, Outcome, went, strays, full, with_space, counted_in, noted, departed, ended, number_of, args_of, entry_of, item_of, call_access, replied, replied_world, maps_file, room_for, served, put, put_got, waited, answered, exit_code, exited, is_exit, waitid, cloned, exec, classed, answer, asked, called, settled, at_process, by_process, in_space}
use Rattle.kept_parts.specs.declared.task.Task.{Task}
use Rattle.file_calls.specs.declared.call.Call.{Call}
use Rattle.file_calls.specs.declared.outcome.Outcome.{Outcome as Output}
use Rattle.file_calls.specs.Calls.{MadeBy, WaitsOn, IsChange, is_change, is_output, with_all, after, got_of}
use Rattle.kept_parts.specs.declared.effect.Effect.{Effect}
use Rattle.kept_parts.specs.declared.effect.Effect.TheVariants.{Answer, Yield, Break}
use Rattle.kept_parts.specs.declared.served.Served.{Served}
use Rattle.kept_parts.specs.declared.served.Served.TheVariants.{Replied, Ended, LogFull, Stray}
use Rattle.kept_parts.specs.Kept.{Kept}
use Rattle.kept_parts.specs.Regular.{Regular}
use Rattle.kept_parts.specs.Stands.{About, later, private_bytes, private_of, process_of, world_of, OthersSame}
use Rattle.call_bytes.specs.Puts.{stray_range, access_at}
use Rattle.kept_parts.specs.Serves.{Went, Answered, Serves}
use Rattle.kept_parts.specs.Recorded.{event_recorded, call_recorded, room_beside}
use Rattle.call_bytes.specs.declared.unread.Unread.TheVariants as unread
use Rattle.kept_parts.specs.Calls.{LivesIn, IsCall, Made, Changed, output_reply, Gave, RoomFor, reply_of, ask_in, value_of, maps_by, served_by, noted_entry, noted_call, held_as, after_reply, after_exit, Caller, asked_by}
use Rattle.std.proofs.lemmas.Option.{same_Some}
use Rattle.call_bytes.proofs.Puts.{put_all, put_strays}
use Rattle.kept_parts.proofs.Replies.QuietRows.{Quiet}
use Rattle.kept_parts.proofs.Common.Recorded.{maps_by_none, maps_none, room_plain, room_never}
use Rattle.kept_parts.proofs.Common.FoundInWorld.{find_space, find_process}
use Rattle.kept_parts.proofs.Common.RunningProcess.{value_found, runs_in}
use Rattle.std.proofs.lemmas.Bool.{false≢true}
use Rattle.vfork_exec.proofs.Keyed.{eqb_other}
use Rattle.kept_parts.proofs.Common.NextWorlds.{moved_world, moved_lives, gone_world, gone_dead}

-- ---- the process and its space in the world

module _ (a : About) (k : Kept) (pid : ℕ) (e : Entry Task) (h : Held) (runs : LivesIn k pid e h) where
  pub process_there : find pid_of pid (world_of a k).procs ≡ Some (process_of e)
  unfolding world_of
  process_there = find_process pid k.procs.entries ∙ ap (option_map process_of) runs.lives

  pub space_there : find id_of e.value.space (world_of a k).spaces ≡ Some (record { id = e.value.space; space = private_of k.mem h })
  unfolding world_of
  space_there = find_space k.mem k.spaces e.value.space h runs.home

  pub acts_is : (act : Process → Space → Outcome) → at_process (world_of a k) pid act ≡ act (process_of e) (private_of k.mem h)
  unfolding at_process
  acts_is act =
      ap (λ (o : Option Process). by_process (world_of a k).spaces act o) process_there
      ∙ ap (λ (o : Option LiveSpace). in_space act (process_of e) o) space_there

  pub called_is : called (world_of a k) pid ≡ settled (answer (world_of a k) (process_of e) (private_of k.mem h))
  unfolding called
  called_is = acts_is (λ p s. settled (answer (world_of a k) p s))

-- the bytes that are read
answer_is : (w : World) (p : Process) (s : Space) (found : Result (List ℕ) Span) → sent (number_of p.regs) (args_of p.regs) s.bytes ≡ found → answer w p s ≡ asked w p s found
unfolding answer
answer_is w p s found is = ap (asked w p s) is

-- the call strays
stray_serves : (a : About) (k : Kept) (pid : ℕ) (e : Entry Task) (h : Held) → LivesIn k pid e h → (span : Span) →
    sent (number_of e.value.regs) (args_of e.value.regs) (private_bytes k.mem h) ≡ Err span → called (world_of a k) pid ≡ strays (call_access (process_of e) span)
unfolding settled
stray_serves a k pid e h runs span is = called_is a k pid e h runs ∙ ap settled (answer_is (world_of a k) (process_of e) (private_of k.mem h) (Err span) is)

-- ---- classes

class_exit : (w : World) (a : Ask) → is_exit a.number ≡ true → classed w a ≡ exited w a
class_exit w a exits = rw exits refl

-- a number of no class of its own
pub record IsRow (n : ℕ) : Type 0 where
  pub exits : is_exit n ≡ false
  pub n95 : (n == 95) ≡ false
  pub n220 : (n == 220) ≡ false
  pub n221 : (n == 221) ≡ false

class_row : (w : World) (a : Ask) (r : Row) → IsRow a.number → row a ≡ r → classed w a ≡ answered w a r
class_row w a r c is =
    ap (λ (b : Bool). if b then exited w a else if a.number == 95 then waitid w a else if a.number == 220 then cloned w a else if a.number == 221 then exec w a else answered w a (row a)) c.exits
    ∙ ap (λ (b : Bool). if b then waitid w a else if a.number == 220 then cloned w a else if a.number == 221 then exec w a else answered w a (row a)) c.n95
    ∙ ap (λ (b : Bool). if b then cloned w a else if a.number == 221 then exec w a else answered w a (row a)) c.n220
    ∙ ap (λ (b : Bool). if b then exec w a else answered w a (row a)) c.n221
    ∙ ap (answered w a) is

class_waitid : (w : World) (a : Ask) → a.number ≡ 95 → classed w a ≡ waitid w a
class_waitid w a is = rw is refl

class_clone : (w : World) (a : Ask) → a.number ≡ 220 → classed w a ≡ cloned w a
class_clone w a is = rw is refl

class_exec : (w : World) (a : Ask) → a.number ≡ 221 → classed w a ≡ exec w a
class_exec w a is = rw is refl

-- a change or an output is a row
module _ (n : ℕ) (goes : is_exit n ≡ false) where
  pub plain_row : n ≢ 95 → n ≢ 220 → n ≢ 221 → IsRow n
  plain_row n95 n220 n221 = record { exits = goes; n95 = eqb_other n 95 n95; n220 = eqb_other n 220 n220; n221 = eqb_other n 221 n221 }

  isnt : (test : ℕ → Bool) (m : ℕ) → test n ≡ true → test m ≡ false → n ≢ m
  isnt test m holds fails same = false≢true (sym fails ∙ ap test (sym same) ∙ holds)

  pub change_row : is_change n ≡ true → IsRow n
  change_row is = plain_row (isnt is_change 95 is refl) (isnt is_change 220 is refl) (isnt is_change 221 is refl)

  pub output_row : is_output n ≡ true → IsRow n
  output_row is = plain_row (isnt is_output 95 is refl) (isnt is_output 220 is refl) (isnt is_output 221 is refl)

  pub number_row : (m : ℕ) → n ≡ m → (m == 95) ≡ false → (m == 220) ≡ false → (m == 221) ≡ false → IsRow n
  number_row m is n95 n220 n221 = record { exits = goes; n95 = ap (λ x. x == 95) is ∙ n95; n220 = ap (λ x. x == 220) is ∙ n220; n221 = ap (λ x. x == 221) is ∙ n221 }

-- a call that changes files is no mmap2
pub maps_none_changed : (call : Call) → IsChange call.number → (call.number == 222) ≡ false
maps_none_changed call is = eqb_other call.number 222 (isnt_change call.number is)
  where
    isnt_change : (n : ℕ) → IsChange n → n ≢ 222
    isnt_change n is same = false≢true (ap is_change (sym same) ∙ is)

-- a call that waits on a pipe is one
pub waits_is : (r : Row) (pipe : ℕ) → WaitsOn r (Some pipe) → r ≡ waits (OnPipe pipe)
waits_is (replies r) pipe is = absurd is
waits_is (waits state) pipe is = ap waits is

module _ (a : Ask) (pipe : ℕ) (is : WaitsOn (row a) (Some pipe)) where
  waits_at : (n : ℕ) → a.number ≡ n → WaitsOn (row (record a { number = n })) (Some pipe)
  waits_at n same = subst (λ (m : ℕ). WaitsOn (row (record a { number = m })) (Some pipe)) same is

  pub wait_row : is_exit a.number ≡ false → IsRow a.number
  unfolding row
  wait_row goes = plain_row a.number goes (λ same. waits_at 95 same) (λ same. waits_at 220 same) (λ same. waits_at 221 same)

-- ---- room in the log

served_when : (w : World) (a : Ask) (r : Reply) (bytes : Bytes) → room_for w a r ≡ true →
    served w a r bytes
    ≡ went (replied_world (record w { rest = r.rest }) a r bytes)
    (record { space = a.process.space; events = 1; items = item_of (entry_of a r.value r.got) bytes ∷ []; begins = None; over = r.over })
unfolding served
served_when w a r bytes room = rw room refl

served_full : (w : World) (a : Ask) (r : Reply) (bytes : Bytes) → room_for w a r ≡ false → served w a r bytes ≡ full
unfolding served
served_full w a r bytes room = rw room refl

exited_when : (w : World) (a : Ask) → room_in w (weight_of a.sent []) ≡ true →
    exited w a
    ≡ went (ended (noted (call_note (entry_of a 0 [])) (counted_in a.process.space w)) a.process (Exit (exit_code a)))
    (record { space = a.process.space; events = 1; items = record { entry = entry_of a 0 []; brought = [] } ∷ []; begins = None; over = true })
unfolding exited
exited_when w a room = rw room refl

exited_full : (w : World) (a : Ask) → room_in w (weight_of a.sent []) ≡ false → exited w a ≡ full
unfolding exited
exited_full w a room = rw room refl

room_there : (a : About) (k : Kept) (bytes : List ℕ) (b : Bool) → room_beside k (weight_of bytes []) ≡ b → room_in (world_of a k) (weight_of bytes []) ≡ b
unfolding world_of
room_there a k bytes b room = room

-- ---- what the parts are after it

-- it went, and the parts stand for the world that it gives
it_went : (a : About) (o : Outcome) (w : World) (t : Trace) (old new : Kept) (pid : ℕ) (s : Served) → o ≡ went w t → world_of (later 1 a) new ≡ w → Went t new pid s → Answered a o old new pid s
it_went a o w t old new pid s is now done = subst (λ (x : Outcome). Answered a x old new pid s) (sym is) (sym now, done)

went_by : (f : Effect) (ask : Ask) (t : Trace) (new : Kept) (pid : ℕ) → t.over ≡ (reply_of ask f).over → t.events ≡ 1 → Lives new.procs pid → Went t new pid (served_by f)
went_by (Answer value) ask t new pid over events lives = (over, events, lives)
went_by Yield ask t new pid over events lives = (over, events, lives)
went_by (Break to) ask t new pid over events lives = (over, events, lives)

same_entry : (p q n m : ℕ) (xs ys : List ℕ) (bytes : List ℕ) (value : ℕ) (got : List GotRange) → p ≡ q → n ≡ m → xs ≡ ys →
    ◌≡◌ {A = CallEntry} (record { pid = p; call = n; args = xs; sent = bytes; reply = value; got = got }) (record { pid = q; call = m; args = ys; sent = bytes; reply = value; got = got })
same_entry p q n m xs ys bytes value got e f g = λ i. record { pid = e i; call = f i; args = g i; sent = bytes; reply = value; got = got }

-- the files of the call are those of the parts
pub files_in : (a : About) (k : Kept) (e : Entry Task) (h : Held) (call : Call) {files : OpenFiles} → k.files ≡ files → (ask_in a k e h call).rest.files ≡ files
unfolding world_of
files_in a k e h call is = is

pub tree_in : (a : About) (k : Kept) (e : Entry Task) (h : Held) (call : Call) {tree : Inodes} → k.tree ≡ tree → (ask_in a k e h call).rest.tree ≡ tree
unfolding world_of
tree_in a k e h call is = is

module _ (a : About) (k : Kept) (e : Entry Task) (h : Held) (call : Call) (runs : LivesIn k call.pid e h) (is : IsCall e call) where
  -- a call without bytes weighs what it sends
  weighs : (bytes : List ℕ) (b : Bool) → room_beside k (length bytes) ≡ b → room_beside k (weight_of bytes []) ≡ b
  weighs bytes b room = ap (room_beside k) (add-zero (length bytes)) ∙ room

  pub entry_is : (value : ℕ) (got : List GotRange) → noted_entry call value got ≡ entry_of (ask_in a k e h call) value got
  entry_is value got = same_entry call.pid e.pid call.number (number_of e.value.regs) call.args (args_of e.value.regs) call.sent.items value got is.pid is.number is.args

  note_is : (value : ℕ) (got : List GotRange) → noted_call call value got ≡ call_note (entry_of (ask_in a k e h call) value got)
  note_is value got = ap call_note (entry_is value got)

  -- a call that maps no file has room where it has it for itself
  pub plain_room : (r : Reply) (b : Bool) → maps_file (noted_entry call r.value r.got) ≡ false → room_beside k (weight_of call.sent.items r.got) ≡ b →
      room_for (world_of a k) (ask_in a k e h call) r ≡ b
  plain_room r b plain room = room_plain a k e h call r b (ap maps_file (sym (entry_is r.value r.got)) ∙ plain) room

  pub call_answer : sent (number_of e.value.regs) (args_of e.value.regs) (private_bytes k.mem h) ≡ Ok call.sent.items →
      called (world_of a k) call.pid ≡ settled (classed (world_of a k) (ask_in a k e h call))
  call_answer reads = called_is a k call.pid e h runs ∙ ap settled (answer_is (world_of a k) (process_of e) (private_of k.mem h) (Ok call.sent.items) reads)

  -- ---- a reply

  abbrev ask : Ask
  ask = ask_in a k e h call

  -- which changes tree, files and console, and nothing else outside
  module _ (value : ℕ) (got : List GotRange) (tree : Inodes) (files : OpenFiles) (console : List ℕ) (space : Space) (over : Bool) where
    abbrev reply : Reply
    reply = record { value = value; got = got; rest = with_all ask.rest tree files console; space = space; over = over }

    answered_is : (found : Result Bytes Span) → put_got space.bytes (writable_in space.maps) got ≡ found →
        answered (world_of a k) ask (replies reply) ≡ put (world_of a k) ask reply found
    answered_is found = ap (put (world_of a k) ask reply)

    -- and the space: its bytes are those of memory, behind what the call writes
    module _ (mem : List ℕ) (rs : List Region) (pages : length rs ≡ length k.regions) (starts : List ℕ)
        (puts : put_got space.bytes (writable_in space.maps) got ≡ Ok (private_bytes mem (held_as h space)))
        (stays : record space { bytes = private_bytes mem (held_as h space) } ≡ private_of mem (held_as h space)) where
      abbrev then_space : Space
      then_space = record space { bytes = private_bytes mem (held_as h space) }

      abbrev then_state : Space → World
      then_state s = with_space (record (world_of a k) { rest = reply.rest }) (process_of e) (replied e.value.regs value) s

      abbrev then_kept : Kept
      then_kept = record (after_reply k e h call reply mem) { regions = rs; starts = starts }

      after_world : OthersSame k e.value.space mem → world_of (later 1 a) then_kept ≡ replied_world (record (world_of a k) { rest = reply.rest }) ask reply then_space.bytes
      unfolding world_of
      after_world others =
          ap (λ (w : World). record w { recording = call_recorded k.recording e.value.space (noted_entry call value got) space.bytes })
          (moved_world k call.pid e h runs (replied e.value.regs value) (held_as h space) mem others rs pages starts a 1 (noted_call call value got ∷ k.notes) tree files console)
          ∙ (λ i. record (then_state (sym stays i)) {
            notes = note_is value got i ∷ k.notes;
            events = a.events + 1;
            recording = call_recorded k.recording e.value.space (entry_is value got i) space.bytes;
          })

      pub reply_serves : OthersSame k e.value.space mem → room_for (world_of a k) ask reply ≡ true →
          (s : Served) → ((t : Trace) (new : Kept) → t.over ≡ over → t.events ≡ 1 → Lives new.procs call.pid → Went t new call.pid s) →
          Answered a (answered (world_of a k) ask (replies reply)) k then_kept call.pid s
      reply_serves others room s goes =
          let t : Trace = record { space = e.value.space; events = 1; items = item_of (entry_of ask value got) then_space.bytes ∷ []; begins = None; over = over } in
          it_went a (answered (world_of a k) ask (replies reply)) (replied_world (record (world_of a k) { rest = reply.rest }) ask reply then_space.bytes) t k then_kept call.pid s
          (answered_is (Ok then_space.bytes) puts ∙ served_when (world_of a k) ask reply then_space.bytes room)
          (after_world others)
          (goes t then_kept refl refl (moved_lives k call.pid e h runs (replied e.value.regs value) h k.mem))

    pub reply_full : (bytes : Bytes) → put_got space.bytes (writable_in space.maps) got ≡ Ok bytes → room_for (world_of a k) ask reply ≡ false →
        Answered a (answered (world_of a k) ask (replies reply)) k k call.pid LogFull
    reply_full bytes puts room = subst (λ (o : Outcome). Answered a o k k call.pid LogFull)
        (sym (answered_is (Ok bytes) puts ∙ served_full (world_of a k) ask reply bytes room)) refl

    pub reply_strays : (span : Span) → put_got space.bytes (writable_in space.maps) got ≡ Err span →
        Answered a (answered (world_of a k) ask (replies reply)) k k call.pid (Stray (access_at e.value.regs.pc span))
    reply_strays span puts = subst (λ (o : Outcome). Answered a o k k call.pid (Stray (access_at e.value.regs.pc span))) (sym (answered_is (Err span) puts)) (refl, refl)

  -- ---- by an effect

  module _ (f : Effect) where
    abbrev effect_reply : Reply
    effect_reply = reply_of ask f

    effect_shape : effect_reply ≡ reply effect_reply.value [] k.tree k.files k.console effect_reply.space effect_reply.over
    unfolding world_of
    effect_shape = shape f
      where
        shape : (g : Effect) → reply_of ask g ≡ reply (reply_of ask g).value [] k.tree k.files k.console (reply_of ask g).space (reply_of ask g).over
        shape (Answer value) = refl
        shape Yield = refl
        shape (Break to) = refl

    bytes_stay : (g : Effect) → ◌≡◌ {A = Result Bytes Span} (Ok (reply_of ask g).space.bytes) (Ok (private_bytes k.mem (held_as h (reply_of ask g).space)))
    unfolding private_bytes
    bytes_stay (Answer value) = refl
    bytes_stay Yield = refl
    bytes_stay (Break to) = refl

    space_stays : (g : Effect) → record (reply_of ask g).space { bytes = private_bytes k.mem (held_as h (reply_of ask g).space) } ≡ private_of k.mem (held_as h (reply_of ask g).space)
    space_stays (Answer value) = refl
    space_stays Yield = refl
    space_stays (Break to) = refl

    got_none : (g : Effect) → (reply_of ask g).got ≡ []
    got_none (Answer value) = refl
    got_none Yield = refl
    got_none (Break to) = refl

    value_is : (g : Effect) → value_of (next_brk (private_of k.mem h)) g ≡ (reply_of ask g).value
    value_is (Answer value) = refl
    value_is Yield = refl
    value_is (Break to) = refl

    weighs_alone : (b : Bool) → room_beside k (length call.sent.items) ≡ b → room_beside k (weight_of call.sent.items effect_reply.got) ≡ b
    weighs_alone b room = ap (λ (gots : List GotRange). room_beside k (weight_of call.sent.items gots)) (got_none f) ∙ weighs call.sent.items b room

    maps_no_file : maps_by call f ≡ false → maps_file (noted_entry call effect_reply.value effect_reply.got) ≡ false
    maps_no_file plain =
        ap (λ (v : ℕ). maps_file (noted_entry call v effect_reply.got)) (sym (value_is f)) ∙ maps_by_none call f (next_brk (private_of k.mem h)) effect_reply.got plain

    pub effect_serves : room_beside k (length call.sent.items) ≡ true → maps_by call f ≡ false →
        Answered a (answered (world_of a k) ask (replies effect_reply)) k (after_reply k e h call effect_reply k.mem) call.pid (served_by f)
    effect_serves room plain =
        subst (λ (r : Reply). Answered a (answered (world_of a k) ask (replies r)) k (after_reply k e h call r k.mem) call.pid (served_by f)) (sym effect_shape)
        (reply_serves effect_reply.value [] k.tree k.files k.console effect_reply.space effect_reply.over k.mem k.regions refl k.starts (bytes_stay f) (space_stays f) (λ j o other there. refl)
        (subst (λ (r : Reply). room_for (world_of a k) ask r ≡ true) effect_shape (plain_room effect_reply true (maps_no_file plain) (weighs_alone true room))) (served_by f) (λ t n. went_by f ask t n call.pid))

    pub effect_full : room_beside k (length call.sent.items) ≡ false → Answered a (answered (world_of a k) ask (replies effect_reply)) k k call.pid LogFull
    effect_full room =
        subst (λ (r : Reply). Answered a (answered (world_of a k) ask (replies r)) k k call.pid LogFull) (sym effect_shape)
        (reply_full effect_reply.value [] k.tree k.files k.console effect_reply.space effect_reply.over effect_reply.space.bytes refl
        (subst (λ (r : Reply). room_for (world_of a k) ask r ≡ false) effect_shape (room_never a k e h call effect_reply (weighs_alone false room))))

  -- ---- by a change of files

  pub change_serves : (rows : Row) (new : Kept) → Changed a k e h call rows new → RoomFor (world_of a k) (ask_in a k e h call) rows →
      Answered a (answered (world_of a k) ask rows) k new call.pid Replied
  change_serves rows new c room =
      let r = c.reply in
      let g : Held = held_as h r.space in
      let shape : r ≡ reply r.value [] r.rest.tree r.rest.files r.rest.console r.space false =
      (λ i. record { value = r.value; got = c.got i; rest = c.rest i; space = r.space; over = c.over i }) in
      let served = reply_serves r.value [] r.rest.tree r.rest.files r.rest.console r.space false new.mem new.regions c.pages new.starts
      (ap (λ (s : Space). Ok s.bytes) c.space) (ap (λ (s : Space). record s { bytes = private_bytes new.mem g }) c.space) c.others
      (subst (λ (x : Reply). room_for (world_of a k) ask x ≡ true) shape (room r c.replies)) Replied (λ t n over events lives. (over, events, lives)) in
      let by_reply = subst (λ (x : Reply). Answered a (answered (world_of a k) ask (replies x)) k (record (after_reply k e h call x new.mem) { regions = new.regions; starts = new.starts }) call.pid Replied) (sym shape) served in
      let by_new = subst (λ (x : Kept). Answered a (answered (world_of a k) ask (replies r)) k x call.pid Replied) (sym c.after) by_reply in
      subst (λ (x : Row). Answered a (answered (world_of a k) ask x) k new call.pid Replied) (sym c.replies) by_new

  -- where a call changes no file's mapping there is room for it where it has it for itself
  pub room_for_row : (rows : Row) → Quiet rows → (call.number == 222) ≡ false → room_beside k (length call.sent.items) ≡ true → RoomFor (world_of a k) (ask_in a k e h call) rows
  room_for_row rows quiet plain room = λ r is.
      plain_room r true (maps_none call r.value r.got plain)
      (ap (λ (gots : List GotRange). room_beside k (weight_of call.sent.items gots)) (quiet_got r (subst Quiet is quiet)) ∙ weighs call.sent.items true room)
    where
      quiet_got : (r : Reply) → Quiet (replies r) → r.got ≡ []
      quiet_got r got = got

  -- the log has no room for the call with what it brings
  pub brings_full : (rows : Row) → Quiet rows → ((r : Reply) → rows ≡ replies r → room_for (world_of a k) (ask_in a k e h call) r ≡ false) →
      Answered a (answered (world_of a k) ask rows) k k call.pid LogFull
  brings_full rows quiet room = by_row rows quiet room
    where
      by_row : (x : Row) → Quiet x → ((r : Reply) → x ≡ replies r → room_for (world_of a k) ask r ≡ false) → Answered a (answered (world_of a k) ask x) k k call.pid LogFull
      by_row (replies r) got none = subst (λ (o : Outcome). Answered a o k k call.pid LogFull) (sym is_full) refl
        where
          is_full : answered (world_of a k) ask (replies r) ≡ full
          is_full =
              ap (λ (gots : List GotRange). put (world_of a k) ask r (put_got r.space.bytes (writable_in r.space.maps) gots)) got
              ∙ served_full (world_of a k) ask r r.space.bytes (none r refl)
      by_row (waits who) quiet none = absurd quiet

  -- nor for the call alone
  pub quiet_full : (rows : Row) → Quiet rows → room_beside k (length call.sent.items) ≡ false → Answered a (answered (world_of a k) ask rows) k k call.pid LogFull
  quiet_full rows quiet room = brings_full rows quiet (λ r is.
      room_never a k e h call r (ap (λ (gots : List GotRange). room_beside k (weight_of call.sent.items gots)) (quiet_got r (subst Quiet is quiet)) ∙ weighs call.sent.items false room))
    where
      quiet_got : (r : Reply) → Quiet (replies r) → r.got ≡ []
      quiet_got r got = got

  -- ---- by an output

  module _ (o : Output) where
    abbrev files_then : OpenFiles
    files_then = after o.then e.value.table k.files

    given_shape : output_reply ask o ≡ reply o.value (got_of o) k.tree files_then k.console (private_of k.mem h) false
    unfolding world_of
    given_shape = refl

    private_is : (mem : List ℕ) → record (private_of k.mem h) { bytes = private_bytes mem h } ≡ private_of mem h
    private_is mem = refl

    output_room : (b : Bool) → (call.number == 222) ≡ false → room_beside k (weight_of call.sent.items (got_of o)) ≡ b → room_for (world_of a k) (ask_in a k e h call) (output_reply ask o) ≡ b
    output_room b plain room = plain_room (output_reply ask o) b (maps_none call o.value (got_of o) plain) room

    pub output_serves : (new : Kept) → Gave a k e h call o new → (call.number == 222) ≡ false → room_beside k (weight_of call.sent.items (got_of o)) ≡ true →
        Answered a (answered (world_of a k) ask (replies (output_reply ask o))) k new call.pid Replied
    output_serves new c plain room =
        let served = reply_serves o.value (got_of o) k.tree files_then k.console (private_of k.mem h) false new.mem k.regions refl k.starts c.put (private_is new.mem) c.others
        (subst (λ (x : Reply). room_for (world_of a k) ask x ≡ true) given_shape (output_room true plain room)) Replied (λ t n over events lives. (over, events, lives)) in
        let by_reply = subst (λ (x : Reply). Answered a (answered (world_of a k) ask (replies x)) k (after_reply k e h call x new.mem) call.pid Replied) (sym given_shape) served in
        subst (λ (x : Kept). Answered a (answered (world_of a k) ask (replies (output_reply ask o))) k x call.pid Replied) (sym c.after) by_reply

    pub output_full : stray_range (writable_in h.maps) (got_of o) ≡ None → room_beside k (weight_of call.sent.items (got_of o)) ≡ false →
        Answered a (answered (world_of a k) ask (replies (output_reply ask o))) k k call.pid LogFull
    output_full fits room =
        let all = put_all (private_bytes k.mem h) (writable_in h.maps) (got_of o) fits in
        subst (λ (x : Reply). Answered a (answered (world_of a k) ask (replies x)) k k call.pid LogFull) (sym given_shape)
        (reply_full o.value (got_of o) k.tree files_then k.console (private_of k.mem h) false all.0 all.1
        (subst (λ (x : Reply). room_for (world_of a k) ask x ≡ false) given_shape (room_never a k e h call (output_reply ask o) room)))

    pub output_strays : (access : Access) → Some access ≡ option_map (access_at e.value.regs.pc) (stray_range (writable_in h.maps) (got_of o)) →
        Answered a (answered (world_of a k) ask (replies (output_reply ask o))) k k call.pid (Stray access)
    output_strays access is = by_span (stray_range (writable_in h.maps) (got_of o)) refl is
      where
        by_span : (found : Option Span) → stray_range (writable_in h.maps) (got_of o) ≡ found → Some access ≡ option_map (access_at e.value.regs.pc) found →
            Answered a (answered (world_of a k) ask (replies (output_reply ask o))) k k call.pid (Stray access)
        by_span None there is = absurd cc
        by_span (Some span) there is =
            let seen : access_at e.value.regs.pc span ≡ access = same_Some _ _ (sym is) in
            subst (λ (x : Access). Answered a (answered (world_of a k) ask (replies (output_reply ask o))) k k call.pid (Stray x)) seen
            (subst (λ (x : Reply). Answered a (answered (world_of a k) ask (replies x)) k k call.pid (Stray (access_at e.value.regs.pc span))) (sym given_shape)
            (reply_strays o.value (got_of o) k.tree files_then k.console (private_of k.mem h) false span (put_strays (private_bytes k.mem h) (writable_in h.maps) (got_of o) span there)))

    -- it is the row of the call
    pub output_answers : (result : Result Served AllocError) (new : Kept) → row ask ≡ replies (output_reply ask o) →
        Serves a (answered (world_of a k) ask (replies (output_reply ask o))) k new call.pid result → Serves a (answered (world_of a k) ask (row ask)) k new call.pid result
    output_answers result new gives = subst (λ (x : Row). Serves a (answered (world_of a k) ask x) k new call.pid result) (sym gives)

  -- ---- an exit

  abbrev exit_how : How
  exit_how = Exit (slice_index call.args 0 % 256)

  exit_how_is : exit_how ≡ Exit (exit_code (ask_in a k e h call))
  unfolding register
  exit_how_is = ap (λ (xs : List ℕ). Exit (slice_index xs 0 % 256)) is.args

  after_exit_world : world_of (later 1 a) (after_exit k e h call)
      ≡ ended (noted (call_note (entry_of (ask_in a k e h call) 0 [])) (counted_in e.value.space (world_of a k))) (process_of e) (Exit (exit_code (ask_in a k e h call)))
  unfolding world_of ended
  after_exit_world =
      gone_world k call.pid e h runs exit_how a 1 (end_note call.pid exit_how ∷ noted_call call 0 [] ∷ k.notes) (event_recorded k.recording e.value.space) refl
      ∙ ap (λ (note : Note). record (departed (world_of a k) (process_of e) exit_how) { notes = end_note call.pid exit_how ∷ note ∷ k.notes; events = a.events + 1; recording = event_recorded k.recording e.value.space }) (note_is 0 [])
      ∙ ap (λ (pid : ℕ). record (departed (world_of a k) (process_of e) exit_how) {
        notes = end_note pid exit_how ∷ call_note (entry_of (ask_in a k e h call) 0 []) ∷ k.notes;
        events = a.events + 1;
        recording = event_recorded k.recording e.value.space;
      }) is.pid
      ∙ ap (λ (how : How). record (departed (world_of a k) (process_of e) how) {
        notes = end_note e.pid how ∷ call_note (entry_of (ask_in a k e h call) 0 []) ∷ k.notes;
        events = a.events + 1;
        recording = event_recorded k.recording e.value.space;
      }) exit_how_is

  pub exit_serves : room_beside k (length call.sent.items) ≡ true → Answered a (exited (world_of a k) (ask_in a k e h call)) k (after_exit k e h call) call.pid Ended
  exit_serves room =
      it_went a (exited (world_of a k) (ask_in a k e h call)) _
      (record { space = e.value.space; events = 1; items = record { entry = entry_of (ask_in a k e h call) 0 []; brought = [] } ∷ []; begins = None; over = true })
      k (after_exit k e h call) call.pid Ended
      (exited_when (world_of a k) (ask_in a k e h call) (room_there a k call.sent.items true (weighs call.sent.items true room)))
      after_exit_world
      (refl, refl, gone_dead k call.pid e h runs exit_how)

  pub exit_full : room_beside k (length call.sent.items) ≡ false → Answered a (exited (world_of a k) (ask_in a k e h call)) k k call.pid LogFull
  exit_full room = subst (λ (o : Outcome). Answered a o k k call.pid LogFull) (sym (exited_full (world_of a k) (ask_in a k e h call) (room_there a k call.sent.items false (weighs call.sent.items false room)))) refl

  -- ---- either

  pub made_by : MadeBy call (ask_in a k e h call)
  made_by = record { pid = sym is.pid; parent = sym is.parent; table = sym is.table; number = sym is.number; args = sym is.args; sent = refl }

  module _ (new : Kept) (result : Result Served AllocError) where
    by_outcome : (o : Outcome) → classed (world_of a k) (ask_in a k e h call) ≡ o → Serves a o k new call.pid result → Serves a (classed (world_of a k) (ask_in a k e h call)) k new call.pid result
    by_outcome o same serves = subst (λ (x : Outcome). Serves a x k new call.pid result) (sym same) serves

    pub exit_classed : is_exit call.number ≡ true → Serves a (exited (world_of a k) (ask_in a k e h call)) k new call.pid result → Serves a (classed (world_of a k) (ask_in a k e h call)) k new call.pid result
    exit_classed exits = by_outcome (exited (world_of a k) (ask_in a k e h call)) (class_exit (world_of a k) (ask_in a k e h call) (ap is_exit (sym is.number) ∙ exits))

    pub row_classed : IsRow call.number → Serves a (answered (world_of a k) ask (row ask)) k new call.pid result → Serves a (classed (world_of a k) (ask_in a k e h call)) k new call.pid result
    row_classed goes = by_outcome (answered (world_of a k) ask (row ask)) (class_row (world_of a k) ask (row ask) (subst IsRow is.number goes) refl)

    pub wait_classed : (pipe : ℕ) → is_exit call.number ≡ false → WaitsOn (row ask) (Some pipe) → Serves a (waited (world_of a k) (process_of e) (OnPipe pipe)) k new call.pid result →
        Serves a (classed (world_of a k) (ask_in a k e h call)) k new call.pid result
    wait_classed pipe goes waits_so = by_outcome (waited (world_of a k) (process_of e) (OnPipe pipe))
        (class_row (world_of a k) ask (waits (OnPipe pipe)) (wait_row ask pipe waits_so (ap is_exit (sym is.number) ∙ goes)) (waits_is (row ask) pipe waits_so))

    pub effect_classed : (f : Effect) → IsRow call.number → row ask ≡ replies (reply_of ask f) →
        Serves a (answered (world_of a k) (ask_in a k e h call) (replies (reply_of (ask_in a k e h call) f))) k new call.pid result → Serves a (classed (world_of a k) (ask_in a k e h call)) k new call.pid result
    effect_classed f goes rows = by_outcome (answered (world_of a k) (ask_in a k e h call) (replies (reply_of (ask_in a k e h call) f)))
        (class_row (world_of a k) (ask_in a k e h call) (replies (reply_of (ask_in a k e h call) f)) (subst IsRow is.number goes) rows)

    pub waitid_classed : call.number ≡ 95 → Serves a (waitid (world_of a k) (ask_in a k e h call)) k new call.pid result → Serves a (classed (world_of a k) (ask_in a k e h call)) k new call.pid result
    waitid_classed same = by_outcome (waitid (world_of a k) (ask_in a k e h call)) (class_waitid (world_of a k) (ask_in a k e h call) (sym is.number ∙ same))

    pub clone_classed : call.number ≡ 220 → Serves a (cloned (world_of a k) (ask_in a k e h call)) k new call.pid result → Serves a (classed (world_of a k) (ask_in a k e h call)) k new call.pid result
    clone_classed same = by_outcome (cloned (world_of a k) (ask_in a k e h call)) (class_clone (world_of a k) (ask_in a k e h call) (sym is.number ∙ same))

    pub exec_classed : call.number ≡ 221 → Serves a (exec (world_of a k) (ask_in a k e h call)) k new call.pid result → Serves a (classed (world_of a k) (ask_in a k e h call)) k new call.pid result
    exec_classed same = by_outcome (exec (world_of a k) (ask_in a k e h call)) (class_exec (world_of a k) (ask_in a k e h call) (sym is.number ∙ same))

-- ---- the whole call

module _ (a : About) (k : Kept) (pid : ℕ) (regular : Regular k) (lives : Lives k.procs pid) where
  pub serve_call : (call : Call) → call.pid ≡ pid → ((e : Entry Task) → (h : Held) → LivesIn k pid e h → Made (private_bytes k.mem h) e (Ok call)) → (new : Kept) (result : Result Served AllocError) →
      ((caller : Caller k call) → Serves a (settled (classed (world_of a k) (asked_by a caller))) k new call.pid result) →
      Serves a (called (world_of a k) pid) k new pid result
  serve_call call same made new result serves =
      let r = runs_in k pid regular lives in
      let e : Entry Task = r.0 in
      let h : Held = r.1.0 in
      let at = made e h r.1.1 in
      let runs : LivesIn k call.pid e h = subst (λ (p : ℕ). LivesIn k p e h) (sym same) r.1.1 in
      let done = subst (λ (o : Outcome). Serves a o k new call.pid result) (sym (call_answer a k e h call runs at.0 at.1)) (serves (record { entry = e; held = h; runs = runs; stands = at.0 })) in
      subst (λ (p : ℕ). Serves a (called (world_of a k) p) k new p result) same done

  pub serve_stray : (t : Task) → value_at k.procs pid ≡ Some t → (span : Span) →
      ((e : Entry Task) → (h : Held) → LivesIn k pid e h → Made (private_bytes k.mem h) e (Err (unread.Stray span.addr span.len))) →
      Answered a (called (world_of a k) pid) k k pid (Stray (record { pc = t.regs.pc; addr = span.addr; len = span.len; kind = access_kind.Call }))
  serve_stray t kept span made =
      let r = runs_in k pid regular lives in
      let e : Entry Task = r.0 in
      let h : Held = r.1.0 in
      let seen : Access = record { pc = t.regs.pc; addr = span.addr; len = span.len; kind = access_kind.Call } in
      let at : seen ≡ call_access (process_of e) span =
      ap (λ (x : Task). record { pc = x.regs.pc; addr = span.addr; len = span.len; kind = access_kind.Call }) (value_found k.procs pid e r.1.1.lives t kept) in
      subst (λ (o : Outcome). Answered a o k k pid (Stray seen)) (sym (stray_serves a k pid e h r.1.1 span (made e h r.1.1))) (at, refl)

-- ---- a note alone

pub noted_world : (a : About) (k : Kept) (note : Note) (notes : List Note) → notes ≡ note ∷ k.notes → world_of a (record k { notes = notes }) ≡ noted note (world_of a k)
unfolding world_of
noted_world a k note notes is = ap (λ (ns : List Note). record (world_of a k) { notes = ns }) is
