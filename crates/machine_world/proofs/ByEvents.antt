-- What holds of the world and the trace behind each change that an event makes holds behind every event; and what every event keeps
-- is kept by turns and runs.
use Rattle.std.proofs.Common.{◌≡◌, ℕ, zero, suc, Bool, true, false, List, [], ◌∷◌, Option, Some, None, Result, Ok, Err, refl}
use Rattle.std.specs.Prelude.{◌==◌, not, if◌then◌else◌}
use Rattle.byte_words.specs.ByteMap.{Bytes}
use Rattle.rv32im_step.specs.declared.regs.Regs.{Regs}
use Rattle.byte_words.specs.declared.access.Access.{Access}
use Rattle.rv32im_step.specs.Meaning.{Meaning, next, call, trap, refused, meaning}
use Rattle.mmap_rules.specs.Space.{Space, writable_in}
use Rattle.call_log.specs.declared.how.How.TheVariants.{Exit, Signal}
use Rattle.call_log.specs.declared.errno.Errno.{Errno}
use Rattle.call_log.specs.Errno.{refusal}
use Rattle.call_log.specs.Notes.{GotRange, call_note, stray_note, weight_of}
use Rattle.call_log.specs.Strings.{ProgramStrings, program_strings}
use Rattle.call_log.specs.Sent.{Span, has_zero, sent}
use Rattle.flat_loader.specs.Original.{block_pages}
use Rattle.flat_loader.specs.Frame.{frame_fits}
use Rattle.flat_loader.specs.Begin.{Loading}
use Rattle.quantum_sched.specs.declared.Quantum.{Quantum}
use Rattle.quantum_sched.specs.Picked.{picked}
use Rattle.vfork_exec.specs.declared.family.Who.{Who}
use Rattle.vfork_exec.specs.declared.family.State.{State}
use Rattle.vfork_exec.specs.declared.family.State.TheVariants.{Waiting}
use Rattle.vfork_exec.specs.declared.family.Ended.{Ended}
use Rattle.vfork_exec.specs.declared.family.Waited.{Waited}
use Rattle.vfork_exec.specs.declared.family.Waited.TheVariants.{Child, NoneYet, Waits}
use Rattle.vfork_exec.specs.Keyed.{find}
use Rattle.vfork_exec.specs.Families.{without_first}
use Rattle.machine_world.specs.World.{Process, LiveSpace, Rest, World, pid_of, id_of}
use Rattle.machine_world.specs.Families.{is_full, ready_pids}
use Rattle.machine_world.specs.Found.{Found, address_of, taken}
use Rattle.machine_world.specs.Free.{free}
use Rattle.machine_world.specs.Asks.{Ask, Reply, Row, replies, waits, arg, gives, refuses}
use Rattle.machine_world.specs.PathCalls.{path_of}
use Rattle.machine_world.specs.FamilyCalls.{who_of, waitid_fault, child_info, no_info, info_at, vfork_flags, runs}
use Rattle.machine_world.specs.Rows.{row}
use Rattle.machine_world.specs.Recordings.{room_in}
use Rattle.machine_world.specs.Event.{Trace, Outcome, went, strays, full, idle, with_space, with_state, counted, counted_in, noted, ended, stepped, trapped, number_of, args_of, put_got, ask_of, entry_of, item_of, plain_item, replied_world, room_for, served, put, waited, answered, exit_code, exited, is_exit, reaped, told_in, waitid_behind, waitid, with_child, forked, cloned, with_exec, load_of, executed, exec_at, exec_program, exec_strings, exec, classed, asked, answer, awake, settled, effect, in_space, by_process, at_process, event}
use Rattle.machine_world.specs.Turns.{Walk, End, remains_at, traced, turned, turn, going_on, quantum_turn, turns}
use Rattle.machine_world.proofs.EachChange.{Answers}

-- ---- an outcome

-- where the event was carried out
abbrev pub Went : (World → Trace → Type 0) → Outcome → Type 0
Went P (went now t) = P now t
Went P (strays access) = Unit {0}
Went P full = Unit {0}
Went P idle = Unit {0}

went_test : (P : World → Trace → Type 0) (b : Bool) (x y : Outcome) → (b ≡ true → Went P x) → (b ≡ false → Went P y) → Went P (if b then x else y)
went_test P true x y hx hy = hx refl
went_test P false x y hx hy = hy refl

-- ---- one event

abbrev pub own_trace : Process → Trace
own_trace p = record { space = p.space; events = 1; items = []; begins = None; over = false }

abbrev pub call_trace : Ask → ℕ → Bool → Trace
call_trace a value over = record { space = a.process.space; events = 1; items = plain_item (entry_of a value []) ∷ []; begins = None; over = over }

abbrev pub loading_of : Found → ProgramStrings → ℕ → Loading
loading_of f s page = record { original = f.original; block = address_of page; args = s.args; env = s.env }

-- P holds behind each change that a call makes, where Q holds of what its row leaves outside of the space
pub record Answered (P : World → Trace → Type 0) (Q : Rest → Type 0) (w : World) (a : Ask) : Type 0 where
  -- a reply; waitid may have told of a child that ended
  pub reply : (ended : List Ended) (r : Reply) (m : Bytes) → Q r.rest → room_for w a r ≡ true
      → P (replied_world (record w { ended = ended; rest = r.rest }) a r m)
      (record { space = a.process.space; events = 1; items = item_of (entry_of a r.value r.got) m ∷ []; begins = None; over = r.over })
  pub wait : (state : State) → P (counted (with_state w a.process.pid state)) (record { space = a.process.space; events = 0; items = []; begins = None; over = true })
  pub exit : room_in w (weight_of a.sent []) ≡ true
      → P (ended (noted (call_note (entry_of a 0 [])) (counted_in a.process.space w)) a.process (Exit (exit_code a))) (call_trace a 0 true)
  pub fork : is_full w ≡ false → room_in w (weight_of a.sent []) ≡ true
      → P (noted (call_note (entry_of a w.next_pid [])) (counted_in a.process.space (with_child w a))) (call_trace a w.next_pid true)
  pub load : (f : Found) (s : ProgramStrings) (page : ℕ) → runs w.rest (path_of a) ≡ Ok f → frame_fits f.original s.args s.env ≡ true
      → room_in w (weight_of a.sent []) ≡ true
      → P (noted (load_of a.process f.index (loading_of f s page)) (noted (call_note (entry_of a 0 [])) (counted_in a.process.space (with_exec w a.process (loading_of f s page)))))
      (record (call_trace a 0 false) { begins = Some (record { loading = loading_of f s page; pid = a.process.pid }) })

module _ (P : World → Trace → Type 0) (Q : Rest → Type 0) (w : World) (a : Ask) (each : Answered P Q w a) (same : Q a.rest) where
  by_served : (ended : List Ended) (r : Reply) (m : Bytes) → Q r.rest → Went P (served (record w { ended = ended }) a r m)
  unfolding served
  by_served ended r m holds = went_test P (room_for w a r) (went _ _) full (λ room. each.reply ended r m holds room) (λ no. tt)

  by_put : (ended : List Ended) (r : Reply) (o : Result Bytes Span) → Q r.rest → Went P (put (record w { ended = ended }) a r o)
  by_put ended r (Ok m) holds = by_served ended r m holds
  by_put ended r (Err span) holds = tt

  by_gives : (ended : List Ended) (value : ℕ) (got : List GotRange) → Went P (answered (record w { ended = ended }) a (gives a value got a.rest))
  by_gives ended value got =
      by_put ended (record { value = value; got = got; rest = a.rest; space = a.space; over = false }) (put_got a.space.bytes (writable_in a.space.maps) got) same

  by_refuses : (errno : Errno) → Went P (answered w a (refuses a errno))
  by_refuses errno = by_gives w.ended (refusal errno) []

  by_waited : (state : State) → Went P (waited w a.process state)
  unfolding waited
  by_waited state = each.wait state

  pub by_answered : (r : Row) → Answers Q r → Went P (answered w a r)
  by_answered (replies r) holds = by_put w.ended r (put_got r.space.bytes (writable_in r.space.maps) r.got) holds
  by_answered (waits state) holds = by_waited state

  by_exited : Went P (exited w a)
  unfolding exited
  by_exited = went_test P (room_in w (weight_of a.sent [])) (went _ _) full each.exit (λ no. tt)

  by_reaped : (who : Who) (o : Result Waited Errno) → Went P (reaped w a who o)
  by_reaped who (Ok (Child pid how)) = by_gives (without_first a.process.pid who w.ended) 0 (info_at (arg a 2) (child_info pid how))
  by_reaped who (Ok NoneYet) = by_gives w.ended 0 (info_at (arg a 2) no_info)
  by_reaped who (Ok Waits) = by_waited (Waiting who)
  by_reaped who (Err errno) = by_refuses errno

  by_fault : (o : Option Errno) → Went P (waitid_behind w a o)
  by_fault (Some errno) = by_refuses errno
  by_fault None = by_reaped (who_of a) (told_in w a)

  by_waitid : Went P (waitid w a)
  unfolding waitid
  by_waitid = by_fault (waitid_fault a)

  by_forked : is_full w ≡ false → Went P (forked w a)
  unfolding forked
  by_forked few = went_test P (room_in w (weight_of a.sent [])) (went _ _) full (each.fork few) (λ no. tt)

  by_cloned : Went P (cloned w a)
  unfolding cloned
  by_cloned =
      went_test P (not (arg a 0 == vfork_flags)) (answered w a (refuses a _)) _ (λ is. by_refuses _)
      (λ is. went_test P (is_full w) (answered w a (refuses a _)) (forked w a) (λ many. by_refuses _) by_forked)

  module _ (s : ProgramStrings) where
    by_page : (f : Found) → runs w.rest (path_of a) ≡ Ok f → frame_fits f.original s.args s.env ≡ true → (o : Option ℕ) → Went P (exec_at w a f s o)
    unfolding executed
    by_page f is fits None = by_refuses _
    by_page f is fits (Some page) = went_test P (room_in w (weight_of a.sent [])) (went _ _) full (λ room. each.load f s page is fits room) (λ no. tt)

    by_program : (o : Result Found Errno) → runs w.rest (path_of a) ≡ o → Went P (exec_program w a s o)
    by_program (Ok f) is =
        went_test P (frame_fits f.original s.args s.env) (exec_at w a f s (taken w (block_pages f.original) (free w))) (answered w a (refuses a _))
        (λ fits. by_page f is fits (taken w (block_pages f.original) (free w))) (λ no. by_refuses _)
    by_program (Err errno) is = by_refuses errno

  by_strings : (o : Option ProgramStrings) → Went P (exec_strings w a o)
  by_strings (Some s) = by_program s (runs w.rest (path_of a)) refl
  by_strings None = by_refuses _

  by_exec : Went P (exec w a)
  unfolding exec
  by_exec =
      went_test P (has_zero a.sent) (exec_strings w a (program_strings a.sent (arg a 1) (arg a 2))) (answered w a (refuses a _))
      (λ is. by_strings (program_strings a.sent (arg a 1) (arg a 2))) (λ no. by_refuses _)

  pub by_classed : Answers Q (row a) → Went P (classed w a)
  by_classed rows =
      went_test P (is_exit a.number) (exited w a) _ (λ is. by_exited)
      (λ no. went_test P (a.number == 95) (waitid w a) _ (λ is. by_waitid)
      (λ no. went_test P (a.number == 220) (cloned w a) _ (λ is. by_cloned)
      (λ no. went_test P (a.number == 221) (exec w a) (answered w a (row a)) (λ is. by_exec)
      (λ no. by_answered (row a) rows))))

-- and behind an instruction, and the end by a signal
pub record Happened (P : World → Trace → Type 0) (Q : Rest → Type 0) (w : World) (p : Process) (s : Space) : Type 0 where
  pub step : (regs : Regs) (bytes : Bytes) → P (counted_in p.space (with_space w p regs (record s { bytes = bytes }))) (own_trace p)
  pub trap : (signal : ℕ) → P (counted_in p.space (ended w p (Signal signal))) (record (own_trace p) { over = true })
  pub calls : (bytes : List ℕ) → Answered P Q w (ask_of w p s bytes)

pub by_settled : (P : World → Trace → Type 0) → ((now : World) (t : Trace) → P now t → P (awake now) t) → (o : Outcome) → Went P o → Went P (settled o)
unfolding settled
by_settled P wakes (went now t) h = wakes now t h
by_settled P wakes (strays access) h = tt
by_settled P wakes full h = tt
by_settled P wakes idle h = tt

-- `wakes`: it stays where those go on who wait on pipes
module _ (P : World → Trace → Type 0) (Q : Rest → Type 0) (wakes : (now : World) (t : Trace) → P now t → P (awake now) t) (w : World) (same : Q w.rest) where
  module _ (p : Process) (s : Space) (each : Happened P Q w p s) (rows : (bytes : List ℕ) → Answers Q (row (ask_of w p s bytes))) where
    by_asked : (o : Result (List ℕ) Span) → Went P (asked w p s o)
    by_asked (Ok bytes) = by_classed P Q w (ask_of w p s bytes) (each.calls bytes) same (rows bytes)
    by_asked (Err span) = tt

    pub by_effect : (m : Meaning) → Went P (effect w p s m)
    unfolding stepped trapped answer
    by_effect (next regs bytes) = each.step regs bytes
    by_effect (trap signal) = by_settled P wakes (trapped w p signal) (each.trap signal)
    by_effect (refused access) = tt
    by_effect call = by_settled P wakes (answer w p s) (by_asked (sent (number_of p.regs) (args_of p.regs) s.bytes))

  module _ (pid : ℕ) (each : (p : Process) (s : LiveSpace) → find pid_of pid w.procs ≡ Some p → find id_of p.space w.spaces ≡ Some s → Happened P Q w p s.space)
      (rows : (p : Process) (s : Space) (bytes : List ℕ) → Answers Q (row (ask_of w p s bytes))) where
    by_space : (p : Process) → find pid_of pid w.procs ≡ Some p → (o : Option LiveSpace) → find id_of p.space w.spaces ≡ o
        → Went P (in_space (λ q s. effect w q s (meaning q.regs s.bytes (writable_in s.maps))) p o)
    by_space p lives None has = tt
    by_space p lives (Some s) has = by_effect p s.space (each p s lives has) (rows p s.space) (meaning p.regs s.space.bytes (writable_in s.space.maps))

    by_found : (o : Option Process) → find pid_of pid w.procs ≡ o → Went P (by_process w.spaces (λ q s. effect w q s (meaning q.regs s.bytes (writable_in s.maps))) o)
    by_found None lives = tt
    by_found (Some p) lives = by_space p lives (find id_of p.space w.spaces) refl

    pub by_event : Went P (event w pid)
    unfolding event at_process
    by_event = by_found (find pid_of pid w.procs) refl

-- ---- turns

-- the event keeps it
abbrev pub Keeps : (World → Type 0) → Outcome → Type 0
Keeps P = Went (λ now t. P now)

module _ (P : World → Type 0) (events : (w : World) (pid : ℕ) → P w → Keeps P (event w pid)) (strayed : (w : World) (pid : ℕ) (access : Access) → P w → P (noted (stray_note pid access) w)) where
  by_turned : (more : World → Walk) (w : World) (pid : ℕ) (o : Outcome) → P w → Keeps P o → ((v : World) → P v → P (more v).world) → P (turned more w pid o).world
  by_turned more w pid (went now t) h kept on = over t.over
    where
      over : (b : Bool) → P (traced t (if b then remains_at now None else more now)).world
      over true = kept
      over false = on now kept
  by_turned more w pid (strays access) h kept on = strayed w pid access h
  by_turned more w pid full h kept on = h
  by_turned more w pid idle h kept on = h

  pub by_turn : (count pid : ℕ) (w : World) → P w → P (turn count pid w).world
  unfolding turn
  by_turn zero pid w h = h
  by_turn (suc count) pid w h = by_turned (turn count pid) w pid (event w pid) h (events w pid h) (λ v holds. by_turn count pid v holds)

  by_quantum : (more : World → Walk) (w : World) (count : ℕ) (chosen : Option ℕ) → P w → ((v : World) → P v → P (more v).world) → P (quantum_turn more w count chosen).world
  by_quantum more w count None h on = h
  by_quantum more w count (Some pid) h on = goes (turn count pid w) (by_turn count pid w h)
    where
      goes : (walk : Walk) → P walk.world → P (going_on more walk).world
      goes walk holds = at walk.end
        where
          at : (end : Option End) → P (going_on more (record walk { end = end })).world
          at (Some end) = holds
          at None = on walk.world holds

  pub by_turns : (quanta : List Quantum) (w : World) → P w → P (turns quanta w).world
  unfolding turns
  by_turns [] w h = h
  by_turns (q ∷ qs) w h = by_quantum (turns qs) w q.count (picked q.pick (ready_pids w.procs)) h (λ v holds. by_turns qs v holds)
