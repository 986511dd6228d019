-- The one memory of a run stays regular: at boot, and behind every event, turn and run, before the first stray access and behind it.
use Rattle.std.proofs.Common.{◌≡◌, ℕ, Bool, true, false, List, [], Option, Some, None, Result, Ok, Err, refl}
use Rattle.std.specs.Prelude.{if◌then◌else◌}
use Rattle.byte_words.specs.ByteMap.{Bytes}
use Rattle.byte_words.specs.declared.access.Access.{Access}
use Rattle.rv32im_step.specs.Meaning.{Meaning, next, call, trap, refused}
use Rattle.call_log.specs.Errno.{refusal}
use Rattle.call_log.specs.Notes.{GotRange}
use Rattle.call_log.specs.Sent.{Span, sent}
use Rattle.vfork_exec.specs.declared.family.State.{State}
use Rattle.vfork_exec.specs.declared.family.Ended.{Ended}
use Rattle.vfork_exec.specs.Keyed.{find}
use Rattle.flat_loader.specs.Alone.{number_of, args_of, put_got}
use Rattle.machine_world.specs.World.{Process, LiveSpace, World, pid_of, id_of}
use Rattle.machine_world.specs.Asks.{Ask, Reply, Row, replies, waits, gives}
use Rattle.machine_world.specs.Rows.{row}
use Rattle.machine_world.specs.Event.{Trace, Outcome, went, strays, full, idle, stepped, trapped, room_for, served, waited, ask_of, classed, awake}
use Rattle.machine_world.proofs.EachChange.{Answers}
use Rattle.machine_world.proofs.ByEvents.{Went, by_classed}
use Rattle.refusal_laws.specs.Bounded.{IsWithin, IsBounded}
use Rattle.refusal_laws.proofs.Lists.{each_map}
use Rattle.refusal_laws.proofs.Bounded.{bounded}
use Rattle.refusal_laws.proofs.Bounds.{AreBounded, InMemory, LeavesInMemory, parents_roused, keeps_stepped, keeps_trapped, keeps_waited, keeps_served, own, row_in_memory, keeps_classed}
use Rattle.refusal_laws.proofs.Runs.{boots_are_regular}
use Rattle.memory_world.specs.Physical.{Physical, in_memory, shown_space, showing, laid_behind, After, after, no_room, nobody, carried, settled_in, outside as outside_memory, killed, put_in, answered_in, asked_in, answer_in, effect_in, in_space_in, by_process_in, at_process_in, next_meaning, carried_out, first_stray_in, with_stray, event_in, first_memory, opening_in}
use Rattle.memory_world.specs.Courses.{IsShown}
use Rattle.memory_world.specs.After.{AfterIs, AfterHas}
use Rattle.memory_world.proofs.ByTurnsIn.{by_turn_in, by_run_in}
use Rattle.memory_world.proofs.Shows.{openings_show, events_show}
use Rattle.go_on_laws.specs.Marks.{HasNoMark}
use Rattle.go_on_laws.proofs.Marked.{openings_have_no_mark, events_have_no_mark}
use Rattle.refusals_in_memory.specs.Regular.{IsRegularIn, BootsAreRegularIn, EventsKeepRegularIn, TurnsKeepRegularIn, RunsKeepRegularIn}
use Rattle.refusals_in_memory.proofs.Answers.{EachAnswer, by_classed_in}
use Rattle.refusals_in_memory.proofs.Changes.{IsTidy, tidy_awake, Outside, outside, rows_outside, call_tidy, act_tidy}

-- ---- in two halves

tidy : (w : World) → IsBounded w → IsTidy w
tidy w h = record { most = h.most; pids = h.pids; given = h.given; counted = h.counted }

its : (w : World) → IsBounded w → AreBounded w
its w h = record { parents = h.parents; spaces = h.spaces }

joined : (w : World) → IsTidy w → AreBounded w → IsBounded w
joined w t b = record { most = t.most; pids = t.pids; given = t.given; parents = b.parents; spaces = b.spaces; counted = t.counted }

joined_in : (o : Outcome) → Went (λ now t. IsTidy now) o → Went (λ now t. AreBounded now) o → Went (λ now t. IsBounded now) o
joined_in (went now t) tidy bounds = joined now tidy bounds
joined_in (strays access) tidy bounds = tt
joined_in full tidy bounds = tt
joined_in idle tidy bounds = tt

-- ---- what isn't an answer

bounded_showing : (memory : Bytes) (w : World) → IsBounded w → IsBounded (showing memory w)
bounded_showing memory w h = record {
  most = h.most;
  pids = h.pids;
  given = h.given;
  parents = h.parents;
  spaces = each_map IsWithin (shown_space memory) (λ s is. record { break = record { brk = is.break.brk; high = is.break.high }; copies = is.copies }) w.spaces h.spaces;
  counted = record { counted = h.counted.counted; tables = h.counted.tables; calls = h.counted.calls };
}

bounded_awake : (w : World) → IsBounded w → IsBounded (awake w)
bounded_awake w h = joined (awake w) (tidy_awake w (tidy w h)) (record { parents = parents_roused w.rest.files.changed w.procs h.parents; spaces = h.spaces })

bounded_told : (ended : List Ended) (w : World) → IsBounded w → IsBounded (record w { ended = ended })
bounded_told ended w h = record {
  most = h.most;
  pids = h.pids;
  given = h.given;
  parents = h.parents;
  spaces = h.spaces;
  counted = record { counted = h.counted.counted; tables = h.counted.tables; calls = h.counted.calls };
}

-- the note of a stray access is that of no call
pub bounded_stray : (p : Physical) (pid : ℕ) (o : Option Access) → IsBounded p.world → IsBounded (with_stray pid o p).world
bounded_stray p pid None h = h
bounded_stray p pid (Some access) h = record {
  most = h.most;
  pids = h.pids;
  given = h.given;
  parents = h.parents;
  spaces = h.spaces;
  counted = record { counted = h.counted.counted; tables = h.counted.tables; calls = h.counted.calls };
}

bounded_settled : (x : After) → AfterHas IsBounded x → AfterHas IsBounded (settled_in x)
bounded_settled (after now over) h = bounded_awake now.world h
bounded_settled (no_room now) h = h
bounded_settled nobody h = h

bounded_carried : (p : Physical) (memory : Bytes) (o : Outcome) → IsBounded p.world → Went (λ now t. IsBounded now) o → AfterHas IsBounded (carried p memory o)
bounded_carried p memory (went now t) h kept = bounded_showing (laid_behind p memory now t) now kept
bounded_carried p memory (strays access) h kept = tt
bounded_carried p memory full h kept = h
bounded_carried p memory idle h kept = tt

-- ---- the answers of a process

tidy_if : (b : Bool) (now : World) (t : Trace) → (b ≡ true → IsTidy now) → Went (λ v t. IsTidy v) (if b then went now t else full)
tidy_if true now t h = h refl
tidy_if false now t h = tt

module _ (p : Physical) (h : IsBounded p.world) (pid : ℕ) (q : Process) (lives : find pid_of pid p.world.procs ≡ Some q) (s : LiveSpace) (has : find id_of q.space p.world.spaces ≡ Some s) where
  tidy_trapped : (signal : ℕ) → Went (λ now t. IsTidy now) (trapped p.world q signal)
  unfolding trapped
  tidy_trapped signal = (act_tidy p.world (tidy p.world h) q s.space).trap signal

  bounded_killed : (signal : ℕ) → AfterHas IsBounded (killed p q signal)
  bounded_killed signal = bounded_carried p p.memory (trapped p.world q signal) h (joined_in (trapped p.world q signal) (tidy_trapped signal) (keeps_trapped p.world (its p.world h) q signal))

  module _ (bytes : List ℕ) where
    abbrev a : Ask
    a = ask_of p.world q s.space bytes

    tidy_served : (r : Reply) (m : Bytes) → Outside p.world (tidy p.world h) r.rest → Went (λ now t. IsTidy now) (served p.world a r m)
    unfolding served
    tidy_served r m left =
        tidy_if (room_for p.world a r) _ _ (λ room. (call_tidy p.world (tidy p.world h) a).reply p.world.ended r m left room)

    tidy_waited : (state : State) → Went (λ now t. IsTidy now) (waited p.world q state)
    unfolding waited
    tidy_waited state = (call_tidy p.world (tidy p.world h) a).wait state

    bounded_waited : (state : State) → AfterHas IsBounded (carried p p.memory (waited p.world q state))
    bounded_waited state = bounded_carried p p.memory (waited p.world q state) h (joined_in (waited p.world q state) (tidy_waited state) (keeps_waited p.world (its p.world h) q state))

    bounded_put : (r : Reply) → Outside p.world (tidy p.world h) r.rest → InMemory r.space → (o : Result Bytes Span) → AfterHas IsBounded (put_in p a r o)
    bounded_put r left is (Ok memory) =
        bounded_carried p memory (served p.world a r r.space.bytes) h
        (joined_in (served p.world a r r.space.bytes) (tidy_served r r.space.bytes left) (keeps_served p.world (its p.world h) a r r.space.bytes is))
    bounded_put r left is (Err span) = bounded_killed outside_memory

    bounded_answered : (x : Row) → Answers (Outside p.world (tidy p.world h)) x → LeavesInMemory x → AfterHas IsBounded (answered_in p a x)
    bounded_answered (replies r) left is = bounded_put r left is (put_got p.memory (in_memory p.world) r.got)
    bounded_answered (waits state) left is = bounded_waited state

    bounded_gives : (value : ℕ) (got : List GotRange) → AfterHas IsBounded (answered_in p a (gives a value got p.world.rest))
    bounded_gives value got = bounded_answered (gives a value got p.world.rest) (outside p.world (tidy p.world h)) (own p.world h pid q lives s has)

-- ---- an event

module _ (p : Physical) (h : IsBounded p.world) (pid : ℕ) where
  module _ (q : Process) (lives : find pid_of pid p.world.procs ≡ Some q) (s : LiveSpace) (has : find id_of q.space p.world.spaces ≡ Some s) where
    each : (bytes : List ℕ) → EachAnswer (AfterHas IsBounded) p (ask_of p.world q s.space bytes)
    each bytes =
        let now : Ask = ask_of p.world q s.space bytes in
        let t : IsTidy p.world = tidy p.world h in
        record {
          refused = λ e other. bounded_gives p h pid q lives s has bytes (refusal e) [];
          row = bounded_answered p h pid q lives s has bytes (row now) (rows_outside p.world t q s.space bytes) (row_in_memory p.world h pid q lives s has bytes);
          calls =
              bounded_carried p p.memory (classed p.world now) h
              (joined_in (classed p.world now)
              (by_classed (λ v t. IsTidy v) (Outside p.world t) p.world now (call_tidy p.world t now) (outside p.world t) (rows_outside p.world t q s.space bytes))
              (keeps_classed p.world h pid q lives s has bytes));
          told = λ ended got. bounded_gives (record p { world = record p.world { ended = ended } }) (bounded_told ended p.world h) pid q lives s has bytes 0 got;
          waits = λ state. bounded_waited p h pid q lives s has bytes state;
          full = h;
        }

    bounded_asked : (o : Result (List ℕ) Span) → AfterHas IsBounded (asked_in p q s.space o)
    bounded_asked (Ok bytes) = by_classed_in (AfterHas IsBounded) p (ask_of p.world q s.space bytes) (each bytes)
    bounded_asked (Err span) = bounded_killed p h pid q lives s has outside_memory

    bounded_effect : (m : Meaning) → AfterHas IsBounded (effect_in p q s.space m)
    unfolding stepped answer_in
    bounded_effect (next regs memory) =
        bounded_showing memory _
        (joined _ ((act_tidy p.world (tidy p.world h) q s.space).step regs s.space.bytes)
        (keeps_stepped p.world (its p.world h) q s.space regs s.space.bytes (own p.world h pid q lives s has)))
    bounded_effect call = bounded_settled (answer_in p q s.space) (bounded_asked (sent (number_of q.regs) (args_of q.regs) p.memory))
    bounded_effect (trap signal) = bounded_settled (killed p q signal) (bounded_killed p h pid q lives s has signal)
    bounded_effect (refused access) = bounded_settled (killed p q outside_memory) (bounded_killed p h pid q lives s has outside_memory)

  bounded_space : (q : Process) → find pid_of pid p.world.procs ≡ Some q → (o : Option LiveSpace) → find id_of q.space p.world.spaces ≡ o
      → AfterHas IsBounded (in_space_in (λ r s. effect_in p r s (next_meaning p r)) q o)
  bounded_space q lives None has = tt
  bounded_space q lives (Some s) has = bounded_effect q lives s has (next_meaning p q)

  bounded_found : (o : Option Process) → find pid_of pid p.world.procs ≡ o → AfterHas IsBounded (by_process_in p.world.spaces (λ q s. effect_in p q s (next_meaning p q)) o)
  bounded_found None lives = tt
  bounded_found (Some q) lives = bounded_space q lives (find id_of q.space p.world.spaces) refl

  bounded_carried_out : AfterHas IsBounded (carried_out p pid)
  unfolding carried_out at_process_in
  bounded_carried_out = bounded_found (find pid_of pid p.world.procs) refl

bounded_event : (p : Physical) (pid : ℕ) → IsBounded p.world → AfterHas IsBounded (event_in p pid)
unfolding event_in
bounded_event p pid h = bounded_carried_out (with_stray pid (first_stray_in p pid) p) (bounded_stray p pid (first_stray_in p pid) h) pid

-- ---- with what spaces show, and no mark; so turns and runs

regular_after : (x : After) → AfterIs IsShown x → AfterHas HasNoMark x → AfterHas IsBounded x → AfterIs IsRegularIn x
regular_after (after now over) shown unmarked bounds = record { shown = shown; unmarked = unmarked; bounded = bounds }
regular_after (no_room now) shown unmarked bounds = record { shown = shown; unmarked = unmarked; bounded = bounds }
regular_after nobody shown unmarked bounds = tt

pub events_keep_regular_in : EventsKeepRegularIn
events_keep_regular_in p pid r = regular_after (event_in p pid) (events_show p pid r.shown) (events_have_no_mark p pid r.unmarked) (bounded_event p pid r.bounded)

pub turns_keep_regular_in : TurnsKeepRegularIn
turns_keep_regular_in = by_turn_in IsRegularIn events_keep_regular_in

pub runs_keep_regular_in : RunsKeepRegularIn
runs_keep_regular_in = by_run_in IsRegularIn events_keep_regular_in

bounded_opening : (headers : List (List ℕ)) (w : World) → IsBounded w → IsBounded (opening_in headers w).world
unfolding opening_in
bounded_opening headers w h = bounded_showing (first_memory headers w) w h

pub boots_are_regular_in : BootsAreRegularIn
boots_are_regular_in rest starts w headers can closed few is =
    let r = boots_are_regular rest starts w can closed few is in
    record { shown = openings_show headers w; unmarked = openings_have_no_mark headers w r.unmarked; bounded = bounded_opening headers w (bounded w r) }
