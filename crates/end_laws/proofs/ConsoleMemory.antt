-- The console over one memory: behind an event the notes have its calls, and the console has what these write to it.
use Rattle.std.proofs.Common.{◌≡◌, ℕ, zero, suc, ◌*◌, Bool, true, false, List, [], ◌∷◌, ◌++◌, length, drop, Option, Some, None, Result, Ok, Err, refl, sym, ap, subst, ◌∙◌, append_assoc}
use Rattle.std.proofs.lemmas.List.{append-nil}
use Rattle.std.specs.Prelude.{◌==◌, ◌||◌, nat_lt, slice_index, if◌then◌else◌}
use Rattle.byte_words.specs.ByteMap.{Bytes}
use Rattle.rv32im_step.specs.Meaning.{Meaning, next, call, trap, refused}
use Rattle.byte_words.specs.declared.access.Access.{Access}
use Rattle.mmap_rules.specs.Space.{Space}
use Rattle.call_log.specs.declared.errno.Errno.{Errno}
use Rattle.call_log.specs.Errno.{refusal}
use Rattle.call_log.specs.Notes.{GotRange, CallEntry, Note, stray_note}
use Rattle.call_log.specs.Sent.{Span, most_pieces, sent}
use Rattle.quantum_sched.specs.Picked.{picked}
use Rattle.vfork_exec.specs.declared.family.Who.{Who}
use Rattle.vfork_exec.specs.declared.family.State.TheVariants.{Waiting}
use Rattle.vfork_exec.specs.declared.family.Ended.{Ended}
use Rattle.vfork_exec.specs.declared.family.Waited.{Waited}
use Rattle.vfork_exec.specs.declared.family.Waited.TheVariants.{Child, NoneYet, Waits}
use Rattle.vfork_exec.specs.Keyed.{find}
use Rattle.vfork_exec.specs.Families.{without_first}
use Rattle.flat_loader.specs.Alone.{number_of, args_of, put_got}
use Rattle.machine_world.specs.World.{Process, LiveSpace, World, pid_of, id_of}
use Rattle.machine_world.specs.Families.{ready_pids}
use Rattle.machine_world.specs.Asks.{Ask, Reply, Row, replies, waits, arg, gives}
use Rattle.machine_world.specs.FamilyCalls.{who_of, waitid_fault, child_info, no_info, info_at}
use Rattle.machine_world.specs.Transfers.{write_row, writev_row}
use Rattle.machine_world.specs.Rows.{row}
use Rattle.machine_world.specs.Event.{Outcome, went, strays, full, idle, served, told_in, classed}
use Rattle.machine_world.specs.Turns.{End}
use Rattle.machine_world.proofs.States.{find_has}
use Rattle.alone_laws.specs.Stays.{kept_calls_of}
use Rattle.alone_laws.proofs.Lists.{eqb_is}
use Rattle.memory_world.specs.Physical.{Physical, After, after, no_room, nobody, behind, carried, settled_in, outside, killed, put_in, answered_in, full_at, reaped_in, waitid_behind_in, waitid_in, writes_nothing, classed_in, asked_in, answer_in, effect_in, in_space_in, by_process_in, at_process_in, in_memory, next_meaning, carried_out, first_stray_in, with_stray, event_in, WalkIn, remains_at_in, turned_in, turn_in, going_on_in, quantum_turn_in, turns_in}
use Rattle.end_laws.specs.Console.{is_write, data_of, prints, printed, AreWhole, calls_of}
use Rattle.end_laws.specs.ConsoleIn.{calls_since, PrintsIn, EventsPrintIn, MomentIn, moments_behind_in, turn_moments_in, moments_on_in, quantum_moments_in, moments_in, all_calls_in, all_printed_in, AllWholeIn, PrintsAlongIn, TurnsPrintIn, RunsPrintIn}
use Rattle.end_laws.proofs.ConsoleRows.{IsQuiet, quiet_rows, AddsIn, adds_write, adds_writev}
use Rattle.end_laws.proofs.ConsoleEvents.{PrintsIn as Goes, quiet_served, quiet_waited, quiet_trapped, quiet_classed, ask, takes, adds_served, data_64, data_66, unread_pieces}

-- ---- what an event leaves

-- these calls are noted behind the old ones
record Told (w : World) (now : World) (calls : List CallEntry) : Type 0 where
  notes : kept_calls_of now.notes ≡ kept_calls_of w.notes ++ calls
  console : now.rest.console ≡ w.rest.console ++ printed w calls
  whole : AreWhole w calls

drop-front : {A : Type 0} (xs ys : List A) → drop (length xs) (xs ++ ys) ≡ ys
drop-front [] ys = refl
drop-front (x ∷ xs) ys = drop-front xs ys

-- they are those since
told_in_world : (w now : World) (calls : List CallEntry) → Told w now calls → PrintsIn w now
told_in_world w now calls h =
    let since : calls_since w now ≡ calls = ap (drop (length (kept_calls_of w.notes))) h.notes ∙ drop-front (kept_calls_of w.notes) calls in
    record {
      notes = h.notes ∙ ap (λ cs. kept_calls_of w.notes ++ cs) (sym since);
      console = h.console ∙ ap (λ cs. w.rest.console ++ printed w cs) (sym since);
      whole = subst (AreWhole w) (sym since) h.whole;
    }

-- no call is noted, and nothing is written
abbrev Still : World → World → Type 0
Still w now = (kept_calls_of now.notes ≡ kept_calls_of w.notes) × (now.rest.console ≡ w.rest.console)

abbrev TellsIn : World → After → Type 0
TellsIn w (after now over) = PrintsIn w now.world
TellsIn w (no_room now) = Still w now.world
TellsIn w nobody = Unit {0}

-- what goes in the world of private spaces, over memory
tells_carried : (w : World) (p : Physical) (memory : Bytes) → Still w p.world → (o : Outcome) → Goes w o → TellsIn w (carried p memory o)
tells_carried w p memory still (went now t) h = told_in_world w (behind p memory now t).world (calls_of t) (record { notes = h.notes; console = h.console; whole = h.whole })
tells_carried w p memory still (strays access) h = tt
tells_carried w p memory still full h = still
tells_carried w p memory still idle h = tt

tells_settled : (w : World) (a : After) → TellsIn w a → TellsIn w (settled_in a)
tells_settled w (after now over) h = record { notes = h.notes; console = h.console; whole = h.whole }
tells_settled w (no_room now) h = h
tells_settled w nobody h = tt

tells_full : (p : Physical) (a : After) → TellsIn p.world a → TellsIn p.world (full_at p a)
tells_full p (after now over) h = h
tells_full p (no_room now) h = (refl, refl)
tells_full p nobody h = tt

-- ---- a call

module _ (p : Physical) where
  -- where some have ended
  abbrev with_ended : List Ended → Physical
  with_ended gone = record p { world = record p.world { ended = gone } }

  tells_killed : (gone : List Ended) (q : Process) (signal : ℕ) → TellsIn p.world (killed (with_ended gone) q signal)
  tells_killed gone q signal = tells_carried p.world (with_ended gone) p.memory (refl, refl) _ (quiet_trapped p.world gone q signal)

  module _ (a : Ask) (same : a.rest.console ≡ p.world.rest.console) where
    tells_put : (gone : List Ended) (r : Reply) (o : Result Bytes Span) → ((m : Bytes) → Goes p.world (served (record p.world { ended = gone }) a r m)) → TellsIn p.world (put_in (with_ended gone) a r o)
    tells_put gone r (Ok memory) each = tells_carried p.world (with_ended gone) memory (refl, refl) _ (each r.space.bytes)
    tells_put gone r (Err span) each = tells_killed gone a.process outside

    module _ (isnt : is_write a.number ≡ false) where
      tells_gives : (gone : List Ended) (value : ℕ) (got : List GotRange) → TellsIn p.world (answered_in (with_ended gone) a (gives a value got a.rest))
      tells_gives gone value got =
          let r : Reply = record { value = value; got = got; rest = a.rest; space = a.space; over = false } in
          tells_put gone r (put_got p.memory (in_memory p.world) got) (λ m. quiet_served p.world a same isnt gone r m refl)

      tells_quiet : (r : Row) → IsQuiet a r → TellsIn p.world (answered_in p a r)
      tells_quiet (replies r) quiet = tells_put p.world.ended r (put_got p.memory (in_memory p.world) r.got) (λ m. quiet_served p.world a same isnt p.world.ended r m quiet)
      tells_quiet (waits state) quiet = tells_carried p.world p p.memory (refl, refl) _ (quiet_waited p.world a.process state)

      tells_reaped : (who : Who) (o : Result Waited Errno) → TellsIn p.world (reaped_in p a who o)
      tells_reaped who (Ok (Child pid how)) =
          let gone : List Ended = without_first a.process.pid who p.world.ended in
          tells_full p _ (tells_gives gone 0 (info_at (arg a 2) (child_info pid how)))
      tells_reaped who (Ok NoneYet) = tells_gives p.world.ended 0 (info_at (arg a 2) no_info)
      tells_reaped who (Ok Waits) = tells_carried p.world p p.memory (refl, refl) _ (quiet_waited p.world a.process (Waiting who))
      tells_reaped who (Err errno) = tells_gives p.world.ended (refusal errno) []

      tells_behind : (o : Option Errno) → TellsIn p.world (waitid_behind_in p a o)
      tells_behind (Some errno) = tells_gives p.world.ended (refusal errno) []
      tells_behind None = tells_reaped (who_of a) (told_in p.world a)

      tells_waitid : TellsIn p.world (waitid_in p a)
      unfolding waitid_in
      tells_waitid = tells_behind (waitid_fault a)

      by_if : (b : Bool) (x y : After) → TellsIn p.world x → TellsIn p.world y → TellsIn p.world (if b then x else y)
      by_if true x y hx hy = hx
      by_if false x y hx hy = hy

      tells_classed : TellsIn p.world (classed_in p a)
      tells_classed =
          by_if (writes_nothing a.number) (carried p p.memory (classed p.world a)) _ (tells_carried p.world p p.memory (refl, refl) _ (quiet_classed p.world a same isnt))
          (by_if (a.number == 95) (waitid_in p a) (answered_in p a (row a)) tells_waitid (tells_quiet (row a) (quiet_rows a isnt)))

  module _ (q : Process) (s : Space) (lives : find pid_of q.pid p.world.procs ≡ Some q) where
    -- a write
    module _ (bytes : List ℕ) where
      tells_adds : (n : ℕ) (writes : is_write n ≡ true) (text : List ℕ) (is_data : (e : CallEntry) → e.call ≡ n → e.args ≡ args_of q.regs → e.sent ≡ bytes → data_of e ≡ text)
          → (r : Row) → AddsIn (ask p.world q s lives bytes n) (takes p.world q s lives bytes) text r → TellsIn p.world (answered_in p (ask p.world q s lives bytes n) r)
      tells_adds n writes text is_data (replies r) adds =
          tells_put (ask p.world q s lives bytes n) refl p.world.ended r (put_got p.memory (in_memory p.world) r.got) (λ m. adds_served p.world q s lives bytes n writes text is_data r m adds)
      tells_adds n writes text is_data (waits state) adds = tells_carried p.world p p.memory (refl, refl) _ (quiet_waited p.world q state)

      tells_64 : TellsIn p.world (classed_in p (ask p.world q s lives bytes 64))
      unfolding row
      tells_64 =
          tells_adds 64 refl bytes (λ e number args sent. data_64 e number ∙ sent) (write_row (ask p.world q s lives bytes 64) bytes)
          (adds_write (ask p.world q s lives bytes 64) bytes)

      tells_66 : (nat_lt most_pieces (slice_index (args_of q.regs) 2) ≡ true → bytes ≡ []) → TellsIn p.world (classed_in p (ask p.world q s lives bytes 66))
      unfolding row
      tells_66 unread =
          tells_adds 66 refl (drop (8 * slice_index (args_of q.regs) 2) bytes) (λ e number args sent. data_66 e (args_of q.regs) bytes number args sent) (writev_row (ask p.world q s lives bytes 66))
          (adds_writev (ask p.world q s lives bytes 66) unread)

    tells_number : (n : ℕ) (bytes : List ℕ) → sent n (args_of q.regs) p.memory ≡ Ok bytes → (b c : Bool) → (n == 64) ≡ b → (n == 66) ≡ c
        → TellsIn p.world (classed_in p (ask p.world q s lives bytes n))
    tells_number n bytes is true c is_64 is_66 = subst (λ k. TellsIn p.world (classed_in p (ask p.world q s lives bytes k))) (sym (eqb_is n 64 is_64)) (tells_64 bytes)
    tells_number n bytes is false true is_64 is_66 =
        let at : n ≡ 66 = eqb_is n 66 is_66 in
        let there : sent 66 (args_of q.regs) p.memory ≡ Ok bytes = ap (λ k. sent k (args_of q.regs) p.memory) (sym at) ∙ is in
        subst (λ k. TellsIn p.world (classed_in p (ask p.world q s lives bytes k))) (sym at) (tells_66 bytes (unread_pieces (args_of q.regs) p.memory bytes there))
    tells_number n bytes is false false is_64 is_66 =
        tells_classed (ask p.world q s lives bytes n) refl (ap (λ b. b || (n == 66)) is_64 ∙ is_66)

    tells_asked : (o : Result (List ℕ) Span) → sent (number_of q.regs) (args_of q.regs) p.memory ≡ o → TellsIn p.world (asked_in p q s o)
    tells_asked (Ok bytes) is = tells_number (number_of q.regs) bytes is (number_of q.regs == 64) (number_of q.regs == 66) refl refl
    tells_asked (Err span) is = tells_killed p.world.ended q outside

    -- an instruction makes no call
    tells_effect : (m : Meaning) → TellsIn p.world (effect_in p q s m)
    unfolding answer_in
    tells_effect (next regs memory) =
        told_in_world p.world _ [] (record { notes = sym (append-nil (kept_calls_of p.world.notes)); console = sym (append-nil p.world.rest.console); whole = tt })
    tells_effect (trap signal) = tells_settled p.world (killed p q signal) (tells_killed p.world.ended q signal)
    tells_effect (refused access) = tells_settled p.world (killed p q outside) (tells_killed p.world.ended q outside)
    tells_effect call = tells_settled p.world (answer_in p q s) (tells_asked (sent (number_of q.regs) (args_of q.regs) p.memory) refl)

  tells_in : (q : Process) → find pid_of q.pid p.world.procs ≡ Some q → (found : Option LiveSpace)
      → TellsIn p.world (in_space_in (λ r s. effect_in p r s (next_meaning p r)) q found)
  tells_in q lives None = tt
  tells_in q lives (Some s) = tells_effect q s.space lives (next_meaning p q)

  tells_by : (pid : ℕ) (found : Option Process) → find pid_of pid p.world.procs ≡ found
      → TellsIn p.world (by_process_in p.world.spaces (λ r s. effect_in p r s (next_meaning p r)) found)
  tells_by pid None lives = tt
  tells_by pid (Some q) lives =
      let own : q.pid ≡ pid = find_has pid_of pid p.world.procs q lives in
      tells_in q (ap (λ n. find pid_of n p.world.procs) own ∙ lives) (find id_of q.space p.world.spaces)

  tells_carried_out : (pid : ℕ) → TellsIn p.world (carried_out p pid)
  unfolding carried_out at_process_in
  tells_carried_out pid = tells_by pid (find pid_of pid p.world.procs) refl

-- ---- an event, behind the note of the first stray access

-- a note of that changes nothing of what calls print
module _ (note : Note) (w : World) where
  abbrev noted_world : World
  noted_world = record w { notes = note ∷ w.notes }

  printed-noted : (calls : List CallEntry) → printed noted_world calls ≡ printed w calls
  printed-noted [] = refl
  printed-noted (e ∷ calls) = ap (λ bytes. (if prints w e then data_of e else []) ++ bytes) (printed-noted calls)

  whole-noted : (calls : List CallEntry) → AreWhole noted_world calls → AreWhole w calls
  whole-noted [] h = tt
  whole-noted (e ∷ calls) h = (h.0, whole-noted calls h.1)

  prints_noted : kept_calls_of noted_world.notes ≡ kept_calls_of w.notes → (now : World) → PrintsIn noted_world now → PrintsIn w now
  prints_noted quiet now h =
      told_in_world w now (calls_since noted_world now) (record {
        notes = h.notes ∙ ap (λ calls. calls ++ calls_since noted_world now) quiet;
        console = h.console ∙ ap (λ bytes. w.rest.console ++ bytes) (printed-noted (calls_since noted_world now));
        whole = whole-noted (calls_since noted_world now) h.whole;
      })

  tells_noted : kept_calls_of noted_world.notes ≡ kept_calls_of w.notes → (a : After) → TellsIn noted_world a → TellsIn w a
  tells_noted quiet (after now over) h = prints_noted quiet now.world h
  tells_noted quiet (no_room now) h = (h.0 ∙ quiet, h.1)
  tells_noted quiet nobody h = tt

tells_first : (p : Physical) (pid : ℕ) (o : Option Access) → TellsIn p.world (carried_out (with_stray pid o p) pid)
unfolding kept_calls_of
tells_first p pid None = tells_carried_out p pid
tells_first p pid (Some access) = tells_noted (stray_note pid access) p.world refl (carried_out (with_stray pid (Some access) p) pid) (tells_carried_out (with_stray pid (Some access) p) pid)

tells_event : (p : Physical) (pid : ℕ) → TellsIn p.world (event_in p pid)
unfolding event_in
tells_event p pid = tells_first p pid (first_stray_in p pid)

pub events_print_in : EventsPrintIn
events_print_in p pid now over is = subst (TellsIn p.world) is (tells_event p pid)

-- ---- one after the other

along_none : (p : Physical) → PrintsAlongIn p [] p
along_none p = record { notes = sym (append-nil (kept_calls_of p.world.notes)); console = sym (append-nil p.world.rest.console); whole = tt }

along_more : (p now last : Physical) (ms : List MomentIn) → PrintsIn p.world now.world → PrintsAlongIn now ms last
    → PrintsAlongIn p (record { world = p.world; calls = calls_since p.world now.world } ∷ ms) last
along_more p now last ms h on = record {
  notes = on.notes ∙ ap (λ calls. calls ++ all_calls_in ms) h.notes ∙ append_assoc (kept_calls_of p.world.notes) (calls_since p.world now.world) (all_calls_in ms);
  console = on.console ∙ ap (λ bytes. bytes ++ all_printed_in ms) h.console ∙ append_assoc p.world.rest.console (printed p.world (calls_since p.world now.world)) (all_printed_in ms);
  whole = (h.whole, on.whole);
}

all_calls_in-append : (ms ns : List MomentIn) → all_calls_in (ms ++ ns) ≡ all_calls_in ms ++ all_calls_in ns
all_calls_in-append [] ns = refl
all_calls_in-append (m ∷ ms) ns = ap (λ calls. m.calls ++ calls) (all_calls_in-append ms ns) ∙ sym (append_assoc m.calls (all_calls_in ms) (all_calls_in ns))

all_printed_in-append : (ms ns : List MomentIn) → all_printed_in (ms ++ ns) ≡ all_printed_in ms ++ all_printed_in ns
all_printed_in-append [] ns = refl
all_printed_in-append (m ∷ ms) ns =
    ap (λ bytes. printed m.world m.calls ++ bytes) (all_printed_in-append ms ns) ∙ sym (append_assoc (printed m.world m.calls) (all_printed_in ms) (all_printed_in ns))

all_whole_in-append : (ms ns : List MomentIn) → AllWholeIn ms → AllWholeIn ns → AllWholeIn (ms ++ ns)
all_whole_in-append [] ns h k = k
all_whole_in-append (m ∷ ms) ns h k = (h.0, all_whole_in-append ms ns h.1 k)

along_both : (p mid last : Physical) (ms ns : List MomentIn) → PrintsAlongIn p ms mid → PrintsAlongIn mid ns last → PrintsAlongIn p (ms ++ ns) last
along_both p mid last ms ns h on = record {
  notes = on.notes ∙ ap (λ calls. calls ++ all_calls_in ns) h.notes ∙ append_assoc (kept_calls_of p.world.notes) (all_calls_in ms) (all_calls_in ns)
      ∙ ap (λ calls. kept_calls_of p.world.notes ++ calls) (sym (all_calls_in-append ms ns));
  console = on.console ∙ ap (λ bytes. bytes ++ all_printed_in ns) h.console ∙ append_assoc p.world.rest.console (all_printed_in ms) (all_printed_in ns)
      ∙ ap (λ bytes. p.world.rest.console ++ bytes) (sym (all_printed_in-append ms ns));
  whole = all_whole_in-append ms ns h.whole on.whole;
}

-- ---- turns and runs

module _ (more : Physical → WalkIn) (behind_it : Physical → List MomentIn) (on : (q : Physical) → PrintsAlongIn q (behind_it q) (more q).now) (p : Physical) where
  along_turned : (a : After) → TellsIn p.world a → PrintsAlongIn p (moments_behind_in behind_it p a) (turned_in more p a).now
  along_turned (after now over) h = by_over over
    where
      by_over : (b : Bool) → PrintsAlongIn p (record { world = p.world; calls = calls_since p.world now.world } ∷ (if b then [] else behind_it now)) (if b then remains_at_in now None else more now).now
      by_over true = along_more p now now [] h (along_none now)
      by_over false = along_more p now (more now).now (behind_it now) h (on now)
  along_turned (no_room now) h = record { notes = h.0 ∙ sym (append-nil (kept_calls_of p.world.notes)); console = h.1 ∙ sym (append-nil p.world.rest.console); whole = tt }
  along_turned nobody h = along_none p

pub turns_print_in : TurnsPrintIn
unfolding turn_in turn_moments_in
turns_print_in zero pid p = along_none p
turns_print_in (suc count) pid p = along_turned (turn_in count pid) (turn_moments_in count pid) (turns_print_in count pid) p (event_in p pid) (tells_event p pid)

module _ (more : Physical → WalkIn) (behind_it : Physical → List MomentIn) (on : (q : Physical) → PrintsAlongIn q (behind_it q) (more q).now) (p : Physical) (count : ℕ) where
  along_quantum : (chosen : Option ℕ) → PrintsAlongIn p (quantum_moments_in behind_it p count chosen) (quantum_turn_in more p count chosen).now
  along_quantum None = along_none p
  along_quantum (Some pid) = goes (turn_in count pid p) (turns_print_in count pid p)
    where
      goes : (walk : WalkIn) → PrintsAlongIn p (turn_moments_in count pid p) walk.now
          → PrintsAlongIn p (turn_moments_in count pid p ++ moments_on_in behind_it walk.now walk.end) (going_on_in more walk).now
      goes walk h = at walk.end
        where
          at : (end : Option End) → PrintsAlongIn p (turn_moments_in count pid p ++ moments_on_in behind_it walk.now end) (going_on_in more (record walk { end = end })).now
          at (Some end) = subst (λ ms. PrintsAlongIn p ms walk.now) (sym (append-nil (turn_moments_in count pid p))) h
          at None = along_both p walk.now (more walk.now).now (turn_moments_in count pid p) (behind_it walk.now) h (on walk.now)

pub runs_print_in : RunsPrintIn
unfolding turns_in moments_in
runs_print_in [] p = along_none p
runs_print_in (q ∷ qs) p = along_quantum (turns_in qs) (moments_in qs) (runs_print_in qs) p q.count (picked q.pick (ready_pids p.world.procs))
