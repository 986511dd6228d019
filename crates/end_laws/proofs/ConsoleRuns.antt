-- Along turns and runs the console has what their calls write to it; and at boot it is as it was.
use Rattle.std.proofs.Common.{◌≡◌, ℕ, zero, suc, Bool, true, false, List, [], ◌∷◌, ◌++◌, Option, Some, None, Result, Ok, Err, refl, sym, ap, subst, ◌∙◌, append_assoc}
use Rattle.std.proofs.lemmas.List.{append-nil}
use Rattle.std.specs.Prelude.{map, if◌then◌else◌}
use Rattle.flat_loader.specs.Original.{block_pages}
use Rattle.flat_loader.specs.Frame.{frame_fits}
use Rattle.quantum_sched.specs.Picked.{picked}
use Rattle.machine_world.specs.World.{World}
use Rattle.machine_world.specs.Families.{ready_pids}
use Rattle.machine_world.specs.Free.{free}
use Rattle.machine_world.specs.Event.{Trace, Outcome, went, strays, full, idle, event}
use Rattle.machine_world.specs.Turns.{Walk, End, traced, remains_at, turned, turn, walked, going_on, quantum_turn, turns}
use Rattle.machine_world.specs.Boot.{StartLine, BootFault, Found, found, start_path, taken, placed, fitting, located, started, then_started, all_started, empty_world, boot}
use Rattle.alone_laws.specs.Stays.{kept_calls_of}
use Rattle.end_laws.specs.Console.{calls_of, printed, Prints, Moment, moments_behind, turn_moments, moments_on, quantum_moments, moments, all_calls, all_printed, AllWhole, PrintsAlong, TurnsPrint, RunsPrint, BootsPrintNone}
use Rattle.end_laws.proofs.ConsoleEvents.{PrintsIn, prints_event}

-- ---- one after the other

abbrev trace_of : Moment → Trace
trace_of m = m.trace

-- no event
along_none : (w : World) (end : Option End) → PrintsAlong w [] (remains_at w end)
along_none w end = record { traces = refl; notes = sym (append-nil (kept_calls_of w.notes)); console = sym (append-nil w.rest.console); whole = tt }

-- an event, and those behind it
along_more : (w now : World) (t : Trace) (ms : List Moment) (walk : Walk) → Prints w t now → PrintsAlong now ms walk
    → PrintsAlong w (record { world = w; trace = t } ∷ ms) (traced t walk)
along_more w now t ms walk h on = record {
  traces = ap (λ ts. t ∷ ts) on.traces;
  notes = on.notes ∙ ap (λ calls. calls ++ all_calls ms) h.notes ∙ append_assoc (kept_calls_of w.notes) (calls_of t) (all_calls ms);
  console = on.console ∙ ap (λ bytes. bytes ++ all_printed ms) h.console ∙ append_assoc w.rest.console (printed w (calls_of t)) (all_printed ms);
  whole = (h.whole, on.whole);
}

all_calls-append : (ms ns : List Moment) → all_calls (ms ++ ns) ≡ all_calls ms ++ all_calls ns
all_calls-append [] ns = refl
all_calls-append (m ∷ ms) ns = ap (λ calls. calls_of m.trace ++ calls) (all_calls-append ms ns) ∙ sym (append_assoc (calls_of m.trace) (all_calls ms) (all_calls ns))

all_printed-append : (ms ns : List Moment) → all_printed (ms ++ ns) ≡ all_printed ms ++ all_printed ns
all_printed-append [] ns = refl
all_printed-append (m ∷ ms) ns =
    ap (λ bytes. printed m.world (calls_of m.trace) ++ bytes) (all_printed-append ms ns)
    ∙ sym (append_assoc (printed m.world (calls_of m.trace)) (all_printed ms) (all_printed ns))

all_whole-append : (ms ns : List Moment) → AllWhole ms → AllWhole ns → AllWhole (ms ++ ns)
all_whole-append [] ns h k = k
all_whole-append (m ∷ ms) ns h k = (h.0, all_whole-append ms ns h.1 k)

traces-append : (ms ns : List Moment) → map trace_of (ms ++ ns) ≡ map trace_of ms ++ map trace_of ns
traces-append [] ns = refl
traces-append (m ∷ ms) ns = ap (λ ts. m.trace ∷ ts) (traces-append ms ns)

-- some events, and those behind them
along_both : (w : World) (ms ns : List Moment) (walk more : Walk) → PrintsAlong w ms walk → PrintsAlong walk.world ns more
    → PrintsAlong w (ms ++ ns) (walked walk.traces more)
along_both w ms ns walk more h on = record {
  traces = traces-append ms ns ∙ ap (λ ts. ts ++ map trace_of ns) h.traces ∙ ap (λ ts. walk.traces ++ ts) on.traces;
  notes = on.notes ∙ ap (λ calls. calls ++ all_calls ns) h.notes ∙ append_assoc (kept_calls_of w.notes) (all_calls ms) (all_calls ns)
      ∙ ap (λ calls. kept_calls_of w.notes ++ calls) (sym (all_calls-append ms ns));
  console = on.console ∙ ap (λ bytes. bytes ++ all_printed ns) h.console ∙ append_assoc w.rest.console (all_printed ms) (all_printed ns)
      ∙ ap (λ bytes. w.rest.console ++ bytes) (sym (all_printed-append ms ns));
  whole = all_whole-append ms ns h.whole on.whole;
}

-- ---- turns

module _ (more : World → Walk) (behind : World → List Moment) (on : (v : World) → PrintsAlong v (behind v) (more v)) (w : World) (pid : ℕ) where
  along_turned : (o : Outcome) → PrintsIn w o → PrintsAlong w (moments_behind behind w o) (turned more w pid o)
  unfolding kept_calls_of
  along_turned (went now t) h = by_over t.over
    where
      by_over : (b : Bool) → PrintsAlong w (record { world = w; trace = t } ∷ (if b then [] else behind now)) (traced t (if b then remains_at now None else more now))
      by_over true = along_more w now t [] (remains_at now None) h (along_none now None)
      by_over false = along_more w now t (behind now) (more now) h (on now)
  along_turned (strays access) h =
      record { traces = refl; notes = sym (append-nil (kept_calls_of w.notes)); console = sym (append-nil w.rest.console); whole = tt }
  along_turned full h = along_none w _
  along_turned idle h = along_none w _

pub turns_print : TurnsPrint
unfolding turn turn_moments
turns_print zero pid w = along_none w None
turns_print (suc count) pid w = along_turned (turn count pid) (turn_moments count pid) (turns_print count pid) w pid (event w pid) (prints_event w pid)

-- ---- runs

module _ (more : World → Walk) (behind : World → List Moment) (on : (v : World) → PrintsAlong v (behind v) (more v)) (w : World) (count : ℕ) where
  along_quantum : (chosen : Option ℕ) → PrintsAlong w (quantum_moments behind w count chosen) (quantum_turn more w count chosen)
  along_quantum None = along_none w _
  along_quantum (Some pid) = goes (turn count pid w) (turns_print count pid w)
    where
      goes : (walk : Walk) → PrintsAlong w (turn_moments count pid w) walk
          → PrintsAlong w (turn_moments count pid w ++ moments_on behind walk.world walk.end) (going_on more walk)
      goes walk h = at walk.end
        where
          at : (end : Option End) → PrintsAlong w (turn_moments count pid w ++ moments_on behind walk.world end) (going_on more (record walk { end = end }))
          at (Some end) = subst (λ ms. PrintsAlong w ms (record walk { end = Some end })) (sym (append-nil (turn_moments count pid w)))
              (record { traces = h.traces; notes = h.notes; console = h.console; whole = h.whole })
          at None = along_both w (turn_moments count pid w) (behind walk.world) walk (more walk.world) h (on walk.world)

pub runs_print : RunsPrint
unfolding turns moments
runs_print [] w = along_none w _
runs_print (q ∷ qs) w = along_quantum (turns qs) (moments qs) (runs_print qs) w q.count (picked q.pick (ready_pids w.procs))

-- ---- boot

-- a start line notes its load alone
abbrev Silent : World → Result World BootFault → Type 0
Silent w (Ok now) = (kept_calls_of now.notes ≡ kept_calls_of w.notes) × (now.rest.console ≡ w.rest.console)
Silent w (Err fault) = Unit {0}

module _ (w : World) (s : StartLine) where
  silent_placed : (f : Found) (page : Option ℕ) → Silent w (placed w s f page)
  unfolding kept_calls_of
  silent_placed f None = tt
  silent_placed f (Some page) = (refl, refl)

  silent_fitting : (f : Found) (fits : Bool) → Silent w (fitting w s f fits)
  silent_fitting f true = silent_placed f (taken w (block_pages f.original) (free w))
  silent_fitting f false = tt

  silent_located : (o : Option Found) → Silent w (located w s o)
  silent_located None = tt
  silent_located (Some f) = silent_fitting f (frame_fits f.original s.args [])

  silent_started : Silent w (started w s)
  unfolding started
  silent_started = silent_located (found w.rest (start_path s))

silent_all : (ss : List StartLine) (w : World) → Silent w (all_started w ss)
unfolding all_started
silent_all [] w = (refl, refl)
silent_all (s ∷ ss) w = on (silent_all ss) (started w s) (silent_started w s)
  where
    behind : (now : World) → (kept_calls_of now.notes ≡ kept_calls_of w.notes) × (now.rest.console ≡ w.rest.console)
        → (r : Result World BootFault) → Silent now r → Silent w r
    behind now h (Ok last) k = (k.0 ∙ h.0, k.1 ∙ h.1)
    behind now h (Err fault) k = tt

    on : ((v : World) → Silent v (all_started v ss)) → (r : Result World BootFault) → Silent w r → Silent w (then_started r (λ now. all_started now ss))
    on more (Ok now) h = behind now h (all_started now ss) (more now)
    on more (Err fault) h = tt

pub boots_print_none : BootsPrintNone
unfolding boot kept_calls_of
boots_print_none rest starts w is =
    let h : Silent (empty_world rest) (Ok w) = subst (Silent (empty_world rest)) is (silent_all starts (empty_world rest)) in
    record { notes = h.0; console = h.1 }
