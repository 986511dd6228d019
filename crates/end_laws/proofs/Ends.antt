-- A process that ends in an event is the one that made it, and ends as its program does there alone.
use Rattle.std.proofs.Common.{◌≡◌, ℕ, zero, suc, ◌<◌, true, List, [], ◌∷◌, length, Option, Some, None, Result, Ok, Err, refl, ap, subst, ◌∙◌, arith}
use Rattle.std.specs.Prelude.{◌==◌, slice_get, option_map}
use Rattle.std.proofs.lemmas.Option.{same_Some}
use Rattle.byte_words.specs.ByteMap.{Bytes}
use Rattle.rv32im_step.specs.declared.regs.Regs.{Regs}
use Rattle.rv32im_step.specs.Meaning.{Meaning, next, call, trap, refused, meaning}
use Rattle.call_log.specs.declared.how.How.{How}
use Rattle.call_log.specs.declared.how.How.TheVariants.{Exit, Signal}
use Rattle.call_log.specs.Notes.{call_note, end_note, weight_of}
use Rattle.call_log.specs.Sent.{Span, sent}
use Rattle.mmap_rules.specs.Space.{writable_in}
use Rattle.vfork_exec.specs.declared.family.State.TheVariants.{Ready}
use Rattle.vfork_exec.specs.Keyed.{find}
use Rattle.flat_loader.specs.Alone.{memory_of, writable_of, number_of, args_of}
use Rattle.machine_world.specs.World.{Process, LiveSpace, World, pid_of, id_of}
use Rattle.machine_world.specs.Families.{MayRun}
use Rattle.machine_world.specs.Asks.{Ask}
use Rattle.machine_world.specs.Rows.{row}
use Rattle.machine_world.specs.Recordings.{room_in}
use Rattle.machine_world.specs.Event.{Trace, Outcome, went, full, ended, stepped, trapped, ask_of, entry_of, answered, exit_code, exited, is_exit, waitid, cloned, exec, classed, asked, answer, settled, effect, in_space, by_process, at_process, event}
use Rattle.machine_world.proofs.States.{find_has}
use Rattle.machine_world.proofs.ByEvents.{by_settled}
use Rattle.alone_laws.specs.Stays.{Stay, runner_of, AreRight}
use Rattle.alone_laws.specs.Sound.{IsSound}
use Rattle.alone_laws.proofs.Frame.{writable}
use Rattle.alone_laws.proofs.EventStays.{below, has_stay, end_of}
use Rattle.end_laws.specs.Laws.{EndsSo, EndsItsStay, EventsEndAsAlone}
use Rattle.end_laws.proofs.NewNotes.{AddsNotes, end_added, Adds, adds_test, adds_if, adds_answered, adds_waitid, adds_cloned, adds_exec}

-- the item at a place of a list
stands_at : {A : Type 0} (xs : List A) (i : ℕ) → i < length xs → (x : A) × (slice_get xs i ≡ Some x)
stands_at [] i less = absurd (omega (arith, less))
stands_at (x ∷ xs) zero less = (x, refl)
stands_at (x ∷ xs) (suc i) less = stands_at xs i (omega (arith, less))

-- the process that made the event ended, in an event of its stay, which comes to that end
abbrev pub Told : List Stay → ℕ → Trace → ℕ → How → Type 0
Told ys pid t other how = (other ≡ pid) × (t.events ≡ 1) × EndsItsStay ys t pid how

module _ (ys : List Stay) (w : World) (sound : IsSound w) (right : AreRight ys w) where
  module _ (p : Process) (s : LiveSpace) (lives : find pid_of p.pid w.procs ≡ Some p) (ready : p.state ≡ Ready) (has : find id_of p.space w.spaces ≡ Some s) where
    -- the stay of its space comes to it alone, over the bytes of the space
    ends_there : (t : Trace) (how : How) → t.space ≡ p.space → EndsSo (runner_of p) (memory_of s.space) how → EndsItsStay ys t p.pid how
    ends_there t how here ends =
        let y = stands_at ys p.space (has_stay ys w sound right p s lives ready has) in
        record {
          stay = y.0;
          at = ap (slice_get ys) here ∙ y.1;
          alone = record {
            top = runner_of p;
            below = below ys w sound right p s lives ready has;
            memory = memory_of s.space;
            comes = end_of ys w sound right p s lives ready has y.0 y.1;
            is = refl;
            ends = ends;
          };
        }

    -- what its next step means
    abbrev means : Meaning
    means = meaning p.regs s.space.bytes (writable_in s.space.maps)

    -- and alone it means the same
    means_alone : (m : Meaning) → means ≡ m → meaning (runner_of p).regs (memory_of s.space).bytes (writable_of (memory_of s.space).ranges) ≡ m
    means_alone m is = ap (meaning p.regs s.space.bytes) (writable s.space.maps) ∙ is

    -- each end that is noted is its own, and is told so
    abbrev Ends : Outcome → Type 0
    Ends o = Adds (Told ys p.pid) w.notes o

    -- an instruction notes nothing
    ends_stepped : (regs : Regs) (bytes : Bytes) → Ends (stepped w p s.space regs bytes)
    unfolding stepped
    ends_stepped regs bytes = record { notes = []; is = refl; ends = tt }

    -- a trap notes an end by its signal
    ends_trapped : (signal : ℕ) → means ≡ trap signal → Ends (trapped w p signal)
    unfolding trapped ended
    ends_trapped signal is = record {
      notes = end_note p.pid (Signal signal) ∷ [];
      is = refl;
      ends = ((refl, refl, ends_there _ (Signal signal) refl (means_alone (trap signal) is)), tt);
    }

    module _ (is : means ≡ call) (bytes : List ℕ) where
      abbrev ask : Ask
      ask = ask_of w p s.space bytes

      -- an exit notes an end with its code
      ends_exited : is_exit (number_of p.regs) ≡ true → Ends (exited w ask)
      unfolding exited ended
      ends_exited exits =
          adds_if (Told ys p.pid) w.notes (room_in w (weight_of bytes [])) (went _ _) full
          (record {
            notes = end_note p.pid (Exit (exit_code ask)) ∷ call_note (entry_of ask 0 []) ∷ [];
            is = refl;
            ends = ((refl, refl, ends_there _ (Exit (exit_code ask)) refl (means_alone call is, exits, refl)), (tt, tt));
          })
          tt

      -- and no other call notes one
      ends_classed : Ends (classed w ask)
      ends_classed =
          adds_test (Told ys p.pid) w.notes (is_exit ask.number) (exited w ask) _ ends_exited
          (λ stays. adds_if (Told ys p.pid) w.notes (ask.number == 95) (waitid w ask) _ (adds_waitid (Told ys p.pid) w ask)
          (adds_if (Told ys p.pid) w.notes (ask.number == 220) (cloned w ask) _ (adds_cloned (Told ys p.pid) w ask)
          (adds_if (Told ys p.pid) w.notes (ask.number == 221) (exec w ask) (answered w ask (row ask)) (adds_exec (Told ys p.pid) w ask)
          (adds_answered (Told ys p.pid) w ask (row ask)))))

    ends_asked : means ≡ call → (found : Result (List ℕ) Span) → Ends (asked w p s.space found)
    ends_asked is (Ok bytes) = ends_classed is bytes
    ends_asked is (Err span) = tt

    -- those that go on leave the notes
    ends_settled : (o : Outcome) → Ends o → Ends (settled o)
    ends_settled = by_settled (λ now t. AddsNotes (Told ys p.pid t) w.notes now.notes) (λ now t h. h)

    -- what its next step means is what it does
    ends_effect : (m : Meaning) → means ≡ m → Ends (effect w p s.space m)
    unfolding answer
    ends_effect (next regs bytes) is = ends_stepped regs bytes
    ends_effect (trap signal) is = ends_settled (trapped w p signal) (ends_trapped signal is)
    ends_effect (refused access) is = tt
    ends_effect call is = ends_settled (answer w p s.space) (ends_asked is (sent (number_of p.regs) (args_of p.regs) s.space.bytes))

  ends_in : (p : Process) → find pid_of p.pid w.procs ≡ Some p → p.state ≡ Ready → (found : Option LiveSpace) → find id_of p.space w.spaces ≡ found
      → Adds (Told ys p.pid) w.notes (in_space (λ q s. effect w q s (meaning q.regs s.bytes (writable_in s.maps))) p found)
  ends_in p lives ready None has = tt
  ends_in p lives ready (Some s) has = ends_effect p s lives ready has (meaning p.regs s.space.bytes (writable_in s.space.maps)) refl

  ends_by : (pid : ℕ) (found : Option Process) → find pid_of pid w.procs ≡ found → option_map (λ p. p.state) found ≡ Some Ready
      → Adds (Told ys pid) w.notes (by_process w.spaces (λ q s. effect w q s (meaning q.regs s.bytes (writable_in s.maps))) found)
  ends_by pid None lives may = tt
  ends_by pid (Some p) lives may =
      let own : p.pid ≡ pid = find_has pid_of pid w.procs p lives in
      subst (λ n. Adds (Told ys n) w.notes (in_space (λ q s. effect w q s (meaning q.regs s.bytes (writable_in s.maps))) p (find id_of p.space w.spaces))) own
      (ends_in p (ap (λ n. find pid_of n w.procs) own ∙ lives) (same_Some p.state Ready may) (find id_of p.space w.spaces) refl)

  -- the event is of the process with this pid, in its space
  pub ends_event : (pid : ℕ) → MayRun w pid → Adds (Told ys pid) w.notes (event w pid)
  unfolding event at_process
  ends_event pid may = ends_by pid (find pid_of pid w.procs) refl may

pub events_end_as_alone : EventsEndAsAlone
events_end_as_alone ys w pid now t sound may right is more i other how notes there =
    let told = end_added (Told ys pid t) w.notes now.notes more i other how (subst (Adds (Told ys pid) w.notes) is (ends_event ys w sound right pid may)) notes there in
    (told.0, told.2)
