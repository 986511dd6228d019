-- Each end that is noted along turns and runs is told in a stay.
use Rattle.std.proofs.Common.{◌≡◌, ℕ, zero, suc, Bool, true, false, ◌⊎◌, inl, inr, List, [], ◌∷◌, ◌++◌, Option, Some, None, refl, sym, ap, subst, ◌∙◌, arith, append_assoc}
use Rattle.std.specs.Prelude.{slice_get, if◌then◌else◌}
use Rattle.byte_words.specs.declared.access.Access.{Access}
use Rattle.call_log.specs.declared.how.How.{How}
use Rattle.call_log.specs.Notes.{Note, end_note, stray_note}
use Rattle.quantum_sched.specs.declared.Quantum.{Quantum}
use Rattle.quantum_sched.specs.Picked.{picked}
use Rattle.machine_world.specs.World.{World}
use Rattle.machine_world.specs.Families.{MayRun, ready_pids}
use Rattle.machine_world.specs.Event.{Trace, Outcome, went, strays, full, idle, noted, event}
use Rattle.machine_world.specs.Turns.{Walk, End, stray_at, traced, remains_at, turned, turn, going_on, quantum_turn, turns}
use Rattle.machine_world.proofs.TurnLaws.{turn_strays}
use Rattle.machine_world.proofs.Runnable.{may_run_still, ready_found}
use Rattle.alone_laws.specs.Stays.{Stay, change_at, longer, begun_stay, collect, collect_all, AreRight}
use Rattle.alone_laws.specs.Sound.{IsSound}
use Rattle.alone_laws.proofs.SoundRuns.{events_keep_sound, turns_keep_sound}
use Rattle.alone_laws.proofs.StaysRuns.{events_keep_stays, turns_keep_stays}
use Rattle.end_laws.specs.Laws.{EndsItsStay, IsBefore, EndsInAStay, EndsAreTold, TurnsEndAsAlone, RunsEndAsAlone}
use Rattle.end_laws.proofs.NewNotes.{AddsNotes, end_at, Adds}
use Rattle.end_laws.proofs.Ends.{Told, ends_event}

-- ---- items of lists

module _ {A : Type 0} where
  in_front : (xs ys : List A) (i : ℕ) (x : A) → slice_get xs i ≡ Some x → slice_get (xs ++ ys) i ≡ Some x
  in_front [] ys i x there = absurd cc
  in_front (z ∷ xs) ys zero x there = there
  in_front (z ∷ xs) ys (suc i) x there = in_front xs ys i x there

  in_either : (xs ys : List A) (i : ℕ) (x : A) → slice_get (xs ++ ys) i ≡ Some x → (slice_get xs i ≡ Some x) ⊎ ((j : ℕ) × (slice_get ys j ≡ Some x))
  in_either [] ys i x there = inr (i, there)
  in_either (z ∷ xs) ys zero x there = inl there
  in_either (z ∷ xs) ys (suc i) x there = in_either xs ys i x there

  changed_at : (f : A → A) (i : ℕ) (xs : List A) (x : A) → slice_get xs i ≡ Some x → slice_get (change_at i f xs) i ≡ Some (f x)
  unfolding change_at
  changed_at f i [] x there = absurd cc
  changed_at f zero (z ∷ xs) x there = let same : z ≡ x = cc in ap (λ y. Some (f y)) same
  changed_at f (suc i) (z ∷ xs) x there = changed_at f i xs x there

-- ---- stays that go on

-- a stay at a place, and one that it was
record HasBefore (early : Stay) (ys : List Stay) (n : ℕ) : Type 0 where
  stay : Stay
  at : slice_get ys n ≡ Some stay
  before : IsBefore early stay

module _ (early : Stay) (t : Trace) where
  before_longer : (y : Stay) → IsBefore early y → IsBefore early (longer t y)
  before_longer y b = record {
    loading = b.loading;
    pid = b.pid;
    more = b.more ++ t.items;
    items = ap (λ items. items ++ t.items) b.items ∙ append_assoc early.items b.more t.items;
    events = omega arith;
  }

  before_changed : (i : ℕ) (ys : List Stay) (n : ℕ) (y : Stay) → slice_get ys n ≡ Some y → IsBefore early y → HasBefore early (change_at i (longer t) ys) n
  unfolding change_at
  before_changed i [] n y there b = absurd cc
  before_changed zero (z ∷ ys) zero y there b =
      let same : y ≡ z = cc in record { stay = longer t z; at = refl; before = before_longer z (subst (IsBefore early) same b) }
  before_changed zero (z ∷ ys) (suc n) y there b = record { stay = y; at = there; before = b }
  before_changed (suc i) (z ∷ ys) zero y there b = record { stay = y; at = there; before = b }
  before_changed (suc i) (z ∷ ys) (suc n) y there b =
      let h = before_changed i ys n y there b in record { stay = h.stay; at = h.at; before = h.before }

module _ (ys : List Stay) (t : Trace) (pid : ℕ) (how : How) where
  -- an end that was told of stays so
  told_later : EndsInAStay ys pid how → EndsInAStay (collect ys t) pid how
  told_later told =
      let h = before_changed told.early t t.space ys told.number told.stay told.at told.before in
      record {
        number = told.number;
        stay = h.stay;
        at = in_front (change_at t.space (longer t) ys) (begun_stay t.begins) told.number h.stay h.at;
        early = told.early;
        before = h.before;
        alone = told.alone;
      }

  -- and one that comes now is told of by its stay as it was
  told_now : t.events ≡ 1 → EndsItsStay ys t pid how → EndsInAStay (collect ys t) pid how
  told_now one ends = record {
    number = t.space;
    stay = longer t ends.stay;
    at = in_front (change_at t.space (longer t) ys) (begun_stay t.begins) t.space (longer t ends.stay) (changed_at (longer t) t.space ys ends.stay ends.at);
    early = ends.stay;
    before = record { loading = refl; pid = refl; more = t.items; items = refl; events = omega arith };
    alone = ends.alone;
  }

-- ---- one event

event_tells : (ys : List Stay) (w : World) (pid : ℕ) (now : World) (t : Trace) → IsSound w → MayRun w pid → AreRight ys w → event w pid ≡ went now t
    → EndsAreTold ys w.notes → EndsAreTold (collect ys t) now.notes
event_tells ys w pid now t sound may right is told i other how there =
    let adds : AddsNotes (Told ys pid t) w.notes now.notes = subst (Adds (Told ys pid) w.notes) is (ends_event ys w sound right pid may) in
    let at : slice_get (adds.notes ++ w.notes) i ≡ Some (end_note other how) = ap (λ notes. slice_get notes i) (sym adds.is) ∙ there in
    elim (in_either adds.notes w.notes i (end_note other how) at) [
      | inl new ↦
          let ends = end_at (Told ys pid t) adds.notes i other how adds.ends new in
          told_now ys t other how ends.1 (subst (λ n. EndsItsStay ys t n how) (sym ends.0) ends.2)
      | inr old ↦ told_later ys t other how (told old.0 other how old.1)
    ]

-- a stray access is noted, and is no end
stray_tells : (ys : List Stay) (notes : List Note) (pid : ℕ) (seen : Access) → EndsAreTold ys notes → EndsAreTold ys (stray_note pid seen ∷ notes)
stray_tells ys notes pid seen told zero other how there = absurd cc
stray_tells ys notes pid seen told (suc i) other how there = told i other how there

-- ---- turns

-- what is kept along a run
record Holds (ys : List Stay) (w : World) : Type 0 where
  sound : IsSound w
  right : AreRight ys w
  told : EndsAreTold ys w.notes

abbrev HoldsBehind : List Stay → Walk → Type 0
HoldsBehind ys walk = Holds (collect_all ys walk.traces) walk.world

collect_behind : (ys : List Stay) (ts us : List Trace) → collect_all ys (ts ++ us) ≡ collect_all (collect_all ys ts) us
unfolding collect_all
collect_behind ys [] us = refl
collect_behind ys (t ∷ ts) us = collect_behind (collect ys t) ts us

module _ (ys : List Stay) (w : World) (pid : ℕ) (may : MayRun w pid) (h : Holds ys w) where
  holds_went : (now : World) (t : Trace) → event w pid ≡ went now t → Holds (collect ys t) now
  holds_went now t is = record {
    sound = events_keep_sound w pid now t h.sound may is;
    right = events_keep_stays ys w pid now t h.sound may h.right is;
    told = event_tells ys w pid now t h.sound may h.right is h.told;
  }

  holds_strays : (access : Access) → event w pid ≡ strays access → HoldsBehind ys (remains_at (noted (stray_note pid access) w) (Some (stray_at pid access)))
  unfolding collect_all
  holds_strays access is =
      let one = turn_strays pid w access is 1 (omega arith) in
      record {
        sound = subst (λ (walk : Walk). IsSound walk.world) one (turns_keep_sound 1 pid w h.sound may);
        right = subst (λ (walk : Walk). AreRight (collect_all ys walk.traces) walk.world) one (turns_keep_stays ys 1 pid w h.sound may h.right);
        told = stray_tells ys w.notes pid access h.told;
      }

  holds_turned : (more : World → Walk) → ((zs : List Stay) (v : World) → MayRun v pid → Holds zs v → HoldsBehind zs (more v))
      → (o : Outcome) → event w pid ≡ o → HoldsBehind ys (turned more w pid o)
  unfolding collect_all
  holds_turned more on (went now t) is = over t.over refl
    where
      over : (b : Bool) → t.over ≡ b → HoldsBehind ys (traced t (if b then remains_at now None else more now))
      over true ends = holds_went now t is
      over false ends = on (collect ys t) now (may_run_still w pid now t may is ends) (holds_went now t is)
  holds_turned more on (strays access) is = holds_strays access is
  holds_turned more on full is = h
  holds_turned more on idle is = h

holds_turn : (count pid : ℕ) (ys : List Stay) (w : World) → MayRun w pid → Holds ys w → HoldsBehind ys (turn count pid w)
unfolding turn collect_all
holds_turn zero pid ys w may h = h
holds_turn (suc count) pid ys w may h = holds_turned ys w pid may h (turn count pid) (λ zs v still k. holds_turn count pid zs v still k) (event w pid) refl

pub turns_end_as_alone : TurnsEndAsAlone
turns_end_as_alone ys count pid w sound may right told = (holds_turn count pid ys w may (record { sound = sound; right = right; told = told })).told

-- ---- runs

holds_quantum : (ys : List Stay) (more : World → Walk) (w : World) (count : ℕ) (chosen : Option ℕ) → ((pid : ℕ) → chosen ≡ Some pid → MayRun w pid) → Holds ys w
    → ((zs : List Stay) (v : World) → Holds zs v → HoldsBehind zs (more v)) → HoldsBehind ys (quantum_turn more w count chosen)
unfolding collect_all
holds_quantum ys more w count None may h on = h
holds_quantum ys more w count (Some pid) may h on = goes (turn count pid w) (holds_turn count pid ys w (may pid refl) h)
  where
    goes : (walk : Walk) → HoldsBehind ys walk → HoldsBehind ys (going_on more walk)
    goes walk k = at walk.end
      where
        at : (end : Option End) → HoldsBehind ys (going_on more (record walk { end = end }))
        at (Some end) = k
        at None = subst (λ zs. Holds zs (more walk.world).world) (sym (collect_behind ys walk.traces (more walk.world).traces)) (on (collect_all ys walk.traces) walk.world k)

holds_turns : (quanta : List Quantum) (ys : List Stay) (w : World) → Holds ys w → HoldsBehind ys (turns quanta w)
unfolding turns collect_all
holds_turns [] ys w h = h
holds_turns (q ∷ qs) ys w h =
    holds_quantum ys (turns qs) w q.count (picked q.pick (ready_pids w.procs)) (λ pid is. ready_found w.procs w.next_pid q.pick pid is h.sound.pids) h
    (λ zs v k. holds_turns qs zs v k)

pub runs_end_as_alone : RunsEndAsAlone
runs_end_as_alone ys quanta w sound right told = (holds_turns quanta ys w (record { sound = sound; right = right; told = told })).told
