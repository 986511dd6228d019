-- A turn, by its events.
use Rattle.std.proofs.Common.{◌≡◌, ◌≢◌, ℕ, ◌+◌, ◌<◌, List, [], ◌∷◌, Some, None, Ok, Err, refl, sym, ap, subst, ◌∙◌, arith}
use Rattle.std.specs.declared.alloc.AllocError.{AllocError}
use Rattle.byte_words.specs.declared.access.Access.{Access}
use Rattle.rv32im_step.specs.declared.stop.Stop.{Stop}
use Rattle.rv32im_step.specs.declared.stop.Stop.TheVariants.{Next, Call, Trap, Refused}
use Rattle.page_runs.specs.declared.place.Kind.{Kind}
use Rattle.bflt_format.specs.Values.{Values}
use Rattle.call_log.specs.Notes.{stray_note}
use Rattle.vfork_exec.specs.Procs.{CanRun}
use Rattle.machine_world.specs.World.{World}
use Rattle.machine_world.specs.Event.{Outcome, went, strays, full, idle, noted, event}
use Rattle.machine_world.specs.Turns.{stray_at, log_full, Walk, remains_at, turn, walked}
use Rattle.machine_world.specs.Courses.{Leads, StandsAt, Halts}
use Rattle.machine_world.proofs.TurnLaws.{leads_none, leads_on, leads_event, turn_over, turn_strays, turn_full, turn_used, turn_from}
use Rattle.kept_parts.specs.Flats.{AreFlats}
use Rattle.kept_parts.specs.Kept.{Kept}
use Rattle.kept_parts.specs.Stands.{About, later, world_of}
use Rattle.flat_machine.specs.declared.run.End.TheVariants as told
use Rattle.flat_machine.specs.declared.turn.After.TheVariants as after
use Rattle.flat_machine.specs.Runs.{StandsStill}
use Rattle.flat_machine.specs.Leaves.{Carried, CarriedOrEnds, TurnStops, TurnLeaves}
use Rattle.kept_parts.proofs.Common.AnyRun.{some_about}

-- behind so many events of a process the parts are others
abbrev pub Reached : Kind → List Values → ℕ → Kept → ℕ → Kept → Type 0
Reached kind flats pid old n now = (a : About) → a.kind ≡ kind → AreFlats a.programs flats → Leads pid (world_of a old) n (world_of (later n a) now)

pub later_none : (a : About) → later 0 a ≡ a
later_none a = let sum : a.events + 0 ≡ a.events = omega arith in rw sum refl

pub later_on : (i j : ℕ) (a : About) → later j (later i a) ≡ later (i + j) a
later_on i j a = let sum : a.events + i + j ≡ a.events + (i + j) = omega arith in rw sum refl

pub reached_none : (kind : Kind) (flats : List Values) (pid : ℕ) (k : Kept) → Reached kind flats pid k 0 k
reached_none kind flats pid k a so are = subst (λ (b : About). Leads pid (world_of a k) 0 (world_of b k)) (sym (later_none a)) (leads_none pid (world_of a k))

pub reached_on : (kind : Kind) (flats : List Values) (pid : ℕ) (old mid now : Kept) (i j : ℕ) → Reached kind flats pid old i mid → Reached kind flats pid mid j now → Reached kind flats pid old (i + j) now
reached_on kind flats pid old mid now i j x y a so are =
    subst (λ (b : About). Leads pid (world_of a old) (i + j) (world_of b now)) (later_on i j a)
    (leads_on pid (world_of a old) (world_of (later i a) mid) (world_of (later j (later i a)) now) i j (x a so are) (y (later i a) so are))

-- ---- where a process stands

-- whatever is known of the run
stands_so : (a b : About) (k : Kept) (pid : ℕ) (stop : Stop) → StandsAt (world_of a k) pid stop → StandsAt (world_of b k) pid stop
unfolding world_of
stands_so a b k pid stop s = record { process = s.process; space = s.space; lives = s.lives; has = s.has; means = s.means }

pub halts_all : (w : World) (pid most done : ℕ) (stop : Stop) → stop ≡ Next → Halts w pid most done stop → done ≡ most
halts_all w pid most done stop is h = let P : Stop → Type 0 = Halts w pid most done in subst P is h

halts_at : (w : World) (pid most done : ℕ) (stop : Stop) → stop ≢ Next → Halts w pid most done stop → (done < most) × StandsAt w pid stop
halts_at w pid most done Next other h = absurd (other refl)
halts_at w pid most done Call other h = h
halts_at w pid most done (Trap signal) other h = h
halts_at w pid most done (Refused access) other h = h

-- after instructions of which the last step was none that is carried out
module _ (now : Kept) (pid most done : ℕ) (stop : Stop) (other : stop ≢ Next) (halts : (a : About) → Halts (world_of (later done a) now) pid most done stop) where
  pub halts_less : done < most
  halts_less = (halts_at (world_of (later done some_about) now) pid most done stop other (halts some_about)).0

  pub halts_stands : (a : About) → StandsAt (world_of a now) pid stop
  halts_stands a = stands_so (later done a) a now pid stop (halts_at (world_of (later done a) now) pid most done stop other (halts a)).1

still : (w : World) (pid : ℕ) (stop : Stop) → StandsAt w pid stop → StandsStill w pid
still w pid Next s = absurd s.means
still w pid Call s = record { process = s.process; space = s.space; lives = s.lives; has = s.has; still = λ regs bytes is. let e = sym s.means ∙ is in cc }
still w pid (Trap signal) s = record { process = s.process; space = s.space; lives = s.lives; has = s.has; still = λ regs bytes is. let e = sym s.means ∙ is in cc }
still w pid (Refused access) s = record { process = s.process; space = s.space; lives = s.lives; has = s.has; still = λ regs bytes is. let e = sym s.means ∙ is in cc }

-- ---- the event behind them

-- the process goes on
module _ (now new : Kept) (pid : ℕ) where
  one_on : (a : About) (o : Outcome) → event (world_of a now) pid ≡ o → Carried a o now new pid (Ok after.GoesOn) → Leads pid (world_of a now) 1 (world_of (later 1 a) new)
  one_on a (went v t) is x =
      subst (λ (w : World). Leads pid (world_of a now) 1 w) x.0 (leads_event pid (world_of a now) v t is x.1)
  one_on a (strays access) is x = absurd x
  one_on a full is x = absurd x
  one_on a idle is x = absurd x

  pub ready_on : (a : About) (o : Outcome) → Carried a o now new pid (Ok after.GoesOn) → CanRun new.procs pid
  ready_on a (went v t) x = x.2
  ready_on a (strays access) x = absurd x
  ready_on a full x = absurd x
  ready_on a idle x = absurd x

  module _ (kind : Kind) (flats : List Values) (x : (a : About) → a.kind ≡ kind → AreFlats a.programs flats → Carried a (event (world_of a now) pid) now new pid (Ok after.GoesOn)) where
    pub event_on : Reached kind flats pid now 1 new
    event_on a so are = one_on a (event (world_of a now) pid) refl (x a so are)

-- ---- the end of a turn

module _ (kind : Kind) (flats : List Values) (pid count : ℕ) (old now : Kept) (n : ℕ) (reached : Reached kind flats pid old n now) where
  pub turn_all : n ≡ count → (a : About) → a.kind ≡ kind → AreFlats a.programs flats → TurnLeaves pid count (world_of a old) n (world_of (later n a) now) (Ok None)
  turn_all all a so are =
      let used = turn_used pid (world_of a old) (world_of (later n a) now) n (reached a so are) in
      let P : ℕ → Type 0 = λ m. TurnLeaves pid m (world_of a old) n (world_of (later n a) now) (Ok None) in
      subst P all (ap (λ (v : Walk). v.world) used, ap (λ (v : Walk). v.end) used)

  module _ (less : n < count) (new : Kept) where
    whole : (a : About) (so : a.kind ≡ kind) (are : AreFlats a.programs flats) (walk : Walk) → ((m : ℕ) → 0 < m → turn m pid (world_of (later n a) now) ≡ walk) → turn count pid (world_of a old) ≡ walked (reached a so are).traces walk
    whole a so are walk is = turn_from pid (world_of a old) (world_of (later n a) now) n (reached a so are) count walk less is

    ends_with : (a : About) → a.kind ≡ kind → AreFlats a.programs flats → (o : Outcome) → event (world_of (later n a) now) pid ≡ o → Carried (later n a) o now new pid (Ok after.TurnEnds)
        → TurnLeaves pid count (world_of a old) (n + 1) (world_of (later (n + 1) a) new) (Ok None)
    ends_with a so are (went v t) is x =
        let same = whole a so are (record { world = v; traces = t ∷ []; end = None }) (turn_over pid (world_of (later n a) now) v t is x.1) in
        (ap (λ (z : Walk). z.world) same ∙ x.0 ∙ ap (λ (b : About). world_of b new) (later_on n 1 a), ap (λ (z : Walk). z.end) same)
    ends_with a so are (strays access) is x = absurd x
    ends_with a so are full is x = absurd x
    ends_with a so are idle is x = absurd x

    pub turn_ends : ((a : About) → a.kind ≡ kind → AreFlats a.programs flats → Carried a (event (world_of a now) pid) now new pid (Ok after.TurnEnds))
        → (a : About) → a.kind ≡ kind → AreFlats a.programs flats → TurnLeaves pid count (world_of a old) (n + 1) (world_of (later (n + 1) a) new) (Ok None)
    turn_ends x a so are = ends_with a so are (event (world_of (later n a) now) pid) refl (x (later n a) so are)

    full_with : (a : About) → a.kind ≡ kind → AreFlats a.programs flats → (o : Outcome) → event (world_of (later n a) now) pid ≡ o → Carried (later n a) o now new pid (Ok after.LogFull)
        → TurnLeaves pid count (world_of a old) n (world_of (later n a) new) (Ok (Some told.LogFull))
    full_with a so are full is x =
        let same = whole a so are (remains_at (world_of (later n a) now) (Some log_full)) (turn_full pid (world_of (later n a) now) is) in
        (ap (λ (z : Walk). z.world) same ∙ ap (world_of (later n a)) (sym x), rw same tt)
    full_with a so are (went v t) is x = absurd x
    full_with a so are (strays access) is x = absurd x
    full_with a so are idle is x = absurd x

    pub turn_stops_full : ((a : About) → a.kind ≡ kind → AreFlats a.programs flats → Carried a (event (world_of a now) pid) now new pid (Ok after.LogFull))
        → (a : About) → a.kind ≡ kind → AreFlats a.programs flats → TurnLeaves pid count (world_of a old) n (world_of (later n a) new) (Ok (Some told.LogFull))
    turn_stops_full x a so are = full_with a so are (event (world_of (later n a) now) pid) refl (x (later n a) so are)

    strays_with : (a : About) → a.kind ≡ kind → AreFlats a.programs flats → (o : Outcome) (seen : Access) → event (world_of (later n a) now) pid ≡ o
        → CarriedOrEnds (later n a) o now new pid (Ok (after.Strays seen)) → TurnLeaves pid count (world_of a old) n (world_of (later n a) new) (Ok (Some (told.Stray seen)))
    strays_with a so are (strays access) seen is x =
        let w : World = noted (stray_note pid access) (world_of (later n a) now) in
        let same = whole a so are (remains_at w (Some (stray_at pid access))) (turn_strays pid (world_of (later n a) now) access is) in
        (ap (λ (z : Walk). z.world) same ∙ sym x.1, rw same x.0)
    strays_with a so are (went v t) seen is x = absurd x
    strays_with a so are full seen is x = absurd x
    strays_with a so are idle seen is x = absurd x

    pub turn_stops_stray : (seen : Access) → ((a : About) → a.kind ≡ kind → AreFlats a.programs flats → CarriedOrEnds a (event (world_of a now) pid) now new pid (Ok (after.Strays seen)))
        → (a : About) → a.kind ≡ kind → AreFlats a.programs flats → TurnLeaves pid count (world_of a old) n (world_of (later n a) new) (Ok (Some (told.Stray seen)))
    turn_stops_stray seen x a so are = strays_with a so are (event (world_of (later n a) now) pid) seen refl (x (later n a) so are)

    pub turn_fails : (stop : Stop) → ((a : About) → StandsAt (world_of a now) pid stop) → new ≡ now → (error : AllocError)
        → (a : About) → a.kind ≡ kind → AreFlats a.programs flats → TurnLeaves pid count (world_of a old) n (world_of (later n a) new) (Err error)
    turn_fails stop stands same error a so are =
        let used = turn_used pid (world_of a old) (world_of (later n a) now) n (reached a so are) in
        let P : Kept → Type 0 = λ k. TurnStops pid count (world_of a old) n (world_of (later n a) k) in
        subst P (sym same) (record {
          less = less;
          walked = ap (λ (v : Walk). v.world) used;
          goes_on = ap (λ (v : Walk). v.end) used;
          still = still (world_of (later n a) now) pid stop (stands (later n a));
        })
