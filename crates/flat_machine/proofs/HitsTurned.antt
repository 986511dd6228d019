-- The hits of a turn, by its events: none is made but by instructions that are carried out.
use Rattle.std.proofs.Common.{◌≡◌, ℕ, zero, suc, ◌+◌, ◌-◌, ◌<◌, List, [], Some, None, Ok, Err, refl, sym, ap, subst, ◌∙◌, arith}
use Rattle.std.specs.declared.alloc.AllocError.{AllocError}
use Rattle.byte_words.specs.declared.access.Access.{Access}
use Rattle.rv32im_step.specs.declared.stop.Stop.{Stop}
use Rattle.page_runs.specs.declared.place.Kind.{Kind}
use Rattle.bflt_format.specs.Values.{Values}
use Rattle.machine_world.specs.World.{World}
use Rattle.machine_world.specs.Event.{Outcome, went, strays, full, idle, event}
use Rattle.machine_world.specs.Courses.{StandsAt}
use Rattle.memory_world.specs.Physical.{Physical}
use Rattle.kept_parts.specs.Flats.{AreFlats}
use Rattle.kept_parts.specs.Kept.{Kept}
use Rattle.kept_parts.specs.Stands.{About, later, world_of}
use Rattle.kept_parts.specs.InMemory.{headers_of, physical_of}
use Rattle.watch_points.specs.declared.hits.Hit.{Hit}
use Rattle.watch_points.specs.declared.point.PointKind.{PointKind}
use Rattle.watch_points.specs.declared.span.Span.{Span}
use Rattle.watch_points.specs.Points.{Found, with_hits}
use Rattle.flat_machine.specs.declared.run.End.TheVariants as told
use Rattle.flat_machine.specs.declared.turn.After.TheVariants as after
use Rattle.flat_machine.specs.Leaves.{Carried, CarriedOrEnds}
use Rattle.flat_machine.specs.Hits.{turn_hits, turn_hits_in}
use Rattle.flat_machine.specs.HitsLeft.{HitsLead, TurnHits}
use Rattle.flat_machine.proofs.Turned.{later_none, later_on}
use Rattle.flat_machine.proofs.HitsOn.{lead_none, lead_on, lead_used, lead_over, no_hits, no_hits_in, quiet_next}

-- behind so many events of a process, whatever is known of the run
abbrev pub HitsReached : {W : Type 0} → (ℕ → W → List Hit) → (About → Kept → W) → Kind → List Values → (before found : Found) → Kept → ℕ → Kept → Type 0
HitsReached T at kind flats before found old n now = (a : About) → a.kind ≡ kind → AreFlats a.programs flats → HitsLead T before found (at a old) n (at (later n a) now)

module _ {W : Type 0} (T : ℕ → W → List Hit) (at : About → Kept → W) (kind : Kind) (flats : List Values) where
  pub hits_reached_none : (found : Found) (k : Kept) → HitsReached T at kind flats found found k 0 k
  hits_reached_none found k a so are = subst (λ (b : About). HitsLead T found found (at a k) 0 (at b k)) (sym (later_none a)) (lead_none T found (at a k))

  pub hits_reached_on : (before mid found : Found) (old here now : Kept) (i j : ℕ) → HitsReached T at kind flats before mid old i here → HitsReached T at kind flats mid found here j now
      → HitsReached T at kind flats before found old (i + j) now
  hits_reached_on before mid found old here now i j x y a so are =
      subst (λ (b : About). HitsLead T before found (at a old) (i + j) (at b now)) (later_on i j a)
      (lead_on T before mid found (at a old) (at (later i a) here) (at (later j (later i a)) now) i j (x a so are) (y (later i a) so are))

-- ---- in the world

module _ (point : PointKind) (spans : List Span) (mid new : Kept) (pid : ℕ) (stop : Stop) where
  abbrev T : ℕ → World → List Hit
  T = turn_hits point spans pid

  on_with : (a : About) (o : Outcome) → event (world_of a mid) pid ≡ o → StandsAt (world_of a mid) pid stop → Carried a o mid new pid (Ok after.GoesOn)
      → (n : ℕ) → T (suc n) (world_of a mid) ≡ T n (world_of (later 1 a) new)
  on_with a (went v t) is stands x n =
      quiet_next point spans pid n (world_of a mid) stop stands (went v t) is ∙ (rw x.1 (ap (T n) x.0))
  on_with a (strays access) is stands x n = absurd x
  on_with a full is stands x n = absurd x
  on_with a idle is stands x n = absurd x

  over_with : (a : About) (o : Outcome) → event (world_of a mid) pid ≡ o → StandsAt (world_of a mid) pid stop → Carried a o mid new pid (Ok after.TurnEnds)
      → (n : ℕ) → T (suc n) (world_of a mid) ≡ []
  over_with a (went v t) is stands x n = quiet_next point spans pid n (world_of a mid) stop stands (went v t) is ∙ (rw x.1 refl)
  over_with a (strays access) is stands x n = absurd x
  over_with a full is stands x n = absurd x
  over_with a idle is stands x n = absurd x

  full_with : (a : About) (o : Outcome) → event (world_of a mid) pid ≡ o → StandsAt (world_of a mid) pid stop → Carried a o mid new pid (Ok after.LogFull)
      → (n : ℕ) → T (suc n) (world_of a mid) ≡ []
  full_with a full is stands x n = quiet_next point spans pid n (world_of a mid) stop stands full is
  full_with a (went v t) is stands x n = absurd x
  full_with a (strays access) is stands x n = absurd x
  full_with a idle is stands x n = absurd x

  stray_with : (a : About) (o : Outcome) (seen : Access) → event (world_of a mid) pid ≡ o → StandsAt (world_of a mid) pid stop → CarriedOrEnds a o mid new pid (Ok (after.Strays seen))
      → (n : ℕ) → T (suc n) (world_of a mid) ≡ []
  stray_with a (strays access) seen is stands x n = quiet_next point spans pid n (world_of a mid) stop stands (strays access) is
  stray_with a (went v t) seen is stands x n = absurd x
  stray_with a full seen is stands x n = absurd x
  stray_with a idle seen is stands x n = absurd x

-- none by none
some_none : {W : Type 0} (T : ℕ → W → List Hit) (w : W) → ((n : ℕ) → T (suc n) w ≡ []) → (n : ℕ) → 0 < n → T n w ≡ []
some_none T w each zero some = absurd (omega (arith, some))
some_none T w each (suc n) some = each n

module _ (point : PointKind) (spans : List Span) (kind : Kind) (flats : List Values) (mid new : Kept) (pid : ℕ) (stop : Stop) (stands : (a : About) → StandsAt (world_of a mid) pid stop) where
  pub event_hits : (found : Found) → ((a : About) → a.kind ≡ kind → AreFlats a.programs flats → Carried a (event (world_of a mid) pid) mid new pid (Ok after.GoesOn))
      → HitsReached (turn_hits point spans pid) world_of kind flats found found mid 1 new
  event_hits found carried a so are left =
      let sum : suc left ≡ 1 + left = omega arith in
      ap (with_hits found) (sym (on_with point spans mid new pid stop a (event (world_of a mid) pid) refl (stands a) (carried a so are) left))
      ∙ ap (λ (n : ℕ). with_hits found (turn_hits point spans pid n (world_of a mid))) sum

  module _ (before found : Found) (old : Kept) (n count : ℕ) (less : n < count) (reached : HitsReached (turn_hits point spans pid) world_of kind flats before found old n mid) where
    ended : (a : About) → a.kind ≡ kind → AreFlats a.programs flats → ((m : ℕ) → turn_hits point spans pid (suc m) (world_of (later n a) mid) ≡ [])
        → found ≡ with_hits before (turn_hits point spans pid count (world_of a old))
    ended a so are none =
        lead_over (turn_hits point spans pid) before found (world_of a old) (world_of (later n a) mid) n count less
        (some_none (turn_hits point spans pid) (world_of (later n a) mid) none) (reached a so are)

    pub turn_hits_over : ((a : About) → a.kind ≡ kind → AreFlats a.programs flats → Carried a (event (world_of a mid) pid) mid new pid (Ok after.TurnEnds))
        → (a : About) → a.kind ≡ kind → AreFlats a.programs flats → TurnHits (turn_hits point spans pid) before found count (world_of a old) (n + 1) (Ok None)
    turn_hits_over carried a so are =
        ended a so are (over_with point spans mid new pid stop (later n a) (event (world_of (later n a) mid) pid) refl (stands (later n a)) (carried (later n a) so are))

    pub turn_hits_full : ((a : About) → a.kind ≡ kind → AreFlats a.programs flats → Carried a (event (world_of a mid) pid) mid new pid (Ok after.LogFull))
        → (a : About) → a.kind ≡ kind → AreFlats a.programs flats → TurnHits (turn_hits point spans pid) before found count (world_of a old) n (Ok (Some told.LogFull))
    turn_hits_full carried a so are =
        ended a so are (full_with point spans mid new pid stop (later n a) (event (world_of (later n a) mid) pid) refl (stands (later n a)) (carried (later n a) so are))

    pub turn_hits_stray : (seen : Access) → ((a : About) → a.kind ≡ kind → AreFlats a.programs flats → CarriedOrEnds a (event (world_of a mid) pid) mid new pid (Ok (after.Strays seen)))
        → (a : About) → a.kind ≡ kind → AreFlats a.programs flats → TurnHits (turn_hits point spans pid) before found count (world_of a old) n (Ok (Some (told.Stray seen)))
    turn_hits_stray seen carried a so are =
        ended a so are (stray_with point spans mid new pid stop (later n a) (event (world_of (later n a) mid) pid) seen refl (stands (later n a)) (carried (later n a) so are))

module _ (point : PointKind) (spans : List Span) (kind : Kind) (flats : List Values) (before found : Found) (old mid : Kept) (pid n count : ℕ) where
  -- all events were carried out
  pub turn_hits_all : n ≡ count → HitsReached (turn_hits point spans pid) world_of kind flats before found old n mid
      → (a : About) → a.kind ≡ kind → AreFlats a.programs flats → TurnHits (turn_hits point spans pid) before found count (world_of a old) n (Ok None)
  turn_hits_all all reached a so are =
      lead_used (turn_hits point spans pid) before found (world_of a old) (world_of (later n a) mid) n (no_hits point spans pid (world_of (later n a) mid)) (reached a so are)
      ∙ ap (λ (m : ℕ). with_hits before (turn_hits point spans pid m (world_of a old))) all

  -- or some, and memory ended
  pub turn_hits_fail : (error : AllocError) → HitsReached (turn_hits point spans pid) world_of kind flats before found old n mid
      → (a : About) → a.kind ≡ kind → AreFlats a.programs flats → TurnHits (turn_hits point spans pid) before found count (world_of a old) n (Err error)
  turn_hits_fail error reached a so are =
      lead_used (turn_hits point spans pid) before found (world_of a old) (world_of (later n a) mid) n (no_hits point spans pid (world_of (later n a) mid)) (reached a so are)

-- ---- in the one memory

module _ (point : PointKind) (spans : List Span) (kind : Kind) (flats : List Values) (before found : Found) (old mid : Kept) (pid n count : ℕ)
    (reached : HitsReached (turn_hits_in point spans pid) (physical_of (headers_of flats)) kind flats before found old n mid) where
  abbrev T_in : ℕ → Physical → List Hit
  T_in = turn_hits_in point spans pid

  abbrev shown : About → Kept → Physical
  shown = physical_of (headers_of flats)

  -- the event behind them is the last: it makes those of what is left
  pub turn_hits_last_in : n < count → (now : Found) → ((a : About) → a.kind ≡ kind → AreFlats a.programs flats → (left : ℕ) → now ≡ with_hits found (T_in (suc left) (shown a mid)))
      → (a : About) → a.kind ≡ kind → AreFlats a.programs flats → now ≡ with_hits before (T_in count (shown a old))
  turn_hits_last_in less now last a so are =
      let left : ℕ = count - (n + 1) in
      let rest : n + suc left ≡ count = omega (arith, less) in
      last (later n a) so are left ∙ reached a so are (suc left) ∙ ap (λ (m : ℕ). with_hits before (T_in m (shown a old))) rest

  -- all events were carried out
  pub turn_hits_all_in : n ≡ count → (a : About) → a.kind ≡ kind → AreFlats a.programs flats → TurnHits (turn_hits_in point spans pid) before found count (physical_of (headers_of flats) a old) n (Ok None)
  turn_hits_all_in all a so are =
      lead_used T_in before found (shown a old) (shown (later n a) mid) n (no_hits_in point spans pid (shown (later n a) mid)) (reached a so are)
      ∙ ap (λ (m : ℕ). with_hits before (T_in m (shown a old))) all

  -- or some, and memory ended
  pub turn_hits_fail_in : (now : Found) → now ≡ found → (error : AllocError)
      → (a : About) → a.kind ≡ kind → AreFlats a.programs flats → TurnHits (turn_hits_in point spans pid) before now count (physical_of (headers_of flats) a old) n (Err error)
  turn_hits_fail_in now same error a so are =
      same ∙ lead_used T_in before found (shown a old) (shown (later n a) mid) n (no_hits_in point spans pid (shown (later n a) mid)) (reached a so are)
