-- A turn by its events, by what becomes of the run at its first stray access: how far it came, and its end.
use Rattle.std.proofs.Common.{◌≡◌, ℕ, suc, ◌+◌, ◌<◌, ◌≤◌, false, List, Some, None, Ok, Err, refl, sym, ap, subst, ◌∙◌, arith}
use Rattle.std.specs.declared.alloc.AllocError.{AllocError}
use Rattle.std.proofs.lemmas.Bool.{false≢true}
use Rattle.page_runs.specs.declared.place.Kind.{Kind}
use Rattle.bflt_format.specs.Values.{Values}
use Rattle.byte_words.specs.declared.access.Access.{Access}
use Rattle.rv32im_step.specs.declared.stop.Stop.{Stop}
use Rattle.vfork_exec.specs.Procs.{CanRun}
use Rattle.region_watch.specs.declared.mode.Mode.{Mode}
use Rattle.region_watch.specs.declared.mode.Mode.TheVariants.{Halt, GoOn}
use Rattle.machine_world.specs.World.{World}
use Rattle.machine_world.specs.Event.{Outcome, went, strays, full, idle, event}
use Rattle.machine_world.specs.Turns.{turn}
use Rattle.machine_world.specs.Courses.{Leads, StandsAt}
use Rattle.memory_world.specs.Physical.{Physical, has_stray}
use Rattle.memory_world.specs.Courses.{LeadsIn}
use Rattle.memory_world.specs.Growth.{Adds}
use Rattle.kept_parts.specs.Flats.{AreFlats}
use Rattle.kept_parts.specs.Kept.{Kept}
use Rattle.kept_parts.specs.Stands.{About, later, world_of}
use Rattle.kept_parts.specs.InMemory.{headers_of, physical_of}
use Rattle.kept_parts.proofs.Common.AnyRun.{about_with, some_are_flats}
use Rattle.watch_points.specs.declared.hits.Hit.{Hit}
use Rattle.watch_points.specs.declared.point.PointKind.{PointKind}
use Rattle.watch_points.specs.declared.span.Span.{Span}
use Rattle.watch_points.specs.Points.{Found, with_hits}
use Rattle.flat_machine.specs.declared.run.End.TheVariants as told
use Rattle.flat_machine.specs.declared.turn.After.{After}
use Rattle.flat_machine.specs.declared.turn.After.TheVariants as after
use Rattle.flat_machine.specs.Leaves.{Carried}
use Rattle.flat_machine.specs.LeavesIn.{StandsStillIn, GoesPast}
use Rattle.flat_machine.specs.ByMode.{HaltEvent, GoOnEvent, HaltTurn, GoOnTurn}
use Rattle.flat_machine.specs.Hooks.{Given, given}
use Rattle.flat_machine.specs.Hits.{turn_hits, turn_hits_in}
use Rattle.flat_machine.specs.HitsLeft.{HitsLead}
use Rattle.flat_machine.proofs.EventsOn.{NotStray, of_ends, adds_event, goes_other, ends_other, full_other}
use Rattle.flat_machine.proofs.Turned.{Reached, reached_none, reached_on, ready_on, event_on, turn_all, turn_ends, turn_stops_full, turn_stops_stray, turn_fails}
use Rattle.flat_machine.proofs.TurnsIn.{ReachedIn, reached_in_none, reached_in_on, quiet_on, quiet_ends, turn_all_in, turn_ends_in, turn_stops_in, turn_fails_in}
use Rattle.flat_machine.proofs.TurnsPast.{FirstReached, first_reached_none, first_reached_on, first_reached_event, carried_quiet, reached_quiet, past_event, past_so, reached_adds}
use Rattle.flat_machine.proofs.HitsTurned.{HitsReached, hits_reached_none, hits_reached_on, event_hits, turn_hits_all, turn_hits_over, turn_hits_full, turn_hits_stray, turn_hits_fail, turn_hits_last_in, turn_hits_all_in, turn_hits_fail_in}

at_most : {n count : ℕ} → n ≡ count → n ≤ count
at_most same = omega (arith, same)

next_most : {n count : ℕ} → n < count → n + 1 ≤ count
next_most less = omega (arith, less)

less_most : {n count : ℕ} → n < count → n ≤ count
less_most less = omega (arith, less)

-- an event of a run that goes on never tells a stray access
pub goes_on_strays : (run : Given) (pid : ℕ) (old : Kept) (before : Found) (new : Kept) (found : Found) (access : Access) → GoOnEvent run pid old before new found (Ok (after.Strays access)) → ⊥
goes_on_strays run pid old before new found access e = e.whole.memory (about_with run.kind run.flats) refl (some_are_flats run.flats)

-- who goes on may run
pub ready_by_mode : (run : Given) (pid : ℕ) (old : Kept) (before : Found) (new : Kept) (found : Found) (mode : Mode)
    → (mode ≡ Halt → HaltEvent run.kind run.flats pid old before new found (Ok after.GoesOn)) → (mode ≡ GoOn → GoOnEvent run pid old before new found (Ok after.GoesOn)) → CanRun new.procs pid
ready_by_mode run pid old before new found Halt halts goes_on =
    let b = about_with run.kind run.flats in
    let e = halts refl in
    ready_on old new pid b (event (world_of b old) pid) (of_ends b old new pid (event (world_of b old) pid) after.GoesOn goes_other (e.carried b refl (some_are_flats run.flats)))
ready_by_mode run pid old before new found GoOn halts goes_on =
    let e = goes_on refl in
    (e.whole.memory (about_with run.kind run.flats) refl (some_are_flats run.flats)).1

-- out of memory no hit was found
pub hits_same : (kind : Kind) (flats : List Values) (before found : Found) → ((a : About) → a.kind ≡ kind → AreFlats a.programs flats → found ≡ before) → found ≡ before
hits_same kind flats before found same = same (about_with kind flats) refl (some_are_flats flats)

module _ (kind : Kind) (flats : List Values) (point : PointKind) (spans : List Span) (pid : ℕ) (before : Found) (old : Kept) where
  abbrev T : ℕ → World → List Hit
  T = turn_hits point spans pid

  abbrev T_in : ℕ → Physical → List Hit
  T_in = turn_hits_in point spans pid

  -- what the run is given
  abbrev run : Given
  run = given kind (record { point = point; spans = spans }) flats

  abbrev shown : About → Kept → Physical
  shown = physical_of (headers_of flats)

  -- ---- a run that ends there

  pub record HaltReached (n : ℕ) (found : Found) (now : Kept) : Type 0 where
    pub leads : Reached kind flats pid old n now
    pub hits : HitsReached T world_of kind flats before found old n now
    pub quiet : has_stray now.notes ≡ false

  pub halt_none : has_stray old.notes ≡ false → HaltReached 0 before old
  halt_none quiet = record {
    leads = reached_none kind flats pid old;
    hits = hits_reached_none T world_of kind flats before old;
    quiet = quiet;
  }

  pub halt_on : (n : ℕ) (found : Found) (mid : Kept) → HaltReached n found mid → (j : ℕ) (now : Found) (new : Kept) → has_stray new.notes ≡ has_stray mid.notes
      → ((a : About) → Leads pid (world_of a mid) j (world_of (later j a) new)) → ((a : About) → HitsLead T found now (world_of a mid) j (world_of (later j a) new)) → HaltReached (n + j) now new
  halt_on n found mid x j now new notes leads hits = record {
    leads = reached_on kind flats pid old mid new n j x.leads (λ a so are. leads a);
    hits = hits_reached_on T world_of kind flats before found now old mid new n j x.hits (λ a so are. hits a);
    quiet = notes ∙ x.quiet;
  }

  pub halt_all : (n count : ℕ) (found : Found) (now : Kept) → HaltReached n found now → n ≡ count → HaltTurn run pid count old before n now found (Ok None)
  halt_all n count found now x all = record {
    leaves = turn_all kind flats pid count old now n x.leads all;
    quiet = λ calm. x.quiet;
    holds = λ access is. absurd cc;
    hits = turn_hits_all point spans kind flats before found old now pid n count all x.hits;
  }

  -- the event behind them
  module _ (n count : ℕ) (found : Found) (mid : Kept) (x : HaltReached n found mid) (less : n < count) (stop : Stop) (stands : (a : About) → StandsAt (world_of a mid) pid stop) (new : Kept) (now : Found) where
    carried_by : (r : After) → NotStray r → HaltEvent kind flats pid mid found new now (Ok r) → (a : About) → a.kind ≡ kind → AreFlats a.programs flats → Carried a (event (world_of a mid) pid) mid new pid (Ok r)
    carried_by r other e a so are = of_ends a mid new pid (event (world_of a mid) pid) r other (e.carried a so are)

    full_same : (a : About) → Carried a (event (world_of a mid) pid) mid new pid (Ok after.LogFull) → new ≡ mid
    full_same a y = by (event (world_of a mid) pid) y
      where
        by : (o : Outcome) → Carried a o mid new pid (Ok after.LogFull) → new ≡ mid
        by full y = y
        by (went v t) y = absurd y
        by (strays access) y = absurd y
        by idle y = absurd y

    pub halt_event : HaltEvent kind flats pid mid found new now (Ok after.GoesOn) → HaltReached (n + 1) now new
    halt_event e =
        let carried = carried_by after.GoesOn goes_other e in
        let b = about_with kind flats in
        record {
          leads = reached_on kind flats pid old mid new n 1 x.leads (event_on mid new pid kind flats carried);
          hits = subst (λ (f : Found). HitsReached T world_of kind flats before f old (n + 1) new) (sym e.hits)
              (hits_reached_on T world_of kind flats before found found old mid new n 1 x.hits (event_hits point spans kind flats mid new pid stop stands found carried));
          quiet = quiet_on b mid new pid (event (world_of b mid) pid) refl x.quiet (carried b refl (some_are_flats flats));
        }

    pub halt_over : HaltEvent kind flats pid mid found new now (Ok after.TurnEnds) → HaltTurn run pid count old before (n + 1) new now (Ok None)
    halt_over e =
        let carried = carried_by after.TurnEnds ends_other e in
        let b = about_with kind flats in
        record {
          leaves = turn_ends kind flats pid count old mid n x.leads less new carried;
          quiet = λ calm. quiet_ends b mid new pid (event (world_of b mid) pid) refl x.quiet (carried b refl (some_are_flats flats));
          holds = λ access is. absurd cc;
          hits = λ a so are. e.hits ∙ turn_hits_over point spans kind flats mid new pid stop stands before found old n count less x.hits carried a so are;
        }

    pub halt_strays : (seen : Access) → HaltEvent kind flats pid mid found new now (Ok (after.Strays seen)) → HaltTurn run pid count old before n new now (Ok (Some (told.Stray seen)))
    halt_strays seen e = record {
      leaves = turn_stops_stray kind flats pid count old mid n x.leads less new seen e.carried;
      quiet = λ calm. absurd (false≢true (sym calm));
      holds = λ access is. e.holds seen refl;
      hits = λ a so are. e.hits ∙ turn_hits_stray point spans kind flats mid new pid stop stands before found old n count less x.hits seen e.carried a so are;
    }

    pub halt_full : HaltEvent kind flats pid mid found new now (Ok after.LogFull) → HaltTurn run pid count old before n new now (Ok (Some told.LogFull))
    halt_full e =
        let carried = carried_by after.LogFull full_other e in
        let b = about_with kind flats in
        record {
          leaves = turn_stops_full kind flats pid count old mid n x.leads less new carried;
          quiet = λ calm. ap (λ (k : Kept). has_stray k.notes) (full_same b (carried b refl (some_are_flats flats))) ∙ x.quiet;
          holds = λ access is. absurd cc;
          hits = λ a so are. e.hits ∙ turn_hits_full point spans kind flats mid new pid stop stands before found old n count less x.hits carried a so are;
        }

    pub halt_fails : new ≡ mid → now ≡ found → (error : AllocError) → HaltTurn run pid count old before n new now (Err error)
    halt_fails same none error = record {
      leaves = turn_fails kind flats pid count old mid n x.leads less new stop stands same error;
      quiet = λ calm. ap (λ (k : Kept). has_stray k.notes) same ∙ x.quiet;
      holds = λ access is. absurd cc;
      hits = λ a so are. none ∙ turn_hits_fail point spans kind flats before found old mid pid n count error x.hits a so are;
    }

  -- ---- a run that goes on

  pub record GoOnReached (n : ℕ) (found : Found) (now : Kept) : Type 0 where
    pub leads : ReachedIn kind flats pid old n now
    pub hits : HitsReached T_in shown kind flats before found old n now
    pub first : has_stray old.notes ≡ false → FirstReached kind flats pid old n now

  pub goes_on_none : GoOnReached 0 before old
  goes_on_none = record {
    leads = reached_in_none kind flats pid old;
    hits = hits_reached_none T_in shown kind flats before old;
    first = λ quiet. first_reached_none kind flats pid old quiet;
  }

  pub goes_on_on : (n : ℕ) (found : Found) (mid : Kept) → GoOnReached n found mid → (j : ℕ) (now : Found) (new : Kept) → has_stray new.notes ≡ has_stray mid.notes
      → ((headers : List (List ℕ)) (a : About) → LeadsIn pid (physical_of headers a mid) j (physical_of headers (later j a) new))
      → ((headers : List (List ℕ)) (a : About) → HitsLead T_in found now (physical_of headers a mid) j (physical_of headers (later j a) new))
      → (has_stray mid.notes ≡ false → (a : About) → Leads pid (world_of a mid) j (world_of (later j a) new)) → GoOnReached (n + j) now new
  goes_on_on n found mid x j now new notes leads hits own = record {
    leads = reached_in_on kind flats pid old mid new n j x.leads (λ a so are. leads (headers_of flats) a);
    hits = hits_reached_on T_in shown kind flats before found now old mid new n j x.hits (λ a so are. hits (headers_of flats) a);
    first = λ quiet. first_reached_on kind flats pid old mid new n (x.first quiet) (reached_adds (headers_of flats) pid mid new j (leads (headers_of flats))) j notes (λ still a so are. own still a);
  }

  pub goes_on_all : (n count : ℕ) (found : Found) (now : Kept) → GoOnReached n found now → n ≡ count → GoOnTurn run pid count old before n now found (Ok None)
  unfolding world_of
  goes_on_all n count found now x all = record {
    memory = turn_all_in kind flats pid old now now n count all x.leads;
    first = λ quiet a so are. (λ still. turn_all kind flats pid count old now n ((x.first quiet).quiet still) all a so are, λ was. (x.first quiet).past was a so are count (at_most all));
    hits = turn_hits_all_in point spans kind flats before found old now pid n count x.hits all;
  }

  module _ (n count : ℕ) (found : Found) (mid : Kept) (x : GoOnReached n found mid) (less : n < count) (new : Kept) (now : Found) where
    adds_by : (r : After) → GoOnEvent run pid mid found new now (Ok r) → (a : About) → Adds (world_of a mid) (world_of a new)
    adds_by r e = adds_event kind flats mid new pid r e.whole.memory

    pub goes_on_event : GoOnEvent run pid mid found new now (Ok after.GoesOn) → GoOnReached (n + 1) now new
    goes_on_event e = record {
      leads = reached_in_on kind flats pid old mid new n 1 x.leads (λ a so are. (e.whole.memory a so are).0);
      hits = hits_reached_on T_in shown kind flats before found now old mid new n 1 x.hits e.whole.hits;
      first = λ quiet. first_reached_event kind flats pid old mid new n (x.first quiet) (adds_by after.GoesOn e) e.first;
    }

    -- the hits of its last event
    hits_last : ((a : About) → a.kind ≡ kind → AreFlats a.programs flats → (left : ℕ) → now ≡ with_hits found (T_in (suc left) (physical_of (headers_of flats) a mid)))
        → (a : About) → a.kind ≡ kind → AreFlats a.programs flats → now ≡ with_hits before (T_in count (physical_of (headers_of flats) a old))
    hits_last last = turn_hits_last_in point spans kind flats before found old mid pid n count x.hits less now last

    pub goes_on_over : GoOnEvent run pid mid found new now (Ok after.TurnEnds) → GoOnTurn run pid count old before (n + 1) new now (Ok None)
    unfolding world_of
    goes_on_over e = record {
      memory = turn_ends_in kind flats pid old mid new n count less x.leads e.whole.memory;
      hits = hits_last e.whole.hits;
      first = λ quiet a so are.
          let f = x.first quiet in
          let adds = adds_by after.TurnEnds e in (
            λ still. turn_ends kind flats pid count old mid n (reached_quiet kind flats pid old mid new n f adds after.TurnEnds e.first still) less new
                (carried_quiet kind flats pid old mid new n f adds after.TurnEnds e.first still) a so are,
            λ was. past_event kind flats pid old mid new n f adds after.TurnEnds e.first was a so are count (next_most less),
          );
    }

    pub goes_on_full : GoOnEvent run pid mid found new now (Ok after.LogFull) → GoOnTurn run pid count old before n new now (Ok (Some told.LogFull))
    unfolding world_of
    goes_on_full e = record {
      memory = turn_stops_in kind flats pid old mid new n count less x.leads e.whole.memory;
      hits = hits_last e.whole.hits;
      first = λ quiet a so are.
          let f = x.first quiet in
          let adds = adds_by after.LogFull e in (
            λ still. turn_stops_full kind flats pid count old mid n (reached_quiet kind flats pid old mid new n f adds after.LogFull e.first still) less new
                (carried_quiet kind flats pid old mid new n f adds after.LogFull e.first still) a so are,
            λ was. past_so _ (later (n + 1) a) (later n a) new (past_event kind flats pid old mid new n f adds after.LogFull e.first was a so are count (next_most less)),
          );
    }

    pub goes_on_fails : (stop : Stop) → (has_stray mid.notes ≡ false → (a : About) → StandsAt (world_of a mid) pid stop) → ((a : About) → StandsStillIn (physical_of (headers_of flats) a mid) pid)
        → new ≡ mid → now ≡ found → (error : AllocError) → GoOnTurn run pid count old before n new now (Err error)
    unfolding world_of
    goes_on_fails stop stands still same none error = record {
      memory = turn_fails_in kind flats pid old mid new n count less x.leads error same still;
      hits = turn_hits_fail_in point spans kind flats before found old mid pid n count x.hits now none error;
      first = λ quiet a so are.
          let f = x.first quiet in (
            λ quiet_new. turn_fails kind flats pid count old mid n (f.quiet (was_same quiet_new)) less new stop (stands (was_same quiet_new)) same error a so are,
            λ was. subst (λ (k : Kept). GoesPast (turn count pid (world_of a old)) (world_of (later n a) k)) (sym same) (f.past (ap (λ (k : Kept). has_stray k.notes) (sym same) ∙ was) a so are count (less_most less)),
          );
    }
      where
        was_same : has_stray new.notes ≡ false → has_stray mid.notes ≡ false
        was_same quiet = ap (λ (k : Kept). has_stray k.notes) (sym same) ∙ quiet
