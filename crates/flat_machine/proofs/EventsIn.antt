-- The next event of a process in the one memory, by the step at which it stands.
use Rattle.std.proofs.Common.{◌≡◌, ℕ, Bool, true, false, ◌⊎◌, inl, inr, ◌<◌, ◌^◌, List, [], Option, Some, None, Result, Ok, Err, refl, sym, ap, subst, ◌∙◌}
use Rattle.std.specs.Prelude.{if◌then◌else◌}
use Rattle.std.specs.Result.{IsErr}
use Rattle.std.specs.declared.alloc.AllocError.{AllocError}
use Rattle.byte_words.specs.declared.access.Access.{Access}
use Rattle.rv32im_step.specs.declared.stop.Stop.{Stop}
use Rattle.rv32im_step.specs.declared.stop.Stop.TheVariants.{Call, Trap, Refused}
use Rattle.vfork_exec.specs.Procs.{CanRun}
use Rattle.machine_world.specs.Families.{MayRun}
use Rattle.machine_world.specs.Event.{Outcome, went, strays, full, idle, stray_in, stray, event, called, died}
use Rattle.machine_world.specs.Courses.{StandsAt}
use Rattle.machine_world.proofs.Signals.{trap_small}
use Rattle.memory_world.specs.Physical.{Physical, in_memory, After as Outcome_in, after as goes, no_room, nobody, has_stray, first_stray_in, with_stray, event_in, carried_out, died_in, outside}
use Rattle.memory_world.specs.Courses.{StandsIn}
use Rattle.memory_world.proofs.Moves.{noted_unstrayed, first_strays, event_in_carried, event_in_calm, carried_trapped, carried_refused}
use Rattle.region_watch.specs.declared.mode.Mode.{Mode}
use Rattle.region_watch.specs.declared.mode.Mode.TheVariants.{Halt, GoOn}
use Rattle.kept_parts.specs.declared.served.Served.{Served}
use Rattle.kept_parts.specs.declared.served.Served.TheVariants as served
use Rattle.kept_parts.specs.Kept.{Kept}
use Rattle.kept_parts.specs.Stands.{About, later, world_of}
use Rattle.kept_parts.specs.Serves.{Answered, Died}
use Rattle.kept_parts.specs.InMemory.{physical_of, GoesIn, ServesOn, DiedIn, called_on, first_range, with_range}
use Rattle.syscall_layer.specs.ByMode.{ServesFirst}
use Rattle.syscall_layer.specs.CallEvents.{CallsAreEvents}
use Rattle.flat_machine.specs.declared.turn.After.{After}
use Rattle.flat_machine.specs.declared.turn.After.TheVariants as after
use Rattle.flat_machine.specs.State.{is_whole}
use Rattle.flat_machine.specs.LeavesIn.{CarriedIn, CarriedWithin, StandsWithin}
use Rattle.flat_machine.proofs.Picks.{can_run, may_run}
use Rattle.flat_machine.proofs.Events.{event_called, event_died, event_strays}
use Rattle.flat_machine.proofs.StillIn.{StillIn, still_in}

-- ---- the first stray access

same_both : (test : Bool) (o : Option Access) → (if test then o else o) ≡ o
same_both true o = refl
same_both false o = refl

-- an event that goes in the private spaces doesn't stray
calm : (p : Physical) (pid : ℕ) (o : Outcome) → event p.world pid ≡ o → stray_in o ≡ None → first_stray_in p pid ≡ None
unfolding stray
calm p pid o is none = ap (λ (x : Option Access). if has_stray p.world.notes then None else x) (ap stray_in is ∙ none) ∙ same_both (has_stray p.world.notes) None

strays_first : (p : Physical) (pid : ℕ) (access : Access) → has_stray p.world.notes ≡ false → event p.world pid ≡ strays access → first_stray_in p pid ≡ Some access
unfolding stray
strays_first p pid access none is = first_strays p pid access none (ap stray_in is)

module _ (headers : List (List ℕ)) (a : About) (old new : Kept) (pid : ℕ) where
  abbrev there : Physical
  there = physical_of headers a old

  notes_in : has_stray there.world.notes ≡ has_stray old.notes
  unfolding physical_of world_of
  notes_in = refl

  world_in : there.world ≡ world_of a old
  unfolding physical_of
  world_in = refl

  may_in : CanRun old.procs pid → MayRun there.world pid
  unfolding physical_of
  may_in can = may_run a old pid can

  -- ---- what it leaves

  replied_in : (was : Kept) (o : Outcome_in) → StillIn pid o → GoesIn headers a o was new pid served.Replied → CarriedIn headers a o old new pid (Ok after.GoesOn)
  unfolding physical_of
  replied_in was (goes p over) still x =
      let b = x.1 in
      (x.0, b.0, can_run (later 1 a) new pid (subst (λ (w : Physical). MayRun w.world pid) x.0 (still b.0)))
  replied_in was (no_room p) still x = absurd x.2
  replied_in was nobody still x = absurd x

  turn_ends_in : (was : Kept) (o : Outcome_in) → GoesIn headers a o was new pid served.TurnEnds → CarriedIn headers a o old new pid (Ok after.TurnEnds)
  turn_ends_in was (goes p over) x = let b = x.1 in (x.0, b.0)
  turn_ends_in was (no_room p) x = absurd x.2
  turn_ends_in was nobody x = absurd x

  waits_in : (was : Kept) (o : Outcome_in) → GoesIn headers a o was new pid served.Waits → CarriedIn headers a o old new pid (Ok after.TurnEnds)
  waits_in was (goes p over) x = let b = x.1 in (x.0, b.0)
  waits_in was (no_room p) x = absurd x.2
  waits_in was nobody x = absurd x

  ended_in : (was : Kept) (o : Outcome_in) → GoesIn headers a o was new pid served.Ended → CarriedIn headers a o old new pid (Ok after.TurnEnds)
  ended_in was (goes p over) x = let b = x.1 in (x.0, b.0)
  ended_in was (no_room p) x = absurd x.2
  ended_in was nobody x = absurd x

  full_in : (was : Kept) (o : Outcome_in) → GoesIn headers a o was new pid served.LogFull → CarriedIn headers a o old new pid (Ok after.LogFull)
  full_in was (goes p over) x = absurd x.1
  full_in was (no_room p) x = x.0 ∙ ap (physical_of headers a) (sym x.1)
  full_in was nobody x = absurd x

  died_ends_in : (o : Outcome_in) → DiedIn headers a o new pid → CarriedIn headers a o old new pid (Ok after.TurnEnds)
  died_ends_in (goes p over) x = (x.0, x.1)
  died_ends_in (no_room p) x = absurd x
  died_ends_in nobody x = absurd x

  never_strays : (was : Kept) (o : Outcome_in) (access : Access) → GoesIn headers a o was new pid (served.Stray access) → ⊥
  never_strays was (goes p over) access x = absurd x.1
  never_strays was (no_room p) access x = absurd x.2
  never_strays was nobody access x = absurd x

-- ---- where it stands

pub call_stands : (reach : Mode) (p : Physical) (pid : ℕ) (stop : Stop) → stop ≡ Call → StandsWithin reach p pid stop → StandsIn p pid Call
call_stands Halt p pid stop at stands = subst (StandsWithin Halt p pid) at stands
call_stands GoOn p pid stop at stands = subst (StandsWithin GoOn p pid) at stands

trap_stands : (reach : Mode) (p : Physical) (pid : ℕ) (stop : Stop) (signal : ℕ) → stop ≡ Trap signal → StandsWithin reach p pid stop → StandsIn p pid (Trap signal)
trap_stands Halt p pid stop signal at stands = subst (StandsWithin Halt p pid) at stands
trap_stands GoOn p pid stop signal at stands = subst (StandsWithin GoOn p pid) at stands

-- ---- a call

module _ (law : CallsAreEvents) (headers : List (List ℕ)) (a : About) (old new : Kept) (pid : ℕ) (stands : has_stray old.notes ≡ false → StandsAt (world_of a old) pid Call) (stands_in : StandsIn (physical_of headers a old) pid Call) where
  abbrev here : Physical
  here = physical_of headers a old

  is_event : called_on here pid ≡ event_in here pid
  unfolding physical_of world_of
  is_event = law here pid stands_in stands

  -- who calls may run still while its turn isn't over
  still_noted : (o : Option Access) → MayRun here.world pid → StillIn pid (carried_out (with_stray pid o here) pid)
  still_noted None may = let s = stands_in in still_in here pid s.process s.space s.lives s.has may
  still_noted (Some access) may = let s = stands_in in still_in (with_stray pid (Some access) here) pid s.process s.space s.lives s.has may

  still_called : CanRun old.procs pid → StillIn pid (event_in here pid)
  still_called ready = subst (StillIn pid) (sym (event_in_carried here pid)) (still_noted (first_stray_in here pid) (may_in headers a old new pid ready))

  abbrev noted_parts : Kept
  noted_parts = with_range pid (first_range here pid) old

  goes_as : (s t : Served) → s ≡ t → ServesOn headers a old new pid (Ok s) → GoesIn headers a (event_in here pid) noted_parts new pid t
  goes_as s t same x =
      subst (λ (o : Outcome_in). GoesIn headers a o noted_parts new pid t) is_event (subst (λ (u : Served). GoesIn headers a (called_on here pid) noted_parts new pid u) same x)

  pub call_replied_in : CanRun old.procs pid → (s : Served) → s ≡ served.Replied → ServesOn headers a old new pid (Ok s) → CarriedWithin headers a old new pid (Ok after.GoesOn)
  call_replied_in ready s same x = replied_in headers a old new pid noted_parts (event_in here pid) (still_called ready) (goes_as s served.Replied same x)

  pub call_turn_ends_in : (s : Served) → (s ≡ served.TurnEnds) ⊎ (s ≡ served.Waits) ⊎ (s ≡ served.Ended) → ServesOn headers a old new pid (Ok s) → CarriedWithin headers a old new pid (Ok after.TurnEnds)
  call_turn_ends_in s (inl same) x = turn_ends_in headers a old new pid noted_parts (event_in here pid) (goes_as s served.TurnEnds same x)
  call_turn_ends_in s (inr (inl same)) x = waits_in headers a old new pid noted_parts (event_in here pid) (goes_as s served.Waits same x)
  call_turn_ends_in s (inr (inr same)) x = ended_in headers a old new pid noted_parts (event_in here pid) (goes_as s served.Ended same x)

  pub call_full_in : (s : Served) → s ≡ served.LogFull → ServesOn headers a old new pid (Ok s) → CarriedWithin headers a old new pid (Ok after.LogFull)
  call_full_in s same x = full_in headers a old new pid noted_parts (event_in here pid) (goes_as s served.LogFull same x)

  pub call_never_strays : (s : Served) (access : Access) → s ≡ served.Stray access → ServesOn headers a old new pid (Ok s) → ⊥
  call_never_strays s access same x = never_strays headers a old new pid noted_parts (event_in here pid) access (goes_as s (served.Stray access) same x)

-- up to the first stray access it is the call of the private spaces, where that doesn't stray
first_answered : (a : About) (old new : Kept) (pid : ℕ) (o : Outcome) (s : Served) → stray_in o ≡ None → ServesFirst a o old new pid (Ok s) → Answered a o old new pid s
first_answered a old new pid (went now t) s none x = x
first_answered a old new pid full s none x = x
first_answered a old new pid idle s none x = x
first_answered a old new pid (strays access) s none x = absurd cc

pub call_first : (a : About) (old new : Kept) (pid : ℕ) (s : Served) → StandsAt (world_of a old) pid Call → stray_in (event (world_of a old) pid) ≡ None
    → ServesFirst a (called (world_of a old) pid) old new pid (Ok s) → Answered a (called (world_of a old) pid) old new pid s
call_first a old new pid s stands none x = first_answered a old new pid (called (world_of a old) pid) s (ap stray_in (sym (event_called (world_of a old) pid stands)) ∙ none) x

-- ---- a trap, and an access that is refused

module _ (headers : List (List ℕ)) (a : About) (reach : Mode) (old : Kept) (pid : ℕ) (stop : Stop) (strayed : has_stray old.notes ≡ is_whole reach)
    (stands : reach ≡ Halt → StandsAt (world_of a old) pid stop) (stands_in : StandsWithin reach (physical_of headers a old) pid stop) where
  abbrev from : Physical
  from = physical_of headers a old

  -- it isn't the run's first stray access where it goes in the private spaces
  first_none : (o : Outcome) → (reach ≡ Halt → (event (world_of a old) pid ≡ o) × (stray_in o ≡ None)) → first_stray_in from pid ≡ None
  unfolding physical_of
  first_none o goes_own = by reach refl
    where
      by : (r : Mode) → reach ≡ r → first_stray_in from pid ≡ None
      by Halt is = let x = goes_own is in calm from pid o x.0 x.1
      by GoOn is = noted_unstrayed from pid (notes_in headers a old old pid ∙ strayed ∙ ap is_whole is)

  -- ---- a trap

  died_calm : (o : Outcome) (new : Kept) → Died a o new pid → stray_in o ≡ None
  died_calm (went now t) new x = refl
  died_calm (strays access) new x = absurd x
  died_calm full new x = refl
  died_calm idle new x = absurd x

  pub trap_ends_in : (signal : ℕ) (new : Kept) → stop ≡ Trap signal → Died a (died (world_of a old) pid signal) new pid → DiedIn headers a (died_in from pid signal) new pid
      → CarriedWithin headers a old new pid (Ok after.TurnEnds)
  trap_ends_in signal new at dies memory =
      let s = trap_stands reach from pid stop signal at stands_in in
      let none = first_none (died (world_of a old) pid signal)
      (λ own. (event_died (world_of a old) pid signal (subst (StandsAt (world_of a old) pid) at (stands own)), died_calm (died (world_of a old) pid signal) new dies)) in
      let is : event_in from pid ≡ died_in from pid signal = event_in_calm from pid none ∙ carried_trapped from pid s.process s.space s.lives s.has signal s.means in
      subst (λ (o : Outcome_in). CarriedIn headers a o old new pid (Ok after.TurnEnds)) (sym is) (died_ends_in headers a old new pid (died_in from pid signal) memory)

  -- ---- an access that is refused

  died_never : (now : Kept) (o : Outcome_in) (access : Access) → CarriedIn headers a o old now pid (Ok (after.Strays access)) → ⊥
  died_never now (goes p over) access x = absurd x
  died_never now (no_room p) access x = absurd x
  died_never now nobody access x = absurd x

  pub refused_in : (access : Access) (new : Kept) → stop ≡ Refused access → (r : Result After AllocError) → (reach ≡ Halt → (r ≡ Ok (after.Strays access)) × (new ≡ old))
      → (reach ≡ GoOn → CarriedIn headers a (died_in from pid outside) old new pid r) → CarriedWithin headers a old new pid r
  unfolding physical_of
  refused_in access new at r strayed_so memory = by reach refl stands_in
    where
      never : (t : Result After AllocError) → CarriedIn headers a (died_in from pid outside) old new pid t → CarriedIn headers a (event_in from pid) old new pid t → CarriedWithin headers a old new pid t
      never (Ok (after.Strays seen)) x y = absurd (died_never new (died_in from pid outside) seen x)
      never (Ok after.GoesOn) x y = y
      never (Ok after.TurnEnds) x y = y
      never (Ok after.LogFull) x y = y
      never (Err error) x y = y

      by : (t : Mode) → reach ≡ t → StandsWithin t from pid stop → CarriedWithin headers a old new pid r
      by Halt own x =
          let so = strayed_so own in
          subst (CarriedWithin headers a old new pid) (sym so.0)
          (strays_first from pid access (notes_in headers a old old pid ∙ strayed ∙ ap is_whole own) (event_strays (world_of a old) pid access (subst (StandsAt (world_of a old) pid) at (stands own))), so.1)
      by GoOn is x =
          let s : StandsIn from pid (Refused access) = subst (StandsWithin GoOn from pid) at x in
          let none = noted_unstrayed from pid (notes_in headers a old old pid ∙ strayed ∙ ap is_whole is) in
          let same : event_in from pid ≡ died_in from pid outside = event_in_calm from pid none ∙ carried_refused from pid s.process s.space s.lives s.has access s.means in
          never r (memory is) (subst (λ (o : Outcome_in). CarriedIn headers a o old new pid r) (sym same) (memory is))

pub trap_fits_in : (reach : Mode) (a : About) (old : Kept) (pid : ℕ) (stop : Stop) (signal : ℕ) → stop ≡ Trap signal → StandsWithin reach (physical_of [] a old) pid stop → signal < 2 ^ 8
trap_fits_in reach a old pid stop signal at stands =
    let s = trap_stands reach (physical_of [] a old) pid stop signal at stands in
    trap_small s.process.regs (physical_of [] a old).memory (in_memory (physical_of [] a old).world) signal s.means

-- out of memory nothing changed
pub err_within : (headers : List (List ℕ)) (a : About) (old new : Kept) (pid : ℕ) (r : Result After AllocError) → IsErr r → new ≡ old → CarriedWithin headers a old new pid r
err_within headers a old new pid (Ok done) is same = absurd cc
err_within headers a old new pid (Err error) is same = same

-- an access outside memory ends its process, and so the turn
pub ended_turn : (headers : List (List ℕ)) (a : About) (old new : Kept) (pid : ℕ) (o : Outcome_in) (s : Served) → s ≡ served.Ended → GoesIn headers a o old new pid s → CarriedIn headers a o old new pid (Ok after.TurnEnds)
ended_turn headers a old new pid o s is ended = ended_in headers a old new pid old o (subst (GoesIn headers a o old new pid) is ended)

-- of an end by a signal
pub dies_not : (headers : List (List ℕ)) (a : About) (old new : Kept) (pid : ℕ) (o : Outcome_in) (r : Result After AllocError) → IsErr r → new ≡ old → CarriedIn headers a o old new pid r
dies_not headers a old new pid o (Ok done) is same = absurd cc
dies_not headers a old new pid o (Err error) is same = same
