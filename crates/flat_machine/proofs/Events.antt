-- The next event of a process, by the step at which it stands.
use Rattle.std.proofs.Common.{◌⊎◌, inl, inr, ◌≡◌, ℕ, ◌<◌, ◌^◌, Result, Ok, Err, refl, sym, subst}
use Rattle.std.specs.Result.{IsErr}
use Rattle.std.specs.declared.alloc.AllocError.{AllocError}
use Rattle.byte_words.specs.declared.access.Access.{Access}
use Rattle.rv32im_step.specs.declared.stop.Stop.{Stop}
use Rattle.rv32im_step.specs.declared.stop.Stop.TheVariants.{Call, Trap, Refused}
use Rattle.mmap_rules.specs.Space.{writable_in}
use Rattle.vfork_exec.specs.Procs.{CanRun}
use Rattle.machine_world.specs.World.{World}
use Rattle.machine_world.specs.Families.{MayRun}
use Rattle.machine_world.specs.Event.{Outcome, went, strays, full, idle, event, called, died}
use Rattle.machine_world.specs.Courses.{StandsAt}
use Rattle.machine_world.proofs.States.{is_called, is_died, is_stray}
use Rattle.machine_world.proofs.Runnable.{may_run_still}
use Rattle.machine_world.proofs.Signals.{trap_small}
use Rattle.kept_parts.specs.declared.served.Served.{Served}
use Rattle.kept_parts.specs.declared.served.Served.TheVariants as served
use Rattle.kept_parts.specs.Kept.{Kept}
use Rattle.kept_parts.specs.Stands.{About, later, world_of}
use Rattle.kept_parts.specs.Serves.{Answered, Died}
use Rattle.flat_machine.specs.declared.turn.After.{After}
use Rattle.flat_machine.specs.declared.turn.After.TheVariants as after
use Rattle.flat_machine.specs.Leaves.{Carried}
use Rattle.flat_machine.proofs.Picks.{can_run, may_run}

-- ---- what the event is

pub event_called : (w : World) (pid : ℕ) → StandsAt w pid Call → event w pid ≡ called w pid
event_called w pid s = is_called w pid s.process s.space s.lives s.has s.means

pub event_died : (w : World) (pid signal : ℕ) → StandsAt w pid (Trap signal) → event w pid ≡ died w pid signal
event_died w pid signal s = is_died w pid s.process s.space s.lives s.has signal s.means

pub event_strays : (w : World) (pid : ℕ) (access : Access) → StandsAt w pid (Refused access) → event w pid ≡ strays access
event_strays w pid access s = is_stray w pid s.process s.space s.lives s.has access s.means

pub signal_small : (w : World) (pid signal : ℕ) → StandsAt w pid (Trap signal) → signal < 2 ^ 8
signal_small w pid signal s = trap_small s.process.regs s.space.space.bytes (writable_in s.space.space.maps) signal s.means

-- ---- what it leaves

module _ (a : About) (old new : Kept) (pid : ℕ) where
  -- a process that may run may run still, as its turn isn't over
  replied : CanRun old.procs pid → (o : Outcome) → event (world_of a old) pid ≡ o → Answered a o old new pid served.Replied → Carried a o old new pid (Ok after.GoesOn)
  replied can (went now t) is x =
      let b = x.1 in
      let still : MayRun now pid = may_run_still (world_of a old) pid now t (may_run a old pid can) is b.0 in
      (x.0, b.0, can_run (later 1 a) new pid (subst (λ (w : World). MayRun w pid) x.0 still))
  replied can (strays access) is x = absurd x
  replied can full is x = absurd x
  replied can idle is x = absurd x

  turn_ends : (o : Outcome) → Answered a o old new pid served.TurnEnds → Carried a o old new pid (Ok after.TurnEnds)
  turn_ends (went now t) x = let b = x.1 in (x.0, b.0)
  turn_ends (strays access) x = absurd x
  turn_ends full x = absurd x
  turn_ends idle x = absurd x

  waits : (o : Outcome) → Answered a o old new pid served.Waits → Carried a o old new pid (Ok after.TurnEnds)
  waits (went now t) x = let b = x.1 in (x.0, b.0)
  waits (strays access) x = absurd x
  waits full x = absurd x
  waits idle x = absurd x

  ended : (o : Outcome) → Answered a o old new pid served.Ended → Carried a o old new pid (Ok after.TurnEnds)
  ended (went now t) x = let b = x.1 in (x.0, b.0)
  ended (strays access) x = absurd x
  ended full x = absurd x
  ended idle x = absurd x

  log_full : (o : Outcome) → Answered a o old new pid served.LogFull → Carried a o old new pid (Ok after.LogFull)
  log_full (went now t) x = absurd x.1
  log_full (strays access) x = absurd x
  log_full full x = x
  log_full idle x = absurd x

  died_ends : (o : Outcome) → Died a o new pid → Carried a o old new pid (Ok after.TurnEnds)
  died_ends (went now t) x = (x.0, x.1)
  died_ends (strays access) x = absurd x
  died_ends full x = absurd x
  died_ends idle x = absurd x

  no_memory : (o : Outcome) (error : AllocError) → new ≡ old → Carried a o old new pid (Err error)
  no_memory o error same = same

  call_strayed : (o : Outcome) (access : Access) → Answered a o old new pid (served.Stray access) → Carried a o old new pid (Ok (after.Strays access))
  call_strayed (strays seen) access x = x
  call_strayed (went now t) access x = absurd x.1
  call_strayed full access x = absurd x
  call_strayed idle access x = absurd x

  -- ---- at the event

  pub carried_by : (o : Outcome) (r : Result After AllocError) → event (world_of a old) pid ≡ o → Carried a o old new pid r → Carried a (event (world_of a old) pid) old new pid r
  carried_by o r is x = subst (λ (e : Outcome). Carried a e old new pid r) (sym is) x

  module _ (stop : Stop) (at : stop ≡ Call) (stands : StandsAt (world_of a old) pid stop) where
    is : event (world_of a old) pid ≡ called (world_of a old) pid
    is = event_called (world_of a old) pid (subst (StandsAt (world_of a old) pid) at stands)

    -- what a call answers, as the one that it is
    call_answered : (s t : Served) (r : Result After AllocError) → (Answered a (called (world_of a old) pid) old new pid t → Carried a (called (world_of a old) pid) old new pid r)
        → s ≡ t → Answered a (called (world_of a old) pid) old new pid s → Carried a (event (world_of a old) pid) old new pid r
    call_answered s t r goes same x = carried_by (called (world_of a old) pid) r is (goes (subst (Answered a (called (world_of a old) pid) old new pid) same x))

    pub call_replied : CanRun old.procs pid → (s : Served) → s ≡ served.Replied → Answered a (called (world_of a old) pid) old new pid s → Carried a (event (world_of a old) pid) old new pid (Ok after.GoesOn)
    call_replied can s same x = call_answered s served.Replied (Ok after.GoesOn) (replied can (called (world_of a old) pid) is) same x

    pub call_turn_ends : (s : Served) → (s ≡ served.TurnEnds) ⊎ (s ≡ served.Waits) ⊎ (s ≡ served.Ended) → Answered a (called (world_of a old) pid) old new pid s
        → Carried a (event (world_of a old) pid) old new pid (Ok after.TurnEnds)
    call_turn_ends s (inl same) x = call_answered s served.TurnEnds (Ok after.TurnEnds) (turn_ends (called (world_of a old) pid)) same x
    call_turn_ends s (inr (inl same)) x = call_answered s served.Waits (Ok after.TurnEnds) (waits (called (world_of a old) pid)) same x
    call_turn_ends s (inr (inr same)) x = call_answered s served.Ended (Ok after.TurnEnds) (ended (called (world_of a old) pid)) same x

    pub call_full : (s : Served) → s ≡ served.LogFull → Answered a (called (world_of a old) pid) old new pid s → Carried a (event (world_of a old) pid) old new pid (Ok after.LogFull)
    call_full s same x = call_answered s served.LogFull (Ok after.LogFull) (log_full (called (world_of a old) pid)) same x

    pub call_strays : (s : Served) (access : Access) → s ≡ served.Stray access → Answered a (called (world_of a old) pid) old new pid s
        → Carried a (event (world_of a old) pid) old new pid (Ok (after.Strays access))
    call_strays s access same x = call_answered s (served.Stray access) (Ok (after.Strays access)) (call_strayed (called (world_of a old) pid) access) same x

  pub trap_ends : (stop : Stop) (signal : ℕ) → stop ≡ Trap signal → StandsAt (world_of a old) pid stop → Died a (died (world_of a old) pid signal) new pid
      → Carried a (event (world_of a old) pid) old new pid (Ok after.TurnEnds)
  trap_ends stop signal at stands x =
      carried_by (died (world_of a old) pid signal) (Ok after.TurnEnds)
      (event_died (world_of a old) pid signal (subst (StandsAt (world_of a old) pid) at stands)) (died_ends (died (world_of a old) pid signal) x)

  pub trap_fits : (stop : Stop) (signal : ℕ) → stop ≡ Trap signal → StandsAt (world_of a old) pid stop → signal < 2 ^ 8
  trap_fits stop signal at stands = signal_small (world_of a old) pid signal (subst (StandsAt (world_of a old) pid) at stands)

  pub refused_strays : (stop : Stop) (access : Access) → stop ≡ Refused access → StandsAt (world_of a old) pid stop → (r : Result After AllocError) → r ≡ Ok (after.Strays access) → new ≡ old
      → Carried a (event (world_of a old) pid) old new pid r
  refused_strays stop access at stands r is same =
      let P : Result After AllocError → Type 0 = λ x. Carried a (event (world_of a old) pid) old new pid x in
      subst P (sym is) (carried_by (strays access) (Ok (after.Strays access)) (event_strays (world_of a old) pid access (subst (StandsAt (world_of a old) pid) at stands)) (refl, same))

  pub nothing_done : (r : Result After AllocError) → IsErr r → new ≡ old → Carried a (event (world_of a old) pid) old new pid r
  nothing_done (Ok done) is same = absurd cc
  nothing_done (Err error) is same = no_memory (event (world_of a old) pid) error same
