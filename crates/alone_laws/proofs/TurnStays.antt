-- What every event keeps of stays and a sound world holds behind turns and runs.
use Rattle.std.proofs.Common.{◌≡◌, ℕ, zero, suc, Bool, true, false, List, [], ◌∷◌, ◌++◌, Option, Some, None, refl, sym, subst}
use Rattle.std.specs.Prelude.{if◌then◌else◌}
use Rattle.byte_words.specs.declared.access.Access.{Access}
use Rattle.call_log.specs.Notes.{stray_note}
use Rattle.quantum_sched.specs.declared.Quantum.{Quantum}
use Rattle.quantum_sched.specs.Picked.{picked}
use Rattle.machine_world.specs.World.{World}
use Rattle.machine_world.specs.Families.{MayRun, ready_pids}
use Rattle.machine_world.specs.Event.{Trace, Outcome, went, strays, full, idle, noted, event}
use Rattle.machine_world.specs.Turns.{Walk, End, traced, remains_at, turned, turn, going_on, quantum_turn, turns}
use Rattle.machine_world.proofs.Runnable.{may_run_still, ready_found}
use Rattle.alone_laws.specs.Stays.{Stay, collect, collect_all, stays_along, kept_calls_of, loads_of, AreRight}
use Rattle.alone_laws.specs.Sound.{IsSound}
use Rattle.alone_laws.specs.Laws.{EventsKeepSound, TurnsKeepSound}

collect_behind : (ys : List Stay) (ts us : List Trace) → collect_all ys (ts ++ us) ≡ collect_all (collect_all ys ts) us
unfolding collect_all
collect_behind ys [] us = refl
collect_behind ys (t ∷ ts) us = collect_behind (collect ys t) ts us

-- a stray access is noted
pub told_stray : (ys : List Stay) (w : World) (pid : ℕ) (seen : Access) → AreRight ys w → AreRight ys (noted (stray_note pid seen) w)
unfolding kept_calls_of loads_of
told_stray ys w pid seen right = record {
  count = right.count;
  loads = right.loads;
  agree = right.agree;
  told = record { places = right.told.places; each = right.told.each; entries = right.told.entries; no_others = right.told.no_others };
}

-- what holds of stays and a world, and stays so where a stray access is noted and behind every event
module _ (R : List Stay → World → Type 0) (strayed : (ys : List Stay) (w : World) (pid : ℕ) (seen : Access) → R ys w → R ys (noted (stray_note pid seen) w)) (sounds : EventsKeepSound)
    (rights : (ys : List Stay) (w : World) (pid : ℕ) (now : World) (t : Trace) → IsSound w → MayRun w pid → R ys w → event w pid ≡ went now t → R (collect ys t) now) where
  turned_keeps : (ys : List Stay) (more : World → Walk) (w : World) (pid : ℕ) (o : Outcome) → event w pid ≡ o → IsSound w → MayRun w pid → R ys w
      → ((zs : List Stay) (v : World) → IsSound v → MayRun v pid → R zs v → R (collect_all zs (more v).traces) (more v).world)
      → R (collect_all ys (turned more w pid o).traces) (turned more w pid o).world
  unfolding collect_all
  turned_keeps ys more w pid (went now t) is sound may right on = over t.over refl
    where
      over : (b : Bool) → t.over ≡ b
          → R (collect_all ys (traced t (if b then remains_at now None else more now)).traces) (traced t (if b then remains_at now None else more now)).world
      over true ends = rights ys w pid now t sound may right is
      over false ends = on (collect ys t) now (sounds w pid now t sound may is) (may_run_still w pid now t may is ends) (rights ys w pid now t sound may right is)
  turned_keeps ys more w pid (strays a) is sound may right on = strayed ys w pid a right
  turned_keeps ys more w pid full is sound may right on = right
  turned_keeps ys more w pid idle is sound may right on = right

  pub along_turns : (ys : List Stay) (count pid : ℕ) (w : World) → IsSound w → MayRun w pid → R ys w → R (collect_all ys (turn count pid w).traces) (turn count pid w).world
  unfolding turn collect_all
  along_turns ys zero pid w sound may right = right
  along_turns ys (suc count) pid w sound may right =
      turned_keeps ys (turn count pid) w pid (event w pid) refl sound may right (λ zs v s m r. along_turns zs count pid v s m r)

  module _ (turn_sounds : TurnsKeepSound) where
    quantum_keeps : (ys : List Stay) (more : World → Walk) (w : World) (count : ℕ) (chosen : Option ℕ) → IsSound w → ((pid : ℕ) → chosen ≡ Some pid → MayRun w pid) → R ys w
        → ((zs : List Stay) (v : World) → IsSound v → R zs v → R (collect_all zs (more v).traces) (more v).world)
        → R (collect_all ys (quantum_turn more w count chosen).traces) (quantum_turn more w count chosen).world
    unfolding collect_all
    quantum_keeps ys more w count None sound may right on = right
    quantum_keeps ys more w count (Some pid) sound may right on =
        goes (turn count pid w) (turn_sounds count pid w sound (may pid refl)) (along_turns ys count pid w sound (may pid refl) right)
      where
        goes : (walk : Walk) → IsSound walk.world → R (collect_all ys walk.traces) walk.world
            → R (collect_all ys (going_on more walk).traces) (going_on more walk).world
        goes walk s r = at walk.end
          where
            at : (end : Option End) → R (collect_all ys (going_on more (record walk { end = end })).traces) (going_on more (record walk { end = end })).world
            at (Some end) = r
            at None = subst (λ l. R l (more walk.world).world) (sym (collect_behind ys walk.traces (more walk.world).traces)) (on (collect_all ys walk.traces) walk.world s r)

    pub along_runs : (ys : List Stay) (quanta : List Quantum) (w : World) → IsSound w → R ys w → R (stays_along ys w quanta) (turns quanta w).world
    unfolding turns collect_all
    along_runs ys [] w sound right = right
    along_runs ys (q ∷ qs) w sound right =
        quantum_keeps ys (turns qs) w q.count (picked q.pick (ready_pids w.procs)) sound (λ pid is. ready_found w.procs w.next_pid q.pick pid is sound.pids) right
        (λ zs v s r. along_runs zs qs v s r)
