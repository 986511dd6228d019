-- Every event, turn and run keeps it that all who wait would wait again.
use Rattle.std.proofs.Common.{◌≡◌, ℕ, zero, suc, Bool, true, false, Option, Some, None, [], ◌∷◌, refl, ap, ◌∙◌}
use Rattle.std.specs.Prelude.{if◌then◌else◌}
use Rattle.call_log.specs.Notes.{Note, stray_note}
use Rattle.quantum_sched.specs.Picked.{picked}
use Rattle.vfork_exec.specs.declared.family.State.{State}
use Rattle.vfork_exec.specs.declared.family.State.TheVariants.{Ready, Waiting, OnPipe, Lent}
use Rattle.vfork_exec.specs.Keyed.{find}
use Rattle.vfork_exec.proofs.Keyed.{find_key}
use Rattle.machine_world.specs.World.{Process, World, pid_of}
use Rattle.machine_world.specs.Families.{MayRun, ready_pids}
use Rattle.machine_world.specs.Event.{Outcome, went, strays, full, idle, noted, event}
use Rattle.machine_world.specs.Turns.{Walk, End, remains_at, traced, turned, turn, going_on, quantum_turn, turns}
use Rattle.machine_world.proofs.Runnable.{ready_found, may_run_still}
use Rattle.alone_laws.proofs.SoundRuns.{events_keep_sound}
use Rattle.waits_laws.specs.Waits.{WaitsAgain, IfWaits, WaitsWell}
use Rattle.waits_laws.specs.Laws.{IsOrdered, EventsKeepWaits, TurnsKeepWaits, RunsKeepWaits}
use Rattle.waits_laws.proofs.Again.{waits_again}
use Rattle.waits_laws.proofs.Lenders.{events_keep_lenders}
use Rattle.waits_laws.proofs.EventWaits.{events_keep_waits_in}
use Rattle.waits_laws.proofs.Ordered.{events_keep_ordered, turns_keep_ordered}

pub events_keep_waits : EventsKeepWaits
events_keep_waits w pid now t order well may is =
    let sound = events_keep_sound w pid now t order.sound may is in
    let lenders = events_keep_lenders w pid now t order.sound.chains order.sound.pids well.lenders may is sound.chains sound.pids in
    events_keep_waits_in w pid now t order well may is sound.chains lenders

-- ---- a note more

waits_if : (x : State) (P Q : Type 0) → (P → Q) → IfWaits x P → IfWaits x Q
waits_if Ready P Q f h = tt
waits_if (Waiting who) P Q f h = f h
waits_if (OnPipe pipe) P Q f h = f h
waits_if (Lent child) P Q f h = tt

noted_again : (n : Note) (w : World) (p : Process) → find pid_of p.pid w.procs ≡ Some p → WaitsAgain w p → WaitsAgain (noted n w) p
noted_again n w p lives old = record {
  space = old.space;
  has = old.has;
  at_call = old.at_call;
  again = waits_again w (noted n w) p p.parent p.state old.space.space p.state lives (record {
    views = λ fd v id end shown leads. shown;
    pipes = λ fd v id end shown leads on. refl;
    ended = λ who on none. none;
    child = λ who on has. has;
  }) old.again;
}

noted_well : (n : Note) (w : World) → WaitsWell w → WaitsWell (noted n w)
noted_well n w well = record {
  has_table = well.has_table;
  own_table = well.own_table;
  chains = well.chains;
  lenders = λ pid child p is stands.
      let has = well.lenders pid child p is stands in
      record { process = has.process; lives = has.lives; parent = has.parent; space = has.space };
  waits = λ pid p is.
      let lives : find pid_of p.pid w.procs ≡ Some p = ap (λ (k : ℕ). find pid_of k w.procs) (find_key pid_of pid w.procs p is) ∙ is in
      waits_if p.state (WaitsAgain w p) (WaitsAgain (noted n w) p) (noted_again n w p lives) (well.waits pid p is);
}

-- ---- turns

turned_waits : (more : World → Walk) (w : World) (pid : ℕ) (o : Outcome) → event w pid ≡ o → IsOrdered w → WaitsWell w → MayRun w pid
    → ((v : World) → IsOrdered v → WaitsWell v → MayRun v pid → WaitsWell (more v).world) → WaitsWell (turned more w pid o).world
turned_waits more w pid (went now t) is order well may on = over t.over refl
  where
    over : (b : Bool) → t.over ≡ b → WaitsWell (traced t (if b then remains_at now None else more now)).world
    over true ends = events_keep_waits w pid now t order well may is
    over false ends = on now (events_keep_ordered w pid now t order may is) (events_keep_waits w pid now t order well may is) (may_run_still w pid now t may is ends)
turned_waits more w pid (strays access) is order well may on = noted_well (stray_note pid access) w well
turned_waits more w pid full is order well may on = well
turned_waits more w pid idle is order well may on = well

pub turns_keep_waits : TurnsKeepWaits
unfolding turn
turns_keep_waits zero pid w order well may = well
turns_keep_waits (suc count) pid w order well may = turned_waits (turn count pid) w pid (event w pid) refl order well may (λ v. turns_keep_waits count pid v)

-- ---- runs

quantum_waits : (more : World → Walk) (w : World) (count : ℕ) (chosen : Option ℕ) → ((pid : ℕ) → chosen ≡ Some pid → MayRun w pid) → IsOrdered w → WaitsWell w
    → ((v : World) → IsOrdered v → WaitsWell v → WaitsWell (more v).world) → WaitsWell (quantum_turn more w count chosen).world
quantum_waits more w count None may order well on = well
quantum_waits more w count (Some pid) may order well on =
    goes (turn count pid w) (turns_keep_ordered count pid w order (may pid refl)) (turns_keep_waits count pid w order well (may pid refl))
  where
    goes : (walk : Walk) → IsOrdered walk.world → WaitsWell walk.world → WaitsWell (going_on more walk).world
    goes walk order well = at walk.end
      where
        at : (end : Option End) → WaitsWell (going_on more (record walk { end = end })).world
        at (Some end) = well
        at None = on walk.world order well

pub runs_keep_waits : RunsKeepWaits
unfolding turns
runs_keep_waits [] w order well = well
runs_keep_waits (q ∷ qs) w order well =
    quantum_waits (turns qs) w q.count (picked q.pick (ready_pids w.procs)) (λ pid is. ready_found w.procs w.next_pid q.pick pid is order.sound.pids) order well (runs_keep_waits qs)
