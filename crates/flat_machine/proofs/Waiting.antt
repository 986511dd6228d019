-- Who waits in a machine's world waits well, and why where a run is stuck.
pub use Rattle.waits_laws.proofs.Boots.{boots_wait_well}
use Rattle.std.proofs.Common.{◌≡◌, ℕ, List, Option, Some, None, Result, Ok, Err, refl, sym, subst}
use Rattle.std.specs.declared.alloc.AllocError.{AllocError}
use Rattle.quantum_sched.specs.declared.Quantum.{Quantum}
use Rattle.vfork_exec.specs.Keyed.{find}
use Rattle.machine_world.specs.World.{World, Process, pid_of}
use Rattle.machine_world.specs.Turns.{End, all_ended, stuck, out_of_quanta, stray_at, log_full, turns}
use Rattle.machine_world.specs.Families.{MayRun}
use Rattle.machine_world.proofs.Runnable.{ready_found}
use Rattle.waits_laws.specs.Waits.{WaitsWell}
use Rattle.waits_laws.specs.Laws.{IsOrdered, WaitsOrLent}
use Rattle.waits_laws.proofs.Ordered.{runs_keep_ordered}
use Rattle.waits_laws.proofs.WaitRuns.{turns_keep_waits, runs_keep_waits}
use Rattle.waits_laws.proofs.Stuck.{stuck_runs_wait}
use Rattle.flat_machine.proofs.Rounds.{comes_to}
use Rattle.flat_machine.specs.declared.run.End.{End as Told}
use Rattle.flat_machine.specs.declared.run.End.TheVariants as told
use Rattle.flat_machine.specs.State.{State, world}
use Rattle.flat_machine.specs.Runs.{Ends, Runs, Stops, KeepsWaits, WaitsWhereStuck}

-- out of memory, within a turn
stops_keep : (qs : List Quantum) (old new : World) → Stops qs old new → IsOrdered old → WaitsWell old → WaitsWell new
stops_keep qs old new x ordered well =
    let reached = comes_to x.front old x.before x.reached in
    let order : IsOrdered x.before = subst IsOrdered reached (runs_keep_ordered x.front old ordered) in
    let waits : WaitsWell x.before = subst WaitsWell reached (runs_keep_waits x.front old ordered well) in
    let may : MayRun x.before x.pid = ready_found x.before.procs x.before.next_pid x.quantum.pick x.pid x.chosen order.sound.pids in
    subst WaitsWell x.walked (turns_keep_waits x.done x.pid x.before order waits may)

pub run_keeps_waits : (qs : List Quantum) (old new : State) (r : Result Told AllocError) → IsOrdered (world old) → Runs qs old new r → KeepsWaits old new
run_keeps_waits qs old new (Ok end) ordered x = λ well. subst WaitsWell (sym x.0) (runs_keep_waits qs (world old) ordered well)
run_keeps_waits qs old new (Err error) ordered x = stops_keep qs (world old) (world new) x ordered

is_stuck : (o : Option End) → Ends o told.Stuck → o ≡ Some stuck
is_stuck (Some stuck) x = refl
is_stuck (Some all_ended) x = absurd x
is_stuck (Some out_of_quanta) x = absurd x
is_stuck (Some (stray_at pid access)) x = absurd x
is_stuck (Some log_full) x = absurd x
is_stuck None x = absurd x

pub run_waits_where_stuck : (qs : List Quantum) (old new : State) (r : Result Told AllocError) → IsOrdered (world old) → Runs qs old new r → WaitsWhereStuck old new r
run_waits_where_stuck qs old new (Ok told.Stuck) ordered x = λ well.
    subst (λ (w : World). (pid : ℕ) (p : Process) → find pid_of pid w.procs ≡ Some p → WaitsOrLent w p p.state) (sym x.0)
    (stuck_runs_wait qs (world old) ordered well (is_stuck (turns qs (world old)).end x.1))
run_waits_where_stuck qs old new (Ok told.AllEnded) ordered x = tt
run_waits_where_stuck qs old new (Ok (told.Stray seen)) ordered x = tt
run_waits_where_stuck qs old new (Ok told.OutOfQuanta) ordered x = tt
run_waits_where_stuck qs old new (Ok told.LogFull) ordered x = tt
run_waits_where_stuck qs old new (Err error) ordered x = tt
