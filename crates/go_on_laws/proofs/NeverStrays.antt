-- No run that goes on ends at a stray access.
use Rattle.std.proofs.Common.{ℕ, zero, suc, Bool, true, false, List, [], ◌∷◌, Option, Some, None, subst}
use Rattle.std.specs.Prelude.{length, ◌==◌, if◌then◌else◌}
use Rattle.quantum_sched.specs.declared.Quantum.{Quantum}
use Rattle.quantum_sched.specs.Picked.{picked}
use Rattle.machine_world.specs.World.{World}
use Rattle.machine_world.specs.Families.{ready_pids}
use Rattle.machine_world.specs.Turns.{End, all_ended, stuck, out_of_quanta, stray_at, log_full, last_end}
use Rattle.memory_world.specs.Physical.{Physical, After, after, no_room, nobody, event_in, WalkIn, remains_at_in, turned_in, turn_in, going_on_in, quantum_turn_in, turns_in}
use Rattle.go_on_laws.specs.Laws.{RunsNeverStray}

-- another end, or none
abbrev Other : Option End → Type 0
Other (Some (stray_at pid access)) = ⊥
Other (Some all_ended) = Unit {0}
Other (Some stuck) = Unit {0}
Other (Some out_of_quanta) = Unit {0}
Other (Some log_full) = Unit {0}
Other None = Unit {0}

turned_other : (more : Physical → WalkIn) (p : Physical) (a : After) → ((q : Physical) → Other (more q).end) → Other (turned_in more p a).end
turned_other more p (after now true) others = tt
turned_other more p (after now false) others = others now
turned_other more p (no_room now) others = tt
turned_other more p nobody others = tt

turn_other : (count pid : ℕ) (p : Physical) → Other (turn_in count pid p).end
unfolding turn_in
turn_other zero pid p = tt
turn_other (suc n) pid p = turned_other (turn_in n pid) p (event_in p pid) (turn_other n pid)

going_other : (more : Physical → WalkIn) (now : Physical) (end : Option End) → Other end → ((q : Physical) → Other (more q).end) → Other (going_on_in more (remains_at_in now end)).end
going_other more now (Some end) other others = other
going_other more now None other others = others now

none_other : (none : Bool) → Other (Some (if none then all_ended else stuck))
none_other true = tt
none_other false = tt

last_other : (w : World) (pids : List ℕ) → Other (Some (last_end w pids))
last_other w [] = none_other (length w.procs == 0)
last_other w (pid ∷ pids) = tt

picked_other : (more : Physical → WalkIn) (p : Physical) (count : ℕ) (pid : Option ℕ) → ((q : Physical) → Other (more q).end) → Other (quantum_turn_in more p count pid).end
picked_other more p count None others = none_other (length p.world.procs == 0)
picked_other more p count (Some pid) others = going_other more (turn_in count pid p).now (turn_in count pid p).end (turn_other count pid p) others

run_other : (quanta : List Quantum) (p : Physical) → Other (turns_in quanta p).end
unfolding turns_in
run_other [] p = last_other p.world (ready_pids p.world.procs)
run_other (q ∷ qs) p = picked_other (turns_in qs) p q.count (picked q.pick (ready_pids p.world.procs)) (run_other qs)

pub runs_never_stray : RunsNeverStray
runs_never_stray quanta p pid access is = subst Other is (run_other quanta p)
