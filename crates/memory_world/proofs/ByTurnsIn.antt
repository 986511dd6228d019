-- What every event over one memory keeps is kept by turns and runs.
use Rattle.std.proofs.Common.{ℕ, zero, suc, true, false, List, [], ◌∷◌, Option, Some, None}
use Rattle.quantum_sched.specs.declared.Quantum.{Quantum}
use Rattle.quantum_sched.specs.Picked.{picked}
use Rattle.machine_world.specs.Families.{ready_pids}
use Rattle.machine_world.specs.Turns.{End}
use Rattle.memory_world.specs.Physical.{Physical, After, after, no_room, nobody, event_in, WalkIn, remains_at_in, turned_in, turn_in, going_on_in, quantum_turn_in, turns_in}
use Rattle.memory_world.specs.After.{AfterIs}

module _ (P : Physical → Type 0) (events : (p : Physical) (pid : ℕ) → P p → AfterIs P (event_in p pid)) where
  by_turned_in : (more : Physical → WalkIn) (p : Physical) (a : After) → P p → AfterIs P a → ((now : Physical) → P now → P (more now).now) → P (turned_in more p a).now
  by_turned_in more p (after now true) h kept on = kept
  by_turned_in more p (after now false) h kept on = on now kept
  by_turned_in more p (no_room now) h kept on = kept
  by_turned_in more p nobody h kept on = h

  pub by_turn_in : (count pid : ℕ) (p : Physical) → P p → P (turn_in count pid p).now
  unfolding turn_in
  by_turn_in zero pid p h = h
  by_turn_in (suc count) pid p h = by_turned_in (turn_in count pid) p (event_in p pid) h (events p pid h) (λ now kept. by_turn_in count pid now kept)

  by_going_in : (more : Physical → WalkIn) (now : Physical) (end : Option End) → P now → ((p : Physical) → P p → P (more p).now) → P (going_on_in more (remains_at_in now end)).now
  by_going_in more now (Some end) h on = h
  by_going_in more now None h on = on now h

  by_quantum_in : (more : Physical → WalkIn) (p : Physical) (count : ℕ) (chosen : Option ℕ) → P p → ((now : Physical) → P now → P (more now).now) → P (quantum_turn_in more p count chosen).now
  by_quantum_in more p count None h on = h
  by_quantum_in more p count (Some pid) h on = by_going_in more (turn_in count pid p).now (turn_in count pid p).end (by_turn_in count pid p h) on

  pub by_run_in : (quanta : List Quantum) (p : Physical) → P p → P (turns_in quanta p).now
  unfolding turns_in
  by_run_in [] p h = h
  by_run_in (q ∷ qs) p h = by_quantum_in (turns_in qs) p q.count (picked q.pick (ready_pids p.world.procs)) h (λ now kept. by_run_in qs now kept)
