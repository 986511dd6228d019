-- Turns and runs over one memory, event by event and quantum by quantum.
use Rattle.std.proofs.Common.{◌≡◌, ℕ, zero, suc, ◌+◌, ◌-◌, ◌<◌, true, false, List, [], ◌∷◌, ◌++◌, Option, Some, None, refl, ap, ◌∙◌, arith, append_assoc}
use Rattle.quantum_sched.specs.declared.Quantum.{Quantum}
use Rattle.quantum_sched.specs.Picked.{picked}
use Rattle.machine_world.specs.Families.{ready_pids}
use Rattle.machine_world.specs.Turns.{End, log_full, none_runs, last_end}
use Rattle.memory_world.specs.Physical.{Physical, After, after, no_room, event_in, WalkIn, remains_at_in, turned_in, turn_in, going_on_in, quantum_turn_in, turns_in}
use Rattle.memory_world.specs.Courses.{LeadsIn, ComesIn}

pub leads_in_none : (pid : ℕ) (p : Physical) → LeadsIn pid p 0 p
leads_in_none pid p left = let sum : 0 + left ≡ left = omega arith in ap (λ n. turn_in n pid p) sum

pub leads_in_on : (pid : ℕ) (old mid new : Physical) (i j : ℕ) → LeadsIn pid old i mid → LeadsIn pid mid j new → LeadsIn pid old (i + j) new
leads_in_on pid old mid new i j x y left =
    let sum : i + j + left ≡ i + (j + left) = omega arith in
    ap (λ n. turn_in n pid old) sum ∙ x (j + left) ∙ y left

-- ---- the next event

module _ (pid : ℕ) (p : Physical) where
  pub turn_in_next : (n : ℕ) (a : After) → event_in p pid ≡ a → turn_in (suc n) pid p ≡ turned_in (turn_in n pid) p a
  unfolding turn_in
  turn_in_next n a is = ap (turned_in (turn_in n pid) p) is

  pub leads_in_event : (now : Physical) → event_in p pid ≡ after now false → LeadsIn pid p 1 now
  leads_in_event now is left =
      let sum : 1 + left ≡ suc left = omega arith in
      ap (λ n. turn_in n pid p) sum ∙ turn_in_next left (after now false) is

  pub turn_in_over : (now : Physical) → event_in p pid ≡ after now true → (n : ℕ) → 0 < n → turn_in n pid p ≡ remains_at_in now None
  turn_in_over now is zero some = absurd (omega arith)
  turn_in_over now is (suc n) some = turn_in_next n (after now true) is

  pub turn_in_full : (now : Physical) → event_in p pid ≡ no_room now → (n : ℕ) → 0 < n → turn_in n pid p ≡ remains_at_in now (Some log_full)
  turn_in_full now is zero some = absurd (omega arith)
  turn_in_full now is (suc n) some = turn_in_next n (no_room now) is

-- ---- a whole turn

module _ (pid : ℕ) (old new : Physical) (done : ℕ) (leads : LeadsIn pid old done new) where
  -- all events were carried out
  pub turn_in_used : turn_in done pid old ≡ remains_at_in new None
  unfolding turn_in
  turn_in_used = let sum : done ≡ done + 0 = omega arith in ap (λ n. turn_in n pid old) sum ∙ leads 0

  -- or the turn goes on as it does in the new world
  pub turn_in_from : (count : ℕ) (walk : WalkIn) → done < count → ((n : ℕ) → 0 < n → turn_in n pid new ≡ walk) → turn_in count pid old ≡ walk
  turn_in_from count walk less is =
      let sum : count ≡ done + (count - done) = omega arith in
      ap (λ n. turn_in n pid old) sum ∙ leads (count - done) ∙ is (count - done) (omega arith)

-- ---- runs

pub comes_in_none : (p : Physical) → ComesIn [] p p
comes_in_none p back = refl

pub comes_in_on : (front more : List Quantum) (old mid new : Physical) → ComesIn front old mid → ComesIn more mid new → ComesIn (front ++ more) old new
comes_in_on front more old mid new x y back = ap (λ qs. turns_in qs old) (append_assoc front more back) ∙ x (more ++ back) ∙ y back

module _ (q : Quantum) (p : Physical) where
  runs_next : (qs : List Quantum) (pid : Option ℕ) → picked q.pick (ready_pids p.world.procs) ≡ pid → turns_in (q ∷ qs) p ≡ quantum_turn_in (turns_in qs) p q.count pid
  unfolding turns_in
  runs_next qs pid is = ap (quantum_turn_in (turns_in qs) p q.count) is

  -- no process may run
  pub none_chosen_in : picked q.pick (ready_pids p.world.procs) ≡ None → (qs : List Quantum) → turns_in (q ∷ qs) p ≡ remains_at_in p (Some (none_runs p.world))
  none_chosen_in is qs = runs_next qs None is

  module _ (pid : ℕ) (chosen : picked q.pick (ready_pids p.world.procs) ≡ Some pid) (walk : WalkIn) (is : turn_in q.count pid p ≡ walk) where
    -- the turn stops the run
    pub turn_in_stops : (end : End) → walk.end ≡ Some end → (qs : List Quantum) → turns_in (q ∷ qs) p ≡ walk
    turn_in_stops end stops qs = runs_next qs (Some pid) chosen ∙ ap (going_on_in (turns_in qs)) is ∙ goes walk stops
      where
        goes : (v : WalkIn) → v.end ≡ Some end → going_on_in (turns_in qs) v ≡ v
        goes v e = rw e refl

    -- or the run goes on
    pub turn_in_comes : walk.end ≡ None → ComesIn (q ∷ []) p walk.now
    turn_in_comes goes back = runs_next back (Some pid) chosen ∙ ap (going_on_in (turns_in back)) is ∙ (rw goes refl)

-- no quantum is left
pub none_left_in : (p : Physical) → turns_in [] p ≡ remains_at_in p (Some (last_end p.world (ready_pids p.world.procs)))
unfolding turns_in
none_left_in p = refl
