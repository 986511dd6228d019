-- Runs, quantum by quantum.
use Rattle.std.proofs.Common.{◌≡◌, ℕ, List, [], ◌∷◌, ◌++◌, Option, Some, None, refl, sym, ap, ◌∙◌, append_assoc}
use Rattle.quantum_sched.specs.declared.Quantum.{Quantum}
use Rattle.quantum_sched.specs.Picked.{picked}
use Rattle.machine_world.specs.World.{World}
use Rattle.machine_world.specs.Families.{ready_pids}
use Rattle.machine_world.specs.Turns.{End, Walk, remains_at, turn, turns, walked, going_on, none_runs, quantum_turn, last_end}
use Rattle.machine_world.specs.Courses.{Comes}
use Rattle.machine_world.proofs.TurnLaws.{walked_more}

pub comes_none : (w : World) → Comes [] w w
comes_none w = record { traces = []; on = λ back. refl }

pub comes_on : (front more : List Quantum) (old mid new : World) → Comes front old mid → Comes more mid new → Comes (front ++ more) old new
comes_on front more old mid new x y = record {
  traces = x.traces ++ y.traces;
  on = λ back.
      ap (λ qs. turns qs old) (append_assoc front more back) ∙ x.on (more ++ back) ∙ ap (walked x.traces) (y.on back)
      ∙ sym (walked_more x.traces y.traces (turns back new));
}

-- ---- one quantum

module _ (q : Quantum) (w : World) where
  turns_next : (qs : List Quantum) (pid : Option ℕ) → picked q.pick (ready_pids w.procs) ≡ pid → turns (q ∷ qs) w ≡ quantum_turn (turns qs) w q.count pid
  unfolding turns
  turns_next qs pid is = ap (quantum_turn (turns qs) w q.count) is

  -- no process may run
  pub none_chosen : picked q.pick (ready_pids w.procs) ≡ None → (qs : List Quantum) → turns (q ∷ qs) w ≡ remains_at w (Some (none_runs w))
  none_chosen is qs = turns_next qs None is

  module _ (pid : ℕ) (chosen : picked q.pick (ready_pids w.procs) ≡ Some pid) (walk : Walk) (is : turn q.count pid w ≡ walk) where
    -- the turn stops the run
    pub turn_stops : (end : End) → walk.end ≡ Some end → (qs : List Quantum) → turns (q ∷ qs) w ≡ walk
    turn_stops end stops qs = turns_next qs (Some pid) chosen ∙ ap (going_on (turns qs)) is ∙ goes walk stops
      where
        goes : (v : Walk) → v.end ≡ Some end → going_on (turns qs) v ≡ v
        goes v e = rw e refl

    -- or the run goes on
    pub turn_comes : walk.end ≡ None → Comes (q ∷ []) w walk.world
    turn_comes goes_on = record { traces = walk.traces; on = λ back. turns_next back (Some pid) chosen ∙ ap (going_on (turns back)) is ∙ (rw goes_on refl) }

-- ---- no quantum is left

pub none_left : (w : World) → turns [] w ≡ remains_at w (Some (last_end w (ready_pids w.procs)))
unfolding turns
none_left w = refl

-- where no process lives, the first quantum tells it
pub none_lives : (q : Quantum) (w : World) → w.procs ≡ [] → picked q.pick (ready_pids w.procs) ≡ None
unfolding picked ready_pids
none_lives q w is = rw is refl
