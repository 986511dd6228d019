-- A run over one memory by a longer list of quanta, by the first quantum of the list.
use Rattle.std.proofs.Common.{◌≡◌, ℕ, zero, suc, ◌==◌, Bool, true, false, List, [], ◌∷◌, ◌++◌, length, Option, Some, None, refl, sym, ap, ◌∙◌, subst, if◌then◌else◌}
use Rattle.quantum_sched.specs.declared.Quantum.{Quantum}
use Rattle.quantum_sched.specs.Picked.{picked}
use Rattle.machine_world.specs.Families.{ready_pids}
use Rattle.machine_world.specs.Turns.{End, all_ended, stuck, out_of_quanta, stray_at, log_full, none_runs, last_end}
use Rattle.memory_world.specs.Physical.{Physical, After, after, no_room, nobody, event_in, WalkIn, remains_at_in, turned_in, turn_in, turns_in}
use Rattle.memory_world.specs.Longer.{with_more_in, RunsGoOnIn}
use Rattle.memory_world.proofs.TurnsIn.{none_chosen_in, turn_in_stops, turn_in_comes, none_left_in}

-- ---- where none may run

none_goes : (more : List Quantum) (p : Physical) → remains_at_in p (Some (none_runs p.world)) ≡ with_more_in more (remains_at_in p (Some (none_runs p.world)))
none_goes more p = by_length (length p.world.procs == 0)
  where
    by_length : (b : Bool) → remains_at_in p (Some (if b then all_ended else stuck)) ≡ with_more_in more (remains_at_in p (Some (if b then all_ended else stuck)))
    by_length true = refl
    by_length false = refl

none_picked : (k : ℕ) (pids : List ℕ) → pids ≡ [] → picked k pids ≡ None
unfolding picked
none_picked k pids is = rw is refl

none_ready : (more : List Quantum) (p : Physical) → ready_pids p.world.procs ≡ [] → turns_in more p ≡ remains_at_in p (Some (none_runs p.world))
none_ready [] p is = none_left_in p ∙ (rw is refl)
none_ready (q ∷ qs) p is = none_chosen_in q p (none_picked q.pick (ready_pids p.world.procs) is) qs

-- ---- no quantum is in front

left_at : (p : Physical) (pids : List ℕ) → ready_pids p.world.procs ≡ pids → turns_in [] p ≡ remains_at_in p (Some (last_end p.world pids))
left_at p pids is = none_left_in p ∙ ap (λ ready. remains_at_in p (Some (last_end p.world ready))) is

left_goes : (more : List Quantum) (p : Physical) (pids : List ℕ) → ready_pids p.world.procs ≡ pids → turns_in more p ≡ with_more_in more (turns_in [] p)
left_goes more p [] is = none_ready more p is ∙ none_goes more p ∙ ap (with_more_in more) (sym (none_ready [] p is))
left_goes more p (pid ∷ pids) is = ap (with_more_in more) (sym (left_at p (pid ∷ pids) is))

-- ---- a turn never ends a run for want of quanta

abbrev IsTurnEnd : Option End → Type 0
IsTurnEnd (Some out_of_quanta) = ⊥
IsTurnEnd end = Unit {0}

event_ends : (more : Physical → WalkIn) (p : Physical) (a : After) → ((q : Physical) → IsTurnEnd (more q).end) → IsTurnEnd (turned_in more p a).end
event_ends more p (after now true) ends = tt
event_ends more p (after now false) ends = ends now
event_ends more p (no_room now) ends = tt
event_ends more p nobody ends = tt

turn_ends : (n pid : ℕ) (p : Physical) → IsTurnEnd (turn_in n pid p).end
unfolding turn_in
turn_ends zero pid p = tt
turn_ends (suc n) pid p = event_ends (turn_in n pid) p (event_in p pid) (turn_ends n pid)

stays : (more : List Quantum) (v : WalkIn) (end : End) → v.end ≡ Some end → IsTurnEnd v.end → v ≡ with_more_in more v
stays more v out_of_quanta is ends = absurd (subst IsTurnEnd is ends)
stays more v all_ended is ends = rw is refl
stays more v stuck is ends = rw is refl
stays more v (stray_at pid access) is ends = rw is refl
stays more v log_full is ends = rw is refl

-- ---- quantum by quantum

module _ (q : Quantum) (qs more : List Quantum) (p : Physical) (rest : (v : Physical) → turns_in (qs ++ more) v ≡ with_more_in more (turns_in qs v)) where
  by_end : (pid : ℕ) → picked q.pick (ready_pids p.world.procs) ≡ Some pid → (v : WalkIn) → turn_in q.count pid p ≡ v → (end : Option End) → v.end ≡ end →
      turns_in (q ∷ qs ++ more) p ≡ with_more_in more (turns_in (q ∷ qs) p)
  by_end pid chosen v is (Some end) ends =
      turn_in_stops q p pid chosen v is end ends (qs ++ more) ∙ stays more v end ends (subst (λ walk. IsTurnEnd walk.end) is (turn_ends q.count pid p))
      ∙ ap (with_more_in more) (sym (turn_in_stops q p pid chosen v is end ends qs))
  by_end pid chosen v is None ends =
      turn_in_comes q p pid chosen v is ends (qs ++ more) ∙ rest v.now ∙ ap (with_more_in more) (sym (turn_in_comes q p pid chosen v is ends qs))

  by_pid : (pid : Option ℕ) → picked q.pick (ready_pids p.world.procs) ≡ pid → turns_in (q ∷ qs ++ more) p ≡ with_more_in more (turns_in (q ∷ qs) p)
  by_pid None is = none_chosen_in q p is (qs ++ more) ∙ none_goes more p ∙ ap (with_more_in more) (sym (none_chosen_in q p is qs))
  by_pid (Some pid) is = by_end pid is (turn_in q.count pid p) refl (turn_in q.count pid p).end refl

pub runs_go_on_in : RunsGoOnIn
runs_go_on_in [] more p = left_goes more p (ready_pids p.world.procs) refl
runs_go_on_in (q ∷ qs) more p = by_pid q qs more p (runs_go_on_in qs more) (picked q.pick (ready_pids p.world.procs)) refl
