-- A run by a longer list of quanta, by the first quantum of the list.
use Rattle.std.proofs.Common.{◌≡◌, ℕ, zero, suc, ◌==◌, Bool, true, false, List, [], ◌∷◌, ◌++◌, length, Option, Some, None, refl, sym, ap, ◌∙◌, subst, if◌then◌else◌}
use Rattle.quantum_sched.specs.declared.Quantum.{Quantum}
use Rattle.quantum_sched.specs.Picked.{picked}
use Rattle.machine_world.specs.World.{World}
use Rattle.machine_world.specs.Families.{ready_pids}
use Rattle.machine_world.specs.Event.{Trace, Outcome, went, strays, full, idle, event}
use Rattle.machine_world.specs.Turns.{End, all_ended, stuck, out_of_quanta, stray_at, log_full, Walk, remains_at, turn, turned, turns, walked, none_runs, last_end}
use Rattle.machine_world.specs.Courses.{Comes}
use Rattle.machine_world.specs.Longer.{with_more, RunsGoOn}
use Rattle.machine_world.proofs.TurnLaws.{walked_more}
use Rattle.machine_world.proofs.RunLaws.{none_chosen, turn_stops, turn_comes, none_left}

-- a walk with more behind what was walked before it
goes_behind : (more : List Quantum) (traces : List Trace) (v : Walk) (end : Option End) → v.end ≡ end →
    walked traces (with_more more v) ≡ with_more more (walked traces v)
goes_behind more traces v None is = rw is refl
goes_behind more traces v (Some out_of_quanta) is = rw is (sym (walked_more traces v.traces (turns more v.world)))
goes_behind more traces v (Some all_ended) is = rw is refl
goes_behind more traces v (Some stuck) is = rw is refl
goes_behind more traces v (Some (stray_at pid access)) is = rw is refl
goes_behind more traces v (Some log_full) is = rw is refl

-- ---- where none may run

none_goes : (more : List Quantum) (w : World) → remains_at w (Some (none_runs w)) ≡ with_more more (remains_at w (Some (none_runs w)))
none_goes more w = by_length (length w.procs == 0)
  where
    by_length : (b : Bool) → remains_at w (Some (if b then all_ended else stuck)) ≡ with_more more (remains_at w (Some (if b then all_ended else stuck)))
    by_length true = refl
    by_length false = refl

none_picked : (k : ℕ) (pids : List ℕ) → pids ≡ [] → picked k pids ≡ None
unfolding picked
none_picked k pids is = rw is refl

none_ready : (more : List Quantum) (w : World) → ready_pids w.procs ≡ [] → turns more w ≡ remains_at w (Some (none_runs w))
none_ready [] w is = none_left w ∙ (rw is refl)
none_ready (q ∷ qs) w is = none_chosen q w (none_picked q.pick (ready_pids w.procs) is) qs

-- ---- no quantum is in front

left_at : (w : World) (pids : List ℕ) → ready_pids w.procs ≡ pids → turns [] w ≡ remains_at w (Some (last_end w pids))
left_at w pids is = none_left w ∙ ap (λ ready. remains_at w (Some (last_end w ready))) is

left_goes : (more : List Quantum) (w : World) (pids : List ℕ) → ready_pids w.procs ≡ pids → turns more w ≡ with_more more (turns [] w)
left_goes more w [] is = none_ready more w is ∙ none_goes more w ∙ ap (with_more more) (sym (none_ready [] w is))
left_goes more w (pid ∷ pids) is = ap (with_more more) (sym (left_at w (pid ∷ pids) is))

-- ---- a turn never ends a run for want of quanta

abbrev IsTurnEnd : Option End → Type 0
IsTurnEnd (Some out_of_quanta) = ⊥
IsTurnEnd end = Unit {0}

over_ends : (more : World → Walk) (now : World) (over : Bool) → ((w : World) → IsTurnEnd (more w).end) → IsTurnEnd (if over then remains_at now None else more now).end
over_ends more now true ends = tt
over_ends more now false ends = ends now

outcome_ends : (more : World → Walk) (w : World) (pid : ℕ) (o : Outcome) → ((v : World) → IsTurnEnd (more v).end) → IsTurnEnd (turned more w pid o).end
outcome_ends more w pid (went now t) ends = over_ends more now t.over ends
outcome_ends more w pid (strays access) ends = tt
outcome_ends more w pid full ends = tt
outcome_ends more w pid idle ends = tt

turn_ends : (n pid : ℕ) (w : World) → IsTurnEnd (turn n pid w).end
unfolding turn
turn_ends zero pid w = tt
turn_ends (suc n) pid w = outcome_ends (turn n pid) w pid (event w pid) (turn_ends n pid)

stays : (more : List Quantum) (v : Walk) (end : End) → v.end ≡ Some end → IsTurnEnd v.end → v ≡ with_more more v
stays more v out_of_quanta is ends = absurd (subst IsTurnEnd is ends)
stays more v all_ended is ends = rw is refl
stays more v stuck is ends = rw is refl
stays more v (stray_at pid access) is ends = rw is refl
stays more v log_full is ends = rw is refl

-- ---- quantum by quantum

module _ (q : Quantum) (qs more : List Quantum) (w : World) (rest : (v : World) → turns (qs ++ more) v ≡ with_more more (turns qs v)) where
  by_end : (pid : ℕ) → picked q.pick (ready_pids w.procs) ≡ Some pid → (v : Walk) → turn q.count pid w ≡ v → (end : Option End) → v.end ≡ end →
      turns (q ∷ qs ++ more) w ≡ with_more more (turns (q ∷ qs) w)
  by_end pid chosen v is (Some end) ends =
      turn_stops q w pid chosen v is end ends (qs ++ more) ∙ stays more v end ends (subst (λ walk. IsTurnEnd walk.end) is (turn_ends q.count pid w))
      ∙ ap (with_more more) (sym (turn_stops q w pid chosen v is end ends qs))
  by_end pid chosen v is None ends =
      let came : Comes (q ∷ []) w v.world = turn_comes q w pid chosen v is ends in
      came.on (qs ++ more) ∙ ap (walked came.traces) (rest v.world) ∙ goes_behind more came.traces (turns qs v.world) (turns qs v.world).end refl
      ∙ ap (with_more more) (sym (came.on qs))

  by_pid : (pid : Option ℕ) → picked q.pick (ready_pids w.procs) ≡ pid → turns (q ∷ qs ++ more) w ≡ with_more more (turns (q ∷ qs) w)
  by_pid None is = none_chosen q w is (qs ++ more) ∙ none_goes more w ∙ ap (with_more more) (sym (none_chosen q w is qs))
  by_pid (Some pid) is = by_end pid is (turn q.count pid w) refl (turn q.count pid w).end refl

pub runs_go_on : RunsGoOn
runs_go_on [] more w = left_goes more w (ready_pids w.procs) refl
runs_go_on (q ∷ qs) more w = by_pid q qs more w (runs_go_on qs more) (picked q.pick (ready_pids w.procs)) refl
