-- The steps of a run lead where its turns lead: event by event, turn by turn.
use Rattle.std.proofs.Common.{◌≡◌, ℕ, zero, suc, ◌==◌, Bool, true, false, if◌then◌else◌, List, [], ◌∷◌, ◌++◌, map, length, Option, Some, None, refl, sym, ap, ◌∙◌}
use Rattle.quantum_sched.specs.declared.Quantum.{Quantum}
use Rattle.quantum_sched.specs.Picked.{picked}
use Rattle.machine_world.specs.World.{World}
use Rattle.machine_world.specs.Families.{ready_pids}
use Rattle.machine_world.specs.Event.{Outcome, went, strays, full, idle, event}
use Rattle.machine_world.specs.Turns.{End, all_ended, stuck, Walk, remains_at, turn, turned, going_on, quantum_turn, last_end, turns}
use Rattle.meter_world.specs.Steps.{Step, world_behind, by_event, turn_steps, behind_turn, quantum_steps, steps}
use Rattle.meter_world.specs.Meter.{last_of}
use Rattle.meter_world.specs.Laws.{noted_end, StepsLead}

-- the world behind some steps
abbrev pub behind : World → List Step → World
behind w taken = last_of w (map world_behind taken)

pub behind_both : (w : World) (xs ys : List Step) → behind w (xs ++ ys) ≡ behind (behind w xs) ys
behind_both w [] ys = refl
behind_both w (x ∷ xs) ys = behind_both x.after xs ys

-- a walk that stops where these steps lead
abbrev StopsBehind : World → List Step → Walk → Type 0
StopsBehind w taken walk = walk.world ≡ noted_end (behind w taken) walk.end

-- ---- a turn

by_outcome : (n pid : ℕ) (w : World) (o : Outcome) → ((v : World) → StopsBehind v (turn_steps n pid v) (turn n pid v)) →
    StopsBehind w (by_event (turn_steps n pid) w pid o) (turned (turn n pid) w pid o)
by_outcome n pid w (went now t) more = by_over t.over
  where
    by_over : (over : Bool) → (if over then remains_at now None else turn n pid now).world
        ≡ noted_end (behind now (if over then [] else turn_steps n pid now)) (if over then remains_at now None else turn n pid now).end
    by_over true = refl
    by_over false = more now
by_outcome n pid w (strays access) more = refl
by_outcome n pid w full more = refl
by_outcome n pid w idle more = refl

turn_leads : (n pid : ℕ) (w : World) → StopsBehind w (turn_steps n pid w) (turn n pid w)
unfolding turn turn_steps
turn_leads zero pid w = refl
turn_leads (suc n) pid w = by_outcome n pid w (event w pid) (turn_leads n pid)

-- ---- a run

module _ (w : World) where
  none_left : (b : Bool) → w ≡ noted_end w (Some (if b then all_ended else stuck))
  none_left true = refl
  none_left false = refl

  at_the_end : (pids : List ℕ) → w ≡ noted_end w (Some (last_end w pids))
  at_the_end [] = none_left (length w.procs == 0)
  at_the_end (pid ∷ pids) = refl

  by_end : (qs : List Quantum) (taken : List Step) (walk : Walk) (end : Option End) → walk.end ≡ end → StopsBehind w taken walk →
      ((v : World) → StopsBehind v (steps qs v) (turns qs v)) →
      StopsBehind w (taken ++ behind_turn (steps qs) walk.world end) (going_on (turns qs) walk)
  by_end qs taken walk (Some end) is stops more =
      rw is (stops ∙ ap (noted_end (behind w taken)) is ∙ ap (λ v. noted_end v (Some end)) (sym (behind_both w taken [])))
  by_end qs taken walk None is stops more =
      let here : walk.world ≡ behind w taken = stops ∙ ap (noted_end (behind w taken)) is in
      rw is (more walk.world ∙ ap (λ v. noted_end (behind v (steps qs walk.world)) (turns qs walk.world).end) here ∙ ap (λ v. noted_end v (turns qs walk.world).end) (sym (behind_both w taken (steps qs walk.world))))

by_pick : (qs : List Quantum) (w : World) (count : ℕ) (o : Option ℕ) → ((v : World) → StopsBehind v (steps qs v) (turns qs v)) →
    StopsBehind w (quantum_steps (steps qs) w count o) (quantum_turn (turns qs) w count o)
by_pick qs w count None more = none_left w (length w.procs == 0)
by_pick qs w count (Some pid) more = by_end w qs (turn_steps count pid w) (turn count pid w) (turn count pid w).end refl (turn_leads count pid w) more

pub steps_lead : StepsLead
unfolding turns steps
steps_lead [] w = at_the_end w (ready_pids w.procs)
steps_lead (q ∷ qs) w = by_pick qs w q.count (picked q.pick (ready_pids w.procs)) (steps_lead qs)
