-- Over one memory the steps of a run lead where its turns lead.
use Rattle.std.proofs.Common.{◌≡◌, ◌≢◌, ℕ, zero, suc, true, false, List, [], ◌∷◌, ◌++◌, Option, Some, None, refl, sym, ap, ◌∙◌}
use Rattle.quantum_sched.specs.declared.Quantum.{Quantum}
use Rattle.quantum_sched.specs.Picked.{picked}
use Rattle.machine_world.specs.Families.{ready_pids}
use Rattle.machine_world.specs.Turns.{End, log_full}
use Rattle.memory_world.specs.Physical.{Physical, After, after, no_room, nobody, event_in, WalkIn, turned_in, turn_in, going_on_in, quantum_turn_in, turns_in}
use Rattle.meter_world.specs.Steps.{Step, by_after, turn_steps_in, behind_turn, quantum_steps_in, steps_in}
use Rattle.meter_world.specs.Laws.{StepsLeadIn}
use Rattle.meter_world.proofs.Leads.{behind, behind_both}

-- a walk that stops where these steps lead
abbrev StopsBehind : Physical → List Step → WalkIn → Type 0
StopsBehind p taken walk = walk.end ≢ Some log_full → walk.now.world ≡ behind p.world taken

by_what_comes : (n pid : ℕ) (p : Physical) (o : After) → ((v : Physical) → StopsBehind v (turn_steps_in n pid v) (turn_in n pid v)) →
    StopsBehind p (by_after (turn_steps_in n pid) p pid o) (turned_in (turn_in n pid) p o)
by_what_comes n pid p (after now true) more has_room = refl
by_what_comes n pid p (after now false) more has_room = more now has_room
by_what_comes n pid p (no_room now) more has_room = absurd (has_room refl)
by_what_comes n pid p nobody more has_room = refl

turn_leads : (n pid : ℕ) (p : Physical) → StopsBehind p (turn_steps_in n pid p) (turn_in n pid p)
unfolding turn_in turn_steps_in
turn_leads zero pid p has_room = refl
turn_leads (suc n) pid p has_room = by_what_comes n pid p (event_in p pid) (turn_leads n pid) has_room

by_end : (qs : List Quantum) (p : Physical) (taken : List Step) (walk : WalkIn) (end : Option End) → walk.end ≡ end → StopsBehind p taken walk →
    ((v : Physical) → StopsBehind v (steps_in qs v) (turns_in qs v)) →
    StopsBehind p (taken ++ behind_turn (steps_in qs) walk.now end) (going_on_in (turns_in qs) walk)
by_end qs p taken walk (Some end) is stops more = rw is (λ has_room. stops (λ full. has_room (sym is ∙ full)) ∙ sym (behind_both p.world taken []))
by_end qs p taken walk None is stops more =
    rw is
    (λ has_room. more walk.now has_room ∙ ap (λ v. behind v (steps_in qs walk.now)) (stops (λ full. let no : None ≡ Some log_full = sym is ∙ full in cc)) ∙ sym (behind_both p.world taken (steps_in qs walk.now)))

by_pick : (qs : List Quantum) (p : Physical) (count : ℕ) (o : Option ℕ) → ((v : Physical) → StopsBehind v (steps_in qs v) (turns_in qs v)) →
    StopsBehind p (quantum_steps_in (steps_in qs) p count o) (quantum_turn_in (turns_in qs) p count o)
by_pick qs p count None more has_room = refl
by_pick qs p count (Some pid) more has_room =
    by_end qs p (turn_steps_in count pid p) (turn_in count pid p) (turn_in count pid p).end refl (turn_leads count pid p) more has_room

pub steps_lead_in : StepsLeadIn
unfolding turns_in steps_in
steps_lead_in [] p has_room = refl
steps_lead_in (q ∷ qs) p has_room = by_pick qs p q.count (picked q.pick (ready_pids p.world.procs)) (steps_lead_in qs) has_room
