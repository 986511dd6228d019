-- Where a run is stuck none may run, and so each that lives waits, or stands still for its vfork child.
use Rattle.std.proofs.Common.{◌≡◌, ℕ, zero, suc, ◌%◌, Bool, true, false, cond, List, [], ◌∷◌, map, length, reverse, Option, Some, None, inl, inr, refl, sym, ap, ◌∙◌, arith}
use Rattle.std.specs.Prelude.{◌==◌, filter, if◌then◌else◌}
use Rattle.std.proofs.lemmas.Bool.{cases_Bool}
use Rattle.std.proofs.lemmas.List.{length-reverse}
use Rattle.std.proofs.lemmas.Option.{slice_get-get_or}
use Rattle.quantum_sched.specs.declared.Quantum.{Quantum}
use Rattle.quantum_sched.specs.Picked.{picked}
use Rattle.vfork_exec.specs.declared.family.State.{State}
use Rattle.vfork_exec.specs.declared.family.State.TheVariants.{Ready, Waiting, OnPipe, Lent}
use Rattle.vfork_exec.specs.Keyed.{find}
use Rattle.vfork_exec.specs.Families.{is_ready}
use Rattle.vfork_exec.proofs.Keyed.{find_head}
use Rattle.machine_world.specs.World.{Process, World, pid_of}
use Rattle.machine_world.specs.Families.{ready_pids}
use Rattle.machine_world.specs.Event.{Outcome, went, strays, full, idle, event}
use Rattle.machine_world.specs.Turns.{Walk, End, stuck, remains_at, traced, turned, turn, going_on, quantum_turn, last_end, turns}
use Rattle.waits_laws.specs.Waits.{WaitsAgain, IfWaits, HasVforkChild, WaitsWell}
use Rattle.waits_laws.specs.Laws.{WaitsOrLent, StuckRunsWait}
use Rattle.waits_laws.proofs.WaitRuns.{runs_keep_waits}

-- ---- none may run

turned_goes : (more : World → Walk) (w : World) (pid : ℕ) (o : Outcome) → ((v : World) → (more v).end ≡ Some stuck → ⊥) → (turned more w pid o).end ≡ Some stuck → ⊥
turned_goes more w pid (went now t) on is = over t.over is
  where
    over : (b : Bool) → (traced t (if b then remains_at now None else more now)).end ≡ Some stuck → ⊥
    over true is = cc
    over false is = on now is
turned_goes more w pid (strays access) on is = cc
turned_goes more w pid full on is = cc
turned_goes more w pid idle on is = cc

-- a turn isn't stuck
turn_goes : (count pid : ℕ) (w : World) → (turn count pid w).end ≡ Some stuck → ⊥
unfolding turn
turn_goes zero pid w is = cc
turn_goes (suc count) pid w is = turned_goes (turn count pid) w pid (event w pid) (turn_goes count pid) is

none_picked : (k : ℕ) (pids : List ℕ) → picked k pids ≡ None → pids ≡ []
unfolding picked
none_picked k [] is = refl
none_picked k (pid ∷ pids) is =
    let n : length (reverse (pid ∷ pids)) ≡ suc (length pids) = length-reverse (pid ∷ pids) in
    let some = slice_get-get_or (reverse (pid ∷ pids)) (k % length (pid ∷ pids)) pid (omega (arith, n)) in
    absurd cc

none_last : (w : World) (pids : List ℕ) → Some (last_end w pids) ≡ Some stuck → pids ≡ []
none_last w [] is = refl
none_last w (pid ∷ pids) is = absurd cc

quantum_stuck : (more : World → Walk) (w : World) (count : ℕ) (chosen : Option ℕ) → (chosen ≡ None → ready_pids w.procs ≡ [])
    → ((v : World) → (more v).end ≡ Some stuck → ready_pids (more v).world.procs ≡ []) → (quantum_turn more w count chosen).end ≡ Some stuck
    → ready_pids (quantum_turn more w count chosen).world.procs ≡ []
quantum_stuck more w count None none on is = none refl
quantum_stuck more w count (Some pid) none on is = goes (turn count pid w) (turn_goes count pid w) is
  where
    goes : (walk : Walk) → (walk.end ≡ Some stuck → ⊥) → (going_on more walk).end ≡ Some stuck → ready_pids (going_on more walk).world.procs ≡ []
    goes walk fine = at walk.end fine
      where
        at : (end : Option End) → (end ≡ Some stuck → ⊥) → (going_on more (record walk { end = end })).end ≡ Some stuck → ready_pids (going_on more (record walk { end = end })).world.procs ≡ []
        at (Some end) fine is = absurd (fine is)
        at None fine is = on walk.world is

none_ready : (quanta : List Quantum) (w : World) → (turns quanta w).end ≡ Some stuck → ready_pids (turns quanta w).world.procs ≡ []
unfolding turns
none_ready [] w is = none_last w (ready_pids w.procs) is
none_ready (q ∷ qs) w is = quantum_stuck (turns qs) w q.count (picked q.pick (ready_pids w.procs)) (none_picked q.pick (ready_pids w.procs)) (none_ready qs) is

-- ---- so each that lives isn't ready

ready_head : (p : Process) (ps : List Process) (b : Bool) → is_ready p.state ≡ b → ready_pids (p ∷ ps) ≡ cond b (p.pid ∷ ready_pids ps) (ready_pids ps)
unfolding ready_pids
ready_head p ps true is = ap (λ (t : Bool). map pid_of (cond t (p ∷ filter (λ q. is_ready q.state) ps) (filter (λ q. is_ready q.state) ps))) is
ready_head p ps false is = ap (λ (t : Bool). map pid_of (cond t (p ∷ filter (λ q. is_ready q.state) ps) (filter (λ q. is_ready q.state) ps))) is

isnt_ready : (pid : ℕ) (p : Process) (procs : List Process) → ready_pids procs ≡ [] → find pid_of pid procs ≡ Some p → is_ready p.state ≡ false
unfolding find
isnt_ready pid p [] none found = absurd cc
isnt_ready pid p (x ∷ xs) none found = elim (cases_Bool (is_ready x.state)) [
  | inl ready ↦ let no : x.pid ∷ ready_pids xs ≡ [] = sym (ready_head x xs true ready) ∙ none in absurd cc
  | inr still ↦ elim (cases_Bool (x.pid == pid)) [
    | inl here ↦ let same : x ≡ p = let e = sym (find_head pid_of pid x xs true here) ∙ found in cc in sym (ap (λ (y : Process). is_ready y.state) same) ∙ still
    | inr later ↦ isnt_ready pid p xs (sym (ready_head x xs false still) ∙ none) (sym (find_head pid_of pid x xs false later) ∙ found)
  ]
]

waits_or_lent : (w : World) (p : Process) (x : State) → is_ready x ≡ false → IfWaits x (WaitsAgain w p) → ((child : ℕ) → x ≡ Lent child → HasVforkChild w p child) → WaitsOrLent w p x
waits_or_lent w p Ready isnt waits lent = absurd cc
waits_or_lent w p (Waiting who) isnt waits lent = waits
waits_or_lent w p (OnPipe pipe) isnt waits lent = waits
waits_or_lent w p (Lent child) isnt waits lent = lent child refl

pub stuck_runs_wait : StuckRunsWait
stuck_runs_wait quanta w order well is pid p found =
    let now : WaitsWell (turns quanta w).world = runs_keep_waits quanta w order well in
    waits_or_lent (turns quanta w).world p p.state (isnt_ready pid p (turns quanta w).world.procs (none_ready quanta w is) found)
    (now.waits pid p found) (λ child stands. now.lenders pid child p found stands)
