-- Runs by quanta in the one memory, and up to their first stray access.
use Rattle.std.proofs.Common.{◌≡◌, ◌≢◌, ◌+◌, ◌-◌, ◌<◌, ℕ, inl, inr, false, List, [], ◌∷◌, ◌++◌, length, Option, Some, None, Result, Ok, Err, refl, sym, ap, subst, ◌∙◌, append_assoc, append-nil, take, drop, get_or}
use Rattle.std.specs.Result.{IsErr}
use Rattle.std.specs.Prelude.{alloc_error}
use Rattle.std.specs.declared.alloc.AllocError.{AllocError}
use Rattle.std.proofs.lemmas.Bool.{false≢true, cases_Bool}
use Rattle.quantum_sched.specs.declared.Quantum.{Quantum}
use Rattle.quantum_sched.specs.Picked.{picked}
use Rattle.machine_world.specs.World.{World}
use Rattle.machine_world.specs.Families.{ready_pids}
use Rattle.machine_world.specs.Turns.{stray_at, log_full, Walk, none_runs, turn, turns, walked}
use Rattle.machine_world.specs.Courses.{Comes}
use Rattle.machine_world.proofs.RunLaws.{none_left, turn_stops}
use Rattle.memory_world.specs.Physical.{Physical, has_stray, turns_in, remains_at_in}
use Rattle.memory_world.specs.Physical.{WalkIn}
use Rattle.memory_world.specs.Courses.{ComesIn}
use Rattle.memory_world.specs.Growth.{Adds}
use Rattle.memory_world.proofs.Growth.{runs_add}
use Rattle.memory_world.proofs.TurnsIn.{comes_in_on, none_chosen_in, turn_in_stops, turn_in_comes, none_left_in, comes_in_none}
use Rattle.kept_parts.specs.InMemory.{physical_of}
use Rattle.flat_machine.specs.declared.run.End.{End as Told}
use Rattle.flat_machine.specs.declared.run.End.TheVariants as told
use Rattle.flat_machine.specs.State.{State, world, one_memory}
use Rattle.flat_machine.specs.Runs.{repeated, Ends}
use Rattle.flat_machine.specs.RunsIn.{RunsIn, GoesOn}
use Rattle.flat_machine.specs.Leaves.{Leaves}
use Rattle.flat_machine.specs.LeavesIn.{StopsIn, TurnLeavesIn, TurnFirst, LeavesIn, LeavesFirst, GoesPast}
use Rattle.flat_machine.proofs.NotedIn.{adds_stray, adds_trans}
use Rattle.flat_machine.proofs.Rounds.{quantum_none, quantum_leaves, leaves_front, leaves_ended, next_is, all_are, repeated_more, split, machine_ends}

-- ---- one quantum, in the one memory

module _ (q : Quantum) (p : Physical) where
  pub quantum_none_in : picked q.pick (ready_pids p.world.procs) ≡ None → (end : Told) → Ends (Some (none_runs p.world)) end → LeavesIn (q ∷ []) p p (Ok (Some end))
  quantum_none_in none end tells back = rw (none_chosen_in q p none back) (refl, tells)

  module _ (pid : ℕ) (chosen : picked q.pick (ready_pids p.world.procs) ≡ Some pid) (done : ℕ) (new : Physical) where
    pub quantum_leaves_in : (r : Result (Option Told) AllocError) → TurnLeavesIn pid q.count p done new r → LeavesIn (q ∷ []) p new r
    quantum_leaves_in (Ok None) x = turn_in_comes q p pid chosen (remains_at_in new None) x refl
    quantum_leaves_in (Ok (Some told.LogFull)) x = λ back. rw (turn_in_stops q p pid chosen (remains_at_in new (Some log_full)) x log_full refl back) (refl, tt)
    quantum_leaves_in (Ok (Some (told.Stray access))) x = absurd x
    quantum_leaves_in (Ok (Some told.AllEnded)) x = absurd x
    quantum_leaves_in (Ok (Some told.Stuck)) x = absurd x
    quantum_leaves_in (Ok (Some told.OutOfQuanta)) x = absurd x
    quantum_leaves_in (Err error) x = record {
      front = [];
      quantum = q;
      back = [];
      are = refl;
      before = p;
      reached = comes_in_none p;
      pid = pid;
      chosen = chosen;
      done = done;
      stops = x;
    }

-- ---- up to the first stray access

-- no process may run
pub first_none : (q : Quantum) (w : World) → picked q.pick (ready_pids w.procs) ≡ None → (end : Told) → Ends (Some (none_runs w)) end → has_stray w.notes ≡ false
    → LeavesFirst (q ∷ []) w w (Ok (Some end))
first_none q w none end tells quiet = (λ still. quantum_none q w none end tells, λ was. absurd (false≢true (sym quiet ∙ was)))

-- none was met
pub first_quiet : (qs : List Quantum) (old new : World) (r : Result (Option Told) AllocError) → has_stray new.notes ≡ false → Leaves qs old new r → LeavesFirst qs old new r
first_quiet qs old new (Ok end) quiet x = (λ still. x, λ was. absurd (false≢true (sym quiet ∙ was)))
first_quiet qs old new (Err error) quiet x = tt

-- what a turn leaves
pub quantum_first : (q : Quantum) (old new : World) (pid : ℕ) → picked q.pick (ready_pids old.procs) ≡ Some pid → (done : ℕ) (r : Result (Option Told) AllocError) → TurnFirst pid q.count old done new r
    → LeavesFirst (q ∷ []) old new r
quantum_first q old new pid chosen done (Err error) x = tt
quantum_first q old new pid chosen done (Ok end) x = (
  λ quiet. quantum_leaves q old pid chosen done new (Ok end) (x.0 quiet),
  λ was back.
      let at = x.1 was in
      subst (λ (w : Walk). GoesPast w new) (sym (turn_stops q old pid chosen (turn q.count pid old) refl (stray_at at.pid at.access) at.ends back)) at,
)

-- ---- as a machine has it

module _ (s : State) where
  pub chosen_in : (pick : ℕ) (o : Option ℕ) → picked pick (ready_pids (world s).procs) ≡ o → picked pick (ready_pids (one_memory s).world.procs) ≡ o
  unfolding physical_of
  chosen_in pick o is = is

  pub tells_in : (end : Told) → Ends (Some (none_runs (world s))) end → Ends (Some (none_runs (one_memory s).world)) end
  unfolding physical_of
  tells_in end tells = tells

-- ---- one after the other

-- quanta behind others
leaves_front_in : (front more : List Quantum) (old mid new : Physical) (r : Result (Option Told) AllocError) → ComesIn front old mid → LeavesIn more mid new r → LeavesIn (front ++ more) old new r
leaves_front_in front more old mid new (Ok None) comes x = comes_in_on front more old mid new comes x
leaves_front_in front more old mid new (Ok (Some end)) comes x = λ back.
    let same : turns_in ((front ++ more) ++ back) old ≡ turns_in (more ++ back) mid = ap (λ qs. turns_in qs old) (append_assoc front more back) ∙ comes (more ++ back) in
    rw same (x back)
leaves_front_in front more old mid new (Err error) comes x = record {
  front = front ++ x.front;
  quantum = x.quantum;
  back = x.back;
  are = ap (λ qs. front ++ qs) x.are ∙ sym (append_assoc front x.front (x.quantum ∷ x.back));
  before = x.before;
  reached = comes_in_on front x.front old mid x.before comes x.reached;
  pid = x.pid;
  chosen = x.chosen;
  done = x.done;
  stops = x.stops;
}

-- a run that has ended, with other quanta behind
leaves_over_in : (front more : List Quantum) (old new : Physical) (end : Told) → LeavesIn front old new (Ok (Some end)) → LeavesIn (front ++ more) old new (Ok (Some end))
leaves_over_in front more old new end x = λ back. rw (append_assoc front more back) (x (more ++ back))

stops_over_in : (front more : List Quantum) (old new : Physical) → StopsIn front old new → StopsIn (front ++ more) old new
stops_over_in front more old new x = record {
  front = x.front;
  quantum = x.quantum;
  back = x.back ++ more;
  are = ap (λ qs. qs ++ more) x.are ∙ append_assoc x.front (x.quantum ∷ x.back) more;
  before = x.before;
  reached = x.reached;
  pid = x.pid;
  chosen = x.chosen;
  done = x.done;
  stops = x.stops;
}

-- what they add
adds_of : (qs : List Quantum) (old new : Physical) (end : Option Told) → LeavesIn qs old new (Ok end) → Adds old.world new.world
adds_of qs old new None x =
    subst (λ (w : WalkIn). Adds old.world w.now.world) (x [] ∙ none_left_in new) (runs_add (qs ++ []) old)
adds_of qs old new (Some end) x = subst (λ (p : Physical). Adds old.world p.world) (x []).0 (runs_add (qs ++ []) old)

-- up to the first stray access and behind it
module _ (front more : List Quantum) (old mid new : World) where
  past_on : (back : List Quantum) → Comes front old mid → GoesPast (turns (more ++ back) mid) new → GoesPast (turns ((front ++ more) ++ back) old) new
  past_on back comes x =
      let same : turns ((front ++ more) ++ back) old ≡ walked comes.traces (turns (more ++ back) mid) = ap (λ qs. turns qs old) (append_assoc front more back) ∙ comes.on (more ++ back) in
      record {
        pid = x.pid;
        access = x.access;
        ends = ap (λ (w : Walk). w.end) same ∙ x.ends;
        adds = subst (λ (w : Walk). Adds w.world new) (sym same) x.adds;
      }

  past_before : (back : List Quantum) → GoesPast (turns (front ++ (more ++ back)) old) mid → Adds mid new → GoesPast (turns ((front ++ more) ++ back) old) new
  past_before back x adds =
      let same : turns (front ++ (more ++ back)) old ≡ turns ((front ++ more) ++ back) old = ap (λ qs. turns qs old) (sym (append_assoc front more back)) in
      subst (λ (w : Walk). GoesPast w new) same
      (record { pid = x.pid; access = x.access; ends = x.ends; adds = adds_trans (turns (front ++ (more ++ back)) old).world mid new x.adds adds })

  first_front : (end : Option Told) → LeavesFirst front old mid (Ok None) → (has_stray mid.notes ≡ false → LeavesFirst more mid new (Ok end)) → Adds mid new → LeavesFirst (front ++ more) old new (Ok end)
  first_front end x y adds = elim (cases_Bool (has_stray mid.notes)) [
    | inl was ↦
        (λ quiet. absurd (false≢true (sym quiet ∙ adds_stray mid new adds was)), λ still back. past_before back (x.1 was (more ++ back)) adds)
    | inr quiet ↦ (λ still. leaves_front front more old mid new (Ok end) (x.0 quiet) ((y quiet).0 still), λ was back. past_on back (x.0 quiet) ((y quiet).1 was back))
  ]

first_over : (front more : List Quantum) (old new : World) (r : Result (Option Told) AllocError) → r ≢ Ok None → LeavesFirst front old new r → LeavesFirst (front ++ more) old new r
first_over front more old new (Ok None) other x = absurd (other refl)
first_over front more old new (Ok (Some end)) other x =
    (λ quiet. leaves_ended front more old new end (x.0 quiet), λ was back. subst (λ qs. GoesPast (turns qs old) new) (sym (append_assoc front more back)) (x.1 was (more ++ back)))
first_over front more old new (Err error) other x = tt

-- the same of a machine that goes on
pub first_step : (front more : List Quantum) (old : World) (mid new : State) (r : Result (Option Told) AllocError) → LeavesFirst front old (world mid) (Ok None) → LeavesIn more (one_memory mid) (one_memory new) r
    → (has_stray (world mid).notes ≡ false → LeavesFirst more (world mid) (world new) r) → LeavesFirst (front ++ more) old (world new) r
unfolding physical_of
first_step front more old mid new (Ok end) x memory y = first_front front more old (world mid) (world new) end x y (adds_of more (one_memory mid) (one_memory new) end memory)
first_step front more old mid new (Err error) x memory y = tt

-- ---- the quantum of number i

module _ (qs : List Quantum) (i : ℕ) (d : Quantum) (less : i < length qs) (old mid new : Physical) (comes : ComesIn (take i qs) old mid) where
  pub round_on_in : LeavesIn (get_or qs i d ∷ []) mid new (Ok None) → ComesIn (take (i + 1) qs) old new
  round_on_in x = subst (λ rs. ComesIn rs old new) (sym (next_is qs i d less)) (comes_in_on (take i qs) (get_or qs i d ∷ []) old mid new comes x)

  pub round_ends_in : (end : Told) → LeavesIn (get_or qs i d ∷ []) mid new (Ok (Some end)) → LeavesIn qs old new (Ok (Some end))
  round_ends_in end x =
      subst (λ rs. LeavesIn rs old new (Ok (Some end))) (sym (all_are qs i d less))
      (leaves_over_in (take i qs ++ (get_or qs i d ∷ [])) (drop (i + 1) qs) old new end
      (leaves_front_in (take i qs) (get_or qs i d ∷ []) old mid new (Ok (Some end)) comes x))

  pub round_fails_in : (r : Result (Option Told) AllocError) → IsErr r → StopsIn (get_or qs i d ∷ []) mid new → LeavesIn qs old new r
  round_fails_in (Ok end) is x = absurd cc
  round_fails_in (Err error) is x =
      subst (λ rs. StopsIn rs old new) (sym (all_are qs i d less))
      (stops_over_in (take i qs ++ (get_or qs i d ∷ [])) (drop (i + 1) qs) old new
      (leaves_front_in (take i qs) (get_or qs i d ∷ []) old mid new (Err alloc_error) comes x))

module _ (qs : List Quantum) (i : ℕ) (d : Quantum) (less : i < length qs) (old : World) (mid new : State) (x : LeavesFirst (take i qs) old (world mid) (Ok None)) (r : Result (Option Told) AllocError)
    (memory : LeavesIn (get_or qs i d ∷ []) (one_memory mid) (one_memory new) r)
    (y : has_stray (world mid).notes ≡ false → LeavesFirst (get_or qs i d ∷ []) (world mid) (world new) r) where
  pub round_first : LeavesFirst (take (i + 1) qs) old (world new) r
  round_first = subst (λ rs. LeavesFirst rs old (world new) r) (sym (next_is qs i d less)) (first_step (take i qs) (get_or qs i d ∷ []) old mid new r x memory y)

  pub round_first_over : r ≢ Ok None → LeavesFirst qs old (world new) r
  round_first_over other =
      subst (λ rs. LeavesFirst rs old (world new) r) (sym (all_are qs i d less))
      (first_over (take i qs ++ (get_or qs i d ∷ [])) (drop (i + 1) qs) old (world new) r other
      (first_step (take i qs) (get_or qs i d ∷ []) old mid new r x memory y))

-- out of memory nothing is said of it
pub first_fails : (qs : List Quantum) (old new : World) (r : Result (Option Told) AllocError) → IsErr r → LeavesFirst qs old new r
first_fails qs old new (Ok end) is = absurd cc
first_fails qs old new (Err error) is = tt

-- ---- the quanta so many times

module _ (qs : List Quantum) (i count : ℕ) (less : i < count) (old mid new : Physical) (comes : ComesIn (repeated i qs) old mid) where
  pub time_on_in : LeavesIn qs mid new (Ok None) → ComesIn (repeated (i + 1) qs) old new
  time_on_in x = subst (λ rs. ComesIn rs old new) (sym (repeated_more i qs)) (comes_in_on (repeated i qs) qs old mid new comes x)

  pub time_ends_in : (end : Told) → LeavesIn qs mid new (Ok (Some end)) → ((turns_in (repeated count qs) old).now ≡ new) × Ends (turns_in (repeated count qs) old).end end
  time_ends_in end x =
      let all = leaves_front_in (repeated i qs) qs old mid new (Ok (Some end)) comes x in
      rw (split qs i count less) (all (repeated (count - (i + 1)) qs))

  pub time_fails_in : StopsIn qs mid new → StopsIn (repeated count qs) old new
  time_fails_in x =
      subst (λ rs. StopsIn rs old new) (sym (split qs i count less))
      (stops_over_in (repeated i qs ++ qs) (repeated (count - (i + 1)) qs) old new (leaves_front_in (repeated i qs) qs old mid new (Err alloc_error) comes x))

module _ (qs : List Quantum) (i count : ℕ) (less : i < count) (old mid new : State) (x : LeavesFirst (repeated i qs) (world old) (world mid) (Ok None)) where
  pub time_first : LeavesIn qs (one_memory mid) (one_memory new) (Ok None) → (has_stray (world mid).notes ≡ false → LeavesFirst qs (world mid) (world new) (Ok None))
      → LeavesFirst (repeated (i + 1) qs) (world old) (world new) (Ok None)
  time_first memory y =
      subst (λ rs. LeavesFirst rs (world old) (world new) (Ok None)) (sym (repeated_more i qs)) (first_step (repeated i qs) qs (world old) mid new (Ok None) x memory y)

  pub time_first_ends : (end : Told) → LeavesIn qs (one_memory mid) (one_memory new) (Ok (Some end))
      → (has_stray (world mid).notes ≡ false → LeavesFirst qs (world mid) (world new) (Ok (Some end))) → GoesOn (repeated count qs) old new (Ok end)
  time_first_ends end memory y =
      let all = first_step (repeated i qs) qs (world old) mid new (Ok (Some end)) x memory y in
      let rest = repeated (count - (i + 1)) qs in
      let P : List Quantum → Type 0 = λ rs. GoesOn rs old new (Ok end) in
      subst P (sym (split qs i count less)) (λ quiet. (let leaves = all.0 quiet rest in (sym leaves.0, leaves.1)), λ was. all.1 was rest)

-- behind the last quantum
module _ (qs : List Quantum) (old new : State) (end : Told) (last : Ends (turns [] (world new)).end end) where
  last_in : Ends (turns_in [] (one_memory new)).end end
  unfolding physical_of
  last_in = rw (none_left_in (one_memory new)) (rw (none_left (world new)) at last)

  pub all_comes_in : ComesIn qs (one_memory old) (one_memory new) → RunsIn qs old new (Ok end)
  all_comes_in comes =
      let same : turns_in qs (one_memory old) ≡ turns_in [] (one_memory new) = ap (λ rs. turns_in rs (one_memory old)) (sym (append-nil qs)) ∙ comes [] in
      rw same (ap (λ (w : WalkIn). w.now) (none_left_in (one_memory new)), last_in)

  pub all_first : LeavesFirst qs (world old) (world new) (Ok None) → GoesOn qs old new (Ok end)
  all_first x =
      (λ quiet. machine_ends qs (world old) new new end refl (x.0 quiet) last, λ was. subst (λ rs. GoesPast (turns rs (world old)) (world new)) (append-nil qs) (x.1 was []))

pub runs_fail_in : (qs : List Quantum) (old new : State) (r : Result Told AllocError) → IsErr r → StopsIn qs (one_memory old) (one_memory new) → RunsIn qs old new r
runs_fail_in qs old new (Ok end) is x = absurd cc
runs_fail_in qs old new (Err error) is x = x

pub goes_on_fails : (qs : List Quantum) (old new : State) (r : Result Told AllocError) → IsErr r → GoesOn qs old new r
goes_on_fails qs old new (Ok end) is = absurd cc
goes_on_fails qs old new (Err error) is = tt
