-- Runs by quanta.
use Rattle.std.proofs.Common.{◌≡◌, ℕ, zero, suc, ◌+◌, ◌-◌, ◌*◌, ◌<◌, ◌≤◌, List, [], ◌∷◌, ◌++◌, length, Option, Some, None, Result, Ok, Err, refl, sym, ap, subst, ◌∙◌, arith, append_assoc, append-nil, take, drop, get_or}
use Rattle.std.specs.Result.{IsErr}
use Rattle.std.proofs.Math.Nat.{mul-le-mul_left}
use Rattle.std.proofs.Math.Seq.{take-suc}
use Rattle.std.proofs.lemmas.List.{take-append-drop}
use Rattle.std.specs.Prelude.{alloc_error}
use Rattle.std.specs.declared.alloc.AllocError.{AllocError}
use Rattle.quantum_sched.specs.declared.Quantum.{Quantum}
use Rattle.quantum_sched.specs.Picked.{picked}
use Rattle.vfork_exec.specs.Procs.{CanRun}
use Rattle.machine_world.specs.World.{World}
use Rattle.machine_world.specs.Families.{ready_pids}
use Rattle.machine_world.specs.Turns.{End, Walk, none_runs, turn, turns, walked}
use Rattle.machine_world.specs.Programs.{AreLoaded, LoadsPrograms}
use Rattle.machine_world.proofs.Loads.{turn_loads_programs}
use Rattle.machine_world.specs.Courses.{Comes}
use Rattle.machine_world.proofs.RunLaws.{comes_none, comes_on, none_chosen, none_left, turn_stops, turn_comes}
use Rattle.flat_machine.specs.declared.run.End.{End as Told}
use Rattle.flat_machine.specs.declared.run.End.TheVariants as told
use Rattle.alone_laws.specs.Stays.{AreRight, stays_along}
use Rattle.alone_laws.specs.Sound.{IsSound}
use Rattle.waits_laws.specs.Laws.{IsOrdered}
use Rattle.waits_laws.proofs.Ordered.{turns_keep_ordered}
use Rattle.alone_laws.proofs.StaysRuns.{runs_keep_stays}
use Rattle.flat_machine.specs.Runs.{repeated, Ends, Stops, Runs, gone_through, KeepsStays}
use Rattle.flat_machine.specs.State.{State, world}
use Rattle.kept_parts.specs.Kept.{Kept}
use Rattle.kept_parts.specs.Stands.{About, world_of}
use Rattle.flat_machine.specs.Leaves.{TurnLeaves, Leaves}
use Rattle.flat_machine.proofs.Picks.{may_run}
use Rattle.flat_machine.proofs.Readers.{loads_programs, loaded_notes}

-- an end that is told is there
pub ends_is : (o : Option End) (end : Told) → Ends o end → (e : End) × (o ≡ Some e)
ends_is (Some e) end x = (e, refl)
ends_is None told.AllEnded x = absurd x
ends_is None (told.Stray seen) x = absurd x
ends_is None told.Stuck x = absurd x
ends_is None told.OutOfQuanta x = absurd x
ends_is None told.LogFull x = absurd x

-- ---- one quantum

module _ (q : Quantum) (w : World) where
  pub quantum_none : picked q.pick (ready_pids w.procs) ≡ None → (end : Told) → Ends (Some (none_runs w)) end → Leaves (q ∷ []) w w (Ok (Some end))
  quantum_none none end tells back = rw (none_chosen q w none back) (refl, tells)

  module _ (pid : ℕ) (chosen : picked q.pick (ready_pids w.procs) ≡ Some pid) (done : ℕ) (new : World) where
    pub quantum_leaves : (r : Result (Option Told) AllocError) → TurnLeaves pid q.count w done new r → Leaves (q ∷ []) w new r
    quantum_leaves (Ok None) x = subst (Comes (q ∷ []) w) x.0 (turn_comes q w pid chosen (turn q.count pid w) refl x.1)
    quantum_leaves (Ok (Some end)) x = λ back.
        let e = ends_is (turn q.count pid w).end end x.1 in
        rw (turn_stops q w pid chosen (turn q.count pid w) refl e.0 e.1 back) (x.0, x.1)
    quantum_leaves (Err error) x = record {
      front = [];
      quantum = q;
      back = [];
      are = refl;
      before = w;
      reached = comes_none w;
      pid = pid;
      chosen = chosen;
      done = done;
      less = x.less;
      walked = x.walked;
      goes_on = x.goes_on;
      still = x.still;
    }

-- the world that a turn leaves
turn_has : (P : World → Type 0) (pid count : ℕ) (old : World) (done : ℕ) (new : World) (r : Result (Option Told) AllocError) → TurnLeaves pid count old done new r
    → ((n : ℕ) → P (turn n pid old).world) → P new
turn_has P pid count old done new (Ok None) x each = subst P x.0 (each count)
turn_has P pid count old done new (Ok (Some end)) x each = subst P x.0 (each count)
turn_has P pid count old done new (Err error) x each = subst P x.walked (each done)

-- every turn loads programs that are there
pub turn_loads : (a b : About) (n pid count done : ℕ) (old new : Kept) (r : Result (Option Told) AllocError) → TurnLeaves pid count (world_of a old) done (world_of b new) r
    → length a.programs ≡ n → AreLoaded n old.notes → AreLoaded n new.notes
turn_loads a b n pid count done old new r x same are =
    loaded_notes b new n (turn_has (LoadsPrograms n) pid count (world_of a old) done (world_of b new) r x
    (λ m. turn_loads_programs n m pid (world_of a old) (loads_programs a old n same are)))

-- and leaves a world in order
pub turn_ordered : (a b : About) (pid count done : ℕ) (old new : Kept) (r : Result (Option Told) AllocError) → TurnLeaves pid count (world_of a old) done (world_of b new) r
    → CanRun old.procs pid → IsOrdered (world_of a old) → IsOrdered (world_of b new)
turn_ordered a b pid count done old new r x can order =
    turn_has IsOrdered pid count (world_of a old) done (world_of b new) r x (λ m. turns_keep_ordered m pid (world_of a old) order (may_run a old pid can))

-- the world behind quanta that are all gone through
pub comes_to : (front : List Quantum) (old new : World) → Comes front old new → (turns front old).world ≡ new
comes_to front old new comes =
    ap (λ qs. (turns qs old).world) (sym (append-nil front)) ∙ ap (λ (v : Walk). v.world) (comes.on []) ∙ ap (λ (v : Walk). v.world) (none_left new)

-- and out of memory that of what was gone through
went_through : (qs : List Quantum) (old new : World) (x : Stops qs old new) → (turns (gone_through x) old).world ≡ new
went_through qs old new x =
    let part : Quantum = record x.quantum { count = x.done } in
    let behind : Comes (part ∷ []) x.before (turn x.done x.pid x.before).world = turn_comes part x.before x.pid x.chosen (turn x.done x.pid x.before) refl x.goes_on in
    comes_to (gone_through x) old new (comes_on x.front (part ∷ []) old x.before new x.reached (subst (Comes (part ∷ []) x.before) x.walked behind))

-- and every run what is right of the stays
pub run_keeps_stays : (qs : List Quantum) (old new : State) (r : Result Told AllocError) → IsSound (world old) → Runs qs old new r → KeepsStays qs old new r
run_keeps_stays qs old new (Ok end) sound x = λ told right. subst (AreRight (stays_along told (world old) qs)) (sym x.0) (runs_keep_stays told qs (world old) sound right)
run_keeps_stays qs old new (Err error) sound x = λ stops told right.
    subst (AreRight (stays_along told (world old) (gone_through stops))) (went_through qs (world old) (world new) stops) (runs_keep_stays told (gone_through stops) (world old) sound right)

-- ---- one after the other

-- quanta behind others
pub leaves_front : (front more : List Quantum) (old mid new : World) (r : Result (Option Told) AllocError) → Comes front old mid → Leaves more mid new r → Leaves (front ++ more) old new r
leaves_front front more old mid new (Ok None) comes x = comes_on front more old mid new comes x
leaves_front front more old mid new (Ok (Some end)) comes x = λ back.
    let same : turns ((front ++ more) ++ back) old ≡ walked comes.traces (turns (more ++ back) mid) = ap (λ qs. turns qs old) (append_assoc front more back) ∙ comes.on (more ++ back) in
    rw same (x back)
leaves_front front more old mid new (Err error) comes x = record {
  front = front ++ x.front;
  quantum = x.quantum;
  back = x.back;
  are = ap (λ qs. front ++ qs) x.are ∙ sym (append_assoc front x.front (x.quantum ∷ x.back));
  before = x.before;
  reached = comes_on front x.front old mid x.before comes x.reached;
  pid = x.pid;
  chosen = x.chosen;
  done = x.done;
  less = x.less;
  walked = x.walked;
  goes_on = x.goes_on;
  still = x.still;
}

-- a run that has ended, with other quanta behind
pub leaves_ended : (front more : List Quantum) (old new : World) (end : Told) → Leaves front old new (Ok (Some end)) → Leaves (front ++ more) old new (Ok (Some end))
leaves_ended front more old new end x = λ back. rw (append_assoc front more back) (x (more ++ back))

pub leaves_failed : (front more : List Quantum) (old new : World) (error : AllocError) → Leaves front old new (Err error) → Leaves (front ++ more) old new (Err error)
leaves_failed front more old new error x = record {
  front = x.front;
  quantum = x.quantum;
  back = x.back ++ more;
  are = ap (λ qs. qs ++ more) x.are ∙ append_assoc x.front (x.quantum ∷ x.back) more;
  before = x.before;
  reached = x.reached;
  pid = x.pid;
  chosen = x.chosen;
  done = x.done;
  less = x.less;
  walked = x.walked;
  goes_on = x.goes_on;
  still = x.still;
}

-- ---- the quantum of number i

module _ (qs : List Quantum) (i : ℕ) (d : Quantum) (less : i < length qs) where
  pub next_is : take (i + 1) qs ≡ take i qs ++ (get_or qs i d ∷ [])
  next_is = let one : i + 1 ≡ suc i = omega arith in ap (λ n. take n qs) one ∙ take-suc qs i d less

  pub all_are : qs ≡ (take i qs ++ (get_or qs i d ∷ [])) ++ drop (i + 1) qs
  all_are = sym (take-append-drop (i + 1) qs) ∙ ap (λ rs. rs ++ drop (i + 1) qs) next_is

  module _ (old mid new : World) (comes : Comes (take i qs) old mid) where
    pub round_on : Leaves (get_or qs i d ∷ []) mid new (Ok None) → Comes (take (i + 1) qs) old new
    round_on x = subst (λ rs. Comes rs old new) (sym next_is) (comes_on (take i qs) (get_or qs i d ∷ []) old mid new comes x)

    pub round_ends : (end : Told) → Leaves (get_or qs i d ∷ []) mid new (Ok (Some end)) → Leaves qs old new (Ok (Some end))
    round_ends end x =
        subst (λ rs. Leaves rs old new (Ok (Some end))) (sym all_are)
        (leaves_ended (take i qs ++ (get_or qs i d ∷ [])) (drop (i + 1) qs) old new end
        (leaves_front (take i qs) (get_or qs i d ∷ []) old mid new (Ok (Some end)) comes x))

    pub round_fails : (r : Result (Option Told) AllocError) → IsErr r → Stops (get_or qs i d ∷ []) mid new → Leaves qs old new r
    round_fails (Ok end) is x = absurd cc
    round_fails (Err error) is x =
        subst (λ rs. Stops rs old new) (sym all_are)
        (leaves_failed (take i qs ++ (get_or qs i d ∷ [])) (drop (i + 1) qs) old new error
        (leaves_front (take i qs) (get_or qs i d ∷ []) old mid new (Err error) comes x))

-- ---- the quanta so many times

pub once : (qs : List Quantum) → repeated 1 qs ≡ qs
once qs = append-nil qs

pub repeated_more : (n : ℕ) (qs : List Quantum) → repeated (n + 1) qs ≡ repeated n qs ++ qs
repeated_more zero qs = let one : 0 + 1 ≡ 1 = omega arith in ap (λ m. repeated m qs) one ∙ append-nil qs
repeated_more (suc n) qs =
    let sum : suc n + 1 ≡ suc (n + 1) = omega arith in
    ap (λ m. repeated m qs) sum ∙ ap (λ rs. qs ++ rs) (repeated_more n qs) ∙ sym (append_assoc qs (repeated n qs) qs)

-- what one time more takes
pub time_fits : (i count sum : ℕ) → i < count → i * sum + sum ≤ count * sum
time_fits i count sum less = let more : i + 1 ≤ count = omega arith in omega (arith, mul-le-mul_left sum more)

pub one_more_time : (i sum : ℕ) → (i + 1) * sum ≡ i * sum + sum
one_more_time i sum = omega arith

-- up to the time of this number, and those behind it
pub repeated_parts : (i n : ℕ) (qs : List Quantum) → repeated (i + n) qs ≡ repeated i qs ++ repeated n qs
repeated_parts zero n qs = let sum : 0 + n ≡ n = omega arith in ap (λ m. repeated m qs) sum
repeated_parts (suc i) n qs =
    let sum : suc i + n ≡ suc (i + n) = omega arith in
    ap (λ m. repeated m qs) sum ∙ ap (λ rs. qs ++ rs) (repeated_parts i n qs) ∙ sym (append_assoc qs (repeated i qs) (repeated n qs))

-- in the time of number i
module _ (qs : List Quantum) (i count : ℕ) (less : i < count) where
  pub split : repeated count qs ≡ (repeated i qs ++ qs) ++ repeated (count - (i + 1)) qs
  split =
      let sum : count ≡ (i + 1) + (count - (i + 1)) = omega arith in
      ap (λ m. repeated m qs) sum ∙ repeated_parts (i + 1) (count - (i + 1)) qs ∙ ap (λ rs. rs ++ repeated (count - (i + 1)) qs) (repeated_more i qs)

  module _ (old mid new : World) (comes : Comes (repeated i qs) old mid) where
    pub time_on : Leaves qs mid new (Ok None) → Comes (repeated (i + 1) qs) old new
    time_on x = subst (λ rs. Comes rs old new) (sym (repeated_more i qs)) (comes_on (repeated i qs) qs old mid new comes x)

    pub time_ends : (end : Told) → Leaves qs mid new (Ok (Some end)) → (new ≡ (turns (repeated count qs) old).world) × Ends (turns (repeated count qs) old).end end
    time_ends end x =
        let all = leaves_front (repeated i qs) qs old mid new (Ok (Some end)) comes x in
        let here = all (repeated (count - (i + 1)) qs) in
        rw split (sym here.0, here.1)

    pub time_fails : Stops qs mid new → Stops (repeated count qs) old new
    time_fails x =
        subst (λ rs. Stops rs old new) (sym split)
        (leaves_failed (repeated i qs ++ qs) (repeated (count - (i + 1)) qs) old new alloc_error
        (leaves_front (repeated i qs) qs old mid new (Err alloc_error) comes x))

-- behind the last quantum
all_comes : (qs : List Quantum) (old new : World) (end : Told) → Comes qs old new → Ends (turns [] new).end end → (new ≡ (turns qs old).world) × Ends (turns qs old).end end
all_comes qs old new end comes last =
    let same : turns qs old ≡ walked comes.traces (turns [] new) = ap (λ rs. turns rs old) (sym (append-nil qs)) ∙ comes.on [] in
    let world : (turns [] new).world ≡ new = ap (λ (v : Walk). v.world) (none_left new) in
    rw same (sym world, last)

pub runs_fail : (qs : List Quantum) (old new : State) (r : Result Told AllocError) → IsErr r → Stops qs (world old) (world new) → Runs qs old new r
runs_fail qs old new (Ok end) is x = absurd cc
runs_fail qs old new (Err error) is x = x

pub machine_ends : (qs : List Quantum) (old : World) (new seen : State) (end : Told) → seen ≡ new → Comes qs old (world new) → Ends (turns [] (world seen)).end end
    → (world new ≡ (turns qs old).world) × Ends (turns qs old).end end
machine_ends qs old new seen end same comes last = all_comes qs old (world new) end comes (subst (λ (s : State). Ends (turns [] (world s)).end end) same last)
