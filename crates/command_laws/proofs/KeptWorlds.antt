-- Whose space a world records stays the same along a run, and each event is one event more at most.
use Rattle.std.proofs.Common.{◌≡◌, ℕ, zero, suc, ◌+◌, ◌*◌, ◌≤◌, Bool, true, false, List, [], ◌∷◌, ◌++◌, Option, Some, None, arith}
use Rattle.std.specs.Prelude.{sum_by, if◌then◌else◌}
use Rattle.std.proofs.Math.Nat.{suc-mul}
use Rattle.std.proofs.lemmas.List.Sums.{sum_by-cons, sum_by-append}
use Rattle.quantum_sched.specs.declared.Quantum.{Quantum}
use Rattle.quantum_sched.specs.Picked.{picked}
use Rattle.mmap_rules.specs.Space.{Space}
use Rattle.machine_world.specs.World.{Process, Rest, World}
use Rattle.machine_world.specs.Asks.{Ask, Row, replies, waits}
use Rattle.machine_world.specs.Families.{ready_pids}
use Rattle.machine_world.specs.Event.{Trace, Outcome, went, strays, full, idle, ended, ask_of, event}
use Rattle.machine_world.specs.Turns.{Walk, End, remains_at, traced, turned, turn, going_on, quantum_turn, turns}
use Rattle.machine_world.specs.Rows.{row}
use Rattle.machine_world.proofs.EachChange.{Answers}
use Rattle.machine_world.proofs.ByEvents.{Answered, Happened, Keeps, Went, by_event, by_turns}
use Rattle.flat_machine.specs.Runs.{repeated}

-- nothing is said of what a row leaves outside of the space
abbrev Any : Rest → Type 0
Any rest = Unit {0}

any_row : (r : Row) → Answers Any r
any_row (replies r) = tt
any_row (waits state) = tt

-- ---- whose space is recorded

module _ (k : ℕ) where
  abbrev Records : World → Type 0
  Records w = w.recording.keep ≡ k

  module _ (w : World) (h : Records w) where
    call_records : (a : Ask) → Answered (λ now t. Records now) Any w a
    unfolding ended
    call_records a = record {
      reply = λ ended r m same room. h;
      wait = λ state. h;
      exit = λ room. h;
      fork = λ few room. h;
      load = λ f s page is fits room. h;
    }

    act_records : (p : Process) (s : Space) → Happened (λ now t. Records now) Any w p s
    unfolding ended
    act_records p s = record { step = λ regs bytes. h; trap = λ signal. h; calls = λ bytes. call_records (ask_of w p s bytes) }

    event_records : (pid : ℕ) → Keeps Records (event w pid)
    event_records pid =
        by_event (λ now t. Records now) Any (λ now t kept. kept) w tt pid (λ p s lives has. act_records p s.space)
        (λ p s bytes. any_row (row (ask_of w p s bytes)))

  pub keep_stays : (quanta : List Quantum) (w : World) → w.recording.keep ≡ k → (turns quanta w).world.recording.keep ≡ k
  keep_stays quanta w h = by_turns Records (λ v pid holds. event_records v holds pid) (λ v pid access holds. holds) quanta w h

-- ---- events

module _ (w : World) where
  abbrev OneMore : World → Trace → Type 0
  OneMore now t = now.events ≤ w.events + 1

  one : w.events + 1 ≤ w.events + 1
  one = omega arith

  call_adds : (a : Ask) → Answered OneMore Any w a
  unfolding ended
  call_adds a = record {
    reply = λ ended r m same room. one;
    wait = λ state. one;
    exit = λ room. one;
    fork = λ few room. one;
    load = λ f s page is fits room. one;
  }

  act_adds : (p : Process) (s : Space) → Happened OneMore Any w p s
  unfolding ended
  act_adds p s = record { step = λ regs bytes. one; trap = λ signal. one; calls = λ bytes. call_adds (ask_of w p s bytes) }

  event_adds : (pid : ℕ) → Went OneMore (event w pid)
  event_adds pid = by_event OneMore Any (λ now t kept. kept) w tt pid (λ p s lives has. act_adds p s.space) (λ p s bytes. any_row (row (ask_of w p s bytes)))

  none_more : (n : ℕ) → w.events ≤ w.events + n
  none_more n = omega arith

turn_adds : (count pid : ℕ) (w : World) → (turn count pid w).world.events ≤ w.events + count
unfolding turn
turn_adds zero pid w = none_more w 0
turn_adds (suc count) pid w = by (λ v. turn_adds count pid v) (event w pid) (event_adds w pid)
  where
    by : ((v : World) → (turn count pid v).world.events ≤ v.events + count) → (o : Outcome) → Went (OneMore w) o → (turned (turn count pid) w pid o).world.events ≤ w.events + suc count
    by rest (went now t) h = over t.over
      where
        over : (b : Bool) → (traced t (if b then remains_at now None else turn count pid now)).world.events ≤ w.events + suc count
        over true = let most : now.events ≤ w.events + suc count = omega (arith, h) in most
        over false = let more = rest now in let most : (turn count pid now).world.events ≤ w.events + suc count = omega (arith, h, more) in most
    by rest (strays access) h = none_more w (suc count)
    by rest full h = none_more w (suc count)
    by rest idle h = none_more w (suc count)

abbrev pub counts : List Quantum → ℕ
counts quanta = sum_by (λ q. q.count) quanta

turns_add : (quanta : List Quantum) (w : World) → (turns quanta w).world.events ≤ w.events + counts quanta
unfolding turns
turns_add [] w = none_more w (counts [])
turns_add (q ∷ qs) w = by (λ v. turns_add qs v) (picked q.pick (ready_pids w.procs))
  where
    sum : counts (q ∷ qs) ≡ q.count + counts qs
    sum = sum_by-cons (λ (x : Quantum). x.count) q qs

    by : ((v : World) → (turns qs v).world.events ≤ v.events + counts qs) → (chosen : Option ℕ) → (quantum_turn (turns qs) w q.count chosen).world.events ≤ w.events + counts (q ∷ qs)
    by rest None = none_more w (counts (q ∷ qs))
    by rest (Some pid) = goes (turn q.count pid w) (turn_adds q.count pid w)
      where
        goes : (walk : Walk) → walk.world.events ≤ w.events + q.count → (going_on (turns qs) walk).world.events ≤ w.events + counts (q ∷ qs)
        goes walk less = at walk.end
          where
            at : (end : Option End) → (going_on (turns qs) (record walk { end = end })).world.events ≤ w.events + counts (q ∷ qs)
            at (Some end) = let most : walk.world.events ≤ w.events + counts (q ∷ qs) = omega (arith, less, sum) in most
            at None =
                let more = rest walk.world in
                let most : (turns qs walk.world).world.events ≤ w.events + counts (q ∷ qs) = omega (arith, less, more, sum) in
                most

counts_repeated : (n : ℕ) (quanta : List Quantum) → counts (repeated n quanta) ≡ n * counts quanta
counts_repeated zero quanta = omega arith
counts_repeated (suc n) quanta =
    let split : counts (quanta ++ repeated n quanta) ≡ counts quanta + counts (repeated n quanta) = sum_by-append (λ (q : Quantum). q.count) quanta (repeated n quanta) in
    let again = counts_repeated n quanta in
    omega (arith, split, again, suc-mul n (counts quanta))

pub events_most : (n : ℕ) (quanta : List Quantum) (w : World) → (turns (repeated n quanta) w).world.events ≤ w.events + n * counts quanta
events_most n quanta w = let most = turns_add (repeated n quanta) w in let is = counts_repeated n quanta in omega (arith, most, is)
