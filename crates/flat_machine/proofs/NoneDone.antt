-- Where no instruction was carried out the parts are as they were.
use Rattle.std.proofs.Common.{◌≡◌, ℕ, zero, suc, ◌+◌, ◌-◌, ◌^◌, Bool, true, false, not, List, [], ◌∷◌, length, Some, None, refl, sym, ap, subst, ◌∙◌, arith}
use Rattle.std.specs.Prelude.{nat_le, slice_get, if◌then◌else◌}
use Rattle.std.proofs.lemmas.Bool.{false≢true}
use Rattle.std.proofs.lemmas.Bool.Decides.{nat_tests}
use Rattle.std.proofs.lemmas.Option.{same_Some}
use Rattle.byte_words.specs.ByteMap.{Bytes}
use Rattle.rv32im_step.specs.declared.regs.Regs.{Regs}
use Rattle.rv32im_step.specs.declared.stop.Stop.{Stop}
use Rattle.rv32im_step.specs.Meaning.{Meaning, next, call, trap, refused, meaning}
use Rattle.mmap_rules.specs.declared.page_owner.PageOwner.{PageOwner}
use Rattle.mmap_rules.specs.Owners.{owns}
use Rattle.mmap_rules.specs.Space.{own_in, writable_in}
use Rattle.mmap_rules.specs.Held.{Held}
use Rattle.region_watch.specs.declared.mode.Mode.{Mode}
use Rattle.region_watch.specs.Private.{only, physical, own_bytes, frozen, passes, passed_bytes, kept_bytes}
use Rattle.region_watch.specs.Instructions.{Ran, ran, goes_on, instructions}
use Rattle.region_watch.proofs.Accesses.{own_writable}
use Rattle.vfork_exec.specs.declared.entry.Entry.{Entry}
use Rattle.vfork_exec.specs.Procs.{Listed, value_at, with_value, with_value_at}
use Rattle.vfork_exec.specs.Procs.{pid_of as entry_pid}
use Rattle.machine_world.specs.Recordings.{is_recorded, raised_in}
use Rattle.machine_world.proofs.Raised.{raised_none}
use Rattle.machine_world.proofs.States.{change_same}
use Rattle.kept_parts.specs.declared.task.Task.{Task}
use Rattle.kept_parts.specs.Kept.{Kept}
use Rattle.flat_machine.proofs.Passed.{as_table, owned_ran, owned_frozen}
use Rattle.flat_machine.proofs.Advanced.{after, entered}

-- ---- the registers and the bytes

none_ran : (n : ℕ) (w : ℕ → Bool) (regs now_regs : Regs) (m now : Bytes) (stop : Stop) → ran now_regs now 0 stop ≡ instructions n w regs m → (now_regs ≡ regs) × (now ≡ m)
unfolding instructions
none_ran zero w regs now_regs m now stop is = (ap (λ (r : Ran). r.regs) is, ap (λ (r : Ran). r.bytes) is)
none_ran (suc n) w regs now_regs m now stop is = by (meaning regs m w) is
  where
    by : (x : Meaning) → ran now_regs now 0 stop ≡ goes_on regs m (λ after_regs after_bytes. instructions n w after_regs after_bytes) x → (now_regs ≡ regs) × (now ≡ m)
    by (next after_regs after_bytes) is =
        let none : 0 ≡ (instructions n w after_regs after_bytes).done + 1 = ap (λ (r : Ran). r.done) is in
        absurd (omega (arith, none))
    by call is = (ap (λ (r : Ran). r.regs) is, ap (λ (r : Ran). r.bytes) is)
    by (trap signal) is = (ap (λ (r : Ran). r.regs) is, ap (λ (r : Ran). r.bytes) is)
    by (refused access) is = (ap (λ (r : Ran). r.regs) is, ap (λ (r : Ran). r.bytes) is)

-- ---- memory

-- a list is its items
same_items : (xs ys : List ℕ) → ((i : ℕ) → slice_get xs i ≡ slice_get ys i) → xs ≡ ys
same_items [] [] each = refl
same_items [] (y ∷ ys) each = let other : None ≡ Some y = each 0 in absurd cc
same_items (x ∷ xs) [] each = let other : Some x ≡ None = each 0 in absurd cc
same_items (x ∷ xs) (y ∷ ys) each =
    let first : x ≡ y = same_Some x y (each 0) in
    let rest : xs ≡ ys = same_items xs ys (λ i. each (suc i)) in
    λ i. first i ∷ rest i

-- the item at a place is the byte at its address
placed : (mem : List ℕ) (i : ℕ) → physical mem (2 ^ 31 + i) ≡ slice_get mem i
placed mem i =
    let low : nat_le (2 ^ 31) (2 ^ 31 + i) ≡ true = grind (arith, nat_tests) in
    let place : 2 ^ 31 + i - 2 ^ 31 ≡ i = omega arith in
    rw (low, place) refl

-- what may be written is own, and what may not is frozen
module _ (table : List PageOwner) (now was : List ℕ) (own : own_bytes table now ≡ own_bytes table was) (rest : frozen table now ≡ frozen table was) where
  same_byte : (a : ℕ) → physical now a ≡ physical was a
  unfolding only
  same_byte a = by (owns table true a) (owns table false a) (own_writable table false a) (ap (λ (m : Bytes). m a) own) (ap (λ (m : Bytes). m a) rest)
    where
      by : (writes reads : Bool) → (writes ≡ true → reads ≡ true) → (if reads then physical now a else None) ≡ (if reads then physical was a else None)
          → (if not writes then physical now a else None) ≡ (if not writes then physical was a else None) → physical now a ≡ physical was a
      by false reads within here frozen = frozen
      by true true within here frozen = here
      by true false within here frozen = absurd (false≢true (within refl))

  same_memory : now ≡ was
  same_memory = same_items now was (λ i. sym (placed now i) ∙ same_byte (2 ^ 31 + i) ∙ placed was i)

-- ---- the parts

value_kept : (s : Listed Task) (pid : ℕ) (task : Task) → value_at s pid ≡ Some task → with_value_at s pid task ≡ s
value_kept s pid task is =
    let e = entered s pid task is in
    ap (λ (entries : List (Entry Task)). record s { entries = entries })
    (change_same entry_pid pid (λ (x : Entry Task). with_value x task) s.entries e.entry e.there (ap (λ (t : Task). with_value e.entry t) (sym e.value)))

none_done_owned : (k : Kept) (pid count : ℕ) (task : Task) (table : List PageOwner) (was now : List ℕ) (regs : Regs) (done : ℕ) (stop : Stop) → value_at k.procs pid ≡ Some task → was ≡ k.mem
    → ran regs (own_bytes table now) done stop ≡ instructions count (owns table true) task.regs (own_bytes table was) → frozen table now ≡ frozen table was → done ≡ 0
    → after k pid task regs now done ≡ k
none_done_owned k pid count task table was now regs done stop is before leaves rest none =
    let same = none_ran count (owns table true) task.regs regs (own_bytes table was) (own_bytes table now) stop
    (subst (λ (n : ℕ). ran regs (own_bytes table now) n stop ≡ instructions count (owns table true) task.regs (own_bytes table was)) none leaves) in
    let mem : now ≡ k.mem = same_memory table now was same.1 rest ∙ before in
    let procs : with_value_at k.procs pid (record task { regs = regs }) ≡ k.procs =
    ap (λ (r : Regs). with_value_at k.procs pid (record task { regs = r })) same.0 ∙ value_kept k.procs pid task is in
    let events : raised_in k.recording task.space done ≡ k.recording.events =
    ap (raised_in k.recording task.space) none ∙ raised_none (is_recorded k.recording task.space) k.recording.events in
    λ i. record k { mem = mem i; procs = procs i; recording = record k.recording { events = events i } }

pub none_done : (reach : Mode) (k : Kept) (pid count : ℕ) (task : Task) (h : Held) (mode : Mode) (table seen : List PageOwner) (was now : List ℕ) (regs : Regs) (done : ℕ) (stop : Stop)
    → value_at k.procs pid ≡ Some task → owns table false ≡ own_in h.maps → owns table true ≡ writable_in h.maps → mode ≡ reach → seen ≡ table → was ≡ k.mem
    → ran regs (passed_bytes mode seen now) done stop ≡ instructions count (passes mode seen true) task.regs (passed_bytes mode seen was)
    → kept_bytes mode seen now ≡ kept_bytes mode seen was → done ≡ 0 → after k pid task regs now done ≡ k
none_done reach k pid count task h mode table seen was now regs done stop is own writes within sees before leaves rest none =
    let passed = as_table reach (length table) h mode table within (record { reads = own; writes = writes; long = refl }) in
    none_done_owned k pid count task passed.table was now regs done stop is before
    (owned_ran reach (length table) h mode table passed was now count task.regs regs done stop (rw sees at leaves))
    (owned_frozen reach (length table) h mode table passed was now (rw sees at rest)) none
