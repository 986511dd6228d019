-- How instructions end, and what the event behind them leaves.
use Rattle.std.proofs.Common.{◌≡◌, ℕ, zero, suc, ◌<◌, Bool, true, false, List, [], ◌∷◌, Some, None, refl, sym, ap, subst, ◌∙◌, arith}
use Rattle.std.specs.Prelude.{Result, Ok, Err, if◌then◌else◌}
use Rattle.byte_words.specs.ByteMap.{Bytes}
use Rattle.rv32im_step.specs.declared.regs.Regs.{Regs}
use Rattle.rv32im_step.specs.declared.stop.Stop.{Stop}
use Rattle.rv32im_step.specs.declared.stop.Stop.TheVariants.{Next, Call, Trap, Refused}
use Rattle.rv32im_step.specs.Meaning.{Meaning, next, call, trap, refused, meaning}
use Rattle.call_log.specs.Sent.{Span, sent}
use Rattle.region_watch.specs.declared.instructions.Progress.{Progress}
use Rattle.region_watch.specs.Instructions.{Ran, goes_on, one_more, instructions}
use Rattle.flat_loader.specs.Alone.{Runner, OwnMemory, Solo, Item, writable_of, number_of, args_of, put_got, is_call, with_items, solo_put, solo_called, solo_moved, solo_top, solo_step}
use Rattle.replay_check.specs.Answers.{put_own, with_put, told, told_by, answered, answered_on, answered_over}
use Rattle.replay_check.specs.Solos.{moved, Runs, without_top}

-- ---- how instructions end

abbrev Stopped : (ℕ → Bool) → (most : ℕ) → Ran → Stop → Type 0
Stopped w most r Next = r.done ≡ most
Stopped w most r Call = (r.done < most) × (meaning r.regs r.bytes w ≡ call)
Stopped w most r (Trap signal) = (r.done < most) × (meaning r.regs r.bytes w ≡ trap signal)
Stopped w most r (Refused access) = (r.done < most) × (meaning r.regs r.bytes w ≡ refused access)

later : (w : ℕ → Bool) (most : ℕ) (r : Ran) (stop : Stop) → Stopped w most r stop → Stopped w (suc most) (one_more r) stop
later w most r Next is = (let all : r.done ≡ most = is in omega (arith, all))
later w most r Call is = (let less = is.0 in (omega (arith, less), is.1))
later w most r (Trap signal) is = (let less = is.0 in (omega (arith, less), is.1))
later w most r (Refused access) is = (let less = is.0 in (omega (arith, less), is.1))

stopped : (most : ℕ) (w : ℕ → Bool) (regs : Regs) (m : Bytes) → Stopped w most (instructions most w regs m) (instructions most w regs m).stop
unfolding instructions
stopped zero w regs m = refl
stopped (suc n) w regs m = first (meaning regs m w) refl (λ after now. stopped n w after now)
  where
    first : (x : Meaning) → meaning regs m w ≡ x → ((a : Regs) (b : Bytes) → Stopped w n (instructions n w a b) (instructions n w a b).stop) → Stopped w (suc n) (goes_on regs m (λ after now. instructions n w after now) x) (goes_on regs m (λ after now. instructions n w after now) x).stop
    first (next after now) is more = later w n (instructions n w after now) (instructions n w after now).stop (more after now)
    first call is more = (omega arith, is)
    first (trap signal) is more = (omega arith, is)
    first (refused access) is more = (omega arith, is)

-- ---- the process that runs stands so

pub record Means (s : Solo) (x : Meaning) : Type 0 where
  pub top : Runner
  pub below : List Runner
  pub stack : s.stack ≡ top ∷ below
  pub is : meaning top.regs s.memory.bytes (writable_of s.memory.ranges) ≡ x

abbrev pub Stands : Solo → (most done : ℕ) → Stop → Type 0
Stands s most done Next = done ≡ most
Stands s most done Call = (done < most) × Means s call
Stands s most done (Trap signal) = (done < most) × Means s (trap signal)
Stands s most done (Refused access) = (done < most) × Means s (refused access)

pub stands : (most : ℕ) (old new : Solo) (p : Progress) → Runs most old new p → Stands new most p.done p.stop
stands most old new p r =
    let w = writable_of old.memory.ranges in
    let x = instructions most w r.top.regs old.memory.bytes in
    subst (λ (s : Solo). Stands s most p.done p.stop) (sym r.new_is)
    (subst (λ (stop : Stop). Stands (moved r.top r.below old.memory x) most p.done stop) (sym r.stop)
    (subst (λ (n : ℕ). Stands (moved r.top r.below old.memory x) most n x.stop) (sym r.done) (by x x.stop (stopped most w r.top.regs old.memory.bytes))))
  where
    means : (x : Ran) (y : Meaning) → meaning x.regs x.bytes (writable_of old.memory.ranges) ≡ y → Means (moved r.top r.below old.memory x) y
    means x y is = record { top = record r.top { regs = x.regs }; below = r.below; stack = refl; is = is }

    by : (x : Ran) (stop : Stop) → Stopped (writable_of old.memory.ranges) most x stop → Stands (moved r.top r.below old.memory x) most x.done stop
    by x Next is = is
    by x Call is = (is.0, means x call is.1)
    by x (Trap signal) is = (is.0, means x (trap signal) is.1)
    by x (Refused access) is = (is.0, means x (refused access) is.1)

-- ---- the event behind them

pub step_is : (s : Solo) (x : Meaning) (m : Means s x) (items : List Item) → solo_step s items ≡ solo_moved m.top m.below s.memory items x
unfolding solo_step
step_is s x m items = ap (solo_top s.memory items) m.stack ∙ ap (solo_moved m.top m.below s.memory items) m.is

pub nobody_steps : (s : Solo) (items : List Item) → s.stack ≡ [] → solo_step s items ≡ None
unfolding solo_step
nobody_steps s items none = ap (solo_top s.memory items) none

pub refused_steps : (s : Solo) (access : _) → Means s (refused access) → (items : List Item) → solo_step s items ≡ None
refused_steps s access m items = step_is s (refused access) m items

pub trap_steps : (s new : Solo) (signal : _) → Means s (trap signal) → new ≡ record s { stack = without_top s.stack } → (items : List Item) → solo_step s items ≡ Some (new, items)
trap_steps s new signal m is items =
    step_is s (trap signal) m items
    ∙ (λ i. Some (record { stack = without_top (sym m.stack i); memory = s.memory }, items))
    ∙ (λ i. Some (sym is i, items))

none_called : (top : Runner) (below : List Runner) (m : OwnMemory) (o : Result (List ℕ) Span) → solo_called top below m [] o ≡ None
none_called top below m (Ok bytes) = refl
none_called top below m (Err span) = refl

-- without an item
pub missing_steps : (s : Solo) → Means s call → solo_step s [] ≡ None
missing_steps s m = step_is s call m [] ∙ none_called m.top m.below s.memory (sent (number_of m.top.regs) (args_of m.top.regs) s.memory.bytes)

put_called : (top : Runner) (below : List Runner) (m : OwnMemory) (i : Item) (rest : List Item) → with_items rest (solo_put top below m i (put_got m.bytes (writable_of m.ranges) i.entry.got)) ≡ with_items rest (answered_over top below i (put_own m i.entry.got))
unfolding put_own
put_called top below m i rest = put (put_got m.bytes (writable_of m.ranges) i.entry.got)
  where
    put : (o : Result Bytes Span) → with_items rest (solo_put top below m i o) ≡ with_items rest (answered_over top below i (with_put m o))
    put (Ok now) = refl
    put (Err span) = refl

called : (top : Runner) (below : List Runner) (m : OwnMemory) (i : Item) (rest : List Item) (o : Result (List ℕ) Span)
    → solo_called top below m (i ∷ rest) o ≡ with_items rest (answered_over top below i (told_by top m i.entry o))
called top below m i rest (Err span) = refl
called top below m i rest (Ok bytes) = by (is_call top bytes i.entry)
  where
    by : (b : Bool) → (if b then with_items rest (solo_put top below m i (put_got m.bytes (writable_of m.ranges) i.entry.got)) else None)
        ≡ with_items rest (answered_over top below i (if b then put_own m i.entry.got else None))
    by true = put_called top below m i rest
    by false = refl

-- with one
pub answer_steps : (s : Solo) → Means s call → (i : Item) (rest : List Item) → solo_step s (i ∷ rest) ≡ with_items rest (answered s i)
unfolding answered told
answer_steps s m i rest =
    step_is s call m (i ∷ rest)
    ∙ called m.top m.below s.memory i rest (sent (number_of m.top.regs) (args_of m.top.regs) s.memory.bytes)
    ∙ ap (λ (l : List Runner). with_items rest (answered_on s.memory i l)) (sym m.stack)
