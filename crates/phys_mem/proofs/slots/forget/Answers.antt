-- The slots of all words were visited.
use Rattle.std.proofs.Common.{◌≡◌, ◌+◌, ◌-◌, ◌/◌, ◌≤◌, ◌⊎◌, inl, inr, arith, refl}
use Rattle.std.proofs.lemmas.Bool.{cases_lt}
use Rattle.phys_mem.proofs.AfterWrites.{all_words}
use Rattle.phys_mem.proofs.slots.forget.Goals as goal

pub returns : goal.returns
returns c = all_words c.args.at c.args.len _ c.loop-i.i _ _ (omega (arith, c.if-len-eq0.false)) refl visited c.loop-i.invariant
  where
    visited : (c.loop-i.i ≡ (c.args.at + c.args.len - 1) / 4 - c.args.at / 4 + 1) ⊎ (16384 ≤ c.loop-i.i)
    visited = elim (cases_lt c.loop-i.i 16384) [
      | inl less ↦ inl (omega (arith, c.min-i-end.ensures, c.loop-i-test.false, c.loop-i.auto))
      | inr many ↦ inr (omega (arith))
    ]
