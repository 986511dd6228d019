-- The counts of n entries are at most n.
use Rattle.std.proofs.Common.{ℕ, zero, suc, ◌+◌, ◌^◌, ◌<◌, ◌≤◌, ◌==◌, Bool, true, false, List, if◌then◌else◌, arith}
use Rattle.psabi_relocs.specs.declared.row.Row.{Row}
use Rattle.psabi_relocs.specs.declared.row.Row.TheVariants.{Group}
use Rattle.psabi_relocs.specs.declared.row.Width.{Width}
use Rattle.psabi_relocs.specs.declared.row.Step.{Step}
use Rattle.psabi_relocs.specs.declared.row.Step.TheVariants.{Add, Sub, Set}
use Rattle.psabi_relocs.specs.declared.group.Sum.{Sum}
use Rattle.psabi_relocs.specs.Class.{is_moving}
use Rattle.psabi_relocs.specs.Row.{is_same}
use Rattle.psabi_relocs.specs.Reloc.{reloc}
use Rattle.psabi_relocs.specs.Group.{stepped, row_step, sum_below}
use Rattle.psabi_relocs.specs.Sums.{CanStep}

-- both counts are at most n
record IsUpTo (n : ℕ) (s : Sum) : Type 0 where
  plus : s.plus ≤ n
  minus : s.minus ≤ n

raised : (n : ℕ) (s : Sum) → IsUpTo n s → IsUpTo (suc n) s
raised n s h = record { plus = omega arith; minus = omega arith }

one_step : (n : ℕ) (step : Step) (moves : Bool) (s : Sum) → IsUpTo n s → IsUpTo (suc n) (stepped step moves s)
one_step n Add true s h = record { plus = omega arith; minus = omega arith }
one_step n Add false s h = record { plus = omega arith; minus = omega arith }
one_step n Sub true s h = record { plus = omega arith; minus = omega arith }
one_step n Sub false s h = record { plus = omega arith; minus = omega arith }
one_step n Set true s h = record { plus = omega arith; minus = omega arith }
one_step n Set false s h = record { plus = omega arith; minus = omega arith }

-- a step that is taken or not
one_if : (n : ℕ) (b : Bool) (new s : Sum) → IsUpTo n s → IsUpTo (suc n) new → IsUpTo (suc n) (if b then new else s)
one_if n true new s h k = k
one_if n false new s h k = raised n s h

one_row : (n : ℕ) (width : Width) (row : Row) (moves : Bool) (s : Sum) → IsUpTo n s → IsUpTo (suc n) (row_step width row moves s)
one_row n width (Group own step) moves s h = one_if n (is_same own width) (stepped step moves s) s h (one_step n step moves s h)
one_row n width _ moves s h = raised n s h

up_to : (e : List ℕ) (i q : ℕ) (width : Width) (n : ℕ) → IsUpTo n (sum_below e i q width n)
unfolding sum_below
up_to e i q width zero = record { plus = omega arith; minus = omega arith }
up_to e i q width (suc n) =
    let h = up_to e i q width n in
    let r = reloc e i n in
    one_if n (r.place == q) (row_step width r.row (is_moving r.class) (sum_below e i q width n)) (sum_below e i q width n) h
    (one_row n width r.row (is_moving r.class) (sum_below e i q width n) h)

-- so the counts of fewer than 2^32 - 1 entries can take one more
pub can_step : (e : List ℕ) (i q : ℕ) (width : Width) (n : ℕ) → n + 1 < 2 ^ 32 → CanStep (sum_below e i q width n)
can_step e i q width n few = let h = up_to e i q width n in (omega arith, omega arith)
