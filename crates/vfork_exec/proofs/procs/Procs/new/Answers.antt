-- None lives, and there is room.
use Rattle.std.proofs.Common.{List, [], sym, subst, arith}
use Rattle.vfork_exec.specs.declared.family.Ended.{Ended}
use Rattle.vfork_exec.specs.declared.entry.Entry.{Entry}
use Rattle.vfork_exec.proofs.Holds.{Holds, holds_none}
use Rattle.vfork_exec.proofs.procs.Procs.new.Goals as goal

pub invariant_of-result : goal.invariant_of-result
invariant_of-result g c =
    let ended = c.in_ok-ended.ended.items in
    let none : Holds {P = g.row.P.Denot} (record { entries = []; ended = ended; next_pid = 1 }) =
    subst (λ (es : List Ended). Holds {P = g.row.P.Denot} (record { entries = []; ended = es; next_pid = 1 })) (sym c.in_ok-ended.ensures.items) (holds_none g.row.P.Denot 1) in
    let h = subst (λ (es : List (Entry g.row.P.Denot)). Holds (record { entries = es; ended = ended; next_pid = 1 })) (sym c.in_ok-with_capacity.ensures.items) none in
    (h.0, h.1, omega (arith, c.in_ok-with_capacity.ensures.exact), omega (arith, c.in_ok-ended.ensures.exact))
