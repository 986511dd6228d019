-- The last of those before it tells.
use Rattle.std.proofs.Common.{◌-◌, ◌<◌, length, ap, not, sym, arith}
use Rattle.std.proofs.lemmas.Option.{slice_get_within}
use Rattle.fault_texts.proofs.Counting.{new_last}
use Rattle.fault_texts.proofs.counts.is_new.Goals as goal

pub returns-in-Some : goal.returns-in-Some
returns-in-Some c =
    let ss = c.args.before.now in
    let last = c.in-Some.last.now in
    let inside = slice_get_within ss (length ss - 1) last (sym c.in-Some.ensures.value) in
    let some : 0 < length ss = omega arith in
    ap not (rw (c.order.ensures, c.order-in-Some.ensures) (new_last ss c.args.subject last c.requires.ascending c.requires.subject some c.in-Some.ensures.item.1))
