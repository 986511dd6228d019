-- What was read and what is left give the whole.
use Rattle.region_watch.specs.Private.{own_bytes}
use Rattle.call_bytes.proofs.ReadStrings.{StringSoFar}
use Rattle.call_bytes.proofs.reading.add_string.Given as goal

abbrev pub invariant-loop-i : goal.invariant-loop-i
invariant-loop-i l = StringSoFar (own_bytes l.owners l.mem) l.at l.fn.left l.fn.into.items l.i l.left l.into.items
