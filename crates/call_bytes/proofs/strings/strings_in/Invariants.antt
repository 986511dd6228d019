-- What was parsed and what is left give the whole.
use Rattle.std.proofs.Common.{length}
use Rattle.flat_loader.specs.Frame.{texts}
use Rattle.call_bytes.proofs.StringLists.{ListSoFar}
use Rattle.call_bytes.proofs.strings.strings_in.Given as goal

abbrev pub invariant-loop-rest : goal.invariant-loop-rest
invariant-loop-rest l = ListSoFar l.bytes l.rest (texts l.strings.items)

abbrev pub decreases-loop-rest : goal.decreases-loop-rest
decreases-loop-rest l = length l.rest
