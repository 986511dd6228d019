-- Those so far.
use Rattle.std.proofs.Common.{◌≡◌, take}
use Rattle.fault_texts.specs.Kinds.{number_of}
use Rattle.fault_texts.proofs.kinds.count_of.Given as goal

abbrev pub invariant-loop-fault : goal.invariant-loop-fault
invariant-loop-fault l = l.count ≡ number_of (take l.fault-index l.faults) l.kind
