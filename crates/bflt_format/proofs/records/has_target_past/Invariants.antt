use Rattle.std.proofs.Common.{◌≡◌, false}
use Rattle.byte_words.specs.Search.{any_below}
use Rattle.bflt_format.specs.Fault.{targets_past}
use Rattle.bflt_format.proofs.records.has_target_past.Given as goal

abbrev pub invariant-loop-record : goal.invariant-loop-record
invariant-loop-record l = any_below (targets_past l.size l.body l.records) l.record-index ≡ false
