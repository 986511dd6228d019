use Rattle.std.proofs.Common.{◌≡◌, false}
use Rattle.byte_words.specs.Search.{any_below}
use Rattle.bflt_format.specs.Fault.{passes_data}
use Rattle.bflt_format.proofs.records.has_record_past.Given as goal

abbrev pub invariant-loop-record : goal.invariant-loop-record
invariant-loop-record l = any_below (passes_data l.stored l.records) l.record-index ≡ false
