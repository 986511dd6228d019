use Rattle.std.proofs.Common.{◌≡◌, false, length}
use Rattle.byte_words.specs.Search.{any_below}
use Rattle.bflt_format.specs.Fault.{meets_earlier}
use Rattle.bflt_format.proofs.Overlap.{AreMarks}
use Rattle.bflt_format.proofs.records.has_overlap.Given as goal

abbrev pub invariant-loop-record : goal.invariant-loop-record
invariant-loop-record l =
    (length l.covered ≡ l.stored) × (any_below (meets_earlier l.records) l.record-index ≡ false) × AreMarks l.covered l.records l.record-index
