use Rattle.std.proofs.Common.{◌≡◌, true, false, length, replicate, refl, sym, ap, ◌∙◌, arith, rules}
use Rattle.std.proofs.lemmas.Bool.{or_from}
use Rattle.std.proofs.lemmas.List.{length-replicate}
use Rattle.byte_words.specs.Search.{any_below}
use Rattle.bflt_format.specs.Fault.{meets_earlier}
use Rattle.byte_words.proofs.Searches.{any_below_found, any_below_next}
use Rattle.bflt_format.proofs.Overlap.{meets_by_marks, no_marks, marks_more}
use Rattle.bflt_format.proofs.records.has_overlap.Goals as goal

pub loop-record-init : goal.loop-record-init
unfolding any_below
loop-record-init c =
    let zeros : c.as_mut_slice-covered.result.now ≡ replicate c.args.stored 0 = c.as_mut_slice-covered.ensures.value ∙ search rules in
    (ap length zeros ∙ length-replicate c.args.stored 0, refl, rw zeros (no_marks c.args.stored c.args.records.now))

pub returns-then-is_covered : goal.returns-then-is_covered
returns-then-is_covered c =
    let met = meets_by_marks c.loop-record.covered c.args.records.now c.loop-record.record-index c.loop-record.invariant.2 in
    let here : meets_earlier c.args.records.now c.loop-record.record-index ≡ true = cc in
    sym (any_below_found (meets_earlier c.args.records.now) (length c.args.records.now) c.loop-record.record-index (omega arith) here)

pub loop-record-preserved : goal.loop-record-preserved
loop-record-preserved c =
    let met = meets_by_marks c.loop-record.covered c.args.records.now c.loop-record.record-index c.loop-record.invariant.2 in
    let here : meets_earlier c.args.records.now c.loop-record.record-index ≡ false = cc in (
      omega arith,
      any_below_next (meets_earlier c.args.records.now) c.loop-record.record-index ∙ or_from (any_below (meets_earlier c.args.records.now) c.loop-record.record-index) (meets_earlier c.args.records.now c.loop-record.record-index) c.loop-record.invariant.1 here,
      rw c.cover.ensures (marks_more c.loop-record.covered c.args.records.now c.loop-record.record-index c.loop-record.invariant.2 (let inside = c.requires c.loop-record.record-index c.loop-record-test.true in omega arith)),
    )
