use Rattle.std.proofs.Common.{length}
use Rattle.std.proofs.lemmas.Bool.{ltb-false}
use Rattle.bflt_format.specs.Fault.{passes_data}
use Rattle.byte_words.proofs.Searches.{any_below_none}
use Rattle.bflt_format.proofs.records.record_fault_of.Goals as goal

pub has_overlap-requires : goal.has_overlap-requires
unfolding passes_data
has_overlap-requires c = λ k lt. ltb-false _ _ (any_below_none (passes_data (length c.args.body.now) c.args.records.now) (length c.args.records.now) k (cc) lt)

pub has_target_past-requires : goal.has_target_past-requires
unfolding passes_data
has_target_past-requires c = λ k lt. ltb-false _ _ (any_below_none (passes_data (length c.args.body.now) c.args.records.now) (length c.args.records.now) k (cc) lt)
