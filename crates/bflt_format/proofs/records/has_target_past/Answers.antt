use Rattle.std.proofs.Common.{length, refl, sym, arith}
use Rattle.std.proofs.lemmas.Bool.{lt-ltb}
use Rattle.byte_words.specs.Search.{any_below}
use Rattle.bflt_format.specs.Fault.{targets_past}
use Rattle.byte_words.proofs.Searches.{any_below_found}
use Rattle.bflt_format.proofs.records.has_target_past.Goals as goal

pub loop-record-init : goal.loop-record-init
unfolding any_below
loop-record-init c = refl

pub returns-then-big_word-size : goal.returns-then-big_word-size
unfolding targets_past
returns-then-big_word-size c =
    sym (any_below_found (targets_past c.args.size c.args.body.now c.args.records.now) (length c.args.records.now) c.loop-record.record-index (omega arith) (lt-ltb _ _ (omega arith)))
