use Rattle.std.proofs.Common.{length, refl, sym, arith}
use Rattle.std.proofs.lemmas.Bool.{lt-ltb}
use Rattle.byte_words.specs.Search.{any_below}
use Rattle.bflt_format.specs.Fault.{passes_data}
use Rattle.byte_words.proofs.Searches.{any_below_found}
use Rattle.bflt_format.proofs.records.has_record_past.Goals as goal

pub loop-record-init : goal.loop-record-init
unfolding any_below
loop-record-init c = refl

pub returns-then-record-stored : goal.returns-then-record-stored
unfolding passes_data
returns-then-record-stored c =
    sym (any_below_found (passes_data c.args.stored c.args.records.now) (length c.args.records.now) c.loop-record.record-index (omega arith) (lt-ltb _ _ c.if-record-stored.true))
