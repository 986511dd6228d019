-- Each fault is one of a section header.
use Rattle.std.proofs.lemmas.Option.{slice_get-get_or}
use Rattle.fault_texts.proofs.listings.push_head_lines.Goals as goal

pub push_found_head-requires : goal.push_found_head-requires
push_found_head-requires c = c.requires c.loop-fault.fault-index _ (slice_get-get_or c.args.found.now c.loop-fault.fault-index _ c.loop-fault-test.true)
