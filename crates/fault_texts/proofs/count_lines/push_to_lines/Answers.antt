-- Each count is of a symbol of the file.
use Rattle.std.proofs.lemmas.Option.{slice_get-get_or}
use Rattle.fault_texts.proofs.count_lines.push_to_lines.Goals as goal

pub push_to_line-requires : goal.push_to_line-requires
push_to_line-requires c = c.requires c.loop-count.count-index _ (slice_get-get_or c.args.counts.now c.loop-count.count-index _ c.loop-count-test.true)
