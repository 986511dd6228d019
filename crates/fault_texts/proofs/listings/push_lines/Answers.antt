-- Each fault is one of the file.
use Rattle.fault_texts.proofs.InFile.{read_there}
use Rattle.fault_texts.proofs.listings.push_lines.Goals as goal

pub push_line-requires : goal.push_line-requires
push_line-requires c = read_there c.loop-fault.sights c.args.sights.now c.args.found.now c.loop-fault.fault-index _ c.loop-fault.invariant.same c.requires c.loop-fault-test.true
