-- The entry of a fault is one of the file.
use Rattle.fault_texts.proofs.InFile.{entry_there}
use Rattle.fault_texts.proofs.subjects.in_subjects.Goals as goal

pub in_subject-requires-clause-kept : goal.in_subject-requires-clause-kept
in_subject-requires-clause-kept c =
    rw (c.loop-fault.invariant.same)
    (entry_there c.args.sights.now c.args.found.now c.loop-fault.fault-index _ c.in-Some.entry.section c.in-Some.entry.index c.requires c.loop-fault-test.true c.in-Some.ensures).0

pub in_subject-requires-clause-entry : goal.in_subject-requires-clause-entry
in_subject-requires-clause-entry c =
    rw (c.loop-fault.invariant.same)
    (entry_there c.args.sights.now c.args.found.now c.loop-fault.fault-index _ c.in-Some.entry.section c.in-Some.entry.index c.requires c.loop-fault-test.true c.in-Some.ensures).1
