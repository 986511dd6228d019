-- Those of the entries so far.
use Rattle.std.proofs.Common.{◌≡◌, map, take}
use Rattle.fault_texts.specs.Listing.{to_subject, faulty_entries}
use Rattle.fault_texts.proofs.subjects.to_subjects.Given as goal

abbrev pub invariant-loop-fault : goal.invariant-loop-fault
invariant-loop-fault l = record {
  same : l.sights ≡ l.fn.sights;
  told : l.subjects.items ≡ map (to_subject l.fn.sights) (faulty_entries (take l.fault-index l.found));
}
