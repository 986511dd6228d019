-- The lines so far.
use Rattle.std.proofs.Common.{◌≡◌, ◌++◌, take}
use Rattle.std.specs.List.{flat_map}
use Rattle.fault_texts.specs.Lines.{fault_line}
use Rattle.fault_texts.proofs.listings.push_lines.Given as goal

abbrev pub invariant-loop-fault : goal.invariant-loop-fault
invariant-loop-fault l = record {
  same : l.sights ≡ l.fn.sights;
  told : l.text.items ≡ l.fn.text.items ++ flat_map (fault_line l.fn.sights) (take l.fault-index l.found);
}
