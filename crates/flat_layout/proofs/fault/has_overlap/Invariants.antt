use Rattle.std.proofs.Common.{◌≡◌, false}
use Rattle.byte_words.specs.Search.{any_below}
use Rattle.flat_layout.specs.Fault.{meets_below}
use Rattle.flat_layout.proofs.fault.has_overlap.Given as goal

abbrev pub invariant-loop-index : goal.invariant-loop-index
invariant-loop-index l = any_below (meets_below l.elf) l.index ≡ false
