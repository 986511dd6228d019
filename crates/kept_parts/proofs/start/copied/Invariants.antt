-- As many copies are there as strings were gone over.
use Rattle.std.proofs.Common.{◌≡◌, take}
use Rattle.flat_loader.specs.Frame.{texts}
use Rattle.kept_parts.proofs.start.copied.Given as goal

abbrev pub invariant-loop-string : goal.invariant-loop-string
invariant-loop-string l = texts l.copies.items ≡ take l.string-index (texts l.strings)
