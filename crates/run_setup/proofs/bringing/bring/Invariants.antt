-- What is left gives what all lines give.
use Rattle.std.proofs.Common.{map, length}
use Rattle.manifest_text.specs.Values.{item_value, vec_texts}
use Rattle.run_setup.specs.Making.{BroughtSoFar}
use Rattle.run_setup.proofs.bringing.bring.Given as goal

abbrev pub invariant-loop-item : goal.invariant-loop-item
invariant-loop-item l = BroughtSoFar (map item_value l.items) (vec_texts l.fn.files.items) l.run (length l.yielded)
