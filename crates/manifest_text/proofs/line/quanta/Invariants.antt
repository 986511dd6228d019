-- The quanta so far.
use Rattle.std.proofs.Common.{◌≡◌, true, take, map}
use Rattle.std.specs.List.{list_all}
use Rattle.manifest_text.specs.Numbers.{is_quantum, quantum_value}
use Rattle.manifest_text.specs.Values.{texts}
use Rattle.manifest_text.proofs.line.quanta.Given as goal

abbrev pub invariant-loop-word : goal.invariant-loop-word
invariant-loop-word l = record {
  all : list_all is_quantum (texts (take l.word-index l.words)) ≡ true;
  quanta : l.quanta.items ≡ map quantum_value (texts (take l.word-index l.words));
}
