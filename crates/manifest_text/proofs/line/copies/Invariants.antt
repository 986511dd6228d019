-- The copies so far.
use Rattle.std.proofs.Common.{◌≡◌, take}
use Rattle.manifest_text.specs.Values.{texts, vec_texts}
use Rattle.manifest_text.proofs.line.copies.Given as goal

abbrev pub invariant-loop-word : goal.invariant-loop-word
invariant-loop-word l = vec_texts l.copies.items ≡ texts (take l.word-index l.words)
