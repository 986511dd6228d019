-- What the loop has seen is held.
use Rattle.items_text.specs.Items.{AreBytes}
use Rattle.suite_top.proofs.Each.{OfFirst}
use Rattle.suite_top.proofs.held.strings_are_bytes.Given as goal

abbrev pub invariant-loop-string : goal.invariant-loop-string
invariant-loop-string l = OfFirst (λ string. string.items) AreBytes l.string-index l.fn.strings
