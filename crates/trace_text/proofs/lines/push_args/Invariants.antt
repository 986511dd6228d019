-- The arguments so far.
use Rattle.std.proofs.Common.{◌≡◌, ◌++◌, take}
use Rattle.trace_text.specs.Lines.{arg_texts, separated}
use Rattle.trace_text.proofs.lines.push_args.Given as goal

abbrev pub invariant-loop-index : goal.invariant-loop-index
invariant-loop-index l = l.text.items ≡ l.fn.text.items ++ separated (take l.index (arg_texts l.forms l.args l.sent))
