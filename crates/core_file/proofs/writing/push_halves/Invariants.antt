use Rattle.std.proofs.Common.{◌≡◌, ◌++◌, take}
use Rattle.core_file.specs.Text.{halves_text}
use Rattle.core_file.proofs.writing.push_halves.Given as goal

abbrev pub invariant-loop-half : goal.invariant-loop-half
invariant-loop-half l = l.out.items ≡ l.fn.out.items ++ halves_text (take l.half-index l.halves)
