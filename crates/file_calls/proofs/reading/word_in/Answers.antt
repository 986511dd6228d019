-- The four bytes are those of the number.
use Rattle.std.proofs.Common.{ℕ, ap, arith, add-zero}
use Rattle.std.specs.Prelude.{slice_index}
use Rattle.std.proofs.lemmas.List.{get_or-drop}
use Rattle.byte_words.specs.Numbers.{number_at}
use Rattle.file_calls.proofs.reading.word_in.Goals as goal

pub returns : goal.returns
unfolding number_at
returns c =
    let here = λ (k : ℕ). get_or-drop c.args.at c.args.bytes.now k 0 in
    omega (arith, here 0, here 1, here 2, here 3, ap (slice_index c.args.bytes.now) (add-zero c.args.at))
