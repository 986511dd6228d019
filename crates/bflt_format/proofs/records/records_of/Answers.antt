use Rattle.std.proofs.Common.{◌≡◌, length, drop, refl, ◌∙◌, arith}
use Rattle.std.proofs.lemmas.List.{take_at}
use Rattle.bflt_format.proofs.BigWords.{numbers_of_part}
use Rattle.bflt_format.proofs.records.records_of.Goals as goal

pub returns : goal.returns
returns c =
    let numbers = c.read_u32_into.new.dst in
    let count = c.big_word-count.result in
    let len : length numbers ≡ count = omega (arith, c.in_ok-records.ensures.len) in
    let whole = take_at numbers (drop (length numbers) c.in_ok-records.records.items) c.in_ok-records.records.len (omega (arith, c.in_ok-records.ensures.len)) in
    let read = numbers_of_part c.args.bytes.now c.big_word-start.result _ count numbers len (omega arith) c.read_u32_into.ensures in
    whole ∙ read ∙ rw (c.big_word-start.ensures, c.big_word-count.ensures) refl
