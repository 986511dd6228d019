-- There are hardly more lines than bytes.
use Rattle.std.proofs.Common.{length, sym, ap, ◌∙◌, arith}
use Rattle.std.proofs.lemmas.List.{length-map}
use Rattle.manifest_text.proofs.Cutting.{pieces_length}
use Rattle.manifest_text.proofs.reading.read_draft.Goals as goal

pub read_lines-requires : goal.read_lines-requires
read_lines-requires c =
    let lines = ap length c.deref.ensures.value in
    let said = sym (length-map c.in_ok-lines.lines.items (λ s. s.now)) ∙ ap length c.in_ok-lines.ensures in
    omega (arith, lines, said, pieces_length 10 c.args.bytes.now, c.if-bytes.false)
