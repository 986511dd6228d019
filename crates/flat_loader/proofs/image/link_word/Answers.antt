use Rattle.std.proofs.Common.{◌∙◌, slice_index, ap, arith}
use Rattle.flat_loader.proofs.Pictures.{link_laid, link_left}
use Rattle.flat_loader.proofs.image.link_word.Goals as goal

pub returns-then-number-ne0-clause-bytes : goal.returns-then-number-ne0-clause-bytes
returns-then-number-ne0-clause-bytes c =
    ap slice_index c.set32.ensures
    ∙ link_laid c.args.mem.now c.args.body.now c.args.base c.args.place c.big_word-number.result (omega arith) (omega arith) c.big_word-number.ensures c.if-number-ne0.true c.requires.target

pub returns-else-number-ne0-clause-bytes : goal.returns-else-number-ne0-clause-bytes
returns-else-number-ne0-clause-bytes c =
    link_left (slice_index c.args.mem.now) c.args.body.now c.args.base c.args.place c.big_word-number.result c.big_word-number.ensures c.if-number-ne0.false
