use Rattle.std.proofs.Common.{[], ◌∷◌, ◌++◌, append_assoc}
use Rattle.elf2flt_tool.specs.Cover.{IsCover}
use Rattle.elf2flt_tool.proofs.found.note_spans.Goals as goal

pub returns-in_ok-add-2 : goal.returns-in_ok-add-2
returns-in_ok-add-2 c = λ n ss is.
    let one = c.in_ok-add.ensures.cover n ss is in
    let two : IsCover c.args.layout.now n ((ss ++ c.args.spans.now.own ∷ []) ++ c.in-Some.slot ∷ []) c.add-in-Some.new.self =
    c.in_ok-add-2.ensures.cover n (ss ++ c.args.spans.now.own ∷ []) one in
    rw c.in-Some.is (rw append_assoc at two)

pub returns-in_default : goal.returns-in_default
returns-in_default c = λ n ss is. rw c.in_default.is (c.in_ok-add.ensures.cover n ss is)
