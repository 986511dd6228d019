use Rattle.std.proofs.Common.{◌++◌, ◌∷◌, [], append_assoc, ap, ◌∙◌}
use Rattle.std.proofs.lemmas.Result.{on_ok_weaker}
use Rattle.core_file.specs.Text.{words_text}
use Rattle.core_file.proofs.writing.push_registers.Goals as goal

pub returns : goal.returns
returns c =
    let rest = words_text c.split_at.result.1.now in
    let pc = words_text (c.args.regs.now.pc ∷ []) in
    on_ok_weaker c.push_words-2.result (λ written.
    written ∙ ap (λ o. o ++ rest) c.in_ok-push_words.ensures ∙ append_assoc c.args.out.now.items pc rest
    ∙ ap (λ xs. c.args.out.now.items ++ (pc ++ words_text xs)) c.split_at.ensures.back) c.push_words-2.ensures
