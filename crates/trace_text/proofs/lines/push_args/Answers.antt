-- One more argument behind a separator.
use Rattle.std.proofs.Common.{List, ℕ, ◌++◌, get_or, take, sym, ap, ◌∙◌, append_assoc, arith}
use Rattle.std.proofs.lemmas.List.{take_all}
use Rattle.trace_text.specs.declared.form.Form.TheVariants.{Decimal}
use Rattle.trace_text.specs.Lines.{arg_text, arg_texts, separator, separated}
use Rattle.trace_text.proofs.Arguments.{length-arg_texts, args_more}
use Rattle.trace_text.proofs.lines.push_args.Goals as goal

pub loop-index-preserved : goal.loop-index-preserved
loop-index-preserved c =
    let old = c.args.text.now.items in
    let forms = c.args.forms.now in
    let args = c.args.args.now in
    let sent = c.args.sent.now in
    let i = c.loop-index.index in
    let front = separated (take i (arg_texts forms args sent)) in
    let text = arg_text (get_or forms i Decimal) (get_or args i 0) sent in
    c.in_ok-push_arg.ensures ∙ ap (λ (before : List ℕ). before ++ text) c.in_ok-push_separator.ensures
    ∙ ap (λ (before : List ℕ). before ++ separator i ++ text) c.loop-index.invariant
    ∙ ap (λ (before : List ℕ). before ++ text) (append_assoc old front (separator i)) ∙ append_assoc old (front ++ separator i) text
    ∙ ap (λ (all : List ℕ). old ++ all) (sym (args_more forms args sent i Decimal c.requires c.loop-index-test.true))

pub returns : goal.returns
returns c =
    let old = c.args.text.now.items in
    let forms = c.args.forms.now in
    let args = c.args.args.now in
    let sent = c.args.sent.now in
    c.loop-index.invariant
    ∙ ap (λ (texts : List (List ℕ)). old ++ separated texts) (take_all c.loop-index.index (arg_texts forms args sent) (omega (arith, length-arg_texts forms args sent c.requires)))
