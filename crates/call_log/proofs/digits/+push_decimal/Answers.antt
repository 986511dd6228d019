-- The last digit behind the others.
use Rattle.std.proofs.Common.{ap, ◌∙◌, ◌++◌, ◌∷◌, [], ◌+◌, ◌%◌}
use Rattle.call_log.proofs.DigitLemmas.{one_digit, one_more}
use Rattle.call_log.proofs.digits.+push_decimal.Goals as goal
use Rattle.call_log.proofs.digits.+push_decimal.Goals.{then-number-ge10+in_ok-push_decimal, else-number-ge10}

pub returns : goal.returns
returns t c =
    let old = c.args.text.now.items in
    let text = c.push.new.self.items in
    elim c.if-number-ge10.branch [
      | then-number-ge10+in_ok-push_decimal w ↦ one_more c.args.number old c.if-number-ge10.text.items text w.if-number-ge10.true c.ranges.number.fits (ap (λ v. v.items) w.text-is ∙ w.in_ok-push_decimal.ensures) c.in_ok-push.ensures.items
      | else-number-ge10 w ↦ one_digit c.args.number old text w.if-number-ge10.false (c.in_ok-push.ensures.items ∙ ap (λ v. v.items ++ (48 + c.args.number % 10) ∷ []) w.text-is)
    ]
