-- At most as many as there are.
use Rattle.std.proofs.Common.{ℕ, ap, ◌∙◌, take}
use Rattle.std.proofs.lemmas.List.{take_min}
use Rattle.trace_text.specs.Lines.{most_shown}
use Rattle.trace_text.proofs.lines.start_of.Goals as goal

pub returns : goal.returns
returns c = let sent = c.args.sent.now in c.split_at.ensures.front ∙ ap (λ (n : ℕ). take n sent) c.min.ensures ∙ take_min most_shown sent
