use Rattle.std.proofs.Common.{◌==◌, ◌∙◌, ap, take}
use Rattle.std.specs.List.{before_first}
use Rattle.elf32_reader.proofs.Starts.{start_is}
use Rattle.elf32_reader.proofs.symbol.start_before_zero.Goals as goal

pub returns : goal.returns
returns c = c.before_zero.ensures ∙ ap (before_first (λ b. b == 0)) (c.split_at.ensures.front ∙ ap (λ k. take k c.args.text.now) c.min.ensures) ∙ start_is (λ b. b == 0) c.args.limit c.args.text.now
