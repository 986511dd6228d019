-- At most as many as there are.
use Rattle.std.proofs.Common.{ℕ, ap, ◌∙◌, take}
use Rattle.std.proofs.lemmas.List.{take_min}
use Rattle.fault_texts.specs.Names.{most_shown}
use Rattle.fault_texts.proofs.names.start_of.Goals as goal

pub returns : goal.returns
returns c = let name = c.args.name.now in c.split_at.ensures.front ∙ ap (λ (n : ℕ). take n name) c.min.ensures ∙ take_min most_shown name
