-- At most as many as there are.
use Rattle.std.proofs.Common.{ℕ, ap, ◌∙◌, take}
use Rattle.std.proofs.lemmas.List.{take_min}
use Rattle.fault_texts.specs.Listing.{most_lines}
use Rattle.fault_texts.proofs.listings.written.Goals as goal

pub returns : goal.returns
returns g c = let items = c.args.items.now in c.split_at.ensures.front ∙ ap (λ (n : ℕ). take n items) c.min.ensures ∙ take_min most_lines items
