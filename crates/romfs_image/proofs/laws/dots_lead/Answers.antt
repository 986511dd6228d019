use Rattle.romfs_image.proofs.Dots as dots
use Rattle.romfs_image.proofs.laws.dots_lead.Goals as goal

pub returns : goal.returns
returns c = dots.dots_lead
