use Rattle.romfs_image.proofs.Steps as steps
use Rattle.romfs_image.proofs.laws.steps_suffice.Goals as goal

pub returns : goal.returns
returns c = steps.steps_suffice
