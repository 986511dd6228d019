use Rattle.elf2flt_tool.proofs.ImageLaw.{image_law}
use Rattle.elf2flt_tool.proofs.laws.image_law.Goals as goal

pub returns : goal.returns
returns c = image_law
