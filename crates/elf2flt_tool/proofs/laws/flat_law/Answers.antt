use Rattle.elf2flt_tool.proofs.ImageLaw.{flat_law}
use Rattle.elf2flt_tool.proofs.laws.flat_law.Goals as goal

pub returns : goal.returns
returns c = flat_law
