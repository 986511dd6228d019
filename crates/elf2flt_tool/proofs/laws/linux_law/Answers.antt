use Rattle.elf2flt_tool.proofs.Loads.{linux_law}
use Rattle.elf2flt_tool.proofs.laws.linux_law.Goals as goal

pub returns : goal.returns
returns c = linux_law
