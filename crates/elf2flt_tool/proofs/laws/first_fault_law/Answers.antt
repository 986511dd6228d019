use Rattle.elf2flt_tool.proofs.AllFaults.{first_fault}
use Rattle.elf2flt_tool.proofs.laws.first_fault_law.Goals as goal

pub returns : goal.returns
returns c = first_fault
