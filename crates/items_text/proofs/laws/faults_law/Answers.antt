-- One line after the other is the same.
use Rattle.items_text.proofs.OneFault.{one_fault}
use Rattle.items_text.proofs.laws.faults_law.Goals as goal

pub returns : goal.returns
returns c = one_fault
