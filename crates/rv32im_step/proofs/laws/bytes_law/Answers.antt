use Rattle.rv32im_step.proofs.MeaningLaws.{keeps}
use Rattle.rv32im_step.proofs.laws.bytes_law.Goals as goal

pub returns-clause-there : goal.returns-clause-there
returns-clause-there c = λ regs after m now w is. (keeps regs after m now w is).there

pub returns-clause-unwritable : goal.returns-clause-unwritable
returns-clause-unwritable c = λ regs after m now w is. (keeps regs after m now w is).unwritable
