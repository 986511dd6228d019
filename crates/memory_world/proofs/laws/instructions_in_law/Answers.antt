use Rattle.memory_world.proofs.StepsIn.{own_instructions_lead, whole_instructions_lead}
use Rattle.memory_world.proofs.laws.instructions_in_law.Goals as goal

pub returns-clause-own : goal.returns-clause-own
returns-clause-own c = own_instructions_lead

pub returns-clause-whole : goal.returns-clause-whole
returns-clause-whole c = whole_instructions_lead
