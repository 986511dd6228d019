use Rattle.bflt_format.proofs.Returns as returned
use Rattle.bflt_format.proofs.laws.spells_come_back.Goals as goal

pub returns-clause-there : goal.returns-clause-there
returns-clause-there c = returned.spells_come_back

pub returns-clause-back : goal.returns-clause-back
returns-clause-back c = returned.come_back_spells
