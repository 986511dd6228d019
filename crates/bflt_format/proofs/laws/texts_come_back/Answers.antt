use Rattle.bflt_format.proofs.Returns as returned
use Rattle.bflt_format.proofs.laws.texts_come_back.Goals as goal

pub returns : goal.returns
returns c = returned.texts_come_back
