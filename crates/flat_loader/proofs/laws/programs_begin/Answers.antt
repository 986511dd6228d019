use Rattle.flat_loader.proofs.Begun as begun
use Rattle.flat_loader.proofs.laws.programs_begin.Goals as goal

pub returns : goal.returns
returns c = begun.programs_begin
