use Rattle.linux_loader.proofs.Returns.{flat_files_load}
use Rattle.linux_loader.proofs.laws.flat_files_load.Goals as goal

pub returns : goal.returns
returns c = flat_files_load
