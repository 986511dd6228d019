-- By the lines, one by one.
use Rattle.replay_laws.proofs.Files.{lines_have_files}
use Rattle.replay_laws.proofs.laws.files_law.Goals as goal

pub returns : goal.returns
returns c = lines_have_files
