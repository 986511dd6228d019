use Rattle.call_bytes.proofs.Limit.{reads_up_to_most}
use Rattle.call_bytes.proofs.laws.strings_law.Goals as goal

pub returns : goal.returns
returns c = reads_up_to_most
