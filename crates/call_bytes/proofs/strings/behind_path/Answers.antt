-- Behind a path that is too long nothing was read.
use Rattle.call_bytes.proofs.StringLists.{none_behind}
use Rattle.call_bytes.proofs.strings.behind_path.Goals as goal

pub returns-in-None : goal.returns-in-None
returns-in-None c = none_behind c.args.sent.now c.in-None.ensures
