use Rattle.std.proofs.Common.{sym}
use Rattle.kept_parts.proofs.Common.FreePages.{free_is}
use Rattle.kept_parts.proofs.laws.free_runs_law.Goals as goal

pub returns : goal.returns
returns c = λ a k regular. sym (free_is a k regular)
