use Rattle.std.proofs.Common.{sym, ◌∙◌, ap}
use Rattle.host_io.proofs.CallSet.{contains-keys}
use Rattle.host_io.specs.Calls.{is_failing}
use Rattle.host_io.proofs.calls.Calls.is_failing.Goals as goal

pub returns : goal.returns
returns c = c.contains.ensures ∙ sym (contains-keys c.self.inside.failing c.self.inside.made) ∙ ap is_failing c.self.view_is
