-- Whether there is a first one.
use Rattle.std.proofs.Common.{map, sym, ap, ◌∙◌}
use Rattle.std.specs.Prelude.{is_some}
use Rattle.call_log.specs.Values.{note_value}
use Rattle.kept_parts.proofs.Common.NotedStrays.{stray_first}
use Rattle.kept_parts.proofs.reach.has_stray.Goals as goal

pub returns : goal.returns
returns c = c.is_some.ensures ∙ ap is_some c.first_stray.ensures ∙ sym (stray_first (map note_value c.args.notes.now))
