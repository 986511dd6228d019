-- The notes stand newest first.
use Rattle.std.proofs.Common.{map, sym, ap, ◌∙◌}
use Rattle.call_log.specs.Values.{note_value}
use Rattle.memory_world.specs.Physical.{has_stray}
use Rattle.kept_parts.specs.Kept.{Kept}
use Rattle.kept_parts.proofs.Common.NotedStrays.{stray_reversed}
use Rattle.kept_parts.proofs.kept.KeptParts.has_stray.Goals as goal

pub returns : goal.returns
returns c =
    c.has_stray.ensures ∙ sym (stray_reversed (map note_value c.notes.result.now)) ∙ ap has_stray (sym c.notes.ensures) ∙ ap (λ (k : Kept). has_stray k.notes) c.self.view_is
