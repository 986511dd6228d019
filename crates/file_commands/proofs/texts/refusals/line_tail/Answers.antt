-- Nothing stands behind the last word.
use Rattle.std.proofs.lemmas.List.{append-nil}
use Rattle.file_commands.proofs.texts.refusals.line_tail.Goals as goal

pub returns-clause-tail : goal.returns-clause-tail
returns-clause-tail c = rw (← c.in_ok-words.ensures.words, append-nil) c.format.ensures.ok
