-- The numbers are those of the file, and nothing stands behind the last one.
use Rattle.std.proofs.lemmas.List.{append-nil}
use Rattle.file_commands.proofs.texts.parts_text.Goals as goal

pub returns : goal.returns
returns c = rw (← c.text-text.ensures.value, ← c.data_len-data_len.ensures.value, ← c.bss-bss.ensures.value, append-nil) (c.format.ensures.ok)
