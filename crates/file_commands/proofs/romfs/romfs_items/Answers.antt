-- All files are there.
use Rattle.file_commands.proofs.MadeImages.{makes_files}
use Rattle.file_commands.proofs.romfs.romfs_items.Goals as goal

pub returns-in-Ok : goal.returns-in-Ok
returns-in-Ok g c = makes_files _ _ _ _ _ _ _ c.in-Ok.ensures c.romfs_files.ensures

pub returns-in-Err : goal.returns-in-Err
returns-in-Err g c = rw c.answer.ensures (c.in-Err.ensures _)
