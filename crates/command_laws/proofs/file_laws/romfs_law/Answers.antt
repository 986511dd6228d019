-- Each law by its proof over plain values.
use Rattle.command_laws.proofs.RomfsLaws.{romfs_changes_one_file, romfs_is_done, romfs_is_refused, romfs_completes}
use Rattle.command_laws.proofs.file_laws.romfs_law.Goals as goal

pub returns : goal.returns
returns c = record { files = romfs_changes_one_file; done = romfs_is_done; refused = romfs_is_refused; complete = romfs_completes }
