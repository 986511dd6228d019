use Rattle.std.proofs.Common.{take}
use Rattle.romfs_image.specs.Code.{found, HasFiles}
use Rattle.romfs_image.proofs.links.files_of.Given as goal

abbrev pub invariant-loop-entry : goal.invariant-loop-entry
invariant-loop-entry l = HasFiles l.files (found (take l.entry-index l.entries))
