use Rattle.std.proofs.Common.{sym, ◌∙◌}
use Rattle.romfs_image.specs.Code.{entry_value}
use Rattle.romfs_image.proofs.Names.{files_new, files_same}
use Rattle.romfs_image.proofs.links.add_file.Goals as goal

pub returns-in_ok-insert : goal.returns-in_ok-insert
returns-in_ok-insert c = λ entries has. files_new _ _ entries (entry_value c.args.entry.now) c.in_ok-insert.ensures.updates (sym c.is_file.ensures ∙ c.if-is_file.true) has

pub returns-else-is_file : goal.returns-else-is_file
returns-else-is_file c = λ entries has. files_same _ entries (entry_value c.args.entry.now) (sym c.is_file.ensures ∙ c.if-is_file.false) has
