-- A node that isn't kept goes.
use Rattle.std.proofs.Common.{◌∙◌, sym}
use Rattle.mem_files.proofs.Changing.{not_put}
use Rattle.mem_files.proofs.tree.Tree.put_kept.Goals as goal

pub returns-else-is_kept : goal.returns-else-is_kept
returns-else-is_kept c = not_put c.args.self.now c.args.id c.args.inode c.requires.place (sym c.is_kept.ensures ∙ c.if-is_kept.false)
