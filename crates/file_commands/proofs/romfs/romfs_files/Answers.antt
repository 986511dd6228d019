-- The lines make a tree, or one is refused.
use Rattle.file_commands.proofs.MadeImages.{makes_tree, refuses_tree}
use Rattle.file_commands.proofs.romfs.romfs_files.Goals as goal

pub returns-in-Ok : goal.returns-in-Ok
returns-in-Ok g c = makes_tree _ _ _ _ _ _ _ c.in-Ok.ensures.brought c.store_tree.ensures

pub returns-in-Err : goal.returns-in-Err
returns-in-Err g c = rw c.answer.ensures (refuses_tree _ _ _ _ _ c.in-Err.refusal c.in-Err.ensures.brought c.refuse_line.ensures)

pub store_tree-requires-clause-names : goal.store_tree-requires-clause-names
store_tree-requires-clause-names g c = c.in-Ok.ensures.names c.requires.paths
