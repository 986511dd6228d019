-- What an image says: its files and folders in the order of the walk.
use Rattle.std.specs.Prelude.{ℕ, Bool, List}
use Rattle.romfs_image.specs.declared.node.RomKind.{RomKind}

pub record RomValue : Type 0 where
  -- the number of the folder that has it: 0 for the root, else that of the folder among the nodes, from 1
  pub parent : ℕ
  pub name : List ℕ
  pub kind : RomKind
  -- a file's
  pub bytes : List ℕ
  pub exec : Bool
