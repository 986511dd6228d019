-- A look-up gives only nodes that are there, since each change keeps the tree.
use Rattle.std.specs.Prelude.{ℕ, ◌≡◌, Bool, true, List, length, Option, Some, is_some, Result, Ok}
use Rattle.call_log.specs.declared.errno.Errno.{Errno}
use Rattle.mem_files.specs.Inodes.{Inodes, inode_at, opening}
use Rattle.mem_files.specs.Paths.{lookup}
use Rattle.mem_files.specs.Changes.{held, let_go, written, truncated, with_folder, with_file, unlinked}
use Rattle.mem_files.specs.Trees.{is_named, IsTree, AreNamedAndClosed}

-- what a path leads to is there, and a folder names it
abbrev pub LookupsFindNodes : Type 0
LookupsFindNodes =
    (ns : Inodes) (path : List ℕ) (id : ℕ) → IsTree ns → lookup ns path ≡ Ok (Some id) →
    (is_some (inode_at ns id) ≡ true) × (is_named ns id ≡ true)

-- a new file is there, under the number behind the last one
abbrev pub NewFilesAreThere : Type 0
NewFilesAreThere =
    (ns : Inodes) (path bytes : List ℕ) (program : Option ℕ) (new : Inodes) → with_file ns path bytes program ≡ Ok new →
    is_some (inode_at new (length ns)) ≡ true

-- ---- changes

abbrev pub KeepsTree : (Inodes → Result Inodes Errno) → Type 0
KeepsTree change = (ns new : Inodes) → IsTree ns → change ns ≡ Ok new → IsTree new

pub record ChangesKeepTree : Type 0 where
  pub begins : IsTree opening
  pub folder : (path : List ℕ) → KeepsTree (λ ns. with_folder ns path)
  pub file : (path bytes : List ℕ) (program : Option ℕ) → KeepsTree (λ ns. with_file ns path bytes program)
  pub unlink : (path : List ℕ) (dir : Bool) → KeepsTree (λ ns. unlinked ns path dir)
  pub write : (id at : ℕ) (bytes : List ℕ) → KeepsTree (λ ns. written ns id at bytes)
  pub truncate : (id : ℕ) → KeepsTree (λ ns. Ok (truncated ns id))
  pub hold : (id : ℕ) → KeepsTree (λ ns. Ok (held ns id))
  pub let_go : (id : ℕ) → KeepsTree (λ ns. Ok (let_go ns id))

-- ---- what is made, and not opened

abbrev pub KeepsClosed : (Inodes → Result Inodes Errno) → Type 0
KeepsClosed change = (ns new : Inodes) → AreNamedAndClosed ns → change ns ≡ Ok new → AreNamedAndClosed new

pub record MakingOpensNothing : Type 0 where
  pub begins : AreNamedAndClosed opening
  pub folder : (path : List ℕ) → KeepsClosed (λ ns. with_folder ns path)
  pub file : (path bytes : List ℕ) (program : Option ℕ) → KeepsClosed (λ ns. with_file ns path bytes program)
