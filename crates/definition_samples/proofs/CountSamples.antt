-- Open files, their counts, and counts that are wrong.
use Rattle.std.proofs.Common.{◌≡◌, ℕ, zero, suc, ◌≤◌, true, false, List, [], ◌∷◌, ◌++◌, map, length, Option, Some, None, IfSome, refl, arith}
use Rattle.std.specs.Prelude.{replicate}
use Rattle.std.proofs.lemmas.Bool.Decides.{nat_tests}
use Rattle.mem_files.specs.Inodes.{Inodes, file, folder, root, new_inode, inode_at}
use Rattle.mem_files.specs.Changes as tree
use Rattle.vfork_exec.specs.Keyed.{find}
use Rattle.fd_tables.specs.declared.open_file.OpenFile.{OpenFile}
use Rattle.fd_tables.specs.declared.open_file.Object.TheVariants.{File, PipeEnd}
use Rattle.fd_tables.specs.declared.open_file.Handle.TheVariants.{Input, Open}
use Rattle.fd_tables.specs.declared.open_file.Descriptor.{Descriptor}
use Rattle.fd_tables.specs.Files.{Table, most_descriptors, OpenFiles, at_number, table_at}
use Rattle.fd_tables.specs.Pipes.{pipe_at, pipe_view, is_closed}
use Rattle.fd_tables.specs.Counts.{shares_of, uses_in, opens_of, holds_in, ends_of, one_if, Counted}

-- ---- a file that two descriptors of one table and one of another share; a pipe whose read end alone is open; the console's input

abbrev opens : ℕ → Option Descriptor
opens n = Some (record { handle = Open n; cloexec = false })

abbrev first : Table
first = Some (record { handle = Input; cloexec = false }) ∷ opens 0 ∷ opens 0 ∷ None ∷ opens 2 ∷ replicate 27 None

abbrev second : Table
second = None ∷ opens 0 ∷ replicate 30 None

-- the file at number 0, and the pipe's end at number 2; number 1 is free
abbrev shared_by : ℕ → List (Option OpenFile)
shared_by uses =
    Some (record { object = File 2; read = true; write = false; append = false; at = 0; uses = uses })
    ∷ None
    ∷ Some (record { object = PipeEnd 1; read = true; write = false; append = false; at = 0; uses = 1 })
    ∷ []

abbrev open_by : ℕ → OpenFiles
open_by uses = record {
  stdin = [];
  files = shared_by uses;
  tables = Some first ∷ None ∷ Some second ∷ [];
  pipes = record { id = 1; bytes = 7 ∷ []; read_open = true; write_open = false } ∷ [];
  next_pipe = 2;
  changed = [];
}

-- the root, and the file, which no folder names any more
abbrev nodes : Inodes
nodes = None ∷ Some (new_inode (folder root []) None) ∷ Some (record (new_inode (file (7 ∷ [])) None) { linked = false; holds = 1 }) ∷ []

abbrev open_files : OpenFiles
open_files = open_by 3

-- ---- how many

descriptors : map (shares_of open_files) (0 ∷ 1 ∷ 2 ∷ 3 ∷ []) ≡ 3 ∷ 0 ∷ 1 ∷ 0 ∷ []
descriptors = refl

files : map (opens_of open_files) (0 ∷ 1 ∷ 2 ∷ 3 ∷ []) ≡ 0 ∷ 0 ∷ 1 ∷ 0 ∷ []
files = refl

-- read ends, and write ends
read-ends : map (λ id. ends_of open_files id false) (0 ∷ 1 ∷ 2 ∷ []) ≡ 0 ∷ 1 ∷ 0 ∷ []
read-ends = refl

write-ends : map (λ id. ends_of open_files id true) (0 ∷ 1 ∷ 2 ∷ []) ≡ 0 ∷ 0 ∷ 0 ∷ []
write-ends = refl

-- ---- all counts are exact

uses : (n : ℕ) → uses_in (at_number open_files.files n) ≡ shares_of open_files n
uses zero = refl
uses (suc zero) = refl
uses (suc (suc zero)) = refl
uses (suc (suc (suc n))) = grind (arith, nat_tests)

used : (n : ℕ) → IfSome (at_number open_files.files n) (λ f. 1 ≤ f.uses)
used zero = omega arith
used (suc zero) = tt
used (suc (suc zero)) = omega arith
used (suc (suc (suc n))) = tt

holds : (id : ℕ) → holds_in (inode_at nodes id) ≡ opens_of open_files id
holds zero = refl
holds (suc zero) = refl
holds (suc (suc zero)) = refl
holds (suc (suc (suc id))) = grind (arith, nat_tests)

stays : (id : ℕ) → IfSome (inode_at nodes id) (λ n. tree.kept n ≡ Some n)
stays zero = tt
stays (suc zero) = refl
stays (suc (suc zero)) = refl
stays (suc (suc (suc id))) = tt

whole : (t : ℕ) → IfSome (table_at open_files t) (λ table. length table ≡ most_descriptors)
whole zero = refl
whole (suc zero) = tt
whole (suc (suc zero)) = refl
whole (suc (suc (suc t))) = tt

ends : (id : ℕ) → (ends_of open_files id false ≡ one_if (pipe_view open_files id).read_open) × (ends_of open_files id true ≡ one_if (pipe_view open_files id).write_open)
unfolding pipe_view find
ends zero = (refl, refl)
ends (suc zero) = (refl, refl)
ends (suc (suc id)) = (grind (arith, nat_tests), grind (arith, nat_tests))

open-pipes : (id : ℕ) → IfSome (pipe_at open_files id) (λ p. is_closed p ≡ false)
unfolding find
open-pipes zero = tt
open-pipes (suc zero) = refl
open-pipes (suc (suc id)) = grind (arith, nat_tests)

counted : Counted (record { nodes = nodes; files = open_files })
counted = record {
  uses = uses;
  used = used;
  holds = holds;
  remains = stays;
  whole = whole;
  read_ends = λ id. (ends id).0;
  write_ends = λ id. (ends id).1;
  open_pipes = open-pipes;
  pipe_numbers = (omega arith, tt);
  few_files = omega arith;
  few_tables = omega arith;
}

-- ---- counts that are wrong

-- a file that counts two descriptors
refuted-uses : Counted (record { nodes = nodes; files = open_by 2 }) → ⊥
refuted-uses c = let is : 2 ≡ 3 = c.uses 0 in omega (arith, is)

-- a node that nobody holds, and that is still open
refuted-holds : Counted (record { nodes = None ∷ Some (new_inode (folder root []) None) ∷ Some (new_inode (file []) None) ∷ []; files = open_files }) → ⊥
refuted-holds c = let is : 0 ≡ 1 = c.holds 2 in omega (arith, is)

-- a node that no folder names and no open file holds, and that is still there
refuted-stays : Counted (record { nodes = nodes ++ Some (record (new_inode (file []) None) { linked = false }) ∷ []; files = open_files }) → ⊥
refuted-stays c = let is : None ≡ Some (record (new_inode (file []) None) { linked = false }) = c.remains 3 in cc

-- a pipe of which an end is shown as open, and no open file is it
refuted-ends : Counted (record { nodes = nodes; files = record open_files { pipes = record { id = 1; bytes = []; read_open = true; write_open = true } ∷ [] } }) → ⊥
unfolding pipe_view find
refuted-ends c = let is : 0 ≡ 1 = c.write_ends 1 in omega (arith, is)
