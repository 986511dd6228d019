-- Tables of descriptors that share open files, and pipes, as each call leaves them.
use Rattle.std.proofs.Common.{◌≡◌, ℕ, Bool, true, false, List, [], ◌∷◌, map, Option, Some, None, refl}
use Rattle.std.specs.Prelude.{codes, slice_get}
use Rattle.mem_files.specs.Inodes.{Inode, Inodes, file, folder, new_inode}
use Rattle.mem_files.specs.Changes.{held, let_go}
use Rattle.vfork_exec.specs.Keyed.{find, change, without}
use Rattle.fd_tables.specs.declared.open_file.OpenFile.{OpenFile}
use Rattle.fd_tables.specs.declared.open_file.Object.TheVariants.{File}
use Rattle.fd_tables.specs.declared.open_file.Handle.{Handle}
use Rattle.fd_tables.specs.declared.open_file.Handle.TheVariants.{Input, Output, Open}
use Rattle.fd_tables.specs.declared.open_file.Descriptor.{Descriptor}
use Rattle.fd_tables.specs.Files.{Pipe, OpenFiles, nothing_open, descriptor}
use Rattle.fd_tables.specs.Changes.{Storage, storage, closed, opened, duplicated, replaced, taken, with_table, with_copy, all_descriptors, exec_closed}
use Rattle.fd_tables.specs.Pipes.{with_pipe, pipe_view, pipe_put, pipe_taken, without_end}

-- ---- the file /f, node number 2, open as descriptor 3, which an execve closes; five bytes of input are left

abbrev node : (linked : Bool) → (holds : ℕ) → Inode
node linked holds = record (new_inode (file (codes "abc")) None) { linked = linked; holds = holds }

abbrev nodes : (linked : Bool) → Inodes
nodes linked = None ∷ Some (new_inode (folder 1 (record { name = codes "f"; id = 2 } ∷ [])) None) ∷ Some (node linked 0) ∷ []

abbrev stored : (linked : Bool) → Storage
stored linked = opened (storage (nodes linked) (with_table (nothing_open (codes "hello")))) 0 3 2 (record { read = true; write = false; append = false; cloexec = true })

-- the open file, with how many descriptors share it
abbrev shared_by : (uses : ℕ) → OpenFile
shared_by uses = record { object = File 2; read = true; write = false; append = false; at = 0; uses = uses }

abbrev is : Handle → (cloexec : Bool) → Option Descriptor
is handle cloexec = Some (record { handle = handle; cloexec = cloexec })

-- what is left of the node, the open files, and the first five descriptors of a table
record Seen : Type 0 where
  node : Option (Option Inode)
  files : List (Option OpenFile)
  table : List (Option Descriptor)

abbrev seen : ℕ → Storage → Seen
seen t s = record { node = slice_get s.nodes 2; files = s.files.files; table = map (descriptor s.files t) (0 ∷ 1 ∷ 2 ∷ 3 ∷ 4 ∷ []) }

opens : seen 0 (stored true) ≡ record { node = Some (Some (node true 1)); files = Some (shared_by 1) ∷ []; table = is Input false ∷ is Output false ∷ is Output false ∷ is (Open 0) true ∷ None ∷ [] }
unfolding held with_table opened
opens = refl

-- ---- copies of a descriptor

abbrev dup : (old : ℕ) → Storage
dup old = record (stored true) { files = duplicated (stored true).files 0 old 4 false }

-- one open file more has a second descriptor, which stays at an execve
duplicates : seen 0 (dup 3) ≡ record { node = Some (Some (node true 1)); files = Some (shared_by 2) ∷ []; table = is Input false ∷ is Output false ∷ is Output false ∷ is (Open 0) true ∷ is (Open 0) false ∷ [] }
unfolding held with_table opened duplicated
duplicates = refl

-- the console is no open file; and a descriptor that isn't open has no copy
duplicates-console : seen 0 (dup 1) ≡ record (seen 0 (stored true)) { table = is Input false ∷ is Output false ∷ is Output false ∷ is (Open 0) true ∷ is Output false ∷ [] }
unfolding held with_table opened duplicated
duplicates-console = refl

duplicates-none : dup 9 ≡ stored true
unfolding held with_table opened duplicated
duplicates-none = refl

-- what stood there closes: with its last descriptor the open file goes, and lets its node go
replaces : seen 0 (replaced (stored true) 0 1 3 true) ≡ record { node = Some (Some (node true 0)); files = None ∷ []; table = is Input false ∷ is Output false ∷ is Output false ∷ is Output true ∷ None ∷ [] }
unfolding held let_go with_table opened closed duplicated replaced
replaces = refl

-- ---- tables

-- a copy of a table is the next one, and shares the open file
copies : seen 1 (record (stored true) { files = with_copy (stored true).files 0 }) ≡ record (seen 0 (stored true)) { files = Some (shared_by 2) ∷ [] }
unfolding held with_table opened with_copy
copies = refl

copies-none : with_copy (stored true).files 1 ≡ (stored true).files
unfolding held with_table opened with_copy
copies-none = refl

-- at an execve the descriptor closes, and of a node that no folder names nothing is left
execs : seen 0 (exec_closed (stored true) 0) ≡ record { node = Some (Some (node true 0)); files = None ∷ []; table = is Input false ∷ is Output false ∷ is Output false ∷ None ∷ None ∷ [] }
unfolding held let_go with_table opened closed all_descriptors exec_closed
execs = refl

execs-unnamed : (seen 0 (exec_closed (stored false) 0)).node ≡ Some None
unfolding held let_go with_table opened closed all_descriptors exec_closed
execs-unnamed = refl

-- its copy, which an execve leaves open, stays
execs-copy : seen 0 (exec_closed (dup 3) 0) ≡ record { node = Some (Some (node true 1)); files = Some (shared_by 1) ∷ []; table = is Input false ∷ is Output false ∷ is Output false ∷ None ∷ is (Open 0) false ∷ [] }
unfolding held let_go with_table opened closed duplicated all_descriptors exec_closed
execs-copy = refl

-- ---- input

takes : map (λ n. (taken (nothing_open (codes "hello")) n).stdin) (0 ∷ 2 ∷ 5 ∷ 9 ∷ []) ≡ codes "hello" ∷ codes "llo" ∷ [] ∷ [] ∷ []
unfolding taken
takes = refl

-- ---- two pipes, number 2 before number 1

abbrev pipe : ℕ → List ℕ → (read write : Bool) → Pipe
pipe id bytes read write = record { id = id; bytes = bytes; read_open = read; write_open = write }

abbrev piped : OpenFiles
piped = with_pipe (with_pipe (nothing_open []))

abbrev now : List Pipe → List ℕ → OpenFiles
now pipes changed = record piped { pipes = pipes; changed = changed }

puts : pipe_put (pipe_put piped 2 (codes "ab")) 1 (codes "c") ≡ now (pipe 2 (codes "ab") true true ∷ pipe 1 (codes "c") true true ∷ []) (1 ∷ 2 ∷ [])
unfolding find change pipe_put
puts = refl

puts-behind : pipe_put (pipe_put piped 2 (codes "ab")) 2 (codes "c") ≡ now (pipe 2 (codes "abc") true true ∷ pipe 1 [] true true ∷ []) (2 ∷ [])
unfolding find change pipe_put
puts-behind = refl

-- no bytes, and no such pipe
puts-nothing : (pipe_put piped 2 [] ∷ pipe_put piped 3 (codes "a") ∷ []) ≡ piped ∷ piped ∷ []
unfolding find change pipe_put
puts-nothing = refl

takes-pipe : pipe_taken (now (pipe 1 (codes "abc") true true ∷ []) []) 1 2 ≡ now (pipe 1 (codes "c") true true ∷ []) (1 ∷ [])
unfolding find change pipe_taken
takes-pipe = refl

-- one end closes, and with the other one the pipe goes, with what it held
closes-one : without_end (now (pipe 1 (codes "a") true true ∷ []) []) 1 true ≡ now (pipe 1 (codes "a") true false ∷ []) (1 ∷ [])
unfolding find change without_end
closes-one = refl

closes-both : without_end (now (pipe 2 [] true true ∷ pipe 1 (codes "a") true false ∷ []) []) 1 false ≡ now (pipe 2 [] true true ∷ []) (1 ∷ [])
unfolding find without without_end
closes-both = refl

shows : map (pipe_view (now (pipe 1 (codes "ab") false true ∷ []) [])) (1 ∷ 2 ∷ []) ≡ record { held = 2; read_open = false; write_open = true } ∷ record { held = 0; read_open = false; write_open = false } ∷ []
unfolding find pipe_view
shows = refl
