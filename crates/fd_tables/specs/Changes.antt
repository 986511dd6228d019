-- How descriptors and open files come and go (Linux, open(2), dup(2), close(2), in this project's profile).
use Rattle.std.specs.Prelude.{ℕ, ◌-◌, Bool, true, false, not, if◌then◌else◌, nat_le, List, [], ◌∷◌, drop, replicate, Option, Some, None, slice_get, slice_set}
use Rattle.std.specs.List.{range_with_len}
use Rattle.mem_files.specs.Inodes.{Inodes, raised}
use Rattle.mem_files.specs.Changes as tree
use Rattle.fd_tables.specs.declared.view.Way.{Way}
use Rattle.fd_tables.specs.declared.open_file.OpenFile.{OpenFile}
use Rattle.fd_tables.specs.declared.open_file.Object.{Object}
use Rattle.fd_tables.specs.declared.open_file.Object.TheVariants.{File, PipeEnd}
use Rattle.fd_tables.specs.declared.open_file.Handle.{Handle}
use Rattle.fd_tables.specs.declared.open_file.Handle.TheVariants.{Input, Output, Open}
use Rattle.fd_tables.specs.declared.open_file.Descriptor.{Descriptor}
use Rattle.fd_tables.specs.declared.pipe_view.Ends.{Ends}
use Rattle.fd_tables.specs.Pipes.{with_pipe, without_end}
use Rattle.fd_tables.specs.Files.{Table, most_descriptors, OpenFiles, at_number, free_number, with_next, table_at, descriptor}

-- open files, and the nodes that they hold
pub record Storage : Type 0 where
  pub nodes : Inodes
  pub files : OpenFiles

abbrev pub storage : Inodes → OpenFiles → Storage
storage nodes files = record { nodes = nodes; files = files }

-- ---- parts

-- what stands at a number becomes what f makes of it; where nothing stands nothing changes
abbrev pub with_item : {A : Type 0} → (A → Option A) → List (Option A) → ℕ → List (Option A)
with_item {A} f xs i = at_item (slice_get xs i)
  where
    at_item : Option (Option A) → List (Option A)
    at_item (Some (Some x)) = slice_set xs i (f x)
    at_item (Some None) = xs
    at_item None = xs

-- a descriptor of a table becomes this one, or free
abbrev pub with_descriptor : OpenFiles → ℕ → ℕ → Option Descriptor → OpenFiles
with_descriptor fs t fd d = record fs { tables = with_item (λ table. Some (slice_set table fd d)) fs.tables t }

abbrev pub with_file : (OpenFile → Option OpenFile) → OpenFiles → ℕ → OpenFiles
with_file f fs n = record fs { files = with_item f fs.files n }

-- one more descriptor shares what this one stands for
abbrev pub shared : OpenFiles → Handle → OpenFiles
shared fs (Open n) = with_file (λ f. Some (record f { uses = raised f.uses })) fs n
shared fs Input = fs
shared fs Output = fs

-- what an open file was of: its node is let go, or its end of the pipe closes
abbrev pub let_go : Storage → OpenFile → Object → Storage
let_go s f (File node) = record s { nodes = tree.let_go s.nodes node }
let_go s f (PipeEnd id) = record s { files = without_end s.files id f.write }

-- one fewer shares an open file; with the last one it goes
abbrev pub dropped_file : Storage → ℕ → Option OpenFile → Storage
dropped_file s n None = s
dropped_file s n (Some f) =
    if nat_le f.uses 1 then let_go (record s { files = with_file (λ f. None) s.files n }) f f.object
    else record s { files = with_file (λ f. Some (record f { uses = f.uses - 1 })) s.files n }

abbrev pub dropped : Storage → Handle → Storage
dropped s (Open n) = dropped_file s n (at_number s.files.files n)
dropped s Input = s
dropped s Output = s

-- ---- the calls

-- a descriptor closes, if it is open
abbrev pub closed_descriptor : Storage → ℕ → ℕ → Option Descriptor → Storage
closed_descriptor s t fd None = s
closed_descriptor s t fd (Some d) = dropped (record s { files = with_descriptor s.files t fd None }) d.handle

unfoldable pub closed : Storage → ℕ → ℕ → Storage
closed s t fd = closed_descriptor s t fd (descriptor s.files t fd)

abbrev pub new_file : ℕ → Way → OpenFile
new_file node way = record { object = File node; read = way.read; write = way.write; append = way.append; at = 0; uses = 1 }

-- one more open file, at the lowest number that is free
abbrev pub with_open_file : OpenFiles → OpenFile → OpenFiles
with_open_file fs f = record fs { files = with_next f fs.files }

-- a descriptor of a node opens at position 0, as the lowest open file that is free
unfoldable pub opened : Storage → ℕ → ℕ → ℕ → Way → Storage
opened s t fd node way = record {
  nodes = tree.held s.nodes node;
  files = with_descriptor (with_open_file s.files (new_file node way)) t fd (Some (record { handle = Open (free_number s.files.files); cloexec = way.cloexec }));
}

-- an end of a pipe opens as a descriptor
abbrev pub pipe_end : ℕ → (write : Bool) → OpenFile
pipe_end id write = record { object = PipeEnd id; read = not write; write = write; append = false; at = 0; uses = 1 }

abbrev pub with_end : OpenFiles → ℕ → ℕ → ℕ → (write cloexec : Bool) → OpenFiles
with_end fs t fd id write cloexec =
    with_descriptor (with_open_file fs (pipe_end id write)) t fd (Some (record { handle = Open (free_number fs.files); cloexec = cloexec }))

-- a pipe more, with its two ends as these descriptors
unfoldable pub piped : OpenFiles → ℕ → Ends → (cloexec : Bool) → OpenFiles
piped fs t ends cloexec =
    with_end (with_end (with_pipe fs) t ends.read fs.next_pipe false cloexec) t ends.write fs.next_pipe true cloexec

abbrev pub copied_descriptor : OpenFiles → ℕ → ℕ → Option Descriptor → OpenFiles
copied_descriptor fs t new None = fs
copied_descriptor fs t new (Some d) = shared (with_descriptor fs t new (Some d)) d.handle

abbrev pub with_cloexec : (cloexec : Bool) → Option Descriptor → Option Descriptor
with_cloexec cloexec (Some d) = Some (record d { cloexec = cloexec })
with_cloexec cloexec None = None

-- a descriptor that is free becomes what another one is
unfoldable pub duplicated : OpenFiles → ℕ → ℕ → ℕ → (cloexec : Bool) → OpenFiles
duplicated fs t old new cloexec = copied_descriptor fs t new (with_cloexec cloexec (descriptor fs t old))

-- a descriptor closes, if it is open, and becomes what another one is
unfoldable pub replaced : Storage → ℕ → ℕ → ℕ → (cloexec : Bool) → Storage
replaced s t old new cloexec = closed_first (closed s t new)
  where
    closed_first : Storage → Storage
    closed_first now = record now { files = duplicated now.files t old new cloexec }

abbrev pub moved_handle : OpenFiles → ℕ → Option Descriptor → OpenFiles
moved_handle fs at None = fs
moved_handle fs at (Some d) = by_handle d.handle
  where
    by_handle : Handle → OpenFiles
    by_handle (Open n) = with_file (λ f. Some (record f { at = at })) fs n
    by_handle Input = fs
    by_handle Output = fs

-- the position of an open file is that of all its descriptors
unfoldable pub moved : OpenFiles → ℕ → ℕ → ℕ → OpenFiles
moved fs t fd at = moved_handle fs at (descriptor fs t fd)

-- ---- the console's input

unfoldable pub taken : OpenFiles → ℕ → OpenFiles
taken fs n = record fs { stdin = drop n fs.stdin }

-- ---- tables

abbrev pub console_descriptor : Handle → Option Descriptor
console_descriptor handle = Some (record { handle = handle; cloexec = false })

-- descriptor 0 reads the console, and 1 and 2 write to it
abbrev pub first_table : Table
first_table =
    console_descriptor Input ∷ console_descriptor Output ∷ console_descriptor Output ∷ replicate (most_descriptors - 3) None

unfoldable pub with_table : OpenFiles → OpenFiles
with_table fs = record fs { tables = with_next first_table fs.tables }

abbrev pub all_shared : OpenFiles → List (Option Descriptor) → OpenFiles
all_shared fs [] = fs
all_shared fs (Some d ∷ ds) = all_shared (shared fs d.handle) ds
all_shared fs (None ∷ ds) = all_shared fs ds

abbrev pub copied_table : OpenFiles → Option Table → OpenFiles
copied_table fs None = fs
copied_table fs (Some table) = all_shared (record fs { tables = with_next table fs.tables }) table

-- a copy of a table shares all its open files
unfoldable pub with_copy : OpenFiles → ℕ → OpenFiles
with_copy fs t = copied_table fs (table_at fs t)

abbrev pub all_closed : (Descriptor → Bool) → Storage → ℕ → List ℕ → Storage
all_closed test s t [] = s
all_closed test s t (fd ∷ fds) = all_closed test (by_test (descriptor s.files t fd)) t fds
  where
    by_test : Option Descriptor → Storage
    by_test (Some d) = if test d then closed s t fd else s
    by_test None = s

-- all descriptors of a table, in order
unfoldable pub all_descriptors : List ℕ
all_descriptors = range_with_len 0 most_descriptors

-- at an execve
unfoldable pub exec_closed : Storage → ℕ → Storage
exec_closed s t = all_closed (λ d. d.cloexec) s t all_descriptors

-- a table goes, and all its descriptors close
unfoldable pub without_table : Storage → ℕ → Storage
without_table s t = gone (all_closed (λ d. true) s t all_descriptors)
  where
    gone : Storage → Storage
    gone now = record now { files = record now.files { tables = with_item (λ table. None) now.files.tables t } }
