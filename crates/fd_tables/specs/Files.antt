-- Open files, and the tables of descriptors that share them (POSIX.1-2017, 3.258 Open File Description, 3.166 File Descriptor).
use Rattle.std.specs.Prelude.{ℕ, suc, Bool, true, false, not, List, [], ◌∷◌, length, position, Option, Some, None, is_some, slice_get}
use Rattle.fd_tables.specs.declared.view.Target.{Target}
use Rattle.fd_tables.specs.declared.view.Target.TheVariants.{Console, Node, Pipe as to_pipe}
use Rattle.fd_tables.specs.declared.view.Way.{Way}
use Rattle.fd_tables.specs.declared.view.View.{View}
use Rattle.fd_tables.specs.declared.open_file.OpenFile.{OpenFile}
use Rattle.fd_tables.specs.declared.open_file.Object.{Object}
use Rattle.fd_tables.specs.declared.open_file.Object.TheVariants.{File, PipeEnd}
use Rattle.fd_tables.specs.declared.open_file.Handle.{Handle}
use Rattle.fd_tables.specs.declared.open_file.Handle.TheVariants.{Input, Output, Open}
use Rattle.fd_tables.specs.declared.open_file.Descriptor.{Descriptor}
use Rattle.fd_tables.specs.declared.pipe_view.Ends.{Ends}

-- a table has a place for each descriptor
abbrev pub Table : Type 0
Table = List (Option Descriptor)

abbrev pub most_descriptors : ℕ
most_descriptors = 32

-- a pipe of which an end is open: its number, what it holds from the front, and which ends are open
pub record Pipe : Type 0 where
  pub id : ℕ
  pub bytes : List ℕ
  pub read_open : Bool
  pub write_open : Bool

-- what is left of the console's input, the open files, and the tables. An open file and a table stand at the place of their
-- number, and none where the number is free. The pipes stand newest first; `next_pipe` is one more than the last number that was
-- given; `changed` are the numbers of those of which the bytes changed or an end closed, ascending, until who waits on them goes on
pub record OpenFiles : Type 0 where
  pub stdin : List ℕ
  pub files : List (Option OpenFile)
  pub tables : List (Option Table)
  pub pipes : List Pipe
  pub next_pipe : ℕ
  pub changed : List ℕ

abbrev pub nothing_open : List ℕ → OpenFiles
nothing_open stdin = record { stdin = stdin; files = []; tables = []; pipes = []; next_pipe = 1; changed = [] }

-- ---- numbers

-- what stands at a number
abbrev pub at_number : {A : Type 0} → List (Option A) → ℕ → Option A
at_number xs i = found (slice_get xs i)
  where
    found : {A : Type 0} → Option (Option A) → Option A
    found (Some x) = x
    found None = None

-- the first free place
abbrev pub first_free : {A : Type 0} → List (Option A) → Option ℕ
first_free xs = position (λ x. not (is_some x)) xs

-- the lowest number that is free: the first free place, or the one behind the last
abbrev pub free_number : {A : Type 0} → List (Option A) → ℕ
free_number xs = or_end (first_free xs)
  where
    or_end : Option ℕ → ℕ
    or_end (Some i) = i
    or_end None = length xs

-- with something at the lowest free number
abbrev pub with_next : {A : Type 0} → A → List (Option A) → List (Option A)
with_next x [] = Some x ∷ []
with_next x (None ∷ xs) = Some x ∷ xs
with_next x (Some y ∷ xs) = Some y ∷ with_next x xs

-- ---- what a descriptor shows

abbrev pub table_at : OpenFiles → ℕ → Option Table
table_at fs t = at_number fs.tables t

abbrev pub descriptor_in : Option Table → ℕ → Option Descriptor
descriptor_in (Some table) fd = at_number table fd
descriptor_in None fd = None

-- of a table; none where it isn't open
abbrev pub descriptor : OpenFiles → ℕ → ℕ → Option Descriptor
descriptor fs t fd = descriptor_in (table_at fs t) fd

abbrev pub console_view : Way → View
console_view way = record { target = Console; way = way; at = 0 }

abbrev pub target_of : OpenFile → Object → Target
target_of f (File node) = Node node
target_of f (PipeEnd id) = to_pipe id f.write

-- the end of a pipe has none
abbrev pub position_of : OpenFile → Object → ℕ
position_of f (File node) = f.at
position_of f (PipeEnd id) = 0

abbrev pub file_view : Descriptor → Option OpenFile → Option View
file_view d (Some f) = Some (record {
  target = target_of f f.object;
  way = record { read = f.read; write = f.write; append = f.append; cloexec = d.cloexec };
  at = position_of f f.object;
})
file_view d None = None

abbrev pub handle_view : OpenFiles → Descriptor → Handle → Option View
handle_view fs d Input = Some (console_view (record { read = true; write = false; append = false; cloexec = d.cloexec }))
handle_view fs d Output = Some (console_view (record { read = false; write = true; append = false; cloexec = d.cloexec }))
handle_view fs d (Open n) = file_view d (at_number fs.files n)

abbrev pub descriptor_view : OpenFiles → Option Descriptor → Option View
descriptor_view fs (Some d) = handle_view fs d d.handle
descriptor_view fs None = None

unfoldable pub view : OpenFiles → ℕ → ℕ → Option View
view fs t fd = descriptor_view fs (descriptor fs t fd)

abbrev pub free_in : Option Table → Option ℕ
free_in (Some table) = first_free table
free_in None = None

-- the lowest descriptor of a table that isn't open
unfoldable pub lowest_free : OpenFiles → ℕ → Option ℕ
lowest_free fs t = free_in (table_at fs t)

-- the numbers of the free places, from i on
abbrev pub free_from : {A : Type 0} → ℕ → List (Option A) → List ℕ
free_from i [] = []
free_from i (None ∷ xs) = i ∷ free_from (suc i) xs
free_from i (Some x ∷ xs) = free_from (suc i) xs

-- the two lowest, for the ends of a pipe; none where fewer are free
abbrev pub first_two : List ℕ → Option Ends
first_two (read ∷ write ∷ others) = Some (record { read = read; write = write })
first_two (read ∷ []) = None
first_two [] = None

abbrev pub two_free_in : Option Table → Option Ends
two_free_in (Some table) = first_two (free_from 0 table)
two_free_in None = None

unfoldable pub two_free : OpenFiles → ℕ → Option Ends
two_free fs t = two_free_in (table_at fs t)
