-- Counts are exact: an open file goes when all its descriptors are closed, a node is held exactly while it is open, and an end of a
-- pipe is open exactly while one open file is it (POSIX.1-2017, close).
use Rattle.std.specs.Prelude.{ℕ, ◌≡◌, ◌≤◌, ◌^◌, ◌==◌, ◌&&◌, if◌then◌else◌, Bool, true, false, not, length, count_by, sum_by, Option, Some, None, IfSome}
use Rattle.mem_files.specs.Inodes.{Inode, inode_at}
use Rattle.mem_files.specs.Changes as tree
use Rattle.fd_tables.specs.declared.open_file.OpenFile.{OpenFile}
use Rattle.fd_tables.specs.declared.open_file.Object.{Object}
use Rattle.fd_tables.specs.declared.open_file.Object.TheVariants.{File, PipeEnd}
use Rattle.fd_tables.specs.declared.open_file.Handle.{Handle}
use Rattle.fd_tables.specs.declared.open_file.Handle.TheVariants.{Input, Output, Open}
use Rattle.fd_tables.specs.declared.open_file.Descriptor.{Descriptor}
use Rattle.fd_tables.specs.Files.{Table, most_descriptors, OpenFiles, at_number, table_at}
use Rattle.vfork_exec.specs.Keyed.{Falls}
use Rattle.fd_tables.specs.Pipes.{pipe_id, pipe_at, pipe_view, is_closed}
use Rattle.fd_tables.specs.Changes.{Storage}

-- ---- descriptors that share an open file

-- a handle is that of the open file of a number
abbrev pub leads_to : ℕ → Handle → Bool
leads_to n (Open k) = k == n
leads_to n Input = false
leads_to n Output = false

abbrev pub stands_for : ℕ → Option Descriptor → Bool
stands_for n (Some d) = leads_to n d.handle
stands_for n None = false

abbrev pub shares_in : ℕ → Option Table → ℕ
shares_in n (Some table) = count_by (stands_for n) table
shares_in n None = 0

-- how many descriptors of all tables stand for the open file of a number
abbrev pub shares_of : OpenFiles → ℕ → ℕ
shares_of fs n = sum_by (shares_in n) fs.tables

-- how many an open file counts
abbrev pub uses_in : Option OpenFile → ℕ
uses_in (Some f) = f.uses
uses_in None = 0

-- ---- open files that hold a node

abbrev pub is_node : ℕ → Object → Bool
is_node id (File node) = node == id
is_node id (PipeEnd pipe) = false

abbrev pub opens_node : ℕ → Option OpenFile → Bool
opens_node id (Some f) = is_node id f.object
opens_node id None = false

-- how many open files are of a node
abbrev pub opens_of : OpenFiles → ℕ → ℕ
opens_of fs id = count_by (opens_node id) fs.files

-- how many a node counts
abbrev pub holds_in : Option Inode → ℕ
holds_in (Some n) = n.holds
holds_in None = 0

-- ---- open files that are ends of pipes

abbrev pub is_end_of : ℕ → Object → Bool
is_end_of id (File node) = false
is_end_of id (PipeEnd pipe) = pipe == id

abbrev pub has_way : (write : Bool) → OpenFile → Bool
has_way true f = f.write
has_way false f = not f.write

abbrev pub opens_end : ℕ → (write : Bool) → Option OpenFile → Bool
opens_end id write (Some f) = is_end_of id f.object && has_way write f
opens_end id write None = false

-- how many open files are this end of a pipe
abbrev pub ends_of : OpenFiles → ℕ → (write : Bool) → ℕ
ends_of fs id write = count_by (opens_end id write) fs.files

-- and how many there are by the pipe: one while the end is open
abbrev pub one_if : Bool → ℕ
one_if is_open = if is_open then 1 else 0

-- ---- the law's invariant

-- all counts are exact, no open file is left that no descriptor shares, no node that no folder names and no open file holds, and no
-- pipe of which both ends are closed. Numbers are below 2 ^ 32, so that no count stands still at its type's end
pub record Counted (s : Storage) : Type 0 where
  pub uses : (n : ℕ) → uses_in (at_number s.files.files n) ≡ shares_of s.files n
  pub used : (n : ℕ) → IfSome (at_number s.files.files n) (λ f. 1 ≤ f.uses)
  pub holds : (id : ℕ) → holds_in (inode_at s.nodes id) ≡ opens_of s.files id
  pub remains : (id : ℕ) → IfSome (inode_at s.nodes id) (λ n. tree.kept n ≡ Some n)
  pub whole : (t : ℕ) → IfSome (table_at s.files t) (λ table. length table ≡ most_descriptors)
  pub read_ends : (id : ℕ) → ends_of s.files id false ≡ one_if (pipe_view s.files id).read_open
  pub write_ends : (id : ℕ) → ends_of s.files id true ≡ one_if (pipe_view s.files id).write_open
  pub open_pipes : (id : ℕ) → IfSome (pipe_at s.files id) (λ p. is_closed p ≡ false)
  pub pipe_numbers : Falls pipe_id s.files.next_pipe s.files.pipes
  pub few_files : length s.files.files ≤ 2 ^ 32
  pub few_tables : length s.files.tables ≤ 2 ^ 32
