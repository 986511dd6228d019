-- Each call, and each change of the tree, keeps the counts exact.
use Rattle.std.specs.Prelude.{ℕ, ◌≡◌, ◌+◌, ◌<◌, ◌≤◌, ◌^◌, ◌==◌, ◌&&◌, ◌||◌, Bool, true, false, not, List, count_by, Option, Some, None, is_some, IfSome, nat_lt, Result, Ok}
use Rattle.call_log.specs.declared.errno.Errno.{Errno}
use Rattle.mem_files.specs.Inodes.{Inodes, inode_at}
use Rattle.mem_files.specs.Changes as tree
use Rattle.fd_tables.specs.declared.view.Way.{Way}
use Rattle.fd_tables.specs.declared.pipe_view.Ends.{Ends}
use Rattle.fd_tables.specs.declared.pipe_view.PipeView.{PipeView}
use Rattle.fd_tables.specs.Files.{OpenFiles, most_descriptors, nothing_open, at_number, free_number, descriptor, lowest_free, two_free}
use Rattle.fd_tables.specs.Changes.{Storage, storage, closed, opened, piped, duplicated, replaced, moved, taken, with_table, with_copy, exec_closed, without_table}
use Rattle.fd_tables.specs.Pipes.{pipe_at, pipe_view, is_marked, pipe_taken, pipe_put, none_changed}
use Rattle.fd_tables.specs.Counts.{opens_of, shares_of, ends_of, Counted}

-- ---- what the counts mean

-- an open file is there exactly while a descriptor shares it
abbrev pub RemainsWhileShared : Type 0
RemainsWhileShared = (s : Storage) (n : ℕ) → Counted s → is_some (at_number s.files.files n) ≡ nat_lt 0 (shares_of s.files n)

-- a node is there while an open file holds it
abbrev pub RemainsWhileOpen : Type 0
RemainsWhileOpen = (s : Storage) (id : ℕ) → Counted s → 1 ≤ opens_of s.files id → is_some (inode_at s.nodes id) ≡ true

-- and one that no folder names only then
abbrev pub UnnamedWhileOpen : Type 0
UnnamedWhileOpen = (s : Storage) (id : ℕ) → Counted s → IfSome (inode_at s.nodes id) (λ n. n.linked ≡ false → 1 ≤ opens_of s.files id)

-- an end of a pipe is open exactly while an open file is it, and a pipe is there while one of its ends is open
abbrev pub EndsRemainWhileOpen : Type 0
EndsRemainWhileOpen = (s : Storage) (id : ℕ) → Counted s →
    ((pipe_view s.files id).read_open ≡ nat_lt 0 (ends_of s.files id false)) × ((pipe_view s.files id).write_open ≡ nat_lt 0 (ends_of s.files id true))
    × (is_some (pipe_at s.files id) ≡ ((pipe_view s.files id).read_open || (pipe_view s.files id).write_open))

-- ---- the calls

-- over nodes of which each is named and none is held
abbrev pub BeginsCounted : Type 0
BeginsCounted =
    (nodes : Inodes) (stdin : List ℕ) → ((id : ℕ) → IfSome (inode_at nodes id) (λ n. (n.linked ≡ true) × (n.holds ≡ 0))) →
    Counted (storage nodes (nothing_open stdin))

-- where the node is there, and the open file's number fits its type, as `open` says that it does
abbrev pub OpeningKeepsCounts : Type 0
OpeningKeepsCounts =
    (s : Storage) (t fd node : ℕ) (way : Way) → Counted s → lowest_free s.files t ≡ Some fd → is_some (inode_at s.nodes node) ≡ true →
    free_number s.files.files < 2 ^ 32 → Counted (opened s t fd node way)

abbrev pub ClosingKeepsCounts : Type 0
ClosingKeepsCounts = (s : Storage) (t fd : ℕ) → Counted s → Counted (closed s t fd)

-- as a descriptor that isn't open yet
abbrev pub DuplicatingKeepsCounts : Type 0
DuplicatingKeepsCounts =
    (s : Storage) (t old new : ℕ) (cloexec : Bool) → Counted s → new < most_descriptors → descriptor s.files t new ≡ None →
    Counted (storage s.nodes (duplicated s.files t old new cloexec))

-- as one that is closed first
abbrev pub ReplacingKeepsCounts : Type 0
ReplacingKeepsCounts = (s : Storage) (t old new : ℕ) (cloexec : Bool) → Counted s → new < most_descriptors → Counted (replaced s t old new cloexec)

abbrev pub MovingKeepsCounts : Type 0
MovingKeepsCounts = (s : Storage) (t fd at : ℕ) → Counted s → Counted (storage s.nodes (moved s.files t fd at))

abbrev pub TakingKeepsCounts : Type 0
TakingKeepsCounts = (s : Storage) (n : ℕ) → Counted s → Counted (storage s.nodes (taken s.files n))

-- where two descriptors are free, and so few files are open that the numbers of two more fit their type
abbrev pub PipingKeepsCounts : Type 0
PipingKeepsCounts =
    (s : Storage) (t : ℕ) (ends : Ends) (cloexec : Bool) → Counted s → two_free s.files t ≡ Some ends → count_by is_some s.files.files + 2 ≤ 2 ^ 32 →
    Counted (storage s.nodes (piped s.files t ends cloexec))

abbrev pub PipesKeepCounts : Type 0
PipesKeepCounts =
    (s : Storage) (id n : ℕ) (bytes : List ℕ) → Counted s →
    Counted (storage s.nodes (pipe_taken s.files id n)) × Counted (storage s.nodes (pipe_put s.files id bytes)) × Counted (storage s.nodes (none_changed s.files))

-- ---- marks

abbrev pub same_flag : Bool → Bool → Bool
same_flag true b = b
same_flag false b = not b

abbrev pub shows_same : PipeView → PipeView → Bool
shows_same a b = a.held == b.held && same_flag a.read_open b.read_open && same_flag a.write_open b.write_open

-- a pipe is marked where it was before, and where it shows something else than before
abbrev pub MarksExactly : (old new : OpenFiles) → Type 0
MarksExactly old new = (id : ℕ) → is_marked id new ≡ (is_marked id old || not (shows_same (pipe_view old id) (pipe_view new id)))

-- so who waits on a pipe goes on exactly where it can matter
abbrev pub MarksAreExact : Type 0
MarksAreExact =
    (s : Storage) (t fd id n : ℕ) (bytes : List ℕ) → Counted s →
    MarksExactly s.files (closed s t fd).files × (n ≤ (pipe_view s.files id).held → MarksExactly s.files (pipe_taken s.files id n))
    × MarksExactly s.files (pipe_put s.files id bytes)

-- ---- tables

-- where the table's number fits the answer
abbrev pub NewTableKeepsCounts : Type 0
NewTableKeepsCounts = (s : Storage) → Counted s → free_number s.files.tables < 2 ^ 32 → Counted (storage s.nodes (with_table s.files))

abbrev pub CopyKeepsCounts : Type 0
CopyKeepsCounts = (s : Storage) (t : ℕ) → Counted s → free_number s.files.tables < 2 ^ 32 → Counted (storage s.nodes (with_copy s.files t))

abbrev pub ExecKeepsCounts : Type 0
ExecKeepsCounts = (s : Storage) (t : ℕ) → Counted s → Counted (exec_closed s t)

abbrev pub DroppingKeepsCounts : Type 0
DroppingKeepsCounts = (s : Storage) (t : ℕ) → Counted s → Counted (without_table s t)

-- ---- the tree's own changes: what is held stays, with its count, and nothing is open at the number of a new node

abbrev pub KeepsCounts : (Inodes → Result Inodes Errno) → Type 0
KeepsCounts change = (s : Storage) (new : Inodes) → Counted s → change s.nodes ≡ Ok new → Counted (storage new s.files)

pub record TreeKeepsCounts : Type 0 where
  pub folder : (path : List ℕ) → KeepsCounts (λ nodes. tree.with_folder nodes path)
  pub file : (path bytes : List ℕ) (program : Option ℕ) → KeepsCounts (λ nodes. tree.with_file nodes path bytes program)
  pub unlink : (path : List ℕ) (dir : Bool) → KeepsCounts (λ nodes. tree.unlinked nodes path dir)
  pub write : (id at : ℕ) (bytes : List ℕ) → KeepsCounts (λ nodes. tree.written nodes id at bytes)
  pub truncate : (id : ℕ) → KeepsCounts (λ nodes. Ok (tree.truncated nodes id))

-- each call of descriptors and change of the tree keeps the counts
pub record CallsKeepCounts : Type 0 where
  pub opens : OpeningKeepsCounts
  pub pipes : PipingKeepsCounts
  pub moves_bytes : PipesKeepCounts
  pub closes : ClosingKeepsCounts
  pub duplicates : DuplicatingKeepsCounts
  pub replaces : ReplacingKeepsCounts
  pub moves : MovingKeepsCounts
  pub takes : TakingKeepsCounts
  pub makes_table : NewTableKeepsCounts
  pub copies_table : CopyKeepsCounts
  pub closes_at_exec : ExecKeepsCounts
  pub drops_table : DroppingKeepsCounts
  pub tree_changes : TreeKeepsCounts
