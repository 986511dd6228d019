-- What a row may leave outside of the space: each change that rows make there, with the condition under which they make it.
use Rattle.std.proofs.Common.{◌≡◌, ℕ, ◌+◌, ◌*◌, Bool, true, false, List, [], ◌++◌, length, take, drop, Option, Some, None, Result, Ok, Err, refl}
use Rattle.std.specs.Prelude.{⊤, ◌==◌, ◌^◌, if◌then◌else◌}
use Rattle.page_runs.specs.declared.place.Kind.{Kind}
use Rattle.call_log.specs.declared.errno.Errno.{Errno}
use Rattle.call_log.specs.Sent.{Span}
use Rattle.mem_files.specs.declared.node.Node.TheVariants.{Dir, File}
use Rattle.mem_files.specs.Inodes.{Inodes, kind_of, bytes_of, entries_of}
use Rattle.mem_files.specs.Paths.{lookup}
use Rattle.mem_files.specs.Changes.{with_folder, with_file, unlinked, written}
use Rattle.fd_tables.specs.declared.view.View.{View}
use Rattle.fd_tables.specs.declared.view.Target.{Target}
use Rattle.fd_tables.specs.declared.view.Target.TheVariants.{Console, Node as a_node, Pipe}
use Rattle.fd_tables.specs.declared.pipe_view.Ends.{Ends}
use Rattle.fd_tables.specs.Files.{OpenFiles, two_free}
use Rattle.fd_tables.specs.Pipes.{pipe_view, pipe_bytes, pipe_taken, pipe_put}
use Rattle.fd_tables.specs.Changes.{closed, opened, duplicated, replaced, moved, taken, piped}
use Rattle.fd_tables.specs.Calls.{dup_number, dup3_fault, close_fault}
use Rattle.machine_world.specs.World.{Program, Rest}
use Rattle.machine_world.specs.Asks.{Ask, arg, Row, replies, waits, unless, with_ok, view_of, with_view, free_of, with_free, with_tree, with_files, storage_of, with_storage}
use Rattle.machine_world.specs.Descriptors.{table_of, close_on_exec, position_from, base_of, listing}
use Rattle.machine_world.specs.Transfers.{moved_bytes, write_position, pipe_room}
use Rattle.machine_world.specs.PathCalls.{path_fault, path_of, with_path, remove_folder, creates, way_of, open_fault, emptied}

-- what a row leaves outside of the space, if it replies
abbrev pub Answers : (Rest → Type 0) → Row → Type 0
Answers P (replies r) = P r.rest
Answers P (waits state) = ⊤

-- the call's descriptor shows v, which leads there
abbrev pub Shows : Ask → View → Target → Type 0
Shows a v target = (view_of a (arg a 0) ≡ Some v) × (v.target ≡ target)

-- its position moves
abbrev pub moves : Ask → ℕ → OpenFiles
moves a at = moved a.rest.files (table_of a) (arg a 0) at

-- a node opens as the descriptor fd, over these nodes
abbrev pub opened_as : Ask → ℕ → ℕ → Inodes → Rest
opened_as a fd node nodes =
    with_storage a.rest (opened (record { nodes = nodes; files = a.rest.files }) (table_of a) fd node (way_of (arg a 2)))

-- as many bytes as the pipe has room for
abbrev pub fitting : Ask → ℕ → List ℕ → List ℕ
fitting a id bytes = take (pipe_room (pipe_view a.rest.files id)) bytes

-- P holds after each change that a row makes
pub record EachChange (P : Rest → Type 0) (a : Ask) : Type 0 where
  -- dup, dup3 and close
  pub dup : (free : ℕ) → dup_number (view_of a (arg a 0)) (free_of a) ≡ Ok free
      → P (with_files a.rest (duplicated a.rest.files (table_of a) (arg a 0) free false))
  pub dup3 : dup3_fault (view_of a (arg a 0)) (arg a 0) (arg a 1) ≡ None
      → P (with_storage a.rest (replaced (storage_of a.rest) (table_of a) (arg a 0) (arg a 1) (arg a 2 == close_on_exec)))
  pub close : close_fault (view_of a (arg a 0)) ≡ None → P (with_storage a.rest (closed (storage_of a.rest) (table_of a) (arg a 0)))
  -- llseek, getdents64, and the reads of a file and of the console
  pub seek : (v : View) (node at : ℕ) → Shows a v (a_node node)
      → position_from (base_of a v node (arg a 4)) (arg a 1 * 2 ^ 32 + arg a 2) ≡ Some at → P (with_files a.rest (moves a at))
  pub list : (v : View) (node : ℕ) → Shows a v (a_node node) → kind_of a.rest.tree node ≡ Dir
      → P (with_files a.rest (moves a (v.at + (listing a.rest.tree (arg a 2) v.at (drop v.at (entries_of a.rest.tree node))).count)))
  pub read : (v : View) (node : ℕ) (spans : List Span) → Shows a v (a_node node) → v.way.read ≡ true → kind_of a.rest.tree node ≡ File
      → P (with_files a.rest (moves a (v.at + length (moved_bytes spans (drop v.at (bytes_of a.rest.tree node))))))
  pub take : (v : View) (spans : List Span) → Shows a v Console → v.way.read ≡ true
      → P (with_files a.rest (taken a.rest.files (length (moved_bytes spans a.rest.files.stdin))))
  -- the writes to a file and to the console
  pub write : (v : View) (node : ℕ) (bytes : List ℕ) (nodes : Inodes) → Shows a v (a_node node) → v.way.write ≡ true
      → (length bytes == 0) ≡ false → written a.rest.tree node (write_position a v node) bytes ≡ Ok nodes
      → P (record a.rest { tree = nodes; files = moves a (write_position a v node + length bytes) })
  pub print : (v : View) (bytes : List ℕ) → Shows a v Console → v.way.write ≡ true → P (record a.rest { console = a.rest.console ++ bytes })
  -- pipe2, and the reads and writes of a pipe
  pub pipe : (ends : Ends) → two_free a.rest.files (table_of a) ≡ Some ends
      → P (with_files a.rest (piped a.rest.files (table_of a) ends (arg a 1 == close_on_exec)))
  pub drain : (v : View) (id : ℕ) (end : Bool) (spans : List Span) → Shows a v (Pipe id end) → v.way.read ≡ true
      → P (with_files a.rest (pipe_taken a.rest.files id (length (moved_bytes spans (pipe_bytes a.rest.files id)))))
  pub fill : (v : View) (id : ℕ) (end : Bool) (bytes : List ℕ) → Shows a v (Pipe id end) → v.way.write ≡ true
      → P (with_files a.rest (pipe_put a.rest.files id (fitting a id bytes)))
  -- mkdirat, unlinkat, and openat of what is there and of what isn't
  pub make : (nodes : Inodes) → with_folder a.rest.tree (path_of a) ≡ Ok nodes → P (with_tree a.rest nodes)
  pub remove : (nodes : Inodes) → unlinked a.rest.tree (path_of a) (arg a 2 == remove_folder) ≡ Ok nodes → P (with_tree a.rest nodes)
  pub open_old : (fd node : ℕ) → free_of a ≡ Some fd → lookup a.rest.tree (path_of a) ≡ Ok (Some node)
      → open_fault a.rest.tree node (arg a 2) ≡ None → P (opened_as a fd node (emptied a.rest.tree node (arg a 2)))
  pub open_new : (fd : ℕ) (nodes : Inodes) → free_of a ≡ Some fd → lookup a.rest.tree (path_of a) ≡ Ok None
      → creates (arg a 2) ≡ true → with_file a.rest.tree (path_of a) [] None ≡ Ok nodes → P (opened_as a fd (length a.rest.tree) nodes)

-- rows leave the programs, the pages and the choice of free runs: what says nothing of all else holds after each change
pub kept_outside : (P : List Program → ℕ → Kind → Type 0) (a : Ask) → P a.rest.programs a.rest.pages a.rest.kind → EachChange (λ rest. P rest.programs rest.pages rest.kind) a
kept_outside P a same = record {
  dup = λ free is. same;
  dup3 = λ none. same;
  close = λ none. same;
  seek = λ v node at shows is. same;
  list = λ v node shows is. same;
  read = λ v node spans shows reads is. same;
  take = λ v spans shows reads. same;
  write = λ v node bytes nodes shows may some is. same;
  print = λ v bytes shows may. same;
  pipe = λ ends free. same;
  drain = λ v id end spans shows reads. same;
  fill = λ v id end bytes shows may. same;
  make = λ nodes is. same;
  remove = λ nodes is. same;
  open_old = λ fd node free found none. same;
  open_new = λ fd nodes free found may made. same;
}

-- ---- by tests

pub by_test : (P : Rest → Type 0) (b : Bool) (x y : Row) → (b ≡ true → Answers P x) → Answers P y → Answers P (if b then x else y)
by_test P true x y hx hy = hx refl
by_test P false x y hx hy = hy

pub by_if : (P : Rest → Type 0) (b : Bool) (x y : Row) → Answers P x → Answers P y → Answers P (if b then x else y)
by_if P true x y hx hy = hx
by_if P false x y hx hy = hy

-- ---- what may be refused

module _ (P : Rest → Type 0) (a : Ask) (same : P a.rest) where
  pub by_fault : (o : Option Errno) (r : Row) → (o ≡ None → Answers P r) → Answers P (unless a o r)
  by_fault None r each = each refl
  by_fault (Some e) r each = same

  pub by_ok : {A : Type 0} (o : Result A Errno) (rows : A → Row) → ((x : A) → o ≡ Ok x → Answers P (rows x)) → Answers P (with_ok a o rows)
  by_ok (Ok x) rows each = each x refl
  by_ok (Err e) rows each = same

  pub by_view : (o : Option View) (rows : View → Row) → ((v : View) → o ≡ Some v → Answers P (rows v)) → Answers P (with_view a o rows)
  by_view (Some v) rows each = each v refl
  by_view None rows each = same

  pub by_free : (o : Option ℕ) (rows : ℕ → Row) → ((fd : ℕ) → o ≡ Some fd → Answers P (rows fd)) → Answers P (with_free a o rows)
  by_free (Some fd) rows each = each fd refl
  by_free None rows each = same

  pub by_path : (rows : List ℕ → Row) → Answers P (rows (path_of a)) → Answers P (with_path a rows)
  by_path rows holds = by_fault (path_fault (arg a 0) (path_of a)) (rows (path_of a)) (λ none. holds)
