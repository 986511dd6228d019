-- Which rows never wait: all but the reads and writes of pipes.
use Rattle.std.proofs.Common.{ℕ, ◌+◌, Bool, true, false, List, [], length, drop, Option, Some, None, Result, Ok, Err}
use Rattle.std.specs.Prelude.{⊤, ◌*◌, ◌^◌, ◌==◌, ◌||◌, ◌&&◌, not, nat_lt, if◌then◌else◌}
use Rattle.call_log.specs.declared.errno.Errno.{Errno}
use Rattle.call_log.specs.declared.errno.Errno.TheVariants.{Einval, Enosys, Enoent}
use Rattle.call_log.specs.Sent.{Span}
use Rattle.mem_files.specs.declared.node.Node.{Node}
use Rattle.mem_files.specs.declared.node.Node.TheVariants.{Dir, File}
use Rattle.mem_files.specs.Inodes.{kind_of, entries_of}
use Rattle.mem_files.specs.Paths.{lookup}
use Rattle.mem_files.specs.Changes.{with_folder, with_file, unlinked}
use Rattle.mmap_rules.specs.declared.mapping.Mapping.{Mapping}
use Rattle.mmap_rules.specs.declared.want.Want.{Want}
use Rattle.mmap_rules.specs.Want.{wanted}
use Rattle.mmap_rules.specs.Mappings.{Hit, hit}
use Rattle.fd_tables.specs.declared.view.View.{View}
use Rattle.fd_tables.specs.declared.view.Target.{Target}
use Rattle.fd_tables.specs.declared.view.Target.TheVariants.{Console, Node as a_node, Pipe}
use Rattle.fd_tables.specs.declared.pipe_view.Ends.{Ends}
use Rattle.fd_tables.specs.Files.{two_free}
use Rattle.fd_tables.specs.Calls.{dup_number, dup3_fault, close_fault}
use Rattle.machine_world.specs.Free.{free_runs_in}
use Rattle.machine_world.specs.Asks.{Ask, Row, replies, waits, arg, refuses, answers, unless, with_ok, with_view, with_free, view_of, free_of}
use Rattle.machine_world.specs.PathCalls.{path_of, path_fault, with_path, changes_tree, remove_folder, creates, asks_folder, access, opens, open_fault, opens_found, mkdirat_row, unlinkat_row, openat_row}
use Rattle.machine_world.specs.Descriptors.{table_of, close_on_exec, dup_row, dup3_row, ioctl_row, close_row, opens_pipe, pipe2_row, position_from, base_of, sought, seek_row, llseek_row, is_short, folder_row, dents_row, getdents_row}
use Rattle.machine_world.specs.Transfers.{node_read}
use Rattle.machine_world.specs.MapCalls.{in_copy, in_free_run, maps, or_own, mapped, file_side, mmap2_row, unmaps, munmap_row}
use Rattle.machine_world.specs.Rows.{yield_row, brk_row, asks_pid}

abbrev pub Replies : Row → Type 0
Replies (replies r) = ⊤
Replies (waits state) = ⊥

never_if : (b : Bool) (x y : Row) → Replies x → Replies y → Replies (if b then x else y)
never_if true x y hx hy = hx
never_if false x y hx hy = hy

module _ (a : Ask) where
  never_fault : (o : Option Errno) (r : Row) → Replies r → Replies (unless a o r)
  never_fault None r h = h
  never_fault (Some e) r h = tt

  pub never_ok : {A : Type 0} (o : Result A Errno) (rows : A → Row) → ((x : A) → Replies (rows x)) → Replies (with_ok a o rows)
  never_ok (Ok x) rows each = each x
  never_ok (Err e) rows each = tt

  never_view : (o : Option View) (rows : View → Row) → ((v : View) → Replies (rows v)) → Replies (with_view a o rows)
  never_view (Some v) rows each = each v
  never_view None rows each = tt

  never_free : (o : Option ℕ) (rows : ℕ → Row) → ((fd : ℕ) → Replies (rows fd)) → Replies (with_free a o rows)
  never_free (Some fd) rows each = each fd
  never_free None rows each = tt

  never_path : (rows : List ℕ → Row) → Replies (rows (path_of a)) → Replies (with_path a rows)
  never_path rows holds = never_fault (path_fault (arg a 0) (path_of a)) (rows (path_of a)) holds

  pub never_dup : Replies (dup_row a)
  unfolding dup_row
  never_dup = never_ok (dup_number (view_of a (arg a 0)) (free_of a)) _ (λ free. tt)

  pub never_dup3 : Replies (dup3_row a)
  unfolding dup3_row
  never_dup3 =
      never_if (not (arg a 2 == 0 || arg a 2 == close_on_exec)) (refuses a Einval) _ tt
      (never_fault (dup3_fault (view_of a (arg a 0)) (arg a 0) (arg a 1)) _ tt)

  pub never_ioctl : Replies (ioctl_row a)
  unfolding ioctl_row
  never_ioctl = never_view (view_of a (arg a 0)) _ (λ v. tt)

  pub never_close : Replies (close_row a)
  unfolding close_row
  never_close = never_fault (close_fault (view_of a (arg a 0))) _ tt

  never_ends : (o : Option Ends) → Replies (opens_pipe a (arg a 1 == close_on_exec) o)
  never_ends None = tt
  never_ends (Some ends) = tt

  pub never_pipe2 : Replies (pipe2_row a)
  unfolding pipe2_row
  never_pipe2 = never_if (not (arg a 1 == 0 || arg a 1 == close_on_exec)) (refuses a Einval) _ tt (never_ends (two_free a.rest.files (table_of a)))

  pub never_mkdirat : Replies (mkdirat_row a)
  unfolding mkdirat_row
  never_mkdirat = never_path (λ path. with_ok a (with_folder a.rest.tree path) (changes_tree a)) (never_ok (with_folder a.rest.tree (path_of a)) (changes_tree a) (λ nodes. tt))

  pub never_unlinkat : Replies (unlinkat_row a)
  unfolding unlinkat_row
  never_unlinkat =
      never_if (not (arg a 2 == 0 || arg a 2 == remove_folder)) (refuses a Einval) _ tt
      (never_path (λ path. with_ok a (unlinked a.rest.tree path (arg a 2 == remove_folder)) (changes_tree a))
      (never_ok (unlinked a.rest.tree (path_of a) (arg a 2 == remove_folder)) (changes_tree a) (λ nodes. tt)))

  never_found : (o : Option ℕ) → Replies (opens_found a (path_of a) o)
  never_found (Some node) = never_fault (open_fault a.rest.tree node (arg a 2)) _ (never_free (free_of a) _ (λ fd. tt))
  never_found None =
      never_if (creates (arg a 2)) _ (refuses a Enoent)
      (never_free (free_of a) _ (λ fd. never_ok (with_file a.rest.tree (path_of a) [] None) (opens a fd (length a.rest.tree)) (λ nodes. tt))) tt

  pub never_openat : Replies (openat_row a)
  unfolding openat_row
  never_openat =
      never_if (access (arg a 2) == 3 || (creates (arg a 2) && asks_folder (arg a 2))) (refuses a Einval) _ tt
      (never_path (λ path. with_ok a (lookup a.rest.tree path) (opens_found a path)) (never_ok (lookup a.rest.tree (path_of a)) (opens_found a (path_of a)) never_found))

  never_sought : (o : Option ℕ) → Replies (sought a o)
  never_sought None = tt
  never_sought (Some at) = tt

  never_seek : (v : View) (t : Target) → Replies (seek_row a v t)
  never_seek v Console = tt
  never_seek v (Pipe id end) = tt
  never_seek v (a_node node) = never_if (nat_lt 2 (arg a 4)) (refuses a Einval) _ tt (never_sought (position_from (base_of a v node (arg a 4)) (arg a 1 * 2 ^ 32 + arg a 2)))

  pub never_llseek : Replies (llseek_row a)
  unfolding llseek_row
  never_llseek = never_view (view_of a (arg a 0)) _ (λ v. never_seek v v.target)

  never_folder : (v : View) (node : ℕ) (kind : Node) → Replies (folder_row a v node kind)
  never_folder v node File = tt
  never_folder v node Dir = never_if (is_short (arg a 2) (drop v.at (entries_of a.rest.tree node))) _ _ tt tt

  never_dents : (v : View) (t : Target) → Replies (dents_row a v t)
  never_dents v Console = tt
  never_dents v (Pipe id end) = tt
  never_dents v (a_node node) = never_folder v node (kind_of a.rest.tree node)

  pub never_getdents : Replies (getdents_row a)
  unfolding getdents_row
  never_getdents = never_view (view_of a (arg a 0)) _ (λ v. never_dents v v.target)

  never_unmaps : (o : Option Hit) → Replies (unmaps a o)
  never_unmaps (Some h) = tt
  never_unmaps None = tt

  never_munmap : Replies (munmap_row a)
  unfolding munmap_row
  never_munmap = never_unmaps (hit a.space.maps (arg a 0) (arg a 1))

  never_maps : (want : Want) (o : Option Mapping) → Replies (maps a want o)
  never_maps want (Some m) = tt
  never_maps want None = tt

  never_mmap2 : Replies (mmap2_row a)
  unfolding mmap2_row
  never_mmap2 =
      never_ok (wanted (arg a 0) (arg a 1) (arg a 2) (arg a 3) (arg a 5) (file_side a)) (mapped a)
      (λ want. never_maps want (or_own (in_copy a.spaces want) (in_free_run a.rest.kind (free_runs_in a.rest.pages a.spaces) want)))

  pub never_quiet : Replies (if asks_pid a.number then answers a a.process.pid
      else if a.number == 124 then yield_row a
      else if a.number == 173 then answers a a.process.parent
      else if a.number == 214 then brk_row a
      else if a.number == 215 then munmap_row a
      else if a.number == 222 then mmap2_row a
      else refuses a Enosys)
  unfolding yield_row brk_row
  never_quiet =
      never_if (asks_pid a.number) (answers a a.process.pid) _ tt
      (never_if (a.number == 124) (yield_row a) _ tt
      (never_if (a.number == 173) (answers a a.process.parent) _ tt
      (never_if (a.number == 214) (brk_row a) _ tt
      (never_if (a.number == 215) (munmap_row a) _ never_munmap
      (never_if (a.number == 222) (mmap2_row a) (refuses a Enosys) never_mmap2 tt)))))

  pub never_node_read : (v : View) (spans : List Span) (node : ℕ) (kind : Node) → Replies (node_read a v spans node kind)
  never_node_read v spans node Dir = tt
  never_node_read v spans node File = tt
