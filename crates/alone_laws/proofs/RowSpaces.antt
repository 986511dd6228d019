-- A row leaves the caller's mappings and bytes, but for munmap and mmap2. Where it waits, it is on a pipe.
use Rattle.std.proofs.Common.{◌≡◌, ℕ, ◌+◌, ◌*◌, Bool, true, false, not, List, [], ◌∷◌, length, map, take, drop, Option, Some, None, Result, Ok, Err, refl, sym, ◌∙◌}
use Rattle.std.specs.Prelude.{◌==◌, ◌||◌, ◌&&◌, ◌^◌, nat_lt, if◌then◌else◌}
use Rattle.std.specs.List.{range_with_len}
use Rattle.call_log.specs.declared.errno.Errno.{Errno}
use Rattle.call_log.specs.declared.errno.Errno.TheVariants.{Enoent, Ebadf, Enosys, Einval, Epipe}
use Rattle.call_log.specs.Sent.{Span, most_pieces, piece_at}
use Rattle.mmap_rules.specs.Space.{Space}
use Rattle.mem_files.specs.declared.node.Node.{Node}
use Rattle.mem_files.specs.declared.node.Node.TheVariants.{Dir, File}
use Rattle.mem_files.specs.Inodes.{kind_of, entries_of}
use Rattle.mem_files.specs.Paths.{lookup}
use Rattle.mem_files.specs.Changes.{with_folder, with_file, unlinked, written}
use Rattle.fd_tables.specs.declared.view.View.{View}
use Rattle.fd_tables.specs.declared.view.Target.{Target}
use Rattle.fd_tables.specs.declared.view.Target.TheVariants.{Console, Node as a_node, Pipe}
use Rattle.fd_tables.specs.declared.pipe_view.Ends.{Ends}
use Rattle.fd_tables.specs.Files.{two_free}
use Rattle.fd_tables.specs.Pipes.{pipe_view, pipe_bytes}
use Rattle.fd_tables.specs.Calls.{dup_number, dup3_fault, close_fault}
use Rattle.vfork_exec.specs.declared.family.State.{State}
use Rattle.vfork_exec.specs.declared.family.State.TheVariants.{Ready, Waiting, OnPipe, Lent}
use Rattle.machine_world.specs.Families.{is_lent}
use Rattle.machine_world.specs.Asks.{Ask, arg, Row, replies, waits, answers, refuses, unless, with_ok, view_of, with_view, free_of, with_free}
use Rattle.machine_world.specs.Descriptors.{table_of, close_on_exec, dup_row, dup3_row, ioctl_row, close_row, opens_pipe, pipe2_row, position_from, base_of, sought, seek_row, llseek_row, is_short, folder_row, dents_row, getdents_row}
use Rattle.machine_world.specs.Transfers.{node_read, moved_bytes, read_waits, taken_read, pipe_read, target_read, read_into, read_row, readv_row, write_position, pipe_room, write_waits, put_write, pipe_write, target_write, write_row, writev_row}
use Rattle.machine_world.specs.PathCalls.{path_of, path_fault, with_path, changes_tree, remove_folder, creates, asks_folder, access, opens, open_fault, opens_found, mkdirat_row, unlinkat_row, openat_row}
use Rattle.machine_world.specs.MapCalls.{mmap2_row, munmap_row}
use Rattle.machine_world.specs.Rows.{yield_row, brk_row, asks_pid, row}

-- the mappings and the bytes are as they were
pub record SameSpace (old now : Space) : Type 0 where
  pub maps : now.maps ≡ old.maps
  pub bytes : now.bytes ≡ old.bytes

-- no call of a row waits for children
abbrev pub IsOnPipe : State → Type 0
IsOnPipe Ready = ⊥
IsOnPipe (Waiting who) = ⊥
IsOnPipe (OnPipe pipe) = Unit {0}
IsOnPipe (Lent child) = ⊥

pub pipe_isnt_lent : (state : State) → IsOnPipe state → is_lent state ≡ false
pipe_isnt_lent Ready on = absurd on
pipe_isnt_lent (Waiting who) on = refl
pipe_isnt_lent (OnPipe pipe) on = refl
pipe_isnt_lent (Lent child) on = absurd on

abbrev pub LeavesSpace : Space → Row → Type 0
LeavesSpace s (replies r) = SameSpace s r.space
LeavesSpace s (waits state) = IsOnPipe state

module _ (a : Ask) where
  same : SameSpace a.space a.space
  same = record { maps = refl; bytes = refl }

  by_test : (b : Bool) (x y : Row) → (b ≡ true → LeavesSpace a.space x) → (b ≡ false → LeavesSpace a.space y) → LeavesSpace a.space (if b then x else y)
  by_test true x y hx hy = hx refl
  by_test false x y hx hy = hy refl

  by_if : (b : Bool) (x y : Row) → LeavesSpace a.space x → LeavesSpace a.space y → LeavesSpace a.space (if b then x else y)
  by_if true x y hx hy = hx
  by_if false x y hx hy = hy

  by_fault : (o : Option Errno) (r : Row) → LeavesSpace a.space r → LeavesSpace a.space (unless a o r)
  by_fault None r each = each
  by_fault (Some e) r each = same

  by_ok : {A : Type 0} (o : Result A Errno) (rows : A → Row) → ((x : A) → LeavesSpace a.space (rows x)) → LeavesSpace a.space (with_ok a o rows)
  by_ok (Ok x) rows each = each x
  by_ok (Err e) rows each = same

  by_view : (o : Option View) (rows : View → Row) → ((v : View) → LeavesSpace a.space (rows v)) → LeavesSpace a.space (with_view a o rows)
  by_view (Some v) rows each = each v
  by_view None rows each = same

  by_free : (o : Option ℕ) (rows : ℕ → Row) → ((fd : ℕ) → LeavesSpace a.space (rows fd)) → LeavesSpace a.space (with_free a o rows)
  by_free (Some fd) rows each = each fd
  by_free None rows each = same

  by_path : (rows : List ℕ → Row) → LeavesSpace a.space (rows (path_of a)) → LeavesSpace a.space (with_path a rows)
  by_path rows holds = by_fault (path_fault (arg a 0) (path_of a)) (rows (path_of a)) holds

  by_dup : LeavesSpace a.space (dup_row a)
  unfolding dup_row
  by_dup = by_ok (dup_number (view_of a (arg a 0)) (free_of a)) _ (λ free. same)

  by_dup3 : LeavesSpace a.space (dup3_row a)
  unfolding dup3_row
  by_dup3 =
      by_if (not (arg a 2 == 0 || arg a 2 == close_on_exec)) (refuses a Einval) _ same
      (by_fault (dup3_fault (view_of a (arg a 0)) (arg a 0) (arg a 1)) _ same)

  by_ioctl : LeavesSpace a.space (ioctl_row a)
  unfolding ioctl_row
  by_ioctl = by_view (view_of a (arg a 0)) _ (λ v. same)

  by_close : LeavesSpace a.space (close_row a)
  unfolding close_row
  by_close = by_fault (close_fault (view_of a (arg a 0))) _ same

  by_ends : (o : Option Ends) → LeavesSpace a.space (opens_pipe a (arg a 1 == close_on_exec) o)
  by_ends None = same
  by_ends (Some ends) = same

  by_pipe2 : LeavesSpace a.space (pipe2_row a)
  unfolding pipe2_row
  by_pipe2 = by_if (not (arg a 1 == 0 || arg a 1 == close_on_exec)) (refuses a Einval) _ same (by_ends (two_free a.rest.files (table_of a)))

  by_mkdirat : LeavesSpace a.space (mkdirat_row a)
  unfolding mkdirat_row
  by_mkdirat = by_path (λ path. with_ok a (with_folder a.rest.tree path) (changes_tree a)) (by_ok (with_folder a.rest.tree (path_of a)) (changes_tree a) (λ nodes. same))

  by_unlinkat : LeavesSpace a.space (unlinkat_row a)
  unfolding unlinkat_row
  by_unlinkat =
      by_if (not (arg a 2 == 0 || arg a 2 == remove_folder)) (refuses a Einval) _ same
      (by_path (λ path. with_ok a (unlinked a.rest.tree path (arg a 2 == remove_folder)) (changes_tree a))
      (by_ok (unlinked a.rest.tree (path_of a) (arg a 2 == remove_folder)) (changes_tree a) (λ nodes. same)))

  by_found : (o : Option ℕ) → LeavesSpace a.space (opens_found a (path_of a) o)
  by_found (Some node) = by_fault (open_fault a.rest.tree node (arg a 2)) _ (by_free (free_of a) _ (λ fd. same))
  by_found None =
      by_if (creates (arg a 2)) _ (refuses a Enoent)
      (by_free (free_of a) _ (λ fd. by_ok (with_file a.rest.tree (path_of a) [] None) (opens a fd (length a.rest.tree)) (λ nodes. same))) same

  by_openat : LeavesSpace a.space (openat_row a)
  unfolding openat_row
  by_openat =
      by_if (access (arg a 2) == 3 || (creates (arg a 2) && asks_folder (arg a 2))) (refuses a Einval) _ same
      (by_path (λ path. with_ok a (lookup a.rest.tree path) (opens_found a path)) (by_ok (lookup a.rest.tree (path_of a)) (opens_found a (path_of a)) by_found))

  -- a pipe
  by_pipe_read : (id : ℕ) (spans : List Span) → LeavesSpace a.space (pipe_read a id spans)
  by_pipe_read id spans =
      by_if (read_waits spans (pipe_view a.rest.files id)) (waits (OnPipe id)) (taken_read a id spans (moved_bytes spans (pipe_bytes a.rest.files id))) tt same

  by_pipe_write : (id : ℕ) (bytes : List ℕ) → LeavesSpace a.space (pipe_write a id bytes)
  by_pipe_write id bytes =
      by_if (length bytes == 0) (answers a 0) _ same
      (by_if (not (pipe_view a.rest.files id).read_open) (refuses a Epipe) _ same
      (by_if (write_waits (length bytes) (pipe_view a.rest.files id)) (waits (OnPipe id)) (put_write a id (take (pipe_room (pipe_view a.rest.files id)) bytes)) tt same))

  -- what a descriptor leads to
  module _ (v : View) where
    by_sought : (o : Option ℕ) → LeavesSpace a.space (sought a o)
    by_sought None = same
    by_sought (Some at) = same

    by_seek : (t : Target) → LeavesSpace a.space (seek_row a v t)
    by_seek Console = same
    by_seek (Pipe id write) = same
    by_seek (a_node node) = by_if (nat_lt 2 (arg a 4)) (refuses a Einval) _ same (by_sought (position_from (base_of a v node (arg a 4)) (arg a 1 * 2 ^ 32 + arg a 2)))

    by_folder : (node : ℕ) (kind : Node) → LeavesSpace a.space (folder_row a v node kind)
    by_folder node File = same
    by_folder node Dir = by_if (is_short (arg a 2) (drop v.at (entries_of a.rest.tree node))) _ _ same same

    by_dents : (t : Target) → LeavesSpace a.space (dents_row a v t)
    by_dents Console = same
    by_dents (Pipe id write) = same
    by_dents (a_node node) = by_folder node (kind_of a.rest.tree node)

    by_node_read : (spans : List Span) (node : ℕ) (kind : Node) → LeavesSpace a.space (node_read a v spans node kind)
    by_node_read spans node Dir = same
    by_node_read spans node File = same

    by_target_read : (spans : List Span) (t : Target) → LeavesSpace a.space (target_read a v spans t)
    by_target_read spans Console = same
    by_target_read spans (a_node node) = by_node_read spans node (kind_of a.rest.tree node)
    by_target_read spans (Pipe id write) = by_pipe_read id spans

    by_target_write : (bytes : List ℕ) (t : Target) → LeavesSpace a.space (target_write a v bytes t)
    by_target_write bytes Console = same
    by_target_write bytes (a_node node) = by_ok (written a.rest.tree node (write_position a v node) bytes) _ (λ nodes. same)
    by_target_write bytes (Pipe id write) = by_pipe_write id bytes

  by_llseek : LeavesSpace a.space (llseek_row a)
  unfolding llseek_row
  by_llseek = by_view (view_of a (arg a 0)) _ (λ v. by_seek v v.target)

  by_getdents : LeavesSpace a.space (getdents_row a)
  unfolding getdents_row
  by_getdents = by_view (view_of a (arg a 0)) _ (λ v. by_dents v v.target)

  by_read_into : (spans : List Span) → LeavesSpace a.space (read_into a spans)
  by_read_into spans = by_view (view_of a (arg a 0)) _ (λ v. by_if v.way.read _ (refuses a Ebadf) (by_target_read v spans v.target) same)

  by_read : LeavesSpace a.space (read_row a)
  unfolding read_row
  by_read = by_read_into (record { addr = arg a 1; len = arg a 2 } ∷ [])

  by_readv : LeavesSpace a.space (readv_row a)
  unfolding readv_row
  by_readv = by_if (nat_lt most_pieces (arg a 2)) (refuses a Einval) _ same (by_read_into (map (piece_at a.sent) (range_with_len 0 (arg a 2))))

  by_write : (bytes : List ℕ) → LeavesSpace a.space (write_row a bytes)
  unfolding write_row
  by_write bytes = by_view (view_of a (arg a 0)) _ (λ v. by_if v.way.write _ (refuses a Ebadf) (by_target_write v bytes v.target) same)

  by_writev : LeavesSpace a.space (writev_row a)
  unfolding writev_row
  by_writev = by_if (nat_lt most_pieces (arg a 2)) (refuses a Einval) _ same (by_write (drop (8 * arg a 2) a.sent))

  by_quiet : (a.number == 215) ≡ false → (a.number == 222) ≡ false → LeavesSpace a.space (if asks_pid a.number then answers a a.process.pid
      else if a.number == 124 then yield_row a
      else if a.number == 173 then answers a a.process.parent
      else if a.number == 214 then brk_row a
      else if a.number == 215 then munmap_row a
      else if a.number == 222 then mmap2_row a
      else refuses a Enosys)
  unfolding yield_row brk_row
  by_quiet no_munmap no_mmap2 =
      by_if (asks_pid a.number) (answers a a.process.pid) _ same
      (by_if (a.number == 124) (yield_row a) _ same
      (by_if (a.number == 173) (answers a a.process.parent) _ same
      (by_if (a.number == 214) (brk_row a) _ (record { maps = refl; bytes = refl })
      (by_test (a.number == 215) (munmap_row a) _ (λ is. absurd (false_true (sym no_munmap ∙ is)))
      (λ not. by_test (a.number == 222) (mmap2_row a) (refuses a Enosys) (λ is. absurd (false_true (sym no_mmap2 ∙ is))) (λ isnt. same))))))
    where
      false_true : false ≡ true → ⊥
      false_true e = cc

  pub row_leaves : (a.number == 215) ≡ false → (a.number == 222) ≡ false → LeavesSpace a.space (row a)
  unfolding row
  row_leaves no_munmap no_mmap2 =
      by_if (a.number == 23) (dup_row a) _ by_dup
      (by_if (a.number == 24) (dup3_row a) _ by_dup3
      (by_if (a.number == 29) (ioctl_row a) _ by_ioctl
      (by_if (a.number == 34) (mkdirat_row a) _ by_mkdirat
      (by_if (a.number == 35) (unlinkat_row a) _ by_unlinkat
      (by_if (a.number == 56) (openat_row a) _ by_openat
      (by_if (a.number == 57) (close_row a) _ by_close
      (by_if (a.number == 59) (pipe2_row a) _ by_pipe2
      (by_if (a.number == 61) (getdents_row a) _ by_getdents
      (by_if (a.number == 62) (llseek_row a) _ by_llseek
      (by_if (a.number == 63) (read_row a) _ by_read
      (by_if (a.number == 64) (write_row a a.sent) _ (by_write a.sent)
      (by_if (a.number == 65) (readv_row a) _ by_readv
      (by_if (a.number == 66) (writev_row a) _ by_writev (by_quiet no_munmap no_mmap2))))))))))))))

-- ---- single rows, by their numbers

pub row-munmap : (a : Ask) → a.number ≡ 215 → row a ≡ munmap_row a
unfolding row
row-munmap a is = rw is refl

pub row-mmap2 : (a : Ask) → a.number ≡ 222 → row a ≡ mmap2_row a
unfolding row
row-mmap2 a is = rw is refl
