-- No row gives a range of output that is empty.
use Rattle.std.proofs.Common.{◌≡◌, ◌≢◌, ℕ, ◌+◌, ◌*◌, Bool, true, false, not, List, [], ◌∷◌, length, map, take, drop, Option, Some, None, Result, Ok, Err, refl}
use Rattle.std.specs.Prelude.{◌==◌, ◌||◌, ◌&&◌, ◌^◌, nat_lt, if◌then◌else◌}
use Rattle.std.specs.List.{range_with_len, AllByRecursion}
use Rattle.call_log.specs.declared.errno.Errno.{Errno}
use Rattle.call_log.specs.declared.errno.Errno.TheVariants.{Enoent, Ebadf, Enosys, Einval, Epipe}
use Rattle.call_log.specs.declared.how.How.{How}
use Rattle.call_log.specs.Notes.{GotRange}
use Rattle.call_log.specs.Sent.{Span, most_pieces, piece_at}
use Rattle.mmap_rules.specs.declared.mapping.Mapping.{Mapping}
use Rattle.mmap_rules.specs.declared.want.Want.{Want}
use Rattle.mmap_rules.specs.Want.{wanted}
use Rattle.mmap_rules.specs.Mappings.{Hit, hit}
use Rattle.mem_files.specs.declared.node.Node.{Node}
use Rattle.mem_files.specs.declared.node.Node.TheVariants.{Dir, File}
use Rattle.mem_files.specs.Inodes.{kind_of, bytes_of, entries_of}
use Rattle.mem_files.specs.Paths.{lookup}
use Rattle.mem_files.specs.Changes.{with_folder, with_file, unlinked, written}
use Rattle.fd_tables.specs.declared.view.View.{View}
use Rattle.fd_tables.specs.declared.view.Target.{Target}
use Rattle.fd_tables.specs.declared.view.Target.TheVariants.{Console, Node as a_node, Pipe}
use Rattle.fd_tables.specs.declared.pipe_view.Ends.{Ends}
use Rattle.fd_tables.specs.Files.{two_free}
use Rattle.fd_tables.specs.Pipes.{pipe_view, pipe_bytes}
use Rattle.fd_tables.specs.Calls.{dup_number, dup3_fault, close_fault}
use Rattle.machine_world.specs.Free.{free_runs_in}
use Rattle.machine_world.specs.Asks.{Ask, arg, Row, replies, waits, answers, refuses, unless, with_ok, view_of, with_view, free_of, with_free}
use Rattle.machine_world.specs.Descriptors.{table_of, close_on_exec, dup_row, dup3_row, ioctl_row, close_row, opens_pipe, pipe2_row, position_from, base_of, sought, seek_row, llseek_row, listing, got_at, is_short, folder_row, dents_row, getdents_row}
use Rattle.machine_world.specs.Transfers.{scattered, node_read, moved_bytes, read_waits, taken_read, target_read, read_into, read_row, readv_row, write_position, pipe_room, write_waits, put_write, target_write, write_row, writev_row}
use Rattle.machine_world.specs.PathCalls.{path_of, path_fault, with_path, changes_tree, remove_folder, creates, asks_folder, access, opens, open_fault, opens_found, mkdirat_row, unlinkat_row, openat_row}
use Rattle.vfork_exec.specs.declared.family.State.TheVariants.{OnPipe}
use Rattle.machine_world.specs.FamilyCalls.{child_info, no_info, info_at}
use Rattle.machine_world.specs.MapCalls.{in_copy, in_free_run, maps, or_own, mapped, file_side, mmap2_row, unmaps, munmap_row}
use Rattle.machine_world.specs.Rows.{yield_row, brk_row, asks_pid, row}

abbrev pub AreSome : List GotRange → Type 0
AreSome got = AllByRecursion (λ (w : GotRange). w.bytes ≢ []) got

abbrev pub GivesSome : Row → Type 0
GivesSome (replies r) = AreSome r.got
GivesSome (waits state) = Unit {0}

-- ---- ranges

no_end : (b : ℕ) (bytes : List ℕ) → (b ∷ bytes) ≢ []
no_end b bytes is = cc

some_scattered : (bytes : List ℕ) (spans : List Span) → AreSome (scattered bytes spans)
some_scattered bytes [] = tt
some_scattered bytes (span ∷ spans) = by (some_scattered (drop span.len bytes) spans) (take span.len bytes) refl
  where
    by : AreSome (scattered (drop span.len bytes) spans) → (front : List ℕ) → take span.len bytes ≡ front → AreSome (scattered bytes (span ∷ spans))
    by more [] is = rw is more
    by more (b ∷ front) is = rw is (no_end b front, more)

some_at : (addr : ℕ) (bytes : List ℕ) → AreSome (got_at addr bytes)
some_at addr [] = tt
some_at addr (b ∷ bytes) = (no_end b bytes, tt)

module _ (a : Ask) where
  by_if : (b : Bool) (x y : Row) → GivesSome x → GivesSome y → GivesSome (if b then x else y)
  by_if true x y hx hy = hx
  by_if false x y hx hy = hy

  by_fault : (o : Option Errno) (r : Row) → GivesSome r → GivesSome (unless a o r)
  by_fault None r each = each
  by_fault (Some e) r each = tt

  by_ok : {A : Type 0} (o : Result A Errno) (rows : A → Row) → ((x : A) → GivesSome (rows x)) → GivesSome (with_ok a o rows)
  by_ok (Ok x) rows each = each x
  by_ok (Err e) rows each = tt

  by_view : (o : Option View) (rows : View → Row) → ((v : View) → GivesSome (rows v)) → GivesSome (with_view a o rows)
  by_view (Some v) rows each = each v
  by_view None rows each = tt

  by_free : (o : Option ℕ) (rows : ℕ → Row) → ((fd : ℕ) → GivesSome (rows fd)) → GivesSome (with_free a o rows)
  by_free (Some fd) rows each = each fd
  by_free None rows each = tt

  by_path : (rows : List ℕ → Row) → GivesSome (rows (path_of a)) → GivesSome (with_path a rows)
  by_path rows holds = by_fault (path_fault (arg a 0) (path_of a)) (rows (path_of a)) holds

  -- ---- calls on descriptors

  by_dup : GivesSome (dup_row a)
  unfolding dup_row
  by_dup = by_ok (dup_number (view_of a (arg a 0)) (free_of a)) _ (λ free. tt)

  by_dup3 : GivesSome (dup3_row a)
  unfolding dup3_row
  by_dup3 =
      by_if (not (arg a 2 == 0 || arg a 2 == close_on_exec)) (refuses a Einval) _ tt
      (by_fault (dup3_fault (view_of a (arg a 0)) (arg a 0) (arg a 1)) _ tt)

  by_ioctl : GivesSome (ioctl_row a)
  unfolding ioctl_row
  by_ioctl = by_view (view_of a (arg a 0)) _ (λ v. tt)

  by_close : GivesSome (close_row a)
  unfolding close_row
  by_close = by_fault (close_fault (view_of a (arg a 0))) _ tt

  by_ends : (o : Option Ends) → GivesSome (opens_pipe a (arg a 1 == close_on_exec) o)
  by_ends None = tt
  by_ends (Some ends) = (no_end _ _, tt)

  by_pipe2 : GivesSome (pipe2_row a)
  unfolding pipe2_row
  by_pipe2 = by_if (not (arg a 1 == 0 || arg a 1 == close_on_exec)) (refuses a Einval) _ tt (by_ends (two_free a.rest.files (table_of a)))

  -- ---- calls on paths

  by_mkdirat : GivesSome (mkdirat_row a)
  unfolding mkdirat_row
  by_mkdirat = by_path (λ path. with_ok a (with_folder a.rest.tree path) (changes_tree a)) (by_ok (with_folder a.rest.tree (path_of a)) (changes_tree a) (λ nodes. tt))

  by_unlinkat : GivesSome (unlinkat_row a)
  unfolding unlinkat_row
  by_unlinkat =
      by_if (not (arg a 2 == 0 || arg a 2 == remove_folder)) (refuses a Einval) _ tt
      (by_path (λ path. with_ok a (unlinked a.rest.tree path (arg a 2 == remove_folder)) (changes_tree a))
      (by_ok (unlinked a.rest.tree (path_of a) (arg a 2 == remove_folder)) (changes_tree a) (λ nodes. tt)))

  by_found : (o : Option ℕ) → GivesSome (opens_found a (path_of a) o)
  by_found (Some node) = by_fault (open_fault a.rest.tree node (arg a 2)) _ (by_free (free_of a) _ (λ fd. tt))
  by_found None =
      by_if (creates (arg a 2)) _ (refuses a Enoent)
      (by_free (free_of a) _ (λ fd. by_ok (with_file a.rest.tree (path_of a) [] None) (opens a fd (length a.rest.tree)) (λ nodes. tt))) tt

  by_openat : GivesSome (openat_row a)
  unfolding openat_row
  by_openat =
      by_if (access (arg a 2) == 3 || (creates (arg a 2) && asks_folder (arg a 2))) (refuses a Einval) _ tt
      (by_path (λ path. with_ok a (lookup a.rest.tree path) (opens_found a path)) (by_ok (lookup a.rest.tree (path_of a)) (opens_found a (path_of a)) by_found))

  -- ---- calls on what a descriptor leads to

  module _ (v : View) where
    by_sought : (o : Option ℕ) → GivesSome (sought a o)
    by_sought None = tt
    by_sought (Some at) = (no_end _ _, tt)

    by_seek : (t : Target) → GivesSome (seek_row a v t)
    by_seek Console = tt
    by_seek (Pipe id end) = tt
    by_seek (a_node node) = by_if (nat_lt 2 (arg a 4)) (refuses a Einval) _ tt (by_sought (position_from (base_of a v node (arg a 4)) (arg a 1 * 2 ^ 32 + arg a 2)))

    by_folder : (node : ℕ) (kind : Node) → GivesSome (folder_row a v node kind)
    by_folder node File = tt
    by_folder node Dir =
        by_if (is_short (arg a 2) (drop v.at (entries_of a.rest.tree node))) _ _ tt
        (some_at (arg a 1) (listing a.rest.tree (arg a 2) v.at (drop v.at (entries_of a.rest.tree node))).bytes)

    by_dents : (t : Target) → GivesSome (dents_row a v t)
    by_dents Console = tt
    by_dents (Pipe id end) = tt
    by_dents (a_node node) = by_folder node (kind_of a.rest.tree node)

    module _ (spans : List Span) where
      by_node_read : (node : ℕ) (kind : Node) → GivesSome (node_read a v spans node kind)
      by_node_read node Dir = tt
      by_node_read node File = some_scattered (moved_bytes spans (drop v.at (bytes_of a.rest.tree node))) spans

      by_target_read : (t : Target) → GivesSome (target_read a v spans t)
      by_target_read Console = some_scattered (moved_bytes spans a.rest.files.stdin) spans
      by_target_read (a_node node) = by_node_read node (kind_of a.rest.tree node)
      by_target_read (Pipe id end) =
          by_if (read_waits spans (pipe_view a.rest.files id)) (waits (OnPipe id)) (taken_read a id spans (moved_bytes spans (pipe_bytes a.rest.files id))) tt
          (some_scattered (moved_bytes spans (pipe_bytes a.rest.files id)) spans)

    by_target_write : (bytes : List ℕ) (t : Target) → GivesSome (target_write a v bytes t)
    by_target_write bytes Console = tt
    by_target_write bytes (a_node node) = by_ok (written a.rest.tree node (write_position a v node) bytes) _ (λ nodes. tt)
    by_target_write bytes (Pipe id end) =
        by_if (length bytes == 0) (answers a 0) _ tt
        (by_if (not (pipe_view a.rest.files id).read_open) (refuses a Epipe) _ tt
        (by_if (write_waits (length bytes) (pipe_view a.rest.files id)) (waits (OnPipe id)) (put_write a id (take (pipe_room (pipe_view a.rest.files id)) bytes)) tt tt))

  by_llseek : GivesSome (llseek_row a)
  unfolding llseek_row
  by_llseek = by_view (view_of a (arg a 0)) _ (λ v. by_seek v v.target)

  by_getdents : GivesSome (getdents_row a)
  unfolding getdents_row
  by_getdents = by_view (view_of a (arg a 0)) _ (λ v. by_dents v v.target)

  by_read_into : (spans : List Span) → GivesSome (read_into a spans)
  by_read_into spans = by_view (view_of a (arg a 0)) _ (λ v. by_if v.way.read _ (refuses a Ebadf) (by_target_read v spans v.target) tt)

  by_read : GivesSome (read_row a)
  unfolding read_row
  by_read = by_read_into (record { addr = arg a 1; len = arg a 2 } ∷ [])

  by_readv : GivesSome (readv_row a)
  unfolding readv_row
  by_readv = by_if (nat_lt most_pieces (arg a 2)) (refuses a Einval) _ tt (by_read_into (map (piece_at a.sent) (range_with_len 0 (arg a 2))))

  by_write : (bytes : List ℕ) → GivesSome (write_row a bytes)
  unfolding write_row
  by_write bytes = by_view (view_of a (arg a 0)) _ (λ v. by_if v.way.write _ (refuses a Ebadf) (by_target_write v bytes v.target) tt)

  by_writev : GivesSome (writev_row a)
  unfolding writev_row
  by_writev = by_if (nat_lt most_pieces (arg a 2)) (refuses a Einval) _ tt (by_write (drop (8 * arg a 2) a.sent))

  -- ---- calls on pages

  by_unmaps : (o : Option Hit) → GivesSome (unmaps a o)
  by_unmaps (Some h) = tt
  by_unmaps None = tt

  by_munmap : GivesSome (munmap_row a)
  unfolding munmap_row
  by_munmap = by_unmaps (hit a.space.maps (arg a 0) (arg a 1))

  by_maps : (want : Want) (o : Option Mapping) → GivesSome (maps a want o)
  by_maps want (Some m) = tt
  by_maps want None = tt

  by_mmap2 : GivesSome (mmap2_row a)
  unfolding mmap2_row
  by_mmap2 =
      by_ok (wanted (arg a 0) (arg a 1) (arg a 2) (arg a 3) (arg a 5) (file_side a)) (mapped a)
      (λ want. by_maps want (or_own (in_copy a.spaces want) (in_free_run a.rest.kind (free_runs_in a.rest.pages a.spaces) want)))

  -- ---- any call

  by_quiet : GivesSome (if asks_pid a.number then answers a a.process.pid
      else if a.number == 124 then yield_row a
      else if a.number == 173 then answers a a.process.parent
      else if a.number == 214 then brk_row a
      else if a.number == 215 then munmap_row a
      else if a.number == 222 then mmap2_row a
      else refuses a Enosys)
  unfolding yield_row brk_row
  by_quiet =
      by_if (asks_pid a.number) (answers a a.process.pid) _ tt
      (by_if (a.number == 124) (yield_row a) _ tt
      (by_if (a.number == 173) (answers a a.process.parent) _ tt
      (by_if (a.number == 214) (brk_row a) _ tt
      (by_if (a.number == 215) (munmap_row a) _ by_munmap (by_if (a.number == 222) (mmap2_row a) (refuses a Enosys) by_mmap2 tt)))))

  pub some_row : GivesSome (row a)
  unfolding row
  some_row =
      by_if (a.number == 23) (dup_row a) _ by_dup
      (by_if (a.number == 24) (dup3_row a) _ by_dup3
      (by_if (a.number == 29) (ioctl_row a) _ by_ioctl
      (by_if (a.number == 34) (mkdirat_row a) _ by_mkdirat
      (by_if (a.number == 35) (unlinkat_row a) _ by_unlinkat
      (by_if (a.number == 56) (openat_row a) _ by_openat
      (by_if (a.number == 57) (close_row a) _ by_close
      (by_if (a.number == 59) (pipe2_row a) _ by_pipe2
      (by_if (a.number == 61) (getdents_row a) _ by_getdents
      (by_if (a.number == 62) (llseek_row a) _ by_llseek
      (by_if (a.number == 63) (read_row a) _ by_read
      (by_if (a.number == 64) (write_row a a.sent) _ (by_write a.sent)
      (by_if (a.number == 65) (readv_row a) _ by_readv
      (by_if (a.number == 66) (writev_row a) _ by_writev by_quiet)))))))))))))

-- ---- what a waitid writes

pub some_info : (at : ℕ) (pid : ℕ) (how : How) → AreSome (info_at at (child_info pid how))
unfolding child_info
some_info at pid how = at_zero (at == 0)
  where
    at_zero : (b : Bool) → AreSome (if b then [] else record { addr = at; bytes = child_info pid how } ∷ [])
    at_zero true = tt
    at_zero false = (no_end _ _, tt)

pub some_none : (at : ℕ) → AreSome (info_at at no_info)
some_none at = at_zero (at == 0)
  where
    at_zero : (b : Bool) → AreSome (if b then [] else record { addr = at; bytes = no_info } ∷ [])
    at_zero true = tt
    at_zero false = (no_end _ _, tt)
