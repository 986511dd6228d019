-- What holds of all that is outside of the space, as it is and after each change of `EachChange`, holds of it after every row.
use Rattle.std.proofs.Common.{◌≡◌, ℕ, ◌+◌, ◌*◌, Bool, true, false, not, List, [], ◌∷◌, length, map, take, drop, Option, Some, None, Result, Ok, refl, subst}
use Rattle.std.specs.Prelude.{◌==◌, ◌||◌, ◌&&◌, ◌^◌, nat_lt, if◌then◌else◌}
use Rattle.std.specs.List.{range_with_len}
use Rattle.call_log.specs.declared.errno.Errno.{Errno}
use Rattle.call_log.specs.declared.errno.Errno.TheVariants.{Enoent, Ebadf, Enosys, Einval, Epipe}
use Rattle.call_log.specs.Sent.{Span, most_pieces, piece_at}
use Rattle.mmap_rules.specs.declared.mapping.Mapping.{Mapping}
use Rattle.mmap_rules.specs.declared.want.Want.{Want}
use Rattle.mmap_rules.specs.Want.{wanted}
use Rattle.mmap_rules.specs.Mappings.{Hit, hit}
use Rattle.mem_files.specs.declared.node.Node.{Node}
use Rattle.mem_files.specs.declared.node.Node.TheVariants.{Dir, File}
use Rattle.mem_files.specs.Inodes.{Inodes, kind_of, entries_of}
use Rattle.mem_files.specs.Paths.{lookup}
use Rattle.mem_files.specs.Changes.{with_folder, with_file, unlinked, written}
use Rattle.fd_tables.specs.declared.view.View.{View}
use Rattle.fd_tables.specs.declared.view.Target.{Target}
use Rattle.fd_tables.specs.declared.view.Target.TheVariants.{Console, Node as a_node, Pipe}
use Rattle.fd_tables.specs.declared.pipe_view.Ends.{Ends}
use Rattle.fd_tables.specs.Files.{two_free}
use Rattle.fd_tables.specs.Pipes.{pipe_view, pipe_bytes}
use Rattle.fd_tables.specs.Calls.{dup_number, dup3_fault, close_fault}
use Rattle.vfork_exec.specs.declared.family.State.TheVariants.{OnPipe}
use Rattle.machine_world.specs.World.{Rest}
use Rattle.machine_world.specs.Asks.{Ask, arg, waits, answers, refuses, with_ok, view_of, free_of}
use Rattle.machine_world.specs.Descriptors.{table_of, close_on_exec, dup_row, dup3_row, ioctl_row, close_row, opens_pipe, pipe2_row, position_from, base_of, sought, seek_row, llseek_row, is_short, folder_row, dents_row, getdents_row}
use Rattle.machine_world.specs.Transfers.{node_read, moved_bytes, read_waits, taken_read, target_read, read_into, read_row, readv_row, write_position, after_write, pipe_room, write_waits, put_write, target_write, write_row, writev_row}
use Rattle.machine_world.specs.PathCalls.{path_of, changes_tree, remove_folder, creates, asks_folder, access, opens, open_fault, opens_found, mkdirat_row, unlinkat_row, openat_row}
use Rattle.machine_world.specs.Free.{free_runs_in}
use Rattle.machine_world.specs.MapCalls.{in_copy, in_free_run, maps, or_own, mapped, file_side, mmap2_row, unmaps, munmap_row}
use Rattle.machine_world.specs.Rows.{yield_row, brk_row, asks_pid, row}
use Rattle.machine_world.proofs.EachChange.{Answers, moves, EachChange, by_test, by_if, by_fault, by_ok, by_view, by_free, by_path}

module _ (P : Rest → Type 0) (a : Ask) (kept : EachChange P a) (same : P a.rest) where
  by_dup : Answers P (dup_row a)
  unfolding dup_row
  by_dup = by_ok P a same (dup_number (view_of a (arg a 0)) (free_of a)) _ kept.dup

  by_dup3 : Answers P (dup3_row a)
  unfolding dup3_row
  by_dup3 =
      by_if P (not (arg a 2 == 0 || arg a 2 == close_on_exec)) (refuses a Einval) _ same
      (by_fault P a same (dup3_fault (view_of a (arg a 0)) (arg a 0) (arg a 1)) _ kept.dup3)

  by_ioctl : Answers P (ioctl_row a)
  unfolding ioctl_row
  by_ioctl = by_view P a same (view_of a (arg a 0)) _ (λ v is. same)

  by_close : Answers P (close_row a)
  unfolding close_row
  by_close = by_fault P a same (close_fault (view_of a (arg a 0))) _ kept.close

  by_ends : (o : Option Ends) → two_free a.rest.files (table_of a) ≡ o → Answers P (opens_pipe a (arg a 1 == close_on_exec) o)
  by_ends None is = same
  by_ends (Some ends) is = kept.pipe ends is

  by_pipe2 : Answers P (pipe2_row a)
  unfolding pipe2_row
  by_pipe2 = by_if P (not (arg a 1 == 0 || arg a 1 == close_on_exec)) (refuses a Einval) _ same (by_ends (two_free a.rest.files (table_of a)) refl)

  by_mkdirat : Answers P (mkdirat_row a)
  unfolding mkdirat_row
  by_mkdirat =
      by_path P a same (λ path. with_ok a (with_folder a.rest.tree path) (changes_tree a))
      (by_ok P a same (with_folder a.rest.tree (path_of a)) (changes_tree a) kept.make)

  by_unlinkat : Answers P (unlinkat_row a)
  unfolding unlinkat_row
  by_unlinkat =
      by_if P (not (arg a 2 == 0 || arg a 2 == remove_folder)) (refuses a Einval) _ same
      (by_path P a same (λ path. with_ok a (unlinked a.rest.tree path (arg a 2 == remove_folder)) (changes_tree a))
      (by_ok P a same (unlinked a.rest.tree (path_of a) (arg a 2 == remove_folder)) (changes_tree a) kept.remove))

  by_found : (o : Option ℕ) → lookup a.rest.tree (path_of a) ≡ Ok o → Answers P (opens_found a (path_of a) o)
  by_found (Some node) is =
      by_fault P a same (open_fault a.rest.tree node (arg a 2)) _
      (λ none. by_free P a same (free_of a) _ (λ fd free. kept.open_old fd node free is none))
  by_found None is =
      by_test P (creates (arg a 2)) _ (refuses a Enoent)
      (λ may. by_free P a same (free_of a) _
      (λ fd free. by_ok P a same (with_file a.rest.tree (path_of a) [] None) (opens a fd (length a.rest.tree))
      (λ nodes made. kept.open_new fd nodes free is may made)))
      same

  by_openat : Answers P (openat_row a)
  unfolding openat_row
  by_openat =
      by_if P (access (arg a 2) == 3 || (creates (arg a 2) && asks_folder (arg a 2))) (refuses a Einval) _ same
      (by_path P a same (λ path. with_ok a (lookup a.rest.tree path) (opens_found a path))
      (by_ok P a same (lookup a.rest.tree (path_of a)) (opens_found a (path_of a)) by_found))

  -- what a descriptor leads to
  module _ (v : View) (shown : view_of a (arg a 0) ≡ Some v) where
    by_sought : (node : ℕ) → v.target ≡ a_node node → (o : Option ℕ)
        → position_from (base_of a v node (arg a 4)) (arg a 1 * 2 ^ 32 + arg a 2) ≡ o → Answers P (sought a o)
    by_sought node leads None is = same
    by_sought node leads (Some at) is = kept.seek v node at (shown, leads) is

    by_seek : (t : Target) → v.target ≡ t → Answers P (seek_row a v t)
    by_seek Console leads = same
    by_seek (Pipe id end) leads = same
    by_seek (a_node node) leads = by_if P (nat_lt 2 (arg a 4)) (refuses a Einval) _ same (by_sought node leads _ refl)

    by_folder : (node : ℕ) → v.target ≡ a_node node → (kind : Node) → kind_of a.rest.tree node ≡ kind → Answers P (folder_row a v node kind)
    by_folder node leads File is = same
    by_folder node leads Dir is =
        by_if P (is_short (arg a 2) (drop v.at (entries_of a.rest.tree node))) _ _ same (kept.list v node (shown, leads) is)

    by_dents : (t : Target) → v.target ≡ t → Answers P (dents_row a v t)
    by_dents Console leads = same
    by_dents (Pipe id end) leads = same
    by_dents (a_node node) leads = by_folder node leads _ refl

    module _ (reads : v.way.read ≡ true) (spans : List Span) where
      by_node_read : (node : ℕ) → v.target ≡ a_node node → (kind : Node) → kind_of a.rest.tree node ≡ kind → Answers P (node_read a v spans node kind)
      by_node_read node leads Dir is = same
      by_node_read node leads File is = kept.read v node spans (shown, leads) reads is

      by_target_read : (t : Target) → v.target ≡ t → Answers P (target_read a v spans t)
      by_target_read Console leads = kept.take v spans (shown, leads) reads
      by_target_read (a_node node) leads = by_node_read node leads _ refl
      by_target_read (Pipe id end) leads =
          by_if P (read_waits spans (pipe_view a.rest.files id)) (waits (OnPipe id)) (taken_read a id spans (moved_bytes spans (pipe_bytes a.rest.files id))) tt
          (kept.drain v id end spans (shown, leads) reads)

    module _ (writes : v.way.write ≡ true) (bytes : List ℕ) where
      -- a write of no bytes changes nothing
      by_written : (node : ℕ) (nodes : Inodes) → v.target ≡ a_node node → written a.rest.tree node (write_position a v node) bytes ≡ Ok nodes
          → P (record a.rest { tree = nodes; files = after_write a (write_position a v node) bytes })
      unfolding written
      by_written node nodes leads is = by_len (length bytes == 0) _ refl is
        where
          by_len : (b : Bool) (others : Result Inodes Errno) → (length bytes == 0) ≡ b → (if b then Ok a.rest.tree else others) ≡ Ok nodes
              → P (record a.rest { tree = nodes; files = if b then a.rest.files else moves a (write_position a v node + length bytes) })
          by_len true others len done = let unchanged : a.rest.tree ≡ nodes = cc in subst (λ ns. P (record a.rest { tree = ns })) unchanged same
          by_len false others len done = kept.write v node bytes nodes (shown, leads) writes len is

      by_target_write : (t : Target) → v.target ≡ t → Answers P (target_write a v bytes t)
      by_target_write Console leads = kept.print v bytes (shown, leads) writes
      by_target_write (a_node node) leads =
          by_ok P a same (written a.rest.tree node (write_position a v node) bytes) _ (λ nodes is. by_written node nodes leads is)
      by_target_write (Pipe id end) leads =
          by_if P (length bytes == 0) (answers a 0) _ same
          (by_if P (not (pipe_view a.rest.files id).read_open) (refuses a Epipe) _ same
          (by_if P (write_waits (length bytes) (pipe_view a.rest.files id)) (waits (OnPipe id)) (put_write a id (take (pipe_room (pipe_view a.rest.files id)) bytes)) tt
          (kept.fill v id end bytes (shown, leads) writes)))

  by_llseek : Answers P (llseek_row a)
  unfolding llseek_row
  by_llseek = by_view P a same (view_of a (arg a 0)) _ (λ v shown. by_seek v shown v.target refl)

  by_getdents : Answers P (getdents_row a)
  unfolding getdents_row
  by_getdents = by_view P a same (view_of a (arg a 0)) _ (λ v shown. by_dents v shown v.target refl)

  by_read_into : (spans : List Span) → Answers P (read_into a spans)
  by_read_into spans =
      by_view P a same (view_of a (arg a 0)) _
      (λ v shown. by_test P v.way.read _ (refuses a Ebadf) (λ reads. by_target_read v shown reads spans v.target refl) same)

  by_read : Answers P (read_row a)
  unfolding read_row
  by_read = by_read_into (record { addr = arg a 1; len = arg a 2 } ∷ [])

  by_readv : Answers P (readv_row a)
  unfolding readv_row
  by_readv = by_if P (nat_lt most_pieces (arg a 2)) (refuses a Einval) _ same (by_read_into (map (piece_at a.sent) (range_with_len 0 (arg a 2))))

  by_write : (bytes : List ℕ) → Answers P (write_row a bytes)
  unfolding write_row
  by_write bytes =
      by_view P a same (view_of a (arg a 0)) _
      (λ v shown. by_test P v.way.write _ (refuses a Ebadf) (λ writes. by_target_write v shown writes bytes v.target refl) same)

  by_writev : Answers P (writev_row a)
  unfolding writev_row
  by_writev = by_if P (nat_lt most_pieces (arg a 2)) (refuses a Einval) _ same (by_write (drop (8 * arg a 2) a.sent))

  by_unmaps : (o : Option Hit) → Answers P (unmaps a o)
  by_unmaps (Some h) = same
  by_unmaps None = same

  by_munmap : Answers P (munmap_row a)
  unfolding munmap_row
  by_munmap = by_unmaps (hit a.space.maps (arg a 0) (arg a 1))

  by_maps : (want : Want) (o : Option Mapping) → Answers P (maps a want o)
  by_maps want (Some m) = same
  by_maps want None = same

  by_mmap2 : Answers P (mmap2_row a)
  unfolding mmap2_row
  by_mmap2 =
      by_ok P a same (wanted (arg a 0) (arg a 1) (arg a 2) (arg a 3) (arg a 5) (file_side a)) (mapped a)
      (λ want is. by_maps want (or_own (in_copy a.spaces want) (in_free_run a.rest.kind (free_runs_in a.rest.pages a.spaces) want)))

  -- all other numbers leave what is outside
  by_quiet : Answers P (if asks_pid a.number then answers a a.process.pid
      else if a.number == 124 then yield_row a
      else if a.number == 173 then answers a a.process.parent
      else if a.number == 214 then brk_row a
      else if a.number == 215 then munmap_row a
      else if a.number == 222 then mmap2_row a
      else refuses a Enosys)
  unfolding yield_row brk_row
  by_quiet =
      by_if P (asks_pid a.number) (answers a a.process.pid) _ same
      (by_if P (a.number == 124) (yield_row a) _ same
      (by_if P (a.number == 173) (answers a a.process.parent) _ same
      (by_if P (a.number == 214) (brk_row a) _ same
      (by_if P (a.number == 215) (munmap_row a) _ by_munmap
      (by_if P (a.number == 222) (mmap2_row a) (refuses a Enosys) by_mmap2 same)))))

  pub by_rows : Answers P (row a)
  unfolding row
  by_rows =
      by_if P (a.number == 23) (dup_row a) _ by_dup
      (by_if P (a.number == 24) (dup3_row a) _ by_dup3
      (by_if P (a.number == 29) (ioctl_row a) _ by_ioctl
      (by_if P (a.number == 34) (mkdirat_row a) _ by_mkdirat
      (by_if P (a.number == 35) (unlinkat_row a) _ by_unlinkat
      (by_if P (a.number == 56) (openat_row a) _ by_openat
      (by_if P (a.number == 57) (close_row a) _ by_close
      (by_if P (a.number == 59) (pipe2_row a) _ by_pipe2
      (by_if P (a.number == 61) (getdents_row a) _ by_getdents
      (by_if P (a.number == 62) (llseek_row a) _ by_llseek
      (by_if P (a.number == 63) (read_row a) _ by_read
      (by_if P (a.number == 64) (write_row a a.sent) _ (by_write a.sent)
      (by_if P (a.number == 65) (readv_row a) _ by_readv
      (by_if P (a.number == 66) (writev_row a) _ by_writev by_quiet)))))))))))))
