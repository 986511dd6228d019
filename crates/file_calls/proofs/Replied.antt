-- Rows that don't wait: all but those of read, write, readv and writev.
use Rattle.std.proofs.Common.{◌≡◌, ℕ, ◌+◌, ◌*◌, ◌<◌, Bool, true, false, not, List, [], length, drop, Option, Some, None, Result, Ok, Err, refl}
use Rattle.std.specs.Prelude.{◌==◌, ◌||◌, ◌&&◌, ◌^◌, nat_lt, if◌then◌else◌}
use Rattle.std.proofs.lemmas.Bool.{eqb-true}
use Rattle.call_log.specs.declared.errno.Errno.{Errno}
use Rattle.call_log.specs.declared.errno.Errno.TheVariants.{Enoent, Einval, Enosys}
use Rattle.mmap_rules.specs.declared.mapping.Mapping.{Mapping}
use Rattle.mmap_rules.specs.declared.want.Want.{Want}
use Rattle.mmap_rules.specs.Want.{wanted}
use Rattle.mmap_rules.specs.Mappings.{Hit, hit}
use Rattle.mem_files.specs.declared.node.Node.{Node}
use Rattle.mem_files.specs.declared.node.Node.TheVariants.{Dir, File}
use Rattle.mem_files.specs.Inodes.{kind_of, entries_of}
use Rattle.mem_files.specs.Paths.{lookup}
use Rattle.mem_files.specs.Changes.{with_folder, with_file, unlinked}
use Rattle.fd_tables.specs.declared.view.View.{View}
use Rattle.fd_tables.specs.declared.view.Target.{Target}
use Rattle.fd_tables.specs.declared.view.Target.TheVariants.{Console, Node as a_node, Pipe}
use Rattle.fd_tables.specs.declared.pipe_view.Ends.{Ends}
use Rattle.fd_tables.specs.Files.{two_free}
use Rattle.fd_tables.specs.Calls.{dup_number, dup3_fault, close_fault}
use Rattle.machine_world.specs.Asks.{Ask, arg, Row, answers, refuses, unless, with_ok, view_of, with_view, free_of, with_free}
use Rattle.machine_world.specs.Descriptors.{table_of, close_on_exec, dup_row, dup3_row, ioctl_row, close_row, opens_pipe, pipe2_row, position_from, base_of, sought, seek_row, llseek_row, is_short, folder_row, dents_row, getdents_row}
use Rattle.machine_world.specs.Transfers.{read_row, readv_row, write_row, writev_row}
use Rattle.machine_world.specs.PathCalls.{path_of, path_fault, with_path, changes_tree, remove_folder, creates, asks_folder, access, opens, open_fault, opens_found, mkdirat_row, unlinkat_row, openat_row}
use Rattle.machine_world.specs.Free.{free_runs_in}
use Rattle.machine_world.specs.MapCalls.{in_copy, in_free_run, maps, or_own, mapped, file_side, mmap2_row, unmaps, munmap_row}
use Rattle.machine_world.specs.Rows.{yield_row, brk_row, asks_pid, row}
use Rattle.file_calls.specs.Calls.{WaitsOn}
use Rattle.file_calls.proofs.Asked.{lt_true}

abbrev pub Replied : Row → Type 0
Replied r = WaitsOn r None

by_test : (test : Bool) (part other : Row) → (test ≡ true → Replied part) → Replied other → Replied (if test then part else other)
by_test true part other here there = here refl
by_test false part other here there = there

pub by_if : (test : Bool) (part other : Row) → Replied part → Replied other → Replied (if test then part else other)
by_if true part other here there = here
by_if false part other here there = there

module _ (a : Ask) where
  by_fault : (fault : Option Errno) (part : Row) → Replied part → Replied (unless a fault part)
  by_fault None part h = h
  by_fault (Some fault) part h = tt

  pub by_ok : {A : Type 0} (r : Result A Errno) (parts : A → Row) → ((x : A) → Replied (parts x)) → Replied (with_ok a r parts)
  by_ok (Ok x) parts each = each x
  by_ok (Err fault) parts each = tt

  by_view : (o : Option View) (parts : View → Row) → ((v : View) → Replied (parts v)) → Replied (with_view a o parts)
  by_view (Some v) parts each = each v
  by_view None parts each = tt

  by_free : (o : Option ℕ) (parts : ℕ → Row) → ((fd : ℕ) → Replied (parts fd)) → Replied (with_free a o parts)
  by_free (Some fd) parts each = each fd
  by_free None parts each = tt

  by_path : (parts : List ℕ → Row) → Replied (parts (path_of a)) → Replied (with_path a parts)
  by_path parts h = by_fault (path_fault (arg a 0) (path_of a)) (parts (path_of a)) h

  by_dup : Replied (dup_row a)
  unfolding dup_row
  by_dup = by_ok (dup_number (view_of a (arg a 0)) (free_of a)) _ (λ free. tt)

  by_dup3 : Replied (dup3_row a)
  unfolding dup3_row
  by_dup3 =
      by_if (not (arg a 2 == 0 || arg a 2 == close_on_exec)) (refuses a Einval) _ tt
      (by_fault (dup3_fault (view_of a (arg a 0)) (arg a 0) (arg a 1)) _ tt)

  by_ioctl : Replied (ioctl_row a)
  unfolding ioctl_row
  by_ioctl = by_view (view_of a (arg a 0)) _ (λ v. tt)

  by_close : Replied (close_row a)
  unfolding close_row
  by_close = by_fault (close_fault (view_of a (arg a 0))) _ tt

  by_ends : (o : Option Ends) → Replied (opens_pipe a (arg a 1 == close_on_exec) o)
  by_ends None = tt
  by_ends (Some ends) = tt

  by_pipe2 : Replied (pipe2_row a)
  unfolding pipe2_row
  by_pipe2 = by_if (not (arg a 1 == 0 || arg a 1 == close_on_exec)) (refuses a Einval) _ tt (by_ends (two_free a.rest.files (table_of a)))

  by_mkdirat : Replied (mkdirat_row a)
  unfolding mkdirat_row
  by_mkdirat = by_path (λ path. with_ok a (with_folder a.rest.tree path) (changes_tree a)) (by_ok (with_folder a.rest.tree (path_of a)) (changes_tree a) (λ nodes. tt))

  by_unlinkat : Replied (unlinkat_row a)
  unfolding unlinkat_row
  by_unlinkat =
      by_if (not (arg a 2 == 0 || arg a 2 == remove_folder)) (refuses a Einval) _ tt
      (by_path (λ path. with_ok a (unlinked a.rest.tree path (arg a 2 == remove_folder)) (changes_tree a))
      (by_ok (unlinked a.rest.tree (path_of a) (arg a 2 == remove_folder)) (changes_tree a) (λ nodes. tt)))

  by_found : (o : Option ℕ) → Replied (opens_found a (path_of a) o)
  by_found (Some node) =
      by_fault (open_fault a.rest.tree node (arg a 2)) _ (by_free (free_of a) _ (λ fd. tt))
  by_found None =
      by_if (creates (arg a 2)) _ (refuses a Enoent)
      (by_free (free_of a) _ (λ fd. by_ok (with_file a.rest.tree (path_of a) [] None) (opens a fd (length a.rest.tree)) (λ nodes. tt)))
      tt

  by_openat : Replied (openat_row a)
  unfolding openat_row
  by_openat =
      by_if (access (arg a 2) == 3 || (creates (arg a 2) && asks_folder (arg a 2))) (refuses a Einval) _ tt
      (by_path (λ path. with_ok a (lookup a.rest.tree path) (opens_found a path))
      (by_ok (lookup a.rest.tree (path_of a)) (opens_found a (path_of a)) by_found))

  by_sought : (o : Option ℕ) → Replied (sought a o)
  by_sought None = tt
  by_sought (Some at) = tt

  by_seek : (v : View) (t : Target) → Replied (seek_row a v t)
  by_seek v Console = tt
  by_seek v (Pipe id end) = tt
  by_seek v (a_node node) =
      by_if (nat_lt 2 (arg a 4)) (refuses a Einval) _ tt (by_sought (position_from (base_of a v node (arg a 4)) (arg a 1 * 2 ^ 32 + arg a 2)))

  by_llseek : Replied (llseek_row a)
  unfolding llseek_row
  by_llseek = by_view (view_of a (arg a 0)) _ (λ v. by_seek v v.target)

  by_folder : (v : View) (node : ℕ) (kind : Node) → Replied (folder_row a v node kind)
  by_folder v node File = tt
  by_folder v node Dir = by_if (is_short (arg a 2) (drop v.at (entries_of a.rest.tree node))) _ _ tt tt

  by_dents : (v : View) (t : Target) → Replied (dents_row a v t)
  by_dents v Console = tt
  by_dents v (Pipe id end) = tt
  by_dents v (a_node node) = by_folder v node (kind_of a.rest.tree node)

  by_getdents : Replied (getdents_row a)
  unfolding getdents_row
  by_getdents = by_view (view_of a (arg a 0)) _ (λ v. by_dents v v.target)

  by_unmaps : (o : Option Hit) → Replied (unmaps a o)
  by_unmaps (Some h) = tt
  by_unmaps None = tt

  by_munmap : Replied (munmap_row a)
  unfolding munmap_row
  by_munmap = by_unmaps (hit a.space.maps (arg a 0) (arg a 1))

  by_maps : (want : Want) (o : Option Mapping) → Replied (maps a want o)
  by_maps want (Some m) = tt
  by_maps want None = tt

  by_mmap2 : Replied (mmap2_row a)
  unfolding mmap2_row
  by_mmap2 =
      by_ok (wanted (arg a 0) (arg a 1) (arg a 2) (arg a 3) (arg a 5) (file_side a)) (mapped a)
      (λ want. by_maps want (or_own (in_copy a.spaces want) (in_free_run a.rest.kind (free_runs_in a.rest.pages a.spaces) want)))

  by_quiet : Replied (if asks_pid a.number then answers a a.process.pid
      else if a.number == 124 then yield_row a
      else if a.number == 173 then answers a a.process.parent
      else if a.number == 214 then brk_row a
      else if a.number == 215 then munmap_row a
      else if a.number == 222 then mmap2_row a
      else refuses a Enosys)
  unfolding yield_row brk_row
  by_quiet =
      by_if (asks_pid a.number) (answers a a.process.pid) _ tt
      (by_if (a.number == 124) (yield_row a) _ tt
      (by_if (a.number == 173) (answers a a.process.parent) _ tt
      (by_if (a.number == 214) (brk_row a) _ tt
      (by_if (a.number == 215) (munmap_row a) _ by_munmap
      (by_if (a.number == 222) (mmap2_row a) (refuses a Enosys) by_mmap2 tt)))))

  -- a readv or writev of too many pieces is refused
  by_many : 1024 < arg a 2 → Replied (readv_row a)
  unfolding readv_row
  by_many many = rw (lt_true 1024 (arg a 2) many) tt

  by_many_sent : 1024 < arg a 2 → Replied (writev_row a)
  unfolding writev_row
  by_many_sent many = rw (lt_true 1024 (arg a 2) many) tt

  -- a number that isn't there
  isnt : (n : ℕ) (P : Type 0) → (a.number ≡ n → ⊥) → (a.number == n) ≡ true → P
  isnt n P other is = absurd (other (eqb-true a.number n is))

  pub others_reply : (a.number ≡ 63 → ⊥) → (a.number ≡ 64 → ⊥) → (a.number ≡ 65 → 1024 < arg a 2) → (a.number ≡ 66 → 1024 < arg a 2) → Replied (row a)
  unfolding row
  others_reply n63 n64 many many_sent =
      by_if (a.number == 23) (dup_row a) _ by_dup
      (by_if (a.number == 24) (dup3_row a) _ by_dup3
      (by_if (a.number == 29) (ioctl_row a) _ by_ioctl
      (by_if (a.number == 34) (mkdirat_row a) _ by_mkdirat
      (by_if (a.number == 35) (unlinkat_row a) _ by_unlinkat
      (by_if (a.number == 56) (openat_row a) _ by_openat
      (by_if (a.number == 57) (close_row a) _ by_close
      (by_if (a.number == 59) (pipe2_row a) _ by_pipe2
      (by_if (a.number == 61) (getdents_row a) _ by_getdents
      (by_if (a.number == 62) (llseek_row a) _ by_llseek
      (by_test (a.number == 63) (read_row a) _ (isnt 63 (Replied (read_row a)) n63)
      (by_test (a.number == 64) (write_row a a.sent) _ (isnt 64 (Replied (write_row a a.sent)) n64)
      (by_test (a.number == 65) (readv_row a) _ (λ is. by_many (many (eqb-true a.number 65 is)))
      (by_test (a.number == 66) (writev_row a) _ (λ is. by_many_sent (many_sent (eqb-true a.number 66 is))) by_quiet)))))))))))))
