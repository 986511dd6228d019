-- What holds of each reply that a row can give, and of each refusal, holds of every row.
use Rattle.std.proofs.Common.{◌≡◌, ℕ, ◌+◌, ◌*◌, ◌<◌, ◌≤◌, Bool, true, false, not, List, [], ◌∷◌, length, map, take, drop, Option, Some, None, Result, Ok, Err, refl, ap, arith}
use Rattle.std.specs.Prelude.{◌==◌, ◌||◌, ◌&&◌, ◌^◌, nat_lt, min, is_some, option_map, if◌then◌else◌}
use Rattle.std.specs.List.{range_with_len}
use Rattle.std.proofs.lemmas.Bool.Decides.{nat_tests}
use Rattle.std.proofs.lemmas.Bool.{eqb-true}
use Rattle.std.proofs.lemmas.List.{length-take, length-drop}
use Rattle.byte_words.specs.Search.{first}
use Rattle.call_log.specs.declared.errno.Errno.{Errno}
use Rattle.call_log.specs.declared.errno.Errno.TheVariants.{Enoent, Ebadf, Enosys, Enomem, Einval, Emfile, Epipe, Espipe, Enotdir, Eisdir, Enotty}
use Rattle.call_log.specs.Notes.{GotRange, weight_of}
use Rattle.call_log.specs.Sent.{Span, most_moved, most_pieces, piece_at}
use Rattle.mmap_rules.specs.declared.mapping.Mapping.{Mapping}
use Rattle.mmap_rules.specs.declared.want.Want.{Want}
use Rattle.mmap_rules.specs.Want.{wanted}
use Rattle.mmap_rules.specs.Mappings.{Hit, hit, without_hit}
use Rattle.mmap_rules.specs.Copies.{wanted_bytes}
use Rattle.mem_files.specs.declared.node.Node.{Node}
use Rattle.mem_files.specs.declared.node.Node.TheVariants.{Dir, File}
use Rattle.mem_files.specs.Inodes.{Inodes, kind_of, bytes_of, entries_of}
use Rattle.mem_files.specs.Paths.{lookup}
use Rattle.mem_files.specs.Changes.{with_folder, with_file, unlinked, written}
use Rattle.fd_tables.specs.declared.view.View.{View}
use Rattle.fd_tables.specs.declared.view.Target.{Target}
use Rattle.fd_tables.specs.declared.view.Target.TheVariants.{Console, Node as a_node, Pipe}
use Rattle.fd_tables.specs.declared.pipe_view.Ends.{Ends}
use Rattle.fd_tables.specs.Files.{most_descriptors, OpenFiles, two_free}
use Rattle.fd_tables.specs.Pipes.{pipe_view, pipe_bytes}
use Rattle.fd_tables.specs.Calls.{dup_number, dup3_fault, close_fault}
use Rattle.vfork_exec.specs.declared.family.State.{State}
use Rattle.vfork_exec.specs.declared.family.State.TheVariants.{OnPipe}
use Rattle.machine_world.specs.World.{Rest}
use Rattle.machine_world.specs.Free.{free_runs_in}
use Rattle.machine_world.specs.Asks.{Ask, arg, Row, waits, gives, leaves, answers, refuses, unless, with_ok, view_of, with_view, free_of, with_free}
use Rattle.machine_world.specs.Descriptors.{table_of, close_on_exec, dup_row, dup3_row, ioctl_row, close_row, opens_pipe, pipe2_row, position_from, base_of, sought, seek_row, llseek_row, Listing, listing, got_at, listed, is_short, folder_row, dents_row, getdents_row}
use Rattle.machine_world.specs.Transfers.{scattered, room_of, moved_bytes, read_reply, node_read, read_waits, taken_read, pipe_read, target_read, read_into, read_row, readv_row, write_position, pipe_room, write_waits, put_write, pipe_write, target_write, write_row, writev_row}
use Rattle.machine_world.specs.PathCalls.{path_of, path_fault, with_path, changes_tree, remove_folder, creates, asks_folder, access, opens, open_fault, emptied, opens_found, mkdirat_row, unlinkat_row, openat_row}
use Rattle.machine_world.specs.MapCalls.{own_run, in_copy, in_free_run, with_mapping, maps, or_own, mapped, file_side, mmap2_row, over_maps, unmaps, munmap_row}
use Rattle.machine_world.specs.Placements.{placed_page}
use Rattle.machine_world.specs.Rows.{yield_row, brk_row, asks_pid, row}
use Rattle.refusal_laws.specs.NoRun.{LacksRunToMap}
use Rattle.refusal_laws.proofs.Errnos.{is_enomem, Other, OtherErr, other_lookup, other_written, other_folder, other_file, other_unlinked, other_path, other_open, other_dup, other_dup3, other_close, other_wanted}

-- what an mmap2 gets, if it gets pages
abbrev pub chosen : Ask → Want → Option Mapping
chosen a want = or_own (in_copy a.spaces want) (in_free_run a.rest.kind (free_runs_in a.rest.pages a.spaces) want)

abbrev pub wanted_by : Ask → Result Want Errno
wanted_by a = wanted (arg a 0) (arg a 1) (arg a 2) (arg a 3) (arg a 5) (file_side a)

-- R holds of each row that a call may have
pub record EachRow (R : Row → Type 0) (a : Ask) : Type 0 where
  -- another refusal than ENOMEM, and a wait
  pub refused : (e : Errno) → is_enomem e ≡ false → R (refuses a e)
  pub waiting : (state : State) → R (waits state)
  -- a count of bytes, a descriptor, or 0
  pub small : (value : ℕ) (got : List GotRange) (rest : Rest) → value ≤ most_moved + weight_of a.sent got → R (gives a value got rest)
  -- a pid, and its turn's end
  pub pid : R (answers a a.process.pid)
  pub parent : R (answers a a.process.parent)
  pub yielded : R (yield_row a)
  -- a break, and pages that go and come
  pub brk : R (brk_row a)
  pub unmap : (h : Hit) → hit a.space.maps (arg a 0) (arg a 1) ≡ Some h → R (leaves a 0 (over_maps a.space (without_hit a.space.maps h)))
  pub map : (want : Want) (m : Mapping) → wanted_by a ≡ Ok want → chosen a want ≡ Some m → R (leaves a m.range.from (with_mapping a.space m (wanted_bytes a.rest.tree want)))
  -- no pages
  pub no_run : a.number ≡ 222 → LacksRunToMap a → R (refuses a Enomem)

-- the bytes that are written at one address are all that is written
weight_at : (at : ℕ) (bytes sent : List ℕ) → length bytes ≤ weight_of sent (got_at at bytes)
weight_at at [] sent = omega arith
weight_at at (b ∷ bytes) sent = omega arith

module _ (R : Row → Type 0) (a : Ask) (each : EachRow R a) (few : (fd : ℕ) → free_of a ≡ Some fd → fd < most_descriptors) where
  by_test : (b : Bool) (x y : Row) → (b ≡ true → R x) → (b ≡ false → R y) → R (if b then x else y)
  by_test true x y hx hy = hx refl
  by_test false x y hx hy = hy refl

  by_if : (b : Bool) (x y : Row) → R x → R y → R (if b then x else y)
  by_if true x y hx hy = hx
  by_if false x y hx hy = hy

  by_fault : (o : Option Errno) (r : Row) → Other o → (o ≡ None → R r) → R (unless a o r)
  by_fault None r other h = h refl
  by_fault (Some e) r other h = each.refused e other

  by_ok : {A : Type 0} (o : Result A Errno) (rows : A → Row) → OtherErr o → ((x : A) → o ≡ Ok x → R (rows x)) → R (with_ok a o rows)
  by_ok (Ok x) rows other h = h x refl
  by_ok (Err e) rows other h = each.refused e other

  by_view : (o : Option View) (rows : View → Row) → ((v : View) → R (rows v)) → R (with_view a o rows)
  by_view (Some v) rows h = h v
  by_view None rows h = each.refused Ebadf refl

  by_free : (o : Option ℕ) (rows : ℕ → Row) → ((fd : ℕ) → o ≡ Some fd → R (rows fd)) → R (with_free a o rows)
  by_free (Some fd) rows h = h fd refl
  by_free None rows h = each.refused Emfile refl

  by_path : (rows : List ℕ → Row) → R (rows (path_of a)) → R (with_path a rows)
  by_path rows h = by_fault (path_fault (arg a 0) (path_of a)) (rows (path_of a)) (other_path (arg a 0) (path_of a)) (λ none. h)

  nothing : (got : List GotRange) (rest : Rest) → R (gives a 0 got rest)
  nothing got rest = each.small 0 got rest (omega arith)

  no : (e : Errno) → is_enomem e ≡ false → R (refuses a e)
  no e other = each.refused e other

  -- ---- descriptors

  by_dup : R (dup_row a)
  unfolding dup_row
  by_dup = by_ok (dup_number (view_of a (arg a 0)) (free_of a)) _ (other_dup (view_of a (arg a 0)) (free_of a))
      (λ fd is. each.small fd [] _ (let less = few fd (given (view_of a (arg a 0)) (free_of a) fd is) in omega (arith, less)))
    where
      given : (v : Option View) (free : Option ℕ) (fd : ℕ) → dup_number v free ≡ Ok fd → free ≡ Some fd
      given None free fd is = absurd cc
      given (Some v) None fd is = absurd cc
      given (Some v) (Some free) fd is = let same : free ≡ fd = cc in ap Some same

  by_dup3 : R (dup3_row a)
  unfolding dup3_row
  by_dup3 =
      by_if (not (arg a 2 == 0 || arg a 2 == close_on_exec)) (refuses a Einval) _ (no Einval refl)
      (by_fault (dup3_fault (view_of a (arg a 0)) (arg a 0) (arg a 1)) _ (other_dup3 (view_of a (arg a 0)) (arg a 0) (arg a 1))
      (λ none. each.small (arg a 1) [] _ (let less = below (arg a 1) (arg a 0 == arg a 1) (not (is_some (view_of a (arg a 0)))) (nat_lt (arg a 1) most_descriptors) refl none in omega (arith, less))))
    where
      below : (new : ℕ) (x y z : Bool) → nat_lt new most_descriptors ≡ z → first ((x, Einval) ∷ (y, Ebadf) ∷ (not z, Ebadf) ∷ []) ≡ None → new < most_descriptors
      below new true y z is none = absurd cc
      below new false true z is none = absurd cc
      below new false false true is none = grind (arith, nat_tests)
      below new false false false is none = absurd cc

  by_ioctl : R (ioctl_row a)
  unfolding ioctl_row
  by_ioctl = by_view (view_of a (arg a 0)) _ (λ v. no Enotty refl)

  by_close : R (close_row a)
  unfolding close_row
  by_close = by_fault (close_fault (view_of a (arg a 0))) _ (other_close (view_of a (arg a 0))) (λ none. nothing [] _)

  by_ends : (o : Option Ends) → R (opens_pipe a (arg a 1 == close_on_exec) o)
  by_ends None = no Emfile refl
  by_ends (Some ends) = nothing _ _

  by_pipe2 : R (pipe2_row a)
  unfolding pipe2_row
  by_pipe2 = by_if (not (arg a 1 == 0 || arg a 1 == close_on_exec)) (refuses a Einval) _ (no Einval refl) (by_ends (two_free a.rest.files (table_of a)))

  -- ---- paths

  by_mkdirat : R (mkdirat_row a)
  unfolding mkdirat_row
  by_mkdirat =
      by_path (λ path. with_ok a (with_folder a.rest.tree path) (changes_tree a))
      (by_ok (with_folder a.rest.tree (path_of a)) (changes_tree a) (other_folder a.rest.tree (path_of a)) (λ nodes is. nothing [] _))

  by_unlinkat : R (unlinkat_row a)
  unfolding unlinkat_row
  by_unlinkat =
      by_if (not (arg a 2 == 0 || arg a 2 == remove_folder)) (refuses a Einval) _ (no Einval refl)
      (by_path (λ path. with_ok a (unlinked a.rest.tree path (arg a 2 == remove_folder)) (changes_tree a))
      (by_ok (unlinked a.rest.tree (path_of a) (arg a 2 == remove_folder)) (changes_tree a) (other_unlinked a.rest.tree (path_of a) (arg a 2 == remove_folder)) (λ nodes is. nothing [] _)))

  by_opens : (fd node : ℕ) (nodes : Inodes) → free_of a ≡ Some fd → R (opens a fd node nodes)
  by_opens fd node nodes free = each.small fd [] _ (let less = few fd free in omega (arith, less))

  by_found : (o : Option ℕ) → R (opens_found a (path_of a) o)
  by_found (Some node) =
      by_fault (open_fault a.rest.tree node (arg a 2)) _ (other_open a.rest.tree node (arg a 2))
      (λ none. by_free (free_of a) _ (λ fd free. by_opens fd node (emptied a.rest.tree node (arg a 2)) free))
  by_found None =
      by_if (creates (arg a 2)) _ (refuses a Enoent)
      (by_free (free_of a) _
      (λ fd free. by_ok (with_file a.rest.tree (path_of a) [] None) (opens a fd (length a.rest.tree)) (other_file a.rest.tree (path_of a) [] None)
      (λ nodes is. by_opens fd (length a.rest.tree) nodes free)))
      (no Enoent refl)

  by_openat : R (openat_row a)
  unfolding openat_row
  by_openat =
      by_if (access (arg a 2) == 3 || (creates (arg a 2) && asks_folder (arg a 2))) (refuses a Einval) _ (no Einval refl)
      (by_path (λ path. with_ok a (lookup a.rest.tree path) (opens_found a path))
      (by_ok (lookup a.rest.tree (path_of a)) (opens_found a (path_of a)) (other_lookup a.rest.tree (path_of a)) (λ o is. by_found o)))

  -- ---- bytes

  by_moved : (spans : List Span) (left : List ℕ) (files : OpenFiles) → R (read_reply a spans (moved_bytes spans left) files)
  by_moved spans left files =
      each.small (length (moved_bytes spans left)) (scattered (moved_bytes spans left) spans) _ (most (room_of spans) (length (moved_bytes spans left)) (length left) (length-take (min (room_of spans) most_moved) left))
    where
      most : (room count all : ℕ) → count ≡ min (min room most_moved) all → count ≤ most_moved + weight_of a.sent (scattered (moved_bytes spans left) spans)
      most room count all is = omega (arith, is)

  by_count : (bytes : List ℕ) (rest : Rest) → length bytes ≤ length a.sent → R (gives a (length bytes) [] rest)
  by_count bytes rest less = each.small (length bytes) [] rest (omega (arith, less))

  by_pipe_read : (id : ℕ) (spans : List Span) → R (pipe_read a id spans)
  by_pipe_read id spans =
      by_if (read_waits spans (pipe_view a.rest.files id)) (waits (OnPipe id)) (taken_read a id spans (moved_bytes spans (pipe_bytes a.rest.files id))) (each.waiting (OnPipe id))
      (by_moved spans (pipe_bytes a.rest.files id) _)

  by_pipe_write : (id : ℕ) (bytes : List ℕ) → length bytes ≤ length a.sent → R (pipe_write a id bytes)
  by_pipe_write id bytes less =
      by_if (length bytes == 0) (answers a 0) _ (nothing [] a.rest)
      (by_if (not (pipe_view a.rest.files id).read_open) (refuses a Epipe) _ (no Epipe refl)
      (by_if (write_waits (length bytes) (pipe_view a.rest.files id)) (waits (OnPipe id)) (put_write a id (take (pipe_room (pipe_view a.rest.files id)) bytes)) (each.waiting (OnPipe id))
      (by_count (take (pipe_room (pipe_view a.rest.files id)) bytes) _ (part (pipe_room (pipe_view a.rest.files id))))))
    where
      part : (room : ℕ) → length (take room bytes) ≤ length a.sent
      part room = omega (arith, length-take room bytes, less)

  by_sought : (o : Option ℕ) → R (sought a o)
  by_sought None = no Einval refl
  by_sought (Some at) = nothing _ _

  module _ (v : View) where
    by_seek : (t : Target) → R (seek_row a v t)
    by_seek Console = no Espipe refl
    by_seek (Pipe id write) = no Espipe refl
    by_seek (a_node node) = by_if (nat_lt 2 (arg a 4)) (refuses a Einval) _ (no Einval refl) (by_sought (position_from (base_of a v node (arg a 4)) (arg a 1 * 2 ^ 32 + arg a 2)))

    by_listed : (l : Listing) → R (listed a v l)
    by_listed l = each.small (length l.bytes) (got_at (arg a 1) l.bytes) _ (let less = weight_at (arg a 1) l.bytes a.sent in omega (arith, less))

    by_folder : (node : ℕ) (kind : Node) → R (folder_row a v node kind)
    by_folder node File = no Enotdir refl
    by_folder node Dir =
        by_if (is_short (arg a 2) (drop v.at (entries_of a.rest.tree node))) (refuses a Einval) _ (no Einval refl)
        (by_listed (listing a.rest.tree (arg a 2) v.at (drop v.at (entries_of a.rest.tree node))))

    by_dents : (t : Target) → R (dents_row a v t)
    by_dents Console = no Enotdir refl
    by_dents (Pipe id write) = no Enotdir refl
    by_dents (a_node node) = by_folder node (kind_of a.rest.tree node)

    by_node_read : (spans : List Span) (node : ℕ) (kind : Node) → R (node_read a v spans node kind)
    by_node_read spans node Dir = no Eisdir refl
    by_node_read spans node File = by_moved spans (drop v.at (bytes_of a.rest.tree node)) _

    by_target_read : (spans : List Span) (t : Target) → R (target_read a v spans t)
    by_target_read spans Console = by_moved spans a.rest.files.stdin _
    by_target_read spans (a_node node) = by_node_read spans node (kind_of a.rest.tree node)
    by_target_read spans (Pipe id write) = by_pipe_read id spans

    by_target_write : (bytes : List ℕ) → length bytes ≤ length a.sent → (t : Target) → R (target_write a v bytes t)
    by_target_write bytes less Console = by_count bytes _ less
    by_target_write bytes less (a_node node) =
        by_ok (written a.rest.tree node (write_position a v node) bytes) _ (other_written a.rest.tree node (write_position a v node) bytes) (λ nodes is. by_count bytes _ less)
    by_target_write bytes less (Pipe id write) = by_pipe_write id bytes less

  by_llseek : R (llseek_row a)
  unfolding llseek_row
  by_llseek = by_view (view_of a (arg a 0)) _ (λ v. by_seek v v.target)

  by_getdents : R (getdents_row a)
  unfolding getdents_row
  by_getdents = by_view (view_of a (arg a 0)) _ (λ v. by_dents v v.target)

  by_read_into : (spans : List Span) → R (read_into a spans)
  by_read_into spans = by_view (view_of a (arg a 0)) _ (λ v. by_if v.way.read _ (refuses a Ebadf) (by_target_read v spans v.target) (no Ebadf refl))

  by_read : R (read_row a)
  unfolding read_row
  by_read = by_read_into (record { addr = arg a 1; len = arg a 2 } ∷ [])

  by_readv : R (readv_row a)
  unfolding readv_row
  by_readv = by_if (nat_lt most_pieces (arg a 2)) (refuses a Einval) _ (no Einval refl) (by_read_into (map (piece_at a.sent) (range_with_len 0 (arg a 2))))

  by_write : (bytes : List ℕ) → length bytes ≤ length a.sent → R (write_row a bytes)
  unfolding write_row
  by_write bytes less = by_view (view_of a (arg a 0)) _ (λ v. by_if v.way.write _ (refuses a Ebadf) (by_target_write v bytes less v.target) (no Ebadf refl))

  by_writev : R (writev_row a)
  unfolding writev_row
  by_writev =
      by_if (nat_lt most_pieces (arg a 2)) (refuses a Einval) _ (no Einval refl)
      (by_write (drop (8 * arg a 2) a.sent) (omega (arith, length-drop (8 * arg a 2) a.sent)))

  -- ---- pages

  by_unmaps : (o : Option Hit) → hit a.space.maps (arg a 0) (arg a 1) ≡ o → R (unmaps a o)
  by_unmaps (Some h) is = each.unmap h is
  by_unmaps None is = no Einval refl

  by_munmap : R (munmap_row a)
  unfolding munmap_row
  by_munmap = by_unmaps (hit a.space.maps (arg a 0) (arg a 1)) refl

  -- no pages: no copy, and no run
  lacking : (want : Want) → wanted_by a ≡ Ok want → chosen a want ≡ None → LacksRunToMap a
  lacking want asks is = by (in_copy a.spaces want) (placed_page a want) refl refl is
    where
      by : (copy : Option Mapping) (page : Option ℕ) → in_copy a.spaces want ≡ copy → placed_page a want ≡ page
          → or_own copy (option_map (own_run want) page) ≡ None → LacksRunToMap a
      by (Some m) page c p none = absurd cc
      by None (Some page) c p none = absurd cc
      by None None c p none = record { want = want; asks = asks; no_copy = c; no_run = p }

  by_maps : (want : Want) → a.number ≡ 222 → wanted_by a ≡ Ok want → (o : Option Mapping) → chosen a want ≡ o → R (maps a want o)
  by_maps want number asks (Some m) is = each.map want m asks is
  by_maps want number asks None is = each.no_run number (lacking want asks is)

  by_mmap2 : a.number ≡ 222 → R (mmap2_row a)
  unfolding mmap2_row
  by_mmap2 number =
      by_ok (wanted_by a) (mapped a) (other_wanted (arg a 0) (arg a 1) (arg a 2) (arg a 3) (arg a 5) (file_side a)) (λ want asks. by_maps want number asks (chosen a want) refl)

  -- ---- every number

  by_quiet : R (if asks_pid a.number then answers a a.process.pid
      else if a.number == 124 then yield_row a
      else if a.number == 173 then answers a a.process.parent
      else if a.number == 214 then brk_row a
      else if a.number == 215 then munmap_row a
      else if a.number == 222 then mmap2_row a
      else refuses a Enosys)
  by_quiet =
      by_if (asks_pid a.number) (answers a a.process.pid) _ each.pid
      (by_if (a.number == 124) (yield_row a) _ each.yielded
      (by_if (a.number == 173) (answers a a.process.parent) _ each.parent
      (by_if (a.number == 214) (brk_row a) _ each.brk
      (by_if (a.number == 215) (munmap_row a) _ by_munmap
      (by_test (a.number == 222) (mmap2_row a) (refuses a Enosys) (λ is. by_mmap2 (eqb-true a.number 222 is)) (λ isnt. no Enosys refl))))))

  pub each_row : R (row a)
  unfolding row
  each_row =
      by_if (a.number == 23) (dup_row a) _ by_dup
      (by_if (a.number == 24) (dup3_row a) _ by_dup3
      (by_if (a.number == 29) (ioctl_row a) _ by_ioctl
      (by_if (a.number == 34) (mkdirat_row a) _ by_mkdirat
      (by_if (a.number == 35) (unlinkat_row a) _ by_unlinkat
      (by_if (a.number == 56) (openat_row a) _ by_openat
      (by_if (a.number == 57) (close_row a) _ by_close
      (by_if (a.number == 59) (pipe2_row a) _ by_pipe2
      (by_if (a.number == 61) (getdents_row a) _ by_getdents
      (by_if (a.number == 62) (llseek_row a) _ by_llseek
      (by_if (a.number == 63) (read_row a) _ by_read
      (by_if (a.number == 64) (write_row a a.sent) _ (by_write a.sent (omega arith))
      (by_if (a.number == 65) (readv_row a) _ by_readv
      (by_if (a.number == 66) (writev_row a) _ by_writev by_quiet)))))))))))))
