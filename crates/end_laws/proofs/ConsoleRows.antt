-- What a row leaves of the console: those of write and writev add their data where the descriptor is the console, and all others
-- leave it.
use Rattle.std.proofs.Common.{◌≡◌, ℕ, ◌+◌, ◌*◌, Bool, true, false, List, [], ◌∷◌, ◌++◌, length, drop, Option, Some, None, refl, sym, ap, ◌∙◌, arith}
use Rattle.std.proofs.lemmas.List.{append-nil, drop_all}
use Rattle.std.specs.Prelude.{◌==◌, ◌||◌, ◌&&◌, ◌^◌, not, nat_lt, if◌then◌else◌, map}
use Rattle.std.specs.List.{range_with_len}
use Rattle.call_log.specs.declared.errno.Errno.{Errno}
use Rattle.call_log.specs.declared.errno.Errno.TheVariants.{Enoent, Ebadf, Enosys, Einval, Epipe}
use Rattle.call_log.specs.Sent.{Span, most_pieces, piece_at}
use Rattle.mmap_rules.specs.declared.mapping.Mapping.{Mapping}
use Rattle.mmap_rules.specs.declared.want.Want.{Want}
use Rattle.mmap_rules.specs.Want.{wanted}
use Rattle.mmap_rules.specs.Mappings.{Hit, hit}
use Rattle.mem_files.specs.declared.node.Node.{Node}
use Rattle.mem_files.specs.declared.node.Node.TheVariants.{Dir, File}
use Rattle.mem_files.specs.Inodes.{kind_of, entries_of}
use Rattle.mem_files.specs.Paths.{lookup}
use Rattle.mem_files.specs.Changes.{with_folder, with_file, unlinked, written}
use Rattle.fd_tables.specs.declared.view.View.{View}
use Rattle.fd_tables.specs.declared.view.Target.{Target}
use Rattle.fd_tables.specs.declared.view.Target.TheVariants.{Console, Node as a_node, Pipe}
use Rattle.fd_tables.specs.declared.pipe_view.Ends.{Ends}
use Rattle.fd_tables.specs.Files.{two_free}
use Rattle.fd_tables.specs.Pipes.{pipe_view}
use Rattle.fd_tables.specs.Calls.{dup_number, dup3_fault, close_fault}
use Rattle.vfork_exec.specs.declared.family.State.TheVariants.{OnPipe}
use Rattle.flat_loader.specs.Alone.{is_errno}
use Rattle.machine_world.specs.World.{Rest}
use Rattle.machine_world.specs.Asks.{Ask, Reply, Row, replies, waits, arg, answers, refuses, with_ok, with_view, view_of, free_of}
use Rattle.machine_world.specs.Descriptors.{table_of, close_on_exec, dup_row, dup3_row, ioctl_row, close_row, opens_pipe, pipe2_row, position_from, base_of, sought, seek_row, llseek_row, is_short, folder_row, dents_row, getdents_row}
use Rattle.machine_world.specs.Transfers.{node_read, target_read, read_waits, read_into, read_row, readv_row, write_position, node_write, write_waits, target_write, write_row, writev_row}
use Rattle.machine_world.specs.PathCalls.{path_of, changes_tree, remove_folder, creates, asks_folder, access, opens, open_fault, opens_found, mkdirat_row, unlinkat_row, openat_row}
use Rattle.machine_world.specs.Free.{free_runs_in}
use Rattle.machine_world.specs.MapCalls.{in_copy, in_free_run, maps, or_own, mapped, file_side, mmap2_row, unmaps, munmap_row}
use Rattle.machine_world.specs.Rows.{yield_row, brk_row, asks_pid, row}
use Rattle.machine_world.proofs.EachChange.{Answers, by_test, by_if, by_fault, by_ok, by_view, by_free, by_path}
use Rattle.machine_world.proofs.Refused.{is_refused}
use Rattle.end_laws.specs.Console.{is_write, is_console, takes_output}

-- ---- all other rows

module _ (a : Ask) where
  -- the console is left
  abbrev Same : Rest → Type 0
  Same rest = rest.console ≡ a.rest.console

  abbrev pub IsQuiet : Row → Type 0
  IsQuiet r = Answers Same r

  quiet_dup : IsQuiet (dup_row a)
  unfolding dup_row
  quiet_dup = by_ok Same a refl (dup_number (view_of a (arg a 0)) (free_of a)) _ (λ free is. refl)

  quiet_dup3 : IsQuiet (dup3_row a)
  unfolding dup3_row
  quiet_dup3 =
      by_if Same (not (arg a 2 == 0 || arg a 2 == close_on_exec)) (refuses a Einval) _ refl
      (by_fault Same a refl (dup3_fault (view_of a (arg a 0)) (arg a 0) (arg a 1)) _ (λ none. refl))

  quiet_ioctl : IsQuiet (ioctl_row a)
  unfolding ioctl_row
  quiet_ioctl = by_view Same a refl (view_of a (arg a 0)) _ (λ v is. refl)

  quiet_close : IsQuiet (close_row a)
  unfolding close_row
  quiet_close = by_fault Same a refl (close_fault (view_of a (arg a 0))) _ (λ none. refl)

  quiet_ends : (o : Option Ends) → IsQuiet (opens_pipe a (arg a 1 == close_on_exec) o)
  quiet_ends None = refl
  quiet_ends (Some ends) = refl

  quiet_pipe2 : IsQuiet (pipe2_row a)
  unfolding pipe2_row
  quiet_pipe2 = by_if Same (not (arg a 1 == 0 || arg a 1 == close_on_exec)) (refuses a Einval) _ refl (quiet_ends (two_free a.rest.files (table_of a)))

  -- paths
  quiet_mkdirat : IsQuiet (mkdirat_row a)
  unfolding mkdirat_row
  quiet_mkdirat =
      by_path Same a refl (λ path. with_ok a (with_folder a.rest.tree path) (changes_tree a))
      (by_ok Same a refl (with_folder a.rest.tree (path_of a)) (changes_tree a) (λ nodes is. refl))

  quiet_unlinkat : IsQuiet (unlinkat_row a)
  unfolding unlinkat_row
  quiet_unlinkat =
      by_if Same (not (arg a 2 == 0 || arg a 2 == remove_folder)) (refuses a Einval) _ refl
      (by_path Same a refl (λ path. with_ok a (unlinked a.rest.tree path (arg a 2 == remove_folder)) (changes_tree a))
      (by_ok Same a refl (unlinked a.rest.tree (path_of a) (arg a 2 == remove_folder)) (changes_tree a) (λ nodes is. refl)))

  quiet_found : (o : Option ℕ) → IsQuiet (opens_found a (path_of a) o)
  quiet_found (Some node) =
      by_fault Same a refl (open_fault a.rest.tree node (arg a 2)) _
      (λ none. by_free Same a refl (free_of a) _ (λ fd free. refl))
  quiet_found None =
      by_if Same (creates (arg a 2)) _ (refuses a Enoent)
      (by_free Same a refl (free_of a) _
      (λ fd free. by_ok Same a refl (with_file a.rest.tree (path_of a) [] None) (opens a fd (length a.rest.tree)) (λ nodes made. refl)))
      refl

  quiet_openat : IsQuiet (openat_row a)
  unfolding openat_row
  quiet_openat =
      by_if Same (access (arg a 2) == 3 || (creates (arg a 2) && asks_folder (arg a 2))) (refuses a Einval) _ refl
      (by_path Same a refl (λ path. with_ok a (lookup a.rest.tree path) (opens_found a path))
      (by_ok Same a refl (lookup a.rest.tree (path_of a)) (opens_found a (path_of a)) (λ o is. quiet_found o)))

  -- positions and listings
  quiet_sought : (o : Option ℕ) → IsQuiet (sought a o)
  quiet_sought None = refl
  quiet_sought (Some at) = refl

  quiet_seek : (v : View) (t : Target) → IsQuiet (seek_row a v t)
  quiet_seek v Console = refl
  quiet_seek v (Pipe id end) = refl
  quiet_seek v (a_node node) =
      by_if Same (nat_lt 2 (arg a 4)) (refuses a Einval) _ refl
      (quiet_sought (position_from (base_of a v node (arg a 4)) (arg a 1 * 2 ^ 32 + arg a 2)))

  quiet_llseek : IsQuiet (llseek_row a)
  unfolding llseek_row
  quiet_llseek = by_view Same a refl (view_of a (arg a 0)) _ (λ v shown. quiet_seek v v.target)

  quiet_folder : (v : View) (node : ℕ) (kind : Node) → IsQuiet (folder_row a v node kind)
  quiet_folder v node File = refl
  quiet_folder v node Dir = by_if Same (is_short (arg a 2) (drop v.at (entries_of a.rest.tree node))) _ _ refl refl

  quiet_dents : (v : View) (t : Target) → IsQuiet (dents_row a v t)
  quiet_dents v Console = refl
  quiet_dents v (Pipe id end) = refl
  quiet_dents v (a_node node) = quiet_folder v node (kind_of a.rest.tree node)

  quiet_getdents : IsQuiet (getdents_row a)
  unfolding getdents_row
  quiet_getdents = by_view Same a refl (view_of a (arg a 0)) _ (λ v shown. quiet_dents v v.target)

  -- reads
  quiet_node_read : (v : View) (spans : List Span) (node : ℕ) (kind : Node) → IsQuiet (node_read a v spans node kind)
  quiet_node_read v spans node Dir = refl
  quiet_node_read v spans node File = refl

  quiet_target_read : (v : View) (spans : List Span) (t : Target) → IsQuiet (target_read a v spans t)
  quiet_target_read v spans Console = refl
  quiet_target_read v spans (a_node node) = quiet_node_read v spans node (kind_of a.rest.tree node)
  quiet_target_read v spans (Pipe id end) = by_if Same (read_waits spans (pipe_view a.rest.files id)) (waits (OnPipe id)) _ tt refl

  quiet_read_into : (spans : List Span) → IsQuiet (read_into a spans)
  quiet_read_into spans =
      by_view Same a refl (view_of a (arg a 0)) _ (λ v shown. by_if Same v.way.read _ (refuses a Ebadf) (quiet_target_read v spans v.target) refl)

  quiet_read : IsQuiet (read_row a)
  unfolding read_row
  quiet_read = quiet_read_into (record { addr = arg a 1; len = arg a 2 } ∷ [])

  quiet_readv : IsQuiet (readv_row a)
  unfolding readv_row
  quiet_readv = by_if Same (nat_lt most_pieces (arg a 2)) (refuses a Einval) _ refl (quiet_read_into (map (piece_at a.sent) (range_with_len 0 (arg a 2))))

  -- mappings
  quiet_unmaps : (o : Option Hit) → IsQuiet (unmaps a o)
  quiet_unmaps (Some h) = refl
  quiet_unmaps None = refl

  quiet_munmap : IsQuiet (munmap_row a)
  unfolding munmap_row
  quiet_munmap = quiet_unmaps (hit a.space.maps (arg a 0) (arg a 1))

  quiet_maps : (want : Want) (o : Option Mapping) → IsQuiet (maps a want o)
  quiet_maps want (Some m) = refl
  quiet_maps want None = refl

  quiet_mmap2 : IsQuiet (mmap2_row a)
  unfolding mmap2_row
  quiet_mmap2 =
      by_ok Same a refl (wanted (arg a 0) (arg a 1) (arg a 2) (arg a 3) (arg a 5) (file_side a)) (mapped a)
      (λ want is. quiet_maps want (or_own (in_copy a.spaces want) (in_free_run a.rest.kind (free_runs_in a.rest.pages a.spaces) want)))

  -- the numbers behind 66
  quiet_last : IsQuiet (if asks_pid a.number then answers a a.process.pid
      else if a.number == 124 then yield_row a
      else if a.number == 173 then answers a a.process.parent
      else if a.number == 214 then brk_row a
      else if a.number == 215 then munmap_row a
      else if a.number == 222 then mmap2_row a
      else refuses a Enosys)
  unfolding yield_row brk_row
  quiet_last =
      by_if Same (asks_pid a.number) (answers a a.process.pid) _ refl
      (by_if Same (a.number == 124) (yield_row a) _ refl
      (by_if Same (a.number == 173) (answers a a.process.parent) _ refl
      (by_if Same (a.number == 214) (brk_row a) _ refl
      (by_if Same (a.number == 215) (munmap_row a) _ quiet_munmap
      (by_if Same (a.number == 222) (mmap2_row a) (refuses a Enosys) quiet_mmap2 refl)))))

  -- no write has another number
  no_write : (b c : Bool) → (b || c) ≡ false → (b ≡ false) × (c ≡ false)
  no_write true c neither = absurd cc
  no_write false c neither = (refl, neither)

  -- every call but write and writev leaves the console
  pub quiet_rows : is_write a.number ≡ false → IsQuiet (row a)
  unfolding row
  quiet_rows neither =
      let none = no_write (a.number == 64) (a.number == 66) neither in
      by_if Same (a.number == 23) (dup_row a) _ quiet_dup
      (by_if Same (a.number == 24) (dup3_row a) _ quiet_dup3
      (by_if Same (a.number == 29) (ioctl_row a) _ quiet_ioctl
      (by_if Same (a.number == 34) (mkdirat_row a) _ quiet_mkdirat
      (by_if Same (a.number == 35) (unlinkat_row a) _ quiet_unlinkat
      (by_if Same (a.number == 56) (openat_row a) _ quiet_openat
      (by_if Same (a.number == 57) (close_row a) _ quiet_close
      (by_if Same (a.number == 59) (pipe2_row a) _ quiet_pipe2
      (by_if Same (a.number == 61) (getdents_row a) _ quiet_getdents
      (by_if Same (a.number == 62) (llseek_row a) _ quiet_llseek
      (by_if Same (a.number == 63) (read_row a) _ quiet_read
      (by_test Same (a.number == 64) (write_row a a.sent) _ (λ is. absurd (clash (a.number == 64) is none.0))
      (by_if Same (a.number == 65) (readv_row a) _ quiet_readv
      (by_test Same (a.number == 66) (writev_row a) _ (λ is. absurd (clash (a.number == 66) is none.1)) quiet_last)))))))))))))
    where
      clash : (b : Bool) → b ≡ true → b ≡ false → ⊥
      clash true is isnt = absurd cc
      clash false is isnt = absurd cc

  -- ---- write and writev

  -- a reply behind which the console has these bytes more where it takes them, and they are counted unless the call is refused
  pub record Adds (takes : Bool) (text : List ℕ) (r : Reply) : Type 0 where
    pub console : r.rest.console ≡ a.rest.console ++ (if takes then text else [])
    pub whole : takes ≡ true → is_errno r.value ≡ false → r.value ≡ length text

  abbrev pub AddsIn : Bool → List ℕ → Row → Type 0
  AddsIn takes text (replies r) = Adds takes text r
  AddsIn takes text (waits state) = Unit {0}

  -- what leaves the console adds nothing
  adds_none : (text : List ℕ) (r : Row) → IsQuiet r → AddsIn false text r
  adds_none text (replies r) quiet = record { console = quiet ∙ sym (append-nil a.rest.console); whole = λ takes ok. absurd cc }
  adds_none text (waits state) quiet = tt

  module _ (v : View) (bytes : List ℕ) where
    quiet_node_write : (node : ℕ) → IsQuiet (node_write a node (write_position a v node) bytes)
    quiet_node_write node = by_ok Same a refl (written a.rest.tree node (write_position a v node) bytes) _ (λ nodes is. refl)

    quiet_pipe_write : (id : ℕ) (end : Bool) → IsQuiet (target_write a v bytes (Pipe id end))
    quiet_pipe_write id end =
        by_if Same (length bytes == 0) (answers a 0) _ refl
        (by_if Same (not (pipe_view a.rest.files id).read_open) (refuses a Epipe) _ refl
        (by_if Same (write_waits (length bytes) (pipe_view a.rest.files id)) (waits (OnPipe id)) _ tt refl))

    adds_target : (writes : Bool) (t : Target) → AddsIn (writes && is_console t) bytes (if writes then target_write a v bytes t else refuses a Ebadf)
    adds_target false t = adds_none bytes (refuses a Ebadf) refl
    adds_target true Console = record { console = refl; whole = λ takes ok. refl }
    adds_target true (a_node node) = adds_none bytes (node_write a node (write_position a v node) bytes) (quiet_node_write node)
    adds_target true (Pipe id end) = adds_none bytes (target_write a v bytes (Pipe id end)) (quiet_pipe_write id end)

  adds_view : (bytes : List ℕ) (o : Option View)
      → AddsIn (takes_output o) bytes (with_view a o (λ v. if v.way.write then target_write a v bytes v.target else refuses a Ebadf))
  adds_view bytes None = adds_none bytes (refuses a Ebadf) refl
  adds_view bytes (Some v) = adds_target v bytes v.way.write v.target

  pub adds_write : (bytes : List ℕ) → AddsIn (takes_output (view_of a (arg a 0))) bytes (write_row a bytes)
  unfolding write_row
  adds_write bytes = adds_view bytes (view_of a (arg a 0))

  -- a refusal adds no data where there are none
  adds_refused : (takes : Bool) (text : List ℕ) → text ≡ [] → (e : Errno) → AddsIn takes text (refuses a e)
  adds_refused takes text none e = record { console = left takes text none; whole = λ yes ok. absurd (refused (is_refused e) ok) }
    where
      left : (takes : Bool) (text : List ℕ) → text ≡ [] → a.rest.console ≡ a.rest.console ++ (if takes then text else [])
      left true text none = sym (append-nil a.rest.console) ∙ ap (λ bytes. a.rest.console ++ bytes) (sym none)
      left false text none = sym (append-nil a.rest.console)

      refused : {b : Bool} → b ≡ true → b ≡ false → ⊥
      refused is isnt = absurd cc

  -- too many pieces are refused, and none of them was read
  pub adds_writev : (nat_lt most_pieces (arg a 2) ≡ true → a.sent ≡ []) → AddsIn (takes_output (view_of a (arg a 0))) (drop (8 * arg a 2) a.sent) (writev_row a)
  unfolding writev_row
  adds_writev unread = by_count (nat_lt most_pieces (arg a 2)) refl
    where
      drops_none : (n : ℕ) (bytes : List ℕ) → bytes ≡ [] → drop n bytes ≡ []
      drops_none n bytes none = ap (drop n) none ∙ drop_all n [] (omega arith)

      by_count : (many : Bool) → nat_lt most_pieces (arg a 2) ≡ many
          → AddsIn (takes_output (view_of a (arg a 0))) (drop (8 * arg a 2) a.sent) (if many then refuses a Einval else write_row a (drop (8 * arg a 2) a.sent))
      by_count true is = adds_refused (takes_output (view_of a (arg a 0))) (drop (8 * arg a 2) a.sent) (drops_none (8 * arg a 2) a.sent (unread is)) Einval
      by_count false is = adds_write (drop (8 * arg a 2) a.sent)
