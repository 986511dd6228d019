-- A row that would wait, in a world where the pipe and the descriptors that lead to it are as before, would wait again.
use Rattle.std.proofs.Common.{◌≡◌, ℕ, Bool, true, false, List, [], ◌∷◌, length, map, take, drop, Option, Some, None, refl}
use Rattle.std.specs.Prelude.{◌*◌, ◌==◌, not, nat_lt, if◌then◌else◌}
use Rattle.std.specs.List.{range_with_len}
use Rattle.call_log.specs.declared.errno.Errno.TheVariants.{Ebadf, Epipe, Einval}
use Rattle.call_log.specs.Sent.{Span, most_pieces, piece_at}
use Rattle.mem_files.specs.Inodes.{kind_of}
use Rattle.mem_files.specs.Changes.{written}
use Rattle.mmap_rules.specs.Space.{Space}
use Rattle.fd_tables.specs.declared.view.View.{View}
use Rattle.fd_tables.specs.declared.view.Target.{Target}
use Rattle.fd_tables.specs.declared.view.Target.TheVariants.{Console, Node as a_node, Pipe}
use Rattle.fd_tables.specs.Files.{view}
use Rattle.fd_tables.specs.Pipes.{pipe_view, pipe_bytes}
use Rattle.vfork_exec.specs.declared.family.State.{State}
use Rattle.vfork_exec.specs.declared.family.State.TheVariants.{OnPipe}
use Rattle.machine_world.specs.World.{Process, World}
use Rattle.machine_world.specs.Asks.{Ask, Row, replies, waits, arg, refuses, answers, with_view}
use Rattle.machine_world.specs.Transfers.{node_read, moved_bytes, read_waits, taken_read, pipe_read, target_read, read_into, read_row, readv_row, write_position, pipe_room, write_waits, put_write, pipe_write, target_write, write_row, writev_row}
use Rattle.machine_world.specs.Rows.{row}
use Rattle.machine_world.specs.Event.{ask_of}
use Rattle.waits_laws.proofs.Replies.{Replies, never_ok, never_dup, never_dup3, never_ioctl, never_close, never_pipe2, never_mkdirat, never_unlinkat, never_openat, never_llseek, never_getdents, never_node_read, never_quiet}

module _ (st : State) where
  abbrev Alike : Row → Row → Type 0
  Alike x y = x ≡ waits st → y ≡ waits st

  alike_never : (x y : Row) → Replies x → Alike x y
  alike_never (replies r) y never is = absurd cc
  alike_never (waits s) y never is = absurd never

  alike_if : (b : Bool) (x y u v : Row) → Alike x u → Alike y v → Alike (if b then x else y) (if b then u else v)
  alike_if true x y u v one two = one
  alike_if false x y u v one two = two

  isnt : (x : Row) → Replies x → x ≡ waits st → ⊥
  isnt (replies r) never is = cc
  isnt (waits s) never is = never

-- all that the process waits for is as before
module _ (w now : World) (q : Process) (parent : ℕ) (state : State) (s : Space) (st : State) where
  abbrev later : Process
  later = record q { parent = parent; state = state }

  -- of its descriptors those that lead to a pipe lead to the same end, and the pipe for which it waits shows what it showed
  module _ (bytes : List ℕ)
      (views : (fd : ℕ) (v : View) (id : ℕ) (end : Bool) → view w.rest.files q.table fd ≡ Some v → v.target ≡ Pipe id end → view now.rest.files q.table fd ≡ Some v)
      (pipes : (fd : ℕ) (v : View) (id : ℕ) (end : Bool) → view w.rest.files q.table fd ≡ Some v → v.target ≡ Pipe id end → st ≡ OnPipe id
      → pipe_view now.rest.files id ≡ pipe_view w.rest.files id) where
    abbrev a : Ask
    a = ask_of w q s bytes

    abbrev b : Ask
    b = ask_of now later s bytes

    -- ---- reads

    module _ (fd : ℕ) (v : View) (id : ℕ) (end : Bool) (shown : view w.rest.files q.table fd ≡ Some v) (leads : v.target ≡ Pipe id end) where
      read_again : (spans : List Span) (test : Bool) → read_waits spans (pipe_view w.rest.files id) ≡ test → pipe_read a id spans ≡ waits st → pipe_read b id spans ≡ waits st
      read_again spans true e is =
          let here : waits (OnPipe id) ≡ waits st = rw e at is in
          let on : st ≡ OnPipe id = cc in
          let same : pipe_view now.rest.files id ≡ pipe_view w.rest.files id = pipes fd v id end shown leads on in
          rw (same, e) here
      read_again spans false e is = let no : taken_read a id spans (moved_bytes spans (pipe_bytes w.rest.files id)) ≡ waits st = rw e at is in absurd cc

      write_by : (sends : List ℕ) (none closed filled : Bool) → (length sends == 0) ≡ none → not (pipe_view w.rest.files id).read_open ≡ closed
          → write_waits (length sends) (pipe_view w.rest.files id) ≡ filled → pipe_write a id sends ≡ waits st → pipe_write b id sends ≡ waits st
      write_by sends true closed filled e f g is = let no : answers a 0 ≡ waits st = rw e at is in absurd cc
      write_by sends false true filled e f g is = let no : refuses a Epipe ≡ waits st = rw (e, f) at is in absurd cc
      write_by sends false false true e f g is =
          let here : waits (OnPipe id) ≡ waits st = rw (e, f, g) at is in
          let on : st ≡ OnPipe id = cc in
          let same : pipe_view now.rest.files id ≡ pipe_view w.rest.files id = pipes fd v id end shown leads on in
          rw (same, e, f, g) here
      write_by sends false false false e f g is = let no : put_write a id (take (pipe_room (pipe_view w.rest.files id)) sends) ≡ waits st = rw (e, f, g) at is in absurd cc

    read_target : (fd : ℕ) (v : View) (spans : List Span) (t : Target) → view w.rest.files q.table fd ≡ Some v → v.target ≡ t → target_read a v spans t ≡ waits st
        → (view now.rest.files q.table fd ≡ Some v) × (target_read b v spans t ≡ waits st)
    read_target fd v spans Console shown leads is = absurd cc
    read_target fd v spans (a_node node) shown leads is =
        absurd (isnt st (node_read a v spans node (kind_of w.rest.tree node)) (never_node_read a v spans node (kind_of w.rest.tree node)) is)
    read_target fd v spans (Pipe id end) shown leads is =
        (views fd v id end shown leads, read_again fd v id end shown leads spans (read_waits spans (pipe_view w.rest.files id)) refl is)

    read_way : (v : View) (spans : List Span) (may : Bool) → v.way.read ≡ may → view w.rest.files q.table (arg a 0) ≡ Some v
        → (if may then target_read a v spans v.target else refuses a Ebadf) ≡ waits st
        → with_view b (view now.rest.files q.table (arg a 0)) (λ v. if v.way.read then target_read b v spans v.target else refuses b Ebadf) ≡ waits st
    read_way v spans true may shown is =
        let again = read_target (arg a 0) v spans v.target shown refl is in
        rw (again.0, may) again.1
    read_way v spans false may shown is = absurd cc

    read_view : (spans : List Span) (o : Option View) → view w.rest.files q.table (arg a 0) ≡ o
        → with_view a o (λ v. if v.way.read then target_read a v spans v.target else refuses a Ebadf) ≡ waits st → read_into b spans ≡ waits st
    read_view spans None shown is = absurd cc
    read_view spans (Some v) shown is = read_way v spans v.way.read refl shown is

    read_into_again : (spans : List Span) → Alike st (read_into a spans) (read_into b spans)
    read_into_again spans is = read_view spans (view w.rest.files q.table (arg a 0)) refl is

    read_row_again : Alike st (read_row a) (read_row b)
    unfolding read_row
    read_row_again = read_into_again (record { addr = arg a 1; len = arg a 2 } ∷ [])

    readv_row_again : Alike st (readv_row a) (readv_row b)
    unfolding readv_row
    readv_row_again =
        alike_if st (nat_lt most_pieces (arg a 2)) (refuses a Einval) _ (refuses b Einval) _ (alike_never st (refuses a Einval) (refuses b Einval) tt)
        (read_into_again (map (piece_at bytes) (range_with_len 0 (arg a 2))))

    -- ---- writes

    write_target : (fd : ℕ) (v : View) (sends : List ℕ) (t : Target) → view w.rest.files q.table fd ≡ Some v → v.target ≡ t → target_write a v sends t ≡ waits st
        → (view now.rest.files q.table fd ≡ Some v) × (target_write b v sends t ≡ waits st)
    write_target fd v sends Console shown leads is = absurd cc
    write_target fd v sends (a_node node) shown leads is =
        absurd (isnt st _ (never_ok a (written w.rest.tree node (write_position a v node) sends) _ (λ nodes. tt)) is)
    write_target fd v sends (Pipe id end) shown leads is =
        (views fd v id end shown leads, write_by fd v id end shown leads sends (length sends == 0) (not (pipe_view w.rest.files id).read_open) (write_waits (length sends) (pipe_view w.rest.files id)) refl refl refl is)

    write_way : (v : View) (sends : List ℕ) (may : Bool) → v.way.write ≡ may → view w.rest.files q.table (arg a 0) ≡ Some v
        → (if may then target_write a v sends v.target else refuses a Ebadf) ≡ waits st
        → with_view b (view now.rest.files q.table (arg a 0)) (λ v. if v.way.write then target_write b v sends v.target else refuses b Ebadf) ≡ waits st
    write_way v sends true may shown is =
        let again = write_target (arg a 0) v sends v.target shown refl is in
        rw (again.0, may) again.1
    write_way v sends false may shown is = absurd cc

    write_view : (sends : List ℕ) (o : Option View) → view w.rest.files q.table (arg a 0) ≡ o
        → with_view a o (λ v. if v.way.write then target_write a v sends v.target else refuses a Ebadf) ≡ waits st
        → with_view b (view now.rest.files q.table (arg a 0)) (λ v. if v.way.write then target_write b v sends v.target else refuses b Ebadf) ≡ waits st
    write_view sends None shown is = absurd cc
    write_view sends (Some v) shown is = write_way v sends v.way.write refl shown is

    write_row_again : (sends : List ℕ) → Alike st (write_row a sends) (write_row b sends)
    unfolding write_row
    write_row_again sends is = write_view sends (view w.rest.files q.table (arg a 0)) refl is

    writev_row_again : Alike st (writev_row a) (writev_row b)
    unfolding writev_row
    writev_row_again =
        alike_if st (nat_lt most_pieces (arg a 2)) (refuses a Einval) _ (refuses b Einval) _ (alike_never st (refuses a Einval) (refuses b Einval) tt)
        (write_row_again (drop (8 * arg a 2) bytes))

    -- ---- all rows

    pub row_again : Alike st (row a) (row b)
    unfolding row
    row_again =
        alike_if st (a.number == 23) _ _ _ _ (alike_never st _ _ (never_dup a))
        (alike_if st (a.number == 24) _ _ _ _ (alike_never st _ _ (never_dup3 a))
        (alike_if st (a.number == 29) _ _ _ _ (alike_never st _ _ (never_ioctl a))
        (alike_if st (a.number == 34) _ _ _ _ (alike_never st _ _ (never_mkdirat a))
        (alike_if st (a.number == 35) _ _ _ _ (alike_never st _ _ (never_unlinkat a))
        (alike_if st (a.number == 56) _ _ _ _ (alike_never st _ _ (never_openat a))
        (alike_if st (a.number == 57) _ _ _ _ (alike_never st _ _ (never_close a))
        (alike_if st (a.number == 59) _ _ _ _ (alike_never st _ _ (never_pipe2 a))
        (alike_if st (a.number == 61) _ _ _ _ (alike_never st _ _ (never_getdents a))
        (alike_if st (a.number == 62) _ _ _ _ (alike_never st _ _ (never_llseek a))
        (alike_if st (a.number == 63) _ _ _ _ read_row_again
        (alike_if st (a.number == 64) _ _ _ _ (write_row_again bytes)
        (alike_if st (a.number == 65) _ _ _ _ readv_row_again
        (alike_if st (a.number == 66) _ _ _ _ writev_row_again (alike_never st _ _ (never_quiet a)))))))))))))))
