-- Reads and writes that wait on a pipe.
use Rattle.std.proofs.Common.{◌≡◌, ℕ, ◌+◌, ◌*◌, ◌<◌, ◌≤◌, Bool, true, false, not, List, length, get_or, take, Option, Some, None, refl, sym, ap, subst, ◌∙◌, arith}
use Rattle.std.specs.Prelude.{◌==◌, ◌&&◌, nat_lt, if◌then◌else◌}
use Rattle.std.proofs.lemmas.List.FromFn.{get_or-map-range_with_len, length-map-range_with_len, sum_by-map-range_with_len_more}
use Rattle.std.proofs.lemmas.List.Sums.{get_or-le-sum_by, sum-map}
use Rattle.byte_words.specs.Numbers.{low_first, number_at}
use Rattle.call_log.specs.declared.errno.Errno.TheVariants.{Ebadf, Epipe}
use Rattle.call_log.specs.Sent.{Span, piece_at}
use Rattle.mem_files.specs.declared.node.Node.{Node}
use Rattle.mem_files.specs.declared.node.Node.TheVariants.{Dir, File}
use Rattle.mem_files.specs.Inodes.{kind_of}
use Rattle.mem_files.specs.Changes.{written}
use Rattle.fd_tables.specs.declared.view.View.{View}
use Rattle.fd_tables.specs.declared.view.Target.{Target}
use Rattle.fd_tables.specs.declared.view.Target.TheVariants.{Console, Node as a_node, Pipe}
use Rattle.fd_tables.specs.Pipes.{pipe_view, pipe_bytes}
use Rattle.vfork_exec.specs.declared.family.State.TheVariants.{OnPipe}
use Rattle.machine_world.specs.Asks.{Ask, arg, Row, waits, answers, refuses, view_of, with_view}
use Rattle.machine_world.specs.Transfers.{room_of, read_waits, target_read, node_read, moved_bytes, taken_read, read_into, write_position, pipe_room, write_waits, put_write, target_write, write_row}
use Rattle.file_calls.specs.declared.waiting.PipeEnd.{PipeEnd}
use Rattle.file_calls.specs.Calls.{WaitsOn}
use Rattle.file_calls.specs.Ends.{end_of, shown_end}
use Rattle.file_calls.proofs.Asked.{lt_true}
use Rattle.file_calls.proofs.Transferred.{one_span, pieces_of}
use Rattle.file_calls.proofs.Replied.{Replied, by_if, by_ok}

-- ---- room

abbrev span_len : Span → ℕ
span_len span = span.len

pub room_some : (bytes : List ℕ) (count i : ℕ) → i < count → 0 < number_at low_first 4 bytes (8 * i + 4) → true ≡ nat_lt 0 (room_of (pieces_of bytes count))
room_some bytes count i below some = sym (lt_true 0 (room_of spans) more)
  where
    spans : List Span
    spans = pieces_of bytes count

    none : Span
    none = record { addr = 0; len = 0 }

    here : span_len (get_or spans i none) ≡ number_at low_first 4 bytes (8 * i + 4)
    here = ap span_len (get_or-map-range_with_len (piece_at bytes) 0 count i i none below (omega arith))

    more : 0 < room_of spans
    more =
        let few : i < length spans = rw (length-map-range_with_len (piece_at bytes) 0 count) below in
        omega (arith, here, sum-map span_len spans, get_or-le-sum_by span_len spans i none few)

pub room_none : (bytes : List ℕ) (i : ℕ) → room_of (pieces_of bytes i) ≡ 0 → number_at low_first 4 bytes (8 * i + 4) ≤ 0 → room_of (pieces_of bytes (i + 1)) ≡ 0
room_none bytes i before none =
    omega (arith, sum-map span_len (pieces_of bytes i), sum-map span_len (pieces_of bytes (i + 1)), sum_by-map-range_with_len_more span_len (piece_at bytes) 0 i i (omega arith))

pub one_room : (addr len : ℕ) → len ≡ room_of (one_span addr len)
one_room addr len = omega arith

-- ---- reads

abbrev pub wait_if : Bool → ℕ → Option ℕ
wait_if true id = Some id
wait_if false id = None

by_both : (a : Ask) (id : ℕ) (may full : Bool) (part : Row) → Replied part →
    WaitsOn (if may then (if full then waits (OnPipe id) else part) else refuses a Ebadf) (wait_if (may && full) id)
by_both a id true true part h = refl
by_both a id true false part h = h
by_both a id false full part h = tt

module _ (a : Ask) (spans : List Span) where
  node_replies : (v : View) (node : ℕ) (kind : Node) → Replied (node_read a v spans node kind)
  node_replies v node Dir = tt
  node_replies v node File = tt

  -- no end is shown
  blind_target : (v : View) (t : Target) → end_of a.rest.files v t ≡ None → Replied (target_read a v spans t)
  blind_target v Console none = tt
  blind_target v (a_node node) none = node_replies v node (kind_of a.rest.tree node)
  blind_target v (Pipe id write) none = absurd (cc)

  blind_view : (o : Option View) → shown_end a.rest.files o ≡ None →
      Replied (with_view a o (λ v. if v.way.read then target_read a v spans v.target else refuses a Ebadf))
  blind_view None none = tt
  blind_view (Some v) none = by_if v.way.read (target_read a v spans v.target) (refuses a Ebadf) (blind_target v v.target none) tt

  pub read_blind : shown_end a.rest.files (view_of a (arg a 0)) ≡ None → Replied (read_into a spans)
  read_blind none = blind_view (view_of a (arg a 0)) none

  -- an end is shown
  end_target : (v : View) (end : PipeEnd) (t : Target) → end_of a.rest.files v t ≡ Some end →
      WaitsOn (if v.way.read then target_read a v spans t else refuses a Ebadf) (wait_if (end.way.read && read_waits spans end.pipe) end.id)
  end_target v end Console some = absurd (cc)
  end_target v end (a_node node) some = absurd (cc)
  end_target v end (Pipe id write) some =
      subst (λ (e : PipeEnd). WaitsOn (if v.way.read then target_read a v spans (Pipe id write) else refuses a Ebadf) (wait_if (e.way.read && read_waits spans e.pipe) e.id)) is
      (by_both a id v.way.read (read_waits spans (pipe_view a.rest.files id)) (taken_read a id spans (moved_bytes spans (pipe_bytes a.rest.files id))) tt)
    where
      is : record { way = v.way; id = id; pipe = pipe_view a.rest.files id } ≡ end
      is = cc

  end_view : (o : Option View) (end : PipeEnd) → shown_end a.rest.files o ≡ Some end →
      WaitsOn (with_view a o (λ v. if v.way.read then target_read a v spans v.target else refuses a Ebadf)) (wait_if (end.way.read && read_waits spans end.pipe) end.id)
  end_view None end some = absurd (cc)
  end_view (Some v) end some = end_target v end v.target some

  pub read_shown : (end : PipeEnd) (has_room test stops : Bool) → shown_end a.rest.files (view_of a (arg a 0)) ≡ Some end → has_room ≡ nat_lt 0 (room_of spans) →
      stops ≡ (end.way.read && (has_room && (end.pipe.held == 0 && end.pipe.write_open))) → stops ≡ test → WaitsOn (read_into a spans) (wait_if test end.id)
  read_shown end has_room test stops some room is tested =
      let same : stops ≡ (end.way.read && read_waits spans end.pipe) = is ∙ ap (λ (h : Bool). end.way.read && (h && (end.pipe.held == 0 && end.pipe.write_open))) room in
      subst (λ (t : Bool). WaitsOn (read_into a spans) (wait_if t end.id)) (sym same ∙ tested) (end_view (view_of a (arg a 0)) end some)

-- ---- writes

by_all : (a : Ask) (id : ℕ) (may empty reads full : Bool) (part : Row) → Replied part →
    WaitsOn (if may then (if empty then answers a 0 else if not reads then refuses a Epipe else if full then waits (OnPipe id) else part) else refuses a Ebadf)
    (wait_if (may && (not empty && (reads && full))) id)
by_all a id true true reads full part h = tt
by_all a id true false true true part h = refl
by_all a id true false true false part h = h
by_all a id true false false full part h = tt
by_all a id false empty reads full part h = tt

module _ (a : Ask) (bytes : List ℕ) where
  -- no end is shown
  unshown_target : (v : View) (t : Target) → end_of a.rest.files v t ≡ None → Replied (target_write a v bytes t)
  unshown_target v Console none = tt
  unshown_target v (a_node node) none = by_ok a (written a.rest.tree node (write_position a v node) bytes) _ (λ nodes. tt)
  unshown_target v (Pipe id write) none = absurd (cc)

  unshown_view : (o : Option View) → shown_end a.rest.files o ≡ None →
      Replied (with_view a o (λ v. if v.way.write then target_write a v bytes v.target else refuses a Ebadf))
  unshown_view None none = tt
  unshown_view (Some v) none = by_if v.way.write (target_write a v bytes v.target) (refuses a Ebadf) (unshown_target v v.target none) tt

  pub write_blind : shown_end a.rest.files (view_of a (arg a 0)) ≡ None → Replied (write_row a bytes)
  unfolding write_row
  write_blind none = unshown_view (view_of a (arg a 0)) none

  -- an end is shown
  shown_target : (v : View) (end : PipeEnd) (t : Target) → end_of a.rest.files v t ≡ Some end →
      WaitsOn (if v.way.write then target_write a v bytes t else refuses a Ebadf)
      (wait_if (end.way.write && (not (length bytes == 0) && (end.pipe.read_open && write_waits (length bytes) end.pipe))) end.id)
  shown_target v end Console some = absurd (cc)
  shown_target v end (a_node node) some = absurd (cc)
  shown_target v end (Pipe id write) some =
      subst (λ (e : PipeEnd). WaitsOn (if v.way.write then target_write a v bytes (Pipe id write) else refuses a Ebadf)
      (wait_if (e.way.write && (not (length bytes == 0) && (e.pipe.read_open && write_waits (length bytes) e.pipe))) e.id)) is
      (by_all a id v.way.write (length bytes == 0) (pipe_view a.rest.files id).read_open (write_waits (length bytes) (pipe_view a.rest.files id))
      (put_write a id (take (pipe_room (pipe_view a.rest.files id)) bytes)) tt)
    where
      is : record { way = v.way; id = id; pipe = pipe_view a.rest.files id } ≡ end
      is = cc

  shown_view : (o : Option View) (end : PipeEnd) → shown_end a.rest.files o ≡ Some end →
      WaitsOn (with_view a o (λ v. if v.way.write then target_write a v bytes v.target else refuses a Ebadf))
      (wait_if (end.way.write && (not (length bytes == 0) && (end.pipe.read_open && write_waits (length bytes) end.pipe))) end.id)
  shown_view None end some = absurd (cc)
  shown_view (Some v) end some = shown_target v end v.target some

  pub write_shown : (end : PipeEnd) (stops test : Bool) → shown_end a.rest.files (view_of a (arg a 0)) ≡ Some end →
      stops ≡ (end.way.write && (not (length bytes == 0) && (end.pipe.read_open && write_waits (length bytes) end.pipe))) → stops ≡ test →
      WaitsOn (write_row a bytes) (wait_if test end.id)
  unfolding write_row
  write_shown end stops test some is tested =
      subst (λ (t : Bool). WaitsOn (write_row a bytes) (wait_if t end.id)) (sym is ∙ tested) (shown_view (view_of a (arg a 0)) end some)
