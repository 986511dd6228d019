-- The row of each number that may wait; all others reply.
use Rattle.std.proofs.Common.{◌≡◌, ◌<◌, ◌*◌, drop, arith, subst, sym, ap, ◌∙◌}
use Rattle.std.specs.Prelude.{nat_lt, slice_index}
use Rattle.machine_world.specs.Asks.{Row, arg}
use Rattle.machine_world.specs.Transfers.{room_of, write_row}
use Rattle.file_calls.specs.Calls.{WaitsOn}
use Rattle.file_calls.proofs.Transferred.{one_span, pieces_of, read_row_is, readv_row_is}
use Rattle.file_calls.proofs.Writes.{writev_few}
use Rattle.file_calls.proofs.Numbers.{row_63, row_64, row_65, row_66}
use Rattle.file_calls.proofs.Replied.{others_reply}
use Rattle.file_calls.proofs.PipeWaits.{one_room}
use Rattle.file_calls.proofs.waiting.wait_of.Goals as goal

pub returns-in-63 : goal.returns-in-63
returns-in-63 c = λ a made same.
    let addr = slice_index c.args.call.now.args 1 in
    let len = slice_index c.args.call.now.args 2 in
    subst (λ (r : Row). WaitsOn r c.read_wait.result) (sym (row_63 a _ made.number c.in-63.is ∙ read_row_is _ a made))
    (c.read_wait.ensures a (one_span addr len) made same (ap (nat_lt 0) (one_room addr len)))

pub returns-in-64 : goal.returns-in-64
returns-in-64 c = λ a made same.
    subst (λ (r : Row). WaitsOn r c.write_wait.result) (sym (row_64 a _ made.number c.in-64.is ∙ ap (write_row a) (made.sent ∙ sym c.deref.ensures.value))) (c.write_wait.ensures a made same)

pub returns-in-65 : goal.returns-in-65
returns-in-65 c = λ a made same.
    let count = slice_index c.args.call.now.args 2 in
    let room = c.have_room.ensures ∙ ap (λ bytes. nat_lt 0 (room_of (pieces_of bytes count))) c.deref-in-65.ensures.value in
    subst (λ (r : Row). WaitsOn r c.read_wait-in-65.result) (sym (row_65 a _ made.number c.in-65.is ∙ readv_row_is _ a made (c.may_move.ensures.few c.if-may_move.true)))
    (c.read_wait-in-65.ensures a (pieces_of c.args.call.now.sent.items count) made same room)

pub returns-in-66 : goal.returns-in-66
returns-in-66 c = λ a made same.
    let behind : drop (8 * arg a 2) a.sent ≡ c.behind_pieces.result.now = rw (made.args, made.sent, ← c.deref-in-66.ensures.value) (sym c.behind_pieces.ensures) in
    subst (λ (r : Row). WaitsOn r c.write_wait-in-66.result) (sym (row_66 a _ made.number c.in-66.is ∙ writev_few a (rw made.args (c.may_move-in-66-1.ensures.few c.if-may_move-2.true)) ∙ ap (write_row a) behind))
    (c.write_wait-in-66.ensures a made same)

pub returns-in_default : goal.returns-in_default
returns-in_default c = λ a made same.
    let many : 1024 < arg a 2 = rw made.args (c.may_move.ensures.many c.if-may_move.false) in
    others_reply a (λ e. omega arith) (λ e. omega arith) (λ e. many) (λ e. many)

pub returns-in_default-2 : goal.returns-in_default-2
returns-in_default-2 c = λ a made same.
    let many : 1024 < arg a 2 = rw made.args (c.may_move-in-66-1.ensures.many c.if-may_move-2.false) in
    others_reply a (λ e. omega arith) (λ e. omega arith) (λ e. many) (λ e. many)

pub returns-in_default-3 : goal.returns-in_default-3
returns-in_default-3 c = λ a made same. others_reply a (λ e. omega arith) (λ e. omega arith) (λ e. absurd (omega arith)) (λ e. absurd (omega arith))
