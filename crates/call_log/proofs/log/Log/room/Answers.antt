-- The two counts are the sums of the limits.
use Rattle.std.proofs.Common.{◌≡◌, ◌-◌, false, ◌∙◌, subst}
use Rattle.std.specs.Prelude.{nat_le}
use Rattle.call_log.specs.Notes.{most_bytes, has_room}
use Rattle.call_log.specs.Inside.{notes_of}
use Rattle.call_log.proofs.Room.{room_left, no_room, none_below}
use Rattle.call_log.proofs.log.Log.room.Goals as goal

pub returns-then-self-lt-MOST_CALLS : goal.returns-then-self-lt-MOST_CALLS
returns-then-self-lt-MOST_CALLS c =
    let i = c.self.inside in
    let v = c.self.invariant in
    subst (λ k. nat_le c.args.bytes (most_bytes - i.bytes) ≡ has_room k.notes c.args.bytes) c.self.view_is
    (room_left (notes_of i) i.calls i.bytes v.calls v.bytes v.calls_fit v.bytes_fit c.args.bytes c.if-self-lt-MOST_CALLS.true)

pub returns-else-self-lt-MOST_CALLS : goal.returns-else-self-lt-MOST_CALLS
returns-else-self-lt-MOST_CALLS c =
    let i = c.self.inside in
    let v = c.self.invariant in
    none_below i.calls c.if-self-lt-MOST_CALLS.false
    ∙ subst (λ k. false ≡ has_room k.notes c.args.bytes) c.self.view_is
    (no_room (notes_of i) i.calls i.bytes v.calls v.bytes v.calls_fit v.bytes_fit c.args.bytes c.if-self-lt-MOST_CALLS.false)
