-- A count of bytes that is cut has no room either, and what has room has it for the call alone.
use Rattle.std.proofs.Common.{◌≡◌, ◌+◌, ◌-◌, ◌^◌, min, length, sym, ap, subst, ◌∙◌, arith}
use Rattle.kept_parts.specs.Kept.{Kept}
use Rattle.kept_parts.specs.Inside.{kept_of}
use Rattle.kept_parts.specs.Regular.{Regular}
use Rattle.kept_parts.specs.Recorded.{room_beside}
use Rattle.kept_parts.proofs.Common.Recorded.{beside_less}
use Rattle.kept_parts.proofs.Mappings.LogRoom.{many_beside, room_mapped}
use Rattle.syscall_layer.proofs.answer.has_room_to_map.Goals.{After-room}
use Rattle.syscall_layer.proofs.answer.has_room_to_map.Goals as goal

room_is : (c : After-room) → c.room.result ≡ room_beside c.args.parts.now (c.recorded_len.result + length c.args.call.now.sent.items)
room_is c =
    let k = kept_of c.parts.inside in
    let sent = length c.args.call.now.sent.items in
    let bytes = c.recorded_len.result + sent in
    let len : c.len.result ≡ sent = c.len.ensures ∙ c.args.call.now.sent.ok.0 in
    let cut : c.saturating_add-bytes.result ≡ min bytes (2 ^ 64 - 1) = omega (arith, c.saturating_add-bytes.ensures, len) in
    c.room.ensures ∙ ap (room_beside k) cut ∙ many_beside k bytes ∙ ap (λ (x : Kept). room_beside x bytes) c.parts.view_is

pub returns-clause-room : goal.returns-clause-room
returns-clause-room c = λ a caller reply rows.
    let k = c.args.parts.now in
    let call = c.args.call.now in
    let regular = subst Regular c.parts.view_is c.parts.invariant.0.0 in
    room_is (goal.at.returns-clause-room c).After-room
    ∙ ap (λ n. room_beside k (n + length call.sent.items)) (c.recorded_len.ensures a caller.entry caller.held caller.runs)
    ∙ sym (room_mapped a k regular caller.entry caller.held call caller.runs caller.stands c.args.want c.requires.wanted.pages c.requires.wanted.known c.requires.wanted.asked reply rows)

pub returns-clause-alone : goal.returns-clause-alone
returns-clause-alone c = λ has.
    let sent = length c.args.call.now.sent.items in
    beside_less c.args.parts.now sent (c.recorded_len.result + sent) (omega arith) (sym (room_is (goal.at.returns-clause-alone c).After-room) ∙ has)
