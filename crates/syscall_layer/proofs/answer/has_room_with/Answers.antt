-- A count of bytes that is cut has no room either.
use Rattle.std.proofs.Common.{◌≡◌, ◌+◌, ◌-◌, ◌^◌, min, length, map, ap, ◌∙◌, arith}
use Rattle.call_log.specs.Values.{got_value}
use Rattle.call_bytes.specs.Puts.{got_len}
use Rattle.kept_parts.specs.Kept.{Kept}
use Rattle.kept_parts.specs.Inside.{kept_of}
use Rattle.kept_parts.specs.Recorded.{room_beside}
use Rattle.kept_parts.proofs.Mappings.LogRoom.{many_beside}
use Rattle.syscall_layer.proofs.answer.has_room_with.Goals as goal

pub returns-clause-room : goal.returns-clause-room
returns-clause-room c =
    let k = kept_of c.parts.inside in
    let sent = length c.args.call.now.sent.items in
    let got = got_len (map got_value c.args.got.now) in
    let len : c.len.result ≡ sent = c.len.ensures ∙ c.args.call.now.sent.ok.0 in
    let cut : c.saturating_add-bytes.result ≡ min (sent + got) (2 ^ 64 - 1) = omega (arith, c.saturating_add-bytes.ensures, c.got_len.ensures, len) in
    c.room.ensures ∙ ap (room_beside k) cut ∙ many_beside k (sent + got) ∙ ap (λ (x : Kept). room_beside x (sent + got)) c.parts.view_is
