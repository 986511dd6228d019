-- A sum that is cut has no room either.
use Rattle.std.proofs.Common.{◌≡◌, ◌+◌, ◌-◌, ◌^◌, min, ap, ◌∙◌, arith}
use Rattle.call_log.specs.Notes.{has_room}
use Rattle.call_log.proofs.Room.{many_bytes}
use Rattle.flat_loader.specs.Frame.{texts}
use Rattle.machine_world.specs.World.{Recording}
use Rattle.machine_world.specs.Recordings.{with_brought}
use Rattle.recordings.proofs.Weights.{beside}
use Rattle.recordings.proofs.recording.Recording.room.Goals as goal

pub returns : goal.returns
returns c =
    let notes = c.args.log.now.notes in
    let lists = texts c.self.inside.brought.items in
    let weight : c.self.inside.weight ≡ with_brought lists 0 = c.self.invariant in
    let sum : with_brought lists c.args.bytes ≡ with_brought lists 0 + c.args.bytes = beside lists c.args.bytes in
    let cut : c.saturating_add.result ≡ min (with_brought lists c.args.bytes) (2 ^ 64 - 1) = omega (arith, c.saturating_add.ensures, weight, sum) in
    c.room.ensures ∙ ap (has_room notes) cut ∙ many_bytes notes (with_brought lists c.args.bytes)
    ∙ ap (λ (r : Recording). has_room notes (with_brought r.brought c.args.bytes)) c.self.view_is
