use Rattle.std.proofs.Common.{map}
use Rattle.call_log.specs.Values.{got_value}
use Rattle.replay_check.proofs.OwnBytes.{paged}
use Rattle.replay_check.proofs.Output.{put_leaves, stray_leaves, fits_memory}
use Rattle.replay_check.proofs.memory.LoneMemory.put.Goals as goal

pub returns-then-not-may_put-clause-gives : goal.returns-then-not-may_put-clause-gives
returns-then-not-may_put-clause-gives c =
    let s = c.self.inside in
    rw (← c.self.view_is) (stray_leaves s.ranges.items s.owners s.mem c.self.invariant (map got_value c.args.got.now) c.if-not-may_put.ensures (record { ranges = s.ranges.items; mem = s.mem }))

pub put-requires-clause-inside : goal.put-requires-clause-inside
put-requires-clause-inside c =
    let s = c.self.inside in
    let fits = c.if-not-may_put.ensures in
    (16384, c.self.invariant.memory, fits_memory s.owners c.self.invariant.tabled.pages (map got_value c.args.got.now) fits.0)

pub returns-clause-gives : goal.returns-clause-gives
returns-clause-gives c =
    let s = c.self.inside in
    let fits = c.if-not-may_put.ensures in
    rw (← c.self.view_is) (put_leaves s.ranges.items s.owners s.mem c.put.new.mem c.self.invariant (map got_value c.args.got.now)
    (c.put.ensures.own s.owners (paged s.ranges.items s.owners s.mem c.self.invariant) fits.0))
