-- What is added of the access that was seen.
use Rattle.std.proofs.Common.{◌∙◌, sym}
use Rattle.watch_points.proofs.Told.{tell_hit, tell_miss, tell_none}
use Rattle.watch_points.proofs.watched.tell.Goals as goal

pub returns-then-asks : goal.returns-then-asks
returns-then-asks g c = c.add.ensures ∙ tell_hit _ _ c.args.pid c.args.seen c.in-Some.access c.args.hits.now c.in-Some.is (sym c.asks.ensures ∙ c.if-asks.true)

pub returns-else-asks : goal.returns-else-asks
returns-else-asks g c = tell_miss _ _ c.args.pid c.args.seen c.in-Some.access c.args.hits.now c.in-Some.is (sym c.asks.ensures ∙ c.if-asks.false)

pub returns-in_default : goal.returns-in_default
returns-in_default g c = tell_none _ _ c.args.pid c.args.seen c.args.hits.now c.in_default.is
