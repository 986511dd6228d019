-- Half of what is left, and what stands where the search came together.
use Rattle.std.proofs.Common.{arith, ◌+◌, ◌-◌, ◌/◌}
use Rattle.std.proofs.lemmas.Option.{slice_get-get_or}
use Rattle.vfork_exec.specs.Procs.{pid_of}
use Rattle.vfork_exec.proofs.Places.{between_later, between_earlier, found_at, not_found, not_there}
use Rattle.vfork_exec.proofs.procs.first_place.Goals as goal
use Rattle.vfork_exec.proofs.procs.first_place.Goals.{else-low-entries-via-then-low-entries+else-entries-low, else-low-entries-via-else-low-entries}

pub loop-low-preserved-then-entries-middle : goal.loop-low-preserved-then-entries-middle
loop-low-preserved-then-entries-middle g c =
    let h = c.loop-low.invariant in
    between_later pid_of c.requires.0 c.args.pid c.loop-low.low c.loop-low.high (c.loop-low.low + (c.loop-low.high - c.loop-low.low) / 2) c.args.entries.now _ c.requires.1 h
    (slice_get-get_or c.args.entries.now (c.loop-low.low + (c.loop-low.high - c.loop-low.low) / 2) c.index-entries-middle.result (omega (arith, c.loop-low-test.true, h.inside))) (omega (arith, c.loop-low-test.true)) c.if-entries-middle.true

pub loop-low-preserved : goal.loop-low-preserved
loop-low-preserved g c =
    let h = c.loop-low.invariant in
    between_earlier pid_of c.requires.0 c.args.pid c.loop-low.low c.loop-low.high (c.loop-low.low + (c.loop-low.high - c.loop-low.low) / 2) c.args.entries.now _ c.requires.1 h
    (slice_get-get_or c.args.entries.now (c.loop-low.low + (c.loop-low.high - c.loop-low.low) / 2) c.index-entries-middle.result (omega (arith, c.loop-low-test.true, h.inside))) (omega (arith, c.loop-low-test.true)) (omega (arith, c.loop-low-test.true)) c.if-entries-middle.false

pub returns-then-entries-low : goal.returns-then-entries-low
returns-then-entries-low g c =
    found_at pid_of c.args.pid c.loop-low.low c.loop-low.high c.args.entries.now _ c.loop-low.invariant
    (slice_get-get_or c.args.entries.now c.loop-low.low c.index-entries-low.result c.if-low-entries.true) c.if-entries-low.true

pub returns : goal.returns
returns g c = elim c.else-low-entries.branch [
  | else-low-entries-via-then-low-entries+else-entries-low w ↦
      not_found pid_of c.requires.0 c.args.pid c.loop-low.low c.loop-low.high c.args.entries.now _ c.requires.1 c.loop-low.invariant c.loop-low-test.false
      (slice_get-get_or c.args.entries.now c.loop-low.low w.index-entries-low.result w.if-low-entries.true) w.if-entries-low.false
  | else-low-entries-via-else-low-entries w ↦
      not_there pid_of c.args.pid c.loop-low.low c.loop-low.high c.args.entries.now c.loop-low.invariant w.if-low-entries.false
]
