-- Half of what is left, and what stands where the search came together.
use Rattle.std.proofs.Common.{arith, refl, length, ◌+◌, ◌-◌, ◌/◌, ◌<◌, ◌≤◌, ◌≢◌, ◌≡◌, subst}
use Rattle.std.proofs.lemmas.Option.{slice_get_read}
use Rattle.vfork_exec.proofs.Places.{between_later, between_earlier, found_at, not_found, not_there}
use Rattle.fd_tables.specs.Pipes.{pipe_id}
use Rattle.fd_tables.proofs.pipes.first_place.Goals as goal
use Rattle.fd_tables.proofs.pipes.first_place.Goals.{else-low-pipes-via-then-low-pipes+else-number-id-2, else-low-pipes-via-else-low-pipes}

pub loop-low-preserved-then-number-id : goal.loop-low-preserved-then-number-id
loop-low-preserved-then-number-id c =
    let h = c.loop-low.invariant in
    let xs = c.args.pipes.now in
    let middle = c.loop-low.low + (c.loop-low.high - c.loop-low.low) / 2 in
    between_later pipe_id c.requires.0 c.args.id c.loop-low.low c.loop-low.high middle xs c.index-pipes-middle.result c.requires.1 h
    (slice_get_read xs (length xs) middle c.index-pipes-middle.result refl (omega (arith, c.loop-low-test.true, h.inside)) c.index-pipes-middle.is) (omega (arith, c.loop-low-test.true))
    (subst (λ n. c.args.id < n) c.number.ensures c.if-number-id.true)

pub loop-low-preserved : goal.loop-low-preserved
loop-low-preserved c =
    let h = c.loop-low.invariant in
    let xs = c.args.pipes.now in
    let middle = c.loop-low.low + (c.loop-low.high - c.loop-low.low) / 2 in
    between_earlier pipe_id c.requires.0 c.args.id c.loop-low.low c.loop-low.high middle xs c.index-pipes-middle.result c.requires.1 h
    (slice_get_read xs (length xs) middle c.index-pipes-middle.result refl (omega (arith, c.loop-low-test.true, h.inside)) c.index-pipes-middle.is) (omega (arith, c.loop-low-test.true)) (omega (arith, c.loop-low-test.true))
    (subst (λ n. n ≤ c.args.id) c.number.ensures c.if-number-id.false)

pub returns-then-number-id-2 : goal.returns-then-number-id-2
returns-then-number-id-2 c =
    let xs = c.args.pipes.now in
    found_at pipe_id c.args.id c.loop-low.low c.loop-low.high xs c.index-pipes-low.result c.loop-low.invariant
    (slice_get_read xs (length xs) c.loop-low.low c.index-pipes-low.result refl c.if-low-pipes.true c.index-pipes-low.is) (subst (λ n. n ≡ c.args.id) c.number-then-low-pipes.ensures c.if-number-id-2.true)

pub returns : goal.returns
returns c = elim c.else-low-pipes.branch [
  | else-low-pipes-via-then-low-pipes+else-number-id-2 w ↦
      let xs = c.args.pipes.now in
      not_found pipe_id c.requires.0 c.args.id c.loop-low.low c.loop-low.high xs w.index-pipes-low.result c.requires.1 c.loop-low.invariant c.loop-low-test.false
      (slice_get_read xs (length xs) c.loop-low.low w.index-pipes-low.result refl w.if-low-pipes.true w.index-pipes-low.is) (subst (λ n. n ≢ c.args.id) w.number-then-low-pipes.ensures w.if-number-id-2.false)
  | else-low-pipes-via-else-low-pipes w ↦
      not_there pipe_id c.args.id c.loop-low.low c.loop-low.high c.args.pipes.now c.loop-low.invariant w.if-low-pipes.false
]
