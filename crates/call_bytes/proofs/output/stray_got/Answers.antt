-- A range is shorter than there are addresses.
use Rattle.std.proofs.Common.{arith}
use Rattle.std.proofs.Math.Facts.{Fits-of_lt}
use Rattle.call_bytes.proofs.Puts.{range_at}
use Rattle.call_bytes.proofs.output.stray_got.Goals as goal

pub overflow_cast-len : goal.overflow_cast-len
overflow_cast-len c =
    let r = range_at c.args.got.now c.loop-range.range-index c.range-item.result c.requires c.loop-range-test.true c.range-item.is in
    Fits-of_lt (omega (arith, r.1, c.len-len.ensures, c.range-item.result.bytes.ok.0))
