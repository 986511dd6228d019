-- A range that strays ends all, and one that is read leaves the rest.
use Rattle.std.proofs.Common.{ℕ, arith}
use Rattle.std.specs.declared.alloc.Global.{Global}
use Rattle.std.proofs.lemmas.Result.{err_from_is_err_and}
use Rattle.call_log.specs.Sent.{read_span}
use Rattle.region_watch.specs.Private.{own_bytes}
use Rattle.call_bytes.proofs.ReadRanges.{piece_span, first_left, next_read, next_strays, appended_length, unread}
use Rattle.call_bytes.proofs.reading.read_pieces.Goals as goal

pub returns-in_err-read_range-clause-read : goal.returns-in_err-read_range-clause-read
returns-in_err-read_range-clause-read c =
    let p = err_from_is_err_and c.from_residual.result c.from_residual.ensures.1 in
    let m = own_bytes c.args.owners.now c.args.mem.now in
    let parts = first_left (piece_span c.args.at) c.loop-i.i c.args.count c.loop-i-test.true in
    rw (p.1, p.2) (unread Global (read_span m (piece_span c.args.at c.loop-i.i)) _ c.loop-i.pieces.items c.read_range.new.into.items _
    (λ stray is. next_strays m _ _ _ c.loop-i.pieces.items stray _ parts c.loop-i.invariant.read is) c.in_err-read_range.ensures.bytes)

pub loop-i-preserved : goal.loop-i-preserved
loop-i-preserved c =
    let m = own_bytes c.args.owners.now c.args.mem.now in
    let i : ℕ = c.loop-i.i in
    let parts = first_left (piece_span c.args.at) i c.args.count c.loop-i-test.true in
    let old = c.loop-i.pieces.items in
    let new = c.read_range.new.into.items in
    record {
      read = next_read m _ _ _ old new _ parts c.loop-i.invariant.read c.in_ok-read_range.ensures.bytes;
      len = omega (arith, appended_length m (piece_span c.args.at i) old new c.in_ok-read_range.ensures.bytes, c.loop-i.invariant.len);
    }
