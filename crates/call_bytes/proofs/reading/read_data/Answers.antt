-- A range that strays ends all, and one that is read leaves the rest.
use Rattle.std.proofs.Common.{ℕ, sym, ap, ◌∙◌}
use Rattle.std.specs.Prelude.{min}
use Rattle.std.proofs.lemmas.Result.{err_from_is_err_and}
use Rattle.call_log.specs.Sent.{Span, read_span, cut, piece_at}
use Rattle.region_watch.specs.Private.{own_bytes}
use Rattle.call_bytes.specs.Reading.{appended}
use Rattle.call_bytes.proofs.ReadRanges.{first_left, same_span, next_read, next_strays, appended_strays, unread_on}
use Rattle.call_bytes.proofs.reading.read_data.Goals as goal

pub returns-in_err-read_range : goal.returns-in_err-read_range
returns-in_err-read_range c =
    let p = err_from_is_err_and c.from_residual.result c.from_residual.ensures.1 in
    let m = own_bytes c.args.owners.now c.args.mem.now in
    let piece = piece_at c.args.pieces.now in
    let parts = ap (cut c.loop-i.left) (first_left piece c.loop-i.i c.args.count c.loop-i-test.true) in
    let span = same_span _ _ _ _ c.word.ensures (c.min.ensures ∙ ap (λ (n : ℕ). min n c.loop-i.left) c.word-len.ensures) in
    let old = c.loop-i.into.items in
    rw (p.1, p.2) (unread_on _ _ old c.read_range.new.into.items c.args.into.now.items c.args.into.now.items _
    (λ stray is. appended_strays _ _ stray (next_strays m _ _ _ old stray _ parts c.loop-i.invariant (ap (read_span m) (sym span) ∙ is))) c.in_err-read_range.ensures.bytes)

pub loop-i-preserved : goal.loop-i-preserved
loop-i-preserved c =
    let m = own_bytes c.args.owners.now c.args.mem.now in
    let piece = piece_at c.args.pieces.now in
    let parts = ap (cut c.loop-i.left) (first_left piece c.loop-i.i c.args.count c.loop-i-test.true) in
    let span = same_span _ _ _ _ c.word.ensures (c.min.ensures ∙ ap (λ (n : ℕ). min n c.loop-i.left) c.word-len.ensures) in
    let old = c.loop-i.into.items in
    rw (c.saturating_sub-left.ensures, c.word-len.ensures)
    (next_read m _ _ _ old _ _ parts c.loop-i.invariant (ap (λ (s : Span). appended old (read_span m s)) (sym span) ∙ c.in_ok-read_range.ensures.bytes))
