-- A write to what is shown.
use Rattle.std.proofs.Common.{true, false, sym, ◌∙◌}
use Rattle.file_calls.proofs.PipeWaits.{write_blind, write_shown}
use Rattle.file_calls.proofs.waiting.write_wait.Goals as goal

pub returns-in_err-end : goal.returns-in_err-end
returns-in_err-end c = λ a made same.
    rw c.from_residual.ensures (write_blind a c.args.bytes.now (rw (same, made.table, made.args) (sym c.pipe_end.ensures.shown ∙ c.in_err-end.was)))

pub returns-then-stops_write : goal.returns-then-stops_write
returns-then-stops_write c = λ a made same.
    write_shown a c.args.bytes.now c.in_ok-end.end c.stops_write.result true (rw (same, made.table, made.args) (sym c.pipe_end.ensures.shown ∙ c.in_ok-end.was))
    c.stops_write.ensures c.if-stops_write.true

pub returns-else-stops_write : goal.returns-else-stops_write
returns-else-stops_write c = λ a made same.
    write_shown a c.args.bytes.now c.in_ok-end.end c.stops_write.result false (rw (same, made.table, made.args) (sym c.pipe_end.ensures.shown ∙ c.in_ok-end.was))
    c.stops_write.ensures c.if-stops_write.false
