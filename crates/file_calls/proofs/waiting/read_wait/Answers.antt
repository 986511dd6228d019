-- A read of what is shown.
use Rattle.std.proofs.Common.{true, false, sym, ◌∙◌}
use Rattle.file_calls.proofs.PipeWaits.{read_blind, read_shown}
use Rattle.file_calls.proofs.waiting.read_wait.Goals as goal

pub returns-in_err-end : goal.returns-in_err-end
returns-in_err-end c = λ a spans made same room.
    rw c.from_residual.ensures (read_blind a spans (rw (same, made.table, made.args) (sym c.pipe_end.ensures.shown ∙ c.in_err-end.was)))

pub returns-then-stops_read : goal.returns-then-stops_read
returns-then-stops_read c = λ a spans made same room.
    read_shown a spans c.in_ok-end.end c.args.has_room true c.stops_read.result (rw (same, made.table, made.args) (sym c.pipe_end.ensures.shown ∙ c.in_ok-end.was)) room
    c.stops_read.ensures c.if-stops_read.true

pub returns-else-stops_read : goal.returns-else-stops_read
returns-else-stops_read c = λ a spans made same room.
    read_shown a spans c.in_ok-end.end c.args.has_room false c.stops_read.result (rw (same, made.table, made.args) (sym c.pipe_end.ensures.shown ∙ c.in_ok-end.was)) room
    c.stops_read.ensures c.if-stops_read.false
