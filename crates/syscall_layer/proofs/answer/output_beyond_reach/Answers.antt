-- The process ends by SIGSEGV.
use Rattle.std.proofs.lemmas.Result.{err_from_is_err_and}
use Rattle.kept_parts.proofs.Replies.GivenMemory.{killed_by}
use Rattle.syscall_layer.proofs.answer.output_beyond_reach.Goals as goal

pub returns-in_err-die-in-GoOn-clause-memory : goal.returns-in_err-die-in-GoOn-clause-memory
returns-in_err-die-in-GoOn-clause-memory c = λ whole headers a e h runs.
    let p = err_from_is_err_and c.from_residual.result c.from_residual.ensures.1 in
    rw p.1 (c.in_err-die-in-GoOn.ensures.dies a)

pub returns-in_ok-die-in-GoOn-clause-memory : goal.returns-in_ok-die-in-GoOn-clause-memory
returns-in_ok-die-in-GoOn-clause-memory c = λ whole headers a e h runs.
    killed_by headers a c.args.parts.now c.die.new.self c.in_ok-die-in-GoOn.ensures.memory c.args.pid e h runs 11 (c.in_ok-die-in-GoOn.ensures.dies a)
