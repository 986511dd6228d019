-- What is given is the row of the call.
use Rattle.std.proofs.Common.{refl, sym, subst}
use Rattle.std.specs.Prelude.{Err}
use Rattle.std.proofs.lemmas.Result.{err_from_is_err_and}
use Rattle.machine_world.specs.Asks.{Row}
use Rattle.machine_world.specs.Rows.{row}
use Rattle.memory_world.specs.Physical.{answered_in}
use Rattle.kept_parts.specs.InMemory.{physical_of, InReach}
use Rattle.kept_parts.specs.Calls.{asked_by}
use Rattle.kept_parts.proofs.Replies.Outcomes.{made_by, files_in, tree_in, output_answers}
use Rattle.kept_parts.proofs.Replies.InMemory.{in_reach}
use Rattle.syscall_layer.proofs.answer.answer_output.Goals as goal

pub returns-in_err-outcome : goal.returns-in_err-outcome
returns-in_err-outcome c = record {
  serves = λ own a caller. let p = err_from_is_err_and c.from_residual.result c.from_residual.ensures.1 in rw p.1 refl;
  memory = λ headers a caller.
      let p = err_from_is_err_and c.from_residual.result c.from_residual.ensures.1 in
      let k = c.args.parts.now in
      rw p.1 (in_reach headers a (answered_in (physical_of headers a k) (asked_by a caller) (row (asked_by a caller))) k k c.args.call.pid c.args.mode (Err p.0) refl);
  holds = λ own holds. holds;
  leaves = let p = err_from_is_err_and c.from_residual.result c.from_residual.ensures.1 in rw p.1 tt;
}

pub returns : goal.returns
returns c = record {
  serves = λ own a caller.
      let k = c.args.parts.now in
      let call = c.args.call in
      let o = c.in_ok-outcome.outcome in
      let gives = c.in_ok-outcome.ensures.gives (asked_by a caller) (made_by a k caller.entry caller.held call caller.runs caller.stands)
      (tree_in a k caller.entry caller.held call refl) (files_in a k caller.entry caller.held call refl) in
      output_answers a k caller.entry caller.held call caller.runs caller.stands o c.answer_outcome.result c.answer_outcome.new.parts gives (c.answer_outcome.ensures.answers.serves own a caller);
  memory = λ headers a caller.
      let k = c.args.parts.now in
      let call = c.args.call in
      let gives = c.in_ok-outcome.ensures.gives (asked_by a caller) (made_by a k caller.entry caller.held call caller.runs caller.stands)
      (tree_in a k caller.entry caller.held call refl) (files_in a k caller.entry caller.held call refl) in
      subst (λ (r : Row). InReach c.args.mode headers a (answered_in (physical_of headers a k) (asked_by a caller) r) k c.answer_outcome.new.parts call.pid c.answer_outcome.result) (sym gives)
      (c.answer_outcome.ensures.answers.memory headers a caller);
  holds = c.answer_outcome.ensures.answers.holds;
  leaves = c.answer_outcome.ensures.answers.leaves;
}
