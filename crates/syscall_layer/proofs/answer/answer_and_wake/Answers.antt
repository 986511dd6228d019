-- Those go on that wait where the call was an event.
use Rattle.std.proofs.Common.{sym, subst, ◌∙◌}
use Rattle.std.specs.Prelude.{Ok, Err}
use Rattle.std.proofs.lemmas.Result.{err_from_is_err_and}
use Rattle.machine_world.specs.Event.{classed}
use Rattle.memory_world.specs.Physical.{classed_in, settled_in}
use Rattle.kept_parts.specs.Copies.{HoldsFiles}
use Rattle.kept_parts.specs.Stands.{world_of}
use Rattle.kept_parts.specs.Calls.{asked_by}
use Rattle.kept_parts.specs.InMemory.{headers_of, physical_of}
use Rattle.kept_parts.proofs.Replies.Wakes.{settled_answers, unsettled_answers}
use Rattle.kept_parts.proofs.Replies.InMemory.{in_reach, settled_reach, unsettled_reach}
use Rattle.kept_parts.proofs.Replies.GivenMemory.{is_unchanged}
use Rattle.syscall_layer.proofs.Leaves.{stray_keeps, stray_never, yield_goes, yield_goes_on, wait_goes, wait_goes_on, wait_unnoted, wait_leaves_notes}
use Rattle.syscall_layer.proofs.answer.answer_and_wake.Goals as goal

pub returns-in_err-served-clause-answers : goal.returns-in_err-served-clause-answers
returns-in_err-served-clause-answers g c = record {
  serves = λ own a kind flats holding caller.
      let p = err_from_is_err_and c.from_residual.result c.from_residual.ensures.1 in
      rw p.1 (c.in_err-served.ensures.answers.serves own a kind flats holding caller);
  memory = λ a kind flats caller.
      let p = err_from_is_err_and c.from_residual.result c.from_residual.ensures.1 in
      let k = c.args.parts.now in
      let headers = headers_of c.args.programs.now in
      let came = classed_in (physical_of headers a k) (asked_by a caller) in
      let same = is_unchanged headers a came k c.answer.new.parts c.args.call.pid c.args.mode _ (c.in_err-served.ensures.answers.memory a kind flats caller) in
      rw p.1 (in_reach headers a (settled_in came) k c.answer.new.parts c.args.call.pid c.args.mode (Err p.0) same);
  holds = c.in_err-served.ensures.answers.holds;
}

pub returns-then-went-clause-answers : goal.returns-then-went-clause-answers
returns-then-went-clause-answers g c = record {
  serves = λ own a kind flats holding caller.
      let k = c.args.parts.now in
      settled_answers a c.args.call.pid c.answer.new.parts c.wake_changed.new.self c.wake_changed.ensures.kept (classed (world_of a k) (asked_by a caller)) k c.in_ok-served.served
      (sym c.went.ensures ∙ c.if-went.true) (c.in_ok-served.ensures.answers.serves own a kind flats holding caller);
  memory = λ a kind flats caller.
      let k = c.args.parts.now in
      let headers = headers_of c.args.programs.now in
      settled_reach headers a c.args.call.pid c.answer.new.parts c.wake_changed.new.self c.wake_changed.ensures.kept c.args.mode (classed_in (physical_of headers a k) (asked_by a caller)) k
      c.in_ok-served.served (sym c.went.ensures ∙ c.if-went.true) (c.in_ok-served.ensures.answers.memory a kind flats caller);
  holds = λ own holds. subst HoldsFiles (sym c.wake_changed.ensures.kept) (c.in_ok-served.ensures.answers.holds own holds);
}

pub returns-else-went-clause-answers : goal.returns-else-went-clause-answers
returns-else-went-clause-answers g c = record {
  serves = λ own a kind flats holding caller.
      let k = c.args.parts.now in
      unsettled_answers a (classed (world_of a k) (asked_by a caller)) k c.answer.new.parts c.args.call.pid c.in_ok-served.served
      (sym c.went.ensures ∙ c.if-went.false) (c.in_ok-served.ensures.answers.serves own a kind flats holding caller);
  memory = λ a kind flats caller.
      let k = c.args.parts.now in
      let headers = headers_of c.args.programs.now in
      unsettled_reach headers a c.args.call.pid c.args.mode (classed_in (physical_of headers a k) (asked_by a caller)) k c.answer.new.parts
      c.in_ok-served.served (sym c.went.ensures ∙ c.if-went.false) (c.in_ok-served.ensures.answers.memory a kind flats caller);
  holds = c.in_ok-served.ensures.answers.holds;
}

-- ---- by the answer

pub returns-then-went-clause-told : goal.returns-then-went-clause-told
returns-then-went-clause-told g c = record {
  stray = λ access is. absurd (stray_never (Ok c.in_ok-served.served) (sym c.went.ensures ∙ c.if-went.true) access is);
  yields =
      yield_goes_on c.args.parts.now c.answer.new.parts c.args.call.pid (Ok c.in_ok-served.served) c.in_ok-served.ensures.leaves c.wake_changed.new.self c.wake_changed.ensures.kept;
  waits =
      wait_goes_on c.args.parts.now c.answer.new.parts c.args.call.pid (Ok c.in_ok-served.served) c.in_ok-served.ensures.leaves c.wake_changed.new.self c.wake_changed.ensures.kept;
  unnoted =
      wait_leaves_notes c.args.parts.now c.answer.new.parts c.args.call.pid (Ok c.in_ok-served.served) c.in_ok-served.ensures.leaves c.wake_changed.new.self c.wake_changed.ensures.kept;
}

pub returns-else-went-clause-told : goal.returns-else-went-clause-told
returns-else-went-clause-told g c = record {
  stray = stray_keeps c.args.parts.now c.answer.new.parts c.args.call.pid (Ok c.in_ok-served.served) c.in_ok-served.ensures.leaves;
  yields = yield_goes c.args.parts.now c.answer.new.parts c.args.call.pid (Ok c.in_ok-served.served) c.in_ok-served.ensures.leaves;
  waits = λ is marks. wait_goes c.args.parts.now c.answer.new.parts c.args.call.pid (Ok c.in_ok-served.served) c.in_ok-served.ensures.leaves is;
  unnoted = wait_unnoted c.args.parts.now c.answer.new.parts c.args.call.pid (Ok c.in_ok-served.served) c.in_ok-served.ensures.leaves;
}
