-- A child that is told of goes.
use Rattle.std.proofs.Common.{refl, sym, subst}
use Rattle.std.specs.Prelude.{All, Ok, Err}
use Rattle.std.proofs.lemmas.Result.{err_from_is_err_and}
use Rattle.vfork_exec.specs.Procs.{Listed, with_wait}
use Rattle.machine_world.specs.Asks.{replies}
use Rattle.machine_world.specs.Event.{answered, reaped}
use Rattle.kept_parts.specs.declared.task.Task.{Task}
use Rattle.kept_parts.specs.declared.served.Served.{Served}
use Rattle.kept_parts.specs.declared.served.Served.TheVariants.{Replied}
use Rattle.kept_parts.specs.Kept.{Kept}
use Rattle.kept_parts.specs.Inside.{kept_of}
use Rattle.kept_parts.specs.Regular.{Regular}
use Rattle.kept_parts.specs.Stands.{world_of}
use Rattle.file_calls.specs.Outcomes.{CanTake, HasEnds}
use Rattle.call_bytes.specs.Puts.{IsRange}
use Rattle.memory_world.specs.Physical.{answered_in, reaped_in}
use Rattle.kept_parts.specs.InMemory.{physical_of, InReach}
use Rattle.kept_parts.specs.Serves.{Answered, Tells}
use Rattle.kept_parts.specs.Calls.{asked_by, output_reply}
use Rattle.kept_parts.proofs.Replies.InMemory.{in_reach}
use Rattle.kept_parts.proofs.Copies.BehindStrays.{holds_inside}
use Rattle.kept_parts.proofs.Replies.GivenMemory.{is_unchanged}
use Rattle.syscall_layer.proofs.ToldMemory.{reach_goes, told_goes, untold_goes}
use Rattle.kept_parts.proofs.Forks.Told.{info_ranges, regular_told, told_serves, untold_serves}
use Rattle.syscall_layer.proofs.family.answer_told.Goals as goal

pub answer_outcome-requires-clause-can : goal.answer_outcome-requires-clause-can
answer_outcome-requires-clause-can c =
    let then = sym c.in_ok-outcome.ensures.nothing in record {
      fits = subst (CanTake c.args.parts.now.files) then tt;
      ends = subst (HasEnds c.args.parts.now.files c.args.call.table) then tt;
      ranges = subst (All IsRange) (sym c.in_ok-outcome.ensures.got) (info_ranges _ c.args.told);
    }

pub returns-in_err-outcome : goal.returns-in_err-outcome
returns-in_err-outcome c = record {
  serves = λ own a caller. let p = err_from_is_err_and c.from_residual.result c.from_residual.ensures.1 in rw p.1 refl;
  memory = λ headers a caller.
      let p = err_from_is_err_and c.from_residual.result c.from_residual.ensures.1 in
      let k = c.args.parts.now in
      rw p.1 (in_reach headers a (reaped_in (physical_of headers a k) (asked_by a caller) c.args.who (Ok c.args.told)) k k c.args.call.pid c.args.mode (Err p.0) refl);
  holds = λ own holds. holds;
  leaves = let p = err_from_is_err_and c.from_residual.result c.from_residual.ensures.1 in rw p.1 tt;
}

pub returns-in_err-served : goal.returns-in_err-served
returns-in_err-served c = record {
  serves = λ own a caller.
      let p = err_from_is_err_and c.from_residual-in_err-served.result c.from_residual-in_err-served.ensures.1 in
      rw p.1 (c.in_err-served.ensures.answers.serves own a caller);
  memory = λ headers a caller.
      let p = err_from_is_err_and c.from_residual-in_err-served.result c.from_residual-in_err-served.ensures.1 in
      let k = c.args.parts.now in
      let ask = asked_by a caller in
      let same = is_unchanged headers a (answered_in (physical_of headers a k) ask (replies (output_reply ask c.in_ok-outcome.outcome))) k c.answer_outcome.new.parts c.args.call.pid c.args.mode _
      (c.in_err-served.ensures.answers.memory headers a caller) in
      rw p.1 (in_reach headers a (reaped_in (physical_of headers a k) ask c.args.who (Ok c.args.told)) k c.answer_outcome.new.parts c.args.call.pid c.args.mode (Err p.0) same);
  holds = c.in_err-served.ensures.answers.holds;
  leaves = let p = err_from_is_err_and c.from_residual-in_err-served.result c.from_residual-in_err-served.ensures.1 in rw p.1 tt;
}

pub invariant_of-parts : goal.invariant_of-parts
invariant_of-parts c =
    let k = kept_of c.parts-2.inside in (
      (
        subst (λ (s : Listed Task). Regular (record k { procs = s })) (sym c.wait.ensures.after)
            (regular_told k c.parts-2.invariant.0.0 c.args.call.pid c.args.who c.wait.result c.wait.ensures.answer),
        c.parts-2.invariant.0.1,
      ),
      c.parts-2.invariant.1,
      c.parts-2.invariant.2,
    )

pub returns-in-Replied : goal.returns-in-Replied
returns-in-Replied c = record {
  serves = λ own a caller.
      let k = c.args.parts.now in
      let mid = kept_of c.parts-2.inside in
      let pid = c.args.call.pid in
      let o = c.in_ok-outcome.ensures in
      let gave = λ (now : Kept) (s : Served). Answered a (answered (world_of a k) (asked_by a caller) (replies (output_reply (asked_by a caller) c.in_ok-outcome.outcome))) k now pid s in
      let tells = λ (now : Kept) (s : Served). Answered a (reaped (world_of a k) (asked_by a caller) c.args.who (Ok c.args.told)) k now pid s in
      let served = subst (λ (now : Kept). gave now Replied) (sym c.parts-2.view_is) (subst (gave c.answer_outcome.new.parts) c.in-Replied.is (c.in_ok-served.ensures.answers.serves own a caller)) in
      subst (λ (s : Listed Task). tells (record mid { procs = s }) c.in_ok-served.served) (sym c.wait.ensures.after)
      (subst (tells _) (sym c.in-Replied.is)
      (told_serves a k caller.entry caller.held c.args.call caller.stands c.args.who c.args.told c.in_ok-outcome.outcome c.requires.told o.value o.got o.nothing mid c.wait.result c.wait.ensures.answer served));
  memory = λ headers a caller.
      let k = c.args.parts.now in
      let mid = kept_of c.parts-2.inside in
      let pid = c.args.call.pid in
      let o = c.in_ok-outcome.ensures in
      let ask = asked_by a caller in
      let first = physical_of headers a k in
      let gives = answered_in first ask (replies (output_reply ask c.in_ok-outcome.outcome)) in
      let tells = reaped_in first ask c.args.who (Ok c.args.told) in
      let served = subst (λ (now : Kept). InReach c.args.mode headers a gives k now pid (Ok Replied)) (sym c.parts-2.view_is)
      (subst (λ (s : Served). InReach c.args.mode headers a gives k c.answer_outcome.new.parts pid (Ok s)) c.in-Replied.is (c.in_ok-served.ensures.answers.memory headers a caller)) in
      subst (λ (s : Listed Task). InReach c.args.mode headers a tells k (record mid { procs = s }) pid (Ok c.in_ok-served.served)) (sym c.wait.ensures.after)
      (subst (λ (s : Served). InReach c.args.mode headers a tells k (record mid { procs = with_wait mid.procs pid c.args.who c.wait.result }) pid (Ok s)) (sym c.in-Replied.is)
      (reach_goes headers a gives tells k mid (record mid { procs = with_wait mid.procs pid c.args.who c.wait.result }) pid c.args.mode Replied
      (told_goes headers a k caller.entry caller.held c.args.call caller.stands c.args.who c.args.told c.in_ok-outcome.outcome c.requires.told o.value o.got o.nothing mid c.wait.result c.wait.ensures.answer) served));
  holds = λ own holds. holds_inside (kept_of c.parts-2.inside) c.answer_outcome.new.parts c.parts-2.view_is (c.in_ok-served.ensures.answers.holds own holds);
  leaves =
      subst (λ (s : Served). Tells c.args.parts.now (record (kept_of c.parts-2.inside) { procs = c.wait.new.self }) c.args.call.pid s) (sym c.in-Replied.is) tt;
}

pub returns-in_default : goal.returns-in_default
returns-in_default c = record {
  serves = λ own a caller.
      let o = c.in_ok-outcome.ensures in
      untold_serves a c.args.parts.now caller.entry caller.held c.args.call caller.stands c.args.who c.args.told c.in_ok-outcome.outcome c.requires.told o.value o.got o.nothing
      c.answer_outcome.new.parts c.in_ok-served.served c.in_default.not-Replied (c.in_ok-served.ensures.answers.serves own a caller);
  memory = λ headers a caller.
      let k = c.args.parts.now in
      let o = c.in_ok-outcome.ensures in
      let ask = asked_by a caller in
      reach_goes headers a (answered_in (physical_of headers a k) ask (replies (output_reply ask c.in_ok-outcome.outcome))) (reaped_in (physical_of headers a k) ask c.args.who (Ok c.args.told)) k
      c.answer_outcome.new.parts c.answer_outcome.new.parts c.args.call.pid c.args.mode c.in_ok-served.served
      (untold_goes headers a k caller.entry caller.held c.args.call caller.stands c.args.who c.args.told c.in_ok-outcome.outcome c.requires.told o.value o.got o.nothing
      c.answer_outcome.new.parts c.in_ok-served.served c.in_default.not-Replied) (c.in_ok-served.ensures.answers.memory headers a caller);
  holds = c.in_ok-served.ensures.answers.holds;
  leaves = c.in_ok-served.ensures.answers.leaves;
}
