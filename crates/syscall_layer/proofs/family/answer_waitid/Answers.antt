-- By what is found of its children.
use Rattle.std.proofs.Common.{refl, sym, ap, subst, ◌∙◌}
use Rattle.std.specs.Prelude.{Ok, slice_index}
use Rattle.call_log.specs.Errno.{refusal}
use Rattle.vfork_exec.specs.declared.family.Waited.TheVariants as waited
use Rattle.vfork_exec.specs.declared.family.State.TheVariants.{Waiting}
use Rattle.vfork_exec.specs.Procs.{Listed, CanRun, looked, with_wait, with_state_at}
use Rattle.machine_world.specs.FamilyCalls.{may_wait}
use Rattle.machine_world.specs.Event.{waitid}
use Rattle.kept_parts.specs.declared.task.Task.{Task}
use Rattle.kept_parts.specs.declared.served.Served.TheVariants as served
use Rattle.kept_parts.specs.Kept.{Kept}
use Rattle.kept_parts.specs.Inside.{kept_of}
use Rattle.kept_parts.specs.Regular.{Regular}
use Rattle.kept_parts.specs.Stands.{world_of}
use Rattle.memory_world.specs.Physical.{waitid_in}
use Rattle.kept_parts.specs.InMemory.{physical_of, InReach}
use Rattle.kept_parts.specs.Serves.{Answered}
use Rattle.kept_parts.specs.Calls.{asked_by}
use Rattle.kept_parts.proofs.Common.RunningProcess.{runs_in}
use Rattle.kept_parts.proofs.Common.ProcessList.{can_run_lives}
use Rattle.kept_parts.proofs.Replies.InMemory.{in_reach, same_reach}
use Rattle.kept_parts.proofs.Copies.BehindStrays.{holds_inside}
use Rattle.syscall_layer.proofs.ToldMemory.{fault_in, looked_in, childless_in, waiting_in}
use Rattle.kept_parts.proofs.Forks.Told.{is_told, looked_same, regular_waiting, waits_serve, fault_serves, looked_serves, childless_serves}
use Rattle.syscall_layer.proofs.Leaves.{waits_now}
use Rattle.syscall_layer.proofs.family.answer_waitid.Goals as goal

pub returns-in-Some : goal.returns-in-Some
returns-in-Some c = record {
  serves = λ own a caller.
      let k = c.args.parts.now in
      let fault = sym (c.fault_of.ensures (asked_by a caller) (sym caller.stands.args)) ∙ c.in-Some.is in
      fault_serves a k caller.entry caller.held c.args.call caller.runs.lives caller.stands c.refuse.new.parts c.refuse.result c.in-Some.errno fault (refusal c.in-Some.errno) refl (c.refuse.ensures.serves a caller);
  memory = λ headers a caller.
      let k = c.args.parts.now in
      let fault = sym (c.fault_of.ensures (asked_by a caller) (sym caller.stands.args)) ∙ c.in-Some.is in
      in_reach headers a (waitid_in (physical_of headers a k) (asked_by a caller)) k c.refuse.new.parts c.args.call.pid c.args.mode c.refuse.result
      (fault_in headers a k caller.entry caller.held c.args.call caller.runs.lives caller.stands c.refuse.new.parts c.refuse.ensures.memory c.refuse.result c.in-Some.errno fault (refusal c.in-Some.errno) refl (c.refuse.ensures.serves a caller));
  holds = λ own. c.refuse.ensures.holds;
  leaves = c.refuse.ensures.leaves c.requires.ready;
}

pub returns-in-Err : goal.returns-in-Err
returns-in-Err c = record {
  serves = λ own a caller.
      let k = c.args.parts.now in
      let asks = asked_by a caller in
      let fault = sym (c.fault_of.ensures asks (sym caller.stands.args)) ∙ c.in_default.is in
      let looks = ap (λ (x : Kept). looked x.procs c.args.call.pid c.meant-who.result (may_wait (slice_index c.args.call.args 3))) (sym c.parts.view_is) ∙ sym c.wait_look.ensures ∙ c.in-Err.is in
      childless_serves a k caller.entry caller.held c.args.call caller.runs.lives caller.stands c.refuse-in-Err.new.parts c.refuse-in-Err.result fault c.meant-who.result (may_wait (slice_index c.args.call.args 3))
      (c.meant-who.ensures asks (sym caller.stands.args)) refl c.in-Err.errno looks (refusal c.in-Err.errno) refl (c.refuse-in-Err.ensures.serves a caller);
  memory = λ headers a caller.
      let k = c.args.parts.now in
      let asks = asked_by a caller in
      let fault = sym (c.fault_of.ensures asks (sym caller.stands.args)) ∙ c.in_default.is in
      let looks = ap (λ (x : Kept). looked x.procs c.args.call.pid c.meant-who.result (may_wait (slice_index c.args.call.args 3))) (sym c.parts.view_is) ∙ sym c.wait_look.ensures ∙ c.in-Err.is in
      in_reach headers a (waitid_in (physical_of headers a k) asks) k c.refuse-in-Err.new.parts c.args.call.pid c.args.mode c.refuse-in-Err.result
      (childless_in headers a k caller.entry caller.held c.args.call caller.runs.lives caller.stands fault c.meant-who.result (may_wait (slice_index c.args.call.args 3)) (c.meant-who.ensures asks (sym caller.stands.args)) refl
      c.refuse-in-Err.new.parts c.refuse-in-Err.ensures.memory c.refuse-in-Err.result c.in-Err.errno looks (refusal c.in-Err.errno) refl (c.refuse-in-Err.ensures.serves a caller));
  holds = λ own. c.refuse-in-Err.ensures.holds;
  leaves = c.refuse-in-Err.ensures.leaves c.requires.ready;
}

pub invariant_of-parts : goal.invariant_of-parts
invariant_of-parts c =
    let k = kept_of c.parts.inside in
    let pid = c.args.call.pid in
    let ready = subst (λ (x : Kept). CanRun x.procs pid) (sym c.parts.view_is) c.requires.ready in
    let r = runs_in k pid c.parts.invariant.0.0 (can_run_lives k.procs pid ready) in
    let waits = c.wait.ensures.answer ∙ sym c.wait_look.ensures ∙ c.in-Ok.is ∙ ap Ok c.in-Waits.is in (
      (
        subst (λ (s : Listed Task). Regular (record k { procs = s })) (sym (c.wait.ensures.after ∙ ap (with_wait k.procs pid c.meant-who.result) waits))
            (regular_waiting k pid r.0 (Waiting c.meant-who.result) refl c.parts.invariant.0.0 r.1.1.lives ready),
        c.parts.invariant.0.1,
      ),
      c.parts.invariant.1,
      c.parts.invariant.2,
    )

pub returns-in-Waits : goal.returns-in-Waits
returns-in-Waits c = record {
  serves = λ own a caller.
      let k = c.args.parts.now in
      let old = kept_of c.parts.inside in
      let call = c.args.call in
      let who = c.meant-who.result in
      let may = may_wait (slice_index call.args 3) in
      let asks = asked_by a caller in
      let fault = sym (c.fault_of.ensures asks (sym caller.stands.args)) ∙ c.in_default.is in
      let looks = sym c.wait_look.ensures ∙ c.in-Ok.is ∙ ap Ok c.in-Waits.is in
      let looks_so = ap (λ (x : Kept). looked x.procs call.pid who may) (sym c.parts.view_is) ∙ looks in
      let procs = c.wait.ensures.after ∙ ap (with_wait old.procs call.pid who) (c.wait.ensures.answer ∙ looks) in
      let serves = looked_serves a k caller.entry caller.held call caller.runs.lives caller.stands (record k { procs = with_state_at k.procs call.pid (Waiting who) }) (Ok served.Waits) fault who may (c.meant-who.ensures asks (sym caller.stands.args)) refl
      (Ok waited.Waits) looks_so (waits_serve a k call.pid caller.entry caller.runs.lives (Waiting who)) in
      subst (λ (x : Kept). Answered a (waitid (world_of a k) asks) k x call.pid served.Waits)
      (ap (λ (x : Kept). record x { procs = with_state_at x.procs call.pid (Waiting who) }) (sym c.parts.view_is) ∙ (λ i. record old { procs = sym procs i })) serves;
  memory = λ headers a caller.
      let k = c.args.parts.now in
      let old = kept_of c.parts.inside in
      let call = c.args.call in
      let who = c.meant-who.result in
      let may = may_wait (slice_index call.args 3) in
      let asks = asked_by a caller in
      let fault = sym (c.fault_of.ensures asks (sym caller.stands.args)) ∙ c.in_default.is in
      let looks = sym c.wait_look.ensures ∙ c.in-Ok.is ∙ ap Ok c.in-Waits.is in
      let looks_so = ap (λ (x : Kept). looked x.procs call.pid who may) (sym c.parts.view_is) ∙ looks in
      let procs = c.wait.ensures.after ∙ ap (with_wait old.procs call.pid who) (c.wait.ensures.answer ∙ looks) in
      let serves = in_reach headers a (waitid_in (physical_of headers a k) asks) k (record k { procs = with_state_at k.procs call.pid (Waiting who) }) call.pid c.args.mode (Ok served.Waits)
      (waiting_in headers a k caller.entry caller.held call caller.runs.lives caller.stands fault who may (c.meant-who.ensures asks (sym caller.stands.args)) refl looks_so) in
      subst (λ (x : Kept). InReach c.args.mode headers a (waitid_in (physical_of headers a k) asks) k x call.pid (Ok served.Waits))
      (ap (λ (x : Kept). record x { procs = with_state_at x.procs call.pid (Waiting who) }) (sym c.parts.view_is) ∙ (λ i. record old { procs = sym procs i })) serves;
  holds = λ own holds. holds_inside (kept_of c.parts.inside) c.args.parts.now c.parts.view_is holds;
  leaves =
      let old = kept_of c.parts.inside in
      let pid = c.args.call.pid in
      let who = c.meant-who.result in
      let ready = subst (λ (x : Kept). CanRun x.procs pid) (sym c.parts.view_is) c.requires.ready in
      let procs = c.wait.ensures.after ∙ ap (with_wait old.procs pid who) (c.wait.ensures.answer ∙ sym c.wait_look.ensures ∙ c.in-Ok.is ∙ ap Ok c.in-Waits.is) in
      (waits_now old.procs pid ready (Waiting who) refl c.wait.new.self procs, ap (λ (x : Kept). x.files) c.parts.view_is, ap (λ (x : Kept). x.notes) c.parts.view_is);
}

pub answer_told-requires-clause-told : goal.answer_told-requires-clause-told
answer_told-requires-clause-told c =
    let k = c.args.parts.now in
    let looks = ap (λ (x : Kept). looked x.procs c.args.call.pid c.meant-who.result (may_wait (slice_index c.args.call.args 3))) (sym c.parts.view_is) ∙ sym c.wait_look.ensures ∙ c.in-Ok.is in
    looked_same k.procs c.args.call.pid c.meant-who.result (may_wait (slice_index c.args.call.args 3)) c.in-Ok.told (is_told c.in-Ok.told c.in_default-told.not-Waits) looks

pub returns : goal.returns
returns c = record {
  serves = λ own a caller.
      let k = c.args.parts.now in
      let asks = asked_by a caller in
      let fault = sym (c.fault_of.ensures asks (sym caller.stands.args)) ∙ c.in_default.is in
      let looks = ap (λ (x : Kept). looked x.procs c.args.call.pid c.meant-who.result (may_wait (slice_index c.args.call.args 3))) (sym c.parts.view_is) ∙ sym c.wait_look.ensures ∙ c.in-Ok.is in
      looked_serves a k caller.entry caller.held c.args.call caller.runs.lives caller.stands c.answer_told.new.parts c.answer_told.result fault c.meant-who.result (may_wait (slice_index c.args.call.args 3))
      (c.meant-who.ensures asks (sym caller.stands.args)) refl (Ok c.in-Ok.told) looks (c.answer_told.ensures.serves own a caller);
  memory = λ headers a caller.
      let k = c.args.parts.now in
      let asks = asked_by a caller in
      let fault = sym (c.fault_of.ensures asks (sym caller.stands.args)) ∙ c.in_default.is in
      let looks = ap (λ (x : Kept). looked x.procs c.args.call.pid c.meant-who.result (may_wait (slice_index c.args.call.args 3))) (sym c.parts.view_is) ∙ sym c.wait_look.ensures ∙ c.in-Ok.is in
      same_reach headers a c.args.mode _ _
      (looked_in headers a k caller.entry caller.held c.args.call caller.runs.lives caller.stands fault c.meant-who.result (may_wait (slice_index c.args.call.args 3)) (c.meant-who.ensures asks (sym caller.stands.args)) refl (Ok c.in-Ok.told) looks)
      k c.answer_told.new.parts c.args.call.pid c.answer_told.result (c.answer_told.ensures.memory headers a caller);
  holds = c.answer_told.ensures.holds;
  leaves = c.answer_told.ensures.leaves;
}
