-- A child more, or why there is none.
use Rattle.std.proofs.Common.{refl, sym, ap, subst, ◌∙◌}
use Rattle.vfork_exec.specs.Procs.{most_entries, count}
use Rattle.call_log.specs.Errno.{refusal}
use Rattle.std.specs.Prelude.{nat_le}
use Rattle.kept_parts.specs.Kept.{Kept}
use Rattle.kept_parts.specs.Regular.{IsRegular}
use Rattle.kept_parts.proofs.Forks.Child.{flags_serve, full_serves, fork_has_no_room, fork_serves}
use Rattle.kept_parts.proofs.Common.RunningProcess.{runs_in}
use Rattle.kept_parts.proofs.Common.ProcessList.{can_run_lives}
use Rattle.call_log.specs.declared.errno.Errno.TheVariants.{Eagain, Einval}
use Rattle.syscall_layer.proofs.Leaves.{fork_leaves}
use Rattle.syscall_layer.proofs.family.answer_clone.Goals as goal

pub returns-then-call-ne-VFORK_FLAGS-clause-serves : goal.returns-then-call-ne-VFORK_FLAGS-clause-serves
returns-then-call-ne-VFORK_FLAGS-clause-serves c = λ a caller.
    flags_serve a c.args.parts.now caller.entry caller.held c.args.call caller.stands c.if-call-ne-VFORK_FLAGS.true (refusal Einval) refl c.refuse.new.parts c.refuse.result
    (c.refuse.ensures.serves a caller)

pub returns-then-full-clause-serves : goal.returns-then-full-clause-serves
returns-then-full-clause-serves c = λ a caller.
    let many = ap (λ (x : Kept). nat_le most_entries (count x.procs)) (sym c.parts.view_is) ∙ sym c.full.ensures.full ∙ c.if-full.true in
    full_serves a c.args.parts.now caller.entry caller.held c.args.call caller.stands c.if-call-ne-VFORK_FLAGS.false many (refusal Eagain) refl
    c.refuse-then-full.new.parts c.refuse-then-full.result (c.refuse-then-full.ensures.serves a caller)

pub returns-then-not-has_room-clause-serves : goal.returns-then-not-has_room-clause-serves
returns-then-not-has_room-clause-serves c = λ a caller.
    let k = c.args.parts.now in
    let call = c.args.call in
    let few = ap (λ (x : Kept). nat_le most_entries (count x.procs)) (sym c.parts.view_is) ∙ sym c.full.ensures.full ∙ c.if-full.false in
    fork_has_no_room a k caller.entry caller.held call caller.stands c.if-call-ne-VFORK_FLAGS.false few
    (sym c.has_room.ensures.room ∙ c.if-not-has_room.true)

pub returns-clause-serves : goal.returns-clause-serves
returns-clause-serves c = λ a caller.
    let k = c.args.parts.now in
    let call = c.args.call in
    let few = ap (λ (x : Kept). nat_le most_entries (count x.procs)) (sym c.parts.view_is) ∙ sym c.full.ensures.full ∙ c.if-full.false in
    let room = sym c.has_room.ensures.room ∙ c.if-not-has_room.false in
    fork_serves a k caller.entry caller.held call caller.stands c.if-call-ne-VFORK_FLAGS.false few (subst IsRegular c.parts.view_is c.parts.invariant.0).0 caller.runs.lives room c.fork.new.self (c.in_ok-fork.ensures.forks caller.entry caller.held caller.runs)

pub returns-clause-leaves : goal.returns-clause-leaves
returns-clause-leaves c =
    let k = c.args.parts.now in
    let call = c.args.call in
    let regular = (subst IsRegular c.parts.view_is c.parts.invariant.0).0 in
    let r = runs_in k call.pid regular (can_run_lives k.procs call.pid c.requires) in
    fork_leaves k r.0 call regular r.1.1.lives c.fork.new.self (c.in_ok-fork.ensures.forks r.0 r.1.0 r.1.1)

pub returns-then-call-ne-VFORK_FLAGS-clause-leaves : goal.returns-then-call-ne-VFORK_FLAGS-clause-leaves
returns-then-call-ne-VFORK_FLAGS-clause-leaves c = c.refuse.ensures.leaves c.requires

pub returns-then-full-clause-leaves : goal.returns-then-full-clause-leaves
returns-then-full-clause-leaves c = c.refuse-then-full.ensures.leaves c.requires
