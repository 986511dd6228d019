-- A step more, and what it saw.
use Rattle.std.proofs.Common.{rules, ◌≡◌, ◌≢◌, ◌∙◌, true, inl, inr, refl, arith}
use Rattle.rv32im_step.specs.declared.stop.Stop.TheVariants.{Next}
use Rattle.rv32im_step.specs.Asked.{asked}
use Rattle.rv32im_step.specs.Parts.{registers}
use Rattle.region_watch.specs.Private.{passes, passed_bytes}
use Rattle.watch_points.proofs.Told.{ends_on, unseen_yet, room_yet, end_reached}
use Rattle.watch_points.proofs.Parts.{left_all, left_unseen, stepped, more_goes, left_next, more_stops}
use Rattle.watch_points.proofs.watched.near_steps.Goals as goal

pub returns-then-ne-clause-left : goal.returns-then-ne-clause-left
returns-then-ne-clause-left c =
    let did = c.step_at-stop.ensures.did in
    let before = c.loop-done.invariant in
    let unseen = unseen_yet c.args.bus.now.end c.loop-done.done c.loop-done.bus.seen c.loop-done.bus.end before.ends c.loop-done-test.true in
    more_stops c.args.bus.now.end c.loop-done.done _ _ _ _ _ _ _ _ _ _ _ c.args.bus.now.near c.step_at-stop.result _
    (room_yet c.args.bus.now.end c.loop-done.done c.loop-done.bus.seen c.loop-done.bus.end before.ends c.loop-done-test.true)
    (left_unseen _ _ _ _ _ _ _ _ _ _ _ _ c.loop-done.bus.seen unseen before.left)
    (stepped _ _ _ _ _ _ _ _ _ _ _ _ _ _ c.step_at-stop.result _ _ before.mode did.0.2 before.owners did.0.1 before.near unseen
    c.loop-done.bus.bus.now.paged c.step_at-stop.ensures.means did.0.3 did.0.4 did.0.5 did.3)
    (search rules)

pub returns-then-ne-clause-comes : goal.returns-then-ne-clause-comes
returns-then-ne-clause-comes c =
    let other : c.step_at-stop.result ≢ Next = search rules in
    record { bound = c.loop-done.invariant.bound; goes = λ some next. absurd (other next) }

pub returns-then-ne-clause-keeps : goal.returns-then-ne-clause-keeps
returns-then-ne-clause-keeps c =
    let did = c.step_at-stop.ensures.did in
    let before = c.loop-done.invariant in
    record {
      owners = did.0.1 ∙ before.owners;
      mode = did.0.2 ∙ before.mode;
      same_reference = did.0.0 ∙ before.name;
    }

pub returns-clause-left : goal.returns-clause-left
returns-clause-left c = c.loop-done.invariant.left

pub returns-clause-comes : goal.returns-clause-comes
returns-clause-comes c = record {
  bound = c.loop-done.invariant.bound;
  goes = λ some next. elim (end_reached c.args.bus.now.end c.loop-done.done c.loop-done.bus.seen c.loop-done.bus.end c.loop-done.invariant.ends c.loop-done-test.false some) [
    | inl seen ↦ c.loop-done.invariant.goes seen
    | inr all ↦ omega (arith, all, some)
  ];
}

pub returns-clause-keeps : goal.returns-clause-keeps
returns-clause-keeps c = record {
  owners = c.loop-done.invariant.owners;
  mode = c.loop-done.invariant.mode;
  same_reference = c.loop-done.invariant.name;
}

pub loop-done-init : goal.loop-done-init
loop-done-init c = record {
  left = rw c.requires.fresh (left_all _ _ _ _ _ _ _);
  owners = refl;
  mode = refl;
  name = refl;
  watch = refl;
  near = refl;
  ends = rw c.requires.fresh refl;
  bound = omega arith;
  goes = λ seen. absurd (seen c.requires.fresh);
}

pub loop-done-preserved : goal.loop-done-preserved
loop-done-preserved c =
    let did = c.step_at-stop.ensures.did in
    let before = c.loop-done.invariant in
    let next : c.step_at-stop.result ≡ Next = search rules in
    let unseen = unseen_yet c.args.bus.now.end c.loop-done.done c.loop-done.bus.seen c.loop-done.bus.end before.ends c.loop-done-test.true in
    let room = room_yet c.args.bus.now.end c.loop-done.done c.loop-done.bus.seen c.loop-done.bus.end before.ends c.loop-done-test.true in
    let watch = c.loop-done.bus.bus.now in
    let accesses = asked (registers c.loop-done.pc c.loop-done.x) (passed_bytes watch.mode watch.owners.now watch.mem.now) (passes watch.mode watch.owners.now true) in
    record {
      left = left_next _ _ _ _ _ _ _ _ _ _ _ _ c.step_at-stop.result next
          (more_goes c.args.bus.now.end c.loop-done.done _ _ _ _ _ _ _ _ _ _ _ c.args.bus.now.near c.step_at-stop.result _ room
          (left_unseen _ _ _ _ _ _ _ _ _ _ _ _ c.loop-done.bus.seen unseen before.left)
          (stepped _ _ _ _ _ _ _ _ _ _ _ _ _ _ c.step_at-stop.result _ _ before.mode did.0.2 before.owners did.0.1 before.near unseen
          c.loop-done.bus.bus.now.paged c.step_at-stop.ensures.means did.0.3 did.0.4 did.0.5 did.3)
          next);
      owners = did.0.1 ∙ before.owners;
      mode = did.0.2 ∙ before.mode;
      name = did.0.0 ∙ before.name;
      watch = did.1 ∙ before.watch;
      near = did.2 ∙ before.near;
      ends = ends_on c.loop-done.bus.near c.args.bus.now.end c.loop-done.bus.seen _ c.loop-done.bus.end _ accesses before.ends did.3 did.4;
      bound = omega (arith, room);
      goes = λ seen. omega arith;
    }

pub overflow_add-done : goal.overflow_add-done
overflow_add-done c =
    let room = room_yet c.args.bus.now.end c.loop-done.done c.loop-done.bus.seen c.loop-done.bus.end c.loop-done.invariant.ends c.loop-done-test.true in
    omega (arith, room, c.requires.small)

pub loop-done-smaller : goal.loop-done-smaller
loop-done-smaller c =
    let room = room_yet c.args.bus.now.end c.loop-done.done c.loop-done.bus.seen c.loop-done.bus.end c.loop-done.invariant.ends c.loop-done-test.true in
    omega (arith, room)
