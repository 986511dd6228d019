-- A step keeps what the loop keeps, and its accesses tell the first stray access.
use Rattle.std.proofs.Common.{rules, ◌≡◌, ◌+◌, ◌-◌, ◌<◌, sym, ap, ◌∙◌, arith}
use Rattle.rv32im_step.specs.declared.stop.Stop.TheVariants.{Next, Refused}
use Rattle.region_watch.specs.Strays.{stray_after_stop}
use Rattle.region_watch.proofs.Runs.{run_ends, asked_ends, whole_on, whole_stops, asked_on, asked_stops, kept_on}
use Rattle.region_watch.proofs.StepNotes.{step_halts}
use Rattle.region_watch.proofs.instructions.steps_at.Goals as goal

pub returns-in-Call-clause-leaves : goal.returns-in-Call-clause-leaves
returns-in-Call-clause-leaves c =
    let less : c.args.count - c.loop-left.left < c.args.count = omega (arith, c.loop-left-test.true, c.loop-left.invariant.bound) in
    let same : c.step_at-stop.result ≡ c.at_call.result.stop = search rules in
    record {
      leaves = whole_stops (c.args.count - c.loop-left.left) c.args.count _ _ _ _ _ _ _ _ _ _ c.step_at-stop.result _ _ _ less
          c.loop-left.invariant.mode c.step_at-stop.ensures.did.2 c.loop-left.invariant.owners c.step_at-stop.ensures.did.1
          c.step_at-stop.ensures.means (search rules) c.loop-left.invariant.whole c.at_call.ensures.done same;
      frozen = kept_on _ _ _ _ _ _ _ _ _ c.loop-left.invariant.mode c.step_at-stop.ensures.did.2 c.loop-left.invariant.owners c.step_at-stop.ensures.did.1 c.step_at-stop.ensures.did.3 c.loop-left.invariant.frozen;
      size = c.step_at-stop.ensures.did.4 ∙ c.loop-left.invariant.length;
      first = asked_stops (c.args.count - c.loop-left.left) c.args.count _ _ _ _ _ _ _ _ _ _ c.step_at-stop.result _ _ _ less
          c.loop-left.invariant.mode c.step_at-stop.ensures.did.2 c.loop-left.invariant.owners c.step_at-stop.ensures.did.1
          c.step_at-stop.ensures.means (search rules) c.step_at-stop.ensures.did.5 c.loop-left.invariant.asked;
      halts = λ halt.
          let first = step_halts _ _ _ _ _ _ _ _ c.step_at-stop.result (c.loop-left.invariant.mode ∙ halt) c.loop-left.watch.paged c.step_at-stop.ensures.means c.step_at-stop.ensures.did.5 in
          let now = rw (c.loop-left.invariant.halts halt) at first in
          now ∙ ap (stray_after_stop c.args.watch.now.first) same;
    }

pub returns-in-Call-clause-keeps : goal.returns-in-Call-clause-keeps
returns-in-Call-clause-keeps c = record {
  owners = c.step_at-stop.ensures.did.1 ∙ c.loop-left.invariant.owners;
  mode = c.step_at-stop.ensures.did.2 ∙ c.loop-left.invariant.mode;
  same_reference = c.step_at-stop.ensures.did.0 ∙ c.loop-left.invariant.name;
}

pub returns-in-Trap-clause-leaves : goal.returns-in-Trap-clause-leaves
returns-in-Trap-clause-leaves c =
    let less : c.args.count - c.loop-left.left < c.args.count = omega (arith, c.loop-left-test.true, c.loop-left.invariant.bound) in
    let same : c.step_at-stop.result ≡ c.at_trap.result.stop = search rules in
    record {
      leaves = whole_stops (c.args.count - c.loop-left.left) c.args.count _ _ _ _ _ _ _ _ _ _ c.step_at-stop.result _ _ _ less
          c.loop-left.invariant.mode c.step_at-stop.ensures.did.2 c.loop-left.invariant.owners c.step_at-stop.ensures.did.1
          c.step_at-stop.ensures.means (search rules) c.loop-left.invariant.whole c.at_trap.ensures.done same;
      frozen = kept_on _ _ _ _ _ _ _ _ _ c.loop-left.invariant.mode c.step_at-stop.ensures.did.2 c.loop-left.invariant.owners c.step_at-stop.ensures.did.1 c.step_at-stop.ensures.did.3 c.loop-left.invariant.frozen;
      size = c.step_at-stop.ensures.did.4 ∙ c.loop-left.invariant.length;
      first = asked_stops (c.args.count - c.loop-left.left) c.args.count _ _ _ _ _ _ _ _ _ _ c.step_at-stop.result _ _ _ less
          c.loop-left.invariant.mode c.step_at-stop.ensures.did.2 c.loop-left.invariant.owners c.step_at-stop.ensures.did.1
          c.step_at-stop.ensures.means (search rules) c.step_at-stop.ensures.did.5 c.loop-left.invariant.asked;
      halts = λ halt.
          let first = step_halts _ _ _ _ _ _ _ _ c.step_at-stop.result (c.loop-left.invariant.mode ∙ halt) c.loop-left.watch.paged c.step_at-stop.ensures.means c.step_at-stop.ensures.did.5 in
          let now = rw (c.loop-left.invariant.halts halt) at first in
          now ∙ ap (stray_after_stop c.args.watch.now.first) same;
    }

pub returns-in-Trap-clause-keeps : goal.returns-in-Trap-clause-keeps
returns-in-Trap-clause-keeps c = record {
  owners = c.step_at-stop.ensures.did.1 ∙ c.loop-left.invariant.owners;
  mode = c.step_at-stop.ensures.did.2 ∙ c.loop-left.invariant.mode;
  same_reference = c.step_at-stop.ensures.did.0 ∙ c.loop-left.invariant.name;
}

pub returns-in-Refused-clause-leaves : goal.returns-in-Refused-clause-leaves
returns-in-Refused-clause-leaves c =
    let less : c.args.count - c.loop-left.left < c.args.count = omega (arith, c.loop-left-test.true, c.loop-left.invariant.bound) in
    let same : c.step_at-stop.result ≡ Refused c.in-Refused.access = search rules in
    record {
      leaves = whole_stops (c.args.count - c.loop-left.left) c.args.count _ _ _ _ _ _ _ _ _ _ c.step_at-stop.result _ _ _ less
          c.loop-left.invariant.mode c.step_at-stop.ensures.did.2 c.loop-left.invariant.owners c.step_at-stop.ensures.did.1
          c.step_at-stop.ensures.means (search rules) c.loop-left.invariant.whole c.carried_out.ensures same;
      frozen = kept_on _ _ _ _ _ _ _ _ _ c.loop-left.invariant.mode c.step_at-stop.ensures.did.2 c.loop-left.invariant.owners c.step_at-stop.ensures.did.1 c.step_at-stop.ensures.did.3 c.loop-left.invariant.frozen;
      size = c.step_at-stop.ensures.did.4 ∙ c.loop-left.invariant.length;
      first = asked_stops (c.args.count - c.loop-left.left) c.args.count _ _ _ _ _ _ _ _ _ _ c.step_at-stop.result _ _ _ less
          c.loop-left.invariant.mode c.step_at-stop.ensures.did.2 c.loop-left.invariant.owners c.step_at-stop.ensures.did.1
          c.step_at-stop.ensures.means (search rules) c.step_at-stop.ensures.did.5 c.loop-left.invariant.asked;
      halts = λ halt.
          let first = step_halts _ _ _ _ _ _ _ _ c.step_at-stop.result (c.loop-left.invariant.mode ∙ halt) c.loop-left.watch.paged c.step_at-stop.ensures.means c.step_at-stop.ensures.did.5 in
          let now = rw (c.loop-left.invariant.halts halt) at first in
          now ∙ ap (stray_after_stop c.args.watch.now.first) same;
    }

pub returns-in-Refused-clause-keeps : goal.returns-in-Refused-clause-keeps
returns-in-Refused-clause-keeps c = record {
  owners = c.step_at-stop.ensures.did.1 ∙ c.loop-left.invariant.owners;
  mode = c.step_at-stop.ensures.did.2 ∙ c.loop-left.invariant.mode;
  same_reference = c.step_at-stop.ensures.did.0 ∙ c.loop-left.invariant.name;
}

pub loop-left-preserved : goal.loop-left-preserved
loop-left-preserved c =
    let next : c.step_at-stop.result ≡ Next = search rules in
    let less : c.args.count - c.loop-left.left < c.args.count = omega (arith, c.loop-left-test.true, c.loop-left.invariant.bound) in
    let one : c.args.count - (c.loop-left.left - 1) ≡ c.args.count - c.loop-left.left + 1 = omega (arith, c.loop-left-test.true, c.loop-left.invariant.bound) in
    record {
      whole = rw one (whole_on (c.args.count - c.loop-left.left) c.args.count _ _ _ _ _ _ _ _ _ _ c.step_at-stop.result _ less
          c.loop-left.invariant.mode c.step_at-stop.ensures.did.2 c.loop-left.invariant.owners c.step_at-stop.ensures.did.1
          c.step_at-stop.ensures.means next c.loop-left.invariant.whole);
      frozen = kept_on _ _ _ _ _ _ _ _ _ c.loop-left.invariant.mode c.step_at-stop.ensures.did.2 c.loop-left.invariant.owners c.step_at-stop.ensures.did.1 c.step_at-stop.ensures.did.3 c.loop-left.invariant.frozen;
      length = c.step_at-stop.ensures.did.4 ∙ c.loop-left.invariant.length;
      owners = c.step_at-stop.ensures.did.1 ∙ c.loop-left.invariant.owners;
      mode = c.step_at-stop.ensures.did.2 ∙ c.loop-left.invariant.mode;
      asked = rw one (asked_on (c.args.count - c.loop-left.left) c.args.count _ _ _ _ _ _ _ _ _ _ c.step_at-stop.result _ _ _ less
          c.loop-left.invariant.mode c.step_at-stop.ensures.did.2 c.loop-left.invariant.owners c.step_at-stop.ensures.did.1
          c.step_at-stop.ensures.means next c.step_at-stop.ensures.did.5 c.loop-left.invariant.asked);
      bound = omega (arith, c.loop-left.invariant.bound);
      halts = λ halt.
          step_halts _ _ _ _ _ _ _ _ c.step_at-stop.result (c.loop-left.invariant.mode ∙ halt) c.loop-left.watch.paged c.step_at-stop.ensures.means c.step_at-stop.ensures.did.5
          ∙ ap (stray_after_stop c.loop-left.watch.first) next ∙ c.loop-left.invariant.halts halt;
      name = c.step_at-stop.ensures.did.0 ∙ c.loop-left.invariant.name;
    }

pub returns-clause-leaves : goal.returns-clause-leaves
returns-clause-leaves c =
    let all : c.args.count - c.loop-left.left ≡ c.args.count = omega (arith, c.loop-left-test.false) in
    record {
      leaves = sym (run_ends (c.args.count - c.loop-left.left) c.args.count _ _ _ all) ∙ c.loop-left.invariant.whole;
      frozen = c.loop-left.invariant.frozen;
      size = c.loop-left.invariant.length;
      first = sym (asked_ends (c.args.count - c.loop-left.left) c.args.count _ _ _ _ _ all) ∙ c.loop-left.invariant.asked;
      halts = c.loop-left.invariant.halts;
    }

pub returns-clause-keeps : goal.returns-clause-keeps
returns-clause-keeps c = record { owners = c.loop-left.invariant.owners; mode = c.loop-left.invariant.mode; same_reference = c.loop-left.invariant.name }
