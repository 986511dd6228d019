-- A part more, and what is told of it.
use Rattle.std.proofs.Common.{rules, ◌≡◌, ◌≢◌, ◌∙◌, refl, arith}
use Rattle.rv32im_step.specs.declared.stop.Stop.TheVariants.{Next}
use Rattle.watch_points.proofs.Told.{seen_short}
use Rattle.watch_points.proofs.Parts.{reached_all, reached_on, reached_next, reached_end, reached_told}
use Rattle.watch_points.proofs.watched.run_beside.Goals as goal

pub loop-done-init : goal.loop-done-init
loop-done-init g c = record {
  bound = omega arith;
  owners = refl;
  mode = refl;
  name = refl;
  reached = reached_all _ _ _ _ _ _ _ _ _ _ _;
}

pub loop-done-preserved : goal.loop-done-preserved
loop-done-preserved g c =
    let run = c.run_near-run.ensures in
    let before = c.loop-done.invariant in
    let next : c.run_near-run.result.progress.stop ≡ Next = search rules in
    record {
      bound = omega (arith, run.comes.bound, before.bound, c.loop-done-test.true);
      owners = run.keeps.owners ∙ before.owners;
      mode = run.keeps.mode ∙ before.mode;
      name = run.keeps.same_reference ∙ before.name;
      reached = reached_next c.args.count _ _ _ _ _ _ _ _ _ _ _ _ _ _ _ _ next
          (reached_on c.args.count _ _ _ _ _ _ _ _ _ _ _ _ _ _ _ _ _ _ _ _ _ _ _ _ before.mode before.owners before.reached run.left c.tell.ensures);
    }

pub loop-done-smaller : goal.loop-done-smaller
loop-done-smaller g c =
    let run = c.run_near-run.ensures in
    let next : c.run_near-run.result.progress.stop ≡ Next = search rules in
    let more = run.comes.goes (omega (arith, c.loop-done-test.true)) next in
    omega (arith, more, c.loop-done-test.true)

pub tell-requires-clause-range : goal.tell-requires-clause-range
tell-requires-clause-range g c = seen_short c.run_near-run.result.seen _ _ _ _ _ _ c.run_near-run.ensures.left.told

pub returns-then-ne : goal.returns-then-ne
returns-then-ne g c =
    let run = c.run_near-run.ensures in
    let before = c.loop-done.invariant in
    let other : c.run_near-run.result.progress.stop ≢ Next = search rules in
    let all = reached_told c.args.count _ _ _ _ _ _ _ _ _ _ _ _ _ _ _ _ (λ next. absurd (other next)) c.of-near.ensures.near
    (reached_on c.args.count _ _ _ _ _ _ _ _ _ _ _ _ _ _ _ _ _ _ _ _ _ _ _ _ before.mode before.owners before.reached run.left c.tell.ensures) in
    record {
      leaves = record { leaves = all.leaves; frozen = all.frozen; size = all.size; first = all.strays; halts = all.halts };
      keeps = record { owners = run.keeps.owners ∙ before.owners; mode = run.keeps.mode ∙ before.mode; same_reference = run.keeps.same_reference ∙ before.name };
      hits = all.hits;
    }

pub returns : goal.returns
returns g c =
    let before = c.loop-done.invariant in
    let all = reached_told c.args.count _ _ _ _ _ _ _ _ _ _ _ _ _ _ _ _ (λ next. omega arith) c.of-near.ensures.near
    (reached_end c.args.count _ _ _ _ _ _ _ _ _ _ _ _ _ _ _ (omega (arith, before.bound, c.loop-done-test.false)) before.reached) in
    record {
      leaves = record { leaves = all.leaves; frozen = all.frozen; size = all.size; first = all.strays; halts = all.halts };
      keeps = record { owners = before.owners; mode = before.mode; same_reference = before.name };
      hits = all.hits;
    }
