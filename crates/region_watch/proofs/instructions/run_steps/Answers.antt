-- No instruction, or the loop over a watch of its own.
use Rattle.std.proofs.Common.{rules, refl}
use Rattle.region_watch.specs.Instructions.{instructions, all_asked}
use Rattle.region_watch.proofs.instructions.run_steps.Goals as goal

pub returns-then-count-eq0-clause-leaves : goal.returns-then-count-eq0-clause-leaves
unfolding instructions all_asked
returns-then-count-eq0-clause-leaves c = record {
  leaves = rw c.if-count-eq0.true refl;
  frozen = refl;
  size = refl;
  first = rw c.if-count-eq0.true refl;
  halts = λ halt. refl;
}

pub returns-then-count-eq0-clause-keeps : goal.returns-then-count-eq0-clause-keeps
returns-then-count-eq0-clause-keeps c = record { owners = refl; mode = refl; same_reference = refl }

pub returns-clause-leaves : goal.returns-clause-leaves
returns-clause-leaves c =
    let steps = c.steps_at-progress.ensures.leaves in
    record { leaves = search rules; frozen = search rules; size = search rules; first = search rules; halts = search rules }

pub returns-clause-keeps : goal.returns-clause-keeps
returns-clause-keeps c = record { owners = search rules; mode = search rules; same_reference = search rules }
