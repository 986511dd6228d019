-- The first start line that fails ends the run.
use Rattle.suite_top.proofs.Booted.{booted, refuses_boot}
use Rattle.suite_top.proofs.run.boot.Goals as goal

pub returns-in-Ok-clause-world : goal.returns-in-Ok-clause-world
returns-in-Ok-clause-world g c = booted _ _ c.in-Ok.ensures.world

pub returns-in-Err-clause-world : goal.returns-in-Err-clause-world
returns-in-Err-clause-world g c =
    let ends = rw c.told_refusal.ensures at c.refuse_line.ensures in
    refuses_boot _ c.in-Err.refusal _ c.in-Err.ensures.world ends
