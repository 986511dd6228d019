use Rattle.std.proofs.Common.{◌∙◌}
use Rattle.elf2flt_tool.proofs.NotedSteps.{faults_read, faults_unread}
use Rattle.elf2flt_tool.proofs.every.faults.Goals as goal

pub returns-in_ok-list-in-Ok : goal.returns-in_ok-list-in-Ok
returns-in_ok-list-in-Ok c =
    (rw c.in-Ok.ensures.1 at c.in_ok-list-in-Ok.ensures) ∙ faults_read c.args.bytes.now c.in-Ok.ensures.0

pub returns-in_ok-list-in-Err : goal.returns-in_ok-list-in-Err
returns-in_ok-list-in-Err c = c.in_ok-list-in-Err.ensures ∙ faults_unread _ _ c.in-Err.ensures
