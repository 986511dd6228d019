use Rattle.std.proofs.Common.{refl}
use Rattle.elf2flt_tool.proofs.NotedSteps.{refused_noted}
use Rattle.elf2flt_tool.proofs.noting.note_entry.Goals as goal

pub returns-in_ok-push-in-Err : goal.returns-in_ok-push-in-Err
returns-in_ok-push-in-Err c =
    let is = rw c.walk.view_is at c.in-Err.ensures in
    refused_noted c.args.walk.now c.args.section c.args.entry c.in-Err.fault c.args.noted.now _ c.requires.noted is c.in_ok-push-in-Err.ensures.items refl refl
