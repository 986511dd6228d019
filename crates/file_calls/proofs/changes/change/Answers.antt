-- A refusal is a reply, and out of memory nothing changed.
use Rattle.std.proofs.Common.{◌∙◌, ap}
use Rattle.machine_world.specs.World.{Rest}
use Rattle.file_calls.proofs.Faults.{settled, same_left}
use Rattle.file_calls.proofs.changes.change.Goals as goal

pub returns-in-Ok-clause-changes : goal.returns-in-Ok-clause-changes
returns-in-Ok-clause-changes c = λ a made rest. c.in-Ok.ensures.answers a made rest

pub returns-in-Err-Errno-clause-changes : goal.returns-in-Err-Errno-clause-changes
returns-in-Err-Errno-clause-changes c = λ a made rest. settled a _ _ c.in-Err-Errno.field-0 c.in-Err-Errno.errno c.refusal.result c.in-Err-Errno.field-0-is c.refusal.ensures (c.in-Err-Errno.ensures.answers a made rest)

pub returns-in-Err-Memory-clause-changes : goal.returns-in-Err-Memory-clause-changes
returns-in-Err-Memory-clause-changes c = λ a made rest.
    let left = same_left a _ _ c.in-Err-Memory.field-0 (c.in-Err-Memory.ensures.answers a made rest) in
    (ap (λ (r : Rest). r.tree) left ∙ rest.tree, ap (λ (r : Rest). r.files) left ∙ rest.files, ap (λ (r : Rest). r.console) left ∙ rest.console)
