-- The first fault ends the run.
use Rattle.file_commands.specs.declared.status.Status.TheVariants as status
use Rattle.file_commands.specs.Texts.{refused_line}
use Rattle.file_commands.specs.Texts.Refusals.{manifest_tail}
use Rattle.std.proofs.Common.{refl}
use Rattle.file_commands.proofs.Lines.{ends_with_line}
use Rattle.suite_top.specs.Steps.{manifest_ending}
use Rattle.suite_top.proofs.RunEndings.{ends_of_fault, ends_of_memory}
use Rattle.suite_top.proofs.run.read_manifest.Goals as goal

pub returns-in-Err-At : goal.returns-in-Err-At
returns-in-Err-At c =
    let arm = c.in-Err-At in
    let is = rw arm.field-0-is at arm.ensures in
    ends_of_fault manifest_ending _ _ _ is
    (ends_with_line status.Refused c.refused_manifest-text.result (refused_line (manifest_tail arm.line arm.fault)) _ c.refused_manifest-text.ensures c.early.ensures)

pub returns-in-Err-Memory : goal.returns-in-Err-Memory
returns-in-Err-Memory c = ends_of_memory manifest_ending _ _ refl
