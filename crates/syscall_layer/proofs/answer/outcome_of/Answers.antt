-- Which ranges there are follows from the row.
use Rattle.std.proofs.Common.{Ok, Err}
use Rattle.std.specs.Prelude.{Result, IfOk, slice_index, ◌<◌, ◌^◌}
use Rattle.std.specs.declared.alloc.AllocError.{AllocError}
use Rattle.mem_files.specs.Inodes.{Inodes}
use Rattle.fd_tables.specs.Files.{OpenFiles}
use Rattle.machine_world.specs.Rows.{row}
use Rattle.file_calls.specs.declared.call.Call.{Call}
use Rattle.file_calls.specs.declared.outcome.Outcome.{Outcome}
use Rattle.file_calls.specs.Calls.{IsOutput}
use Rattle.file_calls.specs.Outcomes.{GivesRow, CanTake, HasEnds}
use Rattle.kept_parts.specs.Leaves.{CanGive}
use Rattle.syscall_layer.proofs.OutputRanges.{ranges_of}
use Rattle.syscall_layer.proofs.answer.outcome_of.Goals as goal

-- where there is one
of_result : (call : Call) (tree : Inodes) (files : OpenFiles) (r : Result Outcome AllocError) → IsOutput call.number → slice_index call.args 2 < 2 ^ 32 → IfOk r (GivesRow row call tree files) →
    IfOk r (λ o. CanTake files o.then) → IfOk r (λ o. HasEnds files call.table o.then) → IfOk r (CanGive files call.table)
of_result call tree files (Ok o) output small rows fits ends = record { fits = fits; ends = ends; ranges = ranges_of call tree files o output small rows }
of_result call tree files (Err e) output small rows fits ends = rows

pub returns-clause-can : goal.returns-clause-can
returns-clause-can c =
    let v = c.parts.view_is in
    rw (← v) (of_result c.args.call.now c.parts.inside.tree c.parts.inside.files.open_files c.output.result c.requires.output c.requires.room c.output.ensures.gives c.output.ensures.fits c.output.ensures.ends)
