-- The text is stored; or there was no memory for it; or nothing is kept.
use Rattle.std.proofs.Common.{Result, Ok, Err, refl, inl, inr}
use Rattle.std.proofs.lemmas.Result.{err_from_is_err_and}
use Rattle.std.specs.declared.alloc.AllocError.{AllocError}
use Rattle.flat_machine.specs.State.{world}
use Rattle.file_commands.specs.declared.answer.Answer.{Answer}
use Rattle.file_commands.specs.Answer.{ending_of, HasEnding}
use Rattle.file_commands.specs.Ending.{Ending, OrMemory}
use Rattle.file_commands.proofs.HostCourses.{runs_out, ends_at_once}
use Rattle.suite_top.specs.Telling.{ending_behind}
use Rattle.suite_top.proofs.kept.keep_items.Goals as goal

ends_so : (wanted : Ending) (result : Result Answer AllocError) → HasEnding wanted result → OrMemory wanted (ending_of result)
ends_so wanted (Ok answer) is = inl is
ends_so wanted (Err error) is = inr refl

pub returns-in_err-text-in-Some-clause-performs : goal.returns-in_err-text-in-Some-clause-performs
returns-in_err-text-in-Some-clause-performs g c =
    let p = err_from_is_err_and c.from_residual.result c.from_residual.ensures.1 in
    rw p.1 (runs_out _ _ _ refl refl)

pub returns-in_err-whole-in-Some-clause-performs : goal.returns-in_err-whole-in-Some-clause-performs
returns-in_err-whole-in-Some-clause-performs g c =
    let p = err_from_is_err_and c.from_residual-in_err-whole-in-Some.result c.from_residual-in_err-whole-in-Some.ensures.1 in
    rw p.1 (runs_out _ _ _ refl refl)

pub returns-in-None-clause-performs : goal.returns-in-None-clause-performs
returns-in-None-clause-performs g c =
    let wanted = ending_behind (world c.args.machine).rest.console c.args.answer in
    rw c.in-None.is (ends_at_once _ wanted _ c.requires (ends_so wanted c.with_console-in-None.result c.with_console-in-None.ensures))
