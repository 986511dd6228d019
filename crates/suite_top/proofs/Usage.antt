-- Arguments that are no command, and a demo, request nothing of the host.
use Rattle.std.proofs.Common.{◌≡◌, ℕ, List, Option, Some, None, subst}
use Rattle.host_io.specs.Host.{Told}
use Rattle.file_commands.specs.Ending.{Ending, usage_ending, OrMemory}
use Rattle.file_commands.specs.Arguments.{Invocation, demo, command_of}
use Rattle.suite_top.specs.Result.{command_outcome, result_of}
use Rattle.file_commands.specs.Observed.{Observed}
use Rattle.file_commands.specs.Outcome.{Outcome}
use Rattle.file_commands.specs.HostCourse.{Performs, PerformsCommand}
use Rattle.suite_top.specs.Demo.{demo_run, demo_outcome}
use Rattle.file_commands.proofs.HostSteps.{for_any_inputs, asks_nothing}
use Rattle.suite_top.proofs.RunOutcomes.{demo_asks_nothing}

pub ends_with_usage : (old : Observed Told) (arguments : List (List ℕ)) (ending : Ending) → None ≡ command_of arguments → OrMemory usage_ending ending → PerformsCommand old old (result_of arguments) ending
ends_with_usage old arguments ending none ends =
    subst (λ (o : Option Invocation). PerformsCommand old old (command_outcome o) ending) none (asks_nothing old usage_ending ending (λ other. cc) ends)

pub performs_demo : (old new : Observed Told) (arguments : List (List ℕ)) (n : ℕ) (ending : Ending) → Some (demo n) ≡ command_of arguments → Performs old new (demo_run n) ending → PerformsCommand old new (result_of arguments) ending
performs_demo old new arguments n ending is performs =
    let at_end = subst (λ (o : Outcome). Performs old new o ending) (demo_asks_nothing n) performs in
    subst (λ (o : Option Invocation). PerformsCommand old new (command_outcome o) ending) is (for_any_inputs old new (demo_outcome n) ending (λ inputs. at_end))
