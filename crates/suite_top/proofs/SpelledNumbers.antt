-- The argument that says a stack.
use Rattle.std.proofs.Common.{arith}
use Rattle.file_commands.specs.Arguments.{least_stack, most_stack}
use Rattle.file_commands.proofs.SpelledNumbers.{number_is_spelled}
use Rattle.suite_top.specs.StatusLaws.{StackIsSpelled}

pub stack_is_spelled : StackIsSpelled
stack_is_spelled text n = number_is_spelled least_stack most_stack (omega arith) text n
