-- The ending that an answer of the code is.
use Rattle.std.specs.Prelude.{◌≡◌, Result, Ok, Err, IfOk, String, string_bytes}
use Rattle.std.specs.declared.alloc.Global.{Global}
use Rattle.std.specs.declared.alloc.AllocError.{AllocError}
use Rattle.file_commands.specs.declared.status.Status.{Status}
use Rattle.file_commands.specs.declared.answer.Answer.{Answer}
use Rattle.file_commands.specs.declared.ended.Ended.{Ended}
use Rattle.file_commands.specs.declared.ended.Ended.TheVariants as ended
use Rattle.file_commands.specs.Ending.{Ending, early_ending, memory_ending}

abbrev pub ending_in : Answer → Ending
ending_in answer = record { status = answer.status; out = answer.out.items; report = answer.report.items }

-- no answer is out of memory
abbrev pub ending_of : Result Answer AllocError → Ending
ending_of (Ok answer) = ending_in answer
ending_of (Err error) = memory_ending

-- one of its steps ended the command
abbrev pub ending_at : Ended → Ending
ending_at (ended.Early answer) = ending_in answer
ending_at ended.Memory = memory_ending

-- it went through its steps, or was ended by one of them
abbrev pub settled_ending : Result Answer Ended → Ending
settled_ending (Ok answer) = ending_in answer
settled_ending (Err at) = ending_at at

-- the answer has this ending, if there was memory for it
abbrev pub HasEnding : Ending → Result Answer AllocError → Type 0
HasEnding wanted result = IfOk result (λ answer. ending_in answer ≡ wanted)

-- the call ends early with this line, or there is no memory for the line
abbrev pub EndsWithLine : Status → Result (String Global) AllocError → Ending → Type 0
EndsWithLine status (Ok line) ending = ending ≡ early_ending status (string_bytes line)
EndsWithLine status (Err error) ending = ending ≡ memory_ending
