-- An early answer ends with its line, or there is no memory for the line.
use Rattle.std.proofs.Common.{◌≡◌, ℕ, List, Result, Ok, Err, IfOk, String, string_bytes, ap, ◌∙◌, inl, inr}
use Rattle.std.specs.declared.alloc.Global.{Global}
use Rattle.std.specs.declared.alloc.AllocError.{AllocError}
use Rattle.file_commands.specs.declared.status.Status.{Status}
use Rattle.file_commands.specs.Ending.{Ending, early_ending, OrMemory}
use Rattle.file_commands.specs.Answer.{EndsWithLine}

pub ends_with_line : (status : Status) (line : Result (String Global) AllocError) (text : List ℕ) (ending : Ending) → IfOk line (λ l. string_bytes l ≡ text) → EndsWithLine status line ending → OrMemory (early_ending status text) ending
ends_with_line status (Ok line) text ending is ends = inl (ends ∙ ap (early_ending status) is)
ends_with_line status (Err error) text ending is ends = inr ends
