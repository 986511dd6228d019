-- The command `convert ELF FLT [--stack N]`: the ELF file's flat file becomes the file FLT, or the first fault is written.
use Rattle.std.specs.Prelude.{ℕ, List, [], Option, Some, None}
use Rattle.elf2flt_tool.specs.declared.refusal.Refusal.{Refusal}
use Rattle.elf2flt_tool.specs.Fault.{fault}
use Rattle.elf2flt_tool.specs.Converted.{flat}
use Rattle.file_commands.specs.Sizes.{sizes}
use Rattle.file_commands.specs.Texts.{refusal_tail, convert_line}
use Rattle.file_commands.specs.Ending.{done_ending, refused_ending}
use Rattle.file_commands.specs.Outcome.{Outcome, Inputs, storing}
use Rattle.file_commands.specs.OneFile.{with_file}

-- the bytes become the file of this name, and then the line is written
abbrev pub stored_outcome : (name bytes line : List ℕ) → Outcome
stored_outcome name bytes line = storing name bytes (done_ending line)

abbrev pub judged_outcome : (flt : List ℕ) (stack : ℕ) (e : List ℕ) → Option Refusal → Outcome
judged_outcome flt stack e (Some first) = record { requests = []; ending = refused_ending (refusal_tail first) }
judged_outcome flt stack e None = stored_outcome flt (flat e stack) (convert_line (sizes e stack))

-- of the ELF file e
abbrev pub converted_outcome : (flt : List ℕ) (stack : ℕ) (e : List ℕ) → Outcome
converted_outcome flt stack e = judged_outcome flt stack e (fault e)

abbrev pub convert_outcome : (elf flt : List ℕ) (stack : ℕ) → Inputs → Outcome
convert_outcome elf flt stack inputs = with_file elf (inputs 0 elf) (converted_outcome flt stack)
