-- The command `check ELF [--all]`: the numbers of the ELF file's flat file are written, or the first fault, and with `--all` every fault
-- beside it. Nothing is stored.
use Rattle.std.specs.Prelude.{ℕ, Bool, true, false, List, [], Option, Some, None}
use Rattle.elf2flt_tool.specs.declared.refusal.Refusal.{Refusal}
use Rattle.elf2flt_tool.specs.Fault.{fault}
use Rattle.elf2flt_tool.specs.Faults.{faults}
use Rattle.fault_texts.specs.Listing.{listing}
use Rattle.file_commands.specs.Sizes.{sizes}
use Rattle.file_commands.specs.Texts.{refusal_tail, check_line}
use Rattle.file_commands.specs.Ending.{Ending, done_ending, refused_ending, listed_ending}
use Rattle.file_commands.specs.Outcome.{Outcome, Inputs}
use Rattle.file_commands.specs.Arguments.{default_stack}
use Rattle.file_commands.specs.OneFile.{with_file}

-- the text of all its faults
abbrev pub faults_text : List ℕ → List ℕ
faults_text e = listing e (faults e)

-- the first fault is told, or all
abbrev pub faulty_ending : List ℕ → (all : Bool) → Refusal → Ending
faulty_ending e true first = listed_ending (faults_text e) (refusal_tail first)
faulty_ending e false first = refused_ending (refusal_tail first)

abbrev pub verdict : List ℕ → (all : Bool) → Option Refusal → Ending
verdict e all (Some first) = faulty_ending e all first
verdict e all None = done_ending (check_line (sizes e default_stack))

-- of the ELF file e
abbrev pub checked_ending : (all : Bool) → List ℕ → Ending
checked_ending all e = verdict e all (fault e)

-- behind the load nothing more is requested
abbrev pub checked_outcome : (all : Bool) → List ℕ → Outcome
checked_outcome all e = record { requests = []; ending = checked_ending all e }

abbrev pub check_outcome : List ℕ → (all : Bool) → Inputs → Outcome
check_outcome elf all inputs = with_file elf (inputs 0 elf) (checked_outcome all)
