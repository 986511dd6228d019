-- What a call ends with.
use Rattle.std.specs.Prelude.{◌≡◌, ◌⊎◌, ℕ, List, []}
use Rattle.file_commands.specs.declared.status.Status.{Status}
use Rattle.file_commands.specs.declared.status.Status.TheVariants as status
use Rattle.file_commands.specs.Texts.{usage_line, memory_line, refused_line}

-- the status, and the texts for `out` and for `report`
pub record Ending : Type 0 where
  pub status : Status
  pub out : List ℕ
  pub report : List ℕ

-- the command was carried out: its text goes to `out`
abbrev pub done_ending : List ℕ → Ending
done_ending text = record { status = status.Done; out = text; report = [] }

-- the items of a replay aren't a run of its program, which goes to `out` too
abbrev pub refuted_ending : List ℕ → Ending
refuted_ending text = record { status = status.Refuted; out = text; report = [] }

-- the call ends early: one line goes to `report`, and nothing to `out`
abbrev pub early_ending : Status → List ℕ → Ending
early_ending early line = record { status = early; out = []; report = line }

-- the arguments are no command
abbrev pub usage_ending : Ending
usage_ending = early_ending status.Usage usage_line

-- the input has a fault
abbrev pub refused_ending : List ℕ → Ending
refused_ending tail = early_ending status.Refused (refused_line tail)

-- the input has faults, all of which were asked for: their listing goes to `out`, and the line of the first one to `report`
abbrev pub listed_ending : (listing tail : List ℕ) → Ending
listed_ending listing tail = record { status = status.Refused; out = listing; report = refused_line tail }

-- out of memory
abbrev pub memory_ending : Ending
memory_ending = early_ending status.Memory memory_line

-- this ending, or out of memory
abbrev pub OrMemory : Ending → Ending → Type 0
OrMemory wanted ending = (ending ≡ wanted) ⊎ (ending ≡ memory_ending)
