-- What the commands of a manifest share.
use Rattle.std.specs.Prelude.{◌≡◌, ℕ}
use Rattle.run_setup.specs.declared.fault.LineRefusal.{LineRefusal}
use Rattle.run_setup.specs.declared.fault.LineRefusal.TheVariants.{At, Memory}
use Rattle.run_setup.specs.Brought.{FaultAt}
use Rattle.file_commands.specs.Texts.Refusals.{line_tail}
use Rattle.file_commands.specs.Ending.{Ending, memory_ending, refused_ending, OrMemory}

-- the most bytes of a manifest
abbrev pub manifest_limit : ℕ
manifest_limit = 1048576

-- a line of it is refused
abbrev pub fault_ending : FaultAt → Ending
fault_ending at = refused_ending (line_tail at.line at.fault)

-- lines that are refused end the command so: with the line of the fault, if there was memory for it
abbrev pub Refuses : LineRefusal → Ending → Type 0
Refuses (At number first) ending = OrMemory (fault_ending (record { line = number; fault = first })) ending
Refuses Memory ending = ending ≡ memory_ending
