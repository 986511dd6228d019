-- Why lines are refused: a fault of one, or no memory.
use Rattle.std.specs.Prelude.{ℕ}
use Rattle.bflt_format.specs.declared.fault.FlatFault.TheVariants as flat
use Rattle.elf2flt_tool.specs.declared.refusal.Refusal.TheVariants as refusal
use Rattle.romfs_image.specs.declared.fault.RomFault.TheVariants as rom
use Rattle.run_setup.specs.declared.fault.LineFault.{LineFault}
use Rattle.run_setup.specs.declared.fault.LineFault.TheVariants as line
use Rattle.run_setup.specs.declared.fault.LineRefusal.{LineRefusal}
use Rattle.run_setup.specs.declared.fault.LineRefusal.TheVariants.{At, Memory}

-- of the line with this number: where memory was out, that is no fault of it
abbrev pub refusal_at : ℕ → LineFault → LineRefusal
refusal_at number line.Memory = Memory
refusal_at number (line.Elf refusal.Memory) = Memory
refusal_at number (line.Flat flat.Memory) = Memory
refusal_at number (line.Rom rom.Memory) = Memory
refusal_at number fault = At number fault
