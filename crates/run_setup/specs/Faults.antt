-- The faults of a line, by what they come from.
use Rattle.bflt_format.specs.declared.fault.FlatFault.TheVariants as flat
use Rattle.elf2flt_tool.specs.declared.refusal.Refusal.TheVariants as refusal
use Rattle.romfs_image.specs.declared.fault.RomFault.TheVariants as rom
use Rattle.mem_files.specs.declared.fault.FileFault.{FileFault}
use Rattle.mem_files.specs.declared.fault.FileFault.TheVariants as place
use Rattle.run_setup.specs.declared.fault.LineFault.{LineFault}
use Rattle.run_setup.specs.declared.fault.LineFault.TheVariants as line

-- out of memory, which is no fault of a line
abbrev pub IsMemory : LineFault → Type 0
IsMemory line.Memory = Unit {0}
IsMemory (line.Elf refusal.Memory) = Unit {0}
IsMemory (line.Flat flat.Memory) = Unit {0}
IsMemory (line.Rom rom.Memory) = Unit {0}
IsMemory other = ⊥

-- of a file or a folder that isn't made
abbrev pub place_fault : FileFault → LineFault
place_fault (place.Errno errno) = line.Place errno
place_fault place.Memory = line.Memory
