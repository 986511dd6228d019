-- Why an ELF file isn't replayed that isn't converted.
use Rattle.elf2flt_tool.specs.declared.refusal.Refusal.{Refusal}
use Rattle.elf2flt_tool.specs.declared.refusal.Refusal.TheVariants.{Elf, Layout, Reloc, TargetOutside, WordOverlap, Memory}
use Rattle.replay_check.specs.declared.fault.ReplayFault.{ReplayFault}
use Rattle.replay_check.specs.declared.fault.ReplayFault.TheVariants as why

-- the refusal itself, unless it is out of memory
abbrev pub refused_as : Refusal → ReplayFault
refused_as Memory = why.Memory
refused_as (Elf x) = why.Original (Elf x)
refused_as (Layout x) = why.Original (Layout x)
refused_as (Reloc section index x) = why.Original (Reloc section index x)
refused_as (TargetOutside place) = why.Original (TargetOutside place)
refused_as (WordOverlap place) = why.Original (WordOverlap place)
