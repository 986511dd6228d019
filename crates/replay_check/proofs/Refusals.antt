-- Out of memory, and the other refusals of an ELF file.
use Rattle.std.proofs.Common.{◌≡◌, ◌≢◌, refl}
use Rattle.elf2flt_tool.specs.declared.refusal.Refusal.{Refusal}
use Rattle.elf2flt_tool.specs.declared.refusal.Refusal.TheVariants.{Elf, Layout, Reloc, TargetOutside, WordOverlap, Memory}
use Rattle.replay_check.specs.declared.fault.ReplayFault.TheVariants as why
use Rattle.replay_check.specs.Refusals.{refused_as}

pub not_memory : (r : Refusal) → r ≢ Memory → why.Original r ≡ refused_as r
not_memory Memory other = absurd (other refl)
not_memory (Elf x) other = refl
not_memory (Layout x) other = refl
not_memory (Reloc section index x) other = refl
not_memory (TargetOutside place) other = refl
not_memory (WordOverlap place) other = refl
