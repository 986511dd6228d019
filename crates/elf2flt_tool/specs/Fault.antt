-- The one first reason why an ELF file isn't converted, or none. The order is this project's own.
use Rattle.std.specs.Prelude.{ℕ, zero, suc, ◌+◌, ◌%◌, ◌^◌, List, Option, Some, None, if◌then◌else◌}
use Rattle.std.specs.Option.{option_map, option_or}
use Rattle.elf32_reader.specs.declared.fault.ElfFault.{ElfFault}
use Rattle.elf32_reader.specs.Header.{count_of}
use Rattle.elf32_reader.specs.Relas.{is_kept, rela_count}
use Rattle.elf32_reader.specs.Faults.{elf_fault}
use Rattle.flat_layout.specs.declared.fault.LayoutFault.{LayoutFault}
use Rattle.flat_layout.specs.declared.layout.Layout.{Layout}
use Rattle.flat_layout.specs.Layout.{layout}
use Rattle.flat_layout.specs.Fault.{layout_fault}
use Rattle.psabi_relocs.specs.Fault.{reloc_fault}
use Rattle.elf2flt_tool.specs.declared.refusal.Refusal.{Refusal}
use Rattle.elf2flt_tool.specs.declared.refusal.Refusal.TheVariants as refusals
use Rattle.elf2flt_tool.specs.Word.{target_outside, word_overlap}

-- the answer for the least index below n that has one
unfoldable pub first_some : (ℕ → Option Refusal) → ℕ → Option Refusal
first_some f zero = None
first_some f (suc n) = option_or (first_some f n) (f n)

-- the fault of entry j of the kept section i
unfoldable pub entry_fault : List ℕ → ℕ → ℕ → Option Refusal
entry_fault e i j = option_map (refusals.Reloc i j) (reloc_fault e i j)

unfoldable pub section_fault : List ℕ → ℕ → Option Refusal
section_fault e i = if is_kept e i then first_some (entry_fault e i) (rela_count e i) else None

-- the first fault of a kept relocation, by section and entry
unfoldable pub relocs_fault : List ℕ → Option Refusal
relocs_fault e = first_some (section_fault e) (count_of e)

-- the linked address of the byte with number n
abbrev pub address_of : Layout → ℕ → ℕ
address_of l n = (n + l.v0) % 2 ^ 32

unfoldable pub target_fault : List ℕ → Option Refusal
target_fault e = option_map (λ n. refusals.TargetOutside (address_of (layout e) n)) (target_outside e)

unfoldable pub overlap_fault : List ℕ → Option Refusal
overlap_fault e = option_map (λ n. refusals.WordOverlap (address_of (layout e) n)) (word_overlap e)

-- the faults of relocations: of each by itself, then of where they point, then of what they meet
abbrev pub words_fault : List ℕ → Option Refusal
words_fault e = option_or (relocs_fault e) (option_or (target_fault e) (overlap_fault e))

abbrev pub fault_from_layout : List ℕ → Option LayoutFault → Option Refusal
fault_from_layout e (Some f) = Some (refusals.Layout f)
fault_from_layout e None = words_fault e

abbrev pub fault_from_elf : List ℕ → Option ElfFault → Option Refusal
fault_from_elf e (Some f) = Some (refusals.Elf f)
fault_from_elf e None = fault_from_layout e (layout_fault e)

-- the file's own faults, then those of its layout, then those of its relocations
unfoldable pub fault : List ℕ → Option Refusal
fault e = fault_from_elf e (elf_fault e)
