-- The faults by their words: the number of a row, and its name.
use Rattle.std.specs.Prelude.{ℕ, List, codes}
use Rattle.elf32_reader.specs.declared.fault.ElfFault.{ElfFault}
use Rattle.elf32_reader.specs.declared.fault.ElfFault.TheVariants as elf
use Rattle.flat_layout.specs.declared.fault.LayoutFault.{LayoutFault}
use Rattle.flat_layout.specs.declared.fault.LayoutFault.TheVariants as layout
use Rattle.psabi_relocs.specs.declared.fault.RelocFault.{RelocFault}
use Rattle.psabi_relocs.specs.declared.fault.RelocFault.TheVariants as reloc

-- a fault of an ELF file: its number and its name
abbrev pub elf_fault_words : ElfFault → List ℕ
elf_fault_words elf.Short = codes "1 Short"
elf_fault_words elf.Magic = codes "2 Magic"
elf_fault_words elf.Class = codes "3 Class"
elf_fault_words elf.Order = codes "4 Order"
elf_fault_words elf.Version = codes "5 Version"
elf_fault_words elf.FileType = codes "6 FileType"
elf_fault_words elf.Machine = codes "7 Machine"
elf_fault_words elf.Flags = codes "8 Flags"
elf_fault_words elf.SectionTable = codes "9 SectionTable"
elf_fault_words elf.SectionRange = codes "10 SectionRange"
elf_fault_words elf.SymbolRange = codes "11 SymbolRange"
elf_fault_words elf.RelaShape = codes "12 RelaShape"

-- a fault of its layout
abbrev pub layout_fault_words : LayoutFault → List ℕ
layout_fault_words layout.NoSections = codes "1 NoSections"
layout_fault_words layout.TooLarge = codes "2 TooLarge"
layout_fault_words layout.Overlap = codes "3 Overlap"
layout_fault_words layout.Dynamic = codes "4 Dynamic"
layout_fault_words layout.Tls = codes "5 Tls"
layout_fault_words layout.EntryOutside = codes "6 EntryOutside"

-- a fault of a kept relocation
abbrev pub reloc_fault_words : RelocFault → List ℕ
reloc_fault_words reloc.UnknownType = codes "1 UnknownType"
reloc_fault_words reloc.BadSymbol = codes "2 BadSymbol"
reloc_fault_words reloc.Undefined = codes "3 Undefined"
reloc_fault_words reloc.PlaceOutside = codes "4 PlaceOutside"
reloc_fault_words reloc.AbsoluteCode = codes "5 AbsoluteCode"
reloc_fault_words reloc.WeakPcrel = codes "6 WeakPcrel"
reloc_fault_words reloc.AbsPcrel = codes "7 AbsPcrel"
reloc_fault_words reloc.LoneLow = codes "8 LoneLow"
reloc_fault_words reloc.Unpaired = codes "9 Unpaired"
reloc_fault_words reloc.FieldMismatch = codes "10 FieldMismatch"
