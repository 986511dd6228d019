-- The line of each fault. Numbers are decimal, but for those that are said to have eight digits: these are hexadecimal, with lower case
-- letters and zeros in front.
use Rattle.std.specs.Prelude.{ℕ, ◌&&◌, nat_lt, nat_le, Bool, List, [], ◌∷◌, ◌++◌, codes, decimal, Option, Some, None, if◌then◌else◌, ℤ, pos, ◌-ℤ◌, int_lt, unsigned_abs}
use Rattle.std.specs.Ordering.{int_eq}
use Rattle.call_log.specs.Lines.{joined, word_digits}
use Rattle.elf32_reader.specs.declared.fault.ElfFault.{ElfFault}
use Rattle.elf32_reader.specs.declared.fault.ElfFault.TheVariants as elf
use Rattle.elf32_reader.specs.declared.section.Section.{Section}
use Rattle.elf32_reader.specs.Numbers.{u8_at, u16_at, u32_at}
use Rattle.elf32_reader.specs.Header.{count_of, entry_of}
use Rattle.elf32_reader.specs.Sections.{section}
use Rattle.elf32_reader.specs.Symbols.{symbol}
use Rattle.elf32_reader.specs.Relas.{rela}
use Rattle.flat_layout.specs.declared.fault.LayoutFault.{LayoutFault}
use Rattle.flat_layout.specs.declared.fault.LayoutFault.TheVariants as layout
use Rattle.flat_layout.specs.Numbering.{is_laid_out, end_of}
use Rattle.psabi_relocs.specs.declared.meant.Meant.{Meant}
use Rattle.psabi_relocs.specs.Search.{first_below}
use Rattle.psabi_relocs.specs.Names.{kind_name}
use Rattle.psabi_relocs.specs.Around.{around, meant}
use Rattle.elf2flt_tool.specs.declared.fault.Fault.{Fault}
use Rattle.elf2flt_tool.specs.declared.fault.Fault.TheVariants as every
use Rattle.elf2flt_tool.specs.Faults.{Entry, entry_at}
use Rattle.fault_texts.specs.declared.sights.Sight.{Sight}
use Rattle.fault_texts.specs.Words.{elf_fault_words, layout_fault_words, reloc_fault_words}
use Rattle.fault_texts.specs.Symbols.{section_text, symbol_text, home_text}

-- ---- of an entry

-- X, the section that it applies to; its table of symbols; and P, its place
abbrev pub target_of : List ℕ → Entry → ℕ
target_of e x = (section e x.section).info

abbrev pub table_of : List ℕ → Entry → ℕ
table_of e x = (section e x.section).link

abbrev pub place_of : List ℕ → Entry → ℕ
place_of e x = (rela e x.section x.index).offset

-- the symbol around its place, and the one that it means
abbrev pub around_of : List ℕ → Entry → Option ℕ
around_of e x = around e (table_of e x) (target_of e x) (place_of e x)

abbrev pub meant_of : List ℕ → Entry → Meant
meant_of e x = meant e (table_of e x) (rela e x.section x.index).symbol (rela e x.section x.index).addend

-- both
abbrev pub sight_of : List ℕ → Entry → Sight
sight_of e x = record { around = around_of e x; meant = meant_of e x }

-- a sign, and a distance in eight digits
abbrev pub off_text : ℤ → List ℕ
off_text n = (if int_lt n (pos 0) then codes "-0x" else codes "+0x") ++ word_digits (unsigned_abs n)

-- how far p is behind q
abbrev pub behind : (p q : ℕ) → List ℕ
behind p q = off_text (pos p -ℤ pos q)

-- the name of a type, or `type_N`
abbrev pub named_kind : ℕ → Option (List ℕ) → List ℕ
named_kind kind None = codes "type_" ++ decimal kind
named_kind kind (Some name) = codes "R_RISCV_" ++ name

abbrev pub kind_text : ℕ → List ℕ
kind_text kind = named_kind kind (kind_name kind)

-- a place of section i
abbrev pub place_text : List ℕ → (i place : ℕ) → List ℕ
place_text e i place = section_text e i ++ behind place (section e i).addr

-- a symbol, and how far behind its value the place p is
abbrev pub around_text : List ℕ → ℕ → ℕ → Option ℕ → List ℕ
around_text e t p None = codes "-"
around_text e t p (Some j) = symbol_text e t j ++ behind p (symbol e t j).value

-- a distance of 0 isn't written
abbrev pub distance_text : ℤ → List ℕ
distance_text n = if int_eq n (pos 0) then [] else off_text n

abbrev pub meant_text : List ℕ → ℕ → Meant → List ℕ
meant_text e t m = joined (symbol_text e t m.symbol ∷ distance_text m.distance ∷ codes " of " ∷ home_text e t m.symbol ∷ [])

-- `TYPE at SECTION+OFF in AROUND to SYMBOL+OFF of HOME`
unfoldable pub where_text : List ℕ → Entry → List ℕ
where_text e x = joined
    (kind_text (rela e x.section x.index).kind
    ∷ codes " at " ∷ place_text e (target_of e x) (place_of e x)
    ∷ codes " in " ∷ around_text e (table_of e x) (place_of e x) (around_of e x)
    ∷ codes " to " ∷ meant_text e (table_of e x) (meant_of e x)
    ∷ [])

-- ---- of a section

-- ` section I SECTION`
abbrev pub index_text : List ℕ → ℕ → List ℕ
index_text e i = joined (codes " section " ∷ decimal i ∷ codes " " ∷ section_text e i ∷ [])

-- what was found in the file's header: EI_CLASS, EI_DATA, e_type, e_machine and e_flags
abbrev pub header_text : List ℕ → ElfFault → List ℕ
header_text e elf.Class = codes " found " ++ decimal (u8_at e 4)
header_text e elf.Order = codes " found " ++ decimal (u8_at e 5)
header_text e elf.FileType = codes " found " ++ decimal (u16_at e 16)
header_text e elf.Machine = codes " found " ++ decimal (u16_at e 18)
header_text e elf.Flags = codes " found 0x" ++ word_digits (u32_at e 36)
header_text e _ = []

-- or the section
abbrev pub found_text : List ℕ → ℕ → ElfFault → List ℕ
found_text e i elf.SectionRange = index_text e i
found_text e i elf.SymbolRange = index_text e i
found_text e i elf.RelaShape = index_text e i
found_text e i f = header_text e f

-- the first section of the image with the byte at an address
abbrev pub has_byte : ℕ → Section → Bool
has_byte a s = is_laid_out s && nat_le s.addr a && nat_lt a (end_of s)

abbrev pub section_or_outside : List ℕ → Option ℕ → List ℕ
section_or_outside e None = codes " outside"
section_or_outside e (Some i) = index_text e i

-- where the program begins, and the section there
abbrev pub entry_text : List ℕ → List ℕ
entry_text e = joined
    (codes " entry 0x" ∷ word_digits (entry_of e)
    ∷ section_or_outside e (first_below (λ i. has_byte (entry_of e) (section e i)) (count_of e))
    ∷ [])

-- the sections that a fault of the layout speaks of
abbrev pub layout_text : List ℕ → (i j : ℕ) → LayoutFault → List ℕ
layout_text e i j layout.NoSections = []
layout_text e i j layout.TooLarge = index_text e i
layout_text e i j layout.Overlap = index_text e i ++ index_text e j
layout_text e i j layout.Dynamic = index_text e i
layout_text e i j layout.Tls = index_text e i
layout_text e i j layout.EntryOutside = entry_text e

-- ---- lines

-- `section S entry I `
abbrev pub entry_words : (i j : ℕ) → List ℕ
entry_words i j = joined (codes "section " ∷ decimal i ∷ codes " entry " ∷ decimal j ∷ codes " " ∷ [])

-- a word at the place p, and its entry
abbrev pub word_text : List ℕ → ℕ → Entry → List ℕ
word_text e p x = joined (codes "0x" ∷ word_digits p ∷ codes " " ∷ entry_words x.section x.index ∷ where_text e x ∷ codes "\n" ∷ [])

unfoldable pub fault_line : List ℕ → Fault → List ℕ
fault_line e (every.Elf f i j) = joined (codes "elf " ∷ elf_fault_words f ∷ found_text e i f ∷ codes "\n" ∷ [])
fault_line e (every.Layout f i j) = joined (codes "layout " ∷ layout_fault_words f ∷ layout_text e i j f ∷ codes "\n" ∷ [])
fault_line e (every.Reloc i j f) =
    joined (codes "reloc " ∷ entry_words i j ∷ reloc_fault_words f ∷ codes " " ∷ where_text e (entry_at i j) ∷ codes "\n" ∷ [])
fault_line e (every.TargetOutside p i j) = codes "target " ++ word_text e p (entry_at i j)
fault_line e (every.WordOverlap p i j) = codes "overlap " ++ word_text e p (entry_at i j)
