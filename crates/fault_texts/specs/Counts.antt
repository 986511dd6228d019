-- How many faults there are of each symbol and of each kind.
use Rattle.std.specs.Prelude.{ℕ, zero, suc, ◌+◌, ◌*◌, ◌^◌, ◌==◌, nat_lt, List, [], ◌∷◌, ◌++◌, map, filter, fold, take, length, count_by, codes, bytes_eq, decimal, if◌then◌else◌}
use Rattle.std.specs.List.{flat_map}
use Rattle.call_log.specs.Lines.{joined}
use Rattle.elf32_reader.specs.declared.fault.ElfFault.{ElfFault}
use Rattle.elf32_reader.specs.declared.fault.ElfFault.TheVariants as elf
use Rattle.flat_layout.specs.declared.fault.LayoutFault.{LayoutFault}
use Rattle.flat_layout.specs.declared.fault.LayoutFault.TheVariants as layout
use Rattle.psabi_relocs.specs.declared.fault.RelocFault.{RelocFault}
use Rattle.psabi_relocs.specs.declared.fault.RelocFault.TheVariants as reloc
use Rattle.elf2flt_tool.specs.declared.fault.Fault.{Fault}
use Rattle.elf2flt_tool.specs.declared.fault.Fault.TheVariants as every
use Rattle.fault_texts.specs.declared.counts.Subject.{Subject}
use Rattle.fault_texts.specs.declared.counts.Count.{Count}
use Rattle.fault_texts.specs.Words.{elf_fault_words, layout_fault_words, reloc_fault_words}

-- subjects ascend by section, table and symbol, of which each is below 2^32
abbrev pub order_of : Subject → ℕ
order_of s = (s.section * 2 ^ 32 + s.table) * 2 ^ 32 + s.symbol

-- a subject among ascending ones, each once
abbrev pub with_subject : List Subject → Subject → List Subject
with_subject [] s = s ∷ []
with_subject (r ∷ rs) s =
    if nat_lt (order_of s) (order_of r) then s ∷ r ∷ rs
    else if order_of s == order_of r then r ∷ rs
    else r ∷ with_subject rs s

-- each of the subjects once, ascending
abbrev pub each_once : List Subject → List Subject
each_once ss = fold with_subject [] ss

abbrev pub count_in : List Subject → Subject → Count
count_in ss s = record { subject = s; count = count_by (λ r. order_of r == order_of s) ss }

-- from n down to 0
abbrev pub down_from : ℕ → List ℕ
down_from zero = 0 ∷ []
down_from (suc n) = suc n ∷ down_from n

-- counts by descending number, each of at most n; those of one number stay in their order
abbrev pub by_count : ℕ → List Count → List Count
by_count n cs = flat_map (λ k. filter (λ c. c.count == k) cs) (down_from n)

unfoldable pub counts_of : List Subject → List Count
counts_of ss = by_count (length ss) (map (count_in ss) (each_once ss))

-- those of the first i subjects, with how often they are among all
abbrev pub counts_before : List Subject → ℕ → List Count
counts_before ss i = map (count_in ss) (each_once (take i ss))

-- ---- kinds

-- `count WORDS C`, where there is such a fault
abbrev pub count_line : (words : List ℕ) → ℕ → List ℕ
count_line words c = if c == 0 then [] else joined (codes "count " ∷ words ∷ codes " " ∷ decimal c ∷ codes "\n" ∷ [])

-- the kind of a fault by its words
abbrev pub elf_kind : ElfFault → List ℕ
elf_kind f = codes "elf " ++ elf_fault_words f

abbrev pub layout_kind : LayoutFault → List ℕ
layout_kind f = codes "layout " ++ layout_fault_words f

abbrev pub reloc_kind : RelocFault → List ℕ
reloc_kind f = codes "reloc " ++ reloc_fault_words f

abbrev pub kind_of : Fault → List ℕ
kind_of (every.Elf f i j) = elf_kind f
kind_of (every.Layout f i j) = layout_kind f
kind_of (every.Reloc i j f) = reloc_kind f
kind_of (every.TargetOutside p i j) = codes "target"
kind_of (every.WordOverlap p i j) = codes "overlap"

-- all kinds, in the order of faults
abbrev pub all_kinds : List (List ℕ)
all_kinds =
    map elf_kind (elf.Short ∷ elf.Magic ∷ elf.Class ∷ elf.Order ∷ elf.Version ∷ elf.FileType ∷ elf.Machine ∷ elf.Flags ∷ elf.SectionTable
    ∷ elf.SectionRange ∷ elf.SymbolRange ∷ elf.RelaShape ∷ [])
    ++ map layout_kind (layout.NoSections ∷ layout.TooLarge ∷ layout.Overlap ∷ layout.Dynamic ∷ layout.Tls ∷ layout.EntryOutside ∷ [])
    ++ map reloc_kind (reloc.UnknownType ∷ reloc.BadSymbol ∷ reloc.Undefined ∷ reloc.PlaceOutside ∷ reloc.AbsoluteCode ∷ reloc.WeakPcrel
    ∷ reloc.AbsPcrel ∷ reloc.LoneLow ∷ reloc.Unpaired ∷ reloc.FieldMismatch ∷ [])
    ++ codes "target" ∷ codes "overlap" ∷ []

-- a line for each kind that is there
unfoldable pub kind_lines : List Fault → List ℕ
kind_lines fs = flat_map (λ kind. count_line kind (count_by (λ f. bytes_eq (kind_of f) kind) fs)) all_kinds
