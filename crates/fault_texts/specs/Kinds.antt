-- The lines of kinds of faults, by the two parts of their words.
use Rattle.std.specs.Prelude.{ℕ, List, ◌++◌, codes, count_by, bytes_eq}
use Rattle.fault_texts.specs.declared.kinds.Kind.{Kind}
use Rattle.fault_texts.specs.declared.kinds.Kind.TheVariants as kinds
use Rattle.elf2flt_tool.specs.declared.fault.Fault.{Fault}
use Rattle.fault_texts.specs.Words.{elf_fault_words, layout_fault_words, reloc_fault_words}
use Rattle.fault_texts.specs.Counts.{count_line, kind_of}

-- what a fault is of
abbrev pub front_of : Kind → List ℕ
front_of (kinds.Elf f) = codes "elf "
front_of (kinds.Layout f) = codes "layout "
front_of (kinds.Reloc f) = codes "reloc "
front_of kinds.Target = codes "target"
front_of kinds.Overlap = codes "overlap"

-- and its number and name, where it has some
abbrev pub name_of : Kind → List ℕ
name_of (kinds.Elf f) = elf_fault_words f
name_of (kinds.Layout f) = layout_fault_words f
name_of (kinds.Reloc f) = reloc_fault_words f
name_of _ = codes ""

abbrev pub words_of : Kind → List ℕ
words_of kind = front_of kind ++ name_of kind

-- how many of the faults are of a kind
abbrev pub number_of : List Fault → Kind → ℕ
number_of fs kind = count_by (λ f. bytes_eq (kind_of f) (words_of kind)) fs

abbrev pub line_of : List Fault → Kind → List ℕ
line_of fs kind = count_line (words_of kind) (number_of fs kind)
