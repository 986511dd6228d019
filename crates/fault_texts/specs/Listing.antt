-- All faults of a file as a text.
use Rattle.std.specs.Prelude.{ℕ, List, [], ◌∷◌, map, length, take, codes, decimal, Option, Some, None}
use Rattle.std.specs.List.{flat_map}
use Rattle.call_log.specs.Lines.{joined}
use Rattle.elf2flt_tool.specs.declared.fault.Fault.{Fault}
use Rattle.elf2flt_tool.specs.declared.fault.Fault.TheVariants as every
use Rattle.elf2flt_tool.specs.Faults.{Entry, entry_at}
use Rattle.fault_texts.specs.declared.counts.Subject.{Subject}
use Rattle.fault_texts.specs.declared.counts.Count.{Count}
use Rattle.fault_texts.specs.Symbols.{section_text, symbol_text, home_text}
use Rattle.fault_texts.specs.Lines.{target_of, table_of, around_of, meant_of, fault_line}
use Rattle.fault_texts.specs.Counts.{counts_of, kind_lines}

-- the entry of a fault, if it is one of an entry
abbrev pub entries_of : Fault → List Entry
entries_of (every.Elf f i j) = []
entries_of (every.Layout f i j) = []
entries_of (every.Reloc i j f) = entry_at i j ∷ []
entries_of (every.TargetOutside p i j) = entry_at i j ∷ []
entries_of (every.WordOverlap p i j) = entry_at i j ∷ []

abbrev pub index_or_0 : Option ℕ → ℕ
index_or_0 None = 0
index_or_0 (Some j) = j

-- the symbol around an entry's place, or the one of index 0, and the section where it stands
abbrev pub in_subject : List ℕ → Entry → Subject
in_subject e x = record { section = target_of e x; table = table_of e x; symbol = index_or_0 (around_of e x) }

-- the symbol that it means
abbrev pub to_subject : List ℕ → Entry → Subject
to_subject e x = record { section = 0; table = table_of e x; symbol = (meant_of e x).symbol }

abbrev pub in_line : List ℕ → Count → List ℕ
in_line e c = joined
    (codes "count in " ∷ symbol_text e c.subject.table c.subject.symbol ∷ codes " of " ∷ section_text e c.subject.section
    ∷ codes " " ∷ decimal c.count ∷ codes "\n" ∷ [])

abbrev pub to_line : List ℕ → Count → List ℕ
to_line e c = joined
    (codes "count to " ∷ symbol_text e c.subject.table c.subject.symbol ∷ codes " of " ∷ home_text e c.subject.table c.subject.symbol
    ∷ codes " " ∷ decimal c.count ∷ codes "\n" ∷ [])

-- the most lines of faults, of counts by place, and of counts by symbol
abbrev pub most_lines : ℕ
most_lines = 65536

abbrev pub faulty_entries : List Fault → List Entry
faulty_entries fs = flat_map entries_of fs

abbrev pub in_counts : List ℕ → List Fault → List Count
in_counts e fs = counts_of (map (in_subject e) (faulty_entries fs))

abbrev pub to_counts : List ℕ → List Fault → List Count
to_counts e fs = counts_of (map (to_subject e) (faulty_entries fs))

-- of the file e with the faults fs: a line for each fault, the counts, and how many there are
unfoldable pub listing : List ℕ → List Fault → List ℕ
listing e fs = joined
    (flat_map (fault_line e) (take most_lines fs)
    ∷ flat_map (in_line e) (take most_lines (in_counts e fs))
    ∷ flat_map (to_line e) (take most_lines (to_counts e fs))
    ∷ kind_lines fs
    ∷ codes "faults " ∷ decimal (length fs) ∷ codes "\n" ∷ [])
