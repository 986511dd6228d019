-- The listing of a flat file, and the faults of one.
use Rattle.std.specs.Prelude.{ℕ, ◌+◌, List, [], ◌∷◌, ◌++◌, length, codes, decimal}
use Rattle.std.specs.List.{flat_map}
use Rattle.bflt_format.specs.declared.fault.FlatFault.{FlatFault}
use Rattle.bflt_format.specs.declared.fault.FlatFault.TheVariants as fault
use Rattle.bflt_format.specs.Numbers.{big_at}
use Rattle.bflt_format.specs.Values.{Values, stored, image_size}
use Rattle.file_commands.specs.Texts.{joined}

-- the offsets at which text, data and bss start and end; the header has 64 bytes
abbrev pub part_lines : (data_start data_end bss_end : ℕ) → List ℕ
part_lines data_start data_end bss_end = joined
    (codes "text 64 " ∷ decimal data_start
    ∷ codes "\ndata " ∷ decimal data_start ∷ codes " " ∷ decimal data_end
    ∷ codes "\nbss " ∷ decimal data_end ∷ codes " " ∷ decimal bss_end
    ∷ codes "\n"
    ∷ [])

-- the words of the header
abbrev pub header_lines : Values → List ℕ
header_lines f = joined
    (codes "rev 4 flags " ∷ decimal f.flags
    ∷ codes "\nentry " ∷ decimal f.entry
    ∷ codes "\n" ∷ part_lines (64 + f.text) (64 + stored f) (64 + image_size f)
    ∷ codes "stack " ∷ decimal f.stack
    ∷ codes "\nrecords " ∷ decimal (length f.records)
    ∷ codes "\n"
    ∷ [])

-- a record, which is the number of a word of the image, and what this word says
abbrev pub record_line : (number word : ℕ) → List ℕ
record_line number word = joined (codes "record " ∷ decimal number ∷ codes " word " ∷ decimal word ∷ codes "\n" ∷ [])

-- in the file the word is big-endian
abbrev pub line_at : List ℕ → ℕ → List ℕ
line_at body number = record_line number (big_at body number)

-- the header, and a line a record in the order of the file
abbrev pub listing : Values → List ℕ
listing f = header_lines f ++ flat_map (line_at f.body) f.records

-- a fault of a flat file: its number and its name; out of memory is none
abbrev pub flat_fault_words : FlatFault → List ℕ
flat_fault_words fault.Short = codes "1 Short"
flat_fault_words fault.Magic = codes "2 Magic"
flat_fault_words fault.Revision = codes "3 Revision"
flat_fault_words fault.Flags = codes "4 Flags"
flat_fault_words fault.Bounds = codes "5 Bounds"
flat_fault_words fault.DataAlign = codes "6 DataAlign"
flat_fault_words fault.Entry = codes "7 Entry"
flat_fault_words fault.StackSize = codes "8 StackSize"
flat_fault_words fault.RecordTable = codes "9 RecordTable"
flat_fault_words fault.RecordRange = codes "10 RecordRange"
flat_fault_words fault.RecordOverlap = codes "11 RecordOverlap"
flat_fault_words fault.TargetRange = codes "12 TargetRange"
flat_fault_words fault.Memory = []

abbrev pub flat_tail : FlatFault → List ℕ
flat_tail first = codes "flat " ++ flat_fault_words first
