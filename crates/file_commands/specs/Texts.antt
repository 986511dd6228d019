-- The texts that users see, each line with its newline. Numbers are decimal.
-- Listing: the listing of a flat file, and the faults of one.
-- Images: the nodes of a romfs image, and the faults of one.
-- Refusals: the faults of a manifest, and of what its lines bring in.
-- Replays: the verdict on items, and why there is none.
pub mod Listing
pub mod Images
pub mod Refusals
pub mod Replays
use Rattle.std.specs.Prelude.{ℕ, ◌-◌, false, List, [], ◌∷◌, ◌++◌, length, replicate, codes, decimal}
use Rattle.std.specs.Fmt.{digits}
use Rattle.elf2flt_tool.specs.declared.refusal.Refusal.{Refusal}
use Rattle.elf2flt_tool.specs.declared.refusal.Refusal.TheVariants as refusal
use Rattle.fault_texts.specs.Words.{elf_fault_words, layout_fault_words, reloc_fault_words}
use Rattle.psabi_relocs.specs.declared.fault.RelocFault.{RelocFault}
use Rattle.file_commands.specs.Sizes.{Sizes}

-- the pieces, one behind the other
abbrev pub joined : List (List ℕ) → List ℕ
joined [] = []
joined (piece ∷ pieces) = piece ++ joined pieces

abbrev pub usage_line : List ℕ
usage_line = codes "usage: flatc COMMAND WORDS\n"

abbrev pub memory_line : List ℕ
memory_line = codes "memory\n"

abbrev pub cannot_read_line : List ℕ → List ℕ
cannot_read_line name = codes "host: cannot read " ++ name ++ codes "\n"

abbrev pub cannot_write_line : List ℕ → List ℕ
cannot_write_line name = codes "host: cannot write " ++ name ++ codes "\n"

abbrev pub refused_line : List ℕ → List ℕ
refused_line tail = codes "refused: " ++ tail ++ codes "\n"

-- an address: lower case hexadecimal digits, with zeros in front up to eight of them
abbrev pub address_words : ℕ → List ℕ
address_words n = codes "0x" ++ replicate (8 - length (digits 16 false n)) 48 ++ digits 16 false n

-- a fault of entry `index` of the relocation section `section`
abbrev pub reloc_tail : (section index : ℕ) → RelocFault → List ℕ
reloc_tail section index fault = joined (codes "reloc section " ∷ decimal section ∷ codes " entry " ∷ decimal index ∷ codes " " ∷ reloc_fault_words fault ∷ [])

-- what stands behind `refused:`; out of memory is no fault of a file, and has no such line
abbrev pub refusal_tail : Refusal → List ℕ
refusal_tail (refusal.Elf fault) = codes "elf " ++ elf_fault_words fault
refusal_tail (refusal.Layout fault) = codes "layout " ++ layout_fault_words fault
refusal_tail (refusal.Reloc section index fault) = reloc_tail section index fault
refusal_tail (refusal.TargetOutside place) = codes "target " ++ address_words place
refusal_tail (refusal.WordOverlap place) = codes "overlap " ++ address_words place
refusal_tail refusal.Memory = []

-- of a file longer than the limit of its load
abbrev pub too_long_tail : List ℕ
too_long_tail = codes "too long"

-- text, data and bss
abbrev pub parts_text : Sizes → List ℕ
parts_text s = joined (codes "text " ∷ decimal s.text ∷ codes " data " ∷ decimal s.data_len ∷ codes " bss " ∷ decimal s.bss ∷ [])

abbrev pub convert_line : Sizes → List ℕ
convert_line s = joined
    (parts_text s
    ∷ codes " stack " ∷ decimal s.stack
    ∷ codes " records " ∷ decimal s.records
    ∷ codes " entry " ∷ decimal s.entry
    ∷ codes "\n"
    ∷ [])

-- of a demo of n programs: how many events came, how many bytes the console took, and the sum of the exit codes
abbrev pub demo_line : (n events console exits : ℕ) → List ℕ
demo_line n events console exits = joined
    (codes "demo " ∷ decimal n
    ∷ codes " events " ∷ decimal events
    ∷ codes " console " ∷ decimal console
    ∷ codes " exits " ∷ decimal exits
    ∷ codes "\n"
    ∷ [])

abbrev pub check_line : Sizes → List ℕ
check_line s = joined (codes "accepted " ∷ parts_text s ∷ codes " records " ∷ decimal s.records ∷ codes "\n" ∷ [])
