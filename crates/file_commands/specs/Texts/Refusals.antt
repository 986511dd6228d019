-- The faults of a manifest, and of what its lines bring in.
use Rattle.std.specs.Prelude.{ℕ, List, [], ◌∷◌, ◌++◌, codes, decimal, Option, Some, None}
use Rattle.call_log.specs.Errno.{errno_number}
use Rattle.manifest_text.specs.declared.fault.ManifestFault.{ManifestFault}
use Rattle.manifest_text.specs.declared.fault.ManifestFault.TheVariants as fault
use Rattle.run_setup.specs.declared.fault.LineFault.{LineFault}
use Rattle.run_setup.specs.declared.fault.LineFault.TheVariants as line
use Rattle.file_commands.specs.Texts.{joined, too_long_tail, refusal_tail}
use Rattle.file_commands.specs.Texts.Listing.{flat_tail}
use Rattle.file_commands.specs.Texts.Images.{rom_tail}

-- a fault of a manifest: its number and its name
abbrev pub manifest_fault_words : ManifestFault → List ℕ
manifest_fault_words fault.BadByte = codes "1 BadByte"
manifest_fault_words fault.UnknownWord = codes "2 UnknownWord"
manifest_fault_words fault.WordCount = codes "3 WordCount"
manifest_fault_words fault.BadNumber = codes "4 BadNumber"
manifest_fault_words fault.BadPath = codes "5 BadPath"
manifest_fault_words fault.Repeated = codes "6 Repeated"
manifest_fault_words fault.TooMany = codes "7 TooMany"
manifest_fault_words fault.NoQuanta = codes "8 NoQuanta"
manifest_fault_words fault.NoStart = codes "9 NoStart"

abbrev pub manifest_tail : (number : ℕ) → ManifestFault → List ℕ
manifest_tail number first = joined (codes "manifest line " ∷ decimal number ∷ codes " " ∷ manifest_fault_words first ∷ [])

-- a fault of what a line of a manifest brings in or starts; out of memory is none
abbrev pub line_fault_words : LineFault → List ℕ
line_fault_words line.TooLong = too_long_tail
line_fault_words (line.Elf refusal) = refusal_tail refusal
line_fault_words (line.Flat first) = flat_tail first
line_fault_words (line.Rom first) = rom_tail first
line_fault_words (line.Place errno) = codes "errno " ++ decimal (errno_number errno)
line_fault_words line.BadStart = codes "start"
line_fault_words line.E2big = codes "args"
line_fault_words line.NoRun = codes "no run"
line_fault_words line.Memory = []

abbrev pub line_tail : (number : ℕ) → LineFault → List ℕ
line_tail number first = joined (codes "line " ∷ decimal number ∷ codes " " ∷ line_fault_words first ∷ [])

-- a file is too long, which a line of a manifest brings in, or none does
abbrev pub too_long_at : Option ℕ → List ℕ
too_long_at None = too_long_tail
too_long_at (Some number) = line_tail number line.TooLong
