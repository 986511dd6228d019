-- V0, and the numbers that the layout gives to the bytes of the laid-out sections. Addresses and ends are whole numbers.
-- The flags and types are those of the System V ABI, ELF32, "Sections"; the numbering is this project's own.
use Rattle.std.specs.Prelude.{ℕ, ◌+◌, ◌-◌, ◌*◌, ◌/◌, ◌%◌, ◌^◌, Bool, not, ◌&&◌, nat_lt, ◌==◌, List}
use Rattle.std.specs.Int.Bits.{bit_and}
use Rattle.elf32_reader.specs.declared.section.Section.{Section}
use Rattle.elf32_reader.specs.Header.{count_of}
use Rattle.elf32_reader.specs.Sections.{section, is_allocated, is_stored}
use Rattle.flat_layout.specs.Extremes.{least_below, greatest_below}

-- a section that has a place in the image: SHF_ALLOC, and not empty
abbrev pub is_laid_out : Section → Bool
is_laid_out s = is_allocated s && nat_lt 0 s.size

-- its bytes stand in the file
abbrev pub has_bytes : Section → Bool
has_bytes s = is_laid_out s && is_stored s

-- SHF_WRITE (1)
abbrev pub is_writable : Section → Bool
is_writable s = not (bit_and s.flags 1 == 0)

-- a section of the image that the program writes
abbrev pub is_written : Section → Bool
is_written s = is_laid_out s && is_writable s

-- SHF_EXECINSTR (4)
abbrev pub is_executable : Section → Bool
is_executable s = not (bit_and s.flags 4 == 0)

-- the address behind its last byte
abbrev pub end_of : Section → ℕ
end_of s = s.addr + s.size

-- L: the lowest address of a laid-out section
unfoldable pub lowest : List ℕ → ℕ
lowest e = least_below (λ i. is_laid_out (section e i)) (λ i. (section e i).addr) (2 ^ 32) (count_of e)

-- H: the highest end of a laid-out section
unfoldable pub highest : List ℕ → ℕ
highest e = greatest_below (λ i. is_laid_out (section e i)) (λ i. end_of (section e i)) (count_of e)

-- V0 + 64: the least multiple of 64 that isn't below L. V0 itself is the greatest one strictly below L, and may be -64.
unfoldable pub raised_start : List ℕ → ℕ
raised_start e = (lowest e + 63) / 64 * 64

-- how far an address from L on lies behind V0, as a whole number
unfoldable pub distance : List ℕ → ℕ → ℕ
distance e a = a + 64 - raised_start e

-- V0 modulo 2^32
unfoldable pub start_of : List ℕ → ℕ
start_of e = (raised_start e + 2 ^ 32 - 64) % 2 ^ 32
