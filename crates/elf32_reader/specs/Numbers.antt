-- Numbers of a file by offset, the lowest byte first (System V ABI, ELF32, "Data Representation",
-- the encoding ELFDATA2LSB). A byte past the end reads as 0.
use Rattle.std.specs.Prelude.{ℕ, List}
use Rattle.byte_words.specs.Numbers.{low_first, byte_at, number_at}

abbrev pub u8_at : List ℕ → ℕ → ℕ
u8_at e at = byte_at e at

abbrev pub u16_at : List ℕ → ℕ → ℕ
u16_at e at = number_at low_first 2 e at

abbrev pub u32_at : List ℕ → ℕ → ℕ
u32_at e at = number_at low_first 4 e at
