-- Which symbol stands around a place, and which one a relocation means: this project's own rules. Symbols are those of System V ABI,
-- ELF32, "Symbol Table".
use Rattle.std.specs.Prelude.{ℕ, ◌+◌, ◌%◌, ◌^◌, ◌==◌, nat_lt, nat_le, Bool, false, not, ◌&&◌, ◌||◌, List, [], ◌∷◌, Option, Some, None, if◌then◌else◌, ℤ, pos, ◌-ℤ◌}
use Rattle.std.specs.Int.{w32, cast_unsigned}
use Rattle.elf32_reader.specs.declared.symbol.Symbol.{Symbol}
use Rattle.elf32_reader.specs.Header.{count_of}
use Rattle.elf32_reader.specs.Symbols.{symbol_count, symbol, name_of}
use Rattle.byte_words.specs.Search.{any_below}
use Rattle.psabi_relocs.specs.declared.meant.Meant.{Meant}
use Rattle.psabi_relocs.specs.Search.{first_below}

-- a name of the source: it isn't empty, and begins neither with `.` nor with `$`, as a compiler's own labels do
abbrev pub is_source : List ℕ → Bool
is_source [] = false
is_source (b ∷ bs) = not (b == 0x2e) && not (b == 0x24)

-- a label, STT_NOTYPE (0), an object, STT_OBJECT (1), or a function, STT_FUNC (2)
abbrev pub kind_of : Symbol → ℕ
kind_of s = s.info % 16

-- symbol j of table t can be told as what stands around a place
unfoldable pub is_told : List ℕ → ℕ → ℕ → Bool
is_told e t j = not (j == 0) && nat_le (kind_of (symbol e t j)) 2 && is_source (name_of e t j)

-- as what stands around the place p of section x
unfoldable pub is_below : List ℕ → ℕ → ℕ → ℕ → ℕ → Bool
is_below e t x p j = is_told e t j && (symbol e t j).shndx == x && nat_le (symbol e t j).value p

-- symbol k is told rather than symbol j: that of the greater value; of equal ones a function before an object before a label; then
-- that of the lower index
unfoldable pub is_nearer : List ℕ → ℕ → ℕ → ℕ → Bool
is_nearer e t k j =
    nat_lt (symbol e t j).value (symbol e t k).value
    || ((symbol e t j).value == (symbol e t k).value
    && (nat_lt (kind_of (symbol e t j)) (kind_of (symbol e t k))
    || (kind_of (symbol e t j) == kind_of (symbol e t k) && nat_lt k j)))

-- symbol j is told, and no other one rather than it
unfoldable pub is_nearest : List ℕ → ℕ → ℕ → ℕ → ℕ → Bool
is_nearest e t x p j = is_below e t x p j && not (any_below (λ k. is_below e t x p k && is_nearer e t k j) (symbol_count e t))

-- the place p isn't behind the symbol's end; one of size 0 has none
abbrev pub reaches : (value size p : ℕ) → Bool
reaches value size p = size == 0 || nat_lt p (value + size)

abbrev pub if_reaches : List ℕ → ℕ → ℕ → Option ℕ → Option ℕ
if_reaches e t p None = None
if_reaches e t p (Some j) = if reaches (symbol e t j).value (symbol e t j).size p then Some j else None

-- the index of the symbol of table t around the place p of section x
unfoldable pub around : List ℕ → ℕ → ℕ → ℕ → Option ℕ
around e t x p = if_reaches e t p (first_below (is_nearest e t x p) (symbol_count e t))

-- symbol i stands for a place of a section, and has no name of the source, as a section's own symbol or a compiler's anchor
unfoldable pub is_anchor : List ℕ → ℕ → ℕ → Bool
is_anchor e t i =
    not (i == 0) && not (is_source (name_of e t i)) && not ((symbol e t i).shndx == 0) && nat_lt (symbol e t i).shndx (count_of e)

-- the place that the symbol and an addend give
unfoldable pub reached : List ℕ → ℕ → ℕ → ℤ → ℕ
reached e t i a = ((symbol e t i).value + cast_unsigned w32 a) % 2 ^ 32

abbrev pub anchored : List ℕ → ℕ → ℕ → ℤ → Option ℕ → Meant
anchored e t i a None = record { symbol = i; distance = a }
anchored e t i a (Some j) = record { symbol = j; distance = pos (reached e t i a) -ℤ pos (symbol e t j).value }

-- what symbol i of table t with the addend a means: an anchor means the symbol around the place, if there is one
unfoldable pub meant : List ℕ → ℕ → ℕ → ℤ → Meant
meant e t i a = anchored e t i a (if is_anchor e t i then around e t (symbol e t i).shndx (reached e t i a) else None)
