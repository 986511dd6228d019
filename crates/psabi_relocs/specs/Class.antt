-- The class of a symbol. System V ABI, ELF32, "Symbol Table"; that `__global_pointer$` moves is this project's own rule.
use Rattle.std.specs.Prelude.{ℕ, ◌/◌, Bool, true, false, ◌&&◌, nat_lt, ◌==◌, List, codes, bytes_eq, if◌then◌else◌}
use Rattle.elf32_reader.specs.declared.symbol.Symbol.{Symbol}
use Rattle.elf32_reader.specs.Header.{count_of}
use Rattle.elf32_reader.specs.Sections.{section, is_allocated}
use Rattle.elf32_reader.specs.Symbols.{symbol, name_of}
use Rattle.psabi_relocs.specs.declared.class.Class.{Class}
use Rattle.psabi_relocs.specs.declared.class.Class.TheVariants.{Moves, Fixed, Weak, Undefined, Bad}

-- the index names a section that is loaded
abbrev pub names_allocated : List ℕ → ℕ → Bool
names_allocated e i = nat_lt i (count_of e) && is_allocated (section e i)

-- a symbol with no section (SHN_UNDEF, 0): weak by its binding STB_WEAK (2)
abbrev pub undefined_class : Symbol → Class
undefined_class s = if s.info / 16 == 2 then Weak else Undefined

-- an absolute symbol (SHN_ABS, 0xfff1) stands still, but the global pointer moves with the sections
abbrev pub absolute_class : List ℕ → Class
absolute_class name = if bytes_eq name (codes "__global_pointer$") then Moves else Fixed

unfoldable pub class : List ℕ → ℕ → ℕ → Class
class e table j =
    if j == 0 then Fixed
    else if (symbol e table j).shndx == 0 then undefined_class (symbol e table j)
    else if (symbol e table j).shndx == 0xfff1 then absolute_class (name_of e table j)
    else if names_allocated e (symbol e table j).shndx then Moves
    else Bad

abbrev pub is_moving : Class → Bool
is_moving Moves = true
is_moving Fixed = false
is_moving Weak = false
is_moving Undefined = false
is_moving Bad = false

-- S: the stored value, but 0 for the symbol of index 0 and for a weak undefined one
abbrev pub value_in : Class → Symbol → ℕ → ℕ
value_in Weak s j = 0
value_in Moves s j = s.value
value_in Fixed s j = if j == 0 then 0 else s.value
value_in Undefined s j = s.value
value_in Bad s j = s.value

unfoldable pub value_of : List ℕ → ℕ → ℕ → ℕ
value_of e table j = value_in (class e table j) (symbol e table j) j

-- the value is the same at every base
abbrev pub is_still : Class → Bool
is_still Fixed = true
is_still Weak = true
is_still Moves = false
is_still Undefined = false
is_still Bad = false
