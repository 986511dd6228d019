-- The symbols of a table by section and value, for the index alone.
use Rattle.std.specs.Prelude.{◌≡◌, ℕ, ◌+◌, ◌-◌, ◌*◌, ◌^◌, ◌<◌, ◌==◌, nat_lt, ◌&&◌, List, [], ◌∷◌, Option, Some, None, if◌then◌else◌}
use Rattle.std.specs.Option.{option_or}
use Rattle.elf32_reader.specs.Symbols.{symbol}
use Rattle.psabi_relocs.specs.declared.around.Spot.{Spot}
use Rattle.psabi_relocs.specs.Around.{kind_of, reaches, is_told, around}

-- a place of a section as a number; 2^34 are left for what tells the symbols of one place apart
abbrev pub place_order : (section value : ℕ) → ℕ
place_order section value = (section * 2 ^ 32 + value) * 2 ^ 34

-- the spot that is told rather than another one has the greater number
abbrev pub order_of : Spot → ℕ
order_of s = place_order s.section s.value + s.kind * 2 ^ 32 + (2 ^ 32 - 1 - s.index)

-- where symbol j of table t stands
abbrev pub spot : List ℕ → ℕ → ℕ → Spot
spot e t j = record {
  section = (symbol e t j).shndx;
  value = (symbol e t j).value;
  size = (symbol e t j).size;
  kind = kind_of (symbol e t j);
  index = j;
}

abbrev pub spot_if_told : List ℕ → ℕ → ℕ → List Spot
spot_if_told e t j = if is_told e t j then spot e t j ∷ [] else []

-- the last of the spots below a number
abbrev pub last_under : List Spot → ℕ → Option Spot
last_under [] n = None
last_under (s ∷ ss) n = option_or (last_under ss n) (if nat_lt (order_of s) n then Some s else None)

-- its index, if it stands in section x and reaches the place p
abbrev pub index_at : ℕ → ℕ → Option Spot → Option ℕ
index_at x p None = None
index_at x p (Some s) = if s.section == x && reaches s.value s.size p then Some s.index else None

-- the index of the last spot up to the place p of section x
abbrev pub found : List Spot → ℕ → ℕ → Option ℕ
found ss x p = index_at x p (last_under ss (place_order x (p + 1)))

-- ss is the index of table t of the file e
abbrev pub IsAroundOf : List ℕ → ℕ → List Spot → Type 0
IsAroundOf e t ss = (x p : ℕ) → p < 2 ^ 32 → found ss x p ≡ around e t x p
