-- The path of a node, and how it is written.
use Rattle.std.specs.Prelude.{ℕ, zero, suc, ◌-◌, ◌==◌, Bool, false, not, ◌&&◌, nat_le, if◌then◌else◌, List, [], ◌∷◌, ◌++◌, length, replicate, codes, Option, None, option_map}
use Rattle.std.specs.List.{flat_map, slice_get}
use Rattle.std.specs.Fmt.{digits}
use Rattle.std.specs.Option.{unwrap_or}
use Rattle.romfs_image.specs.Nodes.{RomValue}

-- the node of a number; the root has 0, and is no node
abbrev pub numbered : List RomValue → ℕ → Option RomValue
numbered nodes number = if number == 0 then None else slice_get nodes (number - 1)

-- The names on the way from the root to the node of a number. A folder has a lower number than what is in it, so that as
-- many steps as the number says lead up to the root.
abbrev pub names_to : (steps : ℕ) → List RomValue → ℕ → List (List ℕ)
names_to zero nodes number = []
names_to (suc steps) nodes number = unwrap_or (option_map (λ (n : RomValue). names_to steps nodes n.parent ++ n.name ∷ []) (numbered nodes number)) []

-- a byte from 0x21 to 0x7e but the backslash
abbrev pub is_plain : ℕ → Bool
is_plain byte = nat_le 0x21 byte && nat_le byte 0x7e && not (byte == 0x5c)

-- two digits
abbrev pub byte_digits : ℕ → List ℕ
byte_digits n = replicate (2 - length (digits 16 false n)) 48 ++ digits 16 false n

-- `\xHH`
abbrev pub escape : ℕ → List ℕ
escape byte = codes "\\x" ++ byte_digits byte

-- the byte itself, or its escape
abbrev pub spelled_byte : ℕ → List ℕ
spelled_byte byte = if is_plain byte then byte ∷ [] else escape byte

-- a slash and a name
abbrev pub step_text : List ℕ → List ℕ
step_text name = codes "/" ++ flat_map spelled_byte name

unfoldable pub path_text : List RomValue → ℕ → List ℕ
path_text nodes number = flat_map step_text (names_to number nodes number)
