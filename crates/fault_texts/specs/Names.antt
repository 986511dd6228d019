-- Names of an ELF file as they are written: no name has a blank or breaks a line, and none is a stand-in for a name that is missing.
use Rattle.std.specs.Prelude.{ℕ, ◌==◌, nat_lt, nat_le, Bool, not, ◌&&◌, ◌||◌, List, [], ◌∷◌, ◌++◌, length, take, codes, decimal, if◌then◌else◌}
use Rattle.std.specs.List.{flat_map}
use Rattle.hex.specs.Hex.{encode_lower}

-- printable, no blank, and no backslash
abbrev pub is_plain : ℕ → Bool
is_plain byte = nat_le 0x21 byte && nat_le byte 0x7e && not (byte == 0x5c)

-- `#`, `@`, `*` or `-`, with which a stand-in begins
abbrev pub begins_stand_in : ℕ → Bool
begins_stand_in byte = byte == 0x23 || byte == 0x40 || byte == 0x2a || byte == 0x2d

-- `\xHH`
abbrev pub escape : ℕ → List ℕ
escape byte = codes "\\x" ++ encode_lower (byte ∷ [])

abbrev pub byte_text : ℕ → List ℕ
byte_text byte = if is_plain byte then byte ∷ [] else escape byte

abbrev pub first_text : ℕ → List ℕ
first_text byte = if is_plain byte && not (begins_stand_in byte) then byte ∷ [] else escape byte

abbrev pub bytes_text : List ℕ → List ℕ
bytes_text [] = []
bytes_text (byte ∷ bytes) = first_text byte ++ flat_map byte_text bytes

-- the most bytes that are shown of a name
abbrev pub most_shown : ℕ
most_shown = 255

-- where there are more
abbrev pub dots : List ℕ → List ℕ
dots name = if nat_lt most_shown (length name) then codes "..." else []

unfoldable pub shown : List ℕ → List ℕ
shown name = bytes_text (take most_shown name) ++ dots name

-- a name, or its stand-in: a sign and an index
abbrev pub name_or : (sign index : ℕ) → (name : List ℕ) → List ℕ
name_or sign index [] = sign ∷ decimal index
name_or sign index (byte ∷ bytes) = shown (byte ∷ bytes)
