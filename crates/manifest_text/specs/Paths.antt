-- Paths of programs, files and folders.
use Rattle.std.specs.Prelude.{ℕ, ◌==◌, Bool, false, not, ◌&&◌, nat_le, [], ◌∷◌, length, codes, bytes_eq}
use Rattle.std.specs.List.{list_all}
use Rattle.manifest_text.specs.Pieces.{Text, is_empty, pieces}

abbrev pub slash : ℕ
slash = 47

-- of 1 to 255 bytes, and neither `.` nor `..`
unfoldable pub is_name : Text → Bool
is_name name =
    not (is_empty name) && nat_le (length name) 255 && not (bytes_eq name (codes ".")) && not (bytes_eq name (codes ".."))

-- a slash, and names with a slash between them: 4095 bytes in all at most
unfoldable pub is_path : Text → Bool
is_path [] = false
is_path (b ∷ names) = b == slash && nat_le (length (b ∷ names)) 4095 && list_all is_name (pieces slash names)
