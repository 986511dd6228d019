-- What may be wrong with an image: twelve rows in one order. Here stand 1 to 5, of the superblock, and 6 to 11, of one
-- header; `Reading` has 12, of the hard links.
use Rattle.std.specs.Prelude.{ℕ, ◌+◌, ◌%◌, ◌^◌, Bool, not, ◌&&◌, ◌||◌, ◌==◌, nat_lt, nat_le, List, [], ◌∷◌, length, take, codes, bytes_eq, Option}
use Rattle.std.specs.List.{list_any}
use Rattle.byte_words.specs.Search.{first}
use Rattle.romfs_image.specs.declared.fault.RomFault.{RomFault}
use Rattle.romfs_image.specs.declared.fault.RomFault.TheVariants as fault
use Rattle.romfs_image.specs.Words.{big_at, word_sum}
use Rattle.romfs_image.specs.Header.{Header, name_end, header_bytes, header_at}

-- the words sum to 0 modulo 2^32
unfoldable pub sums_to_zero : List ℕ → Bool
sums_to_zero bytes = word_sum bytes % 2 ^ 32 == 0

-- how many bytes the image has, as the superblock says
abbrev pub full_size : List ℕ → ℕ
full_size y = big_at y 8

-- the bytes of the image itself; a file may be longer
unfoldable pub image_of : List ℕ → List ℕ
image_of y = take (full_size y) y

-- 1 to 5
abbrev pub super_rows : List ℕ → List (Bool × RomFault)
super_rows y =
    ((nat_lt (length y) 32, fault.Short)
    ∷ (not (bytes_eq (take 8 y) (codes "-rom1fs-")), fault.Magic)
    ∷ (nat_lt (full_size y) 32 || nat_lt (length y) (full_size y), fault.FullSize)
    ∷ (not (sums_to_zero (take 512 (image_of y))), fault.SuperSum)
    ∷ (nat_lt (length (image_of y)) (name_end (image_of y) 0), fault.Volume)
    ∷ [])

unfoldable pub super_fault : List ℕ → Option RomFault
super_fault y = first (super_rows y)

-- `.` or `..`
unfoldable pub is_dots : List ℕ → Bool
is_dots name = bytes_eq name (codes ".") || bytes_eq name (codes "..")

-- no name of a header: empty, too long, with a slash, or `.` or `..` of another type than a hard link or a folder
unfoldable pub is_bad_name : Header → Bool
is_bad_name h = length h.name == 0 || nat_lt 255 (length h.name) || list_any (λ b. b == 47) h.name || (is_dots h.name && nat_lt 1 h.kind)

-- a hard link, folder or file that isn't passed over
unfoldable pub is_node : Header → Bool
is_node h = nat_le h.kind 2 && not (is_dots h.name)

-- 6 to 10, for the header at a position, where the one before it in the walk stands at `before`
abbrev pub header_rows : List ℕ → ℕ → ℕ → List (Bool × RomFault)
header_rows y before at =
    ((nat_lt (length y) (name_end y at), fault.Header)
    ∷ (not (sums_to_zero (header_bytes y at)), fault.HeaderSum)
    ∷ (is_bad_name (header_at y at), fault.Name)
    ∷ (nat_le at before, fault.Order)
    ∷ ((header_at y at).kind == 2 && nat_lt (length y) ((header_at y at).body + (header_at y at).size), fault.Range)
    ∷ [])

unfoldable pub header_fault : List ℕ → ℕ → ℕ → Option RomFault
header_fault y before at = first (header_rows y before at)
