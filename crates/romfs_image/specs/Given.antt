-- Which nodes can be written: a tree in the order of the walk.
use Rattle.std.specs.Prelude.{◌≡◌, ℕ, ◌+◌, Bool, true, not, ◌&&◌, ◌==◌, nat_lt, nat_le, if◌then◌else◌, List, [], ◌∷◌, ◌++◌, length, bytes_eq}
use Rattle.std.specs.List.{list_any, list_all}
use Rattle.romfs_image.specs.declared.node.RomKind.{RomKind}
use Rattle.romfs_image.specs.declared.node.RomKind.TheVariants.{Dir, File}
use Rattle.romfs_image.specs.Fault.{is_dots}
use Rattle.romfs_image.specs.Nodes.{RomValue}

-- a name of 1 to 255 bytes without zero and slash, neither `.` nor `..`
unfoldable pub is_name : List ℕ → Bool
is_name name = nat_lt 0 (length name) && nat_le (length name) 255 && list_all (λ b. nat_lt b 256 && not (b == 0) && not (b == 47)) name && not (is_dots name)

-- a folder has the executable bit and no bytes
abbrev pub is_plain : RomKind → RomValue → Bool
is_plain Dir n = n.exec && (length n.bytes == 0)
is_plain File n = list_all (λ b. nat_lt b 256) n.bytes

-- the node after these: of a name that no earlier one of its folder has
unfoldable pub is_new : List RomValue → RomValue → Bool
is_new earlier n = not (list_any (λ e. (e.parent == n.parent) && bytes_eq e.name n.name) earlier)

-- The folders in which the walk still is, the innermost first, from the one of this number on; nothing where it isn't there.
abbrev pub from_folder : ℕ → List ℕ → List ℕ
from_folder folder [] = []
from_folder folder (o ∷ outer) = if o == folder then o ∷ outer else from_folder folder outer

abbrev pub folders_behind : RomKind → (number : ℕ) → List ℕ → List ℕ
folders_behind Dir number within = number ∷ within
folders_behind File number within = within

-- a node is in a folder in which the walk still is; a folder that was left isn't entered again
abbrev pub are_in_order : (within : List ℕ) → (earlier : List RomValue) → List RomValue → Bool
are_in_order within earlier [] = true
are_in_order within earlier (n ∷ ns) =
    nat_lt 0 (length (from_folder n.parent within)) && is_name n.name && is_plain n.kind n && is_new earlier n
    && are_in_order (folders_behind n.kind (length earlier + 1) (from_folder n.parent within)) (earlier ++ n ∷ []) ns

-- what can be written
abbrev pub AreNodes : List RomValue → Type 0
AreNodes nodes = are_in_order (0 ∷ []) [] nodes ≡ true
