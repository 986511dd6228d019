-- The paths of an image's nodes.
use Rattle.std.specs.Prelude.{ℕ, List, ◌∷◌}
use Rattle.std.specs.List.{flat_map}
use Rattle.mem_files.specs.Paths.{slash}
use Rattle.romfs_image.specs.Nodes.{RomValue}
use Rattle.romfs_image.specs.Paths.{names_to}

-- a slash and a name for each folder on the way from the root to the node of a number, and for the node
abbrev pub rom_path : List RomValue → ℕ → List ℕ
rom_path nodes number = flat_map (λ name. slash ∷ name) (names_to number nodes number)
