-- What contracts see of the code's types.
use Rattle.std.specs.Prelude.{◌≡◌, true, ◌&&◌, nat_lt, List, map, reverse}
use Rattle.std.specs.List.{list_all}
use Rattle.romfs_image.specs.Nodes.{RomValue}
use Rattle.rom_tree.specs.declared.nodes.Waiting.{Waiting as Stored}
use Rattle.rom_tree.specs.Nodes.{Waiting}

abbrev pub waiting_value : Stored → Waiting
waiting_value w = record { parent = w.parent; entry = record { name = w.name.now; id = w.id } }

-- the last one is taken first
abbrev pub waiting_list : List Stored → List Waiting
waiting_list stack = map waiting_value (reverse stack)

-- name and bytes are of bytes
abbrev pub IsOfBytes : RomValue → Type 0
IsOfBytes n = (list_all (λ b. nat_lt b 256) n.name && list_all (λ b. nat_lt b 256) n.bytes) ≡ true
