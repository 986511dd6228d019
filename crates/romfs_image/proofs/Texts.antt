-- The maker's definitions, computed on small trees and read again.
use Rattle.std.proofs.Common.{◌≡◌, ℕ, true, false, List, [], ◌∷◌, refl}
use Rattle.std.specs.Prelude.{codes, Ok}
use Rattle.byte_words.specs.Numbers.{number_at}
use Rattle.romfs_image.specs.declared.node.RomKind.TheVariants.{Dir, File}
use Rattle.romfs_image.specs.Header.{name_at, name_end, header_bytes, header_at, file_bytes}
use Rattle.romfs_image.specs.Fault.{sums_to_zero, image_of, super_fault, is_dots, is_bad_name, is_node, header_fault}
use Rattle.romfs_image.specs.Walk.{is_named, repeat_fault, walked}
use Rattle.romfs_image.specs.Nodes.{RomValue}
use Rattle.romfs_image.specs.Reading.{is_file_at, is_dangling, node_of, linked, rom_read}
use Rattle.romfs_image.specs.Text.{header_text, node_len, dots_text, node_text, list_text, image_text, rom_text}
use Rattle.romfs_image.specs.Given.{is_name, is_new, are_in_order}
use Rattle.romfs_image.proofs.Samples.{empty}

empty_made : rom_text [] ≡ empty
unfolding rom_text image_text list_text header_text empty
empty_made = refl

-- a folder with a program and a folder, and a file behind it
nodes : List RomValue
nodes =
    record { parent = 0; name = codes "bin"; kind = Dir; bytes = []; exec = true }
    ∷ record { parent = 1; name = codes "a"; kind = File; bytes = 1 ∷ 2 ∷ 3 ∷ []; exec = true }
    ∷ record { parent = 1; name = codes "d"; kind = Dir; bytes = []; exec = true }
    ∷ record { parent = 0; name = codes "name_of_16_bytes"; kind = File; bytes = []; exec = false }
    ∷ []

nodes_in_order : are_in_order (0 ∷ []) [] nodes ≡ true
unfolding is_name is_new is_dots nodes
nodes_in_order = refl

nodes_read : rom_read (rom_text nodes) ≡ Ok nodes
unfolding rom_read linked node_of is_dangling is_file_at walked repeat_fault is_named header_fault is_node is_bad_name is_dots super_fault image_of sums_to_zero file_bytes header_at header_bytes name_end name_at number_at rom_text image_text list_text node_text dots_text node_len header_text nodes
nodes_read = refl

-- the bytes of a writer made apart from this one
made : List ℕ
made =
    45 ∷ 114 ∷ 111 ∷ 109 ∷ 49 ∷ 102 ∷ 115 ∷ 45 ∷ 0 ∷ 0 ∷ 1 ∷ 128 ∷ 214 ∷ 184 ∷ 183 ∷ 114 ∷ 102 ∷ 108 ∷ 97 ∷ 116 ∷ 99 ∷ 0 ∷ 0 ∷ 0 ∷ 0 ∷ 0 ∷ 0 ∷ 0 ∷ 0 ∷ 0 ∷ 0 ∷ 0
    ∷ 0 ∷ 0 ∷ 0 ∷ 73 ∷ 0 ∷ 0 ∷ 0 ∷ 32 ∷ 0 ∷ 0 ∷ 0 ∷ 0 ∷ 209 ∷ 255 ∷ 255 ∷ 151 ∷ 46 ∷ 0 ∷ 0 ∷ 0 ∷ 0 ∷ 0 ∷ 0 ∷ 0 ∷ 0 ∷ 0 ∷ 0 ∷ 0 ∷ 0 ∷ 0 ∷ 0 ∷ 0
    ∷ 0 ∷ 0 ∷ 0 ∷ 96 ∷ 0 ∷ 0 ∷ 0 ∷ 32 ∷ 0 ∷ 0 ∷ 0 ∷ 0 ∷ 209 ∷ 209 ∷ 255 ∷ 128 ∷ 46 ∷ 46 ∷ 0 ∷ 0 ∷ 0 ∷ 0 ∷ 0 ∷ 0 ∷ 0 ∷ 0 ∷ 0 ∷ 0 ∷ 0 ∷ 0 ∷ 0 ∷ 0
    ∷ 0 ∷ 0 ∷ 1 ∷ 89 ∷ 0 ∷ 0 ∷ 0 ∷ 128 ∷ 0 ∷ 0 ∷ 0 ∷ 0 ∷ 157 ∷ 150 ∷ 144 ∷ 39 ∷ 98 ∷ 105 ∷ 110 ∷ 0 ∷ 0 ∷ 0 ∷ 0 ∷ 0 ∷ 0 ∷ 0 ∷ 0 ∷ 0 ∷ 0 ∷ 0 ∷ 0 ∷ 0
    ∷ 0 ∷ 0 ∷ 0 ∷ 160 ∷ 0 ∷ 0 ∷ 0 ∷ 96 ∷ 0 ∷ 0 ∷ 0 ∷ 0 ∷ 209 ∷ 255 ∷ 255 ∷ 0 ∷ 46 ∷ 0 ∷ 0 ∷ 0 ∷ 0 ∷ 0 ∷ 0 ∷ 0 ∷ 0 ∷ 0 ∷ 0 ∷ 0 ∷ 0 ∷ 0 ∷ 0 ∷ 0
    ∷ 0 ∷ 0 ∷ 0 ∷ 192 ∷ 0 ∷ 0 ∷ 0 ∷ 32 ∷ 0 ∷ 0 ∷ 0 ∷ 0 ∷ 209 ∷ 209 ∷ 255 ∷ 32 ∷ 46 ∷ 46 ∷ 0 ∷ 0 ∷ 0 ∷ 0 ∷ 0 ∷ 0 ∷ 0 ∷ 0 ∷ 0 ∷ 0 ∷ 0 ∷ 0 ∷ 0 ∷ 0
    ∷ 0 ∷ 0 ∷ 0 ∷ 250 ∷ 0 ∷ 0 ∷ 0 ∷ 0 ∷ 0 ∷ 0 ∷ 0 ∷ 3 ∷ 158 ∷ 255 ∷ 255 ∷ 3 ∷ 97 ∷ 0 ∷ 0 ∷ 0 ∷ 0 ∷ 0 ∷ 0 ∷ 0 ∷ 0 ∷ 0 ∷ 0 ∷ 0 ∷ 0 ∷ 0 ∷ 0 ∷ 0
    ∷ 1 ∷ 2 ∷ 3 ∷ 0 ∷ 0 ∷ 0 ∷ 0 ∷ 0 ∷ 0 ∷ 0 ∷ 0 ∷ 0 ∷ 0 ∷ 0 ∷ 0 ∷ 0 ∷ 0 ∷ 0 ∷ 0 ∷ 9 ∷ 0 ∷ 0 ∷ 1 ∷ 16 ∷ 0 ∷ 0 ∷ 0 ∷ 0 ∷ 155 ∷ 255 ∷ 254 ∷ 231
    ∷ 100 ∷ 0 ∷ 0 ∷ 0 ∷ 0 ∷ 0 ∷ 0 ∷ 0 ∷ 0 ∷ 0 ∷ 0 ∷ 0 ∷ 0 ∷ 0 ∷ 0 ∷ 0 ∷ 0 ∷ 0 ∷ 1 ∷ 48 ∷ 0 ∷ 0 ∷ 0 ∷ 240 ∷ 0 ∷ 0 ∷ 0 ∷ 0 ∷ 209 ∷ 255 ∷ 253 ∷ 224
    ∷ 46 ∷ 0 ∷ 0 ∷ 0 ∷ 0 ∷ 0 ∷ 0 ∷ 0 ∷ 0 ∷ 0 ∷ 0 ∷ 0 ∷ 0 ∷ 0 ∷ 0 ∷ 0 ∷ 0 ∷ 0 ∷ 0 ∷ 0 ∷ 0 ∷ 0 ∷ 0 ∷ 96 ∷ 0 ∷ 0 ∷ 0 ∷ 0 ∷ 209 ∷ 209 ∷ 255 ∷ 160
    ∷ 46 ∷ 46 ∷ 0 ∷ 0 ∷ 0 ∷ 0 ∷ 0 ∷ 0 ∷ 0 ∷ 0 ∷ 0 ∷ 0 ∷ 0 ∷ 0 ∷ 0 ∷ 0 ∷ 0 ∷ 0 ∷ 0 ∷ 2 ∷ 0 ∷ 0 ∷ 0 ∷ 0 ∷ 0 ∷ 0 ∷ 0 ∷ 0 ∷ 135 ∷ 132 ∷ 103 ∷ 101
    ∷ 110 ∷ 97 ∷ 109 ∷ 101 ∷ 95 ∷ 111 ∷ 102 ∷ 95 ∷ 49 ∷ 54 ∷ 95 ∷ 98 ∷ 121 ∷ 116 ∷ 101 ∷ 115 ∷ 0 ∷ 0 ∷ 0 ∷ 0 ∷ 0 ∷ 0 ∷ 0 ∷ 0 ∷ 0 ∷ 0 ∷ 0 ∷ 0 ∷ 0 ∷ 0 ∷ 0 ∷ 0 ∷ []

nodes_made : rom_text nodes ≡ made
unfolding rom_text image_text list_text node_text dots_text node_len header_text nodes made
nodes_made = refl
