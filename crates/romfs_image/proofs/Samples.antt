-- The definitions, computed on the image without any node, and paths on two nodes.
use Rattle.std.proofs.Common.{◌≡◌, ℕ, true, false, List, [], ◌∷◌, map, refl, slice_set}
use Rattle.std.specs.Prelude.{codes, Ok, Err}
use Rattle.std.specs.Fmt.{digits}
use Rattle.romfs_image.specs.declared.fault.RomFault.TheVariants as fault
use Rattle.byte_words.specs.Numbers.{number_at}
use Rattle.romfs_image.specs.Header.{name_at, name_end, header_bytes, header_at}
use Rattle.romfs_image.specs.Fault.{sums_to_zero, image_of, super_fault, is_dots, is_bad_name, is_node, header_fault}
use Rattle.romfs_image.specs.Walk.{is_named, repeat_fault, walked}
use Rattle.romfs_image.specs.declared.node.RomKind.TheVariants.{Dir, File}
use Rattle.romfs_image.specs.Nodes.{RomValue}
use Rattle.romfs_image.specs.Paths.{path_text}
use Rattle.romfs_image.specs.Reading.{is_file_at, is_dangling, node_of, linked, rom_read}

unfoldable pub empty : List ℕ
empty =
    45 ∷ 114 ∷ 111 ∷ 109 ∷ 49 ∷ 102 ∷ 115 ∷ 45 ∷ 0 ∷ 0 ∷ 0 ∷ 96 ∷ 0xd7 ∷ 0xba ∷ 0xbb ∷ 0x92 ∷ 0x66 ∷ 0x6c ∷ 0x61 ∷ 0x74 ∷ 0x63 ∷ 0 ∷ 0 ∷ 0 ∷ 0 ∷ 0 ∷ 0 ∷ 0 ∷ 0 ∷ 0 ∷ 0 ∷ 0
    ∷ 0 ∷ 0 ∷ 0 ∷ 0x49 ∷ 0 ∷ 0 ∷ 0 ∷ 0x20 ∷ 0 ∷ 0 ∷ 0 ∷ 0 ∷ 0xd1 ∷ 0xff ∷ 0xff ∷ 0x97 ∷ 0x2e ∷ 0 ∷ 0 ∷ 0 ∷ 0 ∷ 0 ∷ 0 ∷ 0 ∷ 0 ∷ 0 ∷ 0 ∷ 0 ∷ 0 ∷ 0 ∷ 0 ∷ 0
    ∷ 0 ∷ 0 ∷ 0 ∷ 0 ∷ 0 ∷ 0 ∷ 0 ∷ 0x20 ∷ 0 ∷ 0 ∷ 0 ∷ 0 ∷ 0xd1 ∷ 0xd1 ∷ 0xff ∷ 0xe0 ∷ 0x2e ∷ 0x2e ∷ 0 ∷ 0 ∷ 0 ∷ 0 ∷ 0 ∷ 0 ∷ 0 ∷ 0 ∷ 0 ∷ 0 ∷ 0 ∷ 0 ∷ 0 ∷ 0 ∷ []

empty_read : rom_read empty ≡ Ok []
unfolding rom_read linked node_of is_dangling is_file_at walked repeat_fault is_named header_fault is_node is_bad_name is_dots super_fault image_of sums_to_zero header_at header_bytes name_end name_at number_at empty
empty_read = refl

other_sum : rom_read (slice_set empty 35 0x4a) ≡ Err fault.SuperSum
unfolding rom_read linked node_of is_dangling is_file_at walked repeat_fault is_named header_fault is_node is_bad_name is_dots super_fault image_of sums_to_zero header_at header_bytes name_end name_at number_at empty
other_sum = refl

-- a file `b c\` in a folder `a`
within : List RomValue
within =
    record { parent = 0; name = codes "a"; kind = Dir; bytes = []; exec = true }
    ∷ record { parent = 1; name = codes "b c\\"; kind = File; bytes = []; exec = false }
    ∷ []

paths_are_written : map (path_text within) (1 ∷ 2 ∷ []) ≡ codes "/a" ∷ codes "/a/b\\x20c\\x5c" ∷ []
unfolding path_text within digits
paths_are_written = refl
