-- The nodes of an image, or its first fault.
use Rattle.std.specs.Prelude.{◌≡◌, ℕ, ◌+◌, ◌≤◌, length, Bool, true, not, ◌&&◌, ◌==◌, if◌then◌else◌, List, [], map, Option, Some, None, Result, Ok, Err}
use Rattle.std.specs.List.{list_any}
use Rattle.romfs_image.specs.declared.fault.RomFault.{RomFault}
use Rattle.romfs_image.specs.declared.fault.RomFault.TheVariants as fault
use Rattle.romfs_image.specs.declared.node.RomKind.TheVariants.{Dir, File}
use Rattle.romfs_image.specs.Header.{Header, header_at, file_bytes}
use Rattle.romfs_image.specs.Fault.{image_of, super_fault}
use Rattle.romfs_image.specs.Walk.{Entry, walked}
use Rattle.romfs_image.specs.Nodes.{RomValue}

-- the entry of a file whose header stands at a position
unfoldable pub is_file_at : ℕ → Entry → Bool
is_file_at at e = e.at == at && e.header.kind == 2

-- a hard link to what is no file of the walk
unfoldable pub is_dangling : List Entry → Entry → Bool
is_dangling entries e = e.header.kind == 0 && not (list_any (is_file_at e.header.info) entries)

-- a file with the bytes and the executable bit of a header
abbrev pub file_of : List ℕ → Entry → Header → RomValue
file_of y e h = record { parent = e.folder; name = e.header.name; kind = File; bytes = file_bytes y h; exec = h.exec }

abbrev pub folder_of : Entry → RomValue
folder_of e = record { parent = e.folder; name = e.header.name; kind = Dir; bytes = []; exec = e.header.exec }

-- what an entry says; a hard link is a file of its own, with what the header says that it names
unfoldable pub node_of : List ℕ → Entry → RomValue
node_of y e =
    if e.header.kind == 1 then folder_of e
    else if e.header.kind == 0 then file_of y e (header_at y e.header.info)
    else file_of y e e.header

-- 12, and the nodes
unfoldable pub linked : List ℕ → List Entry → Result (List RomValue) RomFault
linked y entries = if list_any (is_dangling entries) entries then Err fault.Link else Ok (map (node_of y) entries)

abbrev pub nodes_of : List ℕ → Result (List Entry) RomFault → Result (List RomValue) RomFault
nodes_of y (Ok entries) = linked y entries
nodes_of y (Err f) = Err f

abbrev pub unless_fault : Option RomFault → Result (List RomValue) RomFault → Result (List RomValue) RomFault
unless_fault None read = read
unless_fault (Some f) read = Err f

-- the nodes, or the first of the twelve faults
unfoldable pub rom_read : List ℕ → Result (List RomValue) RomFault
rom_read y = unless_fault (super_fault y) (nodes_of (image_of y) (walked (image_of y)))

-- its two halves
abbrev pub rom_values : List ℕ → List RomValue
rom_values y = values_in (rom_read y)
  where
    values_in : Result (List RomValue) RomFault → List RomValue
    values_in (Ok nodes) = nodes
    values_in (Err f) = []

abbrev pub rom_fault : List ℕ → Option RomFault
rom_fault y = fault_in (rom_read y)
  where
    fault_in : Result (List RomValue) RomFault → Option RomFault
    fault_in (Ok nodes) = None
    fault_in (Err f) = Some f

-- the header of each file of the walk has its words in the image
abbrev pub FilesFit : List ℕ → List Entry → Type 0
FilesFit y entries = (at : ℕ) → list_any (is_file_at at) entries ≡ true → at + 16 ≤ length y
