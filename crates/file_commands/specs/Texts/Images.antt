-- The nodes of a romfs image, and the faults of one.
use Rattle.std.specs.Prelude.{ℕ, ◌+◌, Bool, List, [], ◌∷◌, ◌++◌, length, codes, decimal, if◌then◌else◌}
use Rattle.romfs_image.specs.declared.fault.RomFault.{RomFault}
use Rattle.romfs_image.specs.declared.fault.RomFault.TheVariants as fault
use Rattle.romfs_image.specs.declared.node.RomKind.{RomKind}
use Rattle.romfs_image.specs.declared.node.RomKind.TheVariants.{Dir, File}
use Rattle.romfs_image.specs.Nodes.{RomValue}
use Rattle.romfs_image.specs.Paths.{path_text}
use Rattle.file_commands.specs.Texts.{joined}

-- a fault of an image: its number and its name; out of memory is none
abbrev pub rom_fault_words : RomFault → List ℕ
rom_fault_words fault.Short = codes "1 Short"
rom_fault_words fault.Magic = codes "2 Magic"
rom_fault_words fault.FullSize = codes "3 FullSize"
rom_fault_words fault.SuperSum = codes "4 SuperSum"
rom_fault_words fault.Volume = codes "5 Volume"
rom_fault_words fault.Header = codes "6 Header"
rom_fault_words fault.HeaderSum = codes "7 HeaderSum"
rom_fault_words fault.Name = codes "8 Name"
rom_fault_words fault.Order = codes "9 Order"
rom_fault_words fault.Range = codes "10 Range"
rom_fault_words fault.Repeated = codes "11 Repeated"
rom_fault_words fault.Link = codes "12 Link"
rom_fault_words fault.Memory = []

abbrev pub rom_tail : RomFault → List ℕ
rom_tail first = codes "rom " ++ rom_fault_words first

-- with the executable bit a file is a program
abbrev pub kind_word : RomKind → (exec : Bool) → List ℕ
kind_word Dir exec = codes "dir "
kind_word File exec = if exec then codes "program " else codes "file "

-- a folder has no size
abbrev pub size_text : RomKind → (size : ℕ) → List ℕ
size_text Dir size = codes "\n"
size_text File size = joined (codes " " ∷ decimal size ∷ codes "\n" ∷ [])

-- `dir PATH`, `file PATH SIZE` or `program PATH SIZE`
abbrev pub node_line : (path : List ℕ) → RomValue → List ℕ
node_line path n = kind_word n.kind n.exec ++ path ++ size_text n.kind (length n.bytes)

-- a line for each of these nodes, of which the first has this number among all of them
abbrev pub lines_from : (all : List RomValue) → (number : ℕ) → List RomValue → List ℕ
lines_from all number [] = []
lines_from all number (n ∷ nodes) = node_line (path_text all number) n ++ lines_from all (number + 1) nodes

-- `nodes K`
abbrev pub count_line : ℕ → List ℕ
count_line count = joined (codes "nodes " ∷ decimal count ∷ codes "\n" ∷ [])

abbrev pub image_listing : List RomValue → List ℕ
image_listing nodes = lines_from nodes 1 nodes ++ count_line (length nodes)

-- of an image with too many bytes
abbrev pub too_large_tail : List ℕ
too_large_tail = codes "too large"

-- of an image that was made: its nodes, and its bytes
abbrev pub image_line : (nodes size : ℕ) → List ℕ
image_line nodes size = joined (codes "romfs nodes " ∷ decimal nodes ∷ codes " size " ∷ decimal size ∷ codes "\n" ∷ [])
