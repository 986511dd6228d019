-- The one text that is written for nodes: the superblock with the volume name `flatc`, the root's `.` and `..`, and the
-- nodes in their order, each header with its data right behind it.
use Rattle.std.specs.Prelude.{ℕ, ◌+◌, ◌-◌, ◌%◌, ◌^◌, Bool, ◌==◌, if◌then◌else◌, List, [], ◌∷◌, ◌++◌, length, take, replicate, codes, slice_index}
use Rattle.std.specs.List.{flat_map}
use Rattle.byteorder.specs.Endian.{big_bytes}
use Rattle.romfs_image.specs.declared.node.RomKind.{RomKind}
use Rattle.romfs_image.specs.declared.node.RomKind.TheVariants.{Dir, File}
use Rattle.romfs_image.specs.declared.place.Place.{Place}
use Rattle.romfs_image.specs.Words.{word_sum, padded}
use Rattle.romfs_image.specs.Nodes.{RomValue}

-- words one after the other, the highest byte of each first
abbrev pub words_text : List ℕ → List ℕ
words_text ns = flat_map (big_bytes 4) ns

-- the checksum that makes the sum of the words 0
abbrev pub balance : ℕ → ℕ
balance sum = (2 ^ 32 - sum % 2 ^ 32) % 2 ^ 32

-- zeros behind, to a multiple of 16
abbrev pub with_padding : List ℕ → List ℕ
with_padding bytes = bytes ++ replicate (padded (length bytes) - length bytes) 0

-- a name with its zero
abbrev pub name_text : List ℕ → List ℕ
name_text name = with_padding (name ++ 0 ∷ [])

-- a header; the word next has the type and the executable bit
unfoldable pub header_text : (next info size : ℕ) → (name : List ℕ) → List ℕ
header_text next info size name = words_text (next ∷ info ∷ size ∷ balance (next + info + size + word_sum (name_text name)) ∷ []) ++ name_text name

abbrev pub header_len : List ℕ → ℕ
header_len name = 16 + padded (length name + 1)

-- what stands behind a node's header: a file's bytes, a folder's `.` and `..`
abbrev pub behind_len : RomKind → List ℕ → ℕ
behind_len Dir bytes = 64
behind_len File bytes = padded (length bytes)

unfoldable pub node_len : RomValue → ℕ
node_len n = header_len n.name + behind_len n.kind n.bytes

-- the position of the first of these nodes in a folder, 0 where none is; they stand from `at` on
abbrev pub first_in : (folder at : ℕ) → List RomValue → ℕ
first_in folder at [] = 0
first_in folder at (n ∷ ns) = if n.parent == folder then at else first_in folder (at + node_len n) ns

-- type and executable bit of a file
abbrev pub file_bits : Bool → ℕ
file_bits exec = if exec then 10 else 2

-- the `.` and `..` of a folder, from position `at` on: hard links to its header and to that of its parent
unfoldable pub dots_text : (at own parent first : ℕ) → List ℕ
dots_text at own parent first = header_text (at + 32) own 0 (codes ".") ++ header_text first parent 0 (codes "..")

-- (`Place` is the code's: where a node's header stands, the next header of its folder, its folder's header, and the first
-- header of its own list behind `.` and `..`; 0 where none is.)
unfoldable pub node_text : Place → RomValue → List ℕ
node_text p n = text n.kind
  where
    text : RomKind → List ℕ
    text Dir = header_text (p.next + 9) (p.at + header_len n.name) 0 n.name ++ dots_text (p.at + header_len n.name) p.at p.parent p.first
    text File = header_text (p.next + file_bits n.exec) 0 (length n.bytes) n.name ++ with_padding n.bytes

abbrev pub nodes_text : List Place → List RomValue → List ℕ
nodes_text [] nodes = []
nodes_text (p ∷ ps) [] = []
nodes_text (p ∷ ps) (n ∷ ns) = node_text p n ++ nodes_text ps ns

-- where the nodes stand, the first one from `at` on, and where what is behind them would
abbrev pub positions : ℕ → List RomValue → List ℕ
positions at [] = []
positions at (n ∷ ns) = at ∷ positions (at + node_len n) ns

abbrev pub end_at : ℕ → List RomValue → ℕ
end_at at [] = at
end_at at (n ∷ ns) = end_at (at + node_len n) ns

-- the place of a node with this number, before others
abbrev pub place_at : (headers : List ℕ) → (number at : ℕ) → RomValue → List RomValue → Place
place_at headers number at n ns = record {
  at = at;
  next = first_in n.parent (at + node_len n) ns;
  parent = slice_index headers n.parent;
  first = first_in number (at + node_len n) ns;
}

-- the places of nodes, where the first one has this number and stands at `at`; `headers` are those of all folders by number
abbrev pub places : (headers : List ℕ) → (number at : ℕ) → List RomValue → List Place
places headers number at [] = []
places headers number at (n ∷ ns) = place_at headers number at n ns ∷ places headers (number + 1) (at + node_len n) ns

-- the headers by number: the root's stands at 32
abbrev pub headers_of : List RomValue → List ℕ
headers_of nodes = 32 ∷ positions 96 nodes

-- the root's list: `.` is the root's header, a folder at 32, and `..` a hard link to it
unfoldable pub list_text : List RomValue → List ℕ
list_text nodes =
    header_text (64 + 9) 32 0 (codes ".")
    ++ (header_text (first_in 0 96 nodes) 32 0 (codes "..") ++ nodes_text (places (headers_of nodes) 1 96 nodes) nodes)

-- the superblock, with a checksum
abbrev pub super_text : (full sum : ℕ) → List ℕ
super_text full sum = codes "-rom1fs-" ++ (words_text (full ∷ sum ∷ []) ++ name_text (codes "flatc"))

-- behind the superblock stands a list; the checksum is over the first 512 bytes
unfoldable pub image_text : List ℕ → List ℕ
image_text list = super_text (32 + length list) (balance (word_sum (take 512 (super_text (32 + length list) 0 ++ list)))) ++ list

unfoldable pub rom_text : List RomValue → List ℕ
rom_text nodes = image_text (list_text nodes)

-- the most bytes of an image that is made
abbrev pub most_bytes : ℕ
most_bytes = 67108864
