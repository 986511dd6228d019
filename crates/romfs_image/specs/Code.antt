-- What contracts see of the code's types.
use Rattle.std.specs.Prelude.{◌≡◌, ℕ, Bool, List, [], ◌∷◌, ◌++◌, map, length, ◌≤◌, ◌+◌}
use Rattle.std.specs.List.{list_any}
use Rattle.std.specs.declared.cmp.Ordering.{Ordering}
use Rattle.std.specs.Ordering.{nat_cmp, ordering_then}
use Rattle.std.specs.Cmp.Lexicographic.{slice_cmp}
use Rattle.std.specs.Borrow.{Bor}
use Rattle.std.specs.BTreeSet as tree
use Rattle.std.specs.BTreeMap as heads_map
use Rattle.std.specs.Option.{unwrap_or}
use Rattle.romfs_image.specs.declared.header.Header as code
use Rattle.romfs_image.specs.declared.kind.HeaderKind.{HeaderKind}
use Rattle.romfs_image.specs.declared.kind.HeaderKind.TheVariants.{HardLink, Folder, File, SymbolicLink, BlockDevice, CharDevice, Socket, Fifo}
use Rattle.romfs_image.specs.declared.node.RomNode as node
use Rattle.romfs_image.specs.declared.level.Entry as code_entry
use Rattle.romfs_image.specs.declared.level.Level.{Level}
use Rattle.romfs_image.specs.Header.{Header}
use Rattle.romfs_image.specs.Walk.{Entry, is_named}
use Rattle.romfs_image.specs.Reading.{is_file_at, is_dangling}
use Rattle.romfs_image.specs.Nodes.{RomValue}
use Rattle.romfs_image.specs.declared.place.Place.{Place}
use Rattle.romfs_image.specs.Text.{node_len, first_in, place_at, most_bytes}

-- the number of a type
abbrev pub kind_number : HeaderKind → ℕ
kind_number HardLink = 0
kind_number Folder = 1
kind_number File = 2
kind_number SymbolicLink = 3
kind_number BlockDevice = 4
kind_number CharDevice = 5
kind_number Socket = 6
kind_number Fifo = 7

abbrev pub header_value : code.Header → Header
header_value h = record { next = h.next; kind = kind_number h.kind; exec = h.exec; info = h.info; size = h.size; name = h.name.now; body = h.body }

abbrev pub node_value : node.RomNode → RomValue
node_value n = record { parent = n.parent; name = n.name.now; kind = n.kind; bytes = n.bytes.now; exec = n.exec }

abbrev pub entry_value : code_entry.Entry → Entry
entry_value e = record { folder = e.folder; at = e.at; header = header_value e.header }

abbrev pub found : List code_entry.Entry → List Entry
found entries = map entry_value entries

-- where the walk stood for an entry
abbrev pub entry_level : code_entry.Entry → Level
entry_level e = record { at = e.at; folder = e.folder }

-- names by their folder, and then by their bytes
abbrev pub key_cmp : ℕ × Bor (List ℕ) → ℕ × Bor (List ℕ) → Ordering
key_cmp a b = ordering_then (nat_cmp a.0 b.0) (slice_cmp nat_cmp a.1.now b.1.now)

-- the set has the folder and the name of each of these entries, and nothing else
abbrev pub HasNames : tree.BTreeSet (ℕ × Bor (List ℕ)) → List Entry → Type 0
HasNames names entries = (key : ℕ × Bor (List ℕ)) → tree.contains key_cmp names key ≡ list_any (is_named key.0 key.1.now) entries

-- no header was taken yet, and nowhere is left to go on
pub record NothingTaken (named : tree.BTreeSet (ℕ × Bor (List ℕ))) (taken : List code_entry.Entry) (left : List Level) : Type 0 where
  pub names : HasNames named []
  pub entries : taken ≡ []
  pub levels : left ≡ []

-- the set has the positions of the files' headers, and nothing else
abbrev pub HasFiles : tree.BTreeSet ℕ → List Entry → Type 0
HasFiles files entries = (at : ℕ) → tree.contains nat_cmp files at ≡ list_any (is_file_at at) entries

-- with one more entry
abbrev pub AddsFile : (old new : tree.BTreeSet ℕ) → Entry → Type 0
AddsFile old new e = (entries : List Entry) → HasFiles old entries → HasFiles new (entries ++ e ∷ [])

-- the answer is whether this entry dangles, where the files are those of some entries
abbrev pub Dangles : tree.BTreeSet ℕ → Entry → Bool → Type 0
Dangles files e answer = (entries : List Entry) → HasFiles files entries → answer ≡ is_dangling entries e

-- each name has at most 255 bytes, and each node's length counts its bytes
abbrev pub AreNamed : List RomValue → Type 0
AreNamed [] = Unit {0}
AreNamed (n ∷ ns) = (length n.name ≤ 255) × (length n.bytes ≤ node_len n) × AreNamed ns

-- the map has the first header of each folder among these nodes
abbrev pub HasHeads : heads_map.BTreeMap ℕ ℕ → ℕ → List RomValue → Type 0
HasHeads heads at nodes = (folder : ℕ) → unwrap_or (heads_map.get nat_cmp heads folder) 0 ≡ first_in folder at nodes

-- the node has its place before any nodes whose first headers the map has, and the map then has its header too
abbrev pub Places : (headers : List ℕ) → (old new : heads_map.BTreeMap ℕ ℕ) → (number at : ℕ) → RomValue → Place → Type 0
Places headers old new number at n place = (ns : List RomValue) → HasHeads old (at + node_len n) ns → (place ≡ place_at headers number at n ns) × HasHeads new at (n ∷ ns)

-- positions that have room for a type and for a header more
abbrev pub AreSmall : List Place → Type 0
AreSmall [] = Unit {0}
AreSmall (p ∷ ps) = (p.at ≤ most_bytes) × (p.next ≤ most_bytes) × AreSmall ps
