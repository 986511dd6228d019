-- Laws of the format, each the contract of a public function.
use Rattle.std.specs.Prelude.{◌≡◌, ℕ, ◌<◌, ◌≤◌, true, false, List, [], ◌∷◌, length, map, slice_index, codes, Ok}
use Rattle.std.specs.List.{All}
use Rattle.romfs_image.specs.Header.{name_end, header_at}
use Rattle.romfs_image.specs.Walk.{Entry, walk, walked}
use Rattle.romfs_image.specs.Nodes.{RomValue}
use Rattle.romfs_image.specs.Reading.{rom_read}
use Rattle.romfs_image.specs.Text.{rom_text, most_bytes}
use Rattle.romfs_image.specs.Given.{AreNodes}

-- the walk over an image isn't cut short: with more steps it is the same
abbrev pub StepsSuffice : Type 0
StepsSuffice = (y : List ℕ) (steps : ℕ) → 0 < length y → length y ≤ steps → walk steps y 0 (record { at = name_end y 0; folder = 0 } ∷ []) [] ≡ walked y

-- what is written for nodes has no fault, and says these nodes
abbrev pub TextReads : Type 0
TextReads = (nodes : List RomValue) → AreNodes nodes → length (rom_text nodes) ≤ most_bytes → rom_read (rom_text nodes) ≡ Ok nodes

-- at a position stands a hard link of this name to the header at another one
pub record IsLink (y : List ℕ) (at : ℕ) (name : List ℕ) (to : ℕ) : Type 0 where
  pub kind : (header_at y at).kind ≡ 0
  pub exec : (header_at y at).exec ≡ false
  pub named : (header_at y at).name ≡ name
  pub info : (header_at y at).info ≡ to

-- the list of the folder whose header stands at `own` begins with `.`, a hard link to it, and `..`, one to its parent's
pub record HasDots (y : List ℕ) (own parent : ℕ) : Type 0 where
  pub one : IsLink y (header_at y own).info (codes ".") own
  pub two : IsLink y (header_at y (header_at y own).info).next (codes "..") parent

-- the root's header is the `.` of the root's list, and the root is its own parent
pub record IsRoot (y : List ℕ) (own : ℕ) : Type 0 where
  pub kind : (header_at y own).kind ≡ 1
  pub exec : (header_at y own).exec ≡ true
  pub named : (header_at y own).name ≡ codes "."
  pub info : (header_at y own).info ≡ own
  pub two : IsLink y (header_at y own).next (codes "..") own

-- where the headers of the folders of these numbers stand: the root's directly behind the volume name
abbrev pub headers_in : List ℕ → List Entry → List ℕ
headers_in y entries = name_end y 0 ∷ map (λ e. e.at) entries

-- the root, and each folder among these entries
pub record AreLed (y : List ℕ) (entries : List Entry) : Type 0 where
  pub root : IsRoot y (name_end y 0)
  pub folders : All (λ e. e.header.kind ≡ 1 → HasDots y e.at (slice_index (headers_in y entries) e.folder)) entries

-- in what is written for nodes each folder's list begins with `.` and `..`, which the walk passes over
abbrev pub DotsLead : Type 0
DotsLead = (nodes : List RomValue) (entries : List Entry) → AreNodes nodes → length (rom_text nodes) ≤ most_bytes → walked (rom_text nodes) ≡ Ok entries → AreLed (rom_text nodes) entries
