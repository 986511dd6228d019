-- The walk over an image: a header, then its list if it is a folder, then the header that its next names.
use Rattle.std.specs.Prelude.{ℕ, zero, suc, ◌+◌, Bool, ◌&&◌, ◌==◌, if◌then◌else◌, List, [], ◌∷◌, ◌++◌, length, bytes_eq, Option, Some, None, Result, Ok, Err}
use Rattle.std.specs.List.{list_any}
use Rattle.romfs_image.specs.declared.fault.RomFault.{RomFault}
use Rattle.romfs_image.specs.declared.fault.RomFault.TheVariants as fault
use Rattle.romfs_image.specs.declared.level.Level.{Level}
use Rattle.romfs_image.specs.Header.{Header, header_at, name_end}
use Rattle.romfs_image.specs.Fault.{is_node, header_fault}

-- a header that isn't passed over, with its position and the number of its folder: 0 for the root, else that of the
-- folder among these entries, from 1
pub record Entry : Type 0 where
  pub folder : ℕ
  pub at : ℕ
  pub header : Header

-- (A `Level` is the code's: a position where the walk goes on, and the number of the folder there.) The walk goes on
-- at a position too, unless that is 0
abbrev pub pending : ℕ → ℕ → List Level → List Level
pending at folder levels = if at == 0 then levels else record { at = at; folder = folder } ∷ levels

-- what is left behind a header: its list, if it is a folder, which is then entry `number`; the rest of its own list
abbrev pub levels_behind : Header → (folder number : ℕ) → List Level → List Level
levels_behind h folder number levels =
    if is_node h && h.kind == 1 then pending h.info number (pending h.next folder levels) else pending h.next folder levels

-- what has been found behind a header
abbrev pub entries_behind : Header → Level → List Entry → List Entry
entries_behind h level found = if is_node h then found ++ record { folder = level.folder; at = level.at; header = h } ∷ [] else found

-- an entry of this name in this folder
unfoldable pub is_named : ℕ → List ℕ → Entry → Bool
is_named folder name e = e.folder == folder && bytes_eq e.header.name name

-- 11: a second header of one name in one folder
unfoldable pub repeat_fault : ℕ → Header → List Entry → Option RomFault
repeat_fault folder h found = if is_node h && list_any (is_named folder h.name) found then Some fault.Repeated else None

-- the fault where there is one, else the other
abbrev pub or_else : Option RomFault → Option RomFault → Option RomFault
or_else None other = other
or_else (Some f) other = Some f

abbrev pub unless : Option RomFault → Result (List Entry) RomFault → Result (List Entry) RomFault
unless None walked = walked
unless (Some f) walked = Err f

-- 6 to 11
abbrev pub fault_at : List ℕ → ℕ → Level → List Entry → Option RomFault
fault_at y before level found = or_else (header_fault y before level.at) (repeat_fault level.folder (header_at y level.at) found)

-- The walk from where it stands: behind the header at `before`, with these levels to go on at, the next one first.
-- Each step takes a header behind the last one, so it is over in fewer steps than the image has bytes.
abbrev pub walk : (steps : ℕ) → List ℕ → (before : ℕ) → List Level → (found : List Entry) → Result (List Entry) RomFault
walk steps y before [] found = Ok found
walk zero y before (level ∷ levels) found = Ok found
walk (suc steps) y before (level ∷ levels) found =
    unless (fault_at y before level found)
    (walk steps y level.at (levels_behind (header_at y level.at) level.folder (length found + 1) levels) (entries_behind (header_at y level.at) level found))

-- the walk over the whole image: the root's list begins directly behind the volume name
unfoldable pub walked : List ℕ → Result (List Entry) RomFault
walked y = walk (length y) y 0 (record { at = name_end y 0; folder = 0 } ∷ []) []
