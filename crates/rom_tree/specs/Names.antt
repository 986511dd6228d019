-- Which trees have names that an image can have.
use Rattle.std.specs.Prelude.{◌≡◌, ℕ, ◌==◌, Bool, true, not, ◌&&◌, nat_lt, nat_le, List, length}
use Rattle.std.specs.List.{AllByRecursion, list_all}
use Rattle.mem_files.specs.Inodes.{Entry, Inodes, entries_of}
use Rattle.romfs_image.specs.Fault.{is_dots}

-- no byte is zero
abbrev pub IsClear : List ℕ → Type 0
IsClear bytes = list_all (λ b. not (b == 0)) bytes ≡ true

-- 1 to 255 bytes, none of them zero or a slash, and neither `.` nor `..`
unfoldable pub can_be_written : List ℕ → Bool
can_be_written name = nat_lt 0 (length name) && nat_le (length name) 255 && list_all (λ b. not (b == 0) && not (b == 47)) name && not (is_dots name)

-- each name of each folder
abbrev pub CanBeWritten : Inodes → Type 0
CanBeWritten ns = (id : ℕ) → AllByRecursion (λ (e : Entry). can_be_written e.name ≡ true) (entries_of ns id)
