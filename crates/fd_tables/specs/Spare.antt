-- Open files as contracts see them.
use Rattle.std.specs.Prelude.{ℕ, ◌+◌, ◌-◌, ◌^◌, ◌≤◌, min, Vec, vec_len, vec_capacity}
use Rattle.fd_tables.specs.Files.{OpenFiles}

-- and how many files can be opened, and tables made, before memory is asked for
pub record SpareFiles : Type 0 where
  pub open_files : OpenFiles
  pub spare : ℕ
  pub spare_tables : ℕ

-- places behind the last one that need no memory
abbrev pub spare_places : {A Z : Type 0} → Vec A Z → ℕ
spare_places v = min (vec_capacity v) (2 ^ 32) - vec_len v

-- ---- what a call leaves of that memory

-- all of it, so that what was made ready stays so
abbrev pub KeepsSpare : SpareFiles → SpareFiles → Type 0
KeepsSpare old new = (old.spare ≤ new.spare) × (old.spare_tables ≤ new.spare_tables)

-- all but the place of one open file
abbrev pub UsesOneFile : SpareFiles → SpareFiles → Type 0
UsesOneFile old new = (old.spare ≤ new.spare + 1) × (old.spare_tables ≤ new.spare_tables)

-- all but the place of one table
abbrev pub UsesOneTable : SpareFiles → SpareFiles → Type 0
UsesOneTable old new = (old.spare ≤ new.spare) × (old.spare_tables ≤ new.spare_tables + 1)
