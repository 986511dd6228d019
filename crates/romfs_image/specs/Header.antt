-- A header (romfs.rst, "file header"): the words next, info, size and checksum, then the name with a zero, padded to
-- 16, and behind it the data. The superblock's volume name stands where the name of a header at 0 would.
use Rattle.std.specs.Prelude.{ℕ, ◌+◌, ◌*◌, ◌-◌, ◌/◌, ◌%◌, Bool, ◌==◌, List, length, take, drop}
use Rattle.std.specs.List.{before_first}
use Rattle.romfs_image.specs.Words.{big_at, padded}

pub record Header : Type 0 where
  -- the position of the next header of the folder, 0 at its end; the low four bits of the word aren't part of it
  pub next : ℕ
  -- 0 hard link, 1 folder, 2 file
  pub kind : ℕ
  pub exec : Bool
  -- a folder's first header, or the header that a hard link names; its low four bits aren't part of it
  pub info : ℕ
  -- in bytes
  pub size : ℕ
  pub name : List ℕ
  -- the position of a file's bytes
  pub body : ℕ

-- the bytes before the first zero from 16 behind `at` on, or all of them
unfoldable pub name_at : List ℕ → ℕ → List ℕ
name_at y at = before_first (λ b. b == 0) (drop (at + 16) y)

-- the position behind the name with its zero and padding; it passes the end where no zero is there
unfoldable pub name_end : List ℕ → ℕ → ℕ
name_end y at = at + 16 + padded (length (name_at y at) + 1)

-- the bytes from the header's start to the end of its name
unfoldable pub header_bytes : List ℕ → ℕ → List ℕ
header_bytes y at = take (name_end y at - at) (drop at y)

unfoldable pub header_at : List ℕ → ℕ → Header
header_at y at = record {
  next = big_at y at / 16 * 16;
  kind = big_at y at % 8;
  exec = big_at y at / 8 % 2 == 1;
  info = big_at y (at + 4) / 16 * 16;
  size = big_at y (at + 8);
  name = name_at y at;
  body = name_end y at;
}

-- the bytes of a file
unfoldable pub file_bytes : List ℕ → Header → List ℕ
file_bytes y h = take h.size (drop h.body y)
