-- Physical memory: a whole number of pages of 4096 bytes from address 0x80000000 on. It is seen as the
-- list of its bytes, the lowest address first.
use Rattle.std.specs.Prelude.{◌≡◌, ℕ, ◌+◌, ◌-◌, ◌*◌, ◌/◌, ◌^◌, ◌≤◌, List, length}

-- the number of pages, where all pages are whole
abbrev pub pages : List ℕ → ℕ
pages bytes = length bytes / 4096

-- 1 to 16384 whole pages
pub record IsMemory (bytes : List ℕ) : Type 0 where
  pub whole : length bytes ≡ 4096 * pages bytes
  pub some : 1 ≤ pages bytes
  pub most : pages bytes ≤ 16384

-- the place of an address in the list
abbrev pub place : ℕ → ℕ
place addr = addr - 2 ^ 31

-- the `len` bytes from an address on lie in memory
abbrev pub Within : List ℕ → ℕ → ℕ → Type 0
Within bytes addr len = (2 ^ 31 ≤ addr) × (addr + len ≤ 2 ^ 31 + length bytes)
