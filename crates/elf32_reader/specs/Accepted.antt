-- What is known of a file that was read.
use Rattle.std.specs.Prelude.{◌≡◌, ℕ, ◌<◌, List, slice_index, None}
use Rattle.elf32_reader.specs.Faults.{elf_fault}

-- e is a list of bytes without a fault
pub record IsAccepted (e : List ℕ) : Type 0 where
  pub no_fault : elf_fault e ≡ None
  pub bytes : (k : ℕ) → slice_index e k < 256
