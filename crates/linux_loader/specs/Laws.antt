-- What Linux leaves of a flat file. y is a file, args the bytes of the arguments, k a page.
use Rattle.std.specs.Prelude.{◌≡◌, ℕ, ◌+◌, ◌%◌, ◌^◌, ◌<◌, ◌≤◌, List, Option, None, unwrap_or}
use Rattle.byte_words.specs.Numbers.{IsBytes}
use Rattle.bflt_format.specs.Header.{entry, data_end, reloc_start, reloc_count, flat_values}
use Rattle.bflt_format.specs.Fault.{flat_fault}
use Rattle.bflt_format.specs.Image.{flat_image}
use Rattle.linux_loader.specs.Loader.{Process, Loaded, run_len, linux}

-- the run of pages at k ends in memory of 32-bit addresses, and the arguments have at most 2^27 bytes
pub record IsPlaced (y : List ℕ) (args k : ℕ) : Type 0 where
  pub page : k % 4096 ≡ 0
  pub end : k + run_len y args ≤ 2 ^ 32
  pub args_fit : args ≤ 2 ^ 27

-- Linux loads the file. Behind the header the run holds an image, and zeros where the image has no byte; the program starts
-- at `start`
pub record LoadsAs (y : List ℕ) (args k : ℕ) (picture : ℕ → Option ℕ) (start : ℕ) : Type 0 where
  pub process : Process
  pub loaded : linux y args k ≡ Loaded process
  pub bytes : (a : ℕ) → k + 64 ≤ a → a < k + run_len y args → process.memory a ≡ unwrap_or (picture a) 0
  pub entry : process.entry ≡ start

-- what of a file without a fault Linux wants besides: the records right behind the data, and an entry of 24 bits
pub record IsForLinux (y : List ℕ) : Type 0 where
  pub records : 0 < reloc_count y → reloc_start y ≡ data_end y
  pub entry : entry y < 2 ^ 24

-- a flat file without a fault
abbrev pub FlatFilesLoad : Type 0
FlatFilesLoad = (y : List ℕ) (args k : ℕ) → IsBytes y → flat_fault y ≡ None → IsForLinux y → IsPlaced y args k → LoadsAs y args k (flat_image (flat_values y) (k + 64)) (k + entry y)
