-- Memory as a map of bytes, and accesses to it: RISC-V unprivileged ISA, "Memory" and "Load and Store
-- Instructions". Numbers are little-endian, and an access of any alignment is one access.
use Rattle.std.specs.Prelude.{ℕ, zero, suc, ◌+◌, ◌^◌, Bool, true, ◌&&◌, nat_le, is_some, if◌then◌else◌, Option, Some, None, Result, Ok, Err}
use Rattle.byte_words.specs.ByteMap.{Bytes, number, little_bytes, with_bytes}
use Rattle.byte_words.specs.declared.access.Access.{Access}
use Rattle.byte_words.specs.declared.access.AccessKind.TheVariants.{Fetch, Load, Store}

abbrev pub fetch_of : ℕ → Access
fetch_of pc = record { pc = pc; addr = pc; len = 4; kind = Fetch }

abbrev pub load_of : ℕ → ℕ → ℕ → Access
load_of pc addr len = record { pc = pc; addr = addr; len = len; kind = Load }

abbrev pub store_of : ℕ → ℕ → ℕ → Access
store_of pc addr len = record { pc = pc; addr = addr; len = len; kind = Store }

-- a number, or the access that was refused
abbrev pub or_refused : Access → Option ℕ → Result ℕ Access
or_refused access (Some n) = Ok n
or_refused access None = Err access

-- the number that a range spells; a range that passes 2^32 is outside every memory, which is a rule of this
-- project: the ISA's address space is circular
abbrev pub reading : Bytes → ℕ → ℕ → Option ℕ
reading m addr len = if nat_le (addr + len) (2 ^ 32) then number m addr len else None

-- what an access reads, if its range is in the map
unfoldable pub loaded : Bytes → Access → Result ℕ Access
loaded m access = or_refused access (reading m access.addr access.len)

-- `len` bytes from an address on are there and may be written
abbrev pub all_writable : Bytes → (ℕ → Bool) → ℕ → ℕ → Bool
all_writable m w addr zero = true
all_writable m w addr (suc len) = is_some (m addr) && w addr && all_writable m w (addr + 1) len

-- the map after an access wrote the lowest bytes of a number, or the access that was refused
unfoldable pub stored : Bytes → (ℕ → Bool) → Access → ℕ → Result Bytes Access
stored m w access n =
    if nat_le (access.addr + access.len) (2 ^ 32) && all_writable m w access.addr access.len then
    Ok (with_bytes m access.addr (little_bytes access.len n))
    else Err access
