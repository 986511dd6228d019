-- A private space: what one program sees of memory. Linux, "No-MMU memory mapping support": every mapping holds a run of
-- whole pages, and a process may use just its own range of that run.
use Rattle.std.specs.Prelude.{ℕ, zero, suc, ◌+◌, ◌^◌, Bool, true, ◌&&◌, nat_le, nat_lt, List}
use Rattle.std.specs.List.{list_any}
use Rattle.byte_words.specs.ByteMap.{Bytes}
use Rattle.mmap_rules.specs.declared.mapping.Range.{Range}
use Rattle.mmap_rules.specs.declared.mapping.Mapping.{Mapping}

-- physical memory begins at this address, and has pages of so many bytes
abbrev pub memory_base : ℕ
memory_base = 2 ^ 31

abbrev pub page_size : ℕ
page_size = 4096

-- oldest first, the program's block at the head; the break and the area in which it moves, both ends included; and the
-- bytes of all own ranges
pub record Space : Type 0 where
  pub maps : List Mapping
  pub brk : ℕ
  pub brk_low : ℕ
  pub brk_high : ℕ
  pub bytes : Bytes

abbrev pub in_range : Range → ℕ → Bool
in_range r a = nat_le r.from a && nat_lt a (r.from + r.size)

-- the address is in an own range, and in one that may be written
unfoldable pub own_in : List Mapping → ℕ → Bool
own_in maps a = list_any (λ m. in_range m.range a) maps

unfoldable pub writable_in : List Mapping → ℕ → Bool
writable_in maps a = list_any (λ m. m.range.writes && in_range m.range a) maps

-- the mapping holds the page
abbrev pub has_page : ℕ → Mapping → Bool
has_page page m = nat_le m.first page && nat_lt page (m.first + m.pages)

-- all of a range passes the test: one of length 0 does, and one that passes 2^32 doesn't
abbrev pub all_pass : (ℕ → Bool) → ℕ → ℕ → Bool
all_pass test addr zero = true
all_pass test addr (suc len) = test addr && all_pass test (addr + 1) len

unfoldable pub may_use : (ℕ → Bool) → ℕ → ℕ → Bool
may_use test addr len = nat_le (addr + len) (2 ^ 32) && all_pass test addr len
