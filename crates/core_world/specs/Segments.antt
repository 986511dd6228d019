-- The own bytes of a private space as the segments of a core file: maximal intervals of addresses all of which are own and may be
-- written, or all of which are own and may not.
use Rattle.std.specs.Prelude.{ℕ, zero, suc, ◌+◌, ◌*◌, ◌==◌, Bool, true, false, not, ◌&&◌, if◌then◌else◌, List, [], ◌∷◌, map, unwrap_or, Option, Some, None}
use Rattle.byte_words.specs.ByteMap.{Bytes}
use Rattle.call_log.specs.Sent.{bytes_from}
use Rattle.mmap_rules.specs.Space.{Space, memory_base, page_size, own_in, writable_in}
use Rattle.core_file.specs.Text.{SegmentValue}

-- so many own addresses from one on, which may be written or not
pub record Interval : Type 0 where
  pub addr : ℕ
  pub len : ℕ
  pub write : Bool

-- of one address: whether it may be written, where it is own
abbrev pub kind : (own writable : ℕ → Bool) → ℕ → Option Bool
kind own writable a = if own a then Some (writable a) else None

abbrev pub is_same : Bool → Bool → Bool
is_same true b = b
is_same false b = not b

-- the second one begins where the first one ends, and is of the same kind
abbrev pub goes_on : Interval → Interval → Bool
goes_on i j = i.addr + i.len == j.addr && is_same i.write j.write

-- an interval in front of higher ones: one with the first of them where that goes on from it
abbrev pub joined : Interval → List Interval → List Interval
joined i [] = i ∷ []
joined i (j ∷ js) = if goes_on i j then record i { len = i.len + j.len } ∷ js else i ∷ j ∷ js

-- an address of this kind in front of higher intervals
abbrev pub in_front : ℕ → Option Bool → List Interval → List Interval
in_front a None is = is
in_front a (Some write) is = joined (record { addr = a; len = 1; write = write }) is

-- of so many addresses from one on, ascending: each address in front of the intervals behind it
unfoldable pub intervals : (kind : ℕ → Option Bool) → (a n : ℕ) → List Interval
intervals kind a zero = []
intervals kind a (suc n) = in_front a (kind a) (intervals kind (a + 1) n)

abbrev pub segment_of : Bytes → Interval → SegmentValue
segment_of m i = record { addr = i.addr; write = i.write; bytes = unwrap_or (bytes_from m i.addr i.len) [] }

-- of a space in a memory of so many pages
unfoldable pub segments : (pages : ℕ) → Space → List SegmentValue
segments pages s = map (segment_of s.bytes) (intervals (kind (own_in s.maps) (writable_in s.maps)) memory_base (page_size * pages))
