-- The own bytes that a table names in memory, as intervals and segments.
use Rattle.std.specs.Prelude.{ℕ, ◌+◌, ◌-◌, ◌≤◌, Bool, true, false, List, length, take, drop, Option}
use Rattle.mmap_rules.specs.declared.page_owner.PageOwner.{PageOwner}
use Rattle.mmap_rules.specs.Space.{memory_base}
use Rattle.mmap_rules.specs.Owners.{owns}
use Rattle.core_file.specs.Text.{SegmentValue}
use Rattle.core_world.specs.Segments.{Interval, kind}

-- whether an address may be written, where the table names it as own
abbrev pub kind_in : List PageOwner → ℕ → Option Bool
kind_in table = kind (owns table false) (owns table true)

-- the bytes of an interval of memory
abbrev pub segment_in : List ℕ → Interval → SegmentValue
segment_in mem i = record { addr = i.addr; write = i.write; bytes = take i.len (drop (i.addr - memory_base) mem) }

-- an interval lies in memory
pub record IsInside (mem : List ℕ) (i : Interval) : Type 0 where
  pub above : memory_base ≤ i.addr
  pub below : i.addr + i.len ≤ memory_base + length mem
