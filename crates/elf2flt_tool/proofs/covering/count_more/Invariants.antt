use Rattle.std.proofs.Common.{◌≡◌, ℕ, ◌+◌, ◌&&◌, nat_le, nat_lt, min, slice_index, if◌then◌else◌}
use Rattle.elf2flt_tool.proofs.covering.count_more.Given as goal

-- the bytes below this one are counted
abbrev pub invariant-loop-byte : goal.invariant-loop-byte
invariant-loop-byte l =
    (b : ℕ) → slice_index l.counts b
    ≡ (if nat_le l.fn.from b && nat_lt b l.byte then min 2 (slice_index l.fn.counts b + 1) else slice_index l.fn.counts b)
