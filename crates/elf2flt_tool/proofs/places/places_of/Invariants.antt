use Rattle.std.proofs.Common.{◌≡◌, nat_lt, filter, slice_index}
use Rattle.std.specs.List.{range_with_len}
use Rattle.elf2flt_tool.proofs.places.places_of.Given as goal

-- the numbers so far at which a word begins
abbrev pub invariant-loop-place : goal.invariant-loop-place
invariant-loop-place l = l.places.items ≡ filter (λ q. nat_lt 0 (slice_index l.counts q)) (range_with_len 0 l.place)
