use Rattle.std.proofs.Common.{◌≡◌, filter, map, take}
use Rattle.elf2flt_tool.specs.Word.{lowest, places, points_outside, word_at}
use Rattle.elf2flt_tool.proofs.target.lowest_outside.Given as goal

-- the least of the places so far
abbrev pub invariant-loop-place : goal.invariant-loop-place
invariant-loop-place l = l.least ≡ lowest (places (filter (points_outside l.size) (map (word_at l.layout l.image) (take l.place-index l.places))))
