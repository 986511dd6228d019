use Rattle.std.proofs.Common.{◌≡◌, ◌++◌, map, take}
use Rattle.elf2flt_tool.specs.Faults.{overlap_at}
use Rattle.elf2flt_tool.proofs.by_place.add_overlaps.Given as goal

-- the words so far
abbrev pub invariant-loop-word : goal.invariant-loop-word
invariant-loop-word l = l.faults.items ≡ l.fn.faults.items ++ map (overlap_at l.layout) (take l.word-index l.words)
