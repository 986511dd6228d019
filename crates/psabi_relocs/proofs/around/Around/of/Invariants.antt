use Rattle.std.proofs.Common.{◌≡◌}
use Rattle.psabi_relocs.proofs.SpotLists.{spots_of}
use Rattle.psabi_relocs.proofs.around.Around.of.Given as goal

-- the symbols so far
abbrev pub invariant-loop-index : goal.invariant-loop-index
invariant-loop-index l = l.spots.items ≡ spots_of l.elf l.table l.index
