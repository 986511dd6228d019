use Rattle.std.proofs.Common.{◌≡◌, false}
use Rattle.byte_words.specs.Search.{any_below}
use Rattle.flat_layout.specs.Rows.{ends_image}
use Rattle.flat_layout.proofs.rows.earlier_ends_image.Given as goal

abbrev pub invariant-loop-other : goal.invariant-loop-other
invariant-loop-other l = any_below (ends_image l.elf) l.other ≡ false
