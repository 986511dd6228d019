use Rattle.std.proofs.Common.{◌≡◌, ◌+◌, ◌*◌, ◌%◌, ◌^◌, drop}
use Rattle.romfs_image.specs.Words.{word_sum}
use Rattle.romfs_image.proofs.header.sum_of.Given as goal

-- the sum so far and that of what is left
abbrev pub invariant-loop-index : goal.invariant-loop-index
invariant-loop-index l = (l.sum + word_sum (drop (4 * l.index) l.bytes)) % 2 ^ 32 ≡ word_sum l.bytes % 2 ^ 32
