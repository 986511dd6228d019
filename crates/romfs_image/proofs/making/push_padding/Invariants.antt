use Rattle.std.proofs.Common.{◌≡◌, ◌++◌, replicate}
use Rattle.romfs_image.proofs.making.push_padding.Given as goal

abbrev pub invariant-loop : goal.invariant-loop
invariant-loop l = l.out.items ≡ l.fn.out.items ++ replicate l.counter 0
