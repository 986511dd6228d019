-- The hole writes the digits with zeros in front.
use Rattle.std.proofs.Common.{false}
use Rattle.std.specs.Fmt.{digits}
use Rattle.romfs_image.proofs.Digits.{padded_byte}
use Rattle.romfs_image.proofs.paths.push_escape.Goals as goal

pub returns : goal.returns
returns c = let h = rw c.laid_out.ensures at c.write.ensures.bytes in let k = rw c.in_radix.ensures at h in rw (padded_byte (digits 16 false c.args.byte)) at k
