-- The hole writes the digits with zeros in prefix.
use Rattle.std.proofs.Common.{false}
use Rattle.std.specs.Fmt.{digits}
use Rattle.file_commands.proofs.Addresses.{padded_address}
use Rattle.file_commands.proofs.texts.address_words.Goals as goal

pub returns : goal.returns
returns c = let h = rw c.laid_out.ensures at c.format.ensures.ok in let k = rw c.in_radix.ensures at h in rw (padded_address (digits 16 false c.args.address)) at k
