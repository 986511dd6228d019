use Rattle.std.proofs.Common.{rules}
use Rattle.romfs_image.proofs.walk.walk.Goals as goal

pub take_all-requires-clause-nothing : goal.take_all-requires-clause-nothing
take_all-requires-clause-nothing c = record { names = search rules; entries = search rules; levels = search rules }
