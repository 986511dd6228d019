-- The faults are those of the file.
use Rattle.fault_texts.proofs.InFile.{read_same}
use Rattle.fault_texts.proofs.EntriesIn.{read_in}
use Rattle.fault_texts.proofs.listings.listing.Goals as goal

pub push_read-requires : goal.push_read-requires
push_read-requires c = read_same c.in-Ok.elf c.args.bytes.now c.args.found.now c.in-Ok.ensures.1 (read_in c.args.bytes.now c.args.found.now c.in-Ok.ensures.0 c.requires)
