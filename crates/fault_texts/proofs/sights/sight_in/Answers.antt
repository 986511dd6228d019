-- The index is that of the entry's table.
use Rattle.elf32_reader.proofs.Places.{is_kept_below}
use Rattle.fault_texts.proofs.sights.sight_in.Goals as goal

pub section-kept-requires : goal.section-kept-requires
section-kept-requires c = is_kept_below c.args.elf.now c.args.entry.section c.requires.kept
