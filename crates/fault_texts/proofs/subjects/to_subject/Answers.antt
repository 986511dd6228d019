-- The entry's section is one of the file.
use Rattle.elf32_reader.proofs.Places.{is_kept_below}
use Rattle.fault_texts.proofs.subjects.to_subject.Goals as goal

pub section-kept-requires : goal.section-kept-requires
section-kept-requires c = rw (c.elf.ensures.file) (is_kept_below c.args.sights.now c.args.entry.section c.requires.kept)
