-- The start of the name tells it.
use Rattle.elf32_reader.specs.Names.{section_name}
use Rattle.fault_texts.specs.Symbols.{section_text}
use Rattle.fault_texts.proofs.Starts.{name_or_start}
use Rattle.fault_texts.proofs.lines.push_head_name.Goals as goal

pub returns : goal.returns
unfolding section_text
returns c = rw (c.section_name_start.ensures, name_or_start 0x23 c.args.index (section_name c.args.heads.now c.args.index)) at c.push_name_or.ensures
