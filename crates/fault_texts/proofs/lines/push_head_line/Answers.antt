-- A fault of a section header speaks of that section.
use Rattle.std.proofs.lemmas.List.{append_assoc}
use Rattle.fault_texts.specs.Lines.{fault_line}
use Rattle.fault_texts.proofs.Headers.{section_found}
use Rattle.fault_texts.proofs.lines.push_head_line.Goals as goal

pub returns : goal.returns
unfolding fault_line
returns c = rw (c.in_ok-push.ensures.items, c.in_ok-push_head.ensures, c.in_ok-push_elf_fault.ensures, section_found c.args.heads.now c.args.section c.args.fault c.requires.fault) (simp append_assoc)
