-- A fault of the header speaks of no section.
use Rattle.std.proofs.lemmas.List.{append_assoc}
use Rattle.fault_texts.specs.Lines.{fault_line}
use Rattle.fault_texts.proofs.Headers.{header_found}
use Rattle.fault_texts.proofs.lines.push_header_line.Goals as goal

pub returns : goal.returns
unfolding fault_line
returns c = rw (c.in_ok-push.ensures.items, c.in_ok-push_found.ensures, c.in_ok-push_elf_fault.ensures, header_found c.args.bytes.now c.args.fault c.requires) (simp append_assoc)
