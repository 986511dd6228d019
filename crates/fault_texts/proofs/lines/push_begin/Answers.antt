-- The section that has the byte where the program begins.
use Rattle.std.proofs.lemmas.List.{append_assoc, append-nil}
use Rattle.fault_texts.proofs.InTable.{found_below}
use Rattle.fault_texts.proofs.lines.push_begin.Goals as goal

pub push_section_or_outside-requires : goal.push_section_or_outside-requires
push_section_or_outside-requires c = found_below _ _ _ c.section_at.ensures

pub returns : goal.returns
returns c = rw (c.in_ok-push_section_or_outside.ensures, c.in_ok-push_address.ensures, c.section_at.ensures, c.entry-begin.ensures.entry) (simp (append_assoc, append-nil))
