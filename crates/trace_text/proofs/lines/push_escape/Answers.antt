-- The digits of the byte behind the two signs.
use Rattle.std.proofs.lemmas.List.{append_assoc}
use Rattle.trace_text.proofs.Digits.{byte_text}
use Rattle.trace_text.proofs.lines.push_escape.Goals as goal

pub returns : goal.returns
returns c = rw (c.in_ok-push_bytes.ensures, c.in_ok-extend_from_slice.ensures.items, byte_text c.args.byte c.ranges.byte.fits) (simp append_assoc)
