-- The pieces, one behind the other.
use Rattle.std.proofs.lemmas.List.{append_assoc}
use Rattle.trace_text.specs.Lines.{trace_line}
use Rattle.trace_text.proofs.lines.push_line.Goals as goal

pub returns : goal.returns
unfolding trace_line
returns c = rw (c.in_ok-push-3.ensures.items, c.in_ok-push_reply.ensures, c.in_ok-extend_from_slice.ensures.items, c.in_ok-push_args.ensures, c.deref.ensures.value, c.forms_of.ensures.forms, c.of.ensures, c.in_ok-push-2.ensures.items, c.in_ok-push_name.ensures, c.in_ok-push.ensures.items, c.in_ok-push_number.ensures, c.from.ensures) (simp append_assoc)
