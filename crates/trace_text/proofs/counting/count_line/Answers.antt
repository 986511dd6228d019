-- The pieces, one behind the other.
use Rattle.std.proofs.lemmas.List.{append_assoc}
use Rattle.trace_text.specs.Counts.{count_line}
use Rattle.trace_text.proofs.counting.count_line.Goals as goal

pub returns : goal.returns
unfolding count_line
returns c = rw (c.in_ok-push-2.ensures.items, c.in_ok-push_number-5.ensures, c.in_ok-push_number-4.ensures, c.in_ok-push_number-3.ensures, c.in_ok-push_number-2.ensures, c.in_ok-push_name.ensures, c.in_ok-push.ensures.items, c.in_ok-push_number.ensures, c.from.ensures, c.new-text.ensures.items) (simp append_assoc)
