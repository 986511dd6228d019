-- The pieces, one behind the other.
use Rattle.std.proofs.lemmas.List.{append_assoc}
use Rattle.items_text.proofs.writing.push_space_line.Goals as goal

pub returns : goal.returns
returns c = rw (c.in_ok-push.ensures.items, c.in_ok-push_decimal-3.ensures, c.in_ok-extend_from_slice-4.ensures.items, c.in_ok-push_decimal-2.ensures, c.from-2.ensures, c.in_ok-extend_from_slice-3.ensures.items, c.in_ok-push_word.ensures, c.in_ok-extend_from_slice-2.ensures.items, c.in_ok-push_decimal.ensures, c.from.ensures, c.in_ok-extend_from_slice.ensures.items) (simp append_assoc)
