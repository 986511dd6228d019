-- The pieces, one behind the other.
use Rattle.std.proofs.lemmas.List.{append_assoc}
use Rattle.call_log.proofs.lines.push_stray.Goals as goal

pub returns : goal.returns
returns c = rw (c.in_ok-push-2.ensures.items, c.in_ok-extend_from_slice.ensures.items, c.as_bytes.ensures.value, c.kind_text.ensures, c.in_ok-push.ensures.items, c.in_ok-push_number-2.ensures, c.in_ok-push_hex-2.ensures, c.in_ok-push_hex.ensures, c.in_ok-push_number.ensures) (simp append_assoc)
