-- So far each is one.
use Rattle.std.proofs.Common.{◌≡◌, true, take}
use Rattle.std.specs.List.{list_all}
use Rattle.items_text.specs.Pieces.{is_lower_digit}
use Rattle.items_text.proofs.pieces.all_lower_digits.Given as goal

abbrev pub invariant-loop-byte : goal.invariant-loop-byte
invariant-loop-byte l = list_all is_lower_digit (take l.byte-index l.text) ≡ true
