-- So far none is bad.
use Rattle.std.proofs.Common.{◌≡◌, false, take}
use Rattle.std.specs.List.{list_any}
use Rattle.manifest_text.specs.Lines.{is_bad_byte}
use Rattle.manifest_text.proofs.line.has_bad_byte.Given as goal

abbrev pub invariant-loop-byte : goal.invariant-loop-byte
invariant-loop-byte l = list_any is_bad_byte (take l.byte-index l.text) ≡ false
