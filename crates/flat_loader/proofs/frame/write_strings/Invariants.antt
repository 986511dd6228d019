use Rattle.std.proofs.Common.{◌≡◌, ◌+◌, ◌≤◌, length, drop}
use Rattle.byte_words.specs.Patches.{laid}
use Rattle.phys_mem.specs.Memory.{place}
use Rattle.flat_loader.specs.Frame.{texts, strings}
use Rattle.flat_loader.proofs.frame.write_strings.Given as goal

-- the strings that are left give what all give
abbrev pub invariant-loop-string : goal.invariant-loop-string
invariant-loop-string l = record {
  bytes : laid l.mem (place l.at) (strings (texts (drop l.string-index l.strings))) ≡ laid l.fn.mem (place l.fn.at) (strings (texts l.strings));
  len : length l.mem ≡ length l.fn.mem;
  above : l.fn.at ≤ l.at;
  at : l.at + length (strings (texts (drop l.string-index l.strings))) ≡ l.fn.at + length (strings (texts l.strings));
}
