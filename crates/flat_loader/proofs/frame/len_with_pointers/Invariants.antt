use Rattle.std.proofs.Common.{◌≡◌, ◌+◌, ◌*◌, ◌-◌, ◌^◌, ◌<◌, length, drop, min}
use Rattle.flat_loader.specs.Frame.{texts, strings}
use Rattle.flat_loader.proofs.frame.len_with_pointers.Given as goal

-- the strings that are left give the length of all
abbrev pub invariant-loop-string : goal.invariant-loop-string
invariant-loop-string l = record {
  len :
      min (l.len + (4 * (length l.strings - l.string-index) + length (strings (texts (drop l.string-index l.strings))))) (2 ^ 64 - 1)
      ≡ min (4 * length l.strings + length (strings (texts l.strings))) (2 ^ 64 - 1);
  fits : l.len < 2 ^ 64;
}
