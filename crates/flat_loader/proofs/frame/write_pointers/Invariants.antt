use Rattle.std.proofs.Common.{◌≡◌, ◌+◌, ◌*◌, [], ◌∷◌, ◌++◌, length, drop}
use Rattle.std.specs.Prelude.{flat_map}
use Rattle.byteorder.specs.Endian.{little_bytes}
use Rattle.byte_words.specs.Patches.{laid}
use Rattle.phys_mem.specs.Memory.{place}
use Rattle.flat_loader.specs.Frame.{texts, strings, pointers}
use Rattle.flat_loader.proofs.frame.write_pointers.Given as goal

-- the pointers that are left give what all give
abbrev pub invariant-loop-string : goal.invariant-loop-string
invariant-loop-string l = record {
  bytes :
      laid l.mem (place l.at) (flat_map (little_bytes 4) (pointers l.place (texts (drop l.string-index l.strings)) ++ 0 ∷ []))
      ≡ laid l.fn.mem (place l.fn.at) (flat_map (little_bytes 4) (pointers l.fn.place (texts l.strings) ++ 0 ∷ []));
  len : length l.mem ≡ length l.fn.mem;
  at : l.at ≡ l.fn.at + 4 * l.string-index;
  place : l.place + length (strings (texts (drop l.string-index l.strings))) ≡ l.fn.place + length (strings (texts l.strings));
}
