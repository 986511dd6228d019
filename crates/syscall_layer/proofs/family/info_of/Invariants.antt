-- The bytes of the words so far.
use Rattle.std.proofs.Common.{◌≡◌, take}
use Rattle.std.specs.Prelude.{flat_map}
use Rattle.byteorder.specs.Endian.{little_bytes}
use Rattle.syscall_layer.proofs.family.info_of.Given as goal

abbrev pub invariant-loop-word : goal.invariant-loop-word
invariant-loop-word l = l.info.items ≡ flat_map (little_bytes 4) (take l.word-index l.word-items)
