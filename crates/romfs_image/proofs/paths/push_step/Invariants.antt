-- The bytes so far.
use Rattle.std.proofs.Common.{◌≡◌, ◌++◌, take, string_bytes}
use Rattle.std.specs.List.{flat_map}
use Rattle.romfs_image.specs.Paths.{spelled_byte}
use Rattle.romfs_image.proofs.paths.push_step.Given as goal

abbrev pub invariant-loop-byte : goal.invariant-loop-byte
invariant-loop-byte l = string_bytes l.text ≡ string_bytes l.initial.text ++ flat_map spelled_byte (take l.byte-index l.name)
