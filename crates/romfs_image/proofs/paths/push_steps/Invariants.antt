-- What is written, and the names that are left.
use Rattle.std.proofs.Common.{◌≡◌, ◌+◌, ◌++◌, length, string_bytes}
use Rattle.std.specs.List.{flat_map}
use Rattle.romfs_image.specs.Paths.{step_text}
use Rattle.romfs_image.proofs.Ways.{taken}
use Rattle.romfs_image.proofs.paths.push_steps.Given as goal

abbrev pub invariant-loop : goal.invariant-loop
invariant-loop l = record {
  written : string_bytes l.text ++ flat_map step_text (taken l.names.items) ≡ string_bytes l.fn.text ++ flat_map step_text (taken l.fn.names.items);
  left : length l.names.items + l.counter ≡ length l.fn.names.items;
}
