-- What is written, and the names that are left.
use Rattle.std.proofs.Common.{◌≡◌, ◌+◌, ◌∷◌, ◌++◌, length}
use Rattle.std.specs.List.{flat_map}
use Rattle.mem_files.specs.Paths.{slash}
use Rattle.romfs_image.proofs.Ways.{taken}
use Rattle.rom_tree.proofs.paths.push_names.Given as goal

abbrev pub invariant-loop : goal.invariant-loop
invariant-loop l = record {
  written : l.path.items ++ flat_map (λ name. slash ∷ name) (taken l.names.items) ≡ l.fn.path.items ++ flat_map (λ name. slash ∷ name) (taken l.fn.names.items);
  left : length l.names.items + l.counter ≡ length l.fn.names.items;
}
