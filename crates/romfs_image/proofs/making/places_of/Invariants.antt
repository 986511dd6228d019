use Rattle.std.proofs.Common.{◌≡◌, ◌+◌, ◌-◌, ◌≤◌, length, map, take, drop}
use Rattle.std.specs.Prelude.{reverse}
use Rattle.romfs_image.specs.Text.{end_at, places, most_bytes}
use Rattle.romfs_image.specs.Code.{node_value, HasHeads}
use Rattle.romfs_image.proofs.making.places_of.Given as goal

abbrev pub invariant-loop-behind : goal.invariant-loop-behind
invariant-loop-behind l = record {
  small : l.at ≤ most_bytes;
  before : l.at ≡ end_at 96 (map node_value (take (length l.nodes - l.behind) l.nodes));
  placed : reverse l.places.items ≡ places l.headers (length l.nodes - l.behind + 1) l.at (map node_value (drop (length l.nodes - l.behind) l.nodes));
  heads : HasHeads l.heads l.at (map node_value (drop (length l.nodes - l.behind) l.nodes));
}
