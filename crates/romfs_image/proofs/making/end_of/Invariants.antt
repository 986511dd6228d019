use Rattle.std.proofs.Common.{◌≡◌, ◌≤◌, map, drop}
use Rattle.romfs_image.specs.Text.{end_at, most_bytes}
use Rattle.romfs_image.specs.Code.{node_value, AreNamed}
use Rattle.romfs_image.proofs.making.end_of.Given as goal

abbrev pub invariant-loop-node : goal.invariant-loop-node
invariant-loop-node l = record {
  rest : end_at l.at (map node_value (drop l.node-index l.nodes)) ≡ end_at 96 (map node_value l.nodes);
  named : AreNamed (map node_value (drop l.node-index l.nodes));
  small : l.at ≤ most_bytes;
}
