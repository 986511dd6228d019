use Rattle.std.proofs.Common.{◌≡◌, ◌≤◌, ◌++◌, map, drop}
use Rattle.std.specs.Prelude.{reverse}
use Rattle.romfs_image.specs.Text.{end_at, nodes_text, most_bytes}
use Rattle.romfs_image.specs.Code.{node_value, AreNamed, AreSmall}
use Rattle.romfs_image.proofs.making.push_nodes.Given as goal

abbrev pub invariant-loop-node : goal.invariant-loop-node
invariant-loop-node l = record {
  written : l.out.items ++ nodes_text (reverse l.places.items) (map node_value (drop l.node-index l.nodes)) ≡ l.fn.out.items ++ nodes_text (reverse l.fn.places.items) (map node_value l.nodes);
  named : AreNamed (map node_value (drop l.node-index l.nodes));
  fit : end_at 0 (map node_value (drop l.node-index l.nodes)) ≤ most_bytes;
  small : AreSmall (reverse l.places.items);
}
