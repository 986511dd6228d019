-- What is left gives what all nodes give.
use Rattle.std.proofs.Common.{◌≡◌, ◌+◌, drop, map}
use Rattle.romfs_image.specs.Code.{node_value}
use Rattle.run_setup.specs.Brought.{nodes_brought}
use Rattle.run_setup.specs.Making.{HasPaths, HasNodes, brought_value}
use Rattle.run_setup.proofs.bringing.RunFiles.add_nodes.Given as goal

abbrev pub invariant-loop-index : goal.invariant-loop-index
invariant-loop-index l =
    let all = map node_value l.nodes in
    record {
      rest : nodes_brought all (l.index + 1) (drop l.index all) (brought_value l.self) ≡ nodes_brought all 1 all (brought_value l.fn.self);
      paths : HasPaths l.self;
      few : HasNodes l.self;
    }
