-- One node after the other.
use Rattle.std.proofs.Common.{◌≤◌, ◌∙◌, length, map, arith}
use Rattle.std.proofs.lemmas.List.{length-map}
use Rattle.romfs_image.specs.Code.{node_value}
use Rattle.run_setup.specs.Making.{brought_value}
use Rattle.run_setup.proofs.ImageNodes.{open_mapped, goes_on, nodes_refused, all_nodes}
use Rattle.run_setup.proofs.bringing.RunFiles.add_nodes.Goals as goal

pub returns-in_err-add_node : goal.returns-in_err-add_node
returns-in_err-add_node c =
    nodes_refused (map node_value c.args.nodes.now) c.loop-index.index (brought_value c.loop-index.self) _ c.loop-index.invariant.rest _ (open_mapped node_value c.args.nodes.now c.loop-index.index _ c.loop-index-test.true)
    _ (c.deref.ensures.value ∙ c.in_ok-path.ensures) _ c.in_err-add_node.ensures c.args.self.now c.add_node.new.self _ c.from_residual-in_err-add_node.ensures.0 c.from_residual-in_err-add_node.ensures.1

pub loop-index-preserved : goal.loop-index-preserved
loop-index-preserved c = record {
  rest = goes_on (map node_value c.args.nodes.now) c.loop-index.index (brought_value c.loop-index.self) _ c.loop-index.invariant.rest _ (open_mapped node_value c.args.nodes.now c.loop-index.index _ c.loop-index-test.true)
      _ (c.deref.ensures.value ∙ c.in_ok-path.ensures) (brought_value c.add_node.new.self) c.in_ok-add_node.ensures.value;
  paths = c.in_ok-add_node.ensures.paths;
  few = c.in_ok-add_node.ensures.count;
}

pub returns : goal.returns
returns c =
    let all = map node_value c.args.nodes.now in
    let past : length all ≤ c.loop-index.index = omega (arith, length-map c.args.nodes.now node_value, c.loop-index-test.false) in
    record {
      value = all_nodes all c.loop-index.index (brought_value c.loop-index.self) _ c.loop-index.invariant.rest past;
      paths = c.loop-index.invariant.paths;
      count = c.loop-index.invariant.few;
    }
