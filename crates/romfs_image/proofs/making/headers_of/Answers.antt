use Rattle.std.proofs.Common.{arith}
use Rattle.romfs_image.proofs.Lengths.{no_node, ends_within, named_at}
use Rattle.romfs_image.proofs.making.headers_of.Goals as goal

pub node_len-at-requires-clause-bytes : goal.node_len-at-requires-clause-bytes
node_len-at-requires-clause-bytes c =
    let xs = c.args.nodes.now in
    let i = c.loop-node.node-index in
    omega (arith, ends_within xs i no_node c.loop-node.at c.loop-node-test.true, (named_at xs i no_node c.loop-node-test.true c.loop-node.invariant.named).1, c.loop-node.invariant.rest, c.requires.fit)

pub overflow_add-at : goal.overflow_add-at
overflow_add-at c =
    omega (arith, ends_within c.args.nodes.now c.loop-node.node-index no_node c.loop-node.at c.loop-node-test.true, c.node_len-at.ensures.value, c.loop-node.invariant.rest, c.requires.fit)
