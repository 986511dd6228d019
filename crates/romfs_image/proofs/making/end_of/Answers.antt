use Rattle.std.proofs.Common.{arith}
use Rattle.romfs_image.proofs.Lengths.{no_node, ends_within, named_at}
use Rattle.romfs_image.proofs.making.end_of.Goals as goal

pub returns-then-node : goal.returns-then-node
returns-then-node c =
    let xs = c.args.nodes.now in
    let i = c.loop-node.node-index in
    omega (arith, ends_within xs i no_node c.loop-node.at c.loop-node-test.true, (named_at xs i no_node c.loop-node-test.true c.loop-node.invariant.named).1, c.if-node.true, c.loop-node.invariant.rest)

pub overflow_add-at : goal.overflow_add-at
overflow_add-at c = omega (arith, c.node_len-at.ensures.small, c.loop-node.invariant.small)

pub returns-then-at-gt-MOST_BYTES : goal.returns-then-at-gt-MOST_BYTES
returns-then-at-gt-MOST_BYTES c =
    omega (arith, ends_within c.args.nodes.now c.loop-node.node-index no_node c.loop-node.at c.loop-node-test.true, c.if-at-gt-MOST_BYTES.true, c.node_len-at.ensures.value, c.loop-node.invariant.rest)
