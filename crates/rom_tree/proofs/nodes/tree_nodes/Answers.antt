-- A node is taken, or nothing waits any more.
use Rattle.std.proofs.Common.{◌≡◌, ◌≤◌, [], rules, arith}
use Rattle.mem_files.specs.Inodes.{most_nodes}
use Rattle.rom_tree.specs.Nodes.{tree_nodes}
use Rattle.rom_tree.proofs.Steps.{goes_on, bytes_more, ended, all_taken}
use Rattle.rom_tree.proofs.Order.{order_of}
use Rattle.rom_tree.proofs.nodes.tree_nodes.Goals as goal

pub returns-in_default-clause-nodes : goal.returns-in_default-clause-nodes
unfolding tree_nodes
returns-in_default-clause-nodes c =
    let none : c.loop-taken.waiting.items ≡ [] = search rules in
    ended c.args.tree.now _ _ c.loop-taken.waiting.items _ _ none c.loop-taken.invariant.rest

pub returns-in_default-clause-order : goal.returns-in_default-clause-order
returns-in_default-clause-order c =
    let none : c.loop-taken.waiting.items ≡ [] = search rules in
    order_of c.args.tree.now c.requires.tree c.requires.names _ (ended c.args.tree.now _ _ c.loop-taken.waiting.items _ _ none c.loop-taken.invariant.rest) c.loop-taken.invariant.bytes

pub loop-taken-preserved : goal.loop-taken-preserved
loop-taken-preserved c = record {
  rest = goes_on c.args.tree.now most_nodes c.loop-taken.taken c.loop-taken.waiting.items c.pop.new.self.items c.in-Some.next _ c.loop-taken.nodes.items c.push.new.self.items c.node_of.result _ c.loop-taken-test.true
      c.in-Some.ensures.items c.in_ok-push.ensures.items c.node_of.ensures.value c.in_ok-push_entries-2.ensures c.loop-taken.invariant.rest;
  bytes = bytes_more c.loop-taken.nodes.items c.push.new.self.items c.node_of.result c.in_ok-push.ensures.items c.loop-taken.invariant.bytes c.node_of.ensures.bytes;
}

pub returns-clause-order : goal.returns-clause-order
returns-clause-order c =
    let past : most_nodes ≤ c.loop-taken.taken = omega (arith, c.loop-taken-test.false) in
    order_of c.args.tree.now c.requires.tree c.requires.names _ (all_taken c.args.tree.now most_nodes c.loop-taken.taken _ _ _ _ past c.loop-taken.invariant.rest) c.loop-taken.invariant.bytes
