use Rattle.std.proofs.Common.{◌≡◌, ◌+◌, ◌∷◌, ◌++◌, [], map, drop, get_or, sym, ap, ◌∙◌, subst, append_assoc, arith}
use Rattle.std.specs.Prelude.{reverse}
use Rattle.std.proofs.lemmas.List.{reverse-append, append-nil, drop_all}
use Rattle.romfs_image.specs.Text.{node_len, node_text, nodes_text, end_at}
use Rattle.romfs_image.specs.Code.{node_value, AreNamed, AreSmall}
use Rattle.romfs_image.proofs.Lengths.{no_node, nodes_from, named_at, ends_within, end_shift, no_text}
use Rattle.romfs_image.proofs.making.push_nodes.Goals as goal

pub push_node-requires-clause-bytes : goal.push_node-requires-clause-bytes
push_node-requires-clause-bytes c =
    let xs = c.args.nodes.now in
    let i = c.loop-node.node-index in
    omega (arith, ends_within xs i no_node 0 c.loop-node-test.true, (named_at xs i no_node c.loop-node-test.true c.loop-node.invariant.named).1, c.loop-node.invariant.fit)

pub loop-node-preserved : goal.loop-node-preserved
loop-node-preserved c =
    let xs = c.args.nodes.now in
    let i = c.loop-node.node-index in
    let v = node_value (get_or xs i no_node) in
    let rest = map node_value (drop (i + 1) xs) in
    let here = nodes_from xs i no_node c.loop-node-test.true in
    let ps = reverse c.pop.new.self.items in
    let place = c.in-Some.place in
    let popped : reverse c.loop-node.places.items ≡ place ∷ ps = ap reverse c.in-Some.ensures.items ∙ reverse-append c.pop.new.self.items (place ∷ []) in
    record {
      written = ap (λ o. o ++ nodes_text ps rest) c.in_ok-push_node.ensures
          ∙ append_assoc c.loop-node.out.items (node_text place v) (nodes_text ps rest)
          ∙ sym (ap (λ qs. c.loop-node.out.items ++ nodes_text qs (v ∷ rest)) popped)
          ∙ sym (ap (λ ns. c.loop-node.out.items ++ nodes_text (reverse c.loop-node.places.items) ns) here)
          ∙ c.loop-node.invariant.written;
      named = (subst AreNamed here c.loop-node.invariant.named).2;
      fit = omega (arith, end_shift (node_len v) 0 rest, ap (λ k. end_at k rest) (let e : 0 + node_len v ≡ node_len v + 0 = omega arith in e), ap (end_at 0) here, c.loop-node.invariant.fit);
      small = (subst AreSmall popped c.loop-node.invariant.small).2;
    }

pub returns : goal.returns
returns c =
    let out = c.loop-node.out.items in
    let ps = reverse c.loop-node.places.items in
    let past = ap (map node_value) (drop_all c.loop-node.node-index c.args.nodes.now c.loop-node-test.false) in
    sym (append-nil out) ∙ sym (ap (λ t. out ++ t) (ap (nodes_text ps) past ∙ no_text ps)) ∙ c.loop-node.invariant.written
