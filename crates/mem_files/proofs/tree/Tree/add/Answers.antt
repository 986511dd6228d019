-- One node more, and its bytes.
use Rattle.std.proofs.Common.{◌≡◌, ◌+◌, length, ap, ◌∙◌, subst, sym, arith, rules}
use Rattle.mem_files.specs.Inodes.{Fits, node_count, byte_count}
use Rattle.mem_files.specs.Changes.{with_new}
use Rattle.mem_files.proofs.Limits.{nodes_new, bytes_new, length-with_new}
use Rattle.mem_files.proofs.tree.Tree.add.Goals as goal

pub invariant_of-self-2 : goal.invariant_of-self-2
invariant_of-self-2 c =
    let ns = c.args.self.now in
    let made : c.push.new.self.items ≡ with_new ns c.args.place.folder c.args.place.name.now c.args.inode = search rules in
    let nodes : node_count c.push.new.self.items ≡ node_count ns + 1 = ap node_count made ∙ nodes_new ns c.args.place.folder c.args.place.name.now c.args.inode in
    let bytes = ap byte_count made ∙ bytes_new ns c.args.place.folder c.args.place.name.now c.args.inode in
    let len = ap length made ∙ length-with_new ns c.args.place.folder c.args.place.name.now c.args.inode in
    let seen = c.self.view_is in
    (omega (arith, nodes, c.self.invariant.0, ap node_count seen), omega (arith, bytes, c.self.invariant.1, ap byte_count seen, ap length c.bytes.ensures.bytes), subst Fits (sym made) c.requires.fits, omega (arith, len, ap length seen, c.if-len.false, c.len.ensures))
