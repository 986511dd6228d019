-- One node more, and its bytes.
use Rattle.std.proofs.Common.{◌≡◌, ◌+◌, None, Some, length, slice_get, slice_set, arith, ◌∙◌, ap}
use Rattle.std.proofs.lemmas.List.{length-set}
use Rattle.mem_files.specs.Inodes.{node_count, byte_count, bytes_in}
use Rattle.mem_files.proofs.Changing.{node_count-set, byte_count-set}
use Rattle.mem_files.proofs.tree.Tree.put.Goals as goal

pub invariant_of-self : goal.invariant_of-self
invariant_of-self c =
    let ns = c.self.inside.inodes.items in
    let place = ap (λ ms. slice_get ms c.args.id) c.self.view_is ∙ c.requires.place in
    let nodes : node_count (slice_set ns c.args.id (Some c.args.inode)) + 0 ≡ node_count ns + 1 = node_count-set ns c.args.id None (Some c.args.inode) place in
    let bytes : byte_count (slice_set ns c.args.id (Some c.args.inode)) + 0 ≡ byte_count ns + length (bytes_in c.args.inode.content) = byte_count-set ns c.args.id None (Some c.args.inode) place in
    (omega (arith, nodes, c.self.invariant.0), omega (arith, bytes, c.self.invariant.1, ap length c.bytes.ensures.bytes), rw c.self.view_is c.requires.fits, omega (arith, length-set ns c.args.id (Some c.args.inode), c.self.invariant.3))
