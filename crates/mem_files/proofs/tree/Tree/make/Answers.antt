-- A new node fits, or there is no space.
use Rattle.std.proofs.Common.{◌≡◌, ◌+◌, ◌<◌, ◌≤◌, Ok, Err, ◌⊎◌, inl, inr, length, refl, sym, ap, subst, ◌∙◌, arith, rules}
use Rattle.call_log.specs.declared.errno.Errno.TheVariants.{Enospc}
use Rattle.mem_files.specs.declared.fault.FileFault.TheVariants.{Errno, Memory}
use Rattle.mem_files.specs.Inodes.{Fits, node_count, byte_count, bytes_in, new_inode, most_nodes, most_of_all}
use Rattle.mem_files.specs.Calls.{Makes}
use Rattle.mem_files.specs.Changes.{with_new}
use Rattle.mem_files.specs.Stored.{content_value}
use Rattle.mem_files.specs.Walks.{place_value}
use Rattle.mem_files.proofs.Limits.{fits_new, made_so, made_past}
use Rattle.mem_files.proofs.tree.Tree.make.Goals as goal
use Rattle.mem_files.proofs.tree.Tree.make.Goals.{then-self-ge-MOST_NODES-via-then-self-ge-MOST_NODES, then-self-ge-MOST_NODES-via-else-self-ge-MOST_NODES+then-len-self}

pub returns-then-self-ge-MOST_NODES : goal.returns-then-self-ge-MOST_NODES
returns-then-self-ge-MOST_NODES c =
    let ns = c.args.self.now in
    let content = content_value c.args.content in
    let small : length (bytes_in content) ≤ 16777216 = omega (arith, ap length c.bytes.ensures, c.if-len-gt-MOST_OF_ONE.false) in
    let nodes = ap node_count c.self.view_is in
    let bytes = ap byte_count c.self.view_is in
    let refused = λ (h : (most_nodes ≤ node_count ns) ⊎ (most_of_all < byte_count ns + length (bytes_in content))). subst (λ r. Makes r ns ns (Err (Errno Enospc))) (sym (made_past ns (place_value c.args.place) content c.args.program small h)) (refl, refl) in
    elim c.then-self-ge-MOST_NODES.branch [
      | then-self-ge-MOST_NODES-via-then-self-ge-MOST_NODES w ↦ refused (inl (omega (arith, w.if-self-ge-MOST_NODES.true, c.self.invariant.0, nodes)))
      | then-self-ge-MOST_NODES-via-else-self-ge-MOST_NODES+then-len-self w ↦ refused (inr (omega (arith, w.if-len-self.true, c.self.invariant.1, bytes, ap length c.bytes.ensures)))
    ]

fits_it : goal.add-requires-clause-fits
fits_it c =
    let ns = c.args.self.now in
    let nodes = ap node_count c.self.view_is in
    let bytes = ap byte_count c.self.view_is in
    let len : length (bytes_in c.new.result.content) ≡ length c.bytes.result.now = ap (λ n. length (bytes_in n.content)) c.new.ensures ∙ sym (ap length c.bytes.ensures) in
    fits_new ns c.args.place.folder c.args.place.name.now c.new.result (omega (arith, c.if-self-ge-MOST_NODES.false, c.self.invariant.0, nodes)) (omega (arith, c.if-len-self.false, c.self.invariant.1, c.self.invariant.2.bytes, bytes, len))

pub add-requires-clause-fits : goal.add-requires-clause-fits
add-requires-clause-fits c = fits_it c

pub returns-in_err-add : goal.returns-in_err-add
returns-in_err-add c =
    let ns = c.args.self.now in
    let content = content_value c.args.content in
    let small : length (bytes_in content) ≤ 16777216 = omega (arith, ap length c.bytes.ensures, c.if-len-gt-MOST_OF_ONE.false) in
    let nodes = ap node_count c.self.view_is in
    let bytes = ap byte_count c.self.view_is in
    let fit : Fits (with_new ns c.args.place.folder c.args.place.name.now (new_inode content c.args.program)) = fits_new ns c.args.place.folder c.args.place.name.now (new_inode content c.args.program) (omega (arith, c.if-self-ge-MOST_NODES.false, c.self.invariant.0, nodes)) (omega (arith, c.if-len-self.false, c.self.invariant.1, c.self.invariant.2.bytes, bytes, ap length c.bytes.ensures)) in
    let err : c.from_residual.result ≡ Err Memory = search rules in
    let same : c.add.new.self ≡ ns = search rules in
    subst (λ r. Makes r ns c.add.new.self c.from_residual.result) (sym (made_so ns (place_value c.args.place) content c.args.program small fit))
    (subst (λ r. Makes (Ok (with_new ns c.args.place.folder c.args.place.name.now (new_inode content c.args.program))) ns c.add.new.self r) (sym err) same)

pub returns : goal.returns
returns c =
    let ns = c.args.self.now in
    let content = content_value c.args.content in
    let small : length (bytes_in content) ≤ 16777216 = omega (arith, ap length c.bytes.ensures, c.if-len-gt-MOST_OF_ONE.false) in
    let nodes = ap node_count c.self.view_is in
    let bytes = ap byte_count c.self.view_is in
    let fit : Fits (with_new ns c.args.place.folder c.args.place.name.now (new_inode content c.args.program)) = fits_new ns c.args.place.folder c.args.place.name.now (new_inode content c.args.program) (omega (arith, c.if-self-ge-MOST_NODES.false, c.self.invariant.0, nodes)) (omega (arith, c.if-len-self.false, c.self.invariant.1, c.self.invariant.2.bytes, bytes, ap length c.bytes.ensures)) in
    subst (λ r. Makes r ns c.add.new.self (Ok c.in_ok-add.field-0)) (sym (made_so ns (place_value c.args.place) content c.args.program small fit)) (c.in_ok-add.ensures.added ∙ ap (with_new ns c.args.place.folder c.args.place.name.now) c.new.ensures, c.in_ok-add.ensures.id)
