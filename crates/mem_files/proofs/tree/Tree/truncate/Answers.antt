-- The node is taken out, changed and put back.
use Rattle.std.proofs.Common.{◌≡◌, ◌≤◌, [], length, Some, ap, ◌∙◌, arith}
use Rattle.mem_files.specs.Inodes.{Inode, bytes_in}
use Rattle.mem_files.specs.Changes.{truncated, with_bytes}
use Rattle.mem_files.proofs.Changing.{unchanged, place, fits, changed, emptied}
use Rattle.mem_files.proofs.tree.Tree.truncate.Goals as goal

abbrev change : Inode → Inode
change n = with_bytes (λ bytes. []) n

no_more : (n m : Inode) → m ≡ change n → length (bytes_in m.content) ≤ length (bytes_in n.content)
no_more n m is = omega (arith, ap (λ x. length (bytes_in x.content)) is, emptied n)

pub returns-in_default : goal.returns-in_default
unfolding truncated
returns-in_default c = unchanged _ _ _ _ c.take.ensures.node c.take.ensures.rest (λ n. Some (change n)) c.in_default.is

pub put-requires-clause-place : goal.put-requires-clause-place
put-requires-clause-place c = place _ _ _ _ c.take.ensures.node c.take.ensures.rest c.in-Some.inode c.in-Some.is

pub put-requires-clause-fits : goal.put-requires-clause-fits
put-requires-clause-fits c = fits _ _ _ _ c.take.ensures.node c.take.ensures.rest c.in-Some.inode _ c.in-Some.is (no_more c.in-Some.inode _ c.truncate.ensures) c.take.ensures.fits

pub returns : goal.returns
unfolding truncated
returns c = c.put.ensures ∙ changed _ _ _ _ c.take.ensures.node c.take.ensures.rest (λ n. Some (change n)) c.in-Some.inode _ c.in-Some.is (ap Some c.truncate.ensures)
