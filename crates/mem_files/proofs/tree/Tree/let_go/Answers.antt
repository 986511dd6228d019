-- The node is taken out, changed and put back.
use Rattle.std.proofs.Common.{◌≡◌, ◌≤◌, ◌-◌, length, ap, ◌∙◌, arith}
use Rattle.mem_files.specs.Inodes.{Inode, bytes_in}
use Rattle.mem_files.specs.Changes.{let_go, kept}
use Rattle.mem_files.proofs.Changing.{unchanged, place, fits, changed}
use Rattle.mem_files.proofs.tree.Tree.let_go.Goals as goal

abbrev change : Inode → Inode
change n = record n { holds = n.holds - 1 }

no_more : (n m : Inode) → m ≡ change n → length (bytes_in m.content) ≤ length (bytes_in n.content)
no_more n m is = omega (arith, ap (λ x. length (bytes_in x.content)) is)

pub returns-in_default : goal.returns-in_default
unfolding let_go
returns-in_default c = unchanged _ _ _ _ c.take.ensures.node c.take.ensures.rest (λ n. kept (change n)) c.in_default.is

pub put_kept-requires-clause-place : goal.put_kept-requires-clause-place
put_kept-requires-clause-place c = place _ _ _ _ c.take.ensures.node c.take.ensures.rest c.in-Some.inode c.in-Some.is

pub put_kept-requires-clause-fits : goal.put_kept-requires-clause-fits
put_kept-requires-clause-fits c = fits _ _ _ _ c.take.ensures.node c.take.ensures.rest c.in-Some.inode _ c.in-Some.is (no_more c.in-Some.inode _ c.let_go.ensures) c.take.ensures.fits

pub returns : goal.returns
unfolding let_go
returns c = c.put_kept.ensures ∙ changed _ _ _ _ c.take.ensures.node c.take.ensures.rest (λ n. kept (change n)) c.in-Some.inode _ c.in-Some.is (ap kept c.let_go.ensures)
