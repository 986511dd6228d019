-- The node is taken out, changed and put back.
use Rattle.std.proofs.Common.{◌≡◌, ◌≤◌, length, false, ap, ◌∙◌, arith}
use Rattle.mem_files.specs.Inodes.{Inode, bytes_in}
use Rattle.mem_files.specs.Changes.{kept}
use Rattle.mem_files.proofs.Changing.{unchanged, place, fits, changed}
use Rattle.mem_files.proofs.tree.Tree.unname.Goals as goal

no_more : (n m : Inode) → m ≡ record n { linked = false } → length (bytes_in m.content) ≤ length (bytes_in n.content)
no_more n m is = omega (arith, ap (λ x. length (bytes_in x.content)) is)

pub returns-in_default : goal.returns-in_default
returns-in_default c = unchanged _ _ _ _ c.take.ensures.node c.take.ensures.rest (λ n. kept (record n { linked = false })) c.in_default.is

pub put_kept-requires-clause-place : goal.put_kept-requires-clause-place
put_kept-requires-clause-place c = place _ _ _ _ c.take.ensures.node c.take.ensures.rest _ c.in-Some.is

pub put_kept-requires-clause-fits : goal.put_kept-requires-clause-fits
put_kept-requires-clause-fits c = fits _ _ _ _ c.take.ensures.node c.take.ensures.rest c.in-Some.inode c.unlink.new.self c.in-Some.is (no_more c.in-Some.inode c.unlink.new.self c.unlink.ensures) c.take.ensures.fits

pub returns : goal.returns
returns c = c.put_kept.ensures ∙ changed _ _ _ _ c.take.ensures.node c.take.ensures.rest (λ n. kept (record n { linked = false })) _ _ c.in-Some.is (ap kept c.unlink.ensures)
