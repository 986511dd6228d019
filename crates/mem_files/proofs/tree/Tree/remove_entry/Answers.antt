-- The node is taken out, changed and put back.
use Rattle.std.proofs.Common.{◌≡◌, ℕ, List, ◌≤◌, length, not, filter, Some, ap, ◌∙◌, arith}
use Rattle.std.specs.Str.{bytes_eq}
use Rattle.mem_files.specs.Inodes.{Inode, bytes_in}
use Rattle.mem_files.specs.Changes.{with_entries}
use Rattle.mem_files.proofs.Changing.{unchanged, place, fits, changed, same_bytes}
use Rattle.mem_files.proofs.tree.Tree.remove_entry.Goals as goal

no_more : (name : List ℕ) (n m : Inode) → m ≡ with_entries (λ es. filter (λ e. not (bytes_eq e.name name)) es) n → length (bytes_in m.content) ≤ length (bytes_in n.content)
no_more name n m is = omega (arith, ap (λ x. length (bytes_in x.content)) is, ap length (same_bytes (λ es. filter (λ e. not (bytes_eq e.name name)) es) n))

pub returns-in_default : goal.returns-in_default
returns-in_default c = unchanged _ _ _ _ c.take.ensures.node c.take.ensures.rest (λ n. Some (with_entries (λ es. filter (λ e. not (bytes_eq e.name c.args.name.now)) es) n)) c.in_default.is

pub put-requires-clause-place : goal.put-requires-clause-place
put-requires-clause-place c = place _ _ _ _ c.take.ensures.node c.take.ensures.rest _ c.in-Some.is

pub put-requires-clause-fits : goal.put-requires-clause-fits
put-requires-clause-fits c = fits _ _ _ _ c.take.ensures.node c.take.ensures.rest c.in-Some.folder c.remove.new.self c.in-Some.is (no_more c.args.name.now c.in-Some.folder c.remove.new.self c.remove.ensures) c.take.ensures.fits

pub returns : goal.returns
returns c = c.put.ensures ∙ changed _ _ _ _ c.take.ensures.node c.take.ensures.rest (λ n. Some (with_entries (λ es. filter (λ e. not (bytes_eq e.name c.args.name.now)) es) n)) _ _ c.in-Some.is (ap Some c.remove.ensures)
