-- The node is taken out, written and put back.
use Rattle.std.proofs.Common.{◌≡◌, ◌+◌, ◌-◌, ◌<◌, ◌≤◌, length, None, Some, Ok, slice_set, sym, ap, subst, ◌∙◌, arith}
use Rattle.mem_files.specs.Inodes.{Fits, byte_count, most_of_one, most_of_all}
use Rattle.mem_files.specs.Changes.{with_bytes, with_change, overwritten, or_no_space}
use Rattle.mem_files.specs.Calls.{Writes}
use Rattle.mem_files.proofs.Changing.{place, out_of_none, changed_none}
use Rattle.mem_files.proofs.Limits.{nothing_written, too_large, written_so, none_written, fits_written, writes}
use Rattle.mem_files.proofs.tree.Tree.write_at.Goals as goal
use Rattle.mem_files.proofs.tree.Tree.write_at.Goals.{then-at-gt-MOST_OF_ONE-via-then-at-gt-MOST_OF_ONE, then-at-gt-MOST_OF_ONE-via-else-at-gt-MOST_OF_ONE+then-len-at}

pub returns-then-len-eq0 : goal.returns-then-len-eq0
returns-then-len-eq0 c = nothing_written _ _ _ _ c.if-len-eq0.true

pub returns-then-at-gt-MOST_OF_ONE : goal.returns-then-at-gt-MOST_OF_ONE
returns-then-at-gt-MOST_OF_ONE c =
    let large : most_of_one < c.args.at + length c.args.bytes.now = elim c.then-at-gt-MOST_OF_ONE.branch [
      | then-at-gt-MOST_OF_ONE-via-then-at-gt-MOST_OF_ONE w ↦ omega (arith, w.if-at-gt-MOST_OF_ONE.true)
      | then-at-gt-MOST_OF_ONE-via-else-at-gt-MOST_OF_ONE+then-len-at w ↦ omega (arith, w.if-at-gt-MOST_OF_ONE.false, w.if-len-at.true)
    ] in
    too_large _ _ _ _ c.if-len-eq0.false large

pub returns-in_default : goal.returns-in_default
returns-in_default c =
    let ns = c.args.self.now in
    let small : c.args.at + length c.args.bytes.now ≤ most_of_one = omega (arith, c.if-at-gt-MOST_OF_ONE.false, c.if-len-at.false) in
    let none = sym c.take.ensures.node ∙ c.in_default.is in
    let same : c.take.new.self ≡ ns = c.take.ensures.rest ∙ out_of_none ns c.args.id none in
    let unchanged : c.take.new.self ≡ with_change (λ n. Some (with_bytes (overwritten c.args.at c.args.bytes.now) n)) ns c.args.id = c.take.ensures.rest ∙ changed_none _ ns c.args.id none in
    subst (λ r. Writes r ns c.take.new.self (Ok tt)) (ap or_no_space unchanged ∙ written_so ns c.args.id c.args.at c.args.bytes.now c.if-len-eq0.false small) (none_written ns c.take.new.self c.take.ensures.fits same)

pub put-requires-clause-place : goal.put-requires-clause-place
put-requires-clause-place c = place _ _ _ _ c.take.ensures.node c.take.ensures.rest c.in-Some.inode c.in-Some.is

pub put-requires-clause-fits : goal.put-requires-clause-fits
put-requires-clause-fits c =
    let ns = c.args.self.now in
    let out = ap byte_count (c.self.view_is ∙ c.take.ensures.rest) in
    let left : most_of_all - c.self.inside.bytes ≡ most_of_all - byte_count (slice_set ns c.args.id None) = omega (arith, c.self.invariant.1, out) in
    let rest : byte_count (slice_set ns c.args.id None) ≤ most_of_all = omega (arith, c.self.invariant.2.bytes, out) in
    subst (λ ms. Fits (slice_set ms c.args.id (Some c.write-answer.new.self))) (sym c.take.ensures.rest)
    (fits_written ns c.args.id c.in-Some.inode (sym c.take.ensures.node ∙ c.in-Some.is) _ c.write-answer.new.self _ c.write-answer.result c.take.ensures.fits left rest c.write-answer.ensures)

pub returns : goal.returns
returns c =
    let ns = c.args.self.now in
    let small : c.args.at + length c.args.bytes.now ≤ most_of_one = omega (arith, c.if-at-gt-MOST_OF_ONE.false, c.if-len-at.false) in
    let out = ap byte_count (c.self.view_is ∙ c.take.ensures.rest) in
    let left : most_of_all - c.self.inside.bytes ≡ most_of_all - byte_count (slice_set ns c.args.id None) = omega (arith, c.self.invariant.1, out) in
    let rest : byte_count (slice_set ns c.args.id None) ≤ most_of_all = omega (arith, c.self.invariant.2.bytes, out) in
    subst (λ r. Writes r ns c.put.new.self c.write-answer.result) (written_so ns c.args.id c.args.at c.args.bytes.now c.if-len-eq0.false small)
    (writes ns c.args.id c.in-Some.inode (sym c.take.ensures.node ∙ c.in-Some.is) (overwritten c.args.at c.args.bytes.now) c.write-answer.new.self c.put.new.self _ c.write-answer.result c.take.ensures.fits left rest
    (c.put.ensures ∙ ap (λ ms. slice_set ms c.args.id (Some c.write-answer.new.self)) c.take.ensures.rest) c.write-answer.ensures)
