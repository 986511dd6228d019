-- Sorted subjects are counted as they stand.
use Rattle.std.proofs.Common.{◌≡◌, ◌∙◌, ◌<◌, ◌≤◌, ◌^◌, List, length, map, sym, ap, arith, subst}
use Rattle.std.specs.List.{AllByRecursion as Each}
use Rattle.std.proofs.lemmas.List.Sorted.{length_permutation}
use Rattle.fault_texts.specs.declared.counts.Count.{Count}
use Rattle.fault_texts.specs.Counts.{each_once, count_in, by_count, counts_of}
use Rattle.fault_texts.proofs.Counting.{sorted_counts}
use Rattle.fault_texts.proofs.Falling.{counts_under}
use Rattle.fault_texts.proofs.counts.counts_of.Goals as goal

pub returns : goal.returns
unfolding counts_of
returns c =
    let ss = c.args.subjects.items in
    let rs = c.in_ok-sorted.sorted.items in
    let many : length rs ≡ length ss = length_permutation ss rs c.in_ok-sorted.ensures.same in
    let few : length ss < 2 ^ 64 = omega (arith, c.args.subjects.ok.0, c.args.subjects.small) in
    let all = rw (c.deref.ensures.value) at c.in_ok-counts.ensures in
    let counted : c.in_ok-counts.counts.items ≡ map (count_in ss) (each_once ss) = all ∙ sorted_counts ss rs c.in_ok-sorted.ensures.stable in
    c.in_ok-listed.ensures (length ss) few (subst (λ (cs : List Count). Each (λ k. k.count ≤ length ss) cs) (sym counted) (counts_under ss (each_once ss)))
    ∙ ap (by_count (length ss)) counted
