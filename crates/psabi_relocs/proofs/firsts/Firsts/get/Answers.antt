use Rattle.std.proofs.Common.{◌∙◌, ◌≡◌, ℕ, ◌-◌, ◌≤◌, true, false, List, take, drop, length, ap, sym, subst, arith, rules, ltb, ltb-true}
use Rattle.std.specs.List.Sorted.{IsNonDecreasingBy, IsPartitionPoint}
use Rattle.std.proofs.lemmas.List.Sorted.{IsPartitionPoint-from_clause, IsPartitionedBy-ltb}
use Rattle.std.proofs.lemmas.Bool.{ltb-false}
use Rattle.psabi_relocs.specs.Firsts.{first_at, head_at, IsAround}
use Rattle.psabi_relocs.proofs.FirstNotes.{between, search_near, ascend_between}
use Rattle.psabi_relocs.proofs.firsts.Firsts.get.Goals as goal

pub returns : goal.returns
returns g c =
    let notes : List (ℕ × g.row.T.Denot) = c.deref.result.now in
    let q = c.args.address in
    let i = c.around-from.result.0 in
    let j = c.around-from.result.1 in
    let below = c.partition_point-below.result in
    let ascend : IsNonDecreasingBy (λ n. n.0) notes = rw c.deref.ensures.value c.self.invariant in
    let same : notes ≡ c.args.self.now = c.deref.ensures.value ∙ c.self.view_is in
    let around : IsAround notes i j q = subst (λ ns. IsAround ns i j q) (sym same) c.around-from.ensures in
    let near : c.split_at-2.result.0.now ≡ between notes i j = c.split_at-2.ensures.front ∙ ap (take (j - i)) c.split_at.ensures.back in
    let near_ascend : IsNonDecreasingBy (λ n. n.0) c.split_at-2.result.0.now = subst (IsNonDecreasingBy (λ n. n.0)) (sym near) (ascend_between notes i j ascend) in
    let found = IsPartitionPoint-from_clause (λ n. ltb n.0 q) c.split_at-2.result.0.now below c.partition_point-below.ensures.partitioned (IsPartitionedBy-ltb (λ n. n.0) _ q near_ascend) (λ a r f k. search rules) in
    let point : IsPartitionPoint (λ n. ltb n.0 q ≡ true) (λ n. ltb n.0 q ≡ false) (between notes i j) below
    = subst (λ ns. IsPartitionPoint (λ n. ltb n.0 q ≡ true) (λ n. ltb n.0 q ≡ false) ns below) near found in
    let few : below ≤ length (between notes i j) = subst (λ ns. below ≤ length ns) near c.partition_point-below.ensures.bound in
    let searched = search_near notes i j q ascend around below few
    (λ k d h in_list. ltb-true _ _ (point.0 k d (omega arith) h)) (λ k d h in_list. ltb-false _ _ (point.1 k d h in_list)) in
    c.head_at.ensures ∙ ap (λ ns. head_at ns q) (c.split_at-3.ensures.back ∙ ap (drop below) c.split_at.ensures.back) ∙ searched
    ∙ ap (λ ns. first_at ns q) same
