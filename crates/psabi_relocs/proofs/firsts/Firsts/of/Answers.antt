use Rattle.std.proofs.Common.{refl, rules}
use Rattle.std.proofs.lemmas.List.Sorted.{IsNonDecreasingBy-from_sort_by_key, answers_always}
use Rattle.psabi_relocs.proofs.FirstNotes.{first_stable, ascend_where}
use Rattle.psabi_relocs.proofs.firsts.Firsts.of.Goals as goal
use Rattle.psabi_relocs.proofs.firsts.Firsts.of.Goals.{then-not-is_sorted_by_key+in_ok-sort_by_key, else-not-is_sorted_by_key}

pub invariant_of-result : goal.invariant_of-result
invariant_of-result g c = elim c.if-not-is_sorted_by_key.branch [
  | then-not-is_sorted_by_key+in_ok-sort_by_key w ↦
      rw w.notes-is (IsNonDecreasingBy-from_sort_by_key (λ n. n.0) _ w.in_ok-sort_by_key.ensures.sorted (λ a r q k. search rules))
  | else-not-is_sorted_by_key w ↦ rw w.notes-is (rw c.deref.ensures.value at (ascend_where c.deref.result.now _ (c.is_sorted_by_key.ensures.cases (λ n. n.0) (answers_always _ _ _ (λ f a r g h. search rules))) w.if-not-is_sorted_by_key.false))
]

pub returns : goal.returns
returns g c = λ q. elim c.if-not-is_sorted_by_key.branch [
  | then-not-is_sorted_by_key+in_ok-sort_by_key w ↦
      rw w.notes-is (first_stable _ _ (w.in_ok-sort_by_key.ensures.stable (λ n. n.0) (answers_always _ _ _ (λ f a r g h. search rules))) q)
  | else-not-is_sorted_by_key w ↦ rw w.notes-is refl
]
