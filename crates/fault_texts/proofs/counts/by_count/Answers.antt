-- What the sort says.
use Rattle.std.proofs.Common.{◌-◌, arith, rules}
use Rattle.std.proofs.lemmas.List.Sorted.{IsNonDecreasingBy-from_sort_by_key, answers_always}
use Rattle.fault_texts.specs.declared.counts.Count.{Count}
use Rattle.fault_texts.proofs.Falling.{fallen}
use Rattle.fault_texts.proofs.counts.by_count.Goals as goal

pub returns : goal.returns
returns c = λ n fits under.
    fallen 18446744073709551615 n c.args.counts.items _ (omega arith) c.in_ok-sort_by_key.ensures.permutation
    (IsNonDecreasingBy-from_sort_by_key (λ (k : Count). 18446744073709551615 - k.count) _ c.in_ok-sort_by_key.ensures.sorted (λ a r q k. search rules))
    (c.in_ok-sort_by_key.ensures.stable (λ (k : Count). 18446744073709551615 - k.count) (answers_always _ _ _ (λ f a r g h. search rules)))
    under
