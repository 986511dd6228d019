use Rattle.std.proofs.Common.{rules}
use Rattle.std.proofs.lemmas.List.Sorted.{IsNonDecreasingBy-from_sort_by_key, answers_always}
use Rattle.elf2flt_tool.proofs.Sorting.{sorted_is}
use Rattle.elf2flt_tool.proofs.by_place.by_place.Goals as goal

pub returns : goal.returns
returns c = λ n below.
    sorted_is c.args.words.items _ n c.in_ok-sort_by_key.ensures.permutation
    (IsNonDecreasingBy-from_sort_by_key (λ w. w.place) _ c.in_ok-sort_by_key.ensures.sorted (λ a r q k. search rules))
    (c.in_ok-sort_by_key.ensures.stable (λ w. w.place) (answers_always _ _ _ (λ f a r g h. search rules)))
    below
