use Rattle.std.proofs.Common.{◌≡◌, ◌∙◌, ap, arith, rules}
use Rattle.std.specs.List.Sorted.{IsNonDecreasingBy}
use Rattle.std.proofs.lemmas.List.Sorted.{IsNonDecreasingBy-from_sort_by_key}
use Rattle.elf32_reader.specs.Symbols.{symbol_count}
use Rattle.psabi_relocs.specs.Spots.{order_of}
use Rattle.psabi_relocs.proofs.SpotLists.{spots_of, spots_more, sorted_spots, rising, found_around}
use Rattle.psabi_relocs.proofs.around.Around.of.Goals as goal

pub loop-index-preserved : goal.loop-index-preserved
loop-index-preserved c = spots_more c.args.elf.now c.args.table c.loop-index.index c.loop-index.spots.items _ c.loop-index.invariant c.in_ok-note_symbol.ensures

pub invariant_of-result : goal.invariant_of-result
invariant_of-result c = IsNonDecreasingBy-from_sort_by_key order_of _ c.in_ok-sort_by_key.ensures.sorted (λ a r q k. search rules)

pub returns : goal.returns
returns c = λ x p small.
    let e = c.args.elf.now in
    let t = c.args.table in
    let all : c.loop-index.index ≡ symbol_count e t = omega (arith, c.symbols_of-index-end.ensures.count) in
    let sorted = c.sort_by_key.new.self.items in
    let ascend : IsNonDecreasingBy order_of sorted = IsNonDecreasingBy-from_sort_by_key order_of sorted c.in_ok-sort_by_key.ensures.sorted (λ a r q k. search rules) in
    let spots = sorted_spots e t c.loop-index.spots.items sorted (c.loop-index.invariant ∙ ap (spots_of e t) all) c.in_ok-sort_by_key.ensures.permutation in
    found_around e t c.symbols_of-index-end.ensures.accepted sorted (rising sorted ascend) spots x p small
