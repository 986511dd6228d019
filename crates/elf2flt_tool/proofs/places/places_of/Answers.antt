use Rattle.std.proofs.Common.{◌∙◌, ℕ, Bool, [], ◌∷◌, ◌++◌, filter, nat_lt, slice_index, sym, ap}
use Rattle.std.specs.List.{range_with_len}
use Rattle.std.proofs.lemmas.Bool.{lt-ltb, le-ltb}
use Rattle.std.proofs.lemmas.List.{append-nil}
use Rattle.elf2flt_tool.proofs.Stills.{filter_keep, filter_drop}
use Rattle.elf2flt_tool.proofs.Ascending.{filter_next}
use Rattle.elf2flt_tool.proofs.places.places_of.Goals as goal
use Rattle.elf2flt_tool.proofs.places.places_of.Goals.{then-counts-place-gt0+in_ok-push, else-counts-place-gt0}

pub loop-place-preserved : goal.loop-place-preserved
loop-place-preserved c =
    let test : ℕ → Bool = λ q. nat_lt 0 (slice_index c.args.counts.now q) in
    let place = c.loop-place.place in
    let so_far = filter test (range_with_len 0 place) in
    elim c.if-counts-place-gt0.branch [
      | then-counts-place-gt0+in_ok-push w ↦
          ap (λ places. places.items) w.places-is ∙ w.in_ok-push.ensures.items ∙ ap (λ places. places ++ place ∷ []) c.loop-place.invariant
          ∙ sym (filter_next test place ∙ ap (λ places. so_far ++ places) (filter_keep test place [] (lt-ltb 0 _ w.if-counts-place-gt0.true)))
      | else-counts-place-gt0 w ↦
          ap (λ places. places.items) w.places-is ∙ c.loop-place.invariant
          ∙ sym (filter_next test place ∙ ap (λ places. so_far ++ places) (filter_drop test place [] (le-ltb 0 _ w.if-counts-place-gt0.false)) ∙ append-nil so_far)
    ]
