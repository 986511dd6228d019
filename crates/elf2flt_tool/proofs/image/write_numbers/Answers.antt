use Rattle.std.proofs.Common.{◌≡◌, ◌+◌, ◌≤◌, ◌∷◌, [], length, map, take, get_or, slice_index, sym, ap, ◌∙◌}
use Rattle.std.proofs.lemmas.List.{take_more, map-append}
use Rattle.byte_words.specs.Patches.{painted, bytes_below, laid, big_word}
use Rattle.byte_words.proofs.Painting.{bytes_below_list}
use Rattle.elf2flt_tool.specs.Converted.{number_patch}
use Rattle.elf2flt_tool.specs.Word.{word_at}
use Rattle.elf2flt_tool.proofs.Painted.{laid-push}
use Rattle.elf2flt_tool.proofs.Numbered.{word_still}
use Rattle.elf2flt_tool.proofs.image.write_numbers.Goals as goal

pub loop-place-init : goal.loop-place-init
loop-place-init c = sym (bytes_below_list c.args.image.now)

pub loop-place-preserved : goal.loop-place-preserved
unfolding number_patch big_word
loop-place-preserved c =
    let i = c.loop-place.place-index in
    let ps = c.args.places.now in
    let old = c.args.image.now in
    let l = c.args.layout.now in
    let p = get_or ps i 0 in
    let n = length old in
    let w = word_at l old p in
    let so_far = map number_patch (map (word_at l old) (take i ps)) in
    let fits : p + 4 ≤ n = c.requires.inside i 0 c.loop-place-test.true in
    let read : c.word_at-word.result ≡ w = c.word_at-word.ensures ∙ ap (λ image. word_at l image p) c.loop-place.invariant ∙ word_still l old ps i c.requires.apart c.loop-place-test.true fits in
    c.lay.ensures
    ∙ ap (λ bytes. laid c.loop-place.image c.word_at-word.result.place bytes) c.to_be_bytes.ensures
    ∙ ap (λ word. laid c.loop-place.image (number_patch word).at (number_patch word).bytes) read
    ∙ ap (λ image. laid image (number_patch w).at (number_patch w).bytes) c.loop-place.invariant
    ∙ laid-push n so_far (number_patch w) (slice_index old) fits
    ∙ ap (λ qs. bytes_below n (painted qs (slice_index old)))
    (sym (map-append number_patch (map (word_at l old) (take i ps)) (w ∷ [])) ∙ ap (map number_patch) (sym (map-append (word_at l old) (take i ps) (p ∷ [])) ∙ ap (map (word_at l old)) (sym (take_more ps i 0 c.loop-place-test.true))))
