use Rattle.std.proofs.Common.{◌≡◌, ◌+◌, ◌-◌, ◌≤◌, ◌++◌, length, take, drop, ap, sym, ◌∙◌, arith}
use Rattle.std.proofs.lemmas.List.{length-take-le, length-drop, drop-drop}
use Rattle.byte_words.specs.Patches.{laid}
use Rattle.elf2flt_tool.proofs.Slid.{laid_in_front, length-moved, moved_more}
use Rattle.elf2flt_tool.proofs.sliding.move_down.Goals as goal

pub loop-done-preserved : goal.loop-done-preserved
loop-done-preserved c =
    let old = c.args.file.now in
    let from = c.args.slide.from in
    let to = c.args.slide.to in
    let n = c.loop-done.done in
    let k = c.min-count.result in
    let f = c.loop-done.file in
    let m = from + n in
    let is : f ≡ laid old to (take n (drop from old)) = c.loop-done.invariant.0 in
    let front : c.split_at_mut-before.result.0.now ≡ take m f = c.split_at_mut-before.ensures.front in
    let back : c.split_at_mut-before.result.1.now ≡ drop m f = c.split_at_mut-before.ensures.back in
    let piece : c.copy_from_slice.new.self ≡ take k (drop m f) = c.copy_from_slice.ensures.after ∙ ap (take k) back in
    let least = c.min-count.ensures in
    let down : to + k ≤ from = omega (arith, least, c.loop-done.invariant) in
    let inside : from + n + k ≤ length old = omega (arith, least, c.requires.inside, c.loop-done.invariant) in
    let le : to ≤ length old = omega arith in
    let long : length f ≡ length old = ap length is ∙ length-moved old to from n c.requires.down (omega (arith, c.requires.inside, c.loop-done.invariant)) in
    let width : to + n + k - (to + n) ≡ k = omega arith in
    let len : length (take k (drop m f)) ≡ k = length-take-le k (drop m f) (omega (arith, length-drop m f, long)) in
    let in_front : to + n + length (take k (drop m f)) ≤ m = omega (arith, len) in
    let file = laid_in_front f (to + n) m (take k (drop m f)) in_front (omega (arith, long)) in (
      (λ i. (take (to + n) (front i) ++ (piece i ++ drop (width i) (drop (to + n) (front i)))) ++ back i)
          ∙ (λ i. (take (to + n) (take m f) ++ (take k (drop m f) ++ drop-drop k (to + n) (take m f) i)) ++ drop m f)
          ∙ (λ i. (take (to + n) (take m f) ++ (take k (drop m f) ++ drop (to + n + sym len i) (take m f))) ++ drop m f)
          ∙ file
          ∙ ap (λ g. laid g (to + n) (take k (drop m g))) is
          ∙ moved_more old to from n k down inside,
      omega (arith, least, c.loop-done.invariant),
      c.loop-done.invariant.2,
    )
