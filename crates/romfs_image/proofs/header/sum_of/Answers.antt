use Rattle.std.proofs.Common.{◌≡◌, ◌+◌, ◌*◌, drop, ap, arith}
use Rattle.std.proofs.lemmas.List.{length-drop}
use Rattle.romfs_image.specs.Words.{word_sum}
use Rattle.romfs_image.proofs.Sums.{sum_at, sum_short}
use Rattle.romfs_image.proofs.header.sum_of.Goals as goal

pub loop-index-preserved : goal.loop-index-preserved
loop-index-preserved c =
    let y = c.args.bytes.now in
    let i = c.loop-index.index in
    let next : word_sum (drop (4 * (i + 1)) y) ≡ word_sum (drop (4 * i + 4) y) = ap (λ n. word_sum (drop n y)) (let e : 4 * (i + 1) ≡ 4 * i + 4 = omega arith in e) in
    omega (arith, sum_at y (4 * i) (omega arith), next, c.loop-index.invariant, c.big_word-sum.ensures)

pub returns : goal.returns
returns c =
    let y = c.args.bytes.now in
    let i = c.loop-index.index in
    omega (arith, sum_short (drop (4 * i) y) (omega (arith, length-drop (4 * i) y)), c.loop-index.invariant, c.loop-index.auto.sum-fits)
