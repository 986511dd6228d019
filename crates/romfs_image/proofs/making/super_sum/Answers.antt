use Rattle.std.proofs.Common.{◌≡◌, ◌++◌, ◌%◌, ◌^◌, take, ap, ◌∙◌, arith}
use Rattle.romfs_image.specs.Words.{word_sum}
use Rattle.romfs_image.specs.Text.{super_text}
use Rattle.romfs_image.proofs.TextLengths.{take_within}
use Rattle.romfs_image.proofs.making.super_sum.Goals as goal

pub returns : goal.returns
returns c =
    let list = c.args.list.now in
    let full = c.args.full in
    let items : c.deref.result.now ≡ super_text full 0 ++ take 480 list =
    c.deref.ensures.value ∙ c.in_ok-extend_from_slice.ensures.items
    ∙ ap (λ h. h ++ c.split_at.result.0.now) (c.in_ok-push_super.ensures ∙ ap (λ o. o ++ super_text full 0) c.new-head.ensures.items)
    ∙ ap (λ t. super_text full 0 ++ t) (c.split_at.ensures.front ∙ ap (λ k. take k list) c.min.ensures ∙ take_within list 480) in
    let sum : c.sum_of.result ≡ word_sum (super_text full 0 ++ take 480 list) % 2 ^ 32 = c.sum_of.ensures ∙ ap (λ y. word_sum y % 2 ^ 32) items in
    omega (arith, sum)
