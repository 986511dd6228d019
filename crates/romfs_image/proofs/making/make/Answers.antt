use Rattle.std.proofs.Common.{◌≡◌, ◌+◌, ◌++◌, length, map, take, refl, sym, ap, ◌∙◌, inr, arith}
use Rattle.romfs_image.specs.Words.{word_sum}
use Rattle.romfs_image.specs.Text.{balance, list_text, super_text, image_text, rom_text}
use Rattle.romfs_image.specs.Code.{node_value}
use Rattle.romfs_image.proofs.TextLengths.{named_nodes, length-list_text, length-rom_text}
use Rattle.romfs_image.proofs.making.make.Goals as goal

pub end_of-requires : goal.end_of-requires
end_of-requires c = named_nodes _ _ _ c.requires

pub push_list-requires-clause-named : goal.push_list-requires-clause-named
push_list-requires-clause-named c = named_nodes _ _ _ c.requires

pub returns-in_default : goal.returns-in_default
returns-in_default c = inr (refl, omega (arith, c.in_default.ensures, length-rom_text (map node_value c.args.nodes.now)))

pub returns : goal.returns
unfolding rom_text image_text
returns c =
    let nodes = map node_value c.args.nodes.now in
    let end = c.in-Some.end in
    let whole = list_text nodes in
    let list : c.push_list.new.out.items ≡ whole = c.in_ok-push_list.ensures ∙ ap (λ o. o ++ whole) c.in_ok-list.ensures.items in
    let full : end ≡ 32 + length whole = c.in-Some.ensures.0 ∙ sym (length-list_text nodes) in
    let sum = c.in_ok-super_sum.field-0 in
    let text : c.extend_from_slice.new.self.items ≡ rom_text nodes =
    c.in_ok-extend_from_slice.ensures.items
    ∙ ap (λ o. o ++ c.deref-2.result.now) (c.in_ok-push_super.ensures ∙ ap (λ o. o ++ super_text end sum) c.in_ok-out.ensures.items)
    ∙ ap (λ l. super_text end sum ++ l) (c.deref-2.ensures.value ∙ list)
    ∙ ap (λ s. super_text end s ++ whole) (c.in_ok-super_sum.ensures ∙ ap (λ l. balance (word_sum (take 512 (super_text end 0 ++ l)))) (c.deref.ensures.value ∙ list))
    ∙ ap (λ e. super_text e (balance (word_sum (take 512 (super_text e 0 ++ whole)))) ++ whole) full in
    (text, omega (arith, ap length text, length-rom_text nodes, c.in-Some.ensures.0, c.in-Some.ensures.1))
