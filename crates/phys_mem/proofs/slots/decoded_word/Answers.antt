-- The word stands in its slot.
use Rattle.std.proofs.Common.{◌≡◌, ap, sym, refl, ◌∙◌, arith}
use Rattle.std.specs.Prelude.{Some}
use Rattle.byte_words.specs.ByteMap.{little}
use Rattle.rv32im_table.specs.Table.{decoded}
use Rattle.phys_mem.specs.Memory.{place}
use Rattle.phys_mem.proofs.AfterWrites.{decoded_kept, apart_kept, is_decoded, is_kept}
use Rattle.phys_mem.proofs.slots.decoded_word.Goals as goal

pub returns-then-at-eq0-clause-slot : goal.returns-then-at-eq0-clause-slot
returns-then-at-eq0-clause-slot c =
    let is : decoded (little c.args.bytes.now (place c.args.at) 4) ≡ Some c.in-Some.instr =
    ap (λ p. decoded (little c.args.bytes.now p 4)) (sym c.place_of.ensures) ∙ ap decoded (sym c.read.ensures.value) ∙ sym c.in-Some.ensures.row in
    rw (← c.slot_of-slot.ensures.slot)
    (is_decoded _ c.args.slots.now.items c.slot_of-slot.result _ c.in-Some.instr (omega (arith, c.requires.count, c.slot_of-slot.ensures.within)) refl is c.in-Some.ensures.fields)

pub returns-then-at-eq0-clause-kept : goal.returns-then-at-eq0-clause-kept
returns-then-at-eq0-clause-kept c are =
    let is : decoded (little c.args.bytes.now (place c.args.at) 4) ≡ Some c.in-Some.instr =
    ap (λ p. decoded (little c.args.bytes.now p 4)) (sym c.place_of.ensures) ∙ ap decoded (sym c.read.ensures.value) ∙ sym c.in-Some.ensures.row in
    rw c.slot_of-slot.ensures.slot (decoded_kept _ _ _ _ c.if-at-eq0.true is c.in-Some.ensures.fields are)

pub returns-then-at-eq0-clause-keeps : goal.returns-then-at-eq0-clause-keeps
returns-then-at-eq0-clause-keeps c whole is =
    rw (← c.slot_of-slot.ensures.slot)
    (is_kept c.args.slots.now.items c.slot_of-slot.result _ c.args.at (omega (arith, c.requires.count, c.slot_of-slot.ensures.within)) refl)

pub returns-clause-slot : goal.returns-clause-slot
returns-clause-slot c =
    let is : decoded (little c.args.bytes.now (place c.args.at) 4) ≡ Some c.in-Some.instr =
    ap (λ p. decoded (little c.args.bytes.now p 4)) (sym c.place_of.ensures) ∙ ap decoded (sym c.read.ensures.value) ∙ sym c.in-Some.ensures.row in
    rw (← c.slot_of-slot.ensures.slot)
    (is_decoded _ c.args.slots.now.items c.slot_of-slot.result _ c.in-Some.instr (omega (arith, c.requires.count, c.slot_of-slot.ensures.within)) refl is c.in-Some.ensures.fields)

pub returns-clause-kept : goal.returns-clause-kept
returns-clause-kept c are = apart_kept _ _ _ _ c.requires.small are
