use Rattle.std.proofs.Common.{None, Some, if◌then◌else◌, sym, ap, ◌∙◌}
use Rattle.psabi_relocs.proofs.StoredSlots.{last-below, slot_from_last, slot_from_none}
use Rattle.psabi_relocs.proofs.stored.StoredSections.slot_section.Goals as goal

pub returns-in_err-index : goal.returns-in_err-index
returns-in_err-index c =
    c.from_residual.ensures ∙ sym (slot_from_none c.args.elf.now c.args.address c.args.self.now c.requires.stored c.in_err-index.ensures)

pub section-requires : goal.section-requires
section-requires c =
    last-below c.args.elf.now c.args.address c.in_ok-index.index c.args.self.now c.requires.stored c.in_ok-index.ensures

pub returns-then-holds_slot : goal.returns-then-holds_slot
returns-then-holds_slot c =
    let i = c.in_ok-index.index in
    let holds = rw c.section.ensures at c.if-holds_slot.ensures in
    let slot = slot_from_last c.args.elf.now c.args.address i c.args.self.now c.requires.numbers c.requires.stored c.in_ok-index.ensures in
    sym (slot ∙ ap (λ b. if b then Some i else None) (sym holds))

pub returns-else-holds_slot : goal.returns-else-holds_slot
returns-else-holds_slot c =
    let i = c.in_ok-index.index in
    let lacks = rw c.section.ensures at c.if-holds_slot.ensures in
    let slot = slot_from_last c.args.elf.now c.args.address i c.args.self.now c.requires.numbers c.requires.stored c.in_ok-index.ensures in
    sym (slot ∙ ap (λ b. if b then Some i else None) (sym lacks))
