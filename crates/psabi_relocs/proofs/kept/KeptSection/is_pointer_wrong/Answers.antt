use Rattle.std.proofs.Common.{◌≡◌, ℕ, List, Bool, true, false, not, ◌&&◌, ◌||◌, nat_eq, refl, ap, ◌∙◌}
use Rattle.psabi_relocs.specs.declared.reloc.Reloc.{Reloc}
use Rattle.psabi_relocs.specs.declared.row.Row.TheVariants.{Pointer}
use Rattle.psabi_relocs.specs.Reloc.{target_section}
use Rattle.psabi_relocs.specs.Bytes.{word_in}
use Rattle.psabi_relocs.specs.Slot.{is_slot_wrong}
use Rattle.psabi_relocs.specs.Field.{absolute, ends_of, high_ends, holds_value, is_mismatch}
use Rattle.psabi_relocs.proofs.kept.KeptSection.is_pointer_wrong.Goals as goal

one_field : (b : Bool) → not b ≡ (not (b && true) || false)
one_field true = refl
one_field false = refl

of_pointer : (e : List ℕ) (i : ℕ) (r : Reloc) → r.row ≡ Pointer → not (nat_eq (word_in e (target_section e i) r.place) (absolute 0 r)) ≡ is_mismatch e i r
unfolding is_mismatch ends_of high_ends holds_value is_slot_wrong absolute
of_pointer e i r row = rw row (one_field (nat_eq (word_in e (target_section e i) r.place) (absolute 0 r)))

pub returns : goal.returns
returns c =
    let e = c.args.self.now.file in
    let i = c.args.self.now.section in
    let r = c.args.reloc.now in
    ap (λ word. not (nat_eq word c.absolute.result)) c.word.ensures.word ∙ ap (λ value. not (nat_eq (word_in e (target_section e i) r.place) value)) c.absolute.ensures
    ∙ of_pointer e i r c.requires.row
