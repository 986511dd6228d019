use Rattle.psabi_relocs.proofs.Fields.{slot_is_named}
use Rattle.psabi_relocs.proofs.judged.JudgedEntry.is_unpaired.Goals as goal

pub returns-in-GotHi20 : goal.returns-in-GotHi20
returns-in-GotHi20 c =
    let entry = c.self.inside in
    let inside = rw (← c.self.view_is) at c.requires in
    rw (← c.self.view_is) (slot_is_named entry.kept.file entry.kept.section entry.reloc entry.slot c.is_none.result c.is_none.ensures inside c.in-GotHi20.is c.self.invariant.slot)
