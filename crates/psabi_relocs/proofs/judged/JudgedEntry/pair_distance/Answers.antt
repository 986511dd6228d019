-- The distance is by what is kept of the pair.
use Rattle.std.proofs.Common.{Some, sym, ap, ◌∙◌}
use Rattle.psabi_relocs.proofs.Partners.{distance_by, pair_kept}
use Rattle.psabi_relocs.proofs.judged.JudgedEntry.pair_distance.Goals as goal

pub returns-in-Distance : goal.returns-in-Distance
returns-in-Distance c =
    let s = c.self.inside in
    let kept = pair_kept s.kept.file s.kept.section s.reloc s.high (rw (← c.self.view_is) at c.requires) c.self.invariant.high in
    let is = c.in_ok-distance.was ∙ ap Some c.in-Distance.is in
    rw (← c.self.view_is) (sym (ap (distance_by s.kept.file s.kept.section s.reloc.value) is) ∙ kept)

pub returns-in-Slot : goal.returns-in-Slot
returns-in-Slot c =
    let s = c.self.inside in
    let kept = pair_kept s.kept.file s.kept.section s.reloc s.high (rw (← c.self.view_is) at c.requires) c.self.invariant.high in
    let is = c.in_ok-distance.was ∙ ap Some c.in-Slot.is in
    rw (← c.self.view_is) (c.got_distance.ensures ∙ sym (ap (distance_by s.kept.file s.kept.section s.reloc.value) is) ∙ kept)
