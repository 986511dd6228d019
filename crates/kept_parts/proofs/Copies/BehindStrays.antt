-- Live copies hold their file, whatever was noted.
use Rattle.std.proofs.Common.{◌≡◌, ◌+◌, Bool, true, false, List, [], ◌∷◌, refl, sym, ap, subst, ◌∙◌, arith}
use Rattle.std.proofs.lemmas.Bool.{false≢true}
use Rattle.call_log.specs.Notes.{Note, call_note, load_note, end_note, stray_note}
use Rattle.machine_world.specs.Ages.{kept_calls}
use Rattle.memory_world.specs.Physical.{has_stray}
use Rattle.kept_parts.specs.Kept.{Kept}
use Rattle.kept_parts.specs.Regular.{Regular}
use Rattle.kept_parts.specs.Copies.{CopiesHold, HoldsFiles, StillHolds}
use Rattle.kept_parts.proofs.Copies.BehindChanges.{call_counts}
use Rattle.kept_parts.proofs.Common.StaysRegular.{regular_noted}

pub unstrayed_holds : (k : Kept) → has_stray k.notes ≡ false → StillHolds k
unstrayed_holds k none strayed = absurd (false≢true (sym none ∙ strayed))

pub still : (k : Kept) → CopiesHold k.regions k.mem k.tree k.notes → StillHolds k → HoldsFiles k
still k copies holds = by_notes (has_stray k.notes) refl
  where
    by_notes : (strayed : Bool) → has_stray k.notes ≡ strayed → HoldsFiles k
    by_notes true is = holds is
    by_notes false is = copies.hold is

-- the parts as they stand in the code
pub holds_inside : (inside k : Kept) → inside ≡ k → HoldsFiles k → HoldsFiles inside
holds_inside inside k same = subst HoldsFiles (sym same)

-- ---- the notes without those of stray accesses

abbrev pub clean : List Note → List Note
clean [] = []
clean (call_note entry ∷ notes) = call_note entry ∷ clean notes
clean (load_note load ∷ notes) = load_note load ∷ clean notes
clean (end_note pid how ∷ notes) = end_note pid how ∷ clean notes
clean (stray_note pid seen ∷ notes) = clean notes

pub none_clean : (notes : List Note) → has_stray (clean notes) ≡ false
none_clean [] = refl
none_clean (call_note entry ∷ notes) = none_clean notes
none_clean (load_note load ∷ notes) = none_clean notes
none_clean (end_note pid how ∷ notes) = none_clean notes
none_clean (stray_note pid seen ∷ notes) = none_clean notes

pub calls_clean : (notes : List Note) → kept_calls (clean notes) ≡ kept_calls notes
calls_clean [] = refl
calls_clean (call_note entry ∷ notes) = call_counts entry (clean notes) ∙ ap (λ n. n + 1) (calls_clean notes) ∙ sym (call_counts entry notes)
calls_clean (load_note load ∷ notes) = calls_clean notes
calls_clean (end_note pid how ∷ notes) = calls_clean notes
calls_clean (stray_note pid seen ∷ notes) = calls_clean notes

-- the parts with these notes are sound too
abbrev pub cleaned : Kept → Kept
cleaned k = record k { notes = clean k.notes }

pub regular_clean : (k : Kept) → Regular k → Regular (cleaned k)
regular_clean k regular = regular_noted k regular (clean k.notes) (omega (arith, calls_clean k.notes)) k.console

pub copies_clean : (k : Kept) → CopiesHold k.regions k.mem k.tree k.notes → HoldsFiles k → CopiesHold k.regions k.mem k.tree (clean k.notes)
copies_clean k copies holds = record {
  hold = λ unstrayed. holds;
  known = copies.known;
  changes = λ id n there. omega (arith, copies.changes id n there, calls_clean k.notes);
  uses = λ id r there. omega (arith, copies.uses id r there, calls_clean k.notes);
}
