-- The parts of a report, by what a machine tells of its world.
use Rattle.std.proofs.Common.{◌≡◌, ℕ, ◌<◌, suc, zero, List, [], ◌∷◌, ◌++◌, length, map, reverse, Bool, Option, sym, ap, subst, ◌∙◌, get_or, arith}
use Rattle.std.specs.Prelude.{Vec}
use Rattle.std.specs.List.{flat_map}
use Rattle.std.proofs.lemmas.List.{length-map, reverse-append, reverse-reverse}
use Rattle.call_log.specs.declared.note.Note.{Note as Stored}
use Rattle.call_log.specs.Notes.{Note}
use Rattle.call_log.specs.Values.{note_value}
use Rattle.call_log.specs.Programs.{IsProgramBelow, paths_of}
use Rattle.machine_world.specs.World.{World, program_path}
use Rattle.machine_world.specs.Programs.{AreLoaded}
use Rattle.machine_world.specs.Turns.{End}
use Rattle.suite_top.specs.Report.{note_text, report_of, report_text, trace_report}
use Rattle.trace_text.specs.Texts.{trace_texts, AreProgramsBelow}

loaded_append : (n : ℕ) (xs ys : List Note) → AreLoaded n xs → AreLoaded n ys → AreLoaded n (xs ++ ys)
loaded_append n [] ys hx hy = hy
loaded_append n (x ∷ xs) ys hx hy = (hx.0, loaded_append n xs ys hx.1 hy)

loaded_reverse : (n : ℕ) (xs : List Note) → AreLoaded n xs → AreLoaded n (reverse xs)
loaded_reverse n [] h = tt
loaded_reverse n (x ∷ xs) h = subst (AreLoaded n) (sym (reverse-append (x ∷ []) xs)) (loaded_append n (reverse xs) (x ∷ []) (loaded_reverse n xs h.1) (h.0, tt))

-- as the texts of a trace ask for it
pub loaded_below : (n : ℕ) (notes : List Note) → AreLoaded n notes → AreProgramsBelow n notes
loaded_below n [] are = tt
loaded_below n (note ∷ notes) are = (are.0, loaded_below n notes are.1)

-- the note at a place
pub loaded_at : (n : ℕ) (notes : List Stored) (i : ℕ) (d : Stored) → AreLoaded n (map note_value notes) → i < length notes → IsProgramBelow n (note_value (get_or notes i d))
loaded_at n [] i d are less = absurd (grind arith)
loaded_at n (x ∷ xs) zero d are less = are.0
loaded_at n (x ∷ xs) (suc i) d are less = loaded_at n xs i d are.1 (grind arith)

module _ {Y : Type 0} (w : World) (notes : List Stored) (paths : List (Vec ℕ Y)) (are : w.notes ≡ reverse (map note_value notes)) (named : paths_of paths ≡ map program_path w.rest.programs) where
  in_order : reverse w.notes ≡ map note_value notes
  in_order = ap reverse are ∙ reverse-reverse (map note_value notes)

  pub loads_below : AreLoaded (length w.rest.programs) w.notes → AreLoaded (length paths) (map note_value notes)
  loads_below loaded =
      let count : length w.rest.programs ≡ length paths = sym (length-map w.rest.programs program_path) ∙ sym (ap length named) ∙ length-map paths (λ path. path.items) in
      subst (λ (n : ℕ). AreLoaded n (map note_value notes)) count (subst (AreLoaded (length w.rest.programs)) in_order (loaded_reverse (length w.rest.programs) w.notes loaded))

  abbrev programs : List (List ℕ)
  programs = map program_path w.rest.programs

  pub is_report : (log : Bool) (shown : List ℕ) (end : Option End) → report_of (flat_map (note_text log (paths_of paths)) (map note_value notes)) shown w end ≡ report_text log shown w end
  unfolding report_text
  is_report log shown end =
      ap (λ (ps : List (List ℕ)). report_of (flat_map (note_text log ps) (map note_value notes)) shown w end) named
      ∙ ap (λ (ns : List Note). report_of (flat_map (note_text log programs) ns) shown w end) (sym in_order)

  pub is_trace_report : (pid : Option ℕ) (counted : Bool) (shown : List ℕ) (end : Option End) → report_of (trace_texts pid counted (paths_of paths) (map note_value notes)) shown w end ≡ trace_report pid counted shown w end
  unfolding trace_report
  is_trace_report pid counted shown end =
      ap (λ (ps : List (List ℕ)). report_of (trace_texts pid counted ps (map note_value notes)) shown w end) named
      ∙ ap (λ (ns : List Note). report_of (trace_texts pid counted programs ns) shown w end) (sym in_order)
