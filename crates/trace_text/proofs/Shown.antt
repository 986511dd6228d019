-- The notes that a trace shows, one more at a time.
use Rattle.std.proofs.Common.{◌≡◌, ℕ, zero, suc, ◌+◌, ◌<◌, List, [], ◌∷◌, ◌++◌, map, length, get_or, take, None, Some, refl, sym, ap, ◌∙◌, arith}
use Rattle.std.specs.Prelude.{Option}
use Rattle.std.specs.Option.{option_to_list}
use Rattle.std.specs.List.{filter_map}
use Rattle.std.proofs.lemmas.List.{map_more}
use Rattle.std.proofs.lemmas.List.Elements.{filter_map-append}
use Rattle.call_log.specs.declared.note.Note.{Note as Stored}
use Rattle.call_log.specs.Notes.{CallEntry, Note}
use Rattle.call_log.specs.Values.{note_value}
use Rattle.call_log.specs.Programs.{IsProgramBelow}
use Rattle.trace_text.specs.Counts.{shown_call, shown_calls}
use Rattle.trace_text.specs.Texts.{AreProgramsBelow}

-- the note at a place
pub below_at : (n : ℕ) (notes : List Stored) (i : ℕ) (d : Stored) → AreProgramsBelow n (map note_value notes) → i < length notes → IsProgramBelow n (note_value (get_or notes i d))
below_at n [] i d are less = absurd (omega arith)
below_at n (x ∷ xs) zero d are less = are.0
below_at n (x ∷ xs) (suc i) d are less = below_at n xs i d are.1 (omega arith)

one_shown : (call : Option CallEntry) (calls : List CallEntry) → filter_map (λ (c : Option CallEntry). c) (call ∷ []) ≡ option_to_list call
one_shown None calls = refl
one_shown (Some e) calls = refl

shown_one : (pid : Option ℕ) (note : Note) → shown_calls pid (note ∷ []) ≡ option_to_list (shown_call pid note)
shown_one pid note = one_shown (shown_call pid note) []

pub shown_more : (pid : Option ℕ) (notes : List Stored) (i : ℕ) (d : Stored) → i < length notes
    → shown_calls pid (map note_value (take i notes)) ++ option_to_list (shown_call pid (note_value (get_or notes i d))) ≡ shown_calls pid (map note_value (take (i + 1) notes))
shown_more pid notes i d less =
    let front = map note_value (take i notes) in
    let note = note_value (get_or notes i d) in
    sym (ap (shown_calls pid) (map_more note_value notes i d less) ∙ filter_map-append (shown_call pid) front (note ∷ []) ∙ ap (λ (calls : List CallEntry). shown_calls pid front ++ calls) (shown_one pid note))
