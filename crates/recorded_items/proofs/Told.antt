-- What is told of a space after one note more.
use Rattle.std.proofs.Common.{◌≡◌, ◌≢◌, ℕ, ◌+◌, ◌<◌, Bool, true, false, List, [], ◌∷◌, ◌++◌, map, reverse, length, take, get_or, refl, sym, ap, ◌∙◌, subst, append-nil}
use Rattle.std.specs.Prelude.{if◌then◌else◌}
use Rattle.std.proofs.lemmas.List.{map-append, reverse-append, map_more}
use Rattle.call_log.specs.Notes.{CallEntry, Note, call_note}
use Rattle.call_log.specs.declared.note.Entry.{Entry}
use Rattle.call_log.specs.declared.note.Note.{Note as Stored}
use Rattle.call_log.specs.declared.note.Note.TheVariants.{Call, Load, End, Stray}
use Rattle.call_log.specs.Values.{note_value}
use Rattle.items_text.specs.Items.{ItemValue}
use Rattle.recording_laws.specs.Homes.{home, is_in, calls_at}
use Rattle.recording_laws.specs.Items.{with_lists}
use Rattle.recorded_items.specs.Recorded.{told_item}
use Rattle.recorded_items.specs.Left.{item_with, left_by, lists_left}
use Rattle.recorded_items.proofs.Left.{with_more, left_more}

-- the calls with what they brought, and what is left
pub record AreTold (space : ℕ) (all : List (List ℕ)) (items : List ItemValue) (lists : List (List ℕ)) (notes : List Note) : Type 0 where
  pub told : items ≡ map told_item (with_lists (calls_at space notes) all)
  pub left : lists ≡ lists_left (calls_at space notes) all

called : (space : ℕ) (e : CallEntry) (notes : List Note) (b : Bool) → is_in space (home e.pid notes) ≡ b
    → calls_at space (call_note e ∷ notes) ≡ calls_at space notes ++ (if b then e ∷ [] else [])
unfolding calls_at
called space e notes b is = ap (λ (t : Bool). calls_at space notes ++ (if t then e ∷ [] else [])) is

module _ (space : ℕ) (all : List (List ℕ)) (items : List ItemValue) (lists : List (List ℕ)) (notes : List Note) (t : AreTold space all items lists notes) where
  by_calls : (note : Note) → calls_at space (note ∷ notes) ≡ calls_at space notes → AreTold space all items lists (note ∷ notes)
  by_calls note same = record {
    told = t.told ∙ ap (λ calls. map told_item (with_lists calls all)) (sym same);
    left = t.left ∙ ap (λ calls. lists_left calls all) (sym same);
  }

  pub call_told : (e : CallEntry) → is_in space (home e.pid notes) ≡ true → AreTold space all (items ++ told_item (item_with e lists) ∷ []) (left_by e lists) (call_note e ∷ notes)
  call_told e inside =
      let calls = calls_at space notes in
      let longer = called space e notes true inside in
      record {
        told =
            ap (λ is. is ++ told_item (item_with e lists) ∷ []) t.told
            ∙ ap (λ ls. map told_item (with_lists calls all) ++ told_item (item_with e ls) ∷ []) t.left
            ∙ sym (map-append told_item (with_lists calls all) (item_with e (lists_left calls all) ∷ []))
            ∙ ap (map told_item) (sym (with_more calls e all))
            ∙ ap (λ cs. map told_item (with_lists cs all)) (sym longer);
        left = ap (left_by e) t.left ∙ sym (left_more calls e all) ∙ ap (λ cs. lists_left cs all) (sym longer);
      }

  pub call_untold : (e : CallEntry) → is_in space (home e.pid notes) ≡ false → AreTold space all items lists (call_note e ∷ notes)
  call_untold e outside = by_calls (call_note e) (called space e notes false outside ∙ append-nil (calls_at space notes))

  pub none_told : (note : Stored) → ((e : Entry) → note ≢ Call e) → AreTold space all items lists (note_value note ∷ notes)
  unfolding calls_at
  none_told (Call e) other = absurd (other e refl)
  none_told (Load pid program base pages) other = by_calls (note_value (Load pid program base pages)) refl
  none_told (End pid how) other = by_calls (note_value (End pid how)) refl
  none_told (Stray pid seen) other = by_calls (note_value (Stray pid seen)) refl

-- as the code has it
pub becomes : {space : ℕ} {all : List (List ℕ)} {items told : List ItemValue} {lists left : List (List ℕ)} {notes : List Note} {note one : Note} → told ≡ items → left ≡ lists → one ≡ note
    → AreTold space all items lists (note ∷ notes) → AreTold space all told left (one ∷ notes)
becomes {space} {all} {items} {told} {lists} {left} {notes} {note} {one} same rest is t =
    subst (λ n. AreTold space all told left (n ∷ notes)) (sym is) (record { told = same ∙ t.told; left = rest ∙ t.left })

-- one note more, newest first
pub note_more : (notes : List Stored) (i : ℕ) (one : Stored) → i < length notes → one ≡ get_or notes i one
    → reverse (map note_value (take (i + 1) notes)) ≡ note_value one ∷ reverse (map note_value (take i notes))
note_more notes i one less is =
    ap reverse (map_more note_value notes i one less) ∙ reverse-append (map note_value (take i notes)) (note_value (get_or notes i one) ∷ [])
    ∙ ap (λ n. note_value n ∷ reverse (map note_value (take i notes))) (sym is)
