-- Whether the note of a stray access is among notes, in whatever order, and which is the first.
use Rattle.std.proofs.Common.{◌≡◌, ◌≢◌, ℕ, suc, ◌+◌, ◌<◌, ◌≤◌, Bool, true, false, List, [], ◌∷◌, ◌++◌, length, map, reverse, take, drop, get_or, Option, Some, None, refl, sym, ap, ◌∙◌, arith, append_assoc}
use Rattle.std.specs.Prelude.{◌||◌, is_some}
use Rattle.std.proofs.lemmas.List.{map-append, reverse-append, take-append-drop, take_all}
use Rattle.std.proofs.Math.Seq.{take-suc}
use Rattle.byte_words.specs.declared.access.Access.{Access}
use Rattle.call_log.specs.declared.note.Note.{Note as Stored}
use Rattle.call_log.specs.declared.note.Note.TheVariants.{Call, Load, End, Stray}
use Rattle.call_log.specs.Notes.{Note, call_note, load_note, end_note, stray_note}
use Rattle.call_log.specs.Values.{note_value}
use Rattle.memory_world.specs.Physical.{has_stray}
use Rattle.kept_parts.specs.Noted.{first_noted}

stray_or : (xs ys : List Note) → has_stray (xs ++ ys) ≡ (has_stray xs || has_stray ys)
stray_or [] ys = refl
stray_or (call_note entry ∷ xs) ys = stray_or xs ys
stray_or (load_note load ∷ xs) ys = stray_or xs ys
stray_or (end_note pid how ∷ xs) ys = stray_or xs ys
stray_or (stray_note pid seen ∷ xs) ys = refl

or_false : (b : Bool) → (b || false) ≡ b
or_false true = refl
or_false false = refl

or_true : (b : Bool) → (b || true) ≡ true
or_true true = refl
or_true false = refl

last_first : (x : Note) (xs : List Note) → (has_stray xs || has_stray (x ∷ [])) ≡ has_stray (x ∷ xs)
last_first (call_note entry) xs = or_false (has_stray xs)
last_first (load_note load) xs = or_false (has_stray xs)
last_first (end_note pid how) xs = or_false (has_stray xs)
last_first (stray_note pid seen) xs = or_true (has_stray xs)

pub stray_reversed : (xs : List Note) → has_stray (reverse xs) ≡ has_stray xs
stray_reversed [] = refl
stray_reversed (x ∷ xs) =
    ap has_stray (reverse-append (x ∷ []) xs) ∙ stray_or (reverse xs) (x ∷ []) ∙ ap (λ (b : Bool). b || has_stray (x ∷ [])) (stray_reversed xs) ∙ last_first x xs

-- ---- the first one

pub stray_first : (xs : List Note) → has_stray xs ≡ is_some (first_noted xs)
stray_first [] = refl
stray_first (call_note entry ∷ xs) = stray_first xs
stray_first (load_note load ∷ xs) = stray_first xs
stray_first (end_note pid how ∷ xs) = stray_first xs
stray_first (stray_note pid seen ∷ xs) = refl

-- behind notes that have none
first_behind : (xs ys : List Note) → first_noted xs ≡ None → first_noted (xs ++ ys) ≡ first_noted ys
first_behind [] ys none = refl
first_behind (call_note entry ∷ xs) ys none = first_behind xs ys none
first_behind (load_note load ∷ xs) ys none = first_behind xs ys none
first_behind (end_note pid how ∷ xs) ys none = first_behind xs ys none
first_behind (stray_note pid seen ∷ xs) ys none = absurd cc

-- as the loop finds it
module _ (notes : List Stored) (i : ℕ) (d : Stored) (less : i < length notes) (is : d ≡ get_or notes i d) (none : first_noted (map note_value (take i notes)) ≡ None) where
  -- with the note that comes
  first_next : (back : List Stored) → first_noted (map note_value (take i notes ++ d ∷ back)) ≡ first_noted (note_value d ∷ map note_value back)
  first_next back =
      ap first_noted (map-append note_value (take i notes) (d ∷ back)) ∙ first_behind (map note_value (take i notes)) (map note_value (d ∷ back)) none

  taken_next : take (i + 1) notes ≡ take i notes ++ d ∷ []
  taken_next =
      let one : i + 1 ≡ suc i = omega arith in
      ap (λ (n : ℕ). take n notes) one ∙ take-suc notes i d less ∙ ap (λ (n : Stored). take i notes ++ n ∷ []) (sym is)

  pub still_none : ((pid : ℕ) (seen : Access) → d ≢ Stray pid seen) → first_noted (map note_value (take (i + 1) notes)) ≡ None
  still_none other = ap (λ (xs : List Stored). first_noted (map note_value xs)) taken_next ∙ first_next [] ∙ by d other
    where
      by : (n : Stored) → ((pid : ℕ) (seen : Access) → n ≢ Stray pid seen) → first_noted (note_value n ∷ []) ≡ None
      by (Call entry) other = refl
      by (Load pid program base pages) other = refl
      by (End pid how) other = refl
      by (Stray pid seen) other = absurd (other pid seen refl)

  pub finds_first : (pid : ℕ) (seen : Access) → d ≡ Stray pid seen → first_noted (map note_value notes) ≡ Some seen
  finds_first pid seen stray =
      let back : List Stored = drop (i + 1) notes in
      ap (λ (xs : List Stored). first_noted (map note_value xs)) (sym (take-append-drop (i + 1) notes) ∙ ap (λ (xs : List Stored). xs ++ back) taken_next ∙ append_assoc (take i notes) (d ∷ []) back)
      ∙ first_next back ∙ ap (λ (n : Stored). first_noted (note_value n ∷ map note_value back)) stray

pub finds_none : (notes : List Stored) (i : ℕ) → length notes ≤ i → first_noted (map note_value (take i notes)) ≡ None → first_noted (map note_value notes) ≡ None
finds_none notes i all none = ap (λ (xs : List Stored). first_noted (map note_value xs)) (sym (take_all i notes all)) ∙ none
