-- What is read one behind the other.
use Rattle.std.proofs.Common.{◌≡◌, ℕ, zero, suc, ◌<◌, ◌≤◌, List, [], ◌∷◌, ◌++◌, length, Some, None, refl, sym, ap, ◌∙◌, append_assoc, arith}
use Rattle.std.specs.List.{AllByRecursion, flat_map}
use Rattle.std.proofs.lemmas.List.{append-nil}
use Rattle.items_text.specs.Pieces.{Front, many_behind, many_within, many}

-- what is read leaves less
abbrev pub Consumes : {X : Type 0} → (List ℕ → Front X) → Type 0
Consumes {X} read = (text rest : List ℕ) (x : X) → read text ≡ Some (x, rest) → length rest < length text

-- these, and then those
abbrev pub with_front : {X : Type 0} → List X → List X × List ℕ → List X × List ℕ
with_front front r = (front ++ r.0, r.1)

behind_agrees : {X : Type 0} (f g : List ℕ → List X × List ℕ) (text : List ℕ) (o : Front X) → ((x : X) (rest : List ℕ) → o ≡ Some (x, rest) → f rest ≡ g rest) → many_behind f text o ≡ many_behind g text o
behind_agrees f g text None h = refl
behind_agrees f g text (Some (x, rest)) h = ap (λ r. (x ∷ r.0, r.1)) (h x rest refl)

module _ {X : Type 0} (read : List ℕ → Front X) (less : Consumes read) where
  none_of_none : (text : List ℕ) (o : Front X) → read text ≡ o → length text ≤ 0 → (f : List ℕ → List X × List ℕ) → many_behind f text o ≡ ([], text)
  none_of_none text None is short f = refl
  none_of_none text (Some (x, rest)) is short f = absurd (omega (arith, less text rest x is, short))

  -- it doesn't matter how many steps there may be, where they are enough
  enough : (m n : ℕ) (text : List ℕ) → length text ≤ m → length text ≤ n → many_within read m text ≡ many_within read n text
  enough zero zero text hm hn = refl
  enough zero (suc n) text hm hn = sym (none_of_none text (read text) refl hm (many_within read n))
  enough (suc m) zero text hm hn = none_of_none text (read text) refl hn (many_within read m)
  enough (suc m) (suc n) text hm hn = behind_agrees (many_within read m) (many_within read n) text (read text) (λ x rest is. enough m n rest (omega (arith, less text rest x is, hm)) (omega (arith, less text rest x is, hn)))

  opened : (text : List ℕ) → many read text ≡ many_behind (many_within read (length text)) text (read text)
  unfolding many
  opened text = enough (length text) (suc (length text)) text (omega arith) (omega arith)

  pub many_stops : (text : List ℕ) → read text ≡ None → many read text ≡ ([], text)
  many_stops text is = opened text ∙ ap (many_behind (many_within read (length text)) text) is

  pub many_steps : (text rest : List ℕ) (x : X) → read text ≡ Some (x, rest) → many read text ≡ (x ∷ (many read rest).0, (many read rest).1)
  unfolding many
  many_steps text rest x is =
      opened text
      ∙ ap (many_behind (many_within read (length text)) text) is
      ∙ ap (λ (r : List X × List ℕ). (x ∷ r.0, r.1)) (enough (length text) (length rest) rest (omega (arith, less text rest x is)) (omega arith))

  -- of a loop: one more
  pub more_read : (front : List X) (text rest : List ℕ) (x : X) (whole : List X × List ℕ) → read text ≡ Some (x, rest) → with_front front (many read text) ≡ whole → with_front (front ++ x ∷ []) (many read rest) ≡ whole
  more_read front text rest x whole is so_far =
      ap (λ xs. (xs, (many read rest).1)) (append_assoc front (x ∷ []) (many read rest).0)
      ∙ ap (with_front front) (sym (many_steps text rest x is))
      ∙ so_far

  -- and its end
  pub all_read : (front : List X) (text : List ℕ) (whole : List X × List ℕ) → read text ≡ None → with_front front (many read text) ≡ whole → (front, text) ≡ whole
  all_read front text whole is so_far = ap (λ xs. (xs, text)) (sym (append-nil front)) ∙ ap (with_front front) (sym (many_stops text is)) ∙ so_far

  module _ (P : X → Type 0) (spell : X → List ℕ) where
    abbrev pub Found : List ℕ → List X × List ℕ → Type 0
    Found text r = AllByRecursion P r.0 × (text ≡ flat_map spell r.0 ++ r.1) × (read r.1 ≡ None)

    one_found : (text : List ℕ) (x : X) (rest : List ℕ) (r : List X × List ℕ) → P x → text ≡ spell x ++ rest → Found rest r → Found text (x ∷ r.0, r.1)
    one_found text x rest r is spelled more = ((is, more.0), spelled ∙ ap (λ t. spell x ++ t) more.1 ∙ sym (append_assoc (spell x) (flat_map spell r.0) r.1), more.2)

    module _ (found : (text rest : List ℕ) (x : X) → read text ≡ Some (x, rest) → P x × (text ≡ spell x ++ rest)) where
      none_here : (text : List ℕ) (o : Front X) → read text ≡ o → length text ≤ 0 → o ≡ None
      none_here text None is short = refl
      none_here text (Some (x, rest)) is short = absurd (omega (arith, less text rest x is, short))

      found_here : (more : List ℕ → List X × List ℕ) (text : List ℕ) (o : Front X) → read text ≡ o → ((rest : List ℕ) → length rest < length text → Found rest (more rest)) → Found text (many_behind more text o)
      found_here more text None is later = (tt, refl, is)
      found_here more text (Some (x, rest)) is later = let f = found text rest x is in one_found text x rest (more rest) f.0 f.1 (later rest (less text rest x is))

      found_within : (n : ℕ) (text : List ℕ) → length text ≤ n → Found text (many_within read n text)
      found_within zero text short = (tt, refl, none_here text (read text) refl short)
      found_within (suc n) text short = found_here (many_within read n) text (read text) refl (λ rest below. found_within n rest (omega (arith, below, short)))

      pub many_found : (text : List ℕ) → Found text (many read text)
      unfolding many
      many_found text = found_within (length text) text (omega arith)

    module _ (again : (x : X) (rest : List ℕ) → P x → read (spell x ++ rest) ≡ Some (x, rest)) where
      pub many_again : (xs : List X) (rest : List ℕ) → AllByRecursion P xs → read rest ≡ None → many read (flat_map spell xs ++ rest) ≡ (xs, rest)
      many_again [] rest all none = many_stops rest none
      many_again (x ∷ xs) rest all none =
          ap (many read) (append_assoc (spell x) (flat_map spell xs) rest)
          ∙ many_steps (spell x ++ (flat_map spell xs ++ rest)) (flat_map spell xs ++ rest) x (again x (flat_map spell xs ++ rest) all.0)
          ∙ ap (λ (r : List X × List ℕ). (x ∷ r.0, r.1)) (many_again xs rest all.1 none)
