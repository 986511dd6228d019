-- The entries of a folder, as the map keeps them.
use Rattle.std.proofs.Common.{◌≡◌, ℕ, Bool, true, false, cond, not, List, [], ◌∷◌, map, filter, Some, Vec, refl, sym, ap, ◌∙◌, inl, inr, ◌⊎◌}
use Rattle.std.specs.Str.{bytes_eq}
use Rattle.std.specs.Map.{lookup, keys_of, remove_entry}
use Rattle.std.specs.List.{IsDistinct, AllByRecursion}
use Rattle.std.proofs.lemmas.Slice.Eq.{bytes_eq-Decides}
use Rattle.mem_files.specs.Paths.{named}
use Rattle.mem_files.specs.Seen.{entry_in}

decide : (b : Bool) → (b ≡ true) ⊎ (b ≡ false)
decide true = inl refl
decide false = inr refl

both : (b d : Bool) → (b ≡ true → d ≡ true) → (d ≡ true → b ≡ true) → b ≡ d
both true d there back = sym (there refl)
both false true there back = back refl
both false false there back = refl

pub bytes_eq_turn : (xs ys : List ℕ) → bytes_eq xs ys ≡ bytes_eq ys xs
bytes_eq_turn xs ys =
    both (bytes_eq xs ys) (bytes_eq ys xs)
    (λ h. (bytes_eq-Decides ys xs).1 (sym ((bytes_eq-Decides xs ys).0 h)))
    (λ h. (bytes_eq-Decides xs ys).1 (sym ((bytes_eq-Decides ys xs).0 h)))

module _ {Z : Type 0} (name : List ℕ) where
  pub lookup_named : (es : List (Vec ℕ Z × ℕ)) → lookup (λ k. bytes_eq name k.items) es ≡ named name (map entry_in es)
  lookup_named [] = refl
  lookup_named (e ∷ es) =
      ap (λ (b : Bool). cond b (Some e.1) (lookup (λ k. bytes_eq name k.items) es)) (bytes_eq_turn name e.0.items)
      ∙ ap (λ o. cond (bytes_eq e.0.items name) (Some e.1) o) (lookup_named es)

  -- what isn't there is not taken off
  absent : (es : List (Vec ℕ Z × ℕ)) (k : Vec ℕ Z) → bytes_eq name k.items ≡ true → AllByRecursion (λ y. bytes_eq k.items y.items ≡ false) (keys_of es)
      → filter (λ e. not (bytes_eq e.name name)) (map entry_in es) ≡ map entry_in es
  absent [] k is others = refl
  absent (e ∷ es) k is others =
      let same : name ≡ k.items = (bytes_eq-Decides name k.items).0 is in
      let other : bytes_eq e.0.items name ≡ false = bytes_eq_turn e.0.items name ∙ ap (λ n. bytes_eq n e.0.items) same ∙ others.0 in
      ap (λ (b : Bool). cond (not b) (entry_in e ∷ filter (λ e. not (bytes_eq e.name name)) (map entry_in es)) (filter (λ e. not (bytes_eq e.name name)) (map entry_in es))) other
      ∙ ap (λ l. entry_in e ∷ l) (absent es k is others.1)

  removed_first : (e : Vec ℕ Z × ℕ) (es : List (Vec ℕ Z × ℕ)) (b : Bool) → bytes_eq name e.0.items ≡ b
      → AllByRecursion (λ y. bytes_eq e.0.items y.items ≡ false) (keys_of es)
      → map entry_in (remove_entry (λ k. bytes_eq name k.items) es) ≡ filter (λ e. not (bytes_eq e.name name)) (map entry_in es)
      → map entry_in (remove_entry (λ k. bytes_eq name k.items) (e ∷ es)) ≡ filter (λ e. not (bytes_eq e.name name)) (map entry_in (e ∷ es))
  removed_first e es true is apart more =
      ap (λ (b : Bool). map entry_in (cond b es (e ∷ remove_entry (λ k. bytes_eq name k.items) es))) is
      ∙ sym (absent es e.0 is apart)
      ∙ sym (ap (λ (b : Bool). cond (not b) (entry_in e ∷ filter (λ e. not (bytes_eq e.name name)) (map entry_in es)) (filter (λ e. not (bytes_eq e.name name)) (map entry_in es))) (bytes_eq_turn e.0.items name ∙ is))
  removed_first e es false is apart more =
      ap (λ (b : Bool). map entry_in (cond b es (e ∷ remove_entry (λ k. bytes_eq name k.items) es))) is
      ∙ ap (λ l. entry_in e ∷ l) more
      ∙ sym (ap (λ (b : Bool). cond (not b) (entry_in e ∷ filter (λ e. not (bytes_eq e.name name)) (map entry_in es)) (filter (λ e. not (bytes_eq e.name name)) (map entry_in es))) (bytes_eq_turn e.0.items name ∙ is))

  pub removed : (es : List (Vec ℕ Z × ℕ)) → IsDistinct (λ (a b : Vec ℕ Z). bytes_eq a.items b.items) (keys_of es)
      → map entry_in (remove_entry (λ k. bytes_eq name k.items) es) ≡ filter (λ e. not (bytes_eq e.name name)) (map entry_in es)
  unfolding IsDistinct
  removed [] apart = refl
  removed (e ∷ es) apart = removed_first e es (bytes_eq name e.0.items) refl apart.0 (removed es apart.1)
