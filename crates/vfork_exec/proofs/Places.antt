-- The search for a number's place, and what stands there.
use Rattle.std.proofs.Common.{◌≡◌, ◌≢◌, ℕ, zero, suc, ◌+◌, ◌<◌, ◌≤◌, true, false, List, [], ◌∷◌, length, get_or, Option, Some, None, inl, inr, refl, sym, ap, ◌∙◌, arith}
use Rattle.std.specs.Prelude.{IsSome, slice_get}
use Rattle.std.proofs.lemmas.Bool.{cases_lt}
use Rattle.std.proofs.lemmas.Option.{slice_get_within, slice_get_read, same_Some, none-some}
use Rattle.vfork_exec.specs.Keyed.{find, place_of, Falls}
use Rattle.vfork_exec.proofs.Keyed.{place_head, place_item, eqb_same, eqb_other}

module _ {A : Type 0} (key : A → ℕ) (k : ℕ) (xs : List A) where
  some : (o : Option A) → find key k xs ≡ o → IsSome o → (x : A) × (find key k xs ≡ Some x)
  some (Some x) is h = (x, is)
  some None is h = absurd cc

  -- what is found
  pub found : IsSome (find key k xs) → (x : A) × (find key k xs ≡ Some x)
  found h = some (find key k xs) refl h

  pub within : IsSome (find key k xs) → place_of key k xs < length xs
  within h = let f = found h in slice_get_within xs (place_of key k xs) f.0 (place_item key k xs ∙ f.1)

  -- the item at the place
  pub item_at : (at : ℕ) (x : A) → at ≡ place_of key k xs → at < length xs → x ≡ get_or xs at x → find key k xs ≡ Some x
  item_at at x place below is = sym (ap (λ n. slice_get xs n) place ∙ place_item key k xs) ∙ slice_get_read xs (length xs) at x refl below is

-- ---- numbers that fall, by place

module _ {A : Type 0} (key : A → ℕ) where
  falls_below : (b : ℕ) (xs : List A) → Falls key b xs → (j : ℕ) (y : A) → slice_get xs j ≡ Some y → key y < b
  falls_below b [] f j y is = absurd (none-some y is)
  falls_below b (x ∷ xs) f zero y is = let e : key x ≡ key y = ap key (same_Some _ _ is) in omega (arith, e, f.0)
  falls_below b (x ∷ xs) f (suc j) y is = omega (arith, falls_below (key x) xs f.1 j y is, f.0)

  pub falls_at : (b : ℕ) (xs : List A) → Falls key b xs → (i j : ℕ) (x y : A) → slice_get xs i ≡ Some x → slice_get xs j ≡ Some y → i ≤ j → key y ≤ key x
  falls_at b [] f i j x y at is le = absurd (none-some x at)
  falls_at b (z ∷ zs) f zero zero x y at is le = let e : key z ≡ key x = ap key (same_Some _ _ at) in let d : key z ≡ key y = ap key (same_Some _ _ is) in omega (arith, e, d)
  falls_at b (z ∷ zs) f zero (suc j) x y at is le = let e : key z ≡ key x = ap key (same_Some _ _ at) in omega (arith, e, falls_below (key z) zs f.1 j y is)
  falls_at b (z ∷ zs) f (suc i) zero x y at is le = absurd (omega (arith, le))
  falls_at b (z ∷ zs) f (suc i) (suc j) x y at is le = falls_at (key z) zs f.1 i j x y at is (omega (arith, le))

  -- the numbers before place `low` are above k, and those from place `high` on aren't
  pub record Between (k low high : ℕ) (xs : List A) : Type 0 where
    pub order : low ≤ high
    pub inside : high ≤ length xs
    pub above : (j : ℕ) (y : A) → slice_get xs j ≡ Some y → j < low → k < key y
    pub below : (j : ℕ) (y : A) → slice_get xs j ≡ Some y → high ≤ j → key y ≤ k

  pub between_all : (k : ℕ) (xs : List A) → Between k 0 (length xs) xs
  between_all k xs = record {
    order = omega arith;
    inside = omega arith;
    above = λ j y is less. absurd (omega (arith, less));
    below = λ j y is past. absurd (omega (arith, past, slice_get_within xs j y is));
  }

  pub between_later : (b k low high middle : ℕ) (xs : List A) (x : A) → Falls key b xs → Between k low high xs → slice_get xs middle ≡ Some x → middle < high
      → k < key x → Between k (middle + 1) high xs
  between_later b k low high middle xs x f h at less more = record {
    order = omega (arith, less);
    inside = h.inside;
    above = λ j y is under. omega (arith, more, falls_at b xs f j middle y x is at (omega (arith, under)));
    below = h.below;
  }

  pub between_earlier : (b k low high middle : ℕ) (xs : List A) (x : A) → Falls key b xs → Between k low high xs → slice_get xs middle ≡ Some x → low ≤ middle → middle < high
      → key x ≤ k → Between k low middle xs
  between_earlier b k low high middle xs x f h at least less few = record {
    order = least;
    inside = omega (arith, less, h.inside);
    above = h.above;
    below = λ j y is past. omega (arith, few, falls_at b xs f middle j x y at is past);
  }

  first_at : (k : ℕ) (xs : List A) (i : ℕ) (x : A) → slice_get xs i ≡ Some x → key x ≡ k → ((j : ℕ) (y : A) → slice_get xs j ≡ Some y → j < i → k < key y) → i ≡ place_of key k xs
  first_at k [] i x at is above = absurd (none-some x at)
  first_at k (z ∷ zs) zero x at is above =
      let e : key z ≡ key x = ap key (same_Some _ _ at) in
      sym (place_head key k z zs true (eqb_same (key z) k (e ∙ is)))
  first_at k (z ∷ zs) (suc i) x at is above =
      let more : k < key z = above 0 z refl (omega arith) in
      let later = first_at k zs i x at is (λ j y there less. above (suc j) y there (omega (arith, less))) in
      ap suc later ∙ sym (place_head key k z zs false (eqb_other (key z) k (λ e. absurd (omega (arith, more, e)))))

  none_at : (k : ℕ) (xs : List A) → ((j : ℕ) (y : A) → slice_get xs j ≡ Some y → key y ≢ k) → length xs ≡ place_of key k xs
  unfolding place_of
  none_at k [] other = refl
  none_at k (z ∷ zs) other =
      ap suc (none_at k zs (λ j y there. other (suc j) y there)) ∙ sym (place_head key k z zs false (eqb_other (key z) k (other 0 z refl)))

  -- the search has come together
  pub found_at : (k low high : ℕ) (xs : List A) (x : A) → Between k low high xs → slice_get xs low ≡ Some x → key x ≡ k → low ≡ place_of key k xs
  found_at k low high xs x h at is = first_at k xs low x at is h.above

  pub not_found : (b k low high : ℕ) (xs : List A) (x : A) → Falls key b xs → Between k low high xs → high ≤ low → slice_get xs low ≡ Some x → key x ≢ k → length xs ≡ place_of key k xs
  not_found b k low high xs x f h met at other = none_at k xs (λ j y there is. elim (cases_lt j low) [
    | inl under ↦ omega (arith, h.above j y there under, is)
    | inr past ↦ other (let few = h.below low x at met in let least = falls_at b xs f low j x y at there past in omega (arith, few, least, is))
  ])

  pub not_there : (k low high : ℕ) (xs : List A) → Between k low high xs → length xs ≤ low → length xs ≡ place_of key k xs
  not_there k low high xs h past = none_at k xs (λ j y there is. omega (arith, h.above j y there (omega (arith, past, slice_get_within xs j y there)), is))
