-- Laws of lists whose items have numbers of their own.
use Rattle.std.proofs.Common.{◌≡◌, ◌≢◌, ℕ, suc, ◌<◌, ◌≤◌, Bool, true, false, not, cond, ◌⊎◌, inl, inr, List, [], ◌∷◌, map, length, set, Some, None, refl, sym, ap, subst, ◌∙◌, arith}
use Rattle.std.specs.Prelude.{◌==◌, ◌||◌, nat_lt, is_some, IsSome, filter, slice_get, option_map}
use Rattle.std.specs.List.{remove, list_any}
use Rattle.std.proofs.lemmas.Bool.Decides.{nat_tests}
use Rattle.vfork_exec.specs.Keyed.{find, change, without, place_of, Falls}

pub decide : (b : Bool) → (b ≡ true) ⊎ (b ≡ false)
decide true = inl refl
decide false = inr refl

pub eqb_other : (n k : ℕ) → n ≢ k → (n == k) ≡ false
eqb_other n k h = grind (arith, nat_tests)

pub eqb_same : (n k : ℕ) → n ≡ k → (n == k) ≡ true
eqb_same n k h = grind (arith, nat_tests)

pub eqb_is : (n k : ℕ) → (n == k) ≡ true → n ≡ k
eqb_is n k h = grind (arith, nat_tests)

lt_suc : (n : ℕ) → nat_lt 0 (suc n) ≡ true
lt_suc n = grind (arith, nat_tests)

lt_both : (m n : ℕ) → nat_lt (suc m) (suc n) ≡ nat_lt m n
lt_both m n = grind (arith, nat_tests)

pub falls_more : {A : Type 0} (key : A → ℕ) (b c : ℕ) (xs : List A) → b ≤ c → Falls key b xs → Falls key c xs
falls_more key b c [] le f = tt
falls_more key b c (x ∷ xs) le f = (omega (arith, f.0, le), f.1)

-- ---- a test at a list's head

any_head : {A : Type 0} (p : A → Bool) (x : A) (xs : List A) (b : Bool) → p x ≡ b → list_any p (x ∷ xs) ≡ (b || list_any p xs)
any_head p x xs b is = ap (λ t. t || list_any p xs) is

any_here : {A : Type 0} (p : A → Bool) (x : A) (xs : List A) → p x ≡ true → list_any p (x ∷ xs) ≡ true
any_here p x xs is = any_head p x xs true is

pub any_there : {A : Type 0} (p : A → Bool) (x : A) (xs : List A) → list_any p xs ≡ true → list_any p (x ∷ xs) ≡ true
any_there p x xs is = elim (decide (p x)) [
  | inl here ↦ any_head p x xs true here
  | inr here ↦ any_head p x xs false here ∙ is
]

pub any_map : {A B : Type 0} (p : B → Bool) (q : A → Bool) (g : A → B) → ((x : A) → p (g x) ≡ q x) → (xs : List A) → list_any p (map g xs) ≡ list_any q xs
any_map p q g same [] = refl
any_map p q g same (x ∷ xs) = ap (λ t. t || list_any p (map g xs)) (same x) ∙ ap (λ t. q x || t) (any_map p q g same xs)

filter_head : {A : Type 0} (p : A → Bool) (x : A) (xs : List A) (b : Bool) → p x ≡ b → filter p (x ∷ xs) ≡ cond b (x ∷ filter p xs) (filter p xs)
filter_head p x xs b is = ap (λ t. cond t (x ∷ filter p xs) (filter p xs)) is

module _ {A : Type 0} (key : A → ℕ) (k : ℕ) where
  -- ---- the words at a list's head

  pub find_head : (x : A) (xs : List A) (b : Bool) → (key x == k) ≡ b → find key k (x ∷ xs) ≡ cond b (Some x) (find key k xs)
  unfolding find
  find_head x xs b is = ap (λ (t : Bool). cond t (Some x) (find key k xs)) is

  pub change_head : (f : A → A) (x : A) (xs : List A) (b : Bool) → (key x == k) ≡ b → change key k f (x ∷ xs) ≡ cond b (f x ∷ xs) (x ∷ change key k f xs)
  unfolding change
  change_head f x xs b is = ap (λ (t : Bool). cond t (f x ∷ xs) (x ∷ change key k f xs)) is

  pub without_head : (x : A) (xs : List A) (b : Bool) → (key x == k) ≡ b → without key k (x ∷ xs) ≡ cond (not b) (x ∷ without key k xs) (without key k xs)
  unfolding without
  without_head x xs b is = ap (λ (t : Bool). cond (not t) (x ∷ filter (λ y. not (key y == k)) xs) (filter (λ y. not (key y == k)) xs)) is

  pub place_head : (x : A) (xs : List A) (b : Bool) → (key x == k) ≡ b → place_of key k (x ∷ xs) ≡ cond b 0 (suc (place_of key k xs))
  unfolding place_of
  place_head x xs b is = ap (λ (t : Bool). cond t 0 (suc (place_of key k xs))) is

  -- ---- the place of an item

  pub place_item : (xs : List A) → slice_get xs (place_of key k xs) ≡ find key k xs
  unfolding find
  place_item [] = refl
  place_item (x ∷ xs) = elim (decide (key x == k)) [
    | inl is ↦ rw (place_head x xs true is, find_head x xs true is) refl
    | inr is ↦ rw (place_head x xs false is, find_head x xs false is) (place_item xs)
  ]

  pub is_there : (xs : List A) → nat_lt (place_of key k xs) (length xs) ≡ is_some (find key k xs)
  unfolding find place_of
  is_there [] = refl
  is_there (x ∷ xs) = elim (decide (key x == k)) [
    | inl is ↦ rw (place_head x xs true is, find_head x xs true is) (lt_suc (length xs))
    | inr is ↦ rw (place_head x xs false is, find_head x xs false is) (lt_both (place_of key k xs) (length xs) ∙ is_there xs)
  ]

  -- where there is no such item nothing changes
  pub none_changed : (f : A → A) (xs : List A) → is_some (find key k xs) ≡ false → change key k f xs ≡ xs
  unfolding find change
  none_changed f [] none = refl
  none_changed f (x ∷ xs) none = elim (decide (key x == k)) [
    | inl is ↦ let wrong : true ≡ false = ap is_some (sym (find_head x xs true is)) ∙ none in absurd cc
    | inr is ↦ change_head f x xs false is ∙ ap (λ (ys : List A). x ∷ ys) (none_changed f xs (ap is_some (sym (find_head x xs false is)) ∙ none))
  ]

  pub change_at : (f : A → A) (xs : List A) (x : A) → find key k xs ≡ Some x → set xs (place_of key k xs) (f x) ≡ change key k f xs
  unfolding find
  change_at f [] x h = absurd cc
  change_at f (y ∷ ys) x h = elim (decide (key y == k)) [
    | inl is ↦ let same : y ≡ x = let e = sym (find_head y ys true is) ∙ h in cc in rw (place_head y ys true is, change_head f y ys true is) (ap (λ z. f z ∷ ys) (sym same))
    | inr is ↦ let e = sym (find_head y ys false is) ∙ h in rw (place_head y ys false is, change_head f y ys false is) (ap (λ zs. y ∷ zs) (change_at f ys x e))
  ]

  -- ---- numbers that fall

  -- nothing below has the number
  pub none_below : (b : ℕ) (xs : List A) → Falls key b xs → b ≤ k → without key k xs ≡ xs
  unfolding without
  none_below b [] f h = refl
  none_below b (x ∷ xs) f h =
      let ne : key x ≢ k = omega (arith, f.0, h) in
      without_head x xs false (eqb_other (key x) k ne) ∙ ap (λ zs. x ∷ zs) (none_below (key x) xs f.1 (omega (arith, f.0, h)))

  pub without_at : (b : ℕ) (xs : List A) → Falls key b xs → IsSome (find key k xs) → remove xs (place_of key k xs) ≡ without key k xs
  unfolding find
  without_at b [] f h = absurd cc
  without_at b (x ∷ xs) f h = elim (decide (key x == k)) [
    | inl is ↦ rw (place_head x xs true is, without_head x xs true is) (sym (none_below (key x) xs f.1 (let e = eqb_is (key x) k is in omega (arith, e))))
    | inr is ↦ rw (place_head x xs false is, without_head x xs false is) (ap (λ zs. x ∷ zs) (without_at (key x) xs f.1 (subst IsSome (find_head x xs false is) h)))
  ]

  pub falls_without : (b : ℕ) (xs : List A) → Falls key b xs → Falls key b (without key k xs)
  unfolding without
  falls_without b [] f = tt
  falls_without b (x ∷ xs) f = elim (decide (key x == k)) [
    | inl is ↦ rw (without_head x xs true is) (falls_more key (key x) b (without key k xs) (omega (arith, f.0)) (falls_without (key x) xs f.1))
    | inr is ↦ rw (without_head x xs false is) (f.0, falls_without (key x) xs f.1)
  ]

  pub length_without : (xs : List A) → length (without key k xs) ≤ length xs
  unfolding without
  length_without [] = omega arith
  length_without (x ∷ xs) = elim (decide (key x == k)) [
    | inl is ↦ rw (without_head x xs true is) (omega (arith, length_without xs))
    | inr is ↦ rw (without_head x xs false is) (omega (arith, length_without xs))
  ]

  -- where one has the number, one is less
  pub length_gone : (xs : List A) → IsSome (find key k xs) → length (without key k xs) < length xs
  unfolding find
  length_gone [] h = absurd cc
  length_gone (x ∷ xs) h = elim (decide (key x == k)) [
    | inl is ↦ rw (without_head x xs true is) (omega (arith, length_without xs))
    | inr is ↦ rw (without_head x xs false is) (omega (arith, length_gone xs (subst IsSome (find_head x xs false is) h)))
  ]

  pub falls_change : (f : A → A) → ((x : A) → key (f x) ≡ key x) → (b : ℕ) (xs : List A) → Falls key b xs → Falls key b (change key k f xs)
  unfolding change
  falls_change f same b [] h = tt
  falls_change f same b (x ∷ xs) h = elim (decide (key x == k)) [
    | inl is ↦ rw (change_head f x xs true is) (subst (λ n. (n < b) × Falls key n xs) (sym (same x)) h)
    | inr is ↦ rw (change_head f x xs false is) (h.0, falls_change f same (key x) xs h.1)
  ]

  -- ---- what is found

  pub find_key : (xs : List A) (x : A) → find key k xs ≡ Some x → key x ≡ k
  unfolding find
  find_key [] x h = absurd cc
  find_key (y ∷ ys) x h = elim (decide (key y == k)) [
    | inl is ↦ let same : y ≡ x = let e = sym (find_head y ys true is) ∙ h in cc in ap key (sym same) ∙ eqb_is (key y) k is
    | inr is ↦ find_key ys x (sym (find_head y ys false is) ∙ h)
  ]

  pub find_below : (b : ℕ) (xs : List A) (x : A) → Falls key b xs → find key k xs ≡ Some x → k < b
  unfolding find
  find_below b [] x f h = absurd cc
  find_below b (y ∷ ys) x f h = elim (decide (key y == k)) [
    | inl is ↦ let e = eqb_is (key y) k is in omega (arith, e, f.0)
    | inr is ↦ let e = find_below (key y) ys x f.1 (sym (find_head y ys false is) ∙ h) in omega (arith, e, f.0)
  ]

  -- behind an item of another number
  pub find_later : (x : A) (xs : List A) → key x ≢ k → find key k (x ∷ xs) ≡ find key k xs
  find_later x xs other = find_head x xs false (eqb_other (key x) k other)

  pub lives_later : (x : A) (xs : List A) → IsSome (find key k xs) → IsSome (find key k (x ∷ xs))
  lives_later x xs h = elim (decide (key x == k)) [
    | inl is ↦ rw (find_head x xs true is) refl
    | inr is ↦ rw (find_head x xs false is) h
  ]

  -- an item that is found passes
  pub found_any : (p : A → Bool) (xs : List A) (x : A) → find key k xs ≡ Some x → p x ≡ true → list_any p xs ≡ true
  unfolding find
  found_any p [] x h is = absurd cc
  found_any p (y ∷ ys) x h is = elim (decide (key y == k)) [
    | inl here ↦ let same : y ≡ x = let e = sym (find_head y ys true here) ∙ h in cc in any_here p y ys (ap p same ∙ is)
    | inr here ↦ any_there p y ys (found_any p ys x (sym (find_head y ys false here) ∙ h) is)
  ]

  -- ---- finding after a change

  pub find_changed : (f : A → A) → ((x : A) → key (f x) ≡ key x) → (xs : List A) → find key k (change key k f xs) ≡ option_map f (find key k xs)
  unfolding find change
  find_changed f same [] = refl
  find_changed f same (x ∷ xs) = elim (decide (key x == k)) [
    | inl is ↦ rw (change_head f x xs true is, find_head x xs true is, find_head (f x) xs true (ap (λ n. n == k) (same x) ∙ is)) refl
    | inr is ↦ rw (change_head f x xs false is, find_head x xs false is, find_head x (change key k f xs) false is) (find_changed f same xs)
  ]

  -- a test that the change doesn't reach
  pub any_change : (p : A → Bool) (f : A → A) → ((x : A) → p (f x) ≡ p x) → (xs : List A) → list_any p (change key k f xs) ≡ list_any p xs
  unfolding change
  any_change p f same [] = refl
  any_change p f same (x ∷ xs) = elim (decide (key x == k)) [
    | inl is ↦ rw (change_head f x xs true is) (ap (λ t. t || list_any p xs) (same x))
    | inr is ↦ rw (change_head f x xs false is) (ap (λ t. p x || t) (any_change p f same xs))
  ]

  pub find_gone : (xs : List A) → find key k (without key k xs) ≡ None
  unfolding find without
  find_gone [] = refl
  find_gone (x ∷ xs) = elim (decide (key x == k)) [
    | inl is ↦ rw (without_head x xs true is) (find_gone xs)
    | inr is ↦ rw (without_head x xs false is, find_head x (without key k xs) false is) (find_gone xs)
  ]

  pub length_change : (f : A → A) (xs : List A) → length (change key k f xs) ≡ length xs
  unfolding change
  length_change f [] = refl
  length_change f (x ∷ xs) = elim (decide (key x == k)) [
    | inl is ↦ rw (change_head f x xs true is) refl
    | inr is ↦ rw (change_head f x xs false is) (ap suc (length_change f xs))
  ]

  pub keys_change : (f : A → A) → ((x : A) → key (f x) ≡ key x) → (xs : List A) → map key (change key k f xs) ≡ map key xs
  unfolding change
  keys_change f same [] = refl
  keys_change f same (x ∷ xs) = elim (decide (key x == k)) [
    | inl is ↦ rw (change_head f x xs true is) (ap (λ n. n ∷ map key xs) (same x))
    | inr is ↦ rw (change_head f x xs false is) (ap (λ ns. key x ∷ ns) (keys_change f same xs))
  ]

-- at another number
module _ {A : Type 0} (key : A → ℕ) (k j : ℕ) (other : j ≢ k) where
  apart : (x : A) → key x ≡ k → (key x == j) ≡ false
  apart x is = eqb_other (key x) j (λ e. other (sym e ∙ is))

  beside : (x : A) (xs ys : List A) → find key j ys ≡ find key j xs → find key j (x ∷ ys) ≡ find key j (x ∷ xs)
  beside x xs ys h = find_head key j x ys (key x == j) refl ∙ ap (λ o. cond (key x == j) (Some x) o) h ∙ sym (find_head key j x xs (key x == j) refl)

  pub find_beside_change : (f : A → A) → ((x : A) → key (f x) ≡ key x) → (xs : List A) → find key j (change key k f xs) ≡ find key j xs
  unfolding change
  find_beside_change f same [] = refl
  find_beside_change f same (x ∷ xs) = elim (decide (key x == k)) [
    | inl is ↦
        let at = eqb_is (key x) k is in
        rw (change_head key k f x xs true is, find_head key j x xs false (apart x at), find_head key j (f x) xs false (apart (f x) (same x ∙ at))) refl
    | inr is ↦ rw (change_head key k f x xs false is) (beside x xs (change key k f xs) (find_beside_change f same xs))
  ]

  pub find_beside_without : (xs : List A) → find key j (without key k xs) ≡ find key j xs
  unfolding without
  find_beside_without [] = refl
  find_beside_without (x ∷ xs) = elim (decide (key x == k)) [
    | inl is ↦ rw (without_head key k x xs true is, find_head key j x xs false (apart x (eqb_is (key x) k is))) (find_beside_without xs)
    | inr is ↦ rw (without_head key k x xs false is) (beside x xs (without key k xs) (find_beside_without xs))
  ]

-- through a map that keeps the numbers
module _ {A B : Type 0} (key : A → ℕ) (label : B → ℕ) (k : ℕ) (g : A → B) (same : (x : A) → label (g x) ≡ key x) where
  test : (x : A) (b : Bool) → (key x == k) ≡ b → (label (g x) == k) ≡ b
  test x b is = ap (λ n. n == k) (same x) ∙ is

  pub find_map : (xs : List A) → find label k (map g xs) ≡ option_map g (find key k xs)
  unfolding find
  find_map [] = refl
  find_map (x ∷ xs) = elim (decide (key x == k)) [
    | inl is ↦ rw (find_head key k x xs true is, find_head label k (g x) (map g xs) true (test x true is)) refl
    | inr is ↦ rw (find_head key k x xs false is, find_head label k (g x) (map g xs) false (test x false is)) (find_map xs)
  ]

  pub change_map : (f : A → A) (h : B → B) → ((x : A) → g (f x) ≡ h (g x)) → (xs : List A) → map g (change key k f xs) ≡ change label k h (map g xs)
  unfolding change
  change_map f h goes [] = refl
  change_map f h goes (x ∷ xs) = elim (decide (key x == k)) [
    | inl is ↦ rw (change_head key k f x xs true is, change_head label k h (g x) (map g xs) true (test x true is)) (ap (λ y. y ∷ map g xs) (goes x))
    | inr is ↦ rw (change_head key k f x xs false is, change_head label k h (g x) (map g xs) false (test x false is)) (ap (λ ys. g x ∷ ys) (change_map f h goes xs))
  ]

  pub without_map : (xs : List A) → map g (without key k xs) ≡ without label k (map g xs)
  unfolding without
  without_map [] = refl
  without_map (x ∷ xs) = elim (decide (key x == k)) [
    | inl is ↦ rw (without_head key k x xs true is, without_head label k (g x) (map g xs) true (test x true is)) (without_map xs)
    | inr is ↦ rw (without_head key k x xs false is, without_head label k (g x) (map g xs) false (test x false is)) (ap (λ ys. g x ∷ ys) (without_map xs))
  ]

  pub falls_map : (b : ℕ) (xs : List A) → Falls key b xs → Falls label b (map g xs)
  falls_map b [] f = tt
  falls_map b (x ∷ xs) f = subst (λ n. (n < b) × Falls label n (map g xs)) (sym (same x)) (f.0, falls_map (key x) xs f.1)

  pub keys_map : (xs : List A) → map label (map g xs) ≡ map key xs
  keys_map [] = refl
  keys_map (x ∷ xs) = ap (λ n. n ∷ map label (map g xs)) (same x) ∙ ap (λ ns. key x ∷ ns) (keys_map xs)

-- ---- items that pass a test

module _ {A : Type 0} (key : A → ℕ) (p : A → Bool) where
  pub falls_filter : (b : ℕ) (xs : List A) → Falls key b xs → Falls key b (filter p xs)
  falls_filter b [] f = tt
  falls_filter b (x ∷ xs) f = elim (decide (p x)) [
    | inl is ↦ rw (filter_head p x xs true is) (f.0, falls_filter (key x) xs f.1)
    | inr is ↦ rw (filter_head p x xs false is) (falls_more key (key x) b (filter p xs) (omega (arith, f.0)) (falls_filter (key x) xs f.1))
  ]

  -- one that passes is found among those that pass
  pub find_passing : (k : ℕ) (xs : List A) (x : A) → find key k xs ≡ Some x → p x ≡ true → find key k (filter p xs) ≡ Some x
  unfolding find
  find_passing k [] x h is = h
  find_passing k (y ∷ ys) x h is = elim (decide (key y == k)) [
    | inl here ↦
        let same : y ≡ x = let e = sym (find_head key k y ys true here) ∙ h in cc in
        rw (filter_head p y ys true (ap p same ∙ is), find_head key k y (filter p ys) true here) (ap Some same)
    | inr here ↦
        let e = find_passing k ys x (sym (find_head key k y ys false here) ∙ h) is in
        elim (decide (p y)) [
          | inl passes ↦ rw (filter_head p y ys true passes, find_head key k y (filter p ys) false here) e
          | inr passes ↦ rw (filter_head p y ys false passes) e
        ]
  ]

  -- one that passes has a number under which it is found
  pub any_found : (b : ℕ) (xs : List A) → Falls key b xs → list_any p xs ≡ true → (x : A) × (find key (key x) xs ≡ Some x) × (p x ≡ true)
  unfolding find
  any_found b [] f h = absurd cc
  any_found b (y ∷ ys) f h = elim (decide (p y)) [
    | inl is ↦ (y, find_head key (key y) y ys true (eqb_same (key y) (key y) refl), is)
    | inr is ↦
        let later = any_found (key y) ys f.1 (sym (any_head p y ys false is) ∙ h) in
        let less : key later.0 < key y = find_below key (key later.0) (key y) ys later.0 f.1 later.1 in
        (later.0, find_later key (key later.0) y ys (omega (arith, less)) ∙ later.1, later.2)
  ]
