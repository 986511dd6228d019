-- Laws of `any_below`, and of tests joined by `or` and `and`.
use Rattle.std.proofs.Common.{◌≡◌, ℕ, zero, suc, ◌+◌, ◌<◌, inl, inr, Bool, true, false, ◌||◌, ◌&&◌, [], ◌∷◌, ◌++◌, sym, ◌∙◌, ap, refl, arith, add-one}
use Rattle.std.specs.List.{list_any, range_with_len}
use Rattle.std.proofs.lemmas.Bool.{cases_lt, or_cases}
use Rattle.std.proofs.lemmas.List.Folds.{list_any-append}
use Rattle.byte_words.specs.Search.{any_below}

pub or_parts : (x y : Bool) → (x || y) ≡ false → (x ≡ false) × (y ≡ false)
or_parts true y e = (e, absurd (cc))
or_parts false y e = (refl, e)

pub or_from : (x y : Bool) → x ≡ false → y ≡ false → (x || y) ≡ false
or_from x y p q = rw (p, q) refl

pub or_left : (x y : Bool) → x ≡ true → (x || y) ≡ true
or_left x y p = rw p refl

pub or_right : (x y : Bool) → y ≡ true → (x || y) ≡ true
or_right true y p = refl
or_right false y p = p

pub and_rest : (x y : Bool) → (x && y) ≡ false → x ≡ true → y ≡ false
and_rest true y e p = e
and_rest false y e p = absurd (cc)

or_none : (x : Bool) → (x || false) ≡ x
or_none true = refl
or_none false = refl

-- ---- the two equations of a search

-- none passes below 0
pub any_below_zero : (p : ℕ → Bool) → any_below p 0 ≡ false
unfolding any_below
any_below_zero p = refl

range_last : (a n : ℕ) → range_with_len a (suc n) ≡ range_with_len a n ++ (a + n) ∷ []
range_last a zero = ap (λ k. k ∷ []) (let e : a ≡ a + 0 = omega arith in e)
range_last a (suc n) = ap (λ ks. a ∷ ks) (range_last (a + 1) n ∙ ap (λ k. range_with_len (a + 1) n ++ k ∷ []) (let e : a + 1 + n ≡ a + suc n = omega arith in e))

-- the search goes one further
pub any_below_suc : (p : ℕ → Bool) (n : ℕ) → any_below p (suc n) ≡ (any_below p n || p n)
unfolding any_below
any_below_suc p n =
    ap (list_any p) (range_last 0 n)
    ∙ list_any-append p (range_with_len 0 n) ((0 + n) ∷ [])
    ∙ ap (λ b. list_any p (range_with_len 0 n) || b) (or_none (p (0 + n)) ∙ ap p (let e : 0 + n ≡ n = omega arith in e))

pub any_below_next : (p : ℕ → Bool) (n : ℕ) → any_below p (n + 1) ≡ (any_below p n || p n)
any_below_next p n = rw add-one (any_below_suc p n)

-- ---- what a search finds

-- none passes below n, nor n itself
pub any_below_more : (p : ℕ → Bool) (n : ℕ) → any_below p n ≡ false → p n ≡ false → any_below p (n + 1) ≡ false
any_below_more p n below here = any_below_next p n ∙ or_from _ _ below here

-- none passes below n, so i doesn't
pub any_below_none : (p : ℕ → Bool) (n i : ℕ) → any_below p n ≡ false → i < n → p i ≡ false
any_below_none p zero i none below = absurd (omega arith)
any_below_none p (suc n) i none below =
    let parts = or_parts (any_below p n) (p n) (sym (any_below_suc p n) ∙ none) in
    elim (cases_lt i n) [
      | inl less ↦ any_below_none p n i parts.0 less
      | inr least ↦ (let same : i ≡ n = omega arith in rw same parts.1)
    ]

-- i passes, so some below n does
pub any_below_found : (p : ℕ → Bool) (n i : ℕ) → i < n → p i ≡ true → any_below p n ≡ true
any_below_found p zero i below here = absurd (omega arith)
any_below_found p (suc n) i below here =
    any_below_suc p n
    ∙ elim (cases_lt i n) [
      | inl less ↦ or_left (any_below p n) (p n) (any_below_found p n i less here)
      | inr least ↦ (let same : n ≡ i = omega arith in or_right (any_below p n) (p n) (ap p same ∙ here))
    ]

-- the same, as a search finds it
pub any_below_at : (p : ℕ → Bool) (n i : ℕ) → i < n → true ≡ p i → true ≡ any_below p n
any_below_at p n i below here = sym (any_below_found p n i below (sym here))

-- some below n passes, and this is one
pub any_below_some : (p : ℕ → Bool) (n : ℕ) → any_below p n ≡ true → (i : ℕ) × ((i < n) × (p i ≡ true))
any_below_some p zero h = absurd (let none = any_below_zero p in cc)
any_below_some p (suc n) h =
    elim (or_cases (any_below p n) (p n) (sym (any_below_suc p n) ∙ h)) [
      | inl before ↦ (let found = any_below_some p n before in (found.0, (omega (arith, found.1.0), found.1.1)))
      | inr here ↦ (n, (omega arith, here))
    ]

-- where each fails, none below n passes
pub none_below : (p : ℕ → Bool) (n : ℕ) → ((k : ℕ) → k < n → p k ≡ false) → any_below p n ≡ false
none_below p zero each = any_below_zero p
none_below p (suc n) each =
    any_below_suc p n ∙ or_from (any_below p n) (p n) (none_below p n (λ k lt. each k (omega arith))) (each n (omega arith))

-- tests that agree below n
pub any_below_same : (p q : ℕ → Bool) (n : ℕ) → ((k : ℕ) → k < n → p k ≡ q k) → any_below p n ≡ any_below q n
any_below_same p q zero each = any_below_zero p ∙ sym (any_below_zero q)
any_below_same p q (suc n) each =
    any_below_suc p n
    ∙ rw (any_below_same p q n (λ k lt. each k (omega arith)), each n (omega arith)) (sym (any_below_suc q n))

swap_or : (a b x y : Bool) → ((a || b) || (x || y)) ≡ ((a || x) || (b || y))
swap_or true b x y = refl
swap_or false true true y = refl
swap_or false true false y = refl
swap_or false false true y = refl
swap_or false false false y = refl

-- one test or the other
pub any_below_or : (p q : ℕ → Bool) (n : ℕ) → any_below (λ k. p k || q k) n ≡ (any_below p n || any_below q n)
unfolding any_below
any_below_or p q zero = refl
any_below_or p q (suc n) =
    any_below_suc (λ k. p k || q k) n
    ∙ ap (λ b. b || (p n || q n)) (any_below_or p q n)
    ∙ swap_or (any_below p n) (any_below q n) (p n) (q n)
    ∙ (λ i. sym (any_below_suc p n) i || sym (any_below_suc q n) i)
