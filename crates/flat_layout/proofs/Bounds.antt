-- What the least and the greatest of some numbers bound.
use Rattle.std.proofs.Common.{◌≡◌, ℕ, zero, suc, ◌+◌, ◌-◌, ◌<◌, ◌≤◌, List, Bool, true, false, min, max, refl, sym, ◌∙◌, ap, arith, add-one, inl, inr}
use Rattle.std.proofs.lemmas.Bool.{cases_lt, cases_Bool, both_ways}
use Rattle.flat_layout.specs.Numbering.{raised_start, distance}
use Rattle.flat_layout.specs.Extremes.{least_below, greatest_below}

pub least_zero : (takes : ℕ → Bool) (f : ℕ → ℕ) (none : ℕ) → least_below takes f none 0 ≡ none
unfolding least_below
least_zero takes f none = refl

pub least_taken : (takes : ℕ → Bool) (f : ℕ → ℕ) (none n : ℕ) → takes n ≡ true → least_below takes f none (suc n) ≡ min (least_below takes f none n) (f n)
unfolding least_below
least_taken takes f none n t = rw (t)

pub least_passed : (takes : ℕ → Bool) (f : ℕ → ℕ) (none n : ℕ) → takes n ≡ false → least_below takes f none (suc n) ≡ least_below takes f none n
unfolding least_below
least_passed takes f none n t = rw (t)

pub greatest_zero : (takes : ℕ → Bool) (f : ℕ → ℕ) → greatest_below takes f 0 ≡ 0
unfolding greatest_below
greatest_zero takes f = refl

pub greatest_taken : (takes : ℕ → Bool) (f : ℕ → ℕ) (n : ℕ) → takes n ≡ true → greatest_below takes f (suc n) ≡ max (greatest_below takes f n) (f n)
unfolding greatest_below
greatest_taken takes f n t = rw (t)

pub greatest_passed : (takes : ℕ → Bool) (f : ℕ → ℕ) (n : ℕ) → takes n ≡ false → greatest_below takes f (suc n) ≡ greatest_below takes f n
unfolding greatest_below
greatest_passed takes f n t = rw (t)

-- a loop's next value, where it takes the number and where it passes it
pub least_taken_to : (takes : ℕ → Bool) (f : ℕ → ℕ) (none n least v : ℕ) → takes n ≡ true → least ≡ least_below takes f none n → v ≡ min least (f n) → v ≡ least_below takes f none (n + 1)
least_taken_to takes f none n least v t is e = rw (add-one) (e ∙ (ap (λ x. min x (f n)) is ∙ sym (least_taken takes f none n t)))

pub least_passed_to : (takes : ℕ → Bool) (f : ℕ → ℕ) (none n least v : ℕ) → takes n ≡ false → least ≡ least_below takes f none n → v ≡ least → v ≡ least_below takes f none (n + 1)
least_passed_to takes f none n least v t is e = rw (add-one) (e ∙ (is ∙ sym (least_passed takes f none n t)))

pub greatest_taken_to : (takes : ℕ → Bool) (f : ℕ → ℕ) (n greatest v : ℕ) → takes n ≡ true → greatest ≡ greatest_below takes f n → v ≡ max greatest (f n) → v ≡ greatest_below takes f (n + 1)
greatest_taken_to takes f n greatest v t is e = rw (add-one) (e ∙ (ap (λ x. max x (f n)) is ∙ sym (greatest_taken takes f n t)))

pub greatest_passed_to : (takes : ℕ → Bool) (f : ℕ → ℕ) (n greatest v : ℕ) → takes n ≡ false → greatest ≡ greatest_below takes f n → v ≡ greatest → v ≡ greatest_below takes f (n + 1)
greatest_passed_to takes f n greatest v t is e = rw (add-one) (e ∙ (is ∙ sym (greatest_passed takes f n t)))

-- bounds of the greatest
pub greatest_at : (takes : ℕ → Bool) (f : ℕ → ℕ) (n k : ℕ) → k < n → takes k ≡ true → f k ≤ greatest_below takes f n
greatest_at takes f zero k h t = absurd (omega arith)
greatest_at takes f (suc n) k h t =
    elim (cases_Bool (takes n)) [
      | inl taken ↦ elim (cases_lt k n) [
        | inl before ↦ (let more : f k ≤ greatest_below takes f n = greatest_at takes f n k before t in let is = greatest_taken takes f n taken in omega arith)
        | inr last ↦ (let same : k ≡ n = omega arith in let is = greatest_taken takes f n taken in let here : f k ≡ f n = ap f same in omega arith)
      ]
      | inr passed ↦ elim (cases_lt k n) [
        | inl before ↦ (let more : f k ≤ greatest_below takes f n = greatest_at takes f n k before t in let is = greatest_passed takes f n passed in omega arith)
        | inr last ↦ (let same : k ≡ n = omega arith in absurd (both_ways (takes n) passed (ap takes (sym same) ∙ t)))
      ]
    ]

pub greatest_le : (takes : ℕ → Bool) (f : ℕ → ℕ) (n b : ℕ) → ((k : ℕ) → k < n → takes k ≡ true → f k ≤ b) → greatest_below takes f n ≤ b
greatest_le takes f zero b all = let is = greatest_zero takes f in omega arith
greatest_le takes f (suc n) b all =
    let before : greatest_below takes f n ≤ b = greatest_le takes f n b (λ k h t. all k (omega arith) t) in
    elim (cases_Bool (takes n)) [
      | inl taken ↦ (let is = greatest_taken takes f n taken in let here : f n ≤ b = all n (omega arith) taken in omega arith)
      | inr passed ↦ (let is = greatest_passed takes f n passed in omega arith)
    ]

-- bounds of the least
pub least_le_none : (takes : ℕ → Bool) (f : ℕ → ℕ) (none n : ℕ) → least_below takes f none n ≤ none
least_le_none takes f none zero = let is = least_zero takes f none in omega arith
least_le_none takes f none (suc n) =
    let before : least_below takes f none n ≤ none = least_le_none takes f none n in
    elim (cases_Bool (takes n)) [
      | inl taken ↦ (let is = least_taken takes f none n taken in omega arith)
      | inr passed ↦ (let is = least_passed takes f none n passed in omega arith)
    ]

pub least_at : (takes : ℕ → Bool) (f : ℕ → ℕ) (none n k : ℕ) → k < n → takes k ≡ true → least_below takes f none n ≤ f k
least_at takes f none zero k h t = absurd (omega arith)
least_at takes f none (suc n) k h t =
    elim (cases_Bool (takes n)) [
      | inl taken ↦ elim (cases_lt k n) [
        | inl before ↦ (let more : least_below takes f none n ≤ f k = least_at takes f none n k before t in let is = least_taken takes f none n taken in omega arith)
        | inr last ↦ (let same : k ≡ n = omega arith in let is = least_taken takes f none n taken in let here : f k ≡ f n = ap f same in omega arith)
      ]
      | inr passed ↦ elim (cases_lt k n) [
        | inl before ↦ (let more : least_below takes f none n ≤ f k = least_at takes f none n k before t in let is = least_passed takes f none n passed in omega arith)
        | inr last ↦ (let same : k ≡ n = omega arith in absurd (both_ways (takes n) passed (ap takes (sym same) ∙ t)))
      ]
    ]

-- a distance as the code works it out
pub distance_is : (e : List ℕ) (raised address a r : ℕ) → r ≡ address + 64 - raised → raised ≡ raised_start e → address ≡ a → r ≡ distance e a
unfolding distance
distance_is e raised address a r h is same = h ∙ (ap (λ x. x + 64 - raised) same ∙ ap (λ x. a + 64 - x) is)
