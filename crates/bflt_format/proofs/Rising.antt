-- Ascending lists of distinct numbers.
use Rattle.std.proofs.Common.{◌≡◌, ℕ, zero, suc, ◌+◌, ◌<◌, ◌≤◌, Bool, true, false, ◌||◌, eqb, List, [], ◌∷◌, length, get_or, filter, refl, sym, ap, ◌∙◌, arith, inl, inr}
use Rattle.std.specs.List.{AllByRecursion, range_with_len}
use Rattle.std.proofs.lemmas.Bool.{cases_Bool, eq-eqb, eqb-true, or_left, or_right, or_cases, cases_eq, false≢true, false_from_ne_true}

-- the number is in the list
abbrev pub has : List ℕ → ℕ → Bool
has [] x = false
has (n ∷ ns) x = eqb n x || has ns x

-- each number is below those behind it
abbrev pub Rises : List ℕ → Type 0
Rises [] = Unit {0}
Rises (n ∷ ns) = AllByRecursion (λ m. n < m) ns × Rises ns

pub has_at : (ns : List ℕ) (k : ℕ) → k < length ns → has ns (get_or ns k 0) ≡ true
has_at [] k lt = absurd (omega arith)
has_at (n ∷ ns) zero lt = or_left (eqb n n) (has ns n) (eq-eqb n n refl)
has_at (n ∷ ns) (suc k) lt = or_right (eqb n (get_or ns k 0)) (has ns (get_or ns k 0)) (has_at ns k (omega arith))

-- the place of a number of the list
pub record StandsIn (ns : List ℕ) (x : ℕ) : Type 0 where
  pub at : ℕ
  pub below : at < length ns
  pub is : get_or ns at 0 ≡ x

pub stands_in : (ns : List ℕ) (x : ℕ) → has ns x ≡ true → StandsIn ns x
stands_in [] x e = absurd cc
stands_in (n ∷ ns) x e = elim (or_cases (eqb n x) (has ns x) e) [
  | inl here ↦ record { at = 0; below = omega arith; is = eqb-true n x here }
  | inr later ↦ let rest = stands_in ns x later in record { at = suc rest.at; below = omega (arith, rest.below); is = rest.is }
]

all_at : (P : ℕ → Type 0) (ns : List ℕ) (k : ℕ) → AllByRecursion P ns → k < length ns → P (get_or ns k 0)
all_at P [] k all lt = absurd (omega arith)
all_at P (n ∷ ns) zero all lt = all.0
all_at P (n ∷ ns) (suc k) all lt = all_at P ns k all.1 (omega arith)

pub rises_at : (ns : List ℕ) (j k : ℕ) → Rises ns → j < k → k < length ns → get_or ns j 0 < get_or ns k 0
rises_at [] j k rises lt below = absurd (omega arith)
rises_at (n ∷ ns) zero zero rises lt below = absurd (omega arith)
rises_at (n ∷ ns) zero (suc k) rises lt below = all_at (λ m. n < m) ns k rises.0 (omega arith)
rises_at (n ∷ ns) (suc j) zero rises lt below = absurd (omega arith)
rises_at (n ∷ ns) (suc j) (suc k) rises lt below = rises_at ns j k rises.1 (omega arith) (omega arith)

pub all_has : (P : ℕ → Type 0) (ns : List ℕ) → ((x : ℕ) → has ns x ≡ true → P x) → AllByRecursion P ns
all_has P [] each = tt
all_has P (n ∷ ns) each =
    (each n (or_left (eqb n n) (has ns n) (eq-eqb n n refl)), all_has P ns (λ x e. each x (or_right (eqb n x) (has ns x) e)))

next_up : (n : ℕ) (ns : List ℕ) → AllByRecursion (λ m. n < m) ns → AllByRecursion (λ m. n + 1 ≤ m) ns
next_up n [] all = tt
next_up n (m ∷ ns) all = (omega (arith, all.0), next_up n ns all.1)

-- ascending numbers from a on and below n are at most n - a
rises_room : (a n : ℕ) (ns : List ℕ) → a ≤ n → Rises ns → AllByRecursion (λ m. a ≤ m) ns → AllByRecursion (λ m. m < n) ns → a + length ns ≤ n
rises_room a n [] room rises from to = omega arith
rises_room a n (m ∷ ns) room rises from to =
    omega (arith, from.0, rises_room (m + 1) n ns (omega (arith, to.0)) rises.1 (next_up m ns rises.0) to.1)

-- so ascending numbers below n are at most n
pub length-rises_below : (n : ℕ) (ns : List ℕ) → Rises ns → ((x : ℕ) → has ns x ≡ true → x < n) → length ns ≤ n
length-rises_below n ns rises below =
    omega (arith, rises_room 0 n ns (omega arith) rises (all_has (λ m. 0 ≤ m) ns (λ x e. omega arith)) (all_has (λ m. m < n) ns below))

-- ---- the numbers of a range that pass a test

all_filtered : (P : ℕ → Type 0) (test : ℕ → Bool) (ns : List ℕ) → AllByRecursion P ns → AllByRecursion P (filter test ns)
all_filtered P test [] all = tt
all_filtered P test (n ∷ ns) all = elim (cases_Bool (test n)) [
  | inl on ↦ rw on (all.0, all_filtered P test ns all.1)
  | inr out ↦ rw out (all_filtered P test ns all.1)
]

range_from : (m a n : ℕ) → m < a → AllByRecursion (λ k. m < k) (range_with_len a n)
range_from m a zero below = tt
range_from m a (suc n) below = (below, range_from m (a + 1) n (omega arith))

pub rises_filtered : (test : ℕ → Bool) (a n : ℕ) → Rises (filter test (range_with_len a n))
rises_filtered test a zero = tt
rises_filtered test a (suc n) = elim (cases_Bool (test a)) [
  | inl on ↦ rw on (all_filtered (λ k. a < k) test (range_with_len (a + 1) n) (range_from a (a + 1) n (omega arith)), rises_filtered test (a + 1) n)
  | inr out ↦ rw out (rises_filtered test (a + 1) n)
]

-- such a number is one of the range, and passes
pub filtered_passes : (test : ℕ → Bool) (ns : List ℕ) (x : ℕ) → has (filter test ns) x ≡ true → test x ≡ true
filtered_passes test [] x e = absurd (false≢true e)
filtered_passes test (n ∷ ns) x e = elim (cases_Bool (test n)) [
  | inl on ↦ elim (or_cases (eqb n x) (has (filter test ns) x) (rw on at e)) [
    | inl here ↦ ap test (sym (eqb-true n x here)) ∙ on
    | inr later ↦ filtered_passes test ns x later
  ]
  | inr out ↦ filtered_passes test ns x (rw out at e)
]

pub passes_filtered : (test : ℕ → Bool) (a n x : ℕ) → a ≤ x → x < a + n → test x ≡ true → has (filter test (range_with_len a n)) x ≡ true
passes_filtered test a zero x from to on = absurd (omega arith)
passes_filtered test a (suc n) x from to on = elim (cases_eq a x) [
  | inl here ↦ (let first : test a ≡ true = ap test here ∙ on in rw first (or_left (eqb a x) (has (filter test (range_with_len (a + 1) n)) x) (eq-eqb a x here)))
  | inr other ↦
      let later = passes_filtered test (a + 1) n x (omega arith) (omega arith) on in
      elim (cases_Bool (test a)) [
        | inl first ↦ rw first (or_right (eqb a x) (has (filter test (range_with_len (a + 1) n)) x) later)
        | inr out ↦ rw out later
      ]
]

-- where all numbers of a list are below n, those below n that it has are ascending and are just its numbers
pub has_filtered : (ns : List ℕ) (n x : ℕ) → ((m : ℕ) → has ns m ≡ true → m < n) → has (filter (has ns) (range_with_len 0 n)) x ≡ has ns x
has_filtered ns n x below = elim (cases_Bool (has ns x)) [
  | inl is ↦ passes_filtered (has ns) 0 n x (omega arith) (omega (arith, below x is)) is ∙ sym is
  | inr is ↦ false_from_ne_true _ (λ e. absurd (false≢true (sym is ∙ filtered_passes (has ns) (range_with_len 0 n) x e))) ∙ sym is
]
