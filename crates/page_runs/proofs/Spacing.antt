-- Runs in order, and the pages that they have.
use Rattle.std.proofs.Common.{◌≡◌, ℕ, zero, suc, ◌+◌, ◌*◌, ◌≤◌, ◌<◌, inl, inr, get_or, false, List, [], ◌∷◌, ◌++◌, length, arith, refl}
use Rattle.std.specs.Prelude.{Some, slice_get, ◌||◌}
use Rattle.std.proofs.lemmas.Bool.Decides.{nat_tests}
use Rattle.std.proofs.lemmas.Option.{same_Some, none-some, slice_get-get_or}
use Rattle.std.proofs.lemmas.Bool.{cases_lt}
use Rattle.std.specs.List.Sorted.{IsNonDecreasingBy}
use Rattle.page_runs.specs.declared.run.Run.{Run}
use Rattle.page_runs.specs.Pages.{has_page, Spaced}

pub spaced_le : (gap low high : ℕ) (rs : List Run) → Spaced gap low high rs → low ≤ high
spaced_le gap low high [] spaced = spaced
spaced_le gap low high (r ∷ rs) spaced = omega (arith, spaced_le gap (r.first + r.count + gap) high rs spaced.1.1)

pub spaced_from : (gap low high : ℕ) (rs : List Run) (from : ℕ) → Spaced gap low high rs → from ≤ low → Spaced gap from high rs
spaced_from gap low high [] from spaced le = omega (arith, spaced)
spaced_from gap low high (r ∷ rs) from spaced le = (omega arith, spaced.1)

pub page_before : (gap low high : ℕ) (rs : List Run) (p : ℕ) → Spaced gap low high rs → p < low → has_page rs p ≡ false
page_before gap low high [] p spaced before = refl
page_before gap low high (r ∷ rs) p spaced before =
    grind (arith, nat_tests, page_before gap (r.first + r.count + gap) high rs p spaced.1.1 (omega arith))

pub page_past : (gap low high : ℕ) (rs : List Run) (p : ℕ) → Spaced gap low high rs → high ≤ p → has_page rs p ≡ false
page_past gap low high [] p spaced past = refl
page_past gap low high (r ∷ rs) p spaced past =
    grind (arith, nat_tests, spaced_le gap (r.first + r.count + gap) high rs spaced.1.1, page_past gap (r.first + r.count + gap) high rs p spaced.1.1 past)

pub has_page-append : (xs ys : List Run) (p : ℕ) → has_page (xs ++ ys) p ≡ (has_page xs p || has_page ys p)
has_page-append [] ys p = refl
has_page-append (x ∷ xs) ys p = grind (arith, nat_tests, has_page-append xs ys p)

pub spaced_append :
    (gap low mid high : ℕ) (xs ys : List Run) → Spaced gap low mid xs → Spaced gap mid high ys → Spaced gap low high (xs ++ ys)
spaced_append gap low mid high [] ys p q = spaced_from gap mid high ys low q p
spaced_append gap low mid high (x ∷ xs) ys p q = (p.0, (p.1.0, spaced_append gap (x.first + x.count + gap) mid high xs ys p.1.1 q))

-- a run of the list
pub run_at : (gap low high : ℕ) (rs : List Run) (i : ℕ) (r : Run) → Spaced gap low high rs → slice_get rs i ≡ Some r →
    (low ≤ r.first) × (0 < r.count) × (r.first + r.count + gap ≤ high)
run_at gap low high [] i r spaced is = absurd (none-some r is)
run_at gap low high (x ∷ rs) zero r spaced is =
    let same : x ≡ r = same_Some _ _ is in
    rw (← same) (spaced.0, spaced.1.0, spaced_le gap (x.first + x.count + gap) high rs spaced.1.1)
run_at gap low high (x ∷ rs) (suc i) r spaced is =
    let later = run_at gap (x.first + x.count + gap) high rs i r spaced.1.1 is in (omega arith, later.1, later.2)

-- maximal runs are at most half as many as the pages
pub few_runs : (low high : ℕ) (rs : List Run) → Spaced 1 low high rs → low + 2 * length rs ≤ high
few_runs low high [] spaced = omega (arith, spaced)
few_runs low high (r ∷ rs) spaced = omega (arith, few_runs (r.first + r.count + 1) high rs spaced.1.1)

-- with no page between them
spaced_closer : (low high : ℕ) (rs : List Run) → Spaced 1 (low + 1) (high + 1) rs → Spaced 0 low high rs
spaced_closer low high [] spaced = omega (arith, spaced)
spaced_closer low high (r ∷ rs) spaced =
    let none : r.first + r.count + 0 ≡ r.first + r.count = omega arith in
    (omega arith, (spaced.1.0, rw none (spaced_closer (r.first + r.count) high rs spaced.1.1)))

pub spaced_apart : (high : ℕ) (rs : List Run) → Spaced 1 0 (high + 1) rs → Spaced 0 0 high rs
spaced_apart high [] spaced = omega arith
spaced_apart high (r ∷ rs) spaced =
    let none : r.first + r.count + 0 ≡ r.first + r.count = omega arith in
    (omega arith, (spaced.1.0, rw none (spaced_closer (r.first + r.count) high rs spaced.1.1)))

pub spaced_to : (gap low high : ℕ) (rs : List Run) (to : ℕ) → Spaced gap low high rs → high ≤ to → Spaced gap low to rs
spaced_to gap low high [] to spaced le = omega (arith, spaced)
spaced_to gap low high (r ∷ rs) to spaced le = (spaced.0, (spaced.1.0, spaced_to gap (r.first + r.count + gap) high rs to spaced.1.1 le))

-- the first pages ascend
pub in_order : (low high : ℕ) (rs : List Run) (i j : ℕ) (r s : Run) → Spaced 1 low high rs → i < j →
    slice_get rs i ≡ Some r → slice_get rs j ≡ Some s → r.first + r.count + 1 ≤ s.first
in_order low high [] i j r s spaced less is there = absurd (none-some r is)
in_order low high (x ∷ rs) zero zero r s spaced less is there = absurd (omega arith)
in_order low high (x ∷ rs) (suc i) zero r s spaced less is there = absurd (omega arith)
in_order low high (x ∷ rs) zero (suc j) r s spaced less is there =
    let same : x ≡ r = same_Some _ _ is in
    rw (← same) ((run_at 1 (x.first + x.count + 1) high rs j s spaced.1.1 there).0)
in_order low high (x ∷ rs) (suc i) (suc j) r s spaced less is there =
    in_order (x.first + x.count + 1) high rs i j r s spaced.1.1 (omega arith) is there

firsts_rise_from : (low high : ℕ) (rs : List Run) (i j : ℕ) (d : Run) → Spaced 1 low high rs → i ≤ j → j < length rs → (get_or rs i d).first ≤ (get_or rs j d).first
firsts_rise_from low high rs i j d spaced le less = elim (cases_lt i j) [
  | inl before ↦ omega (arith, in_order low high rs i j _ _ spaced before (slice_get-get_or rs i d (omega arith)) (slice_get-get_or rs j d less))
  | inr from ↦ let same : i ≡ j = omega arith in rw same (omega arith)
]

pub firsts_rise : (low high : ℕ) (rs : List Run) → Spaced 1 low high rs → IsNonDecreasingBy (λ (r : Run). r.first) rs
firsts_rise low high rs spaced = λ i j d le less. firsts_rise_from low high rs i j d spaced le less
