-- The loops that look for a place.
use Rattle.std.proofs.Common.{◌≡◌, ℕ, ◌+◌, ◌≤◌, ◌<◌, inl, inr, Bool, true, false, List, length, get_or, arith, refl, ap}
use Rattle.std.specs.Prelude.{Option, Some, None, slice_get, nat_le, nat_lt, ◌||◌, if◌then◌else◌}
use Rattle.std.proofs.lemmas.Bool.{cases_lt}
use Rattle.std.proofs.lemmas.Bool.Decides.{nat_tests}
use Rattle.std.proofs.lemmas.Option.{slice_get-get_or, slice_get_within, get_or_from_slice_get}
use Rattle.page_runs.specs.declared.place.Kind.{Kind}
use Rattle.page_runs.specs.declared.place.Kind.TheVariants.{First, Best, Last}
use Rattle.page_runs.specs.declared.run.Run.{Run}
use Rattle.page_runs.specs.Place.{Before, better, place}
use Rattle.page_runs.proofs.Places.{is_place}

-- the best of the first n runs, and its pages
pub record BestOf (runs : List Run) (need n i count : ℕ) : Type 0 where
  pub run : Run
  pub there : slice_get runs i ≡ Some run
  pub index : i < n
  pub count_is : count ≡ run.count
  pub fits : need ≤ run.count
  pub before : (j : ℕ) (other : Run) → j < n → slice_get runs j ≡ Some other → need ≤ other.count → Before Best i run j other

abbrev pub SoFar : List Run → ℕ → ℕ → Option (ℕ × ℕ) → Type 0
SoFar runs need n None = (j : ℕ) (other : Run) → j < n → slice_get runs j ≡ Some other → other.count < need
SoFar runs need n (Some best) = BestOf runs need n best.0 best.1

-- ---- none, the lowest, the highest

pub none_fits : (kind : Kind) (runs : List Run) (need n : ℕ) → length runs ≤ n →
    ((j : ℕ) (other : Run) → j < n → slice_get runs j ≡ Some other → other.count < need) → None ≡ place kind runs need
none_fits kind runs need n all none = is_place kind runs need None (λ j other is. none j other (omega (arith, slice_get_within runs j other is)) is)

pub first_found : (runs : List Run) (need i : ℕ) (d : Run) → i < length runs → need ≤ (get_or runs i d).count →
    ((j : ℕ) (other : Run) → j < i → slice_get runs j ≡ Some other → other.count < need) → Some i ≡ place First runs need
first_found runs need i d inside fits none = is_place First runs need (Some i) (record {
  run = get_or runs i d;
  there = slice_get-get_or runs i d inside;
  fits = fits;
  before = λ j other is other_fits. elim (cases_lt j i) [
    | inl less ↦ absurd (omega (arith, none j other less is))
    | inr le ↦ le
  ];
})

pub last_found : (runs : List Run) (need i : ℕ) (d : Run) → i < length runs → need ≤ (get_or runs i d).count →
    ((j : ℕ) (other : Run) → i + 1 ≤ j → slice_get runs j ≡ Some other → other.count < need) → Some i ≡ place Last runs need
last_found runs need i d inside fits none = is_place Last runs need (Some i) (record {
  run = get_or runs i d;
  there = slice_get-get_or runs i d inside;
  fits = fits;
  before = λ j other is other_fits. elim (cases_lt i j) [
    | inl less ↦ absurd (omega (arith, none j other (omega arith) is))
    | inr le ↦ le
  ];
})

count_at : (runs : List Run) (i j : ℕ) (d other : Run) → j ≡ i → slice_get runs j ≡ Some other → (get_or runs i d).count ≡ other.count
count_at runs i j d other here is =
    let same : get_or runs j d ≡ other = get_or_from_slice_get runs j other d is in
    rw (← here) (ap (λ (r : Run). r.count) same)

pub none_more : (runs : List Run) (need i : ℕ) (d : Run) → (get_or runs i d).count < need →
    ((j : ℕ) (other : Run) → j < i → slice_get runs j ≡ Some other → other.count < need) →
    (j : ℕ) (other : Run) → j < i + 1 → slice_get runs j ≡ Some other → other.count < need
none_more runs need i d short none j other less is = elim (cases_lt j i) [
  | inl before ↦ none j other before is
  | inr from ↦ omega (arith, count_at runs i j d other (omega arith) is)
]

pub none_less : (runs : List Run) (need i : ℕ) (d : Run) → (get_or runs i d).count < need →
    ((j : ℕ) (other : Run) → i + 1 ≤ j → slice_get runs j ≡ Some other → other.count < need) →
    (j : ℕ) (other : Run) → i ≤ j → slice_get runs j ≡ Some other → other.count < need
none_less runs need i d short none j other le is = elim (cases_lt i j) [
  | inl after ↦ none j other (omega arith) is
  | inr at ↦ omega (arith, count_at runs i j d other (omega arith) is)
]

-- ---- the smallest

so_far_either : (runs : List Run) (need n : ℕ) (b : Bool) (x y : Option (ℕ × ℕ)) → (b ≡ true → SoFar runs need n x) → (b ≡ false → SoFar runs need n y) →
    SoFar runs need n (if b then x else y)
so_far_either runs need n true x y p q = p refl
so_far_either runs need n false x y p q = q refl

pub so_far_more : (runs : List Run) (need i : ℕ) (d : Run) (best : Option (ℕ × ℕ)) → i < length runs → SoFar runs need i best →
    SoFar runs need (i + 1) (better best i (get_or runs i d).count need)
so_far_more runs need i d None inside none = so_far_either runs need (i + 1) (nat_lt (get_or runs i d).count need) None _
    (λ short. none_more runs need i d (grind (arith, nat_tests)) none)
    (λ fits. record {
      run = get_or runs i d;
      there = slice_get-get_or runs i d inside;
      index = omega arith;
      count_is = refl;
      fits = grind (arith, nat_tests);
      before = λ j other less is other_fits. elim (cases_lt j i) [
        | inl before ↦ absurd (omega (arith, none j other before is))
        | inr from ↦ inr (count_at runs i j d other (omega arith) is, omega arith)
      ];
    })
so_far_more runs need i d (Some best) inside found =
    so_far_either runs need (i + 1) (nat_lt (get_or runs i d).count need || nat_le best.1 (get_or runs i d).count) _ _
    (λ worse. record {
      run = found.run;
      there = found.there;
      index = omega (arith, found.index);
      count_is = found.count_is;
      fits = found.fits;
      before = λ j other less is other_fits. elim (cases_lt j i) [
        | inl before ↦ found.before j other before is other_fits
        | inr from ↦ no_better other worse (count_at runs i j d other (omega arith) is) j other_fits from
      ];
    })
    (λ is_better. record {
      run = get_or runs i d;
      there = slice_get-get_or runs i d inside;
      index = omega arith;
      count_is = refl;
      fits = grind (arith, nat_tests);
      before = λ j other less is other_fits. elim (cases_lt j i) [
        | inl before ↦ elim (found.before j other before is other_fits) [
          | inl smaller ↦ inl (grind (arith, nat_tests, found.count_is))
          | inr same ↦ inl (grind (arith, nat_tests, found.count_is, same.0))
        ]
        | inr from ↦ inr (count_at runs i j d other (omega arith) is, omega arith)
      ];
    })
  where
    no_better : (other : Run) → (nat_lt (get_or runs i d).count need || nat_le best.1 (get_or runs i d).count) ≡ true → (get_or runs i d).count ≡ other.count →
        (j : ℕ) → need ≤ other.count → i ≤ j → Before Best best.0 found.run j other
    no_better other worse same j fits from = elim (cases_lt found.run.count other.count) [
      | inl less ↦ inl less
      | inr le ↦ inr (grind (arith, nat_tests, found.count_is), grind (arith, nat_tests, found.count_is, found.index))
    ]

pub best_found : (runs : List Run) (need n i count : ℕ) → length runs ≤ n → BestOf runs need n i count → Some i ≡ place Best runs need
best_found runs need n i count all found = is_place Best runs need (Some i) (record {
  run = found.run;
  there = found.there;
  fits = found.fits;
  before = λ j other is fits. found.before j other (omega (arith, slice_get_within runs j other is)) is fits;
})
