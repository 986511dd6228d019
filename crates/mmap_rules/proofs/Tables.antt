-- A range more, or less, in the table of own bytes: the loop over the pages that it meets.
use Rattle.std.proofs.Common.{◌≡◌, ◌≢◌, ℕ, ◌+◌, ◌/◌, ◌%◌, ◌<◌, ◌≤◌, inl, inr, false, refl, sym, ap, ◌∙◌, arith, List, length, length-set, get_or, ◌≡◌}
use Rattle.std.specs.Prelude.{Option, Some, None, slice_get, slice_set, nat_lt, option_map, if◌then◌else◌}
use Rattle.std.proofs.lemmas.Bool.{cases_lt, lt-ltb, le-ltb}
use Rattle.std.proofs.lemmas.Bool.Decides.{nat_tests}
use Rattle.std.proofs.lemmas.Option.{slice_get_past, slice_get-get_or}
use Rattle.std.proofs.lemmas.List.{get_or-set_same, get_or-set_other}
use Rattle.mmap_rules.specs.declared.mapping.Range.{Range}
use Rattle.mmap_rules.specs.declared.page_owner.PageOwner.{PageOwner}
use Rattle.mmap_rules.specs.Owners.{IsShaped, distance, meets, entered, taken_out}

-- ---- one item of a list set

set_here : {X : Type 0} (xs : List X) (at : ℕ) (v : X) → at < length xs → slice_get (slice_set xs at v) at ≡ Some v
set_here {X} xs at v within =
    slice_get-get_or (slice_set xs at v) at v (omega (arith, length-set {A = X}))
    ∙ ap (λ (x : X). Some x) (get_or-set_same xs at v v within)

set_elsewhere : {X : Type 0} (xs : List X) (at : ℕ) (v : X) (k : ℕ) → k ≢ at → slice_get (slice_set xs at v) k ≡ slice_get xs k
set_elsewhere {X} xs at v k other =
    elim (cases_lt k (length xs)) [
      | inl within ↦
          slice_get-get_or (slice_set xs at v) k v (omega (arith, length-set {A = X}))
          ∙ (ap (λ (x : X). Some x) (get_or-set_other xs at k v v other) ∙ sym (slice_get-get_or xs k v within))
      | inr past ↦
          slice_get_past (slice_set xs at v) k (omega (arith, length-set {A = X})) ∙ sym (slice_get_past xs k past)
    ]

-- ---- pages that a range doesn't meet

-- the entries of pages that the range doesn't meet stay
abbrev pub LeavesMissed : (Range → ℕ → PageOwner → PageOwner) → Type 0
LeavesMissed f = (r : Range) (page : ℕ) (o : PageOwner) → meets r page ≡ false → f r page o ≡ o

pub entered_missed : LeavesMissed entered
unfolding entered
entered_missed r page o misses = rw misses refl

pub taken_out_missed : LeavesMissed taken_out
unfolding taken_out
taken_out_missed r page o misses = rw misses refl

option_same : (f : PageOwner → PageOwner) (o : Option PageOwner) → ((x : PageOwner) → f x ≡ x) → option_map f o ≡ o
option_same f None same = refl
option_same f (Some x) same = ap (λ (y : PageOwner). Some y) (same x)

before : (r : Range) (page : ℕ) → page < distance r / 4096 → meets r page ≡ false
before r page less = grind (arith, nat_tests)

behind : (r : Range) (page : ℕ) → (distance r + r.size) % 4096 ≡ 0 → (distance r + r.size) / 4096 ≤ page → meets r page ≡ false
behind r page whole more = grind (arith, nat_tests)

-- ---- the loop over the pages that it meets

abbrev pub so_far : (Range → ℕ → PageOwner → PageOwner) → Range → List PageOwner → ℕ → ℕ → Option PageOwner
so_far f r old page p = if nat_lt p page then option_map (f r p) (slice_get old p) else slice_get old p

pub each_none : (f : Range → ℕ → PageOwner → PageOwner) → LeavesMissed f → (r : Range) (old : List PageOwner) (p : ℕ) → slice_get old p ≡ so_far f r old (distance r / 4096) p
each_none f leaves r old p =
    elim (cases_lt p (distance r / 4096)) [
      | inl less ↦ rw (lt-ltb p (distance r / 4096) less) (sym (option_same (f r p) (slice_get old p) (λ x. leaves r p x (before r p less))))
      | inr more ↦ rw (le-ltb p (distance r / 4096) more) refl
    ]

pub each_all : (f : Range → ℕ → PageOwner → PageOwner) → LeavesMissed f → (pages : ℕ) (r : Range) (old : List PageOwner) (now : List PageOwner) → IsShaped pages r
    → ((p : ℕ) → slice_get now p ≡ so_far f r old ((distance r + r.size) / 4096) p) → (p : ℕ) → slice_get now p ≡ option_map (f r p) (slice_get old p)
each_all f leaves pages r old now shaped each p =
    elim (cases_lt p ((distance r + r.size) / 4096)) [
      | inl less ↦ each p ∙ rw (lt-ltb p ((distance r + r.size) / 4096) less) refl
      | inr more ↦ each p ∙ rw (le-ltb p ((distance r + r.size) / 4096) more) (sym (option_same (f r p) (slice_get old p) (λ x. leaves r p x (behind r p shaped.whole more))))
    ]

pub each_more : (f : Range → ℕ → PageOwner → PageOwner) → (r : Range) (old now : List PageOwner) (page : ℕ) (d : PageOwner) → page < length now
    → ((p : ℕ) → slice_get now p ≡ so_far f r old page p) → (p : ℕ)
    → slice_get (slice_set now page (f r page (get_or now page d))) p ≡ so_far f r old (page + 1) p
each_more f r old now page d within each p =
    elim (cases_lt p page) [
      | inl less ↦
          set_elsewhere now page _ p (λ e. absurd (omega arith)) ∙ each p ∙ rw (lt-ltb p page less, lt-ltb p (page + 1) (omega arith)) refl
      | inr from ↦ elim (cases_lt page p) [
        | inl past ↦
            set_elsewhere now page _ p (λ e. absurd (omega arith)) ∙ each p ∙ rw (le-ltb p page (omega arith), le-ltb p (page + 1) (omega arith)) refl
        | inr to ↦ (
            let same : p ≡ page = omega arith in
            let was : slice_get old page ≡ Some (get_or now page d) = sym (each page ∙ rw (le-ltb page page (omega arith)) refl) ∙ slice_get-get_or now page d within in
            rw (same, lt-ltb page (page + 1) (omega arith), was) (set_here now page _ within))
      ]
    ]
