-- Laws of `first_below`.
use Rattle.std.proofs.Common.{◌≡◌, ℕ, zero, suc, ◌+◌, ◌<◌, Bool, true, false, Option, Some, None, if◌then◌else◌, inl, inr, sym, ◌∙◌, ap, refl, arith, add-one}
use Rattle.std.specs.Option.{option_map, option_or}
use Rattle.std.proofs.lemmas.Bool.{cases_lt}
use Rattle.psabi_relocs.specs.Search.{first_below}

-- nothing below 0
pub first_below_zero : (p : ℕ → Bool) → first_below p 0 ≡ None
unfolding first_below
first_below_zero p = refl

-- one more index
pub first_below_more : (p : ℕ → Bool) (n : ℕ) → first_below p (n + 1) ≡ option_or (first_below p n) (if p n then Some n else None)
unfolding first_below
first_below_more p n = rw add-one refl

-- none passes
pub first_below_none : (p : ℕ → Bool) (n : ℕ) → ((i : ℕ) → i < n → p i ≡ false) → first_below p n ≡ None
unfolding first_below
first_below_none p zero fails = refl
first_below_none p (suc n) fails = rw (first_below_none p n (λ i below. fails i (omega arith)), fails n (omega arith)) refl

-- what is found passes
pub first_below_passes : (p : ℕ → Bool) (n i : ℕ) → first_below p n ≡ Some i → (i < n) × (p i ≡ true)
unfolding first_below
first_below_passes p zero i found = absurd (cc)
first_below_passes p (suc n) i found = by (first_below p n) (p n) refl refl found (first_below_passes p n i)
  where
    by : (o : Option ℕ) (b : Bool) → first_below p n ≡ o → p n ≡ b → option_or o (if b then Some n else None) ≡ Some i
        → (first_below p n ≡ Some i → (i < n) × (p i ≡ true)) → (i < suc n) × (p i ≡ true)
    by (Some k) b before here is earlier = let below = earlier (before ∙ is) in (omega (arith, below.0), below.1)
    by None true before here is earlier = let same : n ≡ i = cc in (omega arith, ap p (sym same) ∙ here)
    by None false before here is earlier = absurd (cc)

-- some index passes, so one is found
pub first_below_some : (p : ℕ → Bool) (n i : ℕ) → i < n → p i ≡ true → first_below p n ≡ None → ⊥
unfolding first_below
first_below_some p zero i below here none = absurd (omega arith)
first_below_some p (suc n) i below here none = by (first_below p n) (p n) refl refl none (λ less. first_below_some p n i less here)
  where
    by : (o : Option ℕ) (b : Bool) → first_below p n ≡ o → p n ≡ b → option_or o (if b then Some n else None) ≡ None
        → (i < n → first_below p n ≡ None → ⊥) → ⊥
    by (Some k) b before last is earlier = cc
    by None true before last is earlier = cc
    by None false before last is earlier =
        elim (cases_lt i n) [
          | inl less ↦ earlier less before
          | inr least ↦ (let same : i ≡ n = omega arith in let both : p i ≡ p n = ap p same in cc)
        ]

-- what is found where one index alone passes
pub first_below_only : (p : ℕ → Bool) (n i : ℕ) → i < n → p i ≡ true → ((k : ℕ) → k < n → p k ≡ true → k ≡ i) → first_below p n ≡ Some i
first_below_only p n i below here only = by (first_below p n) refl
  where
    by : (o : Option ℕ) → first_below p n ≡ o → first_below p n ≡ Some i
    by (Some k) is = let found = first_below_passes p n k is in is ∙ ap Some (only k found.0 found.1)
    by None is = absurd (first_below_some p n i below here is)

-- a look-up that has taken one more index
pub first_below_next : (p : ℕ → Bool) (n : ℕ) (old new : Option ℕ) → old ≡ first_below p n → new ≡ option_or old (if p n then Some n else None) → new ≡ first_below p (n + 1)
first_below_next p n old new before step = step ∙ ap (λ o. option_or o (if p n then Some n else None)) before ∙ sym (first_below_more p n)

map-or : {X : Type 0} (f : ℕ → X) (o : Option ℕ) (b : Bool) (n : ℕ)
    → option_map f (option_or o (if b then Some n else None)) ≡ option_or (option_map f o) (if b then Some (f n) else None)
map-or f None true n = refl
map-or f None false n = refl
map-or f (Some k) b n = refl

-- the same of what is kept of an index
pub first_kept_next : {X : Type 0} (f : ℕ → X) (p : ℕ → Bool) (n : ℕ) (old new : Option X) → old ≡ option_map f (first_below p n)
    → new ≡ option_or old (if p n then Some (f n) else None) → new ≡ option_map f (first_below p (n + 1))
first_kept_next f p n old new before step =
    step ∙ ap (λ o. option_or o (if p n then Some (f n) else None)) before ∙ sym (ap (option_map f) (first_below_more p n) ∙ map-or f (first_below p n) (p n) n)
