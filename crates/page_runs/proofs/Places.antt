-- The placement by its rule and by its computation.
use Rattle.std.proofs.Common.{◌≡◌, ℕ, zero, suc, ◌≤◌, ◌<◌, inl, inr, Bool, true, false, List, [], ◌∷◌, arith, refl, ap, sym}
use Rattle.std.specs.Prelude.{Option, Some, None, is_some, slice_get, nat_le, ◌&&◌, if◌then◌else◌}
use Rattle.std.proofs.lemmas.Bool.{cases_lt, false≢true}
use Rattle.std.proofs.lemmas.Bool.Decides.{nat_tests}
use Rattle.std.proofs.lemmas.Option.{same_Some, none-some}
use Rattle.page_runs.specs.declared.place.Kind.{Kind}
use Rattle.page_runs.specs.declared.place.Kind.TheVariants.{First, Best, Last}
use Rattle.page_runs.specs.declared.run.Run.{Run}
use Rattle.page_runs.specs.Place.{Before, IsPlace, Placed, prefers, place_or, place, first_of, Gets}

-- ---- the computation keeps the rule

before_itself : (kind : Kind) (run : Run) → Before kind 0 run 0 run
before_itself First run = omega arith
before_itself Best run = inr (refl, omega arith)
before_itself Last run = omega arith

alone : (kind : Kind) (run : Run) (runs : List Run) (need j : ℕ) (other : Run) → Placed kind runs need None →
    slice_get (run ∷ runs) j ≡ Some other → need ≤ other.count → Before kind 0 run j other
alone kind run runs need zero other rest is fits = let same : other ≡ run = sym (same_Some _ _ is) in rw same (before_itself kind run)
alone kind run runs need (suc j) other rest is fits = absurd (omega (arith, rest j other is))

taken : (kind : Kind) (run : Run) (runs : List Run) (need i : ℕ) (rest : IsPlace kind runs need i) → prefers kind run (Some rest.run) ≡ true →
    (j : ℕ) (other : Run) → slice_get (run ∷ runs) j ≡ Some other → need ≤ other.count → Before kind 0 run j other
taken First run runs need i rest prefer j other is fits = omega arith
taken Best run runs need i rest prefer zero other is fits = inr (ap (λ (r : Run). r.count) (same_Some _ _ is), omega arith)
taken Best run runs need i rest prefer (suc j) other is fits =
    let le : run.count ≤ rest.run.count = grind (arith, nat_tests) in
    elim (rest.before j other is fits) [
      | inl less ↦ inl (omega arith)
      | inr same ↦ elim (cases_lt run.count other.count) [
        | inl less ↦ inl less
        | inr more ↦ inr (omega (arith, same.0), omega arith)
      ]
    ]
taken Last run runs need i rest prefer j other is fits = absurd (false≢true prefer)

passed : (kind : Kind) (run : Run) (runs : List Run) (need i : ℕ) (rest : IsPlace kind runs need i) →
    (nat_le need run.count && prefers kind run (Some rest.run)) ≡ false →
    (j : ℕ) (other : Run) → slice_get (run ∷ runs) j ≡ Some other → need ≤ other.count → Before kind (suc i) rest.run j other
passed First run runs need i rest prefer zero other is fits =
    let same : run.count ≡ other.count = ap (λ (r : Run). r.count) (same_Some _ _ is) in absurd (grind (arith, nat_tests))
passed First run runs need i rest prefer (suc j) other is fits = omega (arith, rest.before j other is fits)
passed Best run runs need i rest prefer zero other is fits =
    let same : run.count ≡ other.count = ap (λ (r : Run). r.count) (same_Some _ _ is) in inl (grind (arith, nat_tests))
passed Best run runs need i rest prefer (suc j) other is fits = elim (rest.before j other is fits) [
  | inl less ↦ inl less
  | inr same ↦ inr (same.0, omega (arith, same.1))
]
passed Last run runs need i rest prefer zero other is fits = omega arith
passed Last run runs need i rest prefer (suc j) other is fits = omega (arith, rest.before j other is fits)

either : (kind : Kind) (runs : List Run) (need i : ℕ) (b : Bool) → (b ≡ true → IsPlace kind runs need 0) →
    (b ≡ false → IsPlace kind runs need (suc i)) → Placed kind runs need (if b then Some 0 else Some (suc i))
either kind runs need i true front later = front refl
either kind runs need i false front later = later refl

-- one more run in front of others, whose answer is known
placed_or :
    (kind : Kind) (run : Run) (runs : List Run) (need : ℕ) (fits : Bool) (rest : Option ℕ) → nat_le need run.count ≡ fits →
    Placed kind runs need rest → Placed kind (run ∷ runs) need (place_or kind run runs fits rest)
placed_or kind run runs need true None is rest =
    record { run = run; there = refl; fits = grind (arith, nat_tests); before = λ j other. alone kind run runs need j other rest }
placed_or kind run runs need false None is rest = λ j other there. short j other there
  where
    short : (j : ℕ) (other : Run) → slice_get (run ∷ runs) j ≡ Some other → other.count < need
    short zero other there = let same : run.count ≡ other.count = ap (λ (r : Run). r.count) (same_Some _ _ there) in grind (arith, nat_tests)
    short (suc j) other there = rest j other there
placed_or kind run runs need fits (Some i) is rest = rw rest.there (either kind (run ∷ runs) need i (fits && prefers kind run (Some rest.run))
    (λ is_front. record { run = run; there = refl; fits = grind (arith, nat_tests); before = taken kind run runs need i rest (grind (arith, nat_tests)) })
    (λ is_later. record { run = rest.run; there = rest.there; fits = rest.fits; before = passed kind run runs need i rest (rw is is_later) }))

pub placed : (kind : Kind) (runs : List Run) (need : ℕ) → Placed kind runs need (place kind runs need)
unfolding place
placed kind [] need = λ j other is. absurd (none-some other is)
placed kind (run ∷ runs) need = placed_or kind run runs need _ _ refl (placed kind runs need)

-- ---- the rule leaves one answer

one_index : (kind : Kind) (i j : ℕ) (run other : Run) → Before kind i run j other → Before kind j other i run → i ≡ j
one_index First i j run other p q = omega arith
one_index Best i j run other (inl p) (inl q) = absurd (omega arith)
one_index Best i j run other (inl p) (inr q) = absurd (omega arith)
one_index Best i j run other (inr p) (inl q) = absurd (omega arith)
one_index Best i j run other (inr p) (inr q) = omega arith
one_index Last i j run other p q = omega arith

pub one_place : (kind : Kind) (runs : List Run) (need : ℕ) (a b : Option ℕ) → Placed kind runs need a → Placed kind runs need b → a ≡ b
one_place kind runs need None None p q = refl
one_place kind runs need None (Some i) p q = absurd (omega (arith, p i q.run q.there, q.fits))
one_place kind runs need (Some i) None p q = absurd (omega (arith, q i p.run p.there, p.fits))
one_place kind runs need (Some i) (Some j) p q =
    ap (λ (k : ℕ). Some k) (one_index kind i j p.run q.run (p.before j q.run q.there q.fits) (q.before i p.run p.there p.fits))

pub is_place : (kind : Kind) (runs : List Run) (need : ℕ) (a : Option ℕ) → Placed kind runs need a → a ≡ place kind runs need
is_place kind runs need a p = one_place kind runs need _ _ p (placed kind runs need)

-- ---- what a request gets

gets_at : (kind : Kind) (runs : List Run) (need : ℕ) (a : Option ℕ) → Placed kind runs need a → Gets kind runs need (first_of runs a)
gets_at kind runs need None rule = rule
gets_at kind runs need (Some i) rule = let there = rule.there in rw there (record { i = i; place = rule; begins = refl })

pub gets : (kind : Kind) (runs : List Run) (need : ℕ) (got : Option ℕ) → got ≡ first_of runs (place kind runs need) → Gets kind runs need got
gets kind runs need got is = rw is (gets_at kind runs need (place kind runs need) (placed kind runs need))

-- ---- a run fits, whichever is taken

fits_alike : (kind : Kind) (runs : List Run) (need : ℕ) (a b : Option ℕ) → Placed kind runs need a → Placed First runs need b → is_some a ≡ is_some b
fits_alike kind runs need None None p q = refl
fits_alike kind runs need None (Some j) p q = absurd (omega (arith, p j q.run q.there, q.fits))
fits_alike kind runs need (Some i) None p q = absurd (omega (arith, q i p.run p.there, p.fits))
fits_alike kind runs need (Some i) (Some j) p q = refl

pub same_fits : (kind : Kind) (runs : List Run) (need : ℕ) → is_some (place kind runs need) ≡ is_some (place First runs need)
same_fits kind runs need = fits_alike kind runs need _ _ (placed kind runs need) (placed First runs need)
