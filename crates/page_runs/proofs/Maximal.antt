-- The maximal runs of the pages that pass a test.
use Rattle.std.proofs.Common.{◌≡◌, ℕ, zero, suc, ◌+◌, ◌≤◌, ◌<◌, inl, inr, Bool, true, false, List, [], ◌∷◌, arith, refl, ap, ◌∙◌, sym}
use Rattle.std.specs.Prelude.{◌==◌, ◌&&◌, ◌||◌, nat_lt, if◌then◌else◌}
use Rattle.std.proofs.lemmas.Bool.{cases_lt, cases_eq, false≢true}
use Rattle.std.proofs.lemmas.Bool.Decides.{nat_tests}
use Rattle.page_runs.specs.declared.run.Run.{Run}
use Rattle.page_runs.specs.Pages.{in_run, has_page, Spaced}
use Rattle.page_runs.specs.Free.{joined, runs_from, free_runs, IsFree}
use Rattle.page_runs.proofs.Spacing.{spaced_from, page_before, page_past, spaced_apart}

-- ---- two lists of maximal runs with the same pages are one

first_page : (r : Run) (rs : List Run) → 0 < r.count → has_page (r ∷ rs) r.first ≡ true
first_page r rs some = grind (arith, nat_tests)

first_is_lowest : (low high : ℕ) (r : Run) (rs : List Run) (p : ℕ) → Spaced 1 low high (r ∷ rs) → has_page (r ∷ rs) p ≡ true → r.first ≤ p
first_is_lowest low high r rs p spaced has = elim (cases_lt p r.first) [
  | inl before ↦ absurd (false≢true (sym (page_before 1 r.first high (r ∷ rs) p (omega arith, spaced.1) before) ∙ has))
  | inr from ↦ from
]

first_le : (low high : ℕ) (x y : Run) (xs ys : List Run) → Spaced 1 low high (x ∷ xs) → Spaced 1 low high (y ∷ ys) →
    ((p : ℕ) → has_page (x ∷ xs) p ≡ has_page (y ∷ ys) p) → x.first ≤ y.first
first_le low high x y xs ys p q same = first_is_lowest low high x xs y.first p (same y.first ∙ first_page y ys q.1.0)

count_le : (low high : ℕ) (x y : Run) (xs ys : List Run) → Spaced 1 low high (x ∷ xs) → Spaced 1 low high (y ∷ ys) →
    ((p : ℕ) → has_page (x ∷ xs) p ≡ has_page (y ∷ ys) p) → x.first ≡ y.first → x.count ≤ y.count
count_le low high x y xs ys p q same begin = elim (cases_lt y.count x.count) [
  | inl less ↦ absurd (false≢true (sym (ends (y.first + y.count) refl) ∙ (sym (same (y.first + y.count)) ∙ (inside (y.first + y.count) refl less))))
  | inr le ↦ le
]
  where
    ends : (e : ℕ) → e ≡ y.first + y.count → has_page (y ∷ ys) e ≡ false
    ends e is = grind (arith, nat_tests, page_before 1 (y.first + y.count + 1) high ys e q.1.1 (omega arith))

    inside : (e : ℕ) → e ≡ y.first + y.count → y.count < x.count → has_page (x ∷ xs) e ≡ true
    inside e is less = grind (arith, nat_tests)

run_of : ℕ → ℕ → Run
run_of first count = record { first = first; count = count }

run_is : (x y : Run) → x.first ≡ y.first → x.count ≡ y.count → x ≡ y
unfolding run_of
run_is x y begin count = ap (λ (f : ℕ). run_of f x.count) begin ∙ ap (λ (c : ℕ). run_of y.first c) count

tail_same : (low high : ℕ) (x y : Run) (xs ys : List Run) → Spaced 1 low high (x ∷ xs) → Spaced 1 low high (y ∷ ys) →
    x.first ≡ y.first → x.count ≡ y.count → ((p : ℕ) → has_page (x ∷ xs) p ≡ has_page (y ∷ ys) p) → (p : ℕ) → has_page xs p ≡ has_page ys p
tail_same low high x y xs ys p q begin count same page = elim (cases_lt page (x.first + x.count + 1)) [
  | inl before ↦ page_before 1 _ high xs page p.1.1 before ∙ sym (page_before 1 _ high ys page q.1.1 (omega arith))
  | inr from ↦ grind (arith, nat_tests, same page)
]

pub same_runs :
    (low high : ℕ) (xs ys : List Run) → Spaced 1 low high xs → Spaced 1 low high ys → ((p : ℕ) → has_page xs p ≡ has_page ys p) → xs ≡ ys
same_runs low high [] [] p q same = refl
same_runs low high [] (y ∷ ys) p q same = absurd (false≢true (same y.first ∙ first_page y ys q.1.0))
same_runs low high (x ∷ xs) [] p q same = absurd (false≢true (sym (same x.first) ∙ first_page x xs p.1.0))
same_runs low high (x ∷ xs) (y ∷ ys) p q same =
    let flip : (k : ℕ) → has_page (y ∷ ys) k ≡ has_page (x ∷ xs) k = λ k. sym (same k) in
    let begin : x.first ≡ y.first = omega (arith, first_le low high x y xs ys p q same, first_le low high y x ys xs q p flip) in
    let count : x.count ≡ y.count = omega (arith, count_le low high x y xs ys p q same begin, count_le low high y x ys xs q p flip (sym begin)) in
    let head : x ≡ y = run_is x y begin count in
    let tail : xs ≡ ys = same_runs (x.first + x.count + 1) high xs ys p.1.1
    (spaced_from 1 (y.first + y.count + 1) high ys (x.first + x.count + 1) q.1.1 (omega arith))
    (tail_same low high x y xs ys p q begin count same) in
    cc

-- ---- the computed runs

spaced_either : (b : Bool) (low high : ℕ) (xs ys : List Run) → (b ≡ true → Spaced 1 low high xs) → (b ≡ false → Spaced 1 low high ys) →
    Spaced 1 low high (if b then xs else ys)
spaced_either true low high xs ys p q = p refl
spaced_either false low high xs ys p q = q refl

joined_spaced :
    (free : Bool) (at high : ℕ) (rs : List Run) → Spaced 1 (at + 1) high rs → at + 2 ≤ high → Spaced 1 at high (joined free at rs)
joined_spaced false at high rs spaced le = spaced_from 1 _ high rs at spaced (omega arith)
joined_spaced true at high [] spaced le = (omega arith, (omega arith, omega arith))
joined_spaced true at high (r ∷ rs) spaced le = spaced_either (r.first == at + 1) at high _ _
    (λ is. (omega arith, (omega arith, spaced_from 1 _ high rs (at + (r.count + 1) + 1) spaced.1.1 (grind (arith, nat_tests)))))
    (λ is. (omega arith, (omega arith, (grind (arith, nat_tests), spaced.1))))

pub runs_from-spaced : (free : ℕ → Bool) (at n : ℕ) → Spaced 1 at (at + n + 1) (runs_from free at n)
runs_from-spaced free at zero = omega arith
runs_from-spaced free at (suc n) =
    let same : at + suc n + 1 ≡ at + 1 + n + 1 = omega arith in
    rw same (joined_spaced (free at) at (at + 1 + n + 1) (runs_from free (at + 1) n) (runs_from-spaced free (at + 1) n) (omega arith))

page_either : (b : Bool) (xs ys : List Run) (p : ℕ) (is : Bool) → (b ≡ true → has_page xs p ≡ is) → (b ≡ false → has_page ys p ≡ is) →
    has_page (if b then xs else ys) p ≡ is
page_either true xs ys p is f g = f refl
page_either false xs ys p is f g = g refl

has_page-joined : (free : Bool) (at : ℕ) (rs : List Run) (p : ℕ) → has_page (joined free at rs) p ≡ ((in_run at 1 p && free) || has_page rs p)
has_page-joined false at rs p = grind (arith, nat_tests)
has_page-joined true at [] p = grind (arith, nat_tests)
has_page-joined true at (r ∷ rs) p = page_either (r.first == at + 1) _ _ p _ (λ is. grind (arith, nat_tests)) (λ is. grind (arith, nat_tests))

pub has_page-runs_from : (free : ℕ → Bool) (at n p : ℕ) → has_page (runs_from free at n) p ≡ (in_run at n p && free p)
has_page-runs_from free at zero p = grind (arith, nat_tests)
has_page-runs_from free at (suc n) p = elim (cases_eq p at) [
  | inl here ↦ rw here (has_page-joined (free at) at (runs_from free (at + 1) n) at ∙ grind (arith, nat_tests, has_page-runs_from free (at + 1) n at))
  | inr other ↦ has_page-joined (free at) at (runs_from free (at + 1) n) p ∙ grind (arith, nat_tests, has_page-runs_from free (at + 1) n p)
]

-- ---- a memory's free runs

pub has_page-free_runs : (pages : ℕ) (free : ℕ → Bool) (p : ℕ) → has_page (free_runs pages free) p ≡ (nat_lt p pages && free p)
unfolding free_runs
has_page-free_runs pages free p = has_page-runs_from free 0 pages p ∙ grind (arith, nat_tests)

pub free_runs-spaced : (pages : ℕ) (free : ℕ → Bool) → Spaced 1 0 (pages + 1) (free_runs pages free)
unfolding free_runs
free_runs-spaced pages free = let same : pages + 1 ≡ 0 + pages + 1 = omega arith in rw same (runs_from-spaced free 0 pages)

-- a list of maximal runs is known by its pages
pub is_free_runs :
    (pages : ℕ) (free : ℕ → Bool) (rs : List Run) → Spaced 1 0 (pages + 1) rs → ((p : ℕ) → p < pages → has_page rs p ≡ free p) →
    rs ≡ free_runs pages free
is_free_runs pages free rs spaced same =
    same_runs 0 (pages + 1) rs (free_runs pages free) spaced (free_runs-spaced pages free) (λ p. elim (cases_lt p pages) [
      | inl inside ↦ same p inside ∙ grind (arith, nat_tests, has_page-free_runs pages free p)
      | inr past ↦ grind (arith, nat_tests, has_page-free_runs pages free p, last_page p past)
    ])
  where
    last_page : (p : ℕ) → pages ≤ p → has_page rs p ≡ false
    last_page p past = page_past 0 0 pages rs p (spaced_apart pages rs spaced) past

-- such a list is a memory's free runs
pub is_free_list : (pages : ℕ) (rs : List Run) → Spaced 1 0 (pages + 1) rs → IsFree (record { pages = pages; runs = rs })
is_free_list pages rs spaced = record { spaced = spaced; runs = is_free_runs pages (has_page rs) rs spaced (λ p inside. refl) }
