-- The free runs, where other pages are held.
use Rattle.std.proofs.Common.{◌≡◌, ℕ, ◌+◌, ◌-◌, ◌≤◌, ◌<◌, Bool, true, false, List, length, arith, refl, ap, ◌∙◌, sym}
use Rattle.std.specs.Prelude.{◌&&◌, ◌||◌, not}
use Rattle.std.proofs.lemmas.Bool.Decides.{nat_tests}
use Rattle.page_runs.specs.Free.{Free, free_runs, is_free, with_free, without}
use Rattle.page_runs.specs.Pages.{in_run}
use Rattle.page_runs.proofs.Maximal.{has_page-free_runs, free_runs-spaced, is_free_runs}
use Rattle.nommu_regions.specs.declared.region.Region.{Region}
use Rattle.nommu_regions.specs.Regions.{is_held, AreFree, free_of}

same_free : (pages : ℕ) (f g : ℕ → Bool) → ((p : ℕ) → p < pages → f p ≡ g p) → free_runs pages f ≡ free_runs pages g
same_free pages f g same = is_free_runs pages g (free_runs pages f) (free_runs-spaced pages f)
    (λ p inside. has_page-free_runs pages f p ∙ grind (arith, nat_tests, same p inside))

free_record : ℕ → List Region → (ℕ → Bool) → Free
free_record pages rs f = record { pages = pages; runs = free_runs pages f }

-- with pages that are held no more
pub free_with : (rs new : List Region) (first count : ℕ) → length new ≡ length rs →
    ((p : ℕ) → is_held new p ≡ (is_held rs p && not (in_run first count p))) → with_free (free_of rs) first count ≡ free_of new
unfolding free_record
free_with rs new first count len held =
    let runs = same_free (length rs) (λ p. is_free (free_of rs) p || in_run first count p) (λ p. not (is_held new p))
    (λ p inside. grind (arith, nat_tests, held p, has_page-free_runs (length rs) (λ q. not (is_held rs q)) p)) in
    let e : with_free (free_of rs) first count ≡ free_record (length rs) rs (λ p. not (is_held new p)) = ap (λ (x : List _). record { pages = length rs; runs = x }) runs in
    e ∙ ap (λ (n : ℕ). free_record n rs (λ p. not (is_held new p))) (sym len)

-- with more pages held
pub free_without : (rs new : List Region) (first count : ℕ) → length new ≡ length rs →
    ((p : ℕ) → is_held new p ≡ (is_held rs p || in_run first count p)) → without (free_of rs) first count ≡ free_of new
unfolding free_record
free_without rs new first count len held =
    let runs = same_free (length rs) (λ p. is_free (free_of rs) p && not (in_run first count p)) (λ p. not (is_held new p))
    (λ p inside. grind (arith, nat_tests, held p, has_page-free_runs (length rs) (λ q. not (is_held rs q)) p)) in
    let e : without (free_of rs) first count ≡ free_record (length rs) rs (λ p. not (is_held new p)) = ap (λ (x : List _). record { pages = length rs; runs = x }) runs in
    e ∙ ap (λ (n : ℕ). free_record n rs (λ p. not (is_held new p))) (sym len)

-- with the same ones held
pub free_same : (rs new : List Region) → length new ≡ length rs → ((p : ℕ) → is_held new p ≡ is_held rs p) → free_of rs ≡ free_of new
unfolding free_record
free_same rs new len held =
    let runs = same_free (length rs) (λ p. not (is_held rs p)) (λ p. not (is_held new p)) (λ p inside. ap not (sym (held p))) in
    let e : free_of rs ≡ free_record (length rs) rs (λ p. not (is_held new p)) = ap (λ (x : List _). record { pages = length rs; runs = x }) runs in
    e ∙ ap (λ (n : ℕ). free_record n rs (λ p. not (is_held new p))) (sym len)

-- pages that a free run has
pub are_free : (rs : List Region) (first count : ℕ) → 0 < count → ((p : ℕ) → in_run first count p ≡ true → is_free (free_of rs) p ≡ true) → AreFree rs first count
are_free rs first count some free = record {
  inside = last (first + count - 1) refl (is_inside (first + count - 1) (grind (arith, nat_tests)));
  free = λ p has. not_held p (free p has);
}
  where
    is_inside : (p : ℕ) → in_run first count p ≡ true → p < length rs
    is_inside p has = let h = free p has in grind (arith, nat_tests, h, has_page-free_runs (length rs) (λ q. not (is_held rs q)) p)

    last : (p : ℕ) → p ≡ first + count - 1 → p < length rs → first + count ≤ length rs
    last p is less = omega arith

    not_held : (p : ℕ) → is_free (free_of rs) p ≡ true → is_held rs p ≡ false
    not_held p h = grind (arith, nat_tests, h, has_page-free_runs (length rs) (λ q. not (is_held rs q)) p)
