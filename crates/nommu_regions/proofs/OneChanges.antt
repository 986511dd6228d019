-- What is kept of the regions and the free runs where one region changes.
use Rattle.std.proofs.Common.{◌≡◌, ◌≢◌, ℕ, zero, suc, ◌≤◌, ◌<◌, true, false, List, [], ◌∷◌, length, replicate, get_or, arith, refl, ap, ◌∙◌, sym, length-set}
use Rattle.std.proofs.lemmas.List.{length-replicate}
use Rattle.std.specs.Prelude.{Some, slice_get, slice_set, not}
use Rattle.std.proofs.lemmas.Bool.Decides.{nat_tests}
use Rattle.std.proofs.lemmas.Option.{same_Some, none-some, slice_get-get_or}
use Rattle.page_runs.specs.Free.{Free, free_runs, is_free, with_free, without}
use Rattle.page_runs.specs.Pages.{in_run}
use Rattle.page_runs.proofs.Maximal.{has_page-free_runs, is_free_runs}
use Rattle.nommu_regions.specs.declared.region.Region.{Region}
use Rattle.nommu_regions.specs.Regions.{holds, is_held, AreFree, IsLive, HaveFreeRuns}
use Rattle.nommu_regions.proofs.Held.{is_held-set, is_held-same, is_held-gone, held_by, was_gone, regions_fresh, regions_part}
use Rattle.nommu_regions.proofs.FreeRuns.{free_with, free_without, free_same, are_free}

pub kept_used : (rs : List Region) (free : Free) (id : ℕ) (r v : Region) → HaveFreeRuns rs free → slice_get rs id ≡ Some r → 0 < r.uses →
    v.first ≡ r.first → v.pages ≡ r.pages → 0 < v.uses → HaveFreeRuns (slice_set rs id v) free
kept_used rs free id r v kept there live first pages v_live =
    let len = length-set rs id v in (
      regions_part rs id r v kept.0 there live first (omega arith) (λ _. omega (arith, kept.0.some id r there live)),
      kept.1 ∙ free_same rs (slice_set rs id v) len (λ p. is_held-same rs id r v p there (grind (arith, nat_tests))),
      omega (arith, kept.2),
      omega (arith, kept.3),
    )

pub kept_gone : (rs : List Region) (free new : Free) (id : ℕ) (r v : Region) → HaveFreeRuns rs free → slice_get rs id ≡ Some r → 0 < r.uses →
    v.first ≡ r.first → v.pages ≡ r.pages → v.uses ≡ 0 → new ≡ with_free free r.first r.pages → HaveFreeRuns (slice_set rs id v) new
kept_gone rs free new id r v kept there live first pages gone given =
    let len = length-set rs id v in (
      regions_part rs id r v kept.0 there live first (omega arith) (λ _. omega (arith, kept.0.some id r there live)),
      given ∙ (ap (λ (f : Free). with_free f r.first r.pages) kept.1 ∙
          free_with rs (slice_set rs id v) r.first r.pages len (λ p. is_held-gone rs id r v p kept.0 there live gone)),
      omega (arith, kept.2),
      omega (arith, kept.3),
    )

pub kept_fresh : (rs : List Region) (free new : Free) (v : Region) → HaveFreeRuns rs free → AreFree rs v.first v.pages → 0 < v.pages → v.uses ≡ 1 →
    new ≡ without free v.first v.pages → HaveFreeRuns (slice_set rs v.first v) new
kept_fresh rs free new v kept are some one taken =
    let len = length-set rs v.first v in
    let there = slice_get-get_or rs v.first v (omega (arith, are.inside)) in (
      regions_fresh rs v (get_or rs v.first v) kept.0 are some one there,
      taken ∙ (ap (λ (f : Free). without f v.first v.pages) kept.1 ∙ free_without rs (slice_set rs v.first v) v.first v.pages len (λ p.
          is_held-set rs v.first (get_or rs v.first v) v p there (was_gone rs v.first v.pages (get_or rs v.first v) p kept.0 are some there) ∙
          grind (arith, nat_tests))),
      omega (arith, kept.2),
      omega (arith, kept.3),
    )

get-replicate : (n i : ℕ) (v r : Region) → slice_get (replicate n v) i ≡ Some r → r ≡ v
get-replicate zero i v r is = absurd (none-some r is)
get-replicate (suc n) zero v r is = sym (same_Some _ _ is)
get-replicate (suc n) (suc i) v r is = get-replicate n i v r is

not_held-replicate : (n : ℕ) (v : Region) (p : ℕ) → v.uses ≡ 0 → is_held (replicate n v) p ≡ false
not_held-replicate zero v p gone = refl
not_held-replicate (suc n) v p gone = grind (arith, nat_tests, not_held-replicate n v p gone)

no_use : (n i : ℕ) (v r : Region) → v.uses ≡ 0 → slice_get (replicate n v) i ≡ Some r → 0 < r.uses → ⊥
no_use n i v r gone is live = omega (arith, ap (λ (q : Region). q.uses) (get-replicate n i v r is))

no_page : (n i : ℕ) (v r : Region) (p : ℕ) → v.uses ≡ 0 → slice_get (replicate n v) i ≡ Some r → holds r p ≡ true → ⊥
no_page n i v r p gone is has = let uses = ap (λ (q : Region). q.uses) (get-replicate n i v r is) in grind (arith, nat_tests, uses)

pub kept_new : (n : ℕ) (v : Region) → 1 ≤ n → n ≤ 16384 → v.uses ≡ 0 →
    HaveFreeRuns (replicate n v) (record { pages = n; runs = record { first = 0; count = n } ∷ [] })
kept_new n v some most gone =
    let runs : record { first = 0; count = n } ∷ [] ≡ free_runs n (λ p. not (is_held (replicate n v) p)) =
    is_free_runs n _ (record { first = 0; count = n } ∷ []) (omega arith, (omega arith, omega arith))
    (λ p inside. grind (arith, nat_tests, not_held-replicate n v p gone)) in
    let len : length (replicate n v) ≡ n = length-replicate n v in (
      record {
        begins = λ id r is live. absurd (no_use n id v r gone is live);
        some = λ id r is live. absurd (no_use n id v r gone is live);
        inside = λ id r is live. absurd (no_use n id v r gone is live);
        apart = λ i j r s p is it has. absurd (no_page n i v r p gone is has);
      },
      rw (len, runs),
      omega arith,
      omega arith,
    )

-- ---- pages that are free, or aren't

pub taken_by : (rs : List Region) (free : Free) (id : ℕ) (x : Region) → HaveFreeRuns rs free → slice_get rs id ≡ Some x → 0 < x.uses →
    (p : ℕ) → in_run x.first x.pages p ≡ true → is_free free p ≡ false
taken_by rs free id x kept there live p inside =
    let held = held_by rs id x p there (grind (arith, nat_tests)) in
    rw kept.1 (has_page-free_runs (length rs) (λ q. not (is_held rs q)) p ∙ grind (arith, nat_tests, held))

pub are_free_now : (rs now : List Region) (free : Free) (first count : ℕ) → rs ≡ now → HaveFreeRuns rs free → 0 < count →
    ((p : ℕ) → in_run first count p ≡ true → is_free free p ≡ true) → AreFree now first count
are_free_now rs now free first count same kept some free_is = rw (← same) (are_free rs first count some (rw kept.1 at free_is))

-- ---- what stands at a place

pub get_set : (rs : List Region) (id : ℕ) (v : Region) → id < length rs → slice_get (slice_set rs id v) id ≡ Some v
get_set [] id v less = absurd (omega arith)
get_set (x ∷ rs) zero v less = refl
get_set (x ∷ rs) (suc id) v less = get_set rs id v (omega arith)

pub get_other : (rs : List Region) (i j : ℕ) (v : Region) → j ≢ i → slice_get (slice_set rs i v) j ≡ slice_get rs j
get_other [] i j v other = refl
get_other (x ∷ rs) zero zero v other = absurd (other refl)
get_other (x ∷ rs) zero (suc j) v other = refl
get_other (x ∷ rs) (suc i) zero v other = refl
get_other (x ∷ rs) (suc i) (suc j) v other = get_other rs i j v (omega (arith, other))

pub live_set : (rs : List Region) (id : ℕ) (v : Region) → id < length rs → 0 < v.uses → IsLive (slice_set rs id v) id
live_set rs id v less live = record { region = v; there = get_set rs id v less; live = live }
