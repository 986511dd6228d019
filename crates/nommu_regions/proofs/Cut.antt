-- What is kept where pages are cut out of a region.
use Rattle.std.proofs.Common.{◌≡◌, ◌≢◌, inl, inr, ℕ, ◌+◌, ◌-◌, ◌≤◌, ◌<◌, Bool, true, false, List, length, get_or, arith, refl, ap, ◌∙◌, sym, length-set}
use Rattle.std.specs.Prelude.{Some, slice_get, slice_set, ◌&&◌, ◌||◌, not}
use Rattle.std.proofs.lemmas.Bool.{cases_Bool}
use Rattle.std.proofs.lemmas.Bool.Decides.{nat_tests}
use Rattle.std.proofs.lemmas.Option.{same_Some, slice_get_within, slice_get-get_or}
use Rattle.page_runs.specs.Free.{Free, with_free}
use Rattle.page_runs.specs.Pages.{in_run}
use Rattle.nommu_regions.specs.declared.region.Region.{Region}
use Rattle.nommu_regions.specs.Regions.{holds, is_held, AreRegions, AreFree, IsLive, CanCut, free_of, before, behind, is_left, with_behind, with_cut, HaveFreeRuns}
use Rattle.nommu_regions.proofs.Held.{is_held-set, is_held-part, held_by, not_held, was_gone, regions_fresh, regions_part}
use Rattle.nommu_regions.proofs.FreeRuns.{free_with}
use Rattle.nommu_regions.proofs.OneChanges.{get_set, get_other}

-- pages of the region x, and not all of its pages
pub record IsCut (rs : List Region) (id : ℕ) (x : Region) (from count : ℕ) : Type 0 where
  pub there : slice_get rs id ≡ Some x
  pub one : x.uses ≡ 1
  pub first : x.first ≤ from
  pub last : from + count ≤ x.first + x.pages
  pub some : 0 < count
  pub less : count < x.pages

pub is_cut : (rs : List Region) (id from count : ℕ) (d : Region) → CanCut rs id from count → IsCut rs id (get_or rs id d) from count
is_cut rs id from count d can =
    let read : slice_get rs id ≡ Some (get_or rs id d) = slice_get-get_or rs id d (slice_get_within rs id can.region can.there) in
    let is : can.region ≡ get_or rs id d = same_Some _ _ (sym can.there ∙ read) in
    let uses : can.region.uses ≡ (get_or rs id d).uses = ap (λ (q : Region). q.uses) is in
    let first : can.region.first ≡ (get_or rs id d).first = ap (λ (q : Region). q.first) is in
    let pages : can.region.pages ≡ (get_or rs id d).pages = ap (λ (q : Region). q.pages) is in
    record {
      there = read;
      one = omega (arith, can.one);
      first = omega (arith, can.inside);
      last = omega (arith, can.inside);
      some = can.some;
      less = omega (arith, can.less);
    }

-- ---- the pages that are held

front_part : (x : Region) (from p : ℕ) → from ≤ x.first + x.pages → holds (before x from) p ≡ true → holds x p ≡ true
front_part x from p last has = grind (arith, nat_tests)

held_front : (rs : List Region) (id : ℕ) (x : Region) (from count p : ℕ) → AreRegions rs → IsCut rs id x from count →
    is_held (slice_set rs id (before x from)) p ≡ (is_held rs p && (not (holds x p) || holds (before x from) p))
held_front rs id x from count p regions cut =
    is_held-part rs id x (before x from) p regions cut.there (λ has. front_part x from p (omega (arith, cut.last)) has)

-- what is held before a cut or behind it is what was held but the pages that go
both_parts : (x : Region) (from count p : ℕ) (h : Bool) → x.uses ≡ 1 → x.first ≤ from → from + count ≤ x.first + x.pages → (holds x p ≡ true → h ≡ true) →
    ((h && (not (holds x p) || holds (before x from) p)) || holds (behind x (from + count)) p) ≡ (h && not (in_run from count p))
both_parts x from count p true one first last held = grind (arith, nat_tests)
both_parts x from count p false one first last held = grind (arith, nat_tests, held)

-- no page behind the cut is held once the region has what is before it
free_back : (rs : List Region) (id : ℕ) (x : Region) (from count : ℕ) → AreRegions rs → IsCut rs id x from count →
    AreFree (slice_set rs id (before x from)) (from + count) (behind x (from + count)).pages
free_back rs id x from count regions cut = record {
  inside = omega (arith, cut.last, cut.one, regions.inside id x cut.there (omega (arith, cut.one)), length-set rs id (before x from));
  free = λ p inside. held_front rs id x from count p regions cut ∙ gone p inside;
}
  where
    gone : (p : ℕ) → in_run (from + count) (x.first + x.pages - (from + count)) p ≡ true →
        (is_held rs p && (not (holds x p) || holds (before x from) p)) ≡ false
    gone p inside =
        let has : holds x p ≡ true = grind (arith, nat_tests, cut.one, cut.first, cut.last, cut.some) in
        let lost : holds (before x from) p ≡ false = grind (arith, nat_tests, cut.one, cut.first, cut.last, cut.some) in
        sym (not_held (is_held rs p) (holds x p) (holds (before x from) p) has lost)

-- ---- the regions and the free runs

regions_front : (rs : List Region) (id : ℕ) (x : Region) (from count : ℕ) → AreRegions rs → IsCut rs id x from count →
    AreRegions (slice_set rs id (before x from))
regions_front rs id x from count regions cut =
    regions_part rs id x (before x from) regions cut.there (omega (arith, cut.one)) refl (omega (arith, cut.last))
    (λ live. grind (arith, nat_tests, live, cut.first))

pub kept_front : (rs : List Region) (free new : Free) (id : ℕ) (x : Region) (from count : ℕ) → HaveFreeRuns rs free → IsCut rs id x from count →
    new ≡ with_free free from count → from + count ≡ x.first + x.pages → HaveFreeRuns (slice_set rs id (before x from)) new
kept_front rs free new id x from count kept cut given ends =
    let len = length-set rs id (before x from) in (
      regions_front rs id x from count kept.0 cut,
      given ∙ (ap (λ (f : Free). with_free f from count) kept.1 ∙ free_with rs (slice_set rs id (before x from)) from count len held),
      omega (arith, kept.2),
      omega (arith, kept.3),
    )
  where
    held : (p : ℕ) → is_held (slice_set rs id (before x from)) p ≡ (is_held rs p && not (in_run from count p))
    held p = held_front rs id x from count p kept.0 cut ∙ grind (arith, nat_tests, held_by rs id x p cut.there, cut.one, cut.first, cut.some)

pub kept_back : (rs : List Region) (free new : Free) (id : ℕ) (x : Region) (from count : ℕ) → HaveFreeRuns rs free → IsCut rs id x from count →
    new ≡ with_free free from count → from + count < x.first + x.pages →
    HaveFreeRuns (slice_set (slice_set rs id (before x from)) (from + count) (behind x (from + count))) new
kept_back rs free new id x from count kept cut given more = by_place (slice_get-get_or front (from + count) back (omega (arith, are.inside, more)))
  where
    front : List Region
    front = slice_set rs id (before x from)

    back : Region
    back = behind x (from + count)

    are : AreFree front (from + count) back.pages
    are = free_back rs id x from count kept.0 cut

    front_held : (p : ℕ) → is_held front p ≡ (is_held rs p && (not (holds x p) || holds (before x from) p))
    front_held p = held_front rs id x from count p kept.0 cut

    by_place : slice_get front (from + count) ≡ Some (get_or front (from + count) back) → HaveFreeRuns (slice_set front (from + count) back) new
    by_place there =
        let regions : AreRegions front = regions_front rs id x from count kept.0 cut in
        let one : length front ≡ length rs = length-set rs id (before x from) in
        let two : length (slice_set front (from + count) back) ≡ length front = length-set front (from + count) back in (
          regions_fresh front back (get_or front (from + count) back) regions are (omega (arith, more)) (omega (arith, cut.one)) there,
          given ∙ (ap (λ (f : Free). with_free f from count) kept.1 ∙ free_with rs (slice_set front (from + count) back) from count (omega arith) (held there)),
          omega (arith, kept.2),
          omega (arith, kept.3),
        )
      where
        held : slice_get front (from + count) ≡ Some (get_or front (from + count) back) → (p : ℕ) →
            is_held (slice_set front (from + count) back) p ≡ (is_held rs p && not (in_run from count p))
        held there p =
            let gone = was_gone front (from + count) back.pages (get_or front (from + count) back) p (regions_front rs id x from count kept.0 cut) are (omega (arith, more)) there in
            is_held-set front (from + count) (get_or front (from + count) back) back p there gone ∙
            (ap (λ (h : Bool). h || holds back p) (front_held p) ∙
            both_parts x from count p (is_held rs p) cut.one cut.first cut.last (held_by rs id x p cut.there))

-- ---- from a value that is known by its view

without_behind : (rs : List Region) (x : Region) (from : ℕ) → is_left x from ≡ false → with_behind rs x from ≡ rs
without_behind rs x from none = rw none refl

put_behind : (rs : List Region) (x : Region) (from : ℕ) → is_left x from ≡ true → with_behind rs x from ≡ slice_set rs from (behind x from)
put_behind rs x from some = rw some refl

-- the places lie in memory
pub cut_inside : (rs : List Region) (free : Free) (id : ℕ) (x : Region) (from count : ℕ) → HaveFreeRuns rs free → IsCut rs id x from count →
    x.first + x.pages ≤ length rs
cut_inside rs free id x from count kept cut = kept.0.inside id x cut.there (omega (arith, cut.one))

pub begins_at : (rs : List Region) (free : Free) (id : ℕ) (x : Region) (from count : ℕ) → HaveFreeRuns rs free → IsCut rs id x from count → x.first ≡ id
begins_at rs free id x from count kept cut = kept.0.begins id x cut.there (omega (arith, cut.one))

pub is_front : (rs : List Region) (id : ℕ) (x : Region) (from count : ℕ) → IsCut rs id x from count → from + count ≡ x.first + x.pages →
    slice_set rs id (before x from) ≡ with_cut rs id from count
unfolding with_cut
is_front rs id x from count cut ends =
    let there : slice_get rs id ≡ Some x = cut.there in
    let none : is_left x (from + count) ≡ false = grind (arith, nat_tests) in
    rw there (sym (without_behind (slice_set rs id (before x from)) x (from + count) none))

pub is_front_and_back : (rs : List Region) (id : ℕ) (x : Region) (from count : ℕ) → IsCut rs id x from count → from + count < x.first + x.pages →
    slice_set (slice_set rs id (before x from)) (from + count) (behind x (from + count)) ≡ with_cut rs id from count
unfolding with_cut
is_front_and_back rs id x from count cut more =
    let there : slice_get rs id ≡ Some x = cut.there in
    let some : is_left x (from + count) ≡ true = grind (arith, nat_tests) in
    rw there (sym (put_behind (slice_set rs id (before x from)) x (from + count) some))

-- the free runs are those before the cut, with its pages
pub freed : (rs new : List Region) (free given : Free) (from count : ℕ) → HaveFreeRuns rs free → HaveFreeRuns new given → given ≡ with_free free from count →
    free_of new ≡ with_free (free_of rs) from count
freed rs new free given from count kept after is = sym after.1 ∙ (is ∙ ap (λ (f : Free). with_free f from count) kept.1)

-- ---- what stands at a page behind a cut

pub cut_lower : (rs : List Region) (id : ℕ) (x : Region) (from count : ℕ) → IsCut rs id x from count → id ≢ from + count →
    slice_get (with_cut rs id from count) id ≡ Some (before x from)
unfolding with_cut
cut_lower rs id x from count cut other =
    let there : slice_get rs id ≡ Some x = cut.there in
    let front : slice_get (slice_set rs id (before x from)) id ≡ Some (before x from) = get_set rs id (before x from) (slice_get_within rs id x there) in
    rw there (elim (cases_Bool (is_left x (from + count))) [
      | inl some ↦ rw some (get_other (slice_set rs id (before x from)) (from + count) id (behind x (from + count)) other ∙ front)
      | inr none ↦ rw none front
    ])

pub cut_upper : (rs : List Region) (id : ℕ) (x : Region) (from count : ℕ) → IsCut rs id x from count → x.first + x.pages ≤ length rs → from + count < x.first + x.pages →
    slice_get (with_cut rs id from count) (from + count) ≡ Some (behind x (from + count))
cut_upper rs id x from count cut inside more =
    rw (← is_front_and_back rs id x from count cut more)
    (get_set (slice_set rs id (before x from)) (from + count) (behind x (from + count)) (omega (arith, length-set rs id (before x from))))

pub cut_other : (rs : List Region) (id : ℕ) (x : Region) (from count at : ℕ) → AreRegions rs → IsCut rs id x from count → IsLive rs at → at ≢ id →
    slice_get (with_cut rs id from count) at ≡ slice_get rs at
unfolding with_cut
cut_other rs id x from count at regions cut live other =
    let there : slice_get rs id ≡ Some x = cut.there in
    let front : slice_get (slice_set rs id (before x from)) at ≡ slice_get rs at = get_other rs id at (before x from) other in
    rw there (elim (cases_Bool (is_left x (from + count))) [
      | inl some ↦ rw some (get_other (slice_set rs id (before x from)) (from + count) at (behind x (from + count)) (λ e. other (met e some)) ∙ front)
      | inr none ↦ rw none front
    ])
  where
    met : at ≡ from + count → is_left x (from + count) ≡ true → at ≡ id
    met e some =
        let mine : holds live.region at ≡ true = grind (arith, nat_tests, regions.begins at live.region live.there live.live, regions.some at live.region live.there live.live, live.live) in
        let cuts : holds x at ≡ true = grind (arith, nat_tests, cut.one, cut.first, cut.some) in
        regions.apart at id live.region x at live.there cut.there mine cuts
