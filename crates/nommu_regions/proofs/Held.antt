-- Which pages are held after a change of one region, and that the regions are still regions.
use Rattle.std.proofs.Common.{◌≡◌, ◌≢◌, ℕ, zero, suc, ◌≤◌, ◌<◌, ◌⊎◌, inl, inr, Bool, true, false, List, [], ◌∷◌, arith, refl, ap, ◌∙◌, sym, length-set}
use Rattle.std.specs.Prelude.{Some, slice_get, slice_set, ◌&&◌, ◌||◌, not}
use Rattle.std.proofs.lemmas.Bool.{cases_lt, false≢true}
use Rattle.std.proofs.lemmas.Bool.Decides.{nat_tests}
use Rattle.std.proofs.lemmas.Option.{same_Some, none-some}
use Rattle.page_runs.specs.Pages.{in_run}
use Rattle.nommu_regions.specs.declared.region.Region.{Region}
use Rattle.nommu_regions.specs.Regions.{holds, is_held, AreRegions, AreFree}

-- ---- a list with one place changed

pub after_set : (rs : List Region) (i j : ℕ) (v r : Region) → slice_get (slice_set rs i v) j ≡ Some r →
    ((j ≡ i) × (r ≡ v)) ⊎ ((j ≢ i) × (slice_get rs j ≡ Some r))
after_set [] i j v r is = absurd (none-some r is)
after_set (x ∷ rs) zero zero v r is = inl (refl, sym (same_Some _ _ is))
after_set (x ∷ rs) zero (suc j) v r is = inr (omega arith, is)
after_set (x ∷ rs) (suc i) zero v r is = inr (omega arith, is)
after_set (x ∷ rs) (suc i) (suc j) v r is = elim (after_set rs i j v r is) [
  | inl here ↦ inl (ap suc here.0, here.1)
  | inr other ↦ inr (omega (arith, other.0), other.1)
]

-- ---- the pages that are held

pub is_held-set : (rs : List Region) (i : ℕ) (r v : Region) (p : ℕ) → slice_get rs i ≡ Some r → holds r p ≡ false →
    is_held (slice_set rs i v) p ≡ (is_held rs p || holds v p)
is_held-set [] i r v p is gone = absurd (none-some r is)
is_held-set (x ∷ rs) zero r v p is gone =
    let same : holds x p ≡ false = ap (λ (s : Region). holds s p) (same_Some _ _ is) ∙ gone in
    grind (arith, nat_tests, same)
is_held-set (x ∷ rs) (suc i) r v p is gone = grind (arith, nat_tests, is_held-set rs i r v p is gone)

pub is_held-same : (rs : List Region) (i : ℕ) (r v : Region) (p : ℕ) → slice_get rs i ≡ Some r → holds r p ≡ holds v p →
    is_held (slice_set rs i v) p ≡ is_held rs p
is_held-same [] i r v p is same = absurd (none-some r is)
is_held-same (x ∷ rs) zero r v p is same =
    ap (λ (b : Bool). b || is_held rs p) (sym same ∙ sym (ap (λ (s : Region). holds s p) (same_Some _ _ is)))
is_held-same (x ∷ rs) (suc i) r v p is same = ap (λ (b : Bool). holds x p || b) (is_held-same rs i r v p is same)

pub none_held : (rs : List Region) (p : ℕ) → ((j : ℕ) (s : Region) → slice_get rs j ≡ Some s → holds s p ≡ false) → is_held rs p ≡ false
none_held [] p none = refl
none_held (x ∷ rs) p none = grind (arith, nat_tests, none 0 x refl, none_held rs p (λ j s is. none (suc j) s is))

pub held_by : (rs : List Region) (i : ℕ) (r : Region) (p : ℕ) → slice_get rs i ≡ Some r → holds r p ≡ true → is_held rs p ≡ true
held_by [] i r p is has = absurd (none-some r is)
held_by (x ∷ rs) zero r p is has =
    let same : holds x p ≡ true = ap (λ (s : Region). holds s p) (same_Some _ _ is) ∙ has in
    grind (arith, nat_tests, same)
held_by (x ∷ rs) (suc i) r p is has = grind (arith, nat_tests, held_by rs i r p is has)

is_false : (b : Bool) → (b ≡ true → ⊥) → b ≡ false
is_false true never = absurd (never refl)
is_false false never = refl

all_held : (h a b : Bool) → a ≡ false → h ≡ (h && (not a || b))
all_held true true b none = absurd (false≢true (sym none))
all_held true false b none = refl
all_held false a b none = refl

part_held : (h a b : Bool) → b ≡ true → h ≡ (h && (not a || b))
part_held true true true left = refl
part_held true true false left = absurd (false≢true left)
part_held true false b left = refl
part_held false a b left = refl

pub not_held : (h a b : Bool) → a ≡ true → b ≡ false → false ≡ (h && (not a || b))
not_held true true true has lost = absurd (false≢true (sym lost))
not_held true true false has lost = refl
not_held true false b has lost = absurd (false≢true has)
not_held false a b has lost = refl

-- a region that gets other pages, all of which it had
pub is_held-part : (rs : List Region) (i : ℕ) (r v : Region) (p : ℕ) → AreRegions rs → slice_get rs i ≡ Some r → (holds v p ≡ true → holds r p ≡ true) →
    is_held (slice_set rs i v) p ≡ (is_held rs p && (not (holds r p) || holds v p))
is_held-part rs i r v p regions is part = by_page (holds r p) (holds v p) refl refl
  where
    no_other : holds r p ≡ true → holds v p ≡ false → (j : ℕ) (s : Region) → slice_get (slice_set rs i v) j ≡ Some s → holds s p ≡ false
    no_other has lost j s there = elim (after_set rs i j v s there) [
      | inl here ↦ ap (λ (q : Region). holds q p) here.1 ∙ lost
      | inr other ↦ is_false (holds s p) (λ s_has. other.0 (sym (regions.apart i j r s p is other.1 has s_has)))
    ]

    by_page : (a b : Bool) → holds r p ≡ a → holds v p ≡ b → is_held (slice_set rs i v) p ≡ (is_held rs p && (not (holds r p) || holds v p))
    by_page true true has left = is_held-same rs i r v p is (has ∙ sym left) ∙ part_held (is_held rs p) (holds r p) (holds v p) left
    by_page true false has lost = none_held (slice_set rs i v) p (no_other has lost) ∙ not_held (is_held rs p) (holds r p) (holds v p) has lost
    by_page false true none left = absurd (false≢true (sym none ∙ part left))
    by_page false false none lost = is_held-same rs i r v p is (none ∙ sym lost) ∙ all_held (is_held rs p) (holds r p) (holds v p) none

-- the only one that has a page goes
pub is_held-gone : (rs : List Region) (i : ℕ) (r v : Region) (p : ℕ) → AreRegions rs → slice_get rs i ≡ Some r → 0 < r.uses → v.uses ≡ 0 →
    is_held (slice_set rs i v) p ≡ (is_held rs p && not (in_run r.first r.pages p))
is_held-gone rs i r v p regions is live gone = is_held-part rs i r v p regions is (λ has. grind (arith, nat_tests, has)) ∙ grind (arith, nat_tests)

-- ---- the regions after a change

-- a new one
pub regions_fresh : (rs : List Region) (v : Region) (r : Region) → AreRegions rs → AreFree rs v.first v.pages → 0 < v.pages → v.uses ≡ 1 → slice_get rs v.first ≡ Some r →
    AreRegions (slice_set rs v.first v)
regions_fresh rs v r regions free some one there = record {
  begins = λ id s is live. elim (after_set rs v.first id v s is) [
    | inl here ↦ ap (λ (q : Region). q.first) here.1 ∙ sym here.0
    | inr other ↦ regions.begins id s other.1 live
  ];
  some = λ id s is live. elim (after_set rs v.first id v s is) [
    | inl here ↦ omega (arith, ap (λ (q : Region). q.pages) here.1)
    | inr other ↦ regions.some id s other.1 live
  ];
  inside = λ id s is live. elim (after_set rs v.first id v s is) [
    | inl here ↦ omega (arith, ap (λ (q : Region). q.pages) here.1, ap (λ (q : Region). q.first) here.1, free.inside, length-set rs v.first v)
    | inr other ↦ omega (arith, regions.inside id s other.1 live, length-set rs v.first v)
  ];
  apart = λ i j s t p is it s_has t_has. elim (after_set rs v.first i v s is) [
    | inl here ↦ elim (after_set rs v.first j v t it) [
      | inl there_too ↦ omega (arith, here.0, there_too.0)
      | inr other ↦ absurd (met p t j other.1 t_has (ap (λ (q : Region). holds q p) (sym here.1) ∙ s_has))
    ]
    | inr other ↦ elim (after_set rs v.first j v t it) [
      | inl here ↦ absurd (met p s i other.1 s_has (ap (λ (q : Region). holds q p) (sym here.1) ∙ t_has))
      | inr both ↦ regions.apart i j s t p other.1 both.1 s_has t_has
    ]
  ];
}
  where
    met : (p : ℕ) (s : Region) (i : ℕ) → slice_get rs i ≡ Some s → holds s p ≡ true → holds v p ≡ true → ⊥
    met p s i is s_has v_has =
        let inside : in_run v.first v.pages p ≡ true = grind (arith, nat_tests) in
        false≢true (sym (free.free p inside) ∙ held_by rs i s p is s_has)

-- the region that stood at its place had no page of it
pub was_gone : (rs : List Region) (first count : ℕ) (r : Region) (p : ℕ) → AreRegions rs → AreFree rs first count → 0 < count → slice_get rs first ≡ Some r → holds r p ≡ false
was_gone rs first count r p regions free some there = elim (cases_lt 0 r.uses) [
  | inl live ↦ absurd (false≢true (sym (free.free first (grind (arith, nat_tests))) ∙
      held_by rs first r first there (grind (arith, nat_tests, regions.begins first r there live, regions.some first r there live))))
  | inr gone ↦ grind (arith, nat_tests)
]

-- one that has as many pages, or keeps some from its first on
pub regions_part : (rs : List Region) (id : ℕ) (r v : Region) → AreRegions rs → slice_get rs id ≡ Some r → 0 < r.uses → v.first ≡ r.first → v.pages ≤ r.pages → (0 < v.uses → 0 < v.pages) →
    AreRegions (slice_set rs id v)
regions_part rs id r v regions there live first pages some = record {
  begins = λ k s is s_live. elim (after_set rs id k v s is) [
    | inl here ↦ omega (arith, ap (λ (q : Region). q.first) here.1, here.0, regions.begins id r there live)
    | inr other ↦ regions.begins k s other.1 s_live
  ];
  some = λ k s is s_live. elim (after_set rs id k v s is) [
    | inl here ↦ let same : s.pages ≡ v.pages = ap (λ (q : Region). q.pages) here.1 in
        let uses : s.uses ≡ v.uses = ap (λ (q : Region). q.uses) here.1 in
        rw same (some (omega arith))
    | inr other ↦ regions.some k s other.1 s_live
  ];
  inside = λ k s is s_live. elim (after_set rs id k v s is) [
    | inl here ↦ omega (arith, ap (λ (q : Region). q.pages) here.1, ap (λ (q : Region). q.first) here.1, regions.inside id r there live, length-set rs id v)
    | inr other ↦ omega (arith, regions.inside k s other.1 s_live, length-set rs id v)
  ];
  apart = λ i j s t p is it s_has t_has. elim (after_set rs id i v s is) [
    | inl here ↦ elim (after_set rs id j v t it) [
      | inl there_too ↦ omega (arith, here.0, there_too.0)
      | inr other ↦ here.0 ∙ regions.apart id j r t p there other.1 (was p (ap (λ (q : Region). holds q p) (sym here.1) ∙ s_has)) t_has
    ]
    | inr other ↦ elim (after_set rs id j v t it) [
      | inl here ↦ regions.apart i id s r p other.1 there s_has (was p (ap (λ (q : Region). holds q p) (sym here.1) ∙ t_has)) ∙ sym here.0
      | inr both ↦ regions.apart i j s t p other.1 both.1 s_has t_has
    ]
  ];
}
  where
    was : (p : ℕ) → holds v p ≡ true → holds r p ≡ true
    was p has = grind (arith, nat_tests)
