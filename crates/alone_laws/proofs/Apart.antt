-- Mappings that share pages of copies alone, in lists that change.
use Rattle.std.proofs.Common.{◌≡◌, ℕ, zero, suc, true, List, [], ◌∷◌, ◌++◌, Some, refl, sym, ap, subst, ◌∙◌}
use Rattle.std.specs.Prelude.{slice_get}
use Rattle.std.proofs.lemmas.Option.{none-some, same_Some}
use Rattle.nommu_regions.specs.Regions.{is_copy}
use Rattle.mmap_rules.specs.declared.mapping.Mapping.{Mapping}
use Rattle.mmap_rules.proofs.Lists.{each_append}
use Rattle.alone_laws.specs.Sound.{ShareCopy, Apart, AreApart}

-- ---- what holds of each item of a part

pub each_front : {X : Type 0} (P : X → Type 0) (xs ys : List X) → ((j : ℕ) (x : X) → slice_get (xs ++ ys) j ≡ Some x → P x) → (j : ℕ) (x : X) → slice_get xs j ≡ Some x → P x
each_front P [] ys each j x is = absurd (none-some x is)
each_front P (y ∷ xs) ys each zero x is = each 0 x is
each_front P (y ∷ xs) ys each (suc j) x is = each_front P xs ys (λ i. each (suc i)) j x is

pub each_back : {X : Type 0} (P : X → Type 0) (xs ys : List X) → ((j : ℕ) (x : X) → slice_get (xs ++ ys) j ≡ Some x → P x) → (j : ℕ) (x : X) → slice_get ys j ≡ Some x → P x
each_back P [] ys each j x is = each j x is
each_back P (y ∷ xs) ys each j x is = each_back P xs ys (λ i. each (suc i)) j x is

-- ---- two mappings

shared_back : (m n : Mapping) → ShareCopy m n → ShareCopy n m
shared_back m n s = record { copy = ap is_copy (sym s.source) ∙ s.copy; first = sym s.first; pages = sym s.pages; source = sym s.source }

pub apart_back : (m n : Mapping) → Apart m n → Apart n m
apart_back m n a = λ page on_n on_m. shared_back m n (a page on_m on_n)

-- a copy and itself
itself : (c : Mapping) → is_copy c.source ≡ true → Apart c c
itself c copy = λ page on also. record { copy = copy; first = refl; pages = refl; source = refl }

-- ---- lists

-- a mapping is apart from each of a list
abbrev pub ApartFrom : Mapping → List Mapping → Type 0
ApartFrom m ns = (j : ℕ) (n : Mapping) → slice_get ns j ≡ Some n → Apart m n

-- each of one list is apart from each of another
abbrev pub Across : List Mapping → List Mapping → Type 0
Across ms ns = (i : ℕ) (m : Mapping) → slice_get ms i ≡ Some m → ApartFrom m ns

pub apart_append : (ms ns : List Mapping) → AreApart ms → AreApart ns → Across ms ns → AreApart (ms ++ ns)
apart_append [] ns front back across = back
apart_append (m ∷ ms) ns front back across =
    (each_append (Apart m) ms ns front.0 (across 0 m refl), apart_append ms ns front.1 back (λ i. across (suc i)))

pub apart_front : (ms ns : List Mapping) → AreApart (ms ++ ns) → AreApart ms
apart_front [] ns all = tt
apart_front (m ∷ ms) ns all = (each_front (Apart m) ms ns all.0, apart_front ms ns all.1)

pub apart_rest : (ms ns : List Mapping) → AreApart (ms ++ ns) → AreApart ns
apart_rest [] ns all = all
apart_rest (m ∷ ms) ns all = apart_rest ms ns all.1

pub apart_across : (ms ns : List Mapping) → AreApart (ms ++ ns) → Across ms ns
apart_across [] ns all i m is j n there = absurd (none-some m is)
apart_across (k ∷ ms) ns all zero m is j n there =
    subst (λ (z : Mapping). Apart z n) (same_Some k m is) (each_back (Apart k) ms ns all.0 j n there)
apart_across (k ∷ ms) ns all (suc i) m is j n there = apart_across ms ns all.1 i m is j n there

-- each is apart from a copy of the list, that one too
pub apart_copy : (ms : List Mapping) (k : ℕ) (c : Mapping) → AreApart ms → slice_get ms k ≡ Some c → is_copy c.source ≡ true
    → (j : ℕ) (n : Mapping) → slice_get ms j ≡ Some n → Apart n c
apart_copy [] k c all here copy j n there = absurd (none-some c here)
apart_copy (m ∷ ms) zero c all here copy zero n there =
    subst (λ (z : Mapping). Apart z c) (sym (same_Some m c here) ∙ same_Some m n there) (itself c copy)
apart_copy (m ∷ ms) zero c all here copy (suc j) n there =
    subst (λ (z : Mapping). Apart n z) (same_Some m c here) (apart_back m n (all.0 j n there))
apart_copy (m ∷ ms) (suc k) c all here copy zero n there = subst (λ (z : Mapping). Apart z c) (same_Some m n there) (all.0 k c here)
apart_copy (m ∷ ms) (suc k) c all here copy (suc j) n there = apart_copy ms k c all.1 here copy j n there

-- ---- a part of the list changes

module _ (front old new back : List Mapping) (all : AreApart (front ++ (old ++ back))) where
  later : AreApart back
  later = apart_rest old back (apart_rest front (old ++ back) all)

  around : Across front back
  around = λ i m is. each_back (Apart m) old back (apart_across front (old ++ back) all i m is)

  -- to mappings that are apart from all others
  pub apart_changed : AreApart new → Across front new → Across new back → AreApart (front ++ (new ++ back))
  apart_changed parts before behind =
      apart_append front (new ++ back) (apart_front front (old ++ back) all) (apart_append new back parts later behind)
      (λ i m is. each_append (Apart m) new back (before i m is) (around i m is))

  -- to mappings that share no more than those that were there
  pub apart_under : AreApart new → ((j : ℕ) (n : Mapping) → slice_get new j ≡ Some n → (m : Mapping) → ApartFrom m old → Apart m n) → AreApart (front ++ (new ++ back))
  apart_under parts under =
      apart_changed parts
      (λ i m is j n there. under j n there m (each_front (Apart m) old back (apart_across front (old ++ back) all i m is)))
      (λ j n there i m is. apart_back m n (under j n there m (λ k o item. apart_back o m (apart_across old back (apart_rest front (old ++ back) all) k o item i m is))))

-- a mapping more, apart from all others
pub apart_more : (front maps back : List Mapping) (m : Mapping) → AreApart (front ++ (maps ++ back)) → ((j : ℕ) (n : Mapping) → slice_get (front ++ (maps ++ back)) j ≡ Some n → Apart n m)
    → AreApart (front ++ ((maps ++ m ∷ []) ++ back))
apart_more front maps back m all each =
    apart_changed front maps (maps ++ m ∷ []) back all
    (apart_append maps (m ∷ []) (apart_front maps back (apart_rest front (maps ++ back) all)) ((λ j n is. absurd (none-some n is)), tt)
    (λ i k is. one k (inside i k is)))
    (λ i k is. each_append (Apart k) maps (m ∷ []) (each_front (Apart k) maps back (apart_across front (maps ++ back) all i k is))
    (one k (each_front (λ n. Apart n m) front (maps ++ back) each i k is)))
    (λ i k is j n there. each_append (λ o. Apart o n) maps (m ∷ [])
    (λ l o item. apart_across maps back (apart_rest front (maps ++ back) all) l o item j n there)
    (λ l o item. subst (λ (z : Mapping). Apart z n) (only l o item) (apart_back n m (each_back (λ o. Apart o m) maps back (each_back (λ o. Apart o m) front (maps ++ back) each) j n there))) i k is)
  where
    one : (k : Mapping) → Apart k m → ApartFrom k (m ∷ [])
    one k a zero n is = subst (λ (z : Mapping). Apart k z) (same_Some m n is) a
    one k a (suc j) n is = absurd (none-some n is)

    only : (l : ℕ) (o : Mapping) → slice_get (m ∷ []) l ≡ Some o → m ≡ o
    only zero o is = same_Some m o is
    only (suc l) o is = absurd (none-some o is)

    inside : (i : ℕ) (k : Mapping) → slice_get maps i ≡ Some k → Apart k m
    inside = each_front (λ n. Apart n m) maps back (each_back (λ n. Apart n m) front (maps ++ back) each)
