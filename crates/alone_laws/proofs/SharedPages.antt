-- Which mappings of a world share pages: those of one copy alone, and none shares a fresh run.
use Rattle.std.proofs.Common.{◌≡◌, ℕ, zero, suc, ◌+◌, ◌-◌, ◌*◌, ◌/◌, ◌^◌, ◌<◌, ◌≤◌, Bool, true, false, not, ◌⊎◌, inl, inr, List, [], ◌∷◌, ◌++◌, Option, Some, None, refl, sym, ap, subst, ◌∙◌, arith}
use Rattle.std.specs.Prelude.{◌==◌, ◌||◌, ◌&&◌, nat_le, nat_lt, slice_get, option_map, if◌then◌else◌}
use Rattle.std.specs.List.{list_any}
use Rattle.std.proofs.lemmas.Bool.Decides.{nat_tests}
use Rattle.std.proofs.lemmas.Option.{none-some, same_Some}
use Rattle.std.proofs.lemmas.Bool.{cases_Bool}
use Rattle.page_runs.specs.declared.place.Kind.{Kind}
use Rattle.page_runs.specs.declared.run.Run.{Run}
use Rattle.page_runs.specs.Free.{free_runs}
use Rattle.page_runs.specs.Pages.{in_run, has_page as runs_have}
use Rattle.page_runs.specs.Place.{Placed, place, first_of}
use Rattle.page_runs.proofs.Places.{placed}
use Rattle.page_runs.proofs.Changes.{page_of_run}
use Rattle.page_runs.proofs.Maximal.{has_page-free_runs}
use Rattle.mmap_rules.specs.declared.mapping.Mapping.{Mapping}
use Rattle.mmap_rules.specs.Space.{in_range, has_page}
use Rattle.mmap_rules.specs.Held.{IsMapping}
use Rattle.vfork_exec.specs.Keyed.{find, Falls}
use Rattle.vfork_exec.proofs.Keyed.{find_head}
use Rattle.machine_world.specs.World.{LiveSpace, id_of}
use Rattle.machine_world.specs.Free.{is_held, free_runs_in}
use Rattle.machine_world.specs.MapCalls.{all_maps, lower, lowest}
use Rattle.alone_laws.specs.Sound.{Apart, AreApart}
use Rattle.alone_laws.proofs.Lists.{eqb_other, eqb_same}
use Rattle.alone_laws.proofs.Frame.{found_below}

-- ---- an item of a list

pub record In {A : Type 0} (xs : List A) (x : A) : Type 0 where
  pub at : ℕ
  pub there : slice_get xs at ≡ Some x

module _ {A : Type 0} where
  in_later : (y : A) (xs : List A) (x : A) → In xs x → In (y ∷ xs) x
  in_later y xs x h = record { at = suc h.at; there = h.there }

  in_front : (xs ys : List A) (j : ℕ) (x : A) → slice_get xs j ≡ Some x → In (xs ++ ys) x
  in_front [] ys j x there = absurd cc
  in_front (y ∷ xs) ys zero x there = record { at = 0; there = there }
  in_front (y ∷ xs) ys (suc j) x there = in_later y (xs ++ ys) x (in_front xs ys j x there)

  in_back : (xs ys : List A) (x : A) → In ys x → In (xs ++ ys) x
  in_back [] ys x h = h
  in_back (y ∷ xs) ys x h = in_later y (xs ++ ys) x (in_back xs ys x h)

  split : (xs ys : List A) (k : ℕ) (x : A) → slice_get (xs ++ ys) k ≡ Some x → In xs x ⊎ In ys x
  split [] ys k x there = inr (record { at = k; there = there })
  split (y ∷ xs) ys zero x there = inl (record { at = 0; there = there })
  split (y ∷ xs) ys (suc k) x there = elim (split xs ys k x there) [
    | inl h ↦ inl (in_later y xs x h)
    | inr h ↦ inr h
  ]

  found_in : (key : A → ℕ) (k : ℕ) (xs : List A) (x : A) → find key k xs ≡ Some x → In xs x
  unfolding find
  found_in key k [] x is = absurd cc
  found_in key k (y ∷ ys) x is = elim (cases_Bool (key y == k)) [
    | inl here ↦ record { at = 0; there = sym (find_head key k y ys true here) ∙ is }
    | inr later ↦ in_later y ys x (found_in key k ys x (sym (find_head key k y ys false later) ∙ is))
  ]

  none_passes : (p : A → Bool) (xs : List A) (j : ℕ) (x : A) → list_any p xs ≡ false → slice_get xs j ≡ Some x → p x ≡ false
  none_passes p [] j x none there = absurd cc
  none_passes p (y ∷ ys) zero x none there = let same : y ≡ x = cc in ap p (sym same) ∙ left (p y) (list_any p ys) none
    where
      left : (a b : Bool) → (a || b) ≡ false → a ≡ false
      left true b h = h
      left false b h = refl
  none_passes p (y ∷ ys) (suc j) x none there = none_passes p ys j x (right (p y) (list_any p ys) none) there
    where
      right : (a b : Bool) → (a || b) ≡ false → b ≡ false
      right true b h = absurd cc
      right false b h = h

-- ---- all mappings of a world

pub in_all : (i : ℕ) (ss : List LiveSpace) (s : LiveSpace) (j : ℕ) (m : Mapping) → find id_of i ss ≡ Some s → slice_get s.space.maps j ≡ Some m → In (all_maps ss) m
unfolding find
in_all i [] s j m found there = absurd cc
in_all i (t ∷ ss) s j m found there = elim (cases_Bool (t.id == i)) [
  | inl here ↦
      let same : t ≡ s = let e = sym (find_head id_of i t ss true here) ∙ found in cc in
      in_front t.space.maps (all_maps ss) j m (ap (λ (l : LiveSpace). slice_get l.space.maps j) same ∙ there)
  | inr later ↦ in_back t.space.maps (all_maps ss) m (in_all i ss s j m (sym (find_head id_of i t ss false later) ∙ found) there)
]

-- the space that has it
pub record HasIt (ss : List LiveSpace) (m : Mapping) : Type 0 where
  pub space : LiveSpace
  pub found : find id_of space.id ss ≡ Some space
  pub has : In space.space.maps m

pub from_all : (b : ℕ) (ss : List LiveSpace) (k : ℕ) (m : Mapping) → Falls id_of b ss → slice_get (all_maps ss) k ≡ Some m → HasIt ss m
unfolding find
from_all b [] k m falls there = absurd cc
from_all b (s ∷ ss) k m falls there = elim (split s.space.maps (all_maps ss) k m there) [
  | inl h ↦ record { space = s; found = find_head id_of s.id s ss true (eqb_same s.id s.id refl); has = h }
  | inr h ↦
      let r = from_all s.id ss h.at m falls.1 h.there in
      let less = found_below id_of r.space.id s.id ss r.space falls.1 r.found in
      record { space = r.space; found = find_head id_of r.space.id s ss false (eqb_other s.id r.space.id (omega (arith, less))) ∙ r.found; has = r.has }
]

-- ---- mappings that share a page

pub record SameRun (m n : Mapping) : Type 0 where
  pub first : m.first ≡ n.first
  pub source : m.source ≡ n.source

pub same_run : (xs : List Mapping) (i j : ℕ) (m n : Mapping) → AreApart xs → slice_get xs i ≡ Some m → slice_get xs j ≡ Some n
    → (page : ℕ) → has_page page m ≡ true → has_page page n ≡ true → SameRun m n
same_run [] i j m n apart im jn page hm hn = absurd cc
same_run (x ∷ xs) zero zero m n apart im jn page hm hn =
    let same : m ≡ n = cc in record { first = ap (λ (y : Mapping). y.first) same; source = ap (λ (y : Mapping). y.source) same }
same_run (x ∷ xs) zero (suc j) m n apart im jn page hm hn =
    let same : x ≡ m = cc in
    let shares = subst (λ (y : Mapping). Apart y n) same (apart.0 j n jn) page hm hn in
    record { first = shares.first; source = shares.source }
same_run (x ∷ xs) (suc i) zero m n apart im jn page hm hn =
    let same : x ≡ n = cc in
    let shares = subst (λ (y : Mapping). Apart y m) same (apart.0 i m im) page hn hm in
    record { first = sym shares.first; source = sym shares.source }
same_run (x ∷ xs) (suc i) (suc j) m n apart im jn page hm hn = same_run xs i j m n apart.1 im jn page hm hn

-- a byte of a mapping lies in a page of its run
pub page_of : ℕ → ℕ
page_of a = (a - 2 ^ 31) / 4096

pub in_page : (pages : ℕ) (m : Mapping) (a : ℕ) → IsMapping pages m → in_range m.range a ≡ true → has_page (page_of a) m ≡ true
unfolding page_of
in_page pages m a is inside =
    let from = is.from in
    let to = is.to in
    let low : m.range.from ≤ a = grind (arith, nat_tests) in
    let high : a < m.range.from + m.range.size = grind (arith, nat_tests) in
    let above : m.first ≤ (a - 2 ^ 31) / 4096 = omega arith in
    let below : (a - 2 ^ 31) / 4096 < m.first + m.pages = omega arith in
    grind (arith, nat_tests)

-- and a byte behind a page's first one in a page from that on
pub page_from : (first k : ℕ) → first ≤ page_of (2 ^ 31 + 4096 * first + k)
unfolding page_of
page_from first k = omega arith

pub page_to : (first count k : ℕ) → k < 4096 * count → page_of (2 ^ 31 + 4096 * first + k) < first + count
unfolding page_of
page_to first count k less = omega arith

-- the lowest one that passes is one that passes
pub record Passes (test : Mapping → Bool) (ms : List Mapping) (m : Mapping) : Type 0 where
  pub one : In ms m
  pub passes : test m ≡ true

pub lowest_passes : (test : Mapping → Bool) (ms : List Mapping) (m : Mapping) → lowest test ms ≡ Some m → Passes test ms m
lowest_passes test [] m is = absurd cc
lowest_passes test (x ∷ ms) m is = by (λ n e. lowest_passes test ms n e) (test x) (lowest test ms) refl refl is
  where
    mine : x ≡ m → test x ≡ true → Passes test (x ∷ ms) m
    mine same passes = record { one = record { at = 0; there = ap (λ (y : Mapping). Some y) same }; passes = ap test (sym same) ∙ passes }

    others : Passes test ms m → Passes test (x ∷ ms) m
    others p = record { one = in_later x ms m p.one; passes = p.passes }

    lower_one : (n : Mapping) (b : Bool) → (if b then Some x else Some n) ≡ Some m → (x ≡ m) ⊎ (n ≡ m)
    lower_one n true e = inl cc
    lower_one n false e = inr cc

    by : ((n : Mapping) → lowest test ms ≡ Some n → Passes test ms n) → (b : Bool) (o : Option Mapping) → test x ≡ b → lowest test ms ≡ o
        → (if b then lower x o else o) ≡ Some m → Passes test (x ∷ ms) m
    by rec true None passes low e = mine (cc) passes
    by rec true (Some n) passes low e = elim (lower_one n (nat_le x.first n.first) e) [
      | inl same ↦ mine same passes
      | inr same ↦ others (subst (Passes test ms) same (rec n low))
    ]
    by rec false o passes low e = others (rec m (low ∙ e))

-- ---- a fresh run

pub record IsFree (pages : ℕ) (ss : List LiveSpace) (first need : ℕ) : Type 0 where
  pub inside : first + need ≤ pages
  pub free : (page : ℕ) → first ≤ page → page < first + need → is_held ss page ≡ false

module _ (pages : ℕ) (ss : List LiveSpace) where
  abbrev runs : List Run
  runs = free_runs pages (λ page. not (is_held ss page))

  pages_free : (page : ℕ) → runs_have runs page ≡ true → (page < pages) × (is_held ss page ≡ false)
  pages_free page has =
      let both = sym (has_page-free_runs pages (λ q. not (is_held ss q)) page) ∙ has in
      parts (nat_lt page pages) (is_held ss page) refl both
    where
      parts : (b c : Bool) → nat_lt page pages ≡ b → (b && not c) ≡ true → (page < pages) × (c ≡ false)
      parts true false less e = (grind (arith, nat_tests), refl)
      parts true true less e = absurd cc
      parts false c less e = absurd cc

  all_free : (first need : ℕ) → 0 < need → ((page : ℕ) → in_run first need page ≡ true → runs_have runs page ≡ true) → IsFree pages ss first need
  all_free first need some has = record {
    inside = (let last = (pages_free (first + need - 1) (has (first + need - 1) (grind (arith, nat_tests)))).0 in omega (arith, last, some));
    free = λ page low high. (pages_free page (has page (grind (arith, nat_tests)))).1;
  }

  pub fresh_run : (kind : Kind) (need first : ℕ) → 0 < need → first_of (free_runs_in pages ss) (place kind (free_runs_in pages ss) need) ≡ Some first → IsFree pages ss first need
  unfolding free_runs_in
  fresh_run kind need first some is = at (place kind runs need) (placed kind runs need) is
    where
      at : (o : Option ℕ) → Placed kind runs need o → first_of runs o ≡ Some first → IsFree pages ss first need
      at None rule none = absurd (none-some first none)
      at (Some i) rule there =
          let begins : rule.run.first ≡ first = same_Some _ _ (sym (ap (option_map (λ (r : Run). r.first)) rule.there) ∙ there) in
          let fits = rule.fits in
          all_free first need some (λ p within. page_of_run runs i rule.run p rule.there (grind (arith, nat_tests)))

-- no mapping has a page that isn't held
pub not_held : (ss : List LiveSpace) (page i : ℕ) (s : LiveSpace) (j : ℕ) (m : Mapping) → is_held ss page ≡ false → find id_of i ss ≡ Some s → slice_get s.space.maps j ≡ Some m
    → has_page page m ≡ false
not_held ss page i s j m free found there =
    let one = found_in id_of i ss s found in
    none_passes (has_page page) s.space.maps j m (none_passes (λ (l : LiveSpace). list_any (has_page page) l.space.maps) ss one.at s free one.there) there
