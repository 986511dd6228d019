-- The last spot below a number, and which symbol it is.
use Rattle.std.proofs.Common.{◌≡◌, ℕ, zero, suc, ◌+◌, ◌^◌, ◌<◌, ◌≤◌, ◌==◌, inl, inr, nat_lt, nat_le, Bool, true, false, not, ◌&&◌, List, [], ◌∷◌, ◌++◌, ◌⊎◌, flat_map, length, Option, Some, None, if◌then◌else◌, slice_index_or, sym, ◌∙◌, ap, subst, refl, arith, append-nil, append_assoc}
use Rattle.std.specs.Option.{option_or}
use Rattle.std.specs.List.{range_with_len, AllByRecursion as Each}
use Rattle.std.specs.List.Sorted.{IsNonDecreasingBy, IsPermutation}
use Rattle.std.proofs.lemmas.Bool.{cases_Bool, and_parts, and_from, not-true, cases_lt, cases_eq, eqb-true, eq-eqb, ne_eqb, ltb-true, lt-ltb, le-ltb, leb-true, le-leb}
use Rattle.std.proofs.lemmas.List.Sorted.{All-permutation, IsPermutation-sym}
use Rattle.std.proofs.lemmas.List.Elements.{All-from_recursion, recursion_from_All}
use Rattle.byte_words.proofs.Searches.{any_below_none, none_below}
use Rattle.elf32_reader.specs.Accepted.{IsAccepted}
use Rattle.elf32_reader.specs.Symbols.{symbol_count, symbol, name_of}
use Rattle.elf32_reader.proofs.Facts.{symbol_fits_words, section_fits_words}
use Rattle.psabi_relocs.specs.declared.around.Spot.{Spot}
use Rattle.psabi_relocs.specs.Search.{first_below}
use Rattle.psabi_relocs.specs.Around.{is_source, kind_of, is_told, is_below, is_nearer, is_nearest, reaches, if_reaches, around}
use Rattle.psabi_relocs.specs.Spots.{place_order, order_of, spot, spot_if_told, last_under, index_at, found}
use Rattle.psabi_relocs.proofs.IndexSearches.{first_below_none, first_below_only, first_below_passes}
use Rattle.psabi_relocs.proofs.SpotOrder.{FitsSpot, is_nearer_spot, under_place, section_under, value_under, section_apart, nearer_above, above_nearer, same_index}

-- ---- lists

pub each_get : (P : Spot → Type 0) (ss : List Spot) → ((k : ℕ) (d : Spot) → k < length ss → P (slice_index_or ss k d)) → Each P ss
each_get P [] holds = tt
each_get P (s ∷ ss) holds = (holds 0 s (omega arith), each_get P ss (λ k d below. holds (suc k) d (omega arith)))

-- no spot is below those before it
abbrev pub IsRising : List Spot → Type 0
IsRising [] = Unit {0}
IsRising (s ∷ ss) = Each (λ r. order_of s ≤ order_of r) ss × IsRising ss

pub rising : (ss : List Spot) → IsNonDecreasingBy order_of ss → IsRising ss
rising [] ascend = tt
rising (s ∷ ss) ascend = (
  each_get (λ r. order_of s ≤ order_of r) ss (λ k d below. ascend 0 (suc k) d (omega arith) (omega arith)),
  rising ss (λ j k d order below. ascend (suc j) (suc k) d (omega arith) (omega arith)),
)

-- what a search says: none is below n
pub last_none : (ss : List Spot) (n : ℕ) → ((k : ℕ) (d : Spot) → k < length ss → n ≤ order_of (slice_index_or ss k d)) → last_under ss n ≡ None
last_none [] n above = refl
last_none (s ∷ ss) n above =
    rw (last_none ss n (λ k d h. above (suc k) d (omega arith)), le-ltb (order_of s) n (above 0 s (omega arith))) refl

-- those up to i are below n, and the others aren't
pub last_at : (ss : List Spot) (i n : ℕ) (d : Spot) → i < length ss
    → ((k : ℕ) (d : Spot) → k ≤ i → k < length ss → order_of (slice_index_or ss k d) < n)
    → ((k : ℕ) (d : Spot) → i < k → k < length ss → n ≤ order_of (slice_index_or ss k d))
    → last_under ss n ≡ Some (slice_index_or ss i d)
last_at [] i n d few below above = absurd (omega arith)
last_at (s ∷ ss) zero n d few below above =
    rw (last_none ss n (λ k d h. above (suc k) d (omega arith) (omega arith)), lt-ltb (order_of s) n (below 0 s (omega arith) (omega arith))) refl
last_at (s ∷ ss) (suc i) n d few below above =
    rw (last_at ss i n d (omega arith) (λ k d h in_list. below (suc k) d (omega arith) (omega arith)) (λ k d h in_list. above (suc k) d (omega arith) (omega arith))) refl

-- ---- the last one is the greatest

-- none of the spots below n reaches m
abbrev pub IsUnder : ℕ → ℕ → Spot → Type 0
IsUnder n m s = order_of s < n → order_of s < m

pub none_under : (ss : List Spot) (n : ℕ) → last_under ss n ≡ None → Each (IsUnder n 0) ss
none_under [] n none = tt
none_under (s ∷ ss) n none = by (last_under ss n) (nat_lt (order_of s) n) refl refl none (none_under ss n)
  where
    by : (o : Option Spot) (b : Bool) → last_under ss n ≡ o → nat_lt (order_of s) n ≡ b → option_or o (if b then Some s else None) ≡ None
        → (last_under ss n ≡ None → Each (IsUnder n 0) ss) → Each (IsUnder n 0) (s ∷ ss)
    by (Some r) b rest here is earlier = absurd cc
    by None true rest here is earlier = absurd cc
    by None false rest here is earlier = ((λ less. absurd (let more = lt-ltb (order_of s) n less in cc)), earlier rest)

-- what is known of the last one
pub record IsLast (P : Spot → Type 0) (ss : List Spot) (n : ℕ) (r : Spot) : Type 0 where
  pub under : order_of r < n
  pub holds : P r
  pub greatest : Each (IsUnder n (order_of r + 1)) ss

pub last_is : (P : Spot → Type 0) (ss : List Spot) (n : ℕ) (r : Spot) → Each P ss → IsRising ss → last_under ss n ≡ Some r → IsLast P ss n r
last_is P [] n r each ascend is = absurd cc
last_is P (s ∷ ss) n r each ascend is = by (last_under ss n) (nat_lt (order_of s) n) refl refl is (last_is P ss n r each.1 ascend.1) (last_is (λ v. order_of s ≤ order_of v) ss n r ascend.0 ascend.1) (none_under ss n)
  where
    least : (Q : Spot → Type 0) (m : ℕ) (vs : List Spot) → Each Q vs → ((v : Spot) → Q v → IsUnder n m v) → Each (IsUnder n m) vs
    least Q m [] each weaker = tt
    least Q m (v ∷ vs) each weaker = (weaker v each.0, least Q m vs each.1 weaker)

    by : (o : Option Spot) (b : Bool) → last_under ss n ≡ o → nat_lt (order_of s) n ≡ b → option_or o (if b then Some s else None) ≡ Some r
        → (last_under ss n ≡ Some r → IsLast P ss n r) → (last_under ss n ≡ Some r → IsLast (λ v. order_of s ≤ order_of v) ss n r)
        → (last_under ss n ≡ None → Each (IsUnder n 0) ss) → IsLast P (s ∷ ss) n r
    by (Some q) b rest here is earlier above none =
        let last = earlier (rest ∙ is) in
        let over = above (rest ∙ is) in
        record {
          under = last.under;
          holds = last.holds;
          greatest = ((λ less. omega (arith, over.holds)), last.greatest);
        }
    by None true rest here is earlier above none =
        let same : s ≡ r = cc in
        subst (IsLast P (s ∷ ss) n) same (record {
          under = ltb-true _ _ here;
          holds = each.0;
          greatest = ((λ less. omega arith), least (IsUnder n 0) (order_of s + 1) ss (none rest) (λ v over less. absurd (let low = over less in omega arith)));
        })
    by None false rest here is earlier above none = absurd cc

-- ---- the spots of a table

-- s is a symbol of the table that can be told
abbrev pub IsSpotOf : List ℕ → ℕ → Spot → Type 0
IsSpotOf e t s = (s.index < symbol_count e t) × ((is_told e t s.index ≡ true) × (s ≡ spot e t s.index))

-- the spots of its first symbols, of which a walk has gone over n
abbrev pub spots_of : List ℕ → ℕ → ℕ → List Spot
spots_of e t n = flat_map (spot_if_told e t) (range_with_len 0 n)

more_from : (f : ℕ → List Spot) (a n k : ℕ) → k ≡ a + n → flat_map f (range_with_len a (suc n)) ≡ flat_map f (range_with_len a n) ++ f k
more_from f a zero k is = ap (λ j. f j ++ []) (let same : a ≡ k = omega arith in same) ∙ append-nil (f k)
more_from f a (suc n) k is = ap (λ ss. f a ++ ss) (more_from f (a + 1) n k (omega arith)) ∙ sym (append_assoc (f a) (flat_map f (range_with_len (a + 1) n)) (f k))

-- one symbol more
pub spots_more : (e : List ℕ) (t n : ℕ) (old new : List Spot) → old ≡ spots_of e t n → new ≡ old ++ spot_if_told e t n → new ≡ spots_of e t (n + 1)
spots_more e t n old new before step =
    step ∙ ap (λ ss. ss ++ spot_if_told e t n) before ∙ sym (more_from (spot_if_told e t) 0 n n (omega arith))
    ∙ ap (spots_of e t) (let next : suc n ≡ n + 1 = omega arith in next)

told_only : (e : List ℕ) (t a n : ℕ) → a + n ≤ symbol_count e t → Each (IsSpotOf e t) (flat_map (spot_if_told e t) (range_with_len a n))
told_only e t a zero few = tt
told_only e t a (suc n) few = by (is_told e t a) refl (told_only e t (a + 1) n (omega arith))
  where
    rest : List Spot
    rest = flat_map (spot_if_told e t) (range_with_len (a + 1) n)

    by : (b : Bool) → is_told e t a ≡ b → Each (IsSpotOf e t) rest → Each (IsSpotOf e t) ((if b then spot e t a ∷ [] else []) ++ rest)
    by true is each = ((omega arith, (is, refl)), each)
    by false is each = each

told_all : (P : Spot → Type 0) (e : List ℕ) (t a n j : ℕ) → Each P (flat_map (spot_if_told e t) (range_with_len a n)) → a ≤ j → j < a + n → is_told e t j ≡ true → P (spot e t j)
told_all P e t a zero j each low high is = absurd (omega arith)
told_all P e t a (suc n) j each low high is = by (is_told e t a) refl each (cases_eq a j) (λ later above. told_all P e t (a + 1) n j later above (omega arith) is)
  where
    rest : List Spot
    rest = flat_map (spot_if_told e t) (range_with_len (a + 1) n)

    by : (b : Bool) → is_told e t a ≡ b → Each P ((if b then spot e t a ∷ [] else []) ++ rest) → ((a ≡ j) ⊎ (a ≡ j → ⊥)) → (Each P rest → a + 1 ≤ j → P (spot e t j)) → P (spot e t j)
    by true here each (inl same) step = subst (λ k. P (spot e t k)) same each.0
    by true here each (inr other) step = step each.1 (omega arith)
    by false here each (inl same) step = absurd (let both : is_told e t a ≡ is_told e t j = ap (is_told e t) same in cc)
    by false here each (inr other) step = step each (omega arith)

-- ss has these spots, in some order
pub record HasSpots (e : List ℕ) (t : ℕ) (ss : List Spot) : Type 0 where
  pub only : Each (IsSpotOf e t) ss
  pub all : (n m j : ℕ) → Each (IsUnder n m) ss → j < symbol_count e t → is_told e t j ≡ true → IsUnder n m (spot e t j)

pub sorted_spots : (e : List ℕ) (t : ℕ) (gathered ss : List Spot) → gathered ≡ spots_of e t (symbol_count e t) → IsPermutation gathered ss → HasSpots e t ss
sorted_spots e t gathered ss are moved = record {
  only =
      recursion_from_All (IsSpotOf e t) ss (All-permutation (IsSpotOf e t) gathered ss moved
      (All-from_recursion (IsSpotOf e t) gathered (rw are (told_only e t 0 (symbol_count e t) (omega arith)))));
  all = λ n m j each below is.
      told_all (IsUnder n m) e t 0 (symbol_count e t) j
      (rw are at (recursion_from_All (IsUnder n m) gathered (All-permutation (IsUnder n m) ss gathered (IsPermutation-sym gathered ss moved) (All-from_recursion (IsUnder n m) ss each))))
      (omega arith) (omega arith) is;
}

-- ---- which one stands around a place

module _ (e : List ℕ) (t : ℕ) (accepted : IsAccepted e) (ss : List Spot) (ascend : IsRising ss) (spots : HasSpots e t ss) (x p : ℕ) (small : p < 2 ^ 32) where
  -- the numbers of one that can be told
  fits : (j : ℕ) → j < symbol_count e t → is_told e t j ≡ true → FitsSpot (spot e t j)
  unfolding is_told symbol_count
  fits j below is =
      let words = symbol_fits_words e t j accepted.bytes in
      let table = section_fits_words e t accepted.bytes in
      let size = table.size in
      record {
        value = words.value;
        kind = (let k = leb-true (kind_of (symbol e t j)) 2 (and_parts (not (j == 0)) (nat_le (kind_of (symbol e t j)) 2) (and_parts (not (j == 0) && nat_le (kind_of (symbol e t j)) 2) (is_source (name_of e t j)) is).0).1 in omega arith);
        index = omega arith;
      }

  below_parts : (j : ℕ) → is_below e t x p j ≡ true → (is_told e t j ≡ true) × (((spot e t j).section ≡ x) × ((spot e t j).value ≤ p))
  unfolding is_below
  below_parts j is =
      let parts = and_parts (is_told e t j && (symbol e t j).shndx == x) (nat_le (symbol e t j).value p) is in
      let both = and_parts (is_told e t j) ((symbol e t j).shndx == x) parts.0 in
      (both.0, (eqb-true _ _ both.1, leb-true _ _ parts.1))

  parts_below : (j : ℕ) → is_told e t j ≡ true → (spot e t j).section ≡ x → (spot e t j).value ≤ p → is_below e t x p j ≡ true
  unfolding is_below
  parts_below j is here low = and_from _ _ (and_from _ _ is (eq-eqb _ _ here)) (le-leb _ _ low)

  nearer_spot : (k j : ℕ) → is_nearer e t k j ≡ is_nearer_spot (spot e t k) (spot e t j)
  unfolding is_nearer
  nearer_spot k j = refl

  -- the number of one below the place
  under : (j : ℕ) → j < symbol_count e t → is_below e t x p j ≡ true → order_of (spot e t j) < place_order x (p + 1)
  under j below is = let parts = below_parts j is in under_place (spot e t j) x p (fits j below parts.0) parts.1.0 parts.1.1

  nearest_below : (j : ℕ) → is_below e t x p j ≡ false → is_nearest e t x p j ≡ false
  unfolding is_nearest
  nearest_below j is = rw is refl

  -- none is below the place
  none_around : ((j : ℕ) → j < symbol_count e t → is_below e t x p j ≡ true → ⊥) → around e t x p ≡ None
  unfolding around
  none_around none =
      ap (if_reaches e t p) (first_below_none (is_nearest e t x p) (symbol_count e t) (λ j below. nearest_below j (not_below j (none j below))))
    where
      not_below : (j : ℕ) → (is_below e t x p j ≡ true → ⊥) → is_below e t x p j ≡ false
      not_below j never = elim (cases_Bool (is_below e t x p j)) [
        | inl below ↦ absurd (never below)
        | inr is ↦ is
      ]

  -- symbol j has the greatest number of those
  one_around : (j : ℕ) → j < symbol_count e t → is_below e t x p j ≡ true
      → ((k : ℕ) → k < symbol_count e t → is_below e t x p k ≡ true → order_of (spot e t k) ≤ order_of (spot e t j))
      → around e t x p ≡ (if reaches (symbol e t j).value (symbol e t j).size p then Some j else None)
  unfolding around is_nearest
  one_around j below is greatest =
      ap (if_reaches e t p) (first_below_only (is_nearest e t x p) (symbol_count e t) j below
      (and_from _ _ is (ap not (none_below (λ k. is_below e t x p k && is_nearer e t k j) (symbol_count e t) (λ k in_table. no_nearer k in_table))))
      (λ k in_table nearest. only k in_table nearest))
    where
      mine : FitsSpot (spot e t j)
      mine = fits j below (below_parts j is).0

      alike : (k : ℕ) → is_below e t x p k ≡ true → (spot e t j).section ≡ (spot e t k).section
      alike k other = (below_parts j is).1.0 ∙ sym (below_parts k other).1.0

      no_nearer : (k : ℕ) → k < symbol_count e t → (is_below e t x p k && is_nearer e t k j) ≡ false
      no_nearer k in_table = elim (cases_Bool (is_below e t x p k && is_nearer e t k j)) [
        | inl both ↦ (
            let parts = and_parts (is_below e t x p k) (is_nearer e t k j) both in
            let above = nearer_above (spot e t j) (spot e t k) mine (fits k in_table (below_parts k parts.0).0) (alike k parts.0) (sym (nearer_spot k j) ∙ parts.1) in
            absurd (omega (arith, above, greatest k in_table parts.0)))
        | inr clear ↦ clear
      ]

      only : (k : ℕ) → k < symbol_count e t → is_nearest e t x p k ≡ true → k ≡ j
      only k in_table nearest =
          let parts = and_parts (is_below e t x p k) _ nearest in
          let theirs = fits k in_table (below_parts k parts.0).0 in
          let fails = any_below_none (λ i. is_below e t x p i && is_nearer e t i k) (symbol_count e t) j (not-true _ parts.1) below in
          let level = greatest k in_table parts.0 in
          elim (cases_lt (order_of (spot e t k)) (order_of (spot e t j))) [
            | inl less ↦ absurd (let nearer = nearer_spot j k ∙ above_nearer (spot e t k) (spot e t j) theirs mine (sym (alike k parts.0)) less in let both = and_from _ _ is nearer in cc)
            | inr same ↦ same_index (spot e t k) (spot e t j) theirs mine (omega arith)
          ]

  -- what is found is it
  pub found_around : found ss x p ≡ around e t x p
  found_around = by (last_under ss (place_order x (p + 1))) refl
    where
      none : last_under ss (place_order x (p + 1)) ≡ None → (j : ℕ) → j < symbol_count e t → is_below e t x p j ≡ true → ⊥
      none is j below there =
          let never = spots.all (place_order x (p + 1)) 0 j (none_under ss (place_order x (p + 1)) is) below (below_parts j there).0 (under j below there) in
          absurd (omega arith)

      at : (s : Spot) → IsLast (IsSpotOf e t) ss (place_order x (p + 1)) s → index_at x p (Some s) ≡ around e t x p
      at s last = elim (cases_eq s.section x) [
        | inl here ↦ (
            let j = s.index in
            let there : s ≡ spot e t j = last.holds.1.1 in
            let low = value_under s x p here last.under in
            let is = parts_below j last.holds.1.0 (sym (ap (λ (r : Spot). r.section) there) ∙ here) (rw there at low) in
            let most = one_around j last.holds.0 is (λ k in_table other.
            let under_it = spots.all (place_order x (p + 1)) (order_of s + 1) k last.greatest in_table (below_parts k other).0 (under k in_table other) in
            let same = ap order_of there in
            omega arith) in
            ap (λ b. if b && reaches s.value s.size p then Some s.index else None) (eq-eqb s.section x here)
            ∙ ap (λ (r : Spot). if reaches r.value r.size p then Some j else None) there ∙ sym most)
        | inr other ↦
            ap (λ b. if b && reaches s.value s.size p then Some s.index else None) (ne_eqb s.section x other)
            ∙ sym (none_around (λ k in_table is.
            let parts = below_parts k is in
            let under_it = spots.all (place_order x (p + 1)) (order_of s + 1) k last.greatest in_table parts.0 (under k in_table is) in
            let upto = section_under s x p small last.under in
            let here = parts.1.0 in
            let words = fits s.index last.holds.0 last.holds.1.0 in
            let mine = subst FitsSpot (sym last.holds.1.1) words in
            let apart = section_apart s (spot e t k) mine (omega arith) in
            absurd (omega arith)))
      ]

      by : (o : Option Spot) → last_under ss (place_order x (p + 1)) ≡ o → index_at x p (last_under ss (place_order x (p + 1))) ≡ around e t x p
      by None is = ap (index_at x p) is ∙ sym (none_around (none is))
      by (Some s) is = ap (index_at x p) is ∙ at s (last_is (IsSpotOf e t) ss (place_order x (p + 1)) s spots.only ascend is)

-- it is a symbol of the table
pub around_in_table : (e : List ℕ) (t x p j : ℕ) → around e t x p ≡ Some j → j < symbol_count e t
unfolding around
around_in_table e t x p j is = by (first_below (is_nearest e t x p) (symbol_count e t)) refl is
  where
    kept : (k : ℕ) (b : Bool) → first_below (is_nearest e t x p) (symbol_count e t) ≡ Some k → (if b then Some k else None) ≡ Some j → j < symbol_count e t
    kept k true found same = let below = first_below_passes (is_nearest e t x p) (symbol_count e t) k found in let one : k ≡ j = cc in omega (arith, below.0)
    kept k false found same = absurd cc

    by : (o : Option ℕ) → first_below (is_nearest e t x p) (symbol_count e t) ≡ o → if_reaches e t p o ≡ Some j → j < symbol_count e t
    by None found same = absurd cc
    by (Some k) found same = kept k (reaches (symbol e t k).value (symbol e t k).size p) found same
