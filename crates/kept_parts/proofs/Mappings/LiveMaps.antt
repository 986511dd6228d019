-- The mappings of all live spaces, and the lowest of them that passes a test.
use Rattle.std.proofs.Common.{◌≡◌, ℕ, zero, suc, ◌+◌, ◌≤◌, ◌⊎◌, inl, inr, Bool, true, false, List, [], ◌∷◌, ◌++◌, arith, refl, sym, ap, subst, ◌∙◌}
use Rattle.std.specs.Prelude.{Option, Some, None, slice_get, nat_le, if◌then◌else◌}
use Rattle.std.proofs.lemmas.Bool.{false≢true}
use Rattle.std.proofs.lemmas.Bool.Decides.{nat_tests}
use Rattle.std.proofs.lemmas.Option.{same_Some, none-some}
use Rattle.std.proofs.lemmas.List.{append_assoc}
use Rattle.mmap_rules.specs.declared.mapping.Mapping.{Mapping}
use Rattle.mmap_rules.specs.Held.{Held}
use Rattle.mmap_rules.proofs.Lists.{each_append}
use Rattle.machine_world.specs.World.{LiveSpace}
use Rattle.machine_world.specs.MapCalls.{all_maps, lower, lowest}
use Rattle.kept_parts.specs.Stands.{live_at, live_from}
use Rattle.call_bytes.proofs.Places.{decide}

-- ---- the lowest mapping that passes a test

abbrev pub LeastOf : (Mapping → Bool) → List Mapping → ℕ → Type 0
LeastOf test maps bound = (j : ℕ) (m : Mapping) → slice_get maps j ≡ Some m → test m ≡ true → bound ≤ m.first

abbrev pub NonePasses : (Mapping → Bool) → List Mapping → Type 0
NonePasses test maps = (j : ℕ) (m : Mapping) → slice_get maps j ≡ Some m → test m ≡ false

pub record Lowest (test : Mapping → Bool) (maps : List Mapping) : Type 0 where
  pub mapping : Mapping
  pub is : lowest test maps ≡ Some mapping
  pub place : ℕ
  pub there : slice_get maps place ≡ Some mapping
  pub passes : test mapping ≡ true
  pub least : LeastOf test maps mapping.first

head_is : (test : Mapping → Bool) (x : Mapping) (maps : List Mapping) (b : Bool) → test x ≡ b →
    lowest test (x ∷ maps) ≡ (if b then lower x (lowest test maps) else lowest test maps)
head_is test x maps b is = ap (λ (t : Bool). if t then lower x (lowest test maps) else lowest test maps) is

lower_is : (x n : Mapping) (b : Bool) → nat_le x.first n.first ≡ b → lower x (Some n) ≡ (if b then Some x else Some n)
lower_is x n b is = ap (λ (t : Bool). if t then Some x else Some n) is

least_cons : (test : Mapping → Bool) (x : Mapping) (maps : List Mapping) (bound : ℕ) → (test x ≡ true → bound ≤ x.first) → LeastOf test maps bound →
    LeastOf test (x ∷ maps) bound
least_cons test x maps bound here rest zero m is passes =
    let same = ap (λ (y : Mapping). y.first) (same_Some x m is) in
    omega (arith, same, here (ap test (same_Some x m is) ∙ passes))
least_cons test x maps bound here rest (suc j) m is passes = rest j m is passes

none_cons : (test : Mapping → Bool) (x : Mapping) (maps : List Mapping) → test x ≡ false → NonePasses test maps → NonePasses test (x ∷ maps)
none_cons test x maps here rest zero m is = ap test (sym (same_Some x m is)) ∙ here
none_cons test x maps here rest (suc j) m is = rest j m is

-- none passes, or one of those that do is the lowest
pub lowest_case : (test : Mapping → Bool) (maps : List Mapping) → ((lowest test maps ≡ None) × NonePasses test maps) ⊎ Lowest test maps
lowest_case test [] = inl (refl, λ j m is. absurd (none-some m is))
lowest_case test (x ∷ maps) = elim (decide (test x)) [
  | inl passes ↦ elim (lowest_case test maps) [
    | inl none ↦ inr (record {
      mapping = x;
      is = head_is test x maps true passes ∙ ap (lower x) none.0;
      place = 0;
      there = refl;
      passes = passes;
      least = least_cons test x maps x.first (λ _. omega arith) (λ j m is yes. absurd (false≢true (sym (none.1 j m is) ∙ yes)));
    })
    | inr low ↦ elim (decide (nat_le x.first low.mapping.first)) [
      | inl first ↦ inr (record {
        mapping = x;
        is = head_is test x maps true passes ∙ ap (lower x) low.is ∙ lower_is x low.mapping true first;
        place = 0;
        there = refl;
        passes = passes;
        least =
            let before : x.first ≤ low.mapping.first = grind (arith, nat_tests, first) in
            least_cons test x maps x.first (λ _. omega arith) (λ j m is yes. omega (arith, before, low.least j m is yes));
      })
      | inr later ↦ inr (record {
        mapping = low.mapping;
        is = head_is test x maps true passes ∙ ap (lower x) low.is ∙ lower_is x low.mapping false later;
        place = suc low.place;
        there = low.there;
        passes = low.passes;
        least =
            let after : low.mapping.first ≤ x.first = grind (arith, nat_tests, later) in
            least_cons test x maps low.mapping.first (λ _. after) low.least;
      })
    ]
  ]
  | inr fails ↦ elim (lowest_case test maps) [
    | inl none ↦ inl (head_is test x maps false fails ∙ none.0, none_cons test x maps fails none.1)
    | inr low ↦ inr (record {
      mapping = low.mapping;
      is = head_is test x maps false fails ∙ low.is;
      place = suc low.place;
      there = low.there;
      passes = low.passes;
      least = least_cons test x maps low.mapping.first (λ yes. absurd (false≢true (sym fails ∙ yes))) low.least;
    })
  ]
]

-- ---- the mappings of all live spaces

pub record StandsIn (maps : List Mapping) (m : Mapping) : Type 0 where
  pub place : ℕ
  pub there : slice_get maps place ≡ Some m

front_at : (xs ys : List Mapping) (j : ℕ) (m : Mapping) → slice_get xs j ≡ Some m → slice_get (xs ++ ys) j ≡ Some m
front_at [] ys j m is = absurd (none-some m is)
front_at (x ∷ xs) ys zero m is = is
front_at (x ∷ xs) ys (suc j) m is = front_at xs ys j m is

in_front : (xs ys : List Mapping) (m : Mapping) → StandsIn xs m → StandsIn (xs ++ ys) m
in_front xs ys m s = record { place = s.place; there = front_at xs ys s.place m s.there }

in_back : (xs ys : List Mapping) (m : Mapping) → StandsIn ys m → StandsIn (xs ++ ys) m
in_back [] ys m s = s
in_back (x ∷ xs) ys m s = let later = in_back xs ys m s in record { place = suc later.place; there = later.there }

all_append : (ss ts : List LiveSpace) → all_maps (ss ++ ts) ≡ all_maps ss ++ all_maps ts
all_append [] ts = refl
all_append (s ∷ ss) ts = ap (λ (ms : List Mapping). s.space.maps ++ ms) (all_append ss ts) ∙ sym (append_assoc s.space.maps (all_maps ss) (all_maps ts))

-- one of a live space is among them
pub in_all : (mem : List ℕ) (i : ℕ) (spaces : List (Option Held)) (n : ℕ) (h : Held) (m : Mapping) → slice_get spaces n ≡ Some (Some h) →
    StandsIn h.maps m → StandsIn (all_maps (live_from mem i spaces)) m
in_all mem i [] n h m is s = absurd (none-some (Some h) is)
in_all mem i (o ∷ spaces) zero h m is s =
    let here : StandsIn (all_maps (live_at mem i o)) m =
    subst (λ (x : Option Held). StandsIn (all_maps (live_at mem i x)) m) (sym (same_Some o (Some h) is)) (in_front h.maps [] m s) in
    subst (λ (ms : List Mapping). StandsIn ms m) (sym (all_append (live_from mem (i + 1) spaces) (live_at mem i o)))
    (in_back (all_maps (live_from mem (i + 1) spaces)) (all_maps (live_at mem i o)) m here)
in_all mem i (o ∷ spaces) (suc n) h m is s =
    subst (λ (ms : List Mapping). StandsIn ms m) (sym (all_append (live_from mem (i + 1) spaces) (live_at mem i o)))
    (in_front (all_maps (live_from mem (i + 1) spaces)) (all_maps (live_at mem i o)) m (in_all mem (i + 1) spaces n h m is s))

-- a mapping of a live space
pub record InSpace (spaces : List (Option Held)) (m : Mapping) : Type 0 where
  pub number : ℕ
  pub held : Held
  pub home : slice_get spaces number ≡ Some (Some held)
  pub place : ℕ
  pub there : slice_get held.maps place ≡ Some m

each_at : (P : Mapping → Type 0) (mem : List ℕ) (i : ℕ) (o : Option Held) → ((h : Held) (j : ℕ) (m : Mapping) → o ≡ Some h →
    slice_get h.maps j ≡ Some m → P m) →
    (j : ℕ) (m : Mapping) → slice_get (all_maps (live_at mem i o)) j ≡ Some m → P m
each_at P mem i None each j m is = absurd (none-some m is)
each_at P mem i (Some h) each j m is = each_append P h.maps [] (λ n q there. each h n q refl there) (λ n q none. absurd (none-some q none)) j m is

each_all : (P : Mapping → Type 0) (mem : List ℕ) (i : ℕ) (spaces : List (Option Held)) →
    ((n : ℕ) (h : Held) (j : ℕ) (m : Mapping) → slice_get spaces n ≡ Some (Some h) → slice_get h.maps j ≡ Some m → P m) →
    (j : ℕ) (m : Mapping) → slice_get (all_maps (live_from mem i spaces)) j ≡ Some m → P m
each_all P mem i [] each j m is = absurd (none-some m is)
each_all P mem i (o ∷ spaces) each j m is =
    each_append P (all_maps (live_from mem (i + 1) spaces)) (all_maps (live_at mem i o)) (each_all P mem (i + 1) spaces (λ n. each (suc n)))
    (each_at P mem i o (λ h n q same. each zero h n q (ap (λ (x : Option Held). Some x) same))) j m
    (ap (λ (ms : List Mapping). slice_get ms j) (sym (all_append (live_from mem (i + 1) spaces) (live_at mem i o))) ∙ is)

-- each of them is one
pub is_in_space : (mem : List ℕ) (spaces : List (Option Held)) (j : ℕ) (m : Mapping) →
    slice_get (all_maps (live_from mem 0 spaces)) j ≡ Some m → InSpace spaces m
is_in_space mem spaces =
    each_all (InSpace spaces) mem 0 spaces (λ n h j m home there. record { number = n; held = h; home = home; place = j; there = there })
