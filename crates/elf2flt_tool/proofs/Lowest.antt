-- The least number that a walk over a list has met.
use Rattle.std.proofs.Common.{◌≡◌, ℕ, ◌+◌, ◌<◌, ◌≤◌, inl, inr, Bool, true, false, ◌&&◌, ◌||◌, eqb, min, cond, List, [], ◌∷◌, ◌++◌, length, get_or, take, map, filter, Option, Some, None, refl, sym, subst, ap, ◌∙◌, arith, append-nil}
use Rattle.std.specs.List.{list_any}
use Rattle.std.proofs.lemmas.Bool.{cases_Bool, cases_lt, or_cases, or_left, or_right, eq-eqb, eqb-true, false≢true, false_from_ne_true}
use Rattle.std.proofs.lemmas.List.{map-append}
use Rattle.std.proofs.lemmas.List.Elements.{filter_more, filter-append}
use Rattle.bflt_format.proofs.Rising.{has}
use Rattle.elf2flt_tool.specs.Word.{lower, lowest}

and_true : (a c : Bool) → (a || c) ≡ ((a && true) || c)
and_true true c = refl
and_true false c = refl

and_false : (a c : Bool) → c ≡ ((a && false) || c)
and_false true c = refl
and_false false c = refl

lower-swap : (x n : ℕ) (o : Option ℕ) → min x (lower n o) ≡ min n (lower x o)
lower-swap x n None = omega arith
lower-swap x n (Some m) = omega arith

pub lowest-push : (ns : List ℕ) (n : ℕ) → lowest (ns ++ n ∷ []) ≡ Some (lower n (lowest ns))
lowest-push [] n = refl
lowest-push (x ∷ ns) n = ap (λ o. Some (lower x o)) (lowest-push ns n) ∙ ap Some (lower-swap x n (lowest ns))

-- the least of f x over the elements that pass
abbrev pub lowest_of : {X : Type 0} → (X → ℕ) → (X → Bool) → List X → Option ℕ
lowest_of f p xs = lowest (map f (filter p xs))

-- one more element passes
pub lowest-more_yes : {X : Type 0} (f : X → ℕ) (p : X → Bool) (xs : List X) (i : ℕ) (d : X) → i < length xs → p (get_or xs i d) ≡ true
    → lowest_of f p (take (i + 1) xs) ≡ Some (lower (f (get_or xs i d)) (lowest_of f p (take i xs)))
lowest-more_yes f p xs i d below passes =
    ap (λ ys. lowest (map f ys)) (filter_more p xs i d below ∙ ap (λ b. filter p (take i xs) ++ cond b (get_or xs i d ∷ []) []) passes)
    ∙ ap lowest (map-append f (filter p (take i xs)) (get_or xs i d ∷ []))
    ∙ lowest-push (map f (filter p (take i xs))) (f (get_or xs i d))

-- one more element doesn't
pub lowest-more_no : {X : Type 0} (f : X → ℕ) (p : X → Bool) (xs : List X) (i : ℕ) (d : X) → i < length xs → p (get_or xs i d) ≡ false
    → lowest_of f p (take (i + 1) xs) ≡ lowest_of f p (take i xs)
lowest-more_no f p xs i d below fails =
    ap (λ ys. lowest (map f ys)) (filter_more p xs i d below ∙ ap (λ b. filter p (take i xs) ++ cond b (get_or xs i d ∷ []) []) fails ∙ append-nil _)

-- the same at the end of a list
pub lowest-last_yes : {X : Type 0} (f : X → ℕ) (p : X → Bool) (xs : List X) (x : X) → p x ≡ true → lowest_of f p (xs ++ x ∷ []) ≡ Some (lower (f x) (lowest_of f p xs))
lowest-last_yes f p xs x passes =
    ap (λ ys. lowest (map f ys)) (filter-append p xs (x ∷ []) ∙ ap (λ b. filter p xs ++ cond b (x ∷ []) []) passes)
    ∙ ap lowest (map-append f (filter p xs) (x ∷ [])) ∙ lowest-push (map f (filter p xs)) (f x)

pub lowest-last_no : {X : Type 0} (f : X → ℕ) (p : X → Bool) (xs : List X) (x : X) → p x ≡ false → lowest_of f p (xs ++ x ∷ []) ≡ lowest_of f p xs
lowest-last_no f p xs x fails =
    ap (λ ys. lowest (map f ys)) (filter-append p xs (x ∷ []) ∙ ap (λ b. filter p xs ++ cond b (x ∷ []) []) fails ∙ append-nil _)

-- ---- the least of a list goes by its members

-- the least number of a list is one of them
among : (n : ℕ) (ns : List ℕ) (m : ℕ) (least : Option ℕ) → ((k : ℕ) → least ≡ Some k → has ns k ≡ true) → Some (lower n least) ≡ Some m → has (n ∷ ns) m ≡ true
among n ns m None tail is = let same : n ≡ m = cc in or_left (eqb n m) (has ns m) (eq-eqb n m same)
among n ns m (Some k) tail is =
    let same : min n k ≡ m = cc in
    elim (cases_lt k n) [
      | inl less ↦ (let last : k ≡ m = omega arith in or_right (eqb n m) (has ns m) (tail m (ap Some last)))
      | inr from ↦ (let head : n ≡ m = omega arith in or_left (eqb n m) (has ns m) (eq-eqb n m head))
    ]

lowest_member : (ns : List ℕ) (m : ℕ) → lowest ns ≡ Some m → has ns m ≡ true
lowest_member [] m is = absurd (cc)
lowest_member (n ∷ ns) m is = among n ns m (lowest ns) (λ k some. lowest_member ns k some) is

-- and no other is lower
record IsLeast (ns : List ℕ) (n : ℕ) : Type 0 where
  least : ℕ
  is : lowest ns ≡ Some least
  low : least ≤ n

least_first : (n : ℕ) (ns : List ℕ) (least : Option ℕ) → lowest ns ≡ least → IsLeast (n ∷ ns) n
least_first n ns None is = record { least = n; is = ap (λ o. Some (lower n o)) is; low = omega arith }
least_first n ns (Some k) is = record { least = min n k; is = ap (λ o. Some (lower n o)) is; low = omega arith }

lowest_below : (ns : List ℕ) (n : ℕ) → has ns n ≡ true → IsLeast ns n
lowest_below [] n member = absurd (cc)
lowest_below (k ∷ ns) n member = elim (or_cases (eqb k n) (has ns n) member) [
  | inl here ↦ subst (IsLeast (k ∷ ns)) (eqb-true k n here) (least_first k ns (lowest ns) refl)
  | inr later ↦
      let rest = lowest_below ns n later in
      let low = rest.low in
      record { least = min k rest.least; is = ap (λ o. Some (lower k o)) rest.is; low = omega arith }
]

none_has : (ns : List ℕ) → ((n : ℕ) → has ns n ≡ false) → lowest ns ≡ None
none_has [] none = refl
none_has (n ∷ ns) none = absurd (false≢true (sym (none n) ∙ or_left (eqb n n) (has ns n) (eq-eqb n n refl)))

same_some : (m n : ℕ) (o : Option ℕ) → o ≡ Some m → o ≡ Some n → m ≡ n
same_some m n o first second = let both : Some m ≡ Some n = sym first ∙ second in cc

no_some : (n : ℕ) (o : Option ℕ) → o ≡ None → o ≡ Some n → ⊥
no_some n o none some = let both : None ≡ Some n = sym none ∙ some in cc

lowest_none : (ns ms : List ℕ) → lowest ns ≡ None → ((n : ℕ) → has ns n ≡ has ms n) → lowest ms ≡ None
lowest_none ns ms is same = none_has ms (λ n. sym (same n) ∙ false_from_ne_true (has ns n) (λ member. no_some _ (lowest ns) is (lowest_below ns n member).is))

lowest_some : (ns ms : List ℕ) (n : ℕ) → lowest ns ≡ Some n → ((n : ℕ) → has ns n ≡ has ms n) → lowest ms ≡ Some n
lowest_some ns ms n is same =
    let there = lowest_below ms n (sym (same n) ∙ lowest_member ns n is) in
    let back = lowest_below ns there.least (same there.least ∙ lowest_member ms there.least there.is) in
    let one : back.least ≡ n = same_some back.least n (lowest ns) back.is is in
    let low = there.low in
    let high = back.low in
    let equal : there.least ≡ n = omega arith in
    there.is ∙ ap Some equal

lowest_by : (ns ms : List ℕ) (least : Option ℕ) → lowest ns ≡ least → ((n : ℕ) → has ns n ≡ has ms n) → lowest ms ≡ least
lowest_by ns ms None is same = lowest_none ns ms is same
lowest_by ns ms (Some n) is same = lowest_some ns ms n is same

pub lowest_same : (ns ms : List ℕ) → ((n : ℕ) → has ns n ≡ has ms n) → lowest ns ≡ lowest ms
lowest_same ns ms same = sym (lowest_by ns ms (lowest ns) refl same)

-- the numbers of the elements that pass
pub has-mapped : {X : Type 0} (f : X → ℕ) (test : X → Bool) (xs : List X) (q : ℕ) → has (map f (filter test xs)) q ≡ list_any (λ x. eqb (f x) q && test x) xs
has-mapped f test [] q = refl
has-mapped f test (x ∷ xs) q = elim (cases_Bool (test x)) [
  | inl on ↦ rw (on, has-mapped f test xs q) (and_true (eqb (f x) q) (list_any (λ x. eqb (f x) q && test x) xs))
  | inr out ↦ rw (out, has-mapped f test xs q) (and_false (eqb (f x) q) (list_any (λ x. eqb (f x) q && test x) xs))
]
