-- What munmap leaves of a program's own memory.
use Rattle.std.proofs.Common.{◌≡◌, ◌≢◌, ℕ, zero, suc, ◌+◌, ◌-◌, ◌*◌, ◌%◌, ◌≤◌, Bool, true, false, not, cond, inl, inr, List, [], ◌∷◌, ◌++◌, length, take, drop, Option, Some, None, refl, sym, ap, subst, ◌∙◌, arith}
use Rattle.std.specs.Prelude.{◌==◌, ◌||◌, ◌&&◌, nat_lt, nat_le, slice_get, position, option_map, if◌then◌else◌}
use Rattle.std.specs.List.{position_or_len}
use Rattle.std.proofs.lemmas.Bool.{cases_Bool, eq-eqb, ne_eqb, and_parts, false≢true}
use Rattle.std.proofs.lemmas.Bool.Decides.{nat_tests}
use Rattle.std.proofs.lemmas.Option.{none-some, same_Some}
use Rattle.mmap_rules.specs.declared.mapping.Range.{Range}
use Rattle.mmap_rules.specs.declared.page_owner.PageOwner.{PageOwner}
use Rattle.mmap_rules.specs.Space.{in_range}
use Rattle.mmap_rules.specs.Want.{pages_for}
use Rattle.mmap_rules.proofs.Lists.{found_any, any_found, each_cut, each_append}
use Rattle.region_watch.specs.Private.{only, physical}
use Rattle.flat_loader.specs.Alone.{OwnMemory, own_of, cons_to, or_else, with_first, is_exact, can_cut, part, parts, without_range, over_ranges, without_pages}
use Rattle.replay_check.specs.Ranges.{own_memory, IsBlock, IsLone}
use Rattle.replay_check.specs.Answers.{GivesOrRefutes}

lt_zero : (n : ℕ) → nat_lt 0 (suc n) ≡ true
lt_zero n = grind (arith, nat_tests)

lt_both : (m n : ℕ) → nat_lt (suc m) (suc n) ≡ nat_lt m n
lt_both m n = grind (arith, nat_tests)

if_yes : {A : Type 0} (b : Bool) (x y : A) → b ≡ true → (if b then x else y) ≡ x
if_yes b x y is = rw is refl

if_no : {A : Type 0} (b : Bool) (x y : A) → b ≡ false → (if b then x else y) ≡ y
if_no b x y is = rw is refl

-- ---- the first range that passes a test

-- a place below a length
abbrev at_place : (len k : ℕ) → Option ℕ
at_place len k = cond (nat_lt k len) (Some k) None

module _ (p : Range → Bool) where
  position_here : (m : Range) (ms : List Range) → p m ≡ true → position p (m ∷ ms) ≡ Some 0
  position_here m ms is = ap (λ (b : Bool). at_place (suc (length ms)) (cond (not b) (1 + position_or_len p ms) 0)) is ∙ ap (λ (b : Bool). cond b (Some 0) None) (lt_zero (length ms))

  position_later : (m : Range) (ms : List Range) → p m ≡ false → position p (m ∷ ms) ≡ option_map suc (position p ms)
  position_later m ms is =
      ap (λ (b : Bool). at_place (suc (length ms)) (cond (not b) (1 + position_or_len p ms) 0)) is
      ∙ ap (at_place (suc (length ms))) (let one : 1 + position_or_len p ms ≡ suc (position_or_len p ms) = omega arith in one)
      ∙ ap (λ (b : Bool). cond b (Some (suc (position_or_len p ms))) None) (lt_both (position_or_len p ms) (length ms))
      ∙ by (nat_lt (position_or_len p ms) (length ms))
    where
      by : (b : Bool) → cond b (Some (suc (position_or_len p ms))) None ≡ option_map suc (cond b (Some (position_or_len p ms)) None)
      by true = refl
      by false = refl

module _ (test : Range → Bool) (left : Range → List Range) where
  -- it gives way to others
  pub record GivesWay (ranges : List Range) (k : ℕ) : Type 0 where
    pub range : Range
    pub there : slice_get ranges k ≡ Some range
    pub passed : test range ≡ true
    pub is : with_first test left ranges ≡ Some (take k ranges ++ left range ++ drop (suc k) ranges)

  abbrev pub Firsts : List Range → Option ℕ → Type 0
  Firsts ranges None = with_first test left ranges ≡ None
  Firsts ranges (Some k) = GivesWay ranges k

  later_first : (m : Range) (ms : List Range) → test m ≡ false → (o : Option ℕ) → Firsts ms o → Firsts (m ∷ ms) (option_map suc o)
  later_first m ms isnt None none = if_no (test m) (Some (left m ++ ms)) _ isnt ∙ ap (cons_to m) none
  later_first m ms isnt (Some k) some = record {
    range = some.range;
    there = some.there;
    passed = some.passed;
    is = if_no (test m) (Some (left m ++ ms)) _ isnt ∙ ap (cons_to m) some.is;
  }

  pub first_of_all : (ranges : List Range) → Firsts ranges (position test ranges)
  first_of_all [] = refl
  first_of_all (m ∷ ms) = elim (cases_Bool (test m)) [
    | inl is ↦
        subst (Firsts (m ∷ ms)) (sym (position_here test m ms is))
        (record { range = m; there = refl; passed = is; is = if_yes (test m) (Some (left m ++ ms)) _ is })
    | inr isnt ↦ subst (Firsts (m ∷ ms)) (sym (position_later test m ms isnt)) (later_first m ms isnt (position test ms) (first_of_all ms))
  ]

-- ---- the ranges behind munmap

cons_either : (r : Range) (a b : Option (List Range)) → cons_to r (or_else a b) ≡ or_else (cons_to r a) (cons_to r b)
cons_either r (Some x) b = refl
cons_either r None b = refl

-- the block isn't hit
without_all : (ranges : List Range) (block : Range) (others : List Range) (addr size : ℕ) → ranges ≡ block ∷ others → IsBlock block → addr % 4096 ≡ 0
    → without_range addr size ranges ≡ or_else (with_first (is_exact addr size) (λ r. []) ranges) (with_first (can_cut addr size) (λ r. parts r addr size) ranges)
without_all ranges block others addr size head is begins =
    let no_exact : is_exact addr size block ≡ false = (let ne : block.from ≢ addr = (λ e. is.header (ap (λ (n : ℕ). n % 4096) e ∙ begins)) in ap (λ (b : Bool). b && (block.size == size)) (ne_eqb block.from addr ne)) in
    let no_cut : can_cut addr size block ≡ false = ap (λ (b : Bool). b && nat_le block.from addr && nat_le (addr + size) (block.from + block.size)) is.whole in
    subst (λ (l : List Range). without_range addr size l ≡ or_else (with_first (is_exact addr size) (λ r. []) l) (with_first (can_cut addr size) (λ r. parts r addr size) l)) (sym head)
    (cons_either block (with_first (is_exact addr size) (λ r. []) others) (with_first (can_cut addr size) (λ r. parts r addr size) others)
    ∙ (λ i. or_else (sym (if_no (is_exact addr size block) (Some ([] ++ others)) (cons_to block (with_first (is_exact addr size) (λ r. []) others)) no_exact) i)
    (sym (if_no (can_cut addr size block) (Some (parts block addr size ++ others)) (cons_to block (with_first (can_cut addr size) (λ r. parts r addr size) others)) no_cut) i)))

-- ---- their bytes

-- the ranges that are left own no byte more
abbrev Within : (left ranges : List Range) → Type 0
Within left ranges = (a : ℕ) → own_of left a ≡ true → own_of ranges a ≡ true

abbrev In : List Range → Range → Type 0
In ranges r = (a : ℕ) → in_range r a ≡ true → own_of ranges a ≡ true

in_own : (ranges : List Range) (j : ℕ) (r : Range) → slice_get ranges j ≡ Some r → In ranges r
unfolding own_of
in_own ranges j r there a inside = any_found (λ (x : Range). in_range x a) ranges j r there inside

within_of : (left ranges : List Range) → ((j : ℕ) (r : Range) → slice_get left j ≡ Some r → In ranges r) → Within left ranges
unfolding own_of
within_of left ranges each a own =
    let f = found_any (λ (x : Range). in_range x a) left own in
    each f.at f.item f.there a f.passes

less_bytes : (left ranges : List Range) (mem : List ℕ) → Within left ranges
    → over_ranges (own_memory (record { ranges = ranges; mem = mem })) (Some left) ≡ Some (own_memory (record { ranges = left; mem = mem }))
unfolding only
less_bytes left ranges mem within = λ i. Some (record { ranges = left; bytes = λ a. same (own_of left a) (own_of ranges a) (physical mem a) (within a) i })
  where
    same : (x y : Bool) (b : Option ℕ) → (x ≡ true → y ≡ true) → (if x then (if y then b else None) else None) ≡ (if x then b else None)
    same true true b both = refl
    same true false b both = absurd (false≢true (both refl))
    same false y b both = refl

part_in : (r : Range) (from to : ℕ) → r.from ≤ from → from ≤ to → to ≤ r.from + r.size → (j : ℕ) (x : Range) → slice_get (part r from to) j ≡ Some x
    → (a : ℕ) → in_range x a ≡ true → in_range r a ≡ true
part_in r from to low up high j x there a inside = by (from == to) refl there
  where
    by : (b : Bool) → (from == to) ≡ b → slice_get (if b then [] else record r { from = from; size = to - from } ∷ []) j ≡ Some x → in_range r a ≡ true
    by true is got = absurd (none-some x got)
    by false is got = one j got
      where
        one : (i : ℕ) → slice_get (record r { from = from; size = to - from } ∷ []) i ≡ Some x → in_range r a ≡ true
        one zero got =
            let same : record r { from = from; size = to - from } ≡ x = same_Some _ _ got in
            let there : in_range (record r { from = from; size = to - from }) a ≡ true = ap (λ (y : Range). in_range y a) same ∙ inside in
            grind (arith, nat_tests)
        one (suc i) got = absurd (none-some x got)

-- ---- munmap

pub refuses : (o : Option OwnMemory) (new : OwnMemory) → o ≡ None → GivesOrRefutes o false new
refuses o new is = rw is tt

pub leaves : (o : Option OwnMemory) (new : OwnMemory) → o ≡ Some new → GivesOrRefutes o true new
leaves o new is = rw is refl

pub none_asked : (m : OwnMemory) (addr len : ℕ) → len ≡ 0 → without_pages m addr len ≡ None
unfolding without_pages
none_asked m addr len none = rw none refl

pub on_no_page : (m : OwnMemory) (addr len : ℕ) → addr % 4096 ≢ 0 → without_pages m addr len ≡ None
unfolding without_pages
on_no_page m addr len other = rw (ne_eqb (addr % 4096) 0 other) (either (len == 0))
  where
    either : (b : Bool) → (if b || not false then None else over_ranges m (without_range addr (4096 * pages_for len) m.ranges)) ≡ None
    either true = refl
    either false = refl

module _ (ranges : List Range) (table : List PageOwner) (mem : List ℕ) (lone : IsLone ranges table mem) (addr len n : ℕ) where
  abbrev old : OwnMemory
  old = own_memory (record { ranges = ranges; mem = mem })

  module _ (some : len ≢ 0) (begins : addr % 4096 ≡ 0) (count : n ≡ pages_for len) where
    asked : without_pages old addr len
        ≡ over_ranges old (or_else (with_first (is_exact addr (4096 * n)) (λ r. []) ranges) (with_first (can_cut addr (4096 * n)) (λ r. parts r addr (4096 * n)) ranges))
    unfolding without_pages
    asked =
        rw (ne_eqb len 0 some, eq-eqb (addr % 4096) 0 begins)
        (ap (λ k. over_ranges old (without_range addr (4096 * k) ranges)) (sym count)
        ∙ ap (over_ranges old) (without_all ranges lone.block lone.others addr (4096 * n) lone.head lone.is_block begins))

    exact_none : position (is_exact addr (4096 * n)) ranges ≡ None → with_first (is_exact addr (4096 * n)) (λ r. []) ranges ≡ None
    exact_none none = subst (Firsts (is_exact addr (4096 * n)) (λ r. []) ranges) none (first_of_all (is_exact addr (4096 * n)) (λ r. []) ranges)

    pub exact_leaves : (k : ℕ) (left : List Range) → position (is_exact addr (4096 * n)) ranges ≡ Some k → left ≡ take k ranges ++ drop (k + 1) ranges
        → without_pages old addr len ≡ Some (own_memory (record { ranges = left; mem = mem }))
    exact_leaves k left first is =
        let g = subst (Firsts (is_exact addr (4096 * n)) (λ r. []) ranges) first (first_of_all (is_exact addr (4096 * n)) (λ r. []) ranges) in
        let next : suc k ≡ k + 1 = omega arith in
        let same : take k ranges ++ [] ++ drop (suc k) ranges ≡ left = is_it k next ∙ sym is in
        let within : Within left ranges = subst (λ (l : List Range). Within l ranges) (ap (λ i. take k ranges ++ [] ++ drop i ranges) (sym next) ∙ same)
        (within_of (take k ranges ++ [] ++ drop (k + 1) ranges) ranges (each_cut (In ranges) k ranges [] (in_own ranges) (λ j x got. absurd (none-some x got)))) in
        asked
        ∙ ap (λ (o : Option (List Range)). over_ranges old (or_else o (with_first (can_cut addr (4096 * n)) (λ r. parts r addr (4096 * n)) ranges))) (g.is ∙ ap (λ (l : List Range). Some l) same)
        ∙ less_bytes left ranges mem within
      where
        is_it : (k : ℕ) → suc k ≡ k + 1 → take k ranges ++ [] ++ drop (suc k) ranges ≡ take k ranges ++ drop (k + 1) ranges
        is_it k next = (λ i. nil (take k ranges) i ++ drop (next i) ranges)
          where
            nil : (xs : List Range) → xs ++ [] ≡ xs
            nil [] = refl
            nil (x ∷ xs) = ap (λ (l : List Range). x ∷ l) (nil xs)

    pub cut_leaves : (k : ℕ) (r : Range) (left : List Range) → position (is_exact addr (4096 * n)) ranges ≡ None → position (can_cut addr (4096 * n)) ranges ≡ Some k
        → slice_get ranges k ≡ Some r → left ≡ take k ranges ++ parts r addr (4096 * n) ++ drop (k + 1) ranges
        → without_pages old addr len ≡ Some (own_memory (record { ranges = left; mem = mem }))
    cut_leaves k r left none first there is =
        let g = subst (Firsts (can_cut addr (4096 * n)) (λ r. parts r addr (4096 * n)) ranges) first (first_of_all (can_cut addr (4096 * n)) (λ r. parts r addr (4096 * n)) ranges) in
        let item : g.range ≡ r = same_Some _ _ (sym g.there ∙ there) in
        let next : suc k ≡ k + 1 = omega arith in
        let same : take k ranges ++ parts g.range addr (4096 * n) ++ drop (suc k) ranges ≡ left = (λ i. take k ranges ++ parts (item i) addr (4096 * n) ++ drop (next i) ranges) ∙ sym is in
        let can : can_cut addr (4096 * n) r ≡ true = ap (can_cut addr (4096 * n)) (sym item) ∙ g.passed in
        let low : r.from ≤ addr = grind (arith, nat_tests) in
        let high : addr + 4096 * n ≤ r.from + r.size = grind (arith, nat_tests) in
        let in_r = in_own ranges k r there in
        let within : Within left ranges = subst (λ (l : List Range). Within l ranges) (sym is)
        (within_of (take k ranges ++ parts r addr (4096 * n) ++ drop (k + 1) ranges) ranges (each_cut (In ranges) k ranges (parts r addr (4096 * n)) (in_own ranges)
        (each_append (In ranges) (part r r.from addr) (part r (addr + 4096 * n) (r.from + r.size))
        (λ j x got a inside. in_r a (part_in r r.from addr (omega arith) low (omega (arith, high)) j x got a inside))
        (λ j x got a inside. in_r a (part_in r (addr + 4096 * n) (r.from + r.size) (omega (arith, low)) high (omega arith) j x got a inside))))) in
        asked
        ∙ ap (λ (o : Option (List Range)). over_ranges old (or_else o (with_first (can_cut addr (4096 * n)) (λ r. parts r addr (4096 * n)) ranges))) (exact_none none)
        ∙ ap (over_ranges old) (g.is ∙ ap (λ (l : List Range). Some l) same)
        ∙ less_bytes left ranges mem within

    pub nothing_leaves : position (is_exact addr (4096 * n)) ranges ≡ None → position (can_cut addr (4096 * n)) ranges ≡ None → without_pages old addr len ≡ None
    nothing_leaves none neither =
        let cut = subst (Firsts (can_cut addr (4096 * n)) (λ r. parts r addr (4096 * n)) ranges) neither (first_of_all (can_cut addr (4096 * n)) (λ r. parts r addr (4096 * n)) ranges) in
        asked ∙ (λ i. over_ranges old (or_else (exact_none none i) (cut i)))

-- ---- the range that is hit

pub record There (test : Range → Bool) (ranges : List Range) (k : ℕ) : Type 0 where
  pub item : Range
  pub there : slice_get ranges k ≡ Some item
  pub passes : test item ≡ true

pub first_there : (test : Range → Bool) (ranges : List Range) (k : ℕ) → position test ranges ≡ Some k → There test ranges k
first_there test ranges k first =
    let g = subst (Firsts test (λ r. []) ranges) first (first_of_all test (λ r. []) ranges) in
    record { item = g.range; there = g.there; passes = g.passed }

pub cut_begins : (ranges : List Range) (table : List PageOwner) (mem : List ℕ) → IsLone ranges table mem → (addr size k : ℕ) (r : Range) → slice_get ranges k ≡ Some r → can_cut addr size r ≡ true
    → r.from % 4096 ≡ 0
cut_begins ranges table mem l addr size k r there can =
    let first : r.anonymous ≡ true = (and_parts r.anonymous (nat_le r.from addr) (and_parts (r.anonymous && nat_le r.from addr) (nat_le (addr + size) (r.from + r.size)) can).0).0 in
    (l.tabled.own k r there).anonymous first

pub exact_begins : (addr size : ℕ) (r : Range) → addr % 4096 ≡ 0 → is_exact addr size r ≡ true → r.from % 4096 ≡ 0
exact_begins addr size r begins is =
    let same : r.from ≡ addr = grind (arith, nat_tests) in
    ap (λ n. n % 4096) same ∙ begins
