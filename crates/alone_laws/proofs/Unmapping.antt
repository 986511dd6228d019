-- munmap leaves alone just what it leaves in the world.
use Rattle.std.proofs.Common.{◌≡◌, ◌≢◌, ℕ, suc, ◌+◌, ◌-◌, ◌*◌, ◌/◌, ◌%◌, ◌^◌, ◌<◌, Bool, true, false, not, cond, inl, inr, List, [], ◌∷◌, ◌++◌, length, take, drop, Option, Some, None, refl, sym, ap, subst, ◌∙◌, arith}
use Rattle.std.specs.Prelude.{◌==◌, ◌||◌, ◌&&◌, nat_lt, nat_le, slice_get, position, option_map, if◌then◌else◌}
use Rattle.std.specs.List.{position_or_len}
use Rattle.std.proofs.lemmas.Bool.Decides.{nat_tests}
use Rattle.std.proofs.lemmas.List.{map-append}
use Rattle.std.proofs.lemmas.Bool.{cases_Bool}
use Rattle.mmap_rules.specs.declared.mapping.Range.{Range}
use Rattle.mmap_rules.specs.declared.mapping.Mapping.{Mapping}
use Rattle.mmap_rules.specs.Space.{Space, own_in}
use Rattle.mmap_rules.specs.Want.{pages_for}
use Rattle.mmap_rules.specs.Mappings.{is_range, can_lose, part_of, left_of, Hit, hit_at, or_hit, hit_in, hit, without_hit}
use Rattle.mmap_rules.proofs.Parts.{WholePages, Cuts, both, run_of}
use Rattle.region_watch.specs.Private.{only}
use Rattle.flat_loader.specs.Alone.{OwnMemory, memory_of, cons_to, or_else, with_first, is_exact, can_cut, part, parts, without_range, over_ranges, without_pages}
use Rattle.alone_laws.specs.Sound.{IsSpace}
use Rattle.alone_laws.proofs.Lists.{if_yes, if_no, eqb_other, eqb_is, eqb_isnt}
use Rattle.alone_laws.proofs.Frame.{ranges_of, owned}

lt_zero : (n : ℕ) → nat_lt 0 (suc n) ≡ true
lt_zero n = grind (arith, nat_tests)

lt_both : (m n : ℕ) → nat_lt (suc m) (suc n) ≡ nat_lt m n
lt_both m n = grind (arith, nat_tests)

-- ---- the first mapping that passes a test

-- a place below a length
abbrev at_place : (len k : ℕ) → Option ℕ
at_place len k = cond (nat_lt k len) (Some k) None

module _ (p : Mapping → Bool) where
  position_here : (m : Mapping) (ms : List Mapping) → p m ≡ true → position p (m ∷ ms) ≡ Some 0
  position_here m ms is = ap (λ (b : Bool). at_place (suc (length ms)) (cond (not b) (1 + position_or_len p ms) 0)) is ∙ ap (λ (b : Bool). cond b (Some 0) None) (lt_zero (length ms))

  position_later : (m : Mapping) (ms : List Mapping) → p m ≡ false → position p (m ∷ ms) ≡ option_map suc (position p ms)
  position_later m ms is =
      ap (λ (b : Bool). at_place (suc (length ms)) (cond (not b) (1 + position_or_len p ms) 0)) is
      ∙ ap (at_place (suc (length ms))) (let one : 1 + position_or_len p ms ≡ suc (position_or_len p ms) = omega arith in one)
      ∙ ap (λ (b : Bool). cond b (Some (suc (position_or_len p ms))) None) (lt_both (position_or_len p ms) (length ms))
      ∙ by (nat_lt (position_or_len p ms) (length ms))
    where
      by : (b : Bool) → cond b (Some (suc (position_or_len p ms))) None ≡ option_map suc (cond b (Some (position_or_len p ms)) None)
      by true = refl
      by false = refl

module _ (test : Range → Bool) (left : Range → List Range) where
  abbrev passes : Mapping → Bool
  passes m = test m.range

  -- it gives way to others
  pub record GivesWay (maps : List Mapping) (k : ℕ) : Type 0 where
    pub mapping : Mapping
    pub there : slice_get maps k ≡ Some mapping
    pub passed : test mapping.range ≡ true
    pub is : with_first test left (ranges_of maps) ≡ Some (ranges_of (take k maps) ++ left mapping.range ++ ranges_of (drop (suc k) maps))

  abbrev Firsts : List Mapping → Option ℕ → Type 0
  Firsts maps None = with_first test left (ranges_of maps) ≡ None
  Firsts maps (Some k) = GivesWay maps k

  later_first : (m : Mapping) (ms : List Mapping) → test m.range ≡ false → (o : Option ℕ) → Firsts ms o → Firsts (m ∷ ms) (option_map suc o)
  later_first m ms isnt None none = if_no (test m.range) (Some (left m.range ++ ranges_of ms)) _ isnt ∙ ap (cons_to m.range) none
  later_first m ms isnt (Some k) some = record {
    mapping = some.mapping;
    there = some.there;
    passed = some.passed;
    is = if_no (test m.range) (Some (left m.range ++ ranges_of ms)) _ isnt ∙ ap (cons_to m.range) some.is;
  }

  pub first_of_all : (maps : List Mapping) → Firsts maps (position passes maps)
  first_of_all [] = refl
  first_of_all (m ∷ ms) = elim (cases_Bool (test m.range)) [
    | inl is ↦
        subst (Firsts (m ∷ ms)) (sym (position_here passes m ms is))
        (record { mapping = m; there = refl; passed = is; is = if_yes (test m.range) (Some (left m.range ++ ranges_of ms)) _ is })
    | inr isnt ↦ subst (Firsts (m ∷ ms)) (sym (position_later passes m ms isnt)) (later_first m ms isnt (position passes ms) (first_of_all ms))
  ]

-- ---- what is left of a mapping

part_same : (pages : ℕ) (m : Mapping) (from to : ℕ) → WholePages pages from to → ranges_of (part_of m from to) ≡ part m.range from to
part_same pages m from to whole = by (from == to)
  where
    begins : 2 ^ 31 + 4096 * ((from - 2 ^ 31) / 4096) ≡ from
    begins = omega (arith, whole.above, whole.begins)

    size : 4096 * ((to - from) / 4096) ≡ to - from
    size = omega (arith, whole.up, whole.begins, whole.ends)

    by : (b : Bool) → ranges_of (if b then [] else run_of m from to ∷ [])
        ≡ (if b then [] else record m.range { from = from; size = to - from } ∷ [])
    by true = refl
    by false = λ i. record m.range { from = begins i; size = size i } ∷ []

left_same : (pages : ℕ) (m : Mapping) (addr size : ℕ) → Cuts pages m addr size → ranges_of (left_of m addr size) ≡ parts m.range addr size
left_same pages m addr size cuts =
    let b = both pages m addr size cuts in
    map-append (λ (x : Mapping). x.range) (part_of m m.range.from addr) (part_of m (addr + size) (m.range.from + m.range.size))
    ∙ (λ i. part_same pages m m.range.from addr b.before i ++ part_same pages m (addr + size) (m.range.from + m.range.size) b.behind i)

-- ---- what is hit

-- the ranges behind it are those of the mappings behind it
abbrev Same : List Mapping → (addr size : ℕ) → Option Hit → Type 0
Same maps addr size None = Unit {0}
Same maps addr size (Some h) = without_range addr size (ranges_of maps) ≡ Some (ranges_of (without_hit maps h))

module _ (pages : ℕ) (block : Mapping) (others : List Mapping) (addr size : ℕ) (begins : addr % 4096 ≡ 0) (some : 0 < size) (whole : size % 4096 ≡ 0)
    (at_header : block.range.from % 4096 ≢ 0) (uncut : block.range.anonymous ≡ false) (space : IsSpace pages (block ∷ others)) where
  abbrev maps : List Mapping
  maps = block ∷ others

  not_all : is_range addr size block ≡ false
  not_all = let ne : block.range.from ≢ addr = (λ e. at_header (ap (λ (n : ℕ). n % 4096) e ∙ begins)) in ap (λ (b : Bool). b && (block.range.size == size)) (eqb_other block.range.from addr ne)

  not_cut : can_lose addr size block ≡ false
  not_cut = ap (λ (b : Bool). b && nat_le block.range.from addr && nat_le (addr + size) (block.range.from + block.range.size)) uncut

  behind : (k : ℕ) (left : List Mapping) → ranges_of (take (suc k) maps ++ left ++ drop (suc k + 1) maps) ≡ block.range ∷ (ranges_of (take k others) ++ ranges_of left ++ ranges_of (drop (suc k) others))
  behind k left =
      let count : suc k + 1 ≡ suc (suc k) = omega arith in
      ap (λ (n : ℕ). ranges_of (take (suc k) maps ++ left ++ drop n maps)) count
      ∙ ap (λ (l : List Range). block.range ∷ l)
      (map-append (λ (x : Mapping). x.range) (take k others ++ left) (drop (suc k) others)
      ∙ ap (λ (l : List Range). l ++ ranges_of (drop (suc k) others)) (map-append (λ (x : Mapping). x.range) (take k others) left))

  abbrev exact : Range → Bool
  exact r = is_exact addr size r

  abbrev cuts : Range → Bool
  cuts r = can_cut addr size r

  -- one is hit as a whole, or else one is cut
  abbrev hit_by : ℕ → (Mapping → List Mapping) → Option Mapping → Option Hit
  hit_by k left None = None
  hit_by k left (Some m) = Some (record { at = suc k; mapping = m; left = left m })

  by_cut : (o : Option ℕ) → Firsts cuts (λ r. parts r addr size) others o → with_first exact (λ r. []) (ranges_of others) ≡ None
      → Same maps addr size (hit_at maps (λ m. left_of m addr size) (option_map suc o))
  unfolding without_hit
  by_cut None none before = tt
  by_cut (Some k) first before =
      let parts_are = left_same pages first.mapping addr size (record { mapping = space.mappings (suc k) first.mapping first.there; can = first.passed; begins = begins; some = some; whole = whole }) in
      subst (λ o. Same maps addr size (hit_by k (λ m. left_of m addr size) o)) (sym first.there)
      ((λ i. cons_to block.range (or_else (before i) (first.is i)))
      ∙ ap (λ (l : List Range). Some (block.range ∷ (ranges_of (take k others) ++ l ++ ranges_of (drop (suc k) others)))) (sym parts_are)
      ∙ ap (λ (l : List Range). Some l) (sym (behind k (left_of first.mapping addr size))))

  by_both : (o other : Option ℕ) → Firsts exact (λ r. []) others o → Firsts cuts (λ r. parts r addr size) others other
      → Same maps addr size (or_hit (hit_at maps (λ m. []) (option_map suc o)) (hit_at maps (λ m. left_of m addr size) (option_map suc other)))
  unfolding without_hit
  by_both None other none cut = by_cut other cut none
  by_both (Some k) other first cut =
      subst (λ o. Same maps addr size (or_hit (hit_by k (λ m. []) o) (hit_at maps (λ m. left_of m addr size) (option_map suc other)))) (sym first.there)
      (ap (λ (o : Option (List Range)). cons_to block.range (or_else o (with_first cuts (λ r. parts r addr size) (ranges_of others)))) first.is
      ∙ ap (λ (l : List Range). Some l) (sym (behind k [])))

  hit_same : Same maps addr size (hit_in maps addr size)
  hit_same =
      subst (λ o. Same maps addr size (or_hit (hit_at maps (λ m. []) o) (hit_at maps (λ m. left_of m addr size) (position (can_lose addr size) maps))))
      (sym (position_later (is_range addr size) block others not_all))
      (subst (λ o. Same maps addr size (or_hit (hit_at maps (λ m. []) (option_map suc (position (is_range addr size) others))) (hit_at maps (λ m. left_of m addr size) o)))
      (sym (position_later (can_lose addr size) block others not_cut))
      (by_both (position (is_range addr size) others) (position (can_lose addr size) others) (first_of_all exact (λ r. []) others) (first_of_all cuts (λ r. parts r addr size) others)))

-- ---- munmap

module _ (pages : ℕ) (s : Space) (addr len : ℕ) (space : IsSpace pages s.maps) where
  abbrev left : List Mapping → OwnMemory
  left maps = record { ranges = ranges_of maps; bytes = only (own_in maps) s.bytes }

  over_same : (maps : List Mapping) → over_ranges (memory_of s) (Some (ranges_of maps)) ≡ Some (left maps)
  unfolding only
  over_same maps = λ i. Some (record { ranges = ranges_of maps; bytes = λ a. if owned maps i a then s.bytes a else None })

  hit_pages : len ≢ 0 → addr % 4096 ≡ 0 → (h : Hit) → hit_in s.maps addr (4096 * pages_for len) ≡ Some h
      → without_range addr (4096 * pages_for len) (ranges_of s.maps) ≡ Some (ranges_of (without_hit s.maps h))
  hit_pages some begins h is =
      let b = space.block in
      let size = 4096 * pages_for len in
      let more : 0 < 4096 * pages_for len = omega (arith, some) in
      let whole : (4096 * pages_for len) % 4096 ≡ 0 = omega arith in
      subst (λ (maps : List Mapping). hit_in maps addr size ≡ Some h → without_range addr size (ranges_of maps) ≡ Some (ranges_of (without_hit maps h))) (sym b.are)
      (λ e. subst (Same (b.block ∷ b.others) addr size) e
      (hit_same pages b.block b.others addr size begins more whole b.begins b.uncut (subst (λ (l : List Mapping). IsSpace pages l) b.are space))) is

  pub unmaps_alone : (h : Hit) → hit s.maps addr len ≡ Some h → without_pages (memory_of s) addr len ≡ Some (left (without_hit s.maps h))
  unfolding hit without_pages
  unmaps_alone h is = by (len == 0) (addr % 4096 == 0) refl refl is
    where
      by : (none aligned : Bool) → (len == 0) ≡ none → (addr % 4096 == 0) ≡ aligned
          → (if none || not aligned then None else hit_in s.maps addr (4096 * pages_for len)) ≡ Some h
          → (if none || not aligned then None else over_ranges (memory_of s) (without_range addr (4096 * pages_for len) (ranges_of s.maps))) ≡ Some (left (without_hit s.maps h))
      by true aligned none begins e = absurd cc
      by false false none begins e = absurd cc
      by false true none begins e =
          ap (over_ranges (memory_of s)) (hit_pages (eqb_isnt len 0 none) (eqb_is (addr % 4096) 0 begins) h e) ∙ over_same (without_hit s.maps h)
