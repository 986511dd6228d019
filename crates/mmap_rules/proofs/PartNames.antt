-- The parts that a cut leaves have their regions, and how many mappings name a region then.
use Rattle.std.proofs.Common.{◌≡◌, ◌≢◌, ℕ, ◌+◌, ◌*◌, ◌≤◌, inl, inr, Bool, cond, List, [], ◌∷◌, ◌++◌, take, drop, Some, refl, sym, ap, ◌∙◌, arith}
use Rattle.std.specs.Prelude.{slice_get, slice_set, count_by, ◌==◌}
use Rattle.std.proofs.lemmas.Bool.{cases_eq, cases_lt, eq-eqb, ne_eqb}
use Rattle.std.proofs.lemmas.List.Sums.{sum_by-cons, sum_by-append}
use Rattle.nommu_regions.specs.declared.region.Region.{Region}
use Rattle.nommu_regions.specs.Regions.{before, behind}
use Rattle.nommu_regions.proofs.Held.{after_set}
use Rattle.mmap_rules.specs.declared.mapping.Mapping.{Mapping}
use Rattle.mmap_rules.specs.Mappings.{page_at, part_of, left_of}
use Rattle.mmap_rules.specs.MapState.{Names}
use Rattle.mmap_rules.proofs.Lists.{Found, found_counted, sum_cut}
use Rattle.mmap_rules.proofs.Parts.{run_of}
use Rattle.mmap_rules.proofs.NamesLess.{others, named_by, count_others}
use Rattle.mmap_rules.proofs.Cutting.{Cutting, none_other}

-- ---- the parts

-- the region before the cut has its use, if a page is left there
uses_before : (r : Region) (from : ℕ) → from ≢ r.first → (before r from).uses ≡ r.uses
uses_before r from other = rw (ne_eqb from r.first other) refl

pub front_names : (rs new : List Region) (xs : List Mapping) (k : ℕ) (m : Mapping) (r : Region) (addr n from : ℕ) → Cutting rs xs k m r addr n from
    → slice_get new m.first ≡ Some (before r from) → m.range.from ≢ addr → Names new (run_of m m.range.from addr)
front_names rs new xs k m r addr n from c there other =
    let first : page_at m.range.from ≡ m.first = omega (arith, c.begin) in
    let later : from ≢ r.first = λ e. other (omega (arith, c.begin, c.at, c.begins, e)) in
    let uses = uses_before r from later in
    record {
      region = before r from;
      there = ap (slice_get new) first ∙ there;
      live = omega (arith, uses, c.one);
      run = omega (arith, c.begin, c.at, c.begins, c.low);
      source = c.source;
      once = λ own. uses ∙ c.one;
    }

pub back_names : (rs new : List Region) (xs : List Mapping) (k : ℕ) (m : Mapping) (r : Region) (addr n from : ℕ) → Cutting rs xs k m r addr n from
    → slice_get new (from + n) ≡ Some (behind r (from + n)) → Names new (run_of m (addr + 4096 * n) (m.range.from + m.range.size))
back_names rs new xs k m r addr n from c there =
    let first : page_at (addr + 4096 * n) ≡ from + n = omega (arith, c.at) in
    record {
      region = behind r (from + n);
      there = ap (slice_get new) first ∙ there;
      live = omega (arith, c.one);
      run = omega (arith, c.begin, c.size, c.at, c.begins, c.high);
      source = c.source;
      once = λ own. c.one;
    }

-- ---- how many name a region

pub part_other : (m : Mapping) (a b id : ℕ) → page_at a ≢ id → named_by id (part_of m a b) ≡ 0
part_other m a b id other =
    elim (cases_eq a b) [
      | inl same ↦ rw (eq-eqb a b same) refl
      | inr differ ↦ rw (ne_eqb a b differ) (one (run_of m a b) id other)
    ]
  where
    one : (x : Mapping) (id : ℕ) → x.first ≢ id → named_by id (x ∷ []) ≡ 0
    one x id other = sum_by-cons (λ (y : Mapping). cond {A = ℕ} (y.first == id) 1 0) x [] ∙ ap (λ (b : Bool). cond {A = ℕ} b 1 0 + 0) (ne_eqb x.first id other)

pub part_none : (m : Mapping) (a b id : ℕ) → a ≡ b → named_by id (part_of m a b) ≡ 0
part_none m a b id same = rw (eq-eqb a b same) refl

pub part_one : (m : Mapping) (a b id : ℕ) → named_by id (part_of m a b) ≤ 1
part_one m a b id =
    elim (cases_eq a b) [
      | inl same ↦ rw (eq-eqb a b same) (omega arith)
      | inr differ ↦ rw (ne_eqb a b differ) (one (run_of m a b) id)
    ]
  where
    one : (x : Mapping) (id : ℕ) → named_by id (x ∷ []) ≤ 1
    one x id =
        elim (cases_eq x.first id) [
          | inl same ↦ (let is = ap (λ (b : Bool). cond {A = ℕ} b 1 0) (eq-eqb x.first id same) in omega (arith, is, sum_by-cons (λ (y : Mapping). cond {A = ℕ} (y.first == id) 1 0) x []))
          | inr other ↦ (let is = ap (λ (b : Bool). cond {A = ℕ} b 1 0) (ne_eqb x.first id other) in omega (arith, is, sum_by-cons (λ (y : Mapping). cond {A = ℕ} (y.first == id) 1 0) x []))
        ]

-- the others, and the two parts
pub total : (xs : List Mapping) (k : ℕ) (m : Mapping) (addr size id : ℕ) → slice_get xs k ≡ Some m
    → named_by id (take k xs ++ left_of m addr size ++ drop (k + 1) xs)
    ≡ named_by id (others k xs) + (named_by id (part_of m m.range.from addr) + named_by id (part_of m (addr + size) (m.range.from + m.range.size)))
total xs k m addr size id there =
    let f : Mapping → ℕ = λ n. cond (n.first == id) 1 0 in
    let cut = sum_cut f k xs (left_of m addr size) m there in
    let rest = count_others xs k id m there in
    let parts = sum_by-append f (part_of m m.range.from addr) (part_of m (addr + size) (m.range.from + m.range.size)) in
    omega (arith, cut, rest, parts)

pub count_zero : (p : Mapping → Bool) (xs : List Mapping) → (Found Mapping p xs → ⊥) → count_by p xs ≡ 0
count_zero p xs never =
    elim (cases_lt 0 (count_by p xs)) [
      | inl some ↦ absurd (never (found_counted p xs some))
      | inr none ↦ omega (arith, none)
    ]

-- at a place before which no page behind the cut stands
pub count_front : (rs : List Region) (xs : List Mapping) (k : ℕ) (m : Mapping) (r s : Region) (addr n from id : ℕ) → Cutting rs xs k m r addr n from
    → slice_get (slice_set rs m.first (before r from)) id ≡ Some s → named_by id (part_of m (addr + 4096 * n) (m.range.from + m.range.size)) ≡ 0
    → named_by id (take k xs ++ left_of m addr (4096 * n) ++ drop (k + 1) xs) ≤ s.uses
count_front rs xs k m r s addr n from id c is none =
    let all = total xs k m addr (4096 * n) id c.item in
    let first : page_at m.range.from ≡ m.first = omega (arith, c.begin) in
    elim (after_set rs m.first id (before r from) s is) [
      | inl here ↦ (
          let same : named_by id (others k xs) ≡ 0 = ap (λ i. named_by i (others k xs)) here.0 ∙ none_other rs xs k m r addr n from c in
          let uses : s.uses ≡ (before r from).uses = ap (λ (x : Region). x.uses) here.1 in
          elim (cases_eq m.range.from addr) [
            | inl whole ↦ (let gone = part_none m m.range.from addr id whole in omega (arith, all, same, none, gone))
            | inr later ↦ (
                let kept = uses_before r from (λ e. later (omega (arith, c.begin, c.at, c.begins, e))) in
                let one = part_one m m.range.from addr id in
                omega (arith, all, same, none, one, uses, kept, c.one))
          ])
      | inr other ↦ (
          let gone = part_other m m.range.from addr id (λ e. other.0 (sym e ∙ first)) in
          let rest = count_others xs k id m c.item in
          let least = c.names.counts id s other.1 in
          omega (arith, all, none, gone, rest, least))
    ]
