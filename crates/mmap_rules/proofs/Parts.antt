-- What is left of an anonymous mapping that loses pages: at most two runs of whole pages.
use Rattle.std.proofs.Common.{◌≡◌, ℕ, ◌+◌, ◌-◌, ◌*◌, ◌/◌, ◌%◌, ◌^◌, ◌<◌, ◌≤◌, inl, inr, Bool, true, false, ◌&&◌, cond, [], ◌∷◌, Some, refl, sym, ap, ◌∙◌, arith}
use Rattle.std.specs.Prelude.{slice_get, nat_le, nat_lt, count_by}
use Rattle.std.specs.List.{sum_by}
use Rattle.std.proofs.lemmas.Bool.{cases_eq, eq-eqb, ne_eqb, and_parts, leb-true}
use Rattle.std.proofs.lemmas.Bool.Decides.{nat_tests}
use Rattle.std.proofs.lemmas.Option.{none-some}
use Rattle.std.proofs.lemmas.List.Sums.{sum_by-cons, sum_by-append}
use Rattle.mmap_rules.specs.declared.mapping.Range.{Range}
use Rattle.mmap_rules.specs.declared.mapping.Mapping.{Mapping}
use Rattle.mmap_rules.specs.Owners.{meets}
use Rattle.mmap_rules.specs.Held.{IsMapping, AreMappings, places_of, page_address}
use Rattle.mmap_rules.specs.Mappings.{run_mapping, can_lose, page_at, part_of, left_of}
use Rattle.mmap_rules.proofs.Lists.{each_one, each_append}
use Rattle.mmap_rules.proofs.Mapped.{run_is}

-- a mapping may lose whole pages
pub record Cuts (pages : ℕ) (m : Mapping) (addr size : ℕ) : Type 0 where
  pub mapping : IsMapping pages m
  pub can : can_lose addr size m ≡ true
  pub begins : addr % 4096 ≡ 0
  pub some : 0 < size
  pub whole : size % 4096 ≡ 0

-- whole pages of memory, from one address up to another
pub record WholePages (pages from to : ℕ) : Type 0 where
  pub above : 2 ^ 31 ≤ from
  pub up : from ≤ to
  pub inside : to ≤ 2 ^ 31 + 4096 * pages
  pub begins : from % 4096 ≡ 0
  pub ends : to % 4096 ≡ 0

-- what the cut leaves before and behind
pub record Both (pages : ℕ) (m : Mapping) (addr size : ℕ) : Type 0 where
  pub anonymous : m.range.anonymous ≡ true
  pub before : WholePages pages m.range.from addr
  pub behind : WholePages pages (addr + size) (m.range.from + m.range.size)

pub both : (pages : ℕ) (m : Mapping) (addr size : ℕ) → Cuts pages m addr size → Both pages m addr size
both pages m addr size cuts =
    let first = and_parts (m.range.anonymous && nat_le m.range.from addr) (nat_le (addr + size) (m.range.from + m.range.size)) cuts.can in
    let second = and_parts m.range.anonymous (nat_le m.range.from addr) first.0 in
    let low = leb-true m.range.from addr second.1 in
    let high = leb-true (addr + size) (m.range.from + m.range.size) first.1 in
    let begins = cuts.begins in
    let whole = cuts.whole in
    let is = (cuts.mapping.whole second.0) in
    let from = is.1 in
    let all = is.2 in
    let above = cuts.mapping.shaped.above in
    let inside = cuts.mapping.shaped.inside in
    record {
      anonymous = second.0;
      before = record { above = above; up = low; inside = omega arith; begins = omega arith; ends = begins };
      behind = record { above = omega arith; up = high; inside = omega arith; begins = omega arith; ends = omega arith };
    }

-- ---- each part

-- the run of a part
abbrev pub run_of : Mapping → ℕ → ℕ → Mapping
run_of m from to = run_mapping (page_at from) ((to - from) / 4096) m.range.writes m.range.anonymous m.source

each_part : (P : Mapping → Type 0) (m : Mapping) (from to : ℕ) → ((from ≡ to → ⊥) → P (run_of m from to)) → (j : ℕ) (n : Mapping) → slice_get (part_of m from to) j ≡ Some n → P n
each_part P m from to holds =
    elim (cases_eq from to) [
      | inl same ↦ rw (eq-eqb from to same) (λ j n item. absurd (none-some n item))
      | inr other ↦ rw (ne_eqb from to other) (each_one P (run_of m from to) (holds other))
    ]

pub each_left : (P : Mapping → Type 0) (m : Mapping) (addr size : ℕ) → ((m.range.from ≡ addr → ⊥) → P (run_of m m.range.from addr))
    → ((addr + size ≡ m.range.from + m.range.size → ⊥) → P (run_of m (addr + size) (m.range.from + m.range.size)))
    → (j : ℕ) (n : Mapping) → slice_get (left_of m addr size) j ≡ Some n → P n
each_left P m addr size before behind =
    each_append P (part_of m m.range.from addr) (part_of m (addr + size) (m.range.from + m.range.size)) (each_part P m m.range.from addr before) (each_part P m (addr + size) (m.range.from + m.range.size) behind)

part_mapped : (pages : ℕ) (m : Mapping) (from to : ℕ) → IsMapping pages m → m.range.anonymous ≡ true → WholePages pages from to → (from ≡ to → ⊥) → IsMapping pages (run_of m from to)
part_mapped pages m from to is anonymous w other =
    let above = w.above in
    let up = w.up in
    let inside = w.inside in
    let begins = w.begins in
    let ends = w.ends in
    run_is pages (page_at from) ((to - from) / 4096) m.range.writes m.range.anonymous m.source (omega arith) (omega arith) is.writes (λ asked. (is.whole asked).0)

pub left_mapped : (pages : ℕ) (m : Mapping) (addr size : ℕ) → Cuts pages m addr size → AreMappings pages (left_of m addr size)
left_mapped pages m addr size cuts =
    let b = both pages m addr size cuts in
    each_left (IsMapping pages) m addr size (part_mapped pages m m.range.from addr cuts.mapping b.anonymous b.before)
    (part_mapped pages m (addr + size) (m.range.from + m.range.size) cuts.mapping b.anonymous b.behind)

-- ---- sums over the parts

sum_part : (f : Mapping → ℕ) (m : Mapping) (from to n : ℕ) → (from ≡ to → n ≡ 0) → ((from ≡ to → ⊥) → f (run_of m from to) ≡ n) → sum_by f (part_of m from to) ≡ n
sum_part f m from to n none some =
    elim (cases_eq from to) [
      | inl same ↦ rw (eq-eqb from to same) (sym (none same))
      | inr other ↦ rw (ne_eqb from to other) (one (run_of m from to) ∙ some other)
    ]
  where
    one : (x : Mapping) → sum_by f (x ∷ []) ≡ f x
    one x = omega (arith, sum_by-cons f x [])

pub sum_left : (f : Mapping → ℕ) (m : Mapping) (addr size : ℕ) → sum_by f (left_of m addr size) ≡ sum_by f (part_of m m.range.from addr) + sum_by f (part_of m (addr + size) (m.range.from + m.range.size))
sum_left f m addr size = sum_by-append f (part_of m m.range.from addr) (part_of m (addr + size) (m.range.from + m.range.size))

places_part : (m : Mapping) (from to : ℕ) → m.range.anonymous ≡ true → sum_by places_of (part_of m from to) ≡ (to - from) / 4096
places_part m from to anonymous = sum_part places_of m from to ((to - from) / 4096) (λ same. omega arith) (λ other. rw anonymous refl)

pub left_places : (pages : ℕ) (m : Mapping) (addr size : ℕ) → Cuts pages m addr size → sum_by places_of (left_of m addr size) ≤ places_of m
left_places pages m addr size cuts =
    let b = both pages m addr size cuts in
    let up = b.before.up in
    let high = b.behind.up in
    let all = (cuts.mapping.whole b.anonymous).2 in
    let places : places_of m ≡ m.pages = rw b.anonymous refl in
    let before = places_part m m.range.from addr b.anonymous in
    let behind = places_part m (addr + size) (m.range.from + m.range.size) b.anonymous in
    omega (arith, sum_left places_of m addr size, places, before, behind, up, high, all)

-- ---- the pages that a part meets

-- the page lies from one address up to another
abbrev pub spans : ℕ → ℕ → ℕ → Bool
spans from to page = nat_le from (page_address page) && nat_lt (page_address page) to

pub meets_spans : (r : Range) (from to page : ℕ) → r.from ≡ from → from + r.size ≡ to → 2 ^ 31 ≤ from → from % 4096 ≡ 0 → to % 4096 ≡ 0 → meets r page ≡ spans from to page
meets_spans r from to page is_from is_to above begins ends = grind (arith, nat_tests)

pub meets_run : (pages : ℕ) (m : Mapping) (from to page : ℕ) → WholePages pages from to → meets (run_of m from to).range page ≡ spans from to page
meets_run pages m from to page w =
    let above = w.above in
    let up = w.up in
    let begins = w.begins in
    let ends = w.ends in
    meets_spans (run_of m from to).range from to page (omega arith) (omega arith) above begins ends

pub met_part : (pages : ℕ) (m : Mapping) (from to page : ℕ) → WholePages pages from to → count_by (λ n. meets n.range page) (part_of m from to) ≡ cond (spans from to page) 1 0
met_part pages m from to page w =
    sum_part (λ (n : Mapping). cond {A = ℕ} (meets n.range page) 1 0) m from to (cond (spans from to page) 1 0)
    (λ same. ap (λ (b : Bool). cond {A = ℕ} b 1 0) (let none : spans from to page ≡ false = grind (arith, nat_tests) in none))
    (λ other. ap (λ (b : Bool). cond {A = ℕ} b 1 0) (meets_run pages m from to page w))
