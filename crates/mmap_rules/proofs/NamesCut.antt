-- Where pages are cut out of an anonymous mapping, each mapping that is left has its region.
use Rattle.std.proofs.Common.{◌≡◌, ◌≢◌, ℕ, ◌+◌, ◌*◌, ◌<◌, ◌≤◌, inl, inr, List, ◌++◌, length-set, take, drop, Some, refl, sym, ap, ◌∙◌, arith}
use Rattle.std.specs.Prelude.{slice_get, slice_set, ◌==◌}
use Rattle.std.proofs.lemmas.Bool.{cases_lt, eqb-true, lt-ltb, le-ltb}
use Rattle.std.proofs.lemmas.Option.{slice_get_within}
use Rattle.nommu_regions.specs.declared.region.Region.{Region}
use Rattle.nommu_regions.specs.Regions.{AreRegions, before, behind, with_behind, with_cut}
use Rattle.nommu_regions.proofs.Held.{after_set}
use Rattle.nommu_regions.proofs.OneChanges.{get_set, get_other}
use Rattle.mmap_rules.specs.declared.mapping.Mapping.{Mapping}
use Rattle.mmap_rules.specs.Mappings.{page_at, left_of}
use Rattle.mmap_rules.specs.MapState.{Names, NameRegions}
use Rattle.mmap_rules.proofs.Parts.{Cuts, each_left}
use Rattle.mmap_rules.proofs.NamesLess.{others, named_by, names_others}
use Rattle.mmap_rules.proofs.Cutting.{Cutting, each_of, cutting, other_first, other_end}
use Rattle.mmap_rules.proofs.PartNames.{front_names, back_names, part_other, part_none, part_one, total, count_zero, count_front}

-- ---- what is left

abbrev parts_in : List Mapping → ℕ → Mapping → ℕ → ℕ → List Mapping
parts_in xs k m addr n = take k xs ++ left_of m addr (4096 * n) ++ drop (k + 1) xs

-- no page is left behind the cut
names_front : (rs : List Region) (xs : List Mapping) (k : ℕ) (m : Mapping) (r : Region) (addr n from : ℕ) → Cutting rs xs k m r addr n from
    → from + n ≡ m.first + r.pages → NameRegions (slice_set rs m.first (before r from)) (parts_in xs k m addr n)
names_front rs xs k m r addr n from c ends = record {
  each = each_of (Names new) k xs (left_of m addr (4096 * n)) old (each_left (Names new) m addr (4096 * n) (front_names rs new xs k m r addr n from c at_first) (λ other. absurd (other last)));
  counts = λ id s is. count_front rs xs k m r s addr n from id c is (part_none m (addr + 4096 * n) (m.range.from + m.range.size) id last);
}
  where
    new : List Region
    new = slice_set rs m.first (before r from)

    last : addr + 4096 * n ≡ m.range.from + m.range.size
    last = omega (arith, ends, c.at, c.begin, c.size)

    at_first : slice_get new m.first ≡ Some (before r from)
    at_first = get_set rs m.first (before r from) (slice_get_within rs m.first r c.there)

    old : (j : ℕ) (x : Mapping) → slice_get (others k xs) j ≡ Some x → Names new x
    old j x item =
        let was = names_others rs xs k j x c.names item in
        record {
          region = was.region;
          there = get_other rs m.first x.first (before r from) (other_first rs xs k m r addr n from j x c item) ∙ was.there;
          live = was.live;
          run = was.run;
          source = was.source;
          once = was.once;
        }

-- pages are left behind it
names_both : (rs : List Region) (xs : List Mapping) (k : ℕ) (m : Mapping) (r : Region) (addr n from : ℕ) → Cutting rs xs k m r addr n from
    → from + n < m.first + r.pages → NameRegions (slice_set (slice_set rs m.first (before r from)) (from + n) (behind r (from + n))) (parts_in xs k m addr n)
names_both rs xs k m r addr n from c more = record {
  each = each_of (Names new) k xs (left_of m addr (4096 * n)) old (each_left (Names new) m addr (4096 * n) (front_names rs new xs k m r addr n from c at_first) (λ other. back_names rs new xs k m r addr n from c at_end));
  counts = counts;
}
  where
    front : List Region
    front = slice_set rs m.first (before r from)

    new : List Region
    new = slice_set front (from + n) (behind r (from + n))

    apart : m.first ≢ from + n
    apart = omega (arith, c.low, c.some)

    at_first : slice_get new m.first ≡ Some (before r from)
    at_first = get_other front (from + n) m.first (behind r (from + n)) apart ∙ get_set rs m.first (before r from) (slice_get_within rs m.first r c.there)

    at_end : slice_get new (from + n) ≡ Some (behind r (from + n))
    at_end = get_set front (from + n) (behind r (from + n)) (omega (arith, more, c.inside, length-set rs m.first (before r from)))

    old : (j : ℕ) (x : Mapping) → slice_get (others k xs) j ≡ Some x → Names new x
    old j x item =
        let was = names_others rs xs k j x c.names item in
        record {
          region = was.region;
          there = get_other front (from + n) x.first (behind r (from + n)) (other_end rs xs k m r addr n from j x c item more)
              ∙ (get_other rs m.first x.first (before r from) (other_first rs xs k m r addr n from j x c item) ∙ was.there);
          live = was.live;
          run = was.run;
          source = was.source;
          once = was.once;
        }

    counts : (id : ℕ) (s : Region) → slice_get new id ≡ Some s → named_by id (parts_in xs k m addr n) ≤ s.uses
    counts id s is =
        let back : page_at (addr + 4096 * n) ≡ from + n = omega (arith, c.at) in
        let first : page_at m.range.from ≡ m.first = omega (arith, c.begin) in
        elim (after_set front (from + n) id (behind r (from + n)) s is) [
          | inr other ↦ count_front rs xs k m r s addr n from id c other.1 (part_other m (addr + 4096 * n) (m.range.from + m.range.size) id (λ e. other.0 (sym e ∙ back)))
          | inl here ↦ (
              let all = total xs k m addr (4096 * n) id c.item in
              let none = count_zero (λ (x : Mapping). x.first == id) (others k xs)
              (λ f. other_end rs xs k m r addr n from f.at f.item c f.there more (eqb-true f.item.first id f.passes ∙ here.0)) in
              let gone = part_other m m.range.from addr id (λ e. apart (sym first ∙ (e ∙ here.0))) in
              let one = part_one m (addr + 4096 * n) (m.range.from + m.range.size) id in
              let uses : s.uses ≡ r.uses = ap (λ (x : Region). x.uses) here.1 in
              omega (arith, all, none, gone, one, uses, c.one))
        ]

put_behind : (rs : List Region) (r : Region) (at : ℕ) → at < r.first + r.pages → with_behind rs r at ≡ slice_set rs at (behind r at)
put_behind rs r at more = rw (lt-ltb at (r.first + r.pages) more) refl

without_behind : (rs : List Region) (r : Region) (at : ℕ) → r.first + r.pages ≤ at → with_behind rs r at ≡ rs
without_behind rs r at past = rw (le-ltb at (r.first + r.pages) past) refl

-- each mapping that is left has its region
pub names_cut : (rs : List Region) (xs : List Mapping) (pages k : ℕ) (m : Mapping) (addr n : ℕ) → AreRegions rs → NameRegions rs xs → slice_get xs k ≡ Some m
    → Cuts pages m addr (4096 * n) → NameRegions (with_cut rs m.first (page_at addr) n) (take k xs ++ left_of m addr (4096 * n) ++ drop (k + 1) xs)
unfolding with_cut
names_cut rs xs pages k m addr n are names item cuts =
    let named = names.each k m item in
    let at_id = named.there in
    let r = named.region in
    let from = page_at addr in
    let c = cutting rs xs pages k m addr n named are names item cuts in
    let front = slice_set rs m.first (before r from) in
    elim (cases_lt (from + n) (m.first + r.pages)) [
      | inl more ↦ rw (at_id, put_behind front r (from + n) (omega (arith, more, c.begins))) (names_both rs xs k m r addr n from c more)
      | inr ends ↦ rw (at_id, without_behind front r (from + n) (omega (arith, ends, c.begins))) (names_front rs xs k m r addr n from c (omega (arith, ends, c.high)))
    ]
