-- A list of ranges of which one goes or is cut, and its table.
use Rattle.std.proofs.Common.{◌≡◌, ℕ, zero, suc, ◌+◌, ◌-◌, ◌*◌, ◌/◌, ◌%◌, ◌^◌, ◌<◌, Bool, true, false, inl, inr, List, [], ◌∷◌, ◌++◌, length, take, drop, Some, get_or, refl, sym, ap, subst, ◌∙◌, arith}
use Rattle.std.specs.List.{remove}
use Rattle.std.specs.Prelude.{slice_get, option_map, ◌==◌, if◌then◌else◌}
use Rattle.std.proofs.lemmas.Bool.{cases_eq, eq-eqb, ne_eqb}
use Rattle.std.proofs.lemmas.Option.{none-some, same_Some, slice_get_read}
use Rattle.std.proofs.lemmas.List.{map-append}
use Rattle.nommu_regions.specs.declared.region.Source.TheVariants.{Own}
use Rattle.mmap_rules.specs.declared.mapping.Range.{Range}
use Rattle.mmap_rules.specs.declared.mapping.Mapping.{Mapping}
use Rattle.mmap_rules.specs.declared.page_owner.PageOwner.{PageOwner}
use Rattle.mmap_rules.specs.Owners.{IsShaped, IsTable, taken_out}
use Rattle.mmap_rules.specs.Mappings.{part_of, left_of}
use Rattle.mmap_rules.proofs.Lists.{each_one, each_append, each_cut}
use Rattle.mmap_rules.proofs.TableLess.{table_without, is_dropped}
use Rattle.mmap_rules.proofs.TableLeft.{table_left}
use Rattle.mmap_rules.proofs.Parts.{Cuts, WholePages, both, run_of}
use Rattle.mmap_rules.proofs.Cuts.{Stand, stand, cut_shaped, two_parts}
use Rattle.flat_loader.specs.Alone.{part, parts}
use Rattle.replay_check.specs.Ranges.{mapping_of, mappings_of, IsOwnRange, AreOwnRanges, AreTabled, CanCutAt, IsLone}
use Rattle.replay_check.proofs.OwnBytes.{mapping_is}

-- ---- the mappings of such a list

pub there_mapped : (ranges : List Range) (k : ℕ) (r : Range) → slice_get ranges k ≡ Some r → slice_get (mappings_of ranges) k ≡ Some (mapping_of r)
there_mapped [] k r there = absurd (none-some r there)
there_mapped (x ∷ xs) zero r there = ap (λ (y : Range). Some (mapping_of y)) (same_Some _ _ there)
there_mapped (x ∷ xs) (suc k) r there = there_mapped xs k r there

map_take : (k : ℕ) (ranges : List Range) → mappings_of (take k ranges) ≡ take k (mappings_of ranges)
map_take zero ranges = refl
map_take (suc k) [] = refl
map_take (suc k) (r ∷ rs) = ap (λ (l : List Mapping). mapping_of r ∷ l) (map_take k rs)

map_drop : (k : ℕ) (ranges : List Range) → mappings_of (drop k ranges) ≡ drop k (mappings_of ranges)
map_drop zero ranges = refl
map_drop (suc k) [] = refl
map_drop (suc k) (r ∷ rs) = map_drop k rs

map_cut : (k : ℕ) (ranges others : List Range) → mappings_of (take k ranges ++ others ++ drop (k + 1) ranges) ≡ take k (mappings_of ranges) ++ mappings_of others ++ drop (k + 1) (mappings_of ranges)
map_cut k ranges others =
    map-append mapping_of (take k ranges ++ others) (drop (k + 1) ranges)
    ∙ ap (λ (l : List Mapping). l ++ mappings_of (drop (k + 1) ranges)) (map-append mapping_of (take k ranges) others)
    ∙ (λ i. map_take k ranges i ++ mappings_of others ++ map_drop (k + 1) ranges i)

-- ---- one goes

pub taken : (table new : List PageOwner) (ranges : List Range) (k : ℕ) (r : Range) → AreTabled ranges table → slice_get ranges k ≡ Some r → length new ≡ length table
    → ((page : ℕ) → slice_get new page ≡ option_map (taken_out r page) (slice_get table page))
    → AreTabled (take k ranges ++ drop (k + 1) ranges) new
taken table new ranges k r is there len each = record {
  pages = len ∙ is.pages;
  named =
      subst (λ (l : List Range). IsTable new (mappings_of l)) (is_dropped ranges k)
      (subst (IsTable new) (sym (map_cut k ranges [])) (table_without table new (mappings_of ranges) k (mapping_of r) is.named (there_mapped ranges k r there) each));
  own = subst AreOwnRanges (is_dropped ranges k) (each_cut IsOwnRange k ranges [] is.own (λ j x got. absurd (none-some x got)));
}

-- ---- one is cut

pub record CutAt (ranges : List Range) (k : ℕ) (r : Range) (addr size : ℕ) : Type 0 where
  pub there : slice_get ranges k ≡ Some r
  pub own : IsOwnRange r
  pub cuts : Cuts 16384 (mapping_of r) addr size
  pub stand : Stand 16384 (mapping_of r) addr size

pub cut_at : (ranges mid : List Range) (k : ℕ) (r : Range) (addr n : ℕ) → AreOwnRanges ranges → mid ≡ ranges → r ≡ get_or mid k r → CanCutAt ranges k addr n → CutAt ranges k r addr (4096 * n)
cut_at ranges mid k r addr n own same value c =
    let there : slice_get ranges k ≡ Some r = slice_get_read ranges (length ranges) k r refl c.there (value ∙ ap (λ (l : List Range). get_or l k r) same) in
    let is = own k r there in
    let cuts : Cuts 16384 (mapping_of r) addr (4096 * n) = record {
      mapping = mapping_is r is;
      can = c.can r there;
      begins = c.begins;
      some = (let some = c.some in omega (arith, some));
      whole = omega arith;
    } in
    record { there = there; own = is; cuts = cuts; stand = stand 16384 (mapping_of r) addr (4096 * n) cuts }

part_mapped : (r : Range) (from to : ℕ) → WholePages 16384 from to → mappings_of (part r from to) ≡ part_of (mapping_of r) from to
part_mapped r from to whole = by (from == to)
  where
    begins : from ≡ 2 ^ 31 + 4096 * ((from - 2 ^ 31) / 4096)
    begins = omega (arith, whole.above, whole.begins)

    size : to - from ≡ 4096 * ((to - from) / 4096)
    size = omega (arith, whole.up, whole.begins, whole.ends)

    pages : (from - 2 ^ 31 + (to - from)) / 4096 - (from - 2 ^ 31) / 4096 ≡ (to - from) / 4096
    pages = omega (arith, whole.above, whole.up, whole.begins, whole.ends)

    by : (b : Bool) → mappings_of (if b then [] else record r { from = from; size = to - from } ∷ []) ≡ (if b then [] else run_of (mapping_of r) from to ∷ [])
    by true = refl
    by false = λ i. record { first = (from - 2 ^ 31) / 4096; pages = pages i; range = record r { from = begins i; size = size i }; source = Own } ∷ []

parts_mapped : (r : Range) (addr size : ℕ) → Cuts 16384 (mapping_of r) addr size → mappings_of (parts r addr size) ≡ left_of (mapping_of r) addr size
parts_mapped r addr size cuts =
    let b = both 16384 (mapping_of r) addr size cuts in
    map-append mapping_of (part r r.from addr) (part r (addr + size) (r.from + r.size))
    ∙ (λ i. part_mapped r r.from addr b.before i ++ part_mapped r (addr + size) (r.from + r.size) b.behind i)

pub cut_named : (table new : List PageOwner) (ranges : List Range) (k : ℕ) (r gone : Range) (addr size : ℕ) → IsTable table (mappings_of ranges) → CutAt ranges k r addr size
    → gone.from ≡ addr → gone.size ≡ size → ((page : ℕ) → slice_get new page ≡ option_map (taken_out gone page) (slice_get table page))
    → IsTable new (mappings_of (take k ranges ++ parts r addr size ++ drop (k + 1) ranges))
cut_named table new ranges k r gone addr size is c from_is size_is each =
    subst (IsTable new) (sym (map_cut k ranges (parts r addr size) ∙ ap (λ (l : List Mapping). take k (mappings_of ranges) ++ l ++ drop (k + 1) (mappings_of ranges)) (parts_mapped r addr size c.cuts)))
    (table_left 16384 table new (mappings_of ranges) k (mapping_of r) gone addr size is (there_mapped ranges k r c.there) c.cuts from_is size_is each)

part_own : (r : Range) (from to : ℕ) → WholePages 16384 from to → AreOwnRanges (part r from to)
part_own r from to whole =
    elim (cases_eq from to) [
      | inl same ↦ (let none : part r from to ≡ [] = rw (eq-eqb from to same) refl in
          subst AreOwnRanges (sym none) (λ j x got. absurd (none-some x got)))
      | inr other ↦ (
          let above = whole.above in
          let up = whole.up in
          let inside = whole.inside in
          let begins = whole.begins in
          let ends = whole.ends in
          let one : part r from to ≡ record r { from = from; size = to - from } ∷ [] = rw (ne_eqb from to other) refl in
          let shaped : IsShaped 16384 (record r { from = from; size = to - from }) = record { some = omega arith; above = omega arith; inside = omega arith; whole = omega arith } in
          let is : IsOwnRange (record r { from = from; size = to - from }) = record { shaped = shaped; read = λ _. begins; anonymous = λ _. begins } in
          subst AreOwnRanges (sym one) (each_one IsOwnRange (record r { from = from; size = to - from }) is))
    ]

pub cut_own : (ranges : List Range) (k : ℕ) (r : Range) (addr size : ℕ) → AreOwnRanges ranges → CutAt ranges k r addr size
    → AreOwnRanges (take k ranges ++ parts r addr size ++ drop (k + 1) ranges)
cut_own ranges k r addr size own c =
    let b = both 16384 (mapping_of r) addr size c.cuts in
    each_cut IsOwnRange k ranges (parts r addr size) own
    (each_append IsOwnRange (part r r.from addr) (part r (addr + size) (r.from + r.size)) (part_own r r.from addr b.before) (part_own r (addr + size) (r.from + r.size) b.behind))

pub gone_shaped : (ranges : List Range) (k : ℕ) (r : Range) (addr n : ℕ) (writes anonymous : Bool) → CutAt ranges k r addr (4096 * n)
    → IsShaped 16384 (record { from = addr; size = 4096 * n; writes = writes; anonymous = anonymous })
gone_shaped ranges k r addr n writes anonymous c = cut_shaped 16384 (mapping_of r) addr n writes anonymous c.cuts

-- both parts come to its place, the later one first
pub cut_items : (ranges mid less ys zs : List Range) (k : ℕ) (r : Range) (addr size : ℕ) → mid ≡ ranges → k < length ranges → less ≡ remove mid k
    → ys ≡ take k less ++ part r (addr + size) (r.from + r.size) ++ drop k less → zs ≡ take k ys ++ part r r.from addr ++ drop k ys
    → zs ≡ take k ranges ++ parts r addr size ++ drop (k + 1) ranges
cut_items ranges mid less ys zs k r addr size same within is_less is_ys is_zs =
    two_parts k ranges ys zs (part r r.from addr) (part r (addr + size) (r.from + r.size)) within
    (is_ys ∙ ap (λ (l : List Range). take k l ++ part r (addr + size) (r.from + r.size) ++ drop k l) (is_less ∙ ap (λ (l : List Range). remove l k) same)) is_zs

-- ---- the block stays

pub lone_left : (ranges : List Range) (table : List PageOwner) (mem : List ℕ) → IsLone ranges table mem → (new : List PageOwner) (left others : List Range) (k : ℕ) (r : Range)
    → slice_get ranges k ≡ Some r → r.from % 4096 ≡ 0 → left ≡ take k ranges ++ others ++ drop (k + 1) ranges → AreTabled left new
    → IsLone left new mem
lone_left ranges table mem l new left others zero r there begins is tabled =
    let same : l.block ≡ r = same_Some _ _ (ap (λ (rs : List Range). slice_get rs 0) (sym l.head) ∙ there) in
    absurd (l.is_block.header (ap (λ (x : Range). x.from % 4096) same ∙ begins))
lone_left ranges table mem l new left others (suc k) r there begins is tabled = record {
  block = l.block;
  others = take k l.others ++ others ++ drop (k + 1) l.others;
  head = is ∙ ap (λ (rs : List Range). take (suc k) rs ++ others ++ drop (suc k + 1) rs) l.head ∙ ap (λ (n : ℕ). l.block ∷ take k l.others ++ others ++ drop n (l.block ∷ l.others)) (let next : suc k + 1 ≡ suc (k + 1) = omega arith in next);
  is_block = l.is_block;
  tabled = tabled;
  memory = l.memory;
}
