-- Pages that are cut out of an anonymous mapping, in numbers, and the mappings beside it.
use Rattle.std.proofs.Common.{◌≡◌, ◌≢◌, ℕ, zero, suc, ◌+◌, ◌*◌, ◌^◌, ◌<◌, ◌≤◌, Bool, true, cond, List, [], ◌∷◌, ◌++◌, length, take, drop, Some, refl, sym, ap, ◌∙◌, arith}
use Rattle.std.specs.Prelude.{slice_get, ◌==◌}
use Rattle.std.proofs.lemmas.Bool.{eq-eqb}
use Rattle.std.proofs.lemmas.Bool.Decides.{nat_tests}
use Rattle.std.proofs.lemmas.Option.{none-some}
use Rattle.nommu_regions.specs.declared.region.Region.{Region}
use Rattle.nommu_regions.specs.declared.region.Source.TheVariants.{Own}
use Rattle.nommu_regions.specs.Regions.{AreRegions, holds}
use Rattle.mmap_rules.specs.declared.mapping.Mapping.{Mapping}
use Rattle.mmap_rules.specs.Mappings.{page_at}
use Rattle.mmap_rules.specs.MapState.{Names, NameRegions}
use Rattle.mmap_rules.proofs.Lists.{counted_found, each_append}
use Rattle.mmap_rules.proofs.Parts.{Cuts, both}
use Rattle.mmap_rules.proofs.NamesLess.{others, named_by, names_others, count_others}

-- ---- lists

each_front : {X : Type 0} (P : X → Type 0) (xs ys : List X) → ((j : ℕ) (x : X) → slice_get (xs ++ ys) j ≡ Some x → P x) → (j : ℕ) (x : X) → slice_get xs j ≡ Some x → P x
each_front P [] ys each j x is = absurd (none-some x is)
each_front P (y ∷ xs) ys each zero x is = each 0 x is
each_front P (y ∷ xs) ys each (suc j) x is = each_front P xs ys (λ i. each (suc i)) j x is

each_back : {X : Type 0} (P : X → Type 0) (xs ys : List X) → ((j : ℕ) (x : X) → slice_get (xs ++ ys) j ≡ Some x → P x) → (j : ℕ) (x : X) → slice_get ys j ≡ Some x → P x
each_back P [] ys each j x is = each j x is
each_back P (y ∷ xs) ys each j x is = each_back P xs ys (λ i. each (suc i)) j x is

-- what holds of the others and of the parts holds of all that is left
pub each_of : {X : Type 0} (P : X → Type 0) (k : ℕ) (xs part : List X) → ((j : ℕ) (x : X) → slice_get (take k xs ++ [] ++ drop (k + 1) xs) j ≡ Some x → P x)
    → ((j : ℕ) (x : X) → slice_get part j ≡ Some x → P x) → (j : ℕ) (x : X) → slice_get (take k xs ++ part ++ drop (k + 1) xs) j ≡ Some x → P x
each_of {X} P k xs part old new =
    each_append P (take k xs ++ part) (drop (k + 1) xs)
    (each_append P (take k xs) part (each_front P (take k xs) [] (each_front P (take k xs ++ []) (drop (k + 1) xs) old)) new)
    (each_back P (take k xs ++ []) (drop (k + 1) xs) old)

-- ---- the cut, in numbers

-- pages from `from` on go, of the region r that the mapping m names
pub record Cutting (rs : List Region) (xs : List Mapping) (k : ℕ) (m : Mapping) (r : Region) (addr n from : ℕ) : Type 0 where
  pub are : AreRegions rs
  pub names : NameRegions rs xs
  pub item : slice_get xs k ≡ Some m
  pub there : slice_get rs m.first ≡ Some r
  pub one : r.uses ≡ 1
  pub own : r.source ≡ Own
  pub begins : r.first ≡ m.first
  pub source : m.source ≡ r.source
  pub begin : m.range.from ≡ 2 ^ 31 + 4096 * m.first
  pub size : m.range.size ≡ 4096 * r.pages
  pub at : addr ≡ 2 ^ 31 + 4096 * from
  pub low : m.first ≤ from
  pub high : from + n ≤ m.first + r.pages
  pub some : 0 < n
  pub inside : m.first + r.pages ≤ length rs

pub cutting : (rs : List Region) (xs : List Mapping) (pages k : ℕ) (m : Mapping) (addr n : ℕ) (named : Names rs m) → AreRegions rs → NameRegions rs xs → slice_get xs k ≡ Some m
    → Cuts pages m addr (4096 * n) → Cutting rs xs k m named.region addr n (page_at addr)
cutting rs xs pages k m addr n named are names item cuts =
    let b = both pages m addr (4096 * n) cuts in
    let whole = cuts.mapping.whole b.anonymous in
    let own : named.region.source ≡ Own = sym named.source ∙ whole.0 in
    let begins : named.region.first ≡ m.first = are.begins m.first named.region named.there named.live in
    let inside = are.inside m.first named.region named.there named.live in
    let from = whole.1 in
    let size = whole.2 in
    let run = named.run in
    let above = b.before.above in
    let low = b.before.up in
    let high = b.behind.up in
    let page = cuts.begins in
    let some = cuts.some in
    record {
      are = are;
      names = names;
      item = item;
      there = named.there;
      one = named.once own;
      own = own;
      begins = begins;
      source = named.source;
      begin = from;
      size = omega (arith, size, run);
      at = omega (arith, page, above, low);
      low = omega (arith, from, low);
      high = omega (arith, from, low, high, size, run, page);
      some = omega (arith, some);
      inside = omega (arith, inside, begins);
    }

-- ---- the other mappings

pub none_other : (rs : List Region) (xs : List Mapping) (k : ℕ) (m : Mapping) (r : Region) (addr n from : ℕ) → Cutting rs xs k m r addr n from → named_by m.first (others k xs) ≡ 0
none_other rs xs k m r addr n from c =
    let all = count_others xs k m.first m c.item in
    let one : cond {A = ℕ} (m.first == m.first) 1 0 ≡ 1 = ap (λ (b : Bool). cond {A = ℕ} b 1 0) (eq-eqb m.first m.first refl) in
    let least = c.names.counts m.first r c.there in
    omega (arith, all, one, least, c.one)

-- another mapping names neither the region nor, where a page is left behind the cut, the place of the one that is made there
pub other_first : (rs : List Region) (xs : List Mapping) (k : ℕ) (m : Mapping) (r : Region) (addr n from j : ℕ) (x : Mapping) → Cutting rs xs k m r addr n from
    → slice_get (others k xs) j ≡ Some x → x.first ≢ m.first
other_first rs xs k m r addr n from j x c item same =
    let some : 0 < named_by m.first (others k xs) = counted_found (λ (y : Mapping). y.first == m.first) (others k xs) j x item (eq-eqb x.first m.first same) in
    omega (arith, some, none_other rs xs k m r addr n from c)

pub other_end : (rs : List Region) (xs : List Mapping) (k : ℕ) (m : Mapping) (r : Region) (addr n from j : ℕ) (x : Mapping) → Cutting rs xs k m r addr n from
    → slice_get (others k xs) j ≡ Some x → from + n < m.first + r.pages → x.first ≢ from + n
other_end rs xs k m r addr n from j x c item more same =
    let old = names_others rs xs k j x c.names item in
    let s = old.region in
    let begins = c.are.begins x.first s old.there old.live in
    let pages = c.are.some x.first s old.there old.live in
    let live = old.live in
    let theirs : holds s x.first ≡ true = grind (arith, nat_tests) in
    let ours : holds r x.first ≡ true = grind (arith, nat_tests, c.one, c.begins, c.low) in
    other_first rs xs k m r addr n from j x c item (c.are.apart x.first m.first s r x.first old.there c.there theirs ours)
