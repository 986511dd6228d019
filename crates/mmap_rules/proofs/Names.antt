-- After a mapping of a fresh run more each mapping still has its region, and a region as many uses as mappings of the space name it.
use Rattle.std.proofs.Common.{◌≡◌, ◌≢◌, ℕ, ◌+◌, ◌<◌, ◌≤◌, inl, inr, Bool, true, cond, List, [], ◌∷◌, ◌++◌, refl, sym, ap, ◌∙◌, arith}
use Rattle.std.specs.Prelude.{Some, slice_get, slice_set, count_by, ◌==◌}
use Rattle.std.proofs.lemmas.Bool.{cases_eq, eq-eqb, ne_eqb, both_ways}
use Rattle.std.proofs.lemmas.Bool.Decides.{nat_tests}
use Rattle.std.proofs.lemmas.Option.{none-some, same_Some}
use Rattle.std.proofs.lemmas.List.Sums.{sum_by_push}
use Rattle.nommu_regions.specs.declared.region.Region.{Region}
use Rattle.nommu_regions.specs.declared.region.Source.{Source}
use Rattle.nommu_regions.specs.declared.region.Source.TheVariants.{Own}
use Rattle.nommu_regions.specs.Regions.{holds, is_held, AreRegions, AreFree}
use Rattle.nommu_regions.proofs.Held.{held_by, after_set}
use Rattle.nommu_regions.proofs.OneChanges.{get_set, get_other}
use Rattle.mmap_rules.specs.declared.mapping.Mapping.{Mapping}
use Rattle.mmap_rules.specs.Held.{block_mapping}
use Rattle.mmap_rules.specs.Mappings.{run_mapping}
use Rattle.mmap_rules.specs.MapState.{Names, NameRegions}
use Rattle.mmap_rules.proofs.Lists.{each_one, each_append}
use Rattle.mmap_rules.proofs.Meets.{count_none}

-- a mapping more, where its region has a use for it too
pub names_push : (rs : List Region) (maps : List Mapping) (m : Mapping) → ((j : ℕ) (n : Mapping) → slice_get maps j ≡ Some n → Names rs n) → Names rs m →
    ((id : ℕ) (r : Region) → slice_get rs id ≡ Some r → count_by (λ n. n.first == id) maps + cond {A = ℕ} (m.first == id) 1 0 ≤ r.uses) →
    NameRegions rs (maps ++ m ∷ [])
names_push rs maps m old new counts = record {
  each = each_append (λ (n : Mapping). Names rs n) maps (m ∷ []) old (each_one (λ (n : Mapping). Names rs n) m new);
  counts = λ id r there. (
      let push = sum_by_push (λ (n : Mapping). cond {A = ℕ} (n.first == id) 1 0) maps m in
      let least = counts id r there in
      omega (arith, push, least));
}

-- ---- a fresh run

-- no mapping names it
not_named : (rs : List Region) (maps : List Mapping) (first count j : ℕ) (m : Mapping) → AreRegions rs → NameRegions rs maps → AreFree rs first count → 0 < count →
    slice_get maps j ≡ Some m → m.first ≢ first
not_named rs maps first count j m are names free some there same =
    let named = names.each j m there in
    let begins = are.begins m.first named.region named.there named.live in
    let pages = are.some m.first named.region named.there named.live in
    let live = named.live in
    let has : holds named.region first ≡ true = grind (arith, nat_tests) in
    let held = held_by rs m.first named.region first named.there has in
    both_ways (is_held rs first) (free.free first (grind (arith, nat_tests))) held

fresh_each : (rs : List Region) (maps : List Mapping) (v : Region) (count : ℕ) → AreRegions rs → NameRegions rs maps → AreFree rs v.first count → 0 < count →
    (j : ℕ) (m : Mapping) → slice_get maps j ≡ Some m → Names (slice_set rs v.first v) m
fresh_each rs maps v count are names free some j m there =
    let named = names.each j m there in
    record {
      region = named.region;
      there = get_other rs v.first m.first v (not_named rs maps v.first count j m are names free some there) ∙ named.there;
      live = named.live;
      run = named.run;
      source = named.source;
      once = named.once;
    }

fresh_count : (rs : List Region) (maps : List Mapping) (first count : ℕ) → AreRegions rs → NameRegions rs maps → AreFree rs first count → 0 < count →
    count_by (λ n. n.first == first) maps ≡ 0
fresh_count rs maps first count are names free some =
    count_none (λ (n : Mapping). n.first == first) maps (λ j m there. ne_eqb m.first first (not_named rs maps first count j m are names free some there))

-- those of any space
pub names_stay : (rs : List Region) (maps : List Mapping) (v : Region) (count : ℕ) → AreRegions rs → NameRegions rs maps → AreFree rs v.first count → 0 < count →
    NameRegions (slice_set rs v.first v) maps
names_stay rs maps v count are names free some = record {
  each = fresh_each rs maps v count are names free some;
  counts = λ id r there. elim (after_set rs v.first id v r there) [
    | inl here ↦ (
        let none = fresh_count rs maps v.first count are names free some in
        let same : count_by (λ n. n.first == id) maps ≡ 0 = ap (λ (k : ℕ). count_by (λ (n : Mapping). n.first == k) maps) here.0 ∙ none in
        omega (arith, same))
    | inr other ↦ names.counts id r other.1
  ];
}

-- and of the space that gets it
pub names_fresh : (rs : List Region) (maps : List Mapping) (first count : ℕ) (writes anonymous : Bool) (source : Source) → AreRegions rs → NameRegions rs maps →
    AreFree rs first count → 0 < count →
    NameRegions (slice_set rs first (record { first = first; pages = count; source = source; uses = 1 })) (maps ++ run_mapping first count writes anonymous source ∷ [])
names_fresh rs maps first count writes anonymous source are names free some =
    names_push (slice_set rs first v) maps m (fresh_each rs maps v count are names free some) new counts
  where
    v : Region
    v = record { first = first; pages = count; source = source; uses = 1 }

    m : Mapping
    m = run_mapping first count writes anonymous source

    new : Names (slice_set rs first v) m
    new = record {
      region = v;
      there = get_set rs first v (let inside = free.inside in omega (arith, inside, some));
      live = omega arith;
      run = refl;
      source = refl;
      once = λ own. refl;
    }

    counts : (id : ℕ) (r : Region) → slice_get (slice_set rs first v) id ≡ Some r → count_by (λ n. n.first == id) maps + cond {A = ℕ} (m.first == id) 1 0 ≤ r.uses
    counts id r there = elim (after_set rs first id v r there) [
      | inl here ↦ (
          let none = fresh_count rs maps first count are names free some in
          let same : count_by (λ n. n.first == id) maps ≡ 0 = ap (λ (k : ℕ). count_by (λ (n : Mapping). n.first == k) maps) here.0 ∙ none in
          let one : cond {A = ℕ} (first == id) 1 0 ≡ 1 = rw (eq-eqb first id (sym here.0)) refl in
          let uses : r.uses ≡ 1 = ap (λ (x : Region). x.uses) here.1 in
          omega (arith, same, one, uses))
      | inr other ↦ (
          let old = names.counts id r other.1 in
          let none : cond {A = ℕ} (first == id) 1 0 ≡ 0 = rw (ne_eqb first id (λ e. other.0 (sym e))) refl in
          omega (arith, old, none))
    ]

-- ---- a block

-- a space with its block alone
pub names_block : (rs : List Region) (id : ℕ) (r : Region) → AreRegions rs → slice_get rs id ≡ Some r → r.source ≡ Own → r.uses ≡ 1 →
    NameRegions rs (block_mapping r.first r.pages ∷ [])
names_block rs id r are there own one = names_push rs [] (block_mapping r.first r.pages) (λ j n item. absurd (none-some n item)) new counts
  where
    begins : r.first ≡ id
    begins = are.begins id r there (omega (arith, one))

    new : Names rs (block_mapping r.first r.pages)
    new = record {
      region = r;
      there = ap (λ (k : ℕ). slice_get rs k) begins ∙ there;
      live = omega (arith, one);
      run = refl;
      source = sym own;
      once = λ _. one;
    }

    counts : (k : ℕ) (s : Region) → slice_get rs k ≡ Some s → 0 + cond {A = ℕ} (r.first == k) 1 0 ≤ s.uses
    counts k s is = elim (cases_eq r.first k) [
      | inl here ↦ (
          let same : r ≡ s = same_Some _ _ (sym there ∙ (ap (λ (j : ℕ). slice_get rs j) (sym begins ∙ here) ∙ is)) in
          let uses = ap (λ (x : Region). x.uses) same in
          rw (eq-eqb r.first k here) (omega (arith, uses, one)))
      | inr other ↦ rw (ne_eqb r.first k other) (omega arith)
    ]
