-- Mappings and their regions after a mapping of a copy more.
use Rattle.std.proofs.Common.{◌≡◌, ℕ, ◌+◌, ◌≤◌, inl, inr, true, cond, List, [], ◌∷◌, ◌++◌, refl, sym, ap, ◌∙◌, arith}
use Rattle.std.specs.Prelude.{Some, slice_get, slice_set, count_by, ◌==◌}
use Rattle.std.proofs.lemmas.Bool.{cases_eq, eq-eqb, ne_eqb, false≢true}
use Rattle.std.proofs.lemmas.Option.{same_Some, slice_get_within}
use Rattle.nommu_regions.specs.declared.region.Region.{Region}
use Rattle.nommu_regions.specs.Regions.{is_copy}
use Rattle.nommu_regions.proofs.Held.{after_set}
use Rattle.nommu_regions.proofs.OneChanges.{get_set, get_other}
use Rattle.mmap_rules.specs.declared.mapping.Mapping.{Mapping}
use Rattle.mmap_rules.specs.Mappings.{part_mapping}
use Rattle.mmap_rules.specs.MapState.{Names, NameRegions}
use Rattle.mmap_rules.proofs.Names.{names_push}

-- the region of an id with one use more
abbrev pub used : Region → Region
used r = record r { uses = r.uses + 1 }

more_each : (rs : List Region) (id : ℕ) (r : Region) (m : Mapping) → slice_get rs id ≡ Some r → is_copy r.source ≡ true → Names rs m → Names (slice_set rs id (used r)) m
more_each rs id r m there copy named = elim (cases_eq m.first id) [
  | inl here ↦ (
      let same : r ≡ named.region = same_Some _ _ (sym there ∙ (ap (λ (k : ℕ). slice_get rs k) (sym here) ∙ named.there)) in
      record {
        region = used r;
        there = ap (λ (k : ℕ). slice_get (slice_set rs id (used r)) k) here ∙ get_set rs id (used r) (slice_get_within rs id r there);
        live = omega arith;
        run = named.run ∙ ap (λ (x : Region). x.pages) (sym same);
        source = named.source ∙ ap (λ (x : Region). x.source) (sym same);
        once = λ own. absurd (false≢true (sym (ap is_copy own) ∙ copy));
      })
  | inr other ↦ record {
    region = named.region;
    there = get_other rs id m.first (used r) other ∙ named.there;
    live = named.live;
    run = named.run;
    source = named.source;
    once = named.once;
  }
]

-- those of any space
pub names_stay_more : (rs : List Region) (maps : List Mapping) (id : ℕ) (r : Region) → slice_get rs id ≡ Some r → is_copy r.source ≡ true → NameRegions rs maps →
    NameRegions (slice_set rs id (used r)) maps
names_stay_more rs maps id r there copy names = record {
  each = λ j m item. more_each rs id r m there copy (names.each j m item);
  counts = λ k s is. elim (after_set rs id k (used r) s is) [
    | inl here ↦ (
        let old = names.counts id r there in
        let same : count_by (λ n. n.first == k) maps ≡ count_by (λ n. n.first == id) maps = ap (λ (i : ℕ). count_by (λ (n : Mapping). n.first == i) maps) here.0 in
        let uses : s.uses ≡ r.uses + 1 = ap (λ (x : Region). x.uses) here.1 in
        omega (arith, old, same, uses))
    | inr other ↦ names.counts k s other.1
  ];
}

-- and of the space that gets it
pub names_more : (rs : List Region) (maps : List Mapping) (r : Region) (skip count : ℕ) → slice_get rs r.first ≡ Some r → is_copy r.source ≡ true → NameRegions rs maps →
    NameRegions (slice_set rs r.first (used r)) (maps ++ part_mapping r.first r.pages r.source skip count ∷ [])
names_more rs maps r skip count there copy names =
    names_push (slice_set rs r.first (used r)) maps m (λ j n item. more_each rs r.first r n there copy (names.each j n item)) new counts
  where
    m : Mapping
    m = part_mapping r.first r.pages r.source skip count

    new : Names (slice_set rs r.first (used r)) m
    new = record {
      region = used r;
      there = get_set rs r.first (used r) (slice_get_within rs r.first r there);
      live = omega arith;
      run = refl;
      source = refl;
      once = λ own. absurd (false≢true (sym (ap is_copy own) ∙ copy));
    }

    counts : (id : ℕ) (s : Region) → slice_get (slice_set rs r.first (used r)) id ≡ Some s → count_by (λ n. n.first == id) maps + cond {A = ℕ} (m.first == id) 1 0 ≤ s.uses
    counts id s is = elim (after_set rs r.first id (used r) s is) [
      | inl here ↦ (
          let old = names.counts r.first r there in
          let same : count_by (λ n. n.first == id) maps ≡ count_by (λ n. n.first == r.first) maps = ap (λ (i : ℕ). count_by (λ (n : Mapping). n.first == i) maps) here.0 in
          let uses : s.uses ≡ r.uses + 1 = ap (λ (x : Region). x.uses) here.1 in
          let one : cond {A = ℕ} (r.first == id) 1 0 ≡ 1 = rw (eq-eqb r.first id (sym here.0)) refl in
          omega (arith, old, same, uses, one))
      | inr other ↦ (
          let old = names.counts id s other.1 in
          let none : cond {A = ℕ} (r.first == id) 1 0 ≡ 0 = rw (ne_eqb r.first id (λ e. other.0 (sym e))) refl in
          omega (arith, old, none))
    ]
