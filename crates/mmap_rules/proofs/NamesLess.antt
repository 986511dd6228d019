-- Each mapping of a space has its region: what `drop_use` and `cut` ask, and what is left where a mapping goes.
use Rattle.std.proofs.Common.{◌≡◌, ◌≢◌, ℕ, ◌+◌, ◌-◌, ◌*◌, ◌/◌, ◌^◌, ◌<◌, ◌≤◌, inl, inr, Bool, false, cond, List, [], ◌++◌, take, drop, Some, refl, sym, ap, subst, ◌∙◌, arith}
use Rattle.std.specs.Prelude.{slice_get, slice_set, count_by, ◌==◌}
use Rattle.std.specs.List.{remove}
use Rattle.std.proofs.lemmas.Bool.{false≢true, cases_eq, eq-eqb}
use Rattle.std.proofs.lemmas.Option.{none-some, same_Some, slice_get_within}
use Rattle.nommu_regions.specs.declared.region.Region.{Region}
use Rattle.nommu_regions.specs.declared.region.Source.TheVariants.{Own}
use Rattle.nommu_regions.specs.Regions.{AreRegions, IsLive, CanCut, with_uses}
use Rattle.nommu_regions.proofs.Held.{after_set}
use Rattle.nommu_regions.proofs.OneChanges.{get_set, get_other}
use Rattle.mmap_rules.specs.declared.mapping.Mapping.{Mapping}
use Rattle.mmap_rules.specs.Mappings.{is_range}
use Rattle.mmap_rules.specs.MapState.{Names, NameRegions}
use Rattle.mmap_rules.proofs.Lists.{each_cut, counted_found, sum_cut}
use Rattle.mmap_rules.proofs.TableLess.{is_removed}
use Rattle.mmap_rules.proofs.Parts.{Cuts, both}
use Rattle.mmap_rules.proofs.Hits.{is_range-same}

pub lives : (rs : List Region) (maps : List Mapping) (k : ℕ) (m : Mapping) → NameRegions rs maps → slice_get maps k ≡ Some m → IsLive rs m.first
lives rs maps k m names there =
    let n = names.each k m there in
    record { region = n.region; there = n.there; live = n.live }

pub can_cut : (rs : List Region) (maps : List Mapping) (pages k : ℕ) (m : Mapping) (addr n : ℕ) → AreRegions rs → NameRegions rs maps → slice_get maps k ≡ Some m
    → Cuts pages m addr (4096 * n) → is_range addr (4096 * n) m ≡ false → CanCut rs m.first ((addr - 2 ^ 31) / 4096) n
can_cut rs maps pages k m addr n are names there cuts other =
    let named = names.each k m there in
    let b = both pages m addr (4096 * n) cuts in
    let whole = cuts.mapping.whole b.anonymous in
    let own : named.region.source ≡ Own = sym named.source ∙ whole.0 in
    let begins : named.region.first ≡ m.first = are.begins m.first named.region named.there named.live in
    let from = whole.1 in
    let size = whole.2 in
    let low = b.before.up in
    let high = b.behind.up in
    let run = named.run in
    let some = cuts.some in
    record {
      region = named.region;
      there = named.there;
      own = own;
      one = named.once own;
      inside = (omega (arith, begins, from, low), omega (arith, begins, from, low, high, size, run));
      some = omega (arith, some);
      less = fewer n named.region.pages (omega (arith, low, high, size, run, from)) (λ e. absurd (false≢true (sym other ∙ is_range-same m addr (4096 * n) (omega (arith, from, size, low, high, run, e)) (omega (arith, size, run, e)))));
    }
  where
    fewer : (a b : ℕ) → a ≤ b → a ≢ b → a < b
    fewer a b most differs = omega (arith, most, differs)

-- ---- a mapping that goes

-- the mappings without one
abbrev pub others : ℕ → List Mapping → List Mapping
others k xs = take k xs ++ [] ++ drop (k + 1) xs

-- how many name a region
abbrev pub named_by : ℕ → List Mapping → ℕ
named_by id xs = count_by (λ m. m.first == id) xs

pub names_others : (rs : List Region) (xs : List Mapping) (k j : ℕ) (n : Mapping) → NameRegions rs xs → slice_get (others k xs) j ≡ Some n → Names rs n
names_others rs xs k j n names item = each_cut (Names rs) k xs [] names.each (λ i x got. absurd (none-some x got)) j n item

-- those that name the region of the one that went
pub count_others : (xs : List Mapping) (k id : ℕ) (m : Mapping) → slice_get xs k ≡ Some m → named_by id (others k xs) + cond {A = ℕ} (m.first == id) 1 0 ≡ named_by id xs
count_others xs k id m there = let cut = sum_cut (λ (n : Mapping). cond {A = ℕ} (n.first == id) 1 0) k xs [] m there in omega (arith, cut)

names_gone : (rs : List Region) (xs : List Mapping) (k : ℕ) (m : Mapping) (r : Region) → NameRegions rs xs → slice_get xs k ≡ Some m → slice_get rs m.first ≡ Some r
    → NameRegions (slice_set rs m.first (record r { uses = r.uses - 1 })) (others k xs)
names_gone rs xs k m r names there at_id = record { each = each; counts = counts }
  where
    v : Region
    v = record r { uses = r.uses - 1 }

    own_count : named_by m.first (others k xs) + 1 ≤ r.uses
    own_count =
        let all = count_others xs k m.first m there in
        let one : cond {A = ℕ} (m.first == m.first) 1 0 ≡ 1 = ap (λ (b : Bool). cond {A = ℕ} b 1 0) (eq-eqb m.first m.first refl) in
        let least = names.counts m.first r at_id in
        omega (arith, all, one, least)

    each : (j : ℕ) (n : Mapping) → slice_get (others k xs) j ≡ Some n → Names (slice_set rs m.first v) n
    each j n item =
        let old = names_others rs xs k j n names item in
        elim (cases_eq n.first m.first) [
          | inl same ↦ (
              let some : 0 < named_by m.first (others k xs) = counted_found (λ (x : Mapping). x.first == m.first) (others k xs) j n item (eq-eqb n.first m.first same) in
              let two : 2 ≤ r.uses = omega (arith, some, own_count) in
              let is : old.region ≡ r = same_Some _ _ (sym old.there ∙ (ap (slice_get rs) same ∙ at_id)) in
              let Own_one : Region → Type 0 = λ x. x.source ≡ Own → x.uses ≡ 1 in
              let once = subst Own_one is old.once in
              record {
                region = v;
                there = ap (slice_get (slice_set rs m.first v)) same ∙ get_set rs m.first v (slice_get_within rs m.first r at_id);
                live = omega (arith, two);
                run = old.run ∙ ap (λ (x : Region). x.pages) is;
                source = old.source ∙ ap (λ (x : Region). x.source) is;
                once = λ own. (let one = once own in absurd (omega (arith, one, two)));
              })
          | inr other ↦ record {
            region = old.region;
            there = get_other rs m.first n.first v other ∙ old.there;
            live = old.live;
            run = old.run;
            source = old.source;
            once = old.once;
          }
        ]

    counts : (id : ℕ) (s : Region) → slice_get (slice_set rs m.first v) id ≡ Some s → named_by id (others k xs) ≤ s.uses
    counts id s is = elim (after_set rs m.first id v s is) [
      | inl here ↦ (
          let same : named_by id (others k xs) ≡ named_by m.first (others k xs) = ap (λ i. named_by i (others k xs)) here.0 in
          let uses : s.uses ≡ r.uses - 1 = ap (λ (x : Region). x.uses) here.1 in
          omega (arith, same, uses, own_count))
      | inr other ↦ (
          let all = count_others xs k id m there in
          let least = names.counts id s other.1 in
          omega (arith, all, least))
    ]

-- each other mapping of the list has its region still
pub names_less : (rs : List Region) (xs : List Mapping) (k : ℕ) (m : Mapping) → NameRegions rs xs → slice_get xs k ≡ Some m
    → NameRegions (with_uses rs m.first (λ uses. uses - 1)) (remove xs k)
names_less rs xs k m names there =
    let named = names.each k m there in
    let at_id = named.there in
    rw at_id (subst (NameRegions (slice_set rs m.first (record named.region { uses = named.region.uses - 1 }))) (is_removed xs k) (names_gone rs xs k m named.region names there at_id))
