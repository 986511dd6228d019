-- The mappings of all spaces in one list, after a munmap of one of them: each has its region still.
use Rattle.std.proofs.Common.{◌≡◌, ◌≢◌, ℕ, zero, suc, ◌+◌, ◌-◌, ◌*◌, ◌%◌, ◌<◌, inl, inr, ◌⊎◌, true, List, [], ◌∷◌, ◌++◌, length, take, drop, Option, Some, None, refl, sym, ap, ◌∙◌, arith, add-one, append_assoc, get_or}
use Rattle.std.specs.Prelude.{slice_get, position}
use Rattle.std.specs.List.{remove}
use Rattle.std.proofs.lemmas.Bool.{cases_eq}
use Rattle.std.proofs.lemmas.Option.{none-some, same_Some, slice_get_within, slice_get-get_or}
use Rattle.nommu_regions.specs.declared.region.Region.{Region}
use Rattle.nommu_regions.specs.Regions.{AreRegions, with_uses, with_cut}
use Rattle.mmap_rules.specs.declared.mapping.Mapping.{Mapping}
use Rattle.mmap_rules.specs.Held.{Held, AreMappings}
use Rattle.mmap_rules.specs.Want.{pages_for}
use Rattle.mmap_rules.specs.Mappings.{is_range, can_lose, page_at, left_of}
use Rattle.mmap_rules.specs.MapState.{Freed, unmapped, NameRegions}
use Rattle.mmap_rules.proofs.TableLess.{is_removed}
use Rattle.mmap_rules.proofs.Cuts.{cuts}
use Rattle.mmap_rules.proofs.Hits.{unmapped_len, unmapped_page, unmapped_nothing, unmapped_all, unmapped_cut, first_passes, some_pages}
use Rattle.mmap_rules.proofs.NamesLess.{names_less}
use Rattle.mmap_rules.proofs.NamesCut.{names_cut}

-- ---- what went

-- a mapping went
pub record Went (h : Held) (rs : List Region) (f : Freed) : Type 0 where
  pub at : ℕ
  pub mapping : Mapping
  pub there : slice_get h.maps at ≡ Some mapping
  pub maps : f.held.maps ≡ remove h.maps at
  pub regions : f.regions ≡ with_uses rs mapping.first (λ uses. uses - 1)

-- pages of an anonymous one went
pub record LostPages (h : Held) (rs : List Region) (addr count : ℕ) (f : Freed) : Type 0 where
  pub at : ℕ
  pub mapping : Mapping
  pub there : slice_get h.maps at ≡ Some mapping
  pub begins : addr % 4096 ≡ 0
  pub some : 0 < count
  pub can : can_lose addr (4096 * count) mapping ≡ true
  pub maps : f.held.maps ≡ take at h.maps ++ left_of mapping addr (4096 * count) ++ drop (at + 1) h.maps
  pub regions : f.regions ≡ with_cut rs mapping.first (page_at addr) count

-- the item at a place of the list
record Item (X : Type 0) (xs : List X) (k : ℕ) : Type 0 where
  item : X
  there : slice_get xs k ≡ Some item

item_at : {X : Type 0} (xs : List X) (k : ℕ) → k < length xs → Item X xs k
item_at [] k within = absurd (omega arith)
item_at (x ∷ xs) k within = record { item = get_or (x ∷ xs) k x; there = slice_get-get_or (x ∷ xs) k x within }

pub what_went : (h : Held) (rs : List Region) (addr len : ℕ) (f : Freed) → unmapped h rs addr len ≡ Some f → Went h rs f ⊎ LostPages h rs addr (pages_for len) f
what_went h rs addr len f is =
    elim (cases_eq len 0) [
      | inl none ↦ absurd (none-some f (sym (unmapped_len h rs addr len none) ∙ is))
      | inr some ↦ elim (cases_eq (addr % 4096) 0) [
        | inr other ↦ absurd (none-some f (sym (unmapped_page h rs addr len other) ∙ is))
        | inl begins ↦ by_range some begins (position (is_range addr (4096 * pages_for len)) h.maps) (position (can_lose addr (4096 * pages_for len)) h.maps) refl refl
      ]
    ]
  where
    by_range : len ≢ 0 → addr % 4096 ≡ 0 → (o p : Option ℕ) → position (is_range addr (4096 * pages_for len)) h.maps ≡ o → position (can_lose addr (4096 * pages_for len)) h.maps ≡ p
        → Went h rs f ⊎ LostPages h rs addr (pages_for len) f
    by_range some begins None None none neither = absurd (none-some f (sym (unmapped_nothing h rs addr len some begins none neither) ∙ is))
    by_range some begins (Some k) p first any =
        let i = item_at h.maps k (first_passes (is_range addr (4096 * pages_for len)) h.maps k first).within in
        let same = same_Some _ _ (sym is ∙ unmapped_all h rs addr len k i.item some begins first i.there) in
        inl (record { at = k; mapping = i.item; there = i.there; maps = ap (λ (x : Freed). x.held.maps) same; regions = ap (λ (x : Freed). x.regions) same })
    by_range some begins None (Some k) none first =
        let passes = first_passes (can_lose addr (4096 * pages_for len)) h.maps k first in
        let i = item_at h.maps k passes.within in
        let same = same_Some _ _ (sym is ∙ unmapped_cut h rs addr len k i.item some begins none first i.there) in
        inr (record {
          at = k;
          mapping = i.item;
          there = i.there;
          begins = begins;
          some = some_pages len (pages_for len) refl some;
          can = passes.passes i.item i.there;
          maps = ap (λ (x : Freed). x.held.maps) same;
          regions = ap (λ (x : Freed). x.regions) same;
        })

-- ---- a list within a list

-- the place in the whole list
place_in : {X : Type 0} → List X → ℕ → ℕ
place_in [] k = k
place_in (x ∷ front) k = suc (place_in front k)

get_in : {X : Type 0} (front xs back : List X) (k : ℕ) (x : X) → slice_get xs k ≡ Some x → slice_get (front ++ xs ++ back) (place_in front k) ≡ Some x
unfolding place_in
get_in [] [] back k x is = absurd (none-some x is)
get_in [] (y ∷ xs) back zero x is = is
get_in [] (y ∷ xs) back (suc k) x is = get_in [] xs back k x is
get_in (y ∷ front) xs back k x is = get_in front xs back k x is

cut_in : {X : Type 0} (front xs back part : List X) (k : ℕ) → k < length xs
    → take (place_in front k) (front ++ xs ++ back) ++ part ++ drop (suc (place_in front k)) (front ++ xs ++ back) ≡ front ++ (take k xs ++ part ++ drop (suc k) xs) ++ back
unfolding place_in
cut_in [] [] back part k within = absurd (omega arith)
cut_in [] (y ∷ xs) back part zero within = sym (append_assoc part xs back)
cut_in {X} [] (y ∷ xs) back part (suc k) within = ap (λ (l : List X). y ∷ l) (cut_in [] xs back part k (omega arith))
cut_in {X} (y ∷ front) xs back part k within = ap (λ (l : List X). y ∷ l) (cut_in front xs back part k within)

-- each mapping of the whole list has its region still
pub names_all : (front back : List Mapping) (pages : ℕ) (h : Held) (rs : List Region) (addr len : ℕ) (f : Freed) → AreRegions rs → AreMappings pages h.maps
    → NameRegions rs (front ++ h.maps ++ back) → unmapped h rs addr len ≡ Some f → NameRegions f.regions (front ++ f.held.maps ++ back)
names_all front back pages h rs addr len f are mappings names is =
    let all = front ++ h.maps ++ back in
    elim (what_went h rs addr len f is) [
      | inl w ↦ (
          let k = place_in front w.at in
          let there = get_in front h.maps back w.at w.mapping w.there in
          let less = names_less rs all k w.mapping names there in
          let list : remove all k ≡ front ++ remove h.maps w.at ++ back =
          sym (is_removed all k) ∙ (ap (λ i. take k all ++ [] ++ drop i all) (add-one k) ∙ (cut_in front h.maps back [] w.at (slice_get_within h.maps w.at w.mapping w.there)
          ∙ ap (λ (l : List Mapping). front ++ l ++ back) (ap (λ i. take w.at h.maps ++ [] ++ drop i h.maps) (sym (add-one w.at)) ∙ is_removed h.maps w.at))) in
          rw (w.maps, w.regions, ← list) less)
      | inr w ↦ (
          let k = place_in front w.at in
          let n = pages_for len in
          let left = left_of w.mapping addr (4096 * n) in
          let there = get_in front h.maps back w.at w.mapping w.there in
          let cut = cuts pages h.maps w.at w.mapping addr n mappings w.there w.begins w.some w.can in
          let less = names_cut rs all pages k w.mapping addr n are names there cut in
          let list : take k all ++ left ++ drop (k + 1) all ≡ front ++ (take w.at h.maps ++ left ++ drop (w.at + 1) h.maps) ++ back =
          ap (λ i. take k all ++ left ++ drop i all) (add-one k) ∙ (cut_in front h.maps back left w.at (slice_get_within h.maps w.at w.mapping w.there)
          ∙ ap (λ i. front ++ (take w.at h.maps ++ left ++ drop i h.maps) ++ back) (sym (add-one w.at))) in
          rw (w.maps, w.regions, ← list) less)
    ]
