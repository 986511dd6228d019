-- A space of a sound world behind munmap.
use Rattle.std.proofs.Common.{◌≡◌, ◌≢◌, ℕ, zero, suc, ◌+◌, ◌-◌, ◌*◌, ◌/◌, ◌%◌, ◌^◌, ◌<◌, ◌≤◌, ◌⊎◌, inl, inr, Bool, true, false, not, ◌&&◌, ◌||◌, List, [], ◌∷◌, ◌++◌, append_assoc, take, drop, cond, Option, Some, None, refl, sym, ap, subst, ◌∙◌, arith}
use Rattle.std.specs.Prelude.{◌==◌, nat_le, slice_get, position}
use Rattle.std.proofs.lemmas.Bool.{and_parts, eqb-true, eq-eqb, false≢true}
use Rattle.std.proofs.lemmas.Bool.Decides.{nat_tests}
use Rattle.std.proofs.lemmas.Option.{none-some, same_Some}
use Rattle.nommu_regions.specs.declared.region.Source.TheVariants.{Own}
use Rattle.nommu_regions.specs.Regions.{is_copy}
use Rattle.mmap_rules.specs.declared.mapping.Mapping.{Mapping}
use Rattle.mmap_rules.specs.Space.{Space, page_size, in_range, has_page, own_in}
use Rattle.mmap_rules.specs.Held.{IsMapping, AreMappings}
use Rattle.mmap_rules.specs.Want.{pages_for}
use Rattle.mmap_rules.specs.Mappings.{is_range, can_lose, part_of, left_of, Hit, hit, hit_in, hit_at, or_hit, without_hit}
use Rattle.mmap_rules.proofs.Lists.{each_cut, any_found}
use Rattle.mmap_rules.proofs.Hits.{first_passes}
use Rattle.mmap_rules.proofs.Parts.{Cuts, both, run_of, each_left, left_mapped}
use Rattle.mmap_rules.proofs.Mapped.{mapped_cut}
use Rattle.region_watch.specs.Private.{only}
use Rattle.mem_files.specs.Inodes.{Inodes}
use Rattle.machine_world.specs.MapCalls.{over_maps}
use Rattle.alone_laws.specs.Sound.{HasBlock, Apart, AreApart, HoldsSource}
use Rattle.alone_laws.proofs.Apart.{ApartFrom, apart_append, apart_under}
use Rattle.alone_laws.proofs.Files.{holds_later, follows_itself}
use Rattle.alone_laws.proofs.Spaces.{IsFit, own_apart}

-- ---- what is hit

-- the item goes, or whole pages are cut out of it
abbrev pub Leaves : Mapping → (addr size : ℕ) → List Mapping → Type 0
Leaves m addr size left = ((is_range addr size m ≡ true) × (left ≡ [])) ⊎ ((can_lose addr size m ≡ true) × (left ≡ left_of m addr size))

pub record IsHit (maps : List Mapping) (addr size : ℕ) (h : Hit) : Type 0 where
  pub there : slice_get maps h.at ≡ Some h.mapping
  pub leaves : Leaves h.mapping addr size h.left

module _ (maps : List Mapping) (addr size : ℕ) where
  abbrev AtPlace : (Mapping → Bool) → (Mapping → List Mapping) → Hit → Type 0
  AtPlace test left h = (slice_get maps h.at ≡ Some h.mapping) × (test h.mapping ≡ true) × (h.left ≡ left h.mapping)

  abbrev the_hit : (Mapping → List Mapping) → ℕ → Option Mapping → Option Hit
  the_hit left k None = None
  the_hit left k (Some m) = Some (record { at = k; mapping = m; left = left m })

  hit_is : (left : Mapping → List Mapping) (k : ℕ) (o : Option Mapping) → slice_get maps k ≡ o → hit_at maps left (Some k) ≡ the_hit left k o
  hit_is left k None is = rw is refl
  hit_is left k (Some m) is = rw is refl

  by_item : (test : Mapping → Bool) (left : Mapping → List Mapping) (k : ℕ) (o : Option Mapping) (h : Hit) → position test maps ≡ Some k → slice_get maps k ≡ o → the_hit left k o ≡ Some h → AtPlace test left h
  by_item test left k None h first is found = absurd (none-some h found)
  by_item test left k (Some m) h first is found =
      subst (AtPlace test left) (same_Some (record { at = k; mapping = m; left = left m }) h found) (is, (first_passes test maps k first).passes m is, refl)

  at_place : (test : Mapping → Bool) (left : Mapping → List Mapping) (o : Option ℕ) → position test maps ≡ o → (h : Hit) → hit_at maps left o ≡ Some h → AtPlace test left h
  at_place test left None is h found = absurd (none-some h found)
  at_place test left (Some k) is h found = by_item test left k (slice_get maps k) h is refl (sym (hit_is left k (slice_get maps k) refl) ∙ found)

  abbrev by_range : Option Hit
  by_range = hit_at maps (λ m. []) (position (is_range addr size) maps)

  abbrev by_part : Option Hit
  by_part = hit_at maps (λ m. left_of m addr size) (position (can_lose addr size) maps)

  by_either : (o : Option Hit) (h : Hit) → by_range ≡ o → or_hit o by_part ≡ Some h → IsHit maps addr size h
  by_either None h none found =
      let place = at_place (can_lose addr size) (λ m. left_of m addr size) (position (can_lose addr size) maps) refl h found in
      record { there = place.0; leaves = inr (place.1, place.2) }
  by_either (Some x) h some found =
      let place = at_place (is_range addr size) (λ m. []) (position (is_range addr size) maps) refl h (some ∙ found) in
      record { there = place.0; leaves = inl (place.1, place.2) }

  pub is_hit_in : (h : Hit) → hit_in maps addr size ≡ Some h → IsHit maps addr size h
  is_hit_in h found = by_either by_range h refl found

pub record HitAt (maps : List Mapping) (addr len : ℕ) (h : Hit) : Type 0 where
  pub some : len ≢ 0
  pub begins : addr % 4096 ≡ 0
  pub is : IsHit maps addr (4096 * pages_for len) h

pub is_hit : (maps : List Mapping) (addr len : ℕ) (h : Hit) → hit maps addr len ≡ Some h → HitAt maps addr len h
unfolding hit
is_hit maps addr len h found = by (len == 0) (addr % page_size == 0) refl refl found
  where
    by : (none begins : Bool) → (len == 0) ≡ none → (addr % page_size == 0) ≡ begins
        → cond {A = Option Hit} (none || not begins) None (hit_in maps addr (4096 * pages_for len)) ≡ Some h → HitAt maps addr len h
    by true begins n b found = absurd (none-some h found)
    by false false n b found = absurd (none-some h found)
    by false true n b found = record { some = λ e. (let both = sym n ∙ eq-eqb len 0 e in cc); begins = eqb-true (addr % 4096) 0 b; is = is_hit_in maps addr (4096 * pages_for len) h found }

-- ---- what is left has no other pages

each_part : (P : Mapping → Type 0) (m : Mapping) (from to : ℕ) → P (run_of m from to) → (j : ℕ) (n : Mapping) → slice_get (part_of m from to) j ≡ Some n → P n
each_part P m from to holds = by (from == to)
  where
    by : (b : Bool) → (j : ℕ) (n : Mapping) → slice_get (cond {A = List Mapping} b [] (run_of m from to ∷ [])) j ≡ Some n → P n
    by true j n is = absurd (none-some n is)
    by false zero n is = subst P (same_Some (run_of m from to) n is) holds
    by false (suc j) n is = absurd (none-some n is)

part_apart : (m : Mapping) (from to : ℕ) → AreApart (part_of m from to)
part_apart m from to = by (from == to)
  where
    by : (b : Bool) → AreApart (cond {A = List Mapping} b [] (run_of m from to ∷ []))
    by true = tt
    by false = (λ j n is. absurd (none-some n is), tt)

module _ (pages : ℕ) (m : Mapping) (addr size : ℕ) (cuts : Cuts pages m addr size) where
  own : m.source ≡ Own
  own = (cuts.mapping.whole (both pages m addr size cuts).anonymous).0

  -- the parts have pages of the mapping alone
  part_pages : (j : ℕ) (n : Mapping) → slice_get (left_of m addr size) j ≡ Some n → (page : ℕ) → has_page page n ≡ true → has_page page m ≡ true
  part_pages =
      let b = both pages m addr size cuts in
      let whole = cuts.mapping.whole b.anonymous in
      let from = whole.1 in
      let all = whole.2 in
      let up = b.before.up in
      let high = b.behind.up in
      let above = b.before.above in
      each_left (λ n. (page : ℕ) → has_page page n ≡ true → has_page page m ≡ true) m addr size
      (λ some page has. grind (arith, nat_tests))
      (λ some page has. grind (arith, nat_tests))

  -- no mapping that is apart from the mapping has one of them
  under : (j : ℕ) (n : Mapping) → slice_get (left_of m addr size) j ≡ Some n → (k : Mapping) → Apart k m → Apart k n
  under j n there k apart page on_k on_n =
      let shared = apart page on_k (part_pages j n there page on_n) in
      absurd (false≢true (ap is_copy (sym own) ∙ ap is_copy (sym shared.source) ∙ shared.copy))

  -- and the two parts have none in common
  before_cut : (j : ℕ) (n : Mapping) → slice_get (part_of m m.range.from addr) j ≡ Some n → (page : ℕ) → has_page page n ≡ true → page < (addr - 2 ^ 31) / 4096
  before_cut =
      let b = both pages m addr size cuts in
      let begins = b.before.begins in
      let ends = b.before.ends in
      let up = b.before.up in
      let above = b.before.above in
      each_part (λ n. (page : ℕ) → has_page page n ≡ true → page < (addr - 2 ^ 31) / 4096) m m.range.from addr (λ page has. grind (arith, nat_tests))

  behind_cut : (j : ℕ) (n : Mapping) → slice_get (part_of m (addr + size) (m.range.from + m.range.size)) j ≡ Some n → (page : ℕ) → has_page page n ≡ true
      → (addr + size - 2 ^ 31) / 4096 ≤ page
  behind_cut =
      each_part (λ n. (page : ℕ) → has_page page n ≡ true → (addr + size - 2 ^ 31) / 4096 ≤ page) m (addr + size) (m.range.from + m.range.size)
      (λ page has. grind (arith, nat_tests))

  parts_apart : AreApart (left_of m addr size)
  parts_apart =
      apart_append (part_of m m.range.from addr) (part_of m (addr + size) (m.range.from + m.range.size)) (part_apart m m.range.from addr)
      (part_apart m (addr + size) (m.range.from + m.range.size))
      (λ i n is j o there page on_n on_o. (
      let low = before_cut i n is page on_n in
      let high = behind_cut j o there page on_o in
      absurd (omega arith)))

  -- they lie in memory, and are no copies
  part_inside : (j : ℕ) (n : Mapping) → slice_get (left_of m addr size) j ≡ Some n → n.first + n.pages ≤ pages
  part_inside j n there =
      let is = left_mapped pages m addr size cuts j n there in
      let whole = is.whole (anonymous j n there) in
      let from = whole.1 in
      let all = whole.2 in
      let inside = is.shaped.inside in
      omega arith
    where
      anonymous : (j : ℕ) (n : Mapping) → slice_get (left_of m addr size) j ≡ Some n → n.range.anonymous ≡ true
      anonymous =
          let b = both pages m addr size cuts in
          each_left (λ n. n.range.anonymous ≡ true) m addr size (λ some. b.anonymous) (λ some. b.anonymous)

  part_own : (j : ℕ) (n : Mapping) → slice_get (left_of m addr size) j ≡ Some n → n.source ≡ Own
  part_own = each_left (λ n. n.source ≡ Own) m addr size (λ some. own) (λ some. own)

-- ---- the list with a part in place of one item

cut_is : {X : Type 0} (xs : List X) (k : ℕ) (x : X) → slice_get xs k ≡ Some x → xs ≡ take k xs ++ (x ∷ drop (k + 1) xs)
cut_is {X} [] k x is = absurd (none-some x is)
cut_is {X} (y ∷ xs) zero x is = ap (λ z. z ∷ xs) (same_Some y x is)
cut_is {X} (y ∷ xs) (suc k) x is =
    let next : suc (k + 1) ≡ suc k + 1 = omega arith in
    ap (λ (zs : List X). y ∷ zs) (cut_is xs k x is) ∙ ap (λ (n : ℕ). y ∷ (take k xs ++ (x ∷ drop n (y ∷ xs)))) next

module _ (pages : ℕ) (front back : List Mapping) (nodes : Inodes) (s : Space) (addr len : ℕ) (h : Hit) (fit : IsFit pages front back nodes s) (found : HitAt s.maps addr len h) where
  cuts : can_lose addr (4096 * pages_for len) h.mapping ≡ true → Cuts pages h.mapping addr (4096 * pages_for len)
  cuts can = record {
    mapping = fit.is_space.mappings h.at h.mapping found.is.there;
    can = can;
    begins = found.begins;
    some = (let some = found.some in omega arith);
    whole = omega arith;
  }

  -- what holds of each part, if it does where there are some
  each_of_left : (P : Mapping → Type 0) → ((can : can_lose addr (4096 * pages_for len) h.mapping ≡ true) (j : ℕ) (n : Mapping) → slice_get (left_of h.mapping addr (4096 * pages_for len)) j ≡ Some n → P n)
      → (j : ℕ) (n : Mapping) → slice_get h.left j ≡ Some n → P n
  each_of_left P each j n there = elim found.is.leaves [
    | inl goes ↦ absurd (none-some n (ap (λ (ms : List Mapping). slice_get ms j) (sym goes.1) ∙ there))
    | inr cut ↦ each cut.0 j n (ap (λ (ms : List Mapping). slice_get ms j) (sym cut.1) ∙ there)
  ]

  left_apart : AreApart h.left
  left_apart = elim found.is.leaves [
    | inl goes ↦ subst AreApart (sym goes.1) tt
    | inr cut ↦ subst AreApart (sym cut.1) (parts_apart pages h.mapping addr (4096 * pages_for len) (cuts cut.0))
  ]

  abbrev now : List Mapping
  now = take h.at s.maps ++ h.left ++ drop (h.at + 1) s.maps

  left_under : (j : ℕ) (n : Mapping) → slice_get h.left j ≡ Some n → (k : Mapping) → Apart k h.mapping → Apart k n
  left_under = each_of_left (λ n. (k : Mapping) → Apart k h.mapping → Apart k n) (λ can j n there k apart. under pages h.mapping addr (4096 * pages_for len) (cuts can) j n there k apart)

  now_apart : AreApart now
  now_apart =
      subst AreApart (sym (append_assoc (take h.at s.maps) h.left (drop (h.at + 1) s.maps)))
      (apart_under (take h.at s.maps) (h.mapping ∷ []) h.left (drop (h.at + 1) s.maps)
      (subst AreApart (cut_is s.maps h.at h.mapping found.is.there) (own_apart pages front back s fit.apart)) left_apart
      (λ j n there k from. left_under j n there k (from 0 h.mapping refl)))

  all_apart : AreApart (front ++ (now ++ back))
  all_apart =
      apart_under front s.maps now back fit.apart now_apart
      (each_cut (λ n. (k : Mapping) → ApartFrom k s.maps → Apart k n) h.at s.maps h.left (λ j n there k from. from j n there)
      (λ j n there k from. left_under j n there k (from h.at h.mapping found.is.there)))

  now_mapped : AreMappings pages now
  now_mapped =
      mapped_cut pages s.maps h.left h.at fit.is_space.mappings
      (each_of_left (IsMapping pages) (λ can. left_mapped pages h.mapping addr (4096 * pages_for len) (cuts can)))

  now_inside : (j : ℕ) (n : Mapping) → slice_get now j ≡ Some n → n.first + n.pages ≤ pages
  now_inside =
      each_cut (λ n. n.first + n.pages ≤ pages) h.at s.maps h.left fit.is_space.inside
      (each_of_left (λ n. n.first + n.pages ≤ pages) (λ can. part_inside pages h.mapping addr (4096 * pages_for len) (cuts can)))

  -- the block isn't hit
  now_block : HasBlock now
  now_block = by h.at found.is.there
    where
      b : HasBlock s.maps
      b = fit.is_space.block

      others : (k : ℕ) → slice_get (b.block ∷ b.others) k ≡ Some h.mapping → HasBlock (take k (b.block ∷ b.others) ++ h.left ++ drop (k + 1) (b.block ∷ b.others))
      others zero there = absurd (elim found.is.leaves [
        | inl goes ↦
            b.begins (ap (λ (x : Mapping). x.range.from % 4096) (same_Some b.block h.mapping there)
            ∙ ap (λ (n : ℕ). n % 4096) (eqb-true h.mapping.range.from addr (and_parts (h.mapping.range.from == addr) (h.mapping.range.size == 4096 * pages_for len) goes.0).0)
            ∙ found.begins)
        | inr cut ↦ (
            let first = and_parts (h.mapping.range.anonymous && nat_le h.mapping.range.from addr) (nat_le (addr + 4096 * pages_for len) (h.mapping.range.from + h.mapping.range.size)) cut.0 in
            let anonymous = and_parts h.mapping.range.anonymous (nat_le h.mapping.range.from addr) first.0 in
            false≢true (sym b.uncut ∙ ap (λ (x : Mapping). x.range.anonymous) (same_Some b.block h.mapping there) ∙ anonymous.0))
      ])
      others (suc k) there = record {
        block = b.block;
        others = take k b.others ++ h.left ++ drop (k + 1) b.others;
        are = (let e : suc k + 1 ≡ suc (k + 1) = omega arith in rw e refl);
        begins = b.begins;
        uncut = b.uncut;
      }

      by : (k : ℕ) → slice_get s.maps k ≡ Some h.mapping → HasBlock (take k s.maps ++ h.left ++ drop (k + 1) s.maps)
      by k there =
          subst (λ (ms : List Mapping). HasBlock (take k ms ++ h.left ++ drop (k + 1) ms)) (sym b.are)
          (others k (ap (λ (ms : List Mapping). slice_get ms k) (sym b.are) ∙ there))

  now_held : (j : ℕ) (n : Mapping) → slice_get now j ≡ Some n → HoldsSource s nodes n n.source
  now_held =
      each_cut (λ n. HoldsSource s nodes n n.source) h.at s.maps h.left fit.holds
      (each_of_left (λ n. HoldsSource s nodes n n.source) (λ can j n there.
      subst (HoldsSource s nodes n) (sym (part_own pages h.mapping addr (4096 * pages_for len) (cuts can) j n there)) tt))

  still : (j : ℕ) (n : Mapping) → slice_get now j ≡ Some n → (a : ℕ) → in_range n.range a ≡ true → only (own_in now) s.bytes a ≡ s.bytes a
  unfolding only own_in
  still j n there a inside = rw (any_found (λ (x : Mapping). in_range x.range a) now j n there inside) refl

  pub fit_unmapped : IsFit pages front back nodes (over_maps s (without_hit s.maps h))
  unfolding without_hit
  fit_unmapped = record {
    is_space = record { block = now_block; mappings = now_mapped; inside = now_inside };
    apart = all_apart;
    holds = λ j n there.
        holds_later s (over_maps s now) nodes nodes n n.source (follows_itself nodes) (λ copy a inside. still j n there a inside) (now_held j n there);
  }
