-- What munmap hits, and what it leaves.
use Rattle.std.proofs.Common.{◌≡◌, ◌≢◌, ℕ, ◌+◌, ◌-◌, ◌*◌, ◌/◌, ◌%◌, ◌<◌, inl, inr, Bool, true, false, not, ◌||◌, List, [], ◌∷◌, ◌++◌, length, take, drop, Option, Some, None, refl, sym, ap, subst, ◌∙◌, arith, length-append, cond, eqb}
use Rattle.std.specs.Prelude.{slice_get, position, Ok, Err}
use Rattle.std.specs.List.{remove, position_or_len}
use Rattle.std.proofs.lemmas.Bool.{cases_eq, cases_lt, lt-ltb, eq-eqb, ne_eqb, false≢true}
use Rattle.std.proofs.lemmas.Option.{none-some, slice_get_within, get_or_from_slice_get}
use Rattle.std.proofs.lemmas.List.Sums.{fails_before_first}
use Rattle.std.proofs.lemmas.List.Quantifiers.{position-Some}
use Rattle.nommu_regions.specs.declared.region.Region.{Region}
use Rattle.nommu_regions.specs.Regions.{with_uses, with_cut}
use Rattle.nommu_regions.specs.Ids.{Numbered, start_of}
use Rattle.mmap_rules.specs.declared.mapping.Mapping.{Mapping}
use Rattle.mmap_rules.specs.Held.{Held}
use Rattle.mmap_rules.specs.Want.{pages_for}
use Rattle.mmap_rules.specs.Mappings.{is_range, can_lose, page_at, part_of, left_of, Hit, hit, hit_in, without_hit}
use Rattle.call_log.specs.declared.errno.Errno.TheVariants.{Einval}
use Rattle.mmap_rules.specs.MapState.{freed, given_back, after_hit, unmapped, Unmaps}
use Rattle.mmap_rules.proofs.TableLess.{is_removed}

-- ---- the first item that passes a test

-- the item there passes
pub record First (X : Type 0) (p : X → Bool) (xs : List X) (k : ℕ) : Type 0 where
  pub within : k < length xs
  pub passes : (x : X) → slice_get xs k ≡ Some x → p x ≡ true

pub first_passes : {X : Type 0} (p : X → Bool) (xs : List X) (k : ℕ) → position p xs ≡ Some k → First X p xs k
first_passes {X} p [] k is = absurd (none-some k is)
first_passes {X} p (y ∷ ys) k is =
    let found = position-Some p (y ∷ ys) k y is in
    record {
      within = found.0;
      passes = λ x there. ap p (sym (get_or_from_slice_get (y ∷ ys) k x y there)) ∙ found.1;
    }

pub none_passes : {X : Type 0} (p : X → Bool) (xs : List X) (k : ℕ) (x : X) → position p xs ≡ None → slice_get xs k ≡ Some x → p x ≡ false
none_passes {X} p xs k x none there =
    let within = slice_get_within xs k x there in
    elim (cases_lt (position_or_len p xs) (length xs)) [
      | inl some ↦ absurd (none-some (position_or_len p xs) (sym none ∙ rw (lt-ltb (position_or_len p xs) (length xs) some) refl))
      | inr past ↦ ap p (sym (get_or_from_slice_get xs k x x there)) ∙ fails_before_first p xs k x (omega (arith, within, past))
    ]

-- ---- what is hit

hit_len : (maps : List Mapping) (addr : ℕ) → hit maps addr 0 ≡ None
unfolding hit
hit_len maps addr = refl

hit_page : (maps : List Mapping) (addr len : ℕ) → addr % 4096 ≢ 0 → hit maps addr len ≡ None
unfolding hit
hit_page maps addr len other = rw (ne_eqb (addr % 4096) 0 other) (either (eqb len 0))
  where
    either : (b : Bool) → cond {A = Option Hit} (b || not false) None (hit_in maps addr (4096 * pages_for len)) ≡ None
    either true = refl
    either false = refl

hit_pages : (maps : List Mapping) (addr len : ℕ) → len ≢ 0 → addr % 4096 ≡ 0 → hit maps addr len ≡ hit_in maps addr (4096 * pages_for len)
unfolding hit
hit_pages maps addr len some begins = rw (ne_eqb len 0 some, eq-eqb (addr % 4096) 0 begins) refl

hit_all : (maps : List Mapping) (addr size k : ℕ) (m : Mapping) → position (is_range addr size) maps ≡ Some k → slice_get maps k ≡ Some m
    → hit_in maps addr size ≡ Some (record { at = k; mapping = m; left = [] })
hit_all maps addr size k m first there = rw (first, there) refl

hit_cut : (maps : List Mapping) (addr size k : ℕ) (m : Mapping) → position (is_range addr size) maps ≡ None → position (can_lose addr size) maps ≡ Some k → slice_get maps k ≡ Some m
    → hit_in maps addr size ≡ Some (record { at = k; mapping = m; left = left_of m addr size })
hit_cut maps addr size k m none first there = rw (none, first, there) refl

hit_nothing : (maps : List Mapping) (addr size : ℕ) → position (is_range addr size) maps ≡ None → position (can_lose addr size) maps ≡ None → hit_in maps addr size ≡ None
hit_nothing maps addr size none neither = rw (none, neither) refl

pub some_pages : (len n : ℕ) → n ≡ pages_for len → len ≢ 0 → 0 < n
some_pages len n is some = omega (arith, is, some)

-- ---- what is left

pub unmapped_len : (h : Held) (rs : List Region) (addr len : ℕ) → len ≡ 0 → unmapped h rs addr len ≡ None
unfolding unmapped
unmapped_len h rs addr len none = rw (none, hit_len h.maps addr) refl

pub unmapped_page : (h : Held) (rs : List Region) (addr len : ℕ) → addr % 4096 ≢ 0 → unmapped h rs addr len ≡ None
unfolding unmapped
unmapped_page h rs addr len other = rw (hit_page h.maps addr len other) refl

pub unmapped_nothing : (h : Held) (rs : List Region) (addr len : ℕ) → len ≢ 0 → addr % 4096 ≡ 0
    → position (is_range addr (4096 * pages_for len)) h.maps ≡ None → position (can_lose addr (4096 * pages_for len)) h.maps ≡ None → unmapped h rs addr len ≡ None
unfolding unmapped
unmapped_nothing h rs addr len some begins none neither = rw (hit_pages h.maps addr len some begins, hit_nothing h.maps addr (4096 * pages_for len) none neither) refl

pub unmapped_all : (h : Held) (rs : List Region) (addr len k : ℕ) (m : Mapping) → len ≢ 0 → addr % 4096 ≡ 0
    → position (is_range addr (4096 * pages_for len)) h.maps ≡ Some k → slice_get h.maps k ≡ Some m
    → unmapped h rs addr len ≡ Some (freed (record h { maps = remove h.maps k }) (with_uses rs m.first (λ uses. uses - 1)))
unfolding unmapped without_hit
unmapped_all h rs addr len k m some begins first there =
    rw (hit_pages h.maps addr len some begins, hit_all h.maps addr (4096 * pages_for len) k m first there)
    (ap (λ (maps : List Mapping). Some (freed (record h { maps = maps }) (with_uses rs m.first (λ uses. uses - 1)))) (is_removed h.maps k))

pub is_range-same : (m : Mapping) (addr size : ℕ) → m.range.from ≡ addr → m.range.size ≡ size → is_range addr size m ≡ true
is_range-same m addr size from is = rw (eq-eqb m.range.from addr from, eq-eqb m.range.size size is) refl

-- a cut leaves a part, where the mapping hasn't just the range
pub left_some : (m : Mapping) (addr size : ℕ) → is_range addr size m ≡ false → can_lose addr size m ≡ true → 0 < length (left_of m addr size)
left_some m addr size other can =
    let parts = length-append (part_of m m.range.from addr) (part_of m (addr + size) (m.range.from + m.range.size)) in
    elim (cases_eq m.range.from addr) [
      | inr low ↦ (let one : length (part_of m m.range.from addr) ≡ 1 = rw (ne_eqb m.range.from addr low) refl in omega (arith, parts, one))
      | inl same ↦ (let differs : addr + size ≢ m.range.from + m.range.size = λ e. absurd (false≢true (sym other ∙ is_range-same m addr size same (omega (arith, e, same)))) in
          let one : length (part_of m (addr + size) (m.range.from + m.range.size)) ≡ 1 = rw (ne_eqb (addr + size) (m.range.from + m.range.size) differs) refl in omega (arith, parts, one))
    ]

given_cut : (rs : List Region) (k : ℕ) (m : Mapping) (left : List Mapping) (addr size : ℕ) → 0 < length left
    → given_back rs (record { at = k; mapping = m; left = left }) addr size ≡ with_cut rs m.first (page_at addr) (size / 4096)
given_cut rs k m [] addr size some = absurd (omega arith)
given_cut rs k m (n ∷ left) addr size some = refl

pub unmapped_cut : (h : Held) (rs : List Region) (addr len k : ℕ) (m : Mapping) → len ≢ 0 → addr % 4096 ≡ 0
    → position (is_range addr (4096 * pages_for len)) h.maps ≡ None → position (can_lose addr (4096 * pages_for len)) h.maps ≡ Some k → slice_get h.maps k ≡ Some m
    → unmapped h rs addr len ≡ Some (freed (record h { maps = take k h.maps ++ left_of m addr (4096 * pages_for len) ++ drop (k + 1) h.maps }) (with_cut rs m.first (page_at addr) (pages_for len)))
unfolding unmapped without_hit
unmapped_cut h rs addr len k m some begins none first there =
    let size = 4096 * pages_for len in
    let part = left_some m addr size (none_passes (is_range addr size) h.maps k m none there) ((first_passes (can_lose addr size) h.maps k first).passes m there) in
    let count : size / 4096 ≡ pages_for len = omega arith in
    rw (hit_pages h.maps addr len some begins, hit_cut h.maps addr size k m none first there)
    (ap (λ (l : List Region). Some (freed (record h { maps = take k h.maps ++ left_of m addr size ++ drop (k + 1) h.maps }) l))
    (given_cut rs k m (left_of m addr size) addr size part ∙ ap (with_cut rs m.first (page_at addr)) count))

-- ---- what `unmap` answers, of a space that is known by its view

pub refuses : (h : Held) (rs : List Region) (addr len : ℕ) → unmapped h rs addr len ≡ None → Unmaps (unmapped h rs addr len) (freed h rs) (freed h rs) (Err Einval)
refuses h rs addr len none = rw none (refl, refl)

pub nothing_hit : (h v : Held) (rs : List Region) (addr len n : ℕ) → v ≡ h → n ≡ pages_for len → len ≢ 0 → addr % 4096 ≡ 0
    → position (is_range addr (4096 * n)) v.maps ≡ None → position (can_lose addr (4096 * n)) v.maps ≡ None → unmapped h rs addr len ≡ None
nothing_hit h v rs addr len n view count some begins none neither =
    subst (λ (x : Held). unmapped x rs addr len ≡ None) view (unmapped_nothing v rs addr len some begins (rw count at none) (rw count at neither))

pub all_unmaps : (h v : Held) (rs new : List Region) (addr len n k : ℕ) (m : Mapping) (maps : List Mapping) (pages : ℕ) → v ≡ h → n ≡ pages_for len → len ≢ 0 → addr % 4096 ≡ 0
    → position (is_range addr (4096 * n)) v.maps ≡ Some k → slice_get v.maps k ≡ Some m → maps ≡ remove v.maps k → pages ≡ v.pages → new ≡ with_uses rs m.first (λ uses. uses - 1)
    → Unmaps (unmapped h rs addr len) (freed h rs) (freed (record { maps = maps; brk = v.brk; brk_low = v.brk_low; brk_high = v.brk_high; pages = pages }) new) (Ok (tt {0}))
all_unmaps h v rs new addr len n k m maps pages view count some begins first there is_maps is_pages is_new =
    let is = subst (λ (x : Held). unmapped x rs addr len ≡ Some (freed (record x { maps = remove x.maps k }) (with_uses rs m.first (λ uses. uses - 1)))) view
    (unmapped_all v rs addr len k m some begins (rw count at first) there) in
    rw (is, is_maps, is_pages, is_new, ← view) refl

pub cut_unmaps : (h v : Held) (rs new : List Region) (addr len n k : ℕ) (m : Mapping) (maps : List Mapping) (pages : ℕ) → v ≡ h → n ≡ pages_for len → len ≢ 0 → addr % 4096 ≡ 0
    → position (is_range addr (4096 * n)) v.maps ≡ None → position (can_lose addr (4096 * n)) v.maps ≡ Some k → slice_get v.maps k ≡ Some m
    → maps ≡ take k v.maps ++ left_of m addr (4096 * n) ++ drop (k + 1) v.maps → pages ≡ v.pages → new ≡ with_cut rs m.first (page_at addr) n
    → Unmaps (unmapped h rs addr len) (freed h rs) (freed (record { maps = maps; brk = v.brk; brk_low = v.brk_low; brk_high = v.brk_high; pages = pages }) new) (Ok (tt {0}))
cut_unmaps h v rs new addr len n k m maps pages view count some begins none first there is_maps is_pages is_new =
    let is = subst (λ (x : Held). unmapped x rs addr len ≡ Some (freed (record x { maps = take k x.maps ++ left_of m addr (4096 * pages_for len) ++ drop (k + 1) x.maps }) (with_cut rs m.first (page_at addr) (pages_for len)))) view
    (unmapped_cut v rs addr len k m some begins (rw count at none) (rw count at first) there) in
    rw (is, is_maps, is_pages, is_new, count, ← view) refl

-- ---- what is hit, of a space that is known by its view

pub none_hit : (h : Held) (rs : List Region) (addr len : ℕ) → unmapped h rs addr len ≡ None → hit h.maps addr len ≡ None
unfolding unmapped
none_hit h rs addr len none = at (hit h.maps addr len) none
  where
    at : (o : Option Hit) → after_hit h rs addr (4096 * pages_for len) o ≡ None → o ≡ None
    at None is = refl
    at (Some x) is = absurd (none-some _ (sym is))

pub all_hit : (h v : Held) (addr len n k : ℕ) (m : Mapping) → v ≡ h → n ≡ pages_for len → len ≢ 0 → addr % 4096 ≡ 0
    → position (is_range addr (4096 * n)) v.maps ≡ Some k → slice_get v.maps k ≡ Some m
    → hit h.maps addr len ≡ Some (record { at = k; mapping = m; left = [] })
all_hit h v addr len n k m view count some begins first there =
    subst (λ (x : Held). hit x.maps addr len ≡ Some (record { at = k; mapping = m; left = [] })) view
    (hit_pages v.maps addr len some begins ∙ hit_all v.maps addr (4096 * pages_for len) k m (rw count at first) there)

-- the mapping at this place is hit, and a part of it is left
pub record HitCut (maps : List Mapping) (addr len k : ℕ) (m : Mapping) : Type 0 where
  pub left : List Mapping
  pub some : left ≢ []
  pub hits : hit maps addr len ≡ Some (record { at = k; mapping = m; left = left })

pub cut_hit : (h v : Held) (addr len n k : ℕ) (m : Mapping) → v ≡ h → n ≡ pages_for len → len ≢ 0 → addr % 4096 ≡ 0
    → position (is_range addr (4096 * n)) v.maps ≡ None → position (can_lose addr (4096 * n)) v.maps ≡ Some k → slice_get v.maps k ≡ Some m
    → HitCut h.maps addr len k m
cut_hit h v addr len n k m view count some begins none first there =
    let size = 4096 * n in
    let part = left_some m addr size (none_passes (is_range addr size) v.maps k m none there) ((first_passes (can_lose addr size) v.maps k first).passes m there) in
    record {
      left = left_of m addr size;
      some = λ nothing. absurd (let none = ap (λ (l : List Mapping). length l) nothing in omega (arith, part, none));
      hits = subst (λ (x : Held). hit x.maps addr len ≡ Some (record { at = k; mapping = m; left = left_of m addr size })) view
          (rw (← count) at (hit_pages v.maps addr len some begins) ∙ hit_cut v.maps addr size k m none first there);
    }

-- ---- a region that is named by its first page

pub dropped : (old new : Numbered) (id first : ℕ) → start_of old id ≡ first → new ≡ record old { regions = with_uses old.regions (start_of old id) (λ uses. uses - 1) }
    → new.regions ≡ with_uses old.regions first (λ uses. uses - 1)
dropped old new id first at is = ap (λ (s : Numbered). s.regions) is ∙ ap (λ (k : ℕ). with_uses old.regions k (λ uses. uses - 1)) at

pub cut_at : (old : Numbered) (new : List Region) (id first from count : ℕ) → start_of old id ≡ first → new ≡ with_cut old.regions (start_of old id) from count
    → new ≡ with_cut old.regions first from count
cut_at old new id first from count at is = is ∙ ap (λ (k : ℕ). with_cut old.regions k from count) at
