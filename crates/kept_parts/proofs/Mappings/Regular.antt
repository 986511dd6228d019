-- The parts stay regular where `map` maps a fresh run, or pages of a copy.
use Rattle.std.proofs.Common.{◌≡◌, ℕ, zero, suc, ◌+◌, ◌*◌, ◌<◌, ◌≤◌, inl, inr, Bool, true, cond, List, [], ◌∷◌, ◌++◌, length, get_or, arith, refl, sym, ap, ◌∙◌, subst, length-set}
use Rattle.std.specs.Prelude.{Option, Some, None, slice_get, slice_set, ◌==◌}
use Rattle.std.proofs.lemmas.Bool.{cases_lt, false≢true, eq-eqb, ne_eqb}
use Rattle.std.proofs.lemmas.Bool.Decides.{nat_tests}
use Rattle.std.proofs.lemmas.Option.{same_Some, none-some, slice_get_within, slice_get-get_or}
use Rattle.std.proofs.lemmas.List.Sums.{sum_by_push}
use Rattle.byte_words.proofs.Laid.{length-laid}
use Rattle.page_runs.specs.declared.place.Kind.{Kind}
use Rattle.nommu_regions.specs.declared.region.Region.{Region}
use Rattle.nommu_regions.specs.declared.region.Source.{Source}
use Rattle.nommu_regions.specs.declared.region.Source.TheVariants.{Own}
use Rattle.nommu_regions.specs.Regions.{holds, AreRegions, AreFree, is_copy}
use Rattle.nommu_regions.proofs.Held.{regions_fresh, regions_part, was_gone}
use Rattle.mmap_rules.specs.declared.mapping.Mapping.{Mapping}
use Rattle.mmap_rules.specs.declared.want.Want.{Want}
use Rattle.mmap_rules.specs.Held.{Held, page_address}
use Rattle.mmap_rules.specs.Want.{AsksPages}
use Rattle.mmap_rules.specs.Mappings.{run_mapping, part_mapping}
use Rattle.mmap_rules.specs.MapState.{map_state, Mapped, mapped, file_in}
use Rattle.mmap_rules.proofs.Change.{change}
use Rattle.mmap_rules.proofs.NamesMore.{used}
use Rattle.mem_files.specs.Inodes.{bytes_of}
use Rattle.kept_parts.specs.Kept.{Kept}
use Rattle.kept_parts.specs.Copies.{CopiesHold}
use Rattle.mmap_rules.specs.Copies.{IsKnown}
use Rattle.kept_parts.specs.Regular.{Names, HasSpace, Regular, named_in, uses_in}
use Rattle.call_bytes.proofs.Places.{decide, get_set, get_other, after_set, pushed_cases}
use Rattle.kept_parts.proofs.Common.UseCounts.{eqb_is}
use Rattle.kept_parts.proofs.Common.SpacesApart.{is_used}

-- ---- a mapping more

-- the region that a mapping more names, with one use more than mappings named it before
record Fits (k : Kept) (v : Region) (n : Mapping) : Type 0 where
  first : n.first ≡ v.first
  run : n.pages ≡ v.pages
  source : n.source ≡ v.source
  from : page_address n.first ≤ n.range.from
  to : n.range.from + n.range.size ≤ page_address (n.first + n.pages)
  own : n.range.writes ≡ true → v.source ≡ Own
  inside : v.first < length k.regions
  uses : v.uses ≡ uses_in v.first k.spaces + 1
  one : v.source ≡ Own → v.uses ≤ 1
  regions : AreRegions (slice_set k.regions v.first v)
  before : (r : Region) → slice_get k.regions v.first ≡ Some r → 0 < r.uses → (r.pages ≡ v.pages) × (r.source ≡ v.source)

-- how many mappings of a space name a region, with one more at the end
named_more : (id : ℕ) (maps now : List Mapping) (n : Mapping) → now ≡ maps ++ n ∷ []
    → named_in id now ≡ named_in id maps + cond {A = ℕ} (n.first == id) 1 0
named_more id maps now n is = ap (named_in id) is ∙ sum_by_push (λ (m : Mapping). cond {A = ℕ} (m.first == id) 1 0) maps n

-- and of all spaces, where one of them is another
uses_more : (id : ℕ) (spaces : List (Option Held)) (i : ℕ) (h g : Held) → slice_get spaces i ≡ Some (Some h)
    → uses_in id (slice_set spaces i (Some g)) + named_in id h.maps ≡ uses_in id spaces + named_in id g.maps
uses_more id [] i h g is = absurd (none-some _ is)
uses_more id (None ∷ spaces) zero h g is = absurd (none-some h (same_Some _ _ is))
uses_more id (Some x ∷ spaces) zero h g is =
    let same = ap (λ (y : Held). named_in id y.maps) (same_Some _ _ (same_Some _ _ is)) in omega (arith, same)
uses_more id (None ∷ spaces) (suc i) h g is = uses_more id spaces i h g is
uses_more id (Some x ∷ spaces) (suc i) h g is = omega (arith, uses_more id spaces i h g is)

-- a live space stays live
lives_on : (spaces : List (Option Held)) (n i : ℕ) (h g : Held) → slice_get spaces n ≡ Some (Some h) → HasSpace spaces i
    → HasSpace (slice_set spaces n (Some g)) i
lives_on spaces n i h g at live = elim (decide (i == n)) [
  | inl same ↦ record {
    held = g;
    there = ap (slice_get (slice_set spaces n (Some g))) (eqb_is i n same) ∙ get_set spaces n (Some g) (slice_get_within spaces n (Some h) at);
  }
  | inr other ↦ record {
    held = live.held;
    there = get_other spaces n i (Some g) (grind (arith, nat_tests, other)) ∙ live.there;
  }
]

module _ (k : Kept) (number : ℕ) (h g : Held) (v : Region) (n : Mapping) (regular : Regular k) (home : slice_get k.spaces number ≡ Some (Some h))
    (fits : Fits k v n) (maps : g.maps ≡ h.maps ++ n ∷ []) where
  there_now : slice_get (slice_set k.regions v.first v) v.first ≡ Some v
  there_now = get_set k.regions v.first v fits.inside

  uses_now : (id : ℕ) (r : Region) → slice_get (slice_set k.regions v.first v) id ≡ Some r → r.uses ≡ uses_in id (slice_set k.spaces number (Some g))
  uses_now id r is =
      let all = uses_more id k.spaces number h g home in
      let named = named_more id h.maps g.maps n maps in
      elim (after_set k.regions v.first id v r is) [
        | inl here ↦
            let uses : r.uses ≡ uses_in id k.spaces + 1 =
            ap (λ (q : Region). q.uses) here.1 ∙ fits.uses ∙ ap (λ (x : ℕ). uses_in x k.spaces + 1) (sym here.0) in
            let one : cond {A = ℕ} (n.first == id) 1 0 ≡ 1 = rw (eq-eqb n.first id (fits.first ∙ sym here.0)) refl in
            omega (arith, all, named, uses, one)
        | inr other ↦
            let uses = regular.uses id r other.1 in
            let none : cond {A = ℕ} (n.first == id) 1 0 ≡ 0 = rw (ne_eqb n.first id (λ e. other.0 (sym e ∙ fits.first))) refl in
            omega (arith, all, named, uses, none)
      ]

  one_now : (id : ℕ) (r : Region) → slice_get (slice_set k.regions v.first v) id ≡ Some r → r.source ≡ Own → r.uses ≤ 1
  one_now id r is own = elim (after_set k.regions v.first id v r is) [
    | inl here ↦
        let one = fits.one (ap (λ (q : Region). q.source) (sym here.1) ∙ own) in
        omega (arith, one, ap (λ (q : Region). q.uses) here.1)
    | inr other ↦ regular.one_use id r other.1 own
  ]

  -- a mapping that was there has its region
  named_before : (i j : ℕ) (o : Held) (m : Mapping) → slice_get k.spaces i ≡ Some (Some o) → slice_get o.maps j ≡ Some m
      → Names (slice_set k.regions v.first v) m
  named_before i j o m is there =
      let old = regular.names i j o m is there in
      elim (decide (m.first == v.first)) [
        | inl same ↦
            let here = eqb_is m.first v.first same in
            let live = is_used k regular i j o m old.region is there old.there in
            let keeps = fits.before old.region (ap (slice_get k.regions) (sym here) ∙ old.there) live in
            record {
              region = v;
              there = ap (slice_get (slice_set k.regions v.first v)) here ∙ there_now;
              run = old.run ∙ keeps.0;
              source = old.source ∙ keeps.1;
              from = old.from;
              to = old.to;
              own = λ writes. sym keeps.1 ∙ old.own writes;
            }
        | inr other ↦ record {
          region = old.region;
          there = get_other k.regions v.first m.first v (grind (arith, nat_tests, other)) ∙ old.there;
          run = old.run;
          source = old.source;
          from = old.from;
          to = old.to;
          own = old.own;
        }
      ]

  -- and so has the new one
  named_now : Names (slice_set k.regions v.first v) n
  named_now = record {
    region = v;
    there = ap (slice_get (slice_set k.regions v.first v)) fits.first ∙ there_now;
    run = fits.run;
    source = fits.source;
    from = fits.from;
    to = fits.to;
    own = fits.own;
  }

  named_here : (j : ℕ) (m : Mapping) → slice_get (h.maps ++ n ∷ []) j ≡ Some m → Names (slice_set k.regions v.first v) m
  named_here j m there = elim (pushed_cases h.maps n j m there) [
    | inl last ↦ subst (Names (slice_set k.regions v.first v)) (sym last.1) named_now
    | inr before ↦ named_before number j h m home before
  ]

  names_now : (i j : ℕ) (o : Held) (m : Mapping) → slice_get (slice_set k.spaces number (Some g)) i ≡ Some (Some o) → slice_get o.maps j ≡ Some m
      → Names (slice_set k.regions v.first v) m
  names_now i j o m is there = elim (after_set k.spaces number i (Some g) (Some o) is) [
    | inl here ↦ named_here j m (ap (λ (ms : List Mapping). slice_get ms j) (sym maps ∙ ap (λ (x : Held). x.maps) (sym (same_Some o g here.1))) ∙ there)
    | inr other ↦ named_before i j o m other.1 there
  ]

  pages_now : g.pages ≡ h.pages → (i : ℕ) (o : Held) → slice_get (slice_set k.spaces number (Some g)) i ≡ Some (Some o) → o.pages ≡ length k.regions
  pages_now pages i o is = elim (after_set k.spaces number i (Some g) (Some o) is) [
    | inl here ↦ ap (λ (x : Held). x.pages) (same_Some o g here.1) ∙ pages ∙ regular.pages number h home
    | inr other ↦ regular.pages i o other.1
  ]

  regular_more : (mem : List ℕ) → length mem ≡ length k.mem → g.pages ≡ h.pages
      → Regular (record k { mem = mem; regions = slice_set k.regions v.first v; spaces = slice_set k.spaces number (Some g) })
  regular_more mem same pages =
      let len = length-set k.regions v.first v in
      record {
        memory = same ∙ regular.memory ∙ ap (λ (x : ℕ). 4096 * x) (sym len);
        some = omega (arith, len, regular.some);
        most = omega (arith, len, regular.most);
        regions = fits.regions;
        uses = uses_now;
        one_use = one_now;
        names = names_now;
        pages = λ i o is. pages_now pages i o is ∙ sym len;
        runs = λ pid e is. lives_on k.spaces number e.value.space h g home (regular.runs pid e is);
        chains = regular.chains;
        falls = regular.falls;
        few = regular.few;
        pids = regular.pids;
        loads = omega (arith, regular.loads, length-set k.spaces number (Some g));
      }

-- ---- both of what `map` leaves are so

module _ (k : Kept) (regular : Regular k) where
  -- no live region stood where the free run begins
  unused : (first count : ℕ) (r : Region) → AreFree k.regions first count → 0 < count → slice_get k.regions first ≡ Some r → r.uses ≡ 0
  unused first count r free some there = elim (cases_lt 0 r.uses) [
    | inl live ↦
        let begins = regular.regions.begins first r there live in
        let pages = regular.regions.some first r there live in
        let has : holds r r.first ≡ true = grind (arith, nat_tests, live, pages) in
        absurd (false≢true (sym (was_gone k.regions first count r r.first regular.regions free some there) ∙ has))
    | inr gone ↦ omega arith
  ]

  fresh_fits : (first count : ℕ) (writes anonymous : Bool) (source : Source) → AreFree k.regions first count → 0 < count → (writes ≡ true → source ≡ Own)
      → Fits k (record { first = first; pages = count; source = source; uses = 1 }) (run_mapping first count writes anonymous source)
  fresh_fits first count writes anonymous source free some written =
      let v : Region = record { first = first; pages = count; source = source; uses = 1 } in
      let inside : first < length k.regions = (let in_all = free.inside in omega (arith, in_all, some)) in
      let r : Region = get_or k.regions first v in
      let there : slice_get k.regions first ≡ Some r = slice_get-get_or k.regions first v inside in
      let old = unused first count r free some there in
      let named = regular.uses first r there in
      record {
        first = refl;
        run = refl;
        source = refl;
        from = omega arith;
        to = omega arith;
        own = written;
        inside = inside;
        uses = omega (arith, old, named);
        one = λ own. omega arith;
        regions = regions_fresh k.regions v r regular.regions free some refl there;
        before = λ x is live. absurd (omega (arith, live, unused first count x free some is));
      }

  copy_fits : (r : Region) (skip count : ℕ) → slice_get k.regions r.first ≡ Some r → 0 < r.uses → is_copy r.source ≡ true → skip + count ≤ r.pages
      → Fits k (used r) (part_mapping r.first r.pages r.source skip count)
  copy_fits r skip count there live copy inside =
      let some = regular.regions.some r.first r there live in
      record {
        first = refl;
        run = refl;
        source = refl;
        from = omega arith;
        to = omega (arith, inside);
        own = λ never. absurd (false≢true never);
        inside = slice_get_within k.regions r.first r there;
        uses = ap (λ (x : ℕ). x + 1) (regular.uses r.first r there);
        one = λ own. absurd (false≢true (sym (ap is_copy own) ∙ copy));
        regions = regions_part k.regions r.first r (used r) regular.regions there live refl (omega arith) (λ _. some);
        before = λ x is _. (let same = same_Some _ _ (sym is ∙ there) in (ap (λ (q : Region). q.pages) same, ap (λ (q : Region). q.source) same));
      }

  -- the bytes lie in memory
  run_inside : (first count : ℕ) (content : List ℕ) → AreFree k.regions first count → length content ≡ 4096 * count
      → 4096 * first + length content ≤ length k.mem
  run_inside first count content free len =
      let inside = free.inside in
      let memory = regular.memory in
      omega (arith, inside, memory, len)

-- memory has as many pages as it had
pub map_pages : (k : Kept) → Regular k → (h : Held) (kind : Kind) (bytes : List ℕ) (want : Want) → AsksPages want → (m : Mapped)
    → mapped (map_state h k.regions k.mem) kind bytes want ≡ Some m → length m.map_state.regions ≡ length k.regions
map_pages k regular h kind bytes want asks m is =
    elim (change (map_state h k.regions k.mem) kind bytes want m asks regular.regions is) [
      | inl run ↦ ap (length {A = Region}) run.regions ∙ length-set k.regions run.first (record { first = run.first; pages = run.count; source = run.source; uses = 1 })
      | inr one ↦ ap (length {A = Region}) one.regions ∙ length-set k.regions one.region.first (used one.region)
    ]

pub map_regular : (k : Kept) (regular : Regular k) (copies : CopiesHold k.regions k.mem k.tree k.notes) (number : ℕ) (h : Held)
    (home : slice_get k.spaces number ≡ Some (Some h)) (kind : Kind) (want : Want) (asks : AsksPages want) (known : IsKnown k.tree want) (m : Mapped)
    → mapped (map_state h k.regions k.mem) kind (bytes_of k.tree (file_in want)) want ≡ Some m
    → Regular (record k { mem = m.map_state.memory; regions = m.map_state.regions; spaces = slice_set k.spaces number (Some m.map_state.held) })
map_regular k regular copies number h home kind want asks known m is =
    elim (change (map_state h k.regions k.mem) kind (bytes_of k.tree (file_in want)) want m asks regular.regions is) [
      | inl run ↦
          let v : Region = record { first = run.first; pages = run.count; source = run.source; uses = 1 } in
          let n : Mapping = run_mapping run.first run.count run.writes run.anonymous run.source in
          let len : length m.map_state.memory ≡ length k.mem =
          ap length run.memory
          ∙ length-laid k.mem (4096 * run.first) run.content (run_inside k regular run.first run.count run.content run.free run.len) in
          rw run.regions (regular_more k number h m.map_state.held v n regular home
          (fresh_fits k regular run.first run.count run.writes run.anonymous run.source run.free run.some run.written) run.maps m.map_state.memory len run.pages)
      | inr one ↦
          let r : Region = one.region in
          let n : Mapping = part_mapping r.first r.pages r.source one.skip one.count in
          rw one.regions (regular_more k number h m.map_state.held (used r) n regular home
          (copy_fits k regular r one.skip one.count one.there one.live one.copy one.fits) one.maps m.map_state.memory (ap length one.memory) one.pages)
    ]
