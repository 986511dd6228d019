-- What the code maps is what the world maps: the same pages, with the same bytes, and all other spaces keep theirs.
use Rattle.std.proofs.Common.{◌≡◌, ℕ, zero, ◌+◌, ◌-◌, ◌*◌, ◌<◌, ◌≤◌, Bool, true, false, List, [], ◌∷◌, ◌++◌, length, get_or, arith, refl, sym, ap, subst, ◌∙◌}
use Rattle.std.specs.Prelude.{Option, Some, None, slice_get, slice_set, option_map}
use Rattle.std.proofs.lemmas.Bool.Decides.{nat_tests}
use Rattle.std.proofs.lemmas.Option.{same_Some, none-some}
use Rattle.std.proofs.lemmas.List.{length-replicate, length-set}
use Rattle.byte_words.specs.ByteMap.{with_bytes}
use Rattle.byte_words.specs.Patches.{laid}
use Rattle.byte_words.proofs.Laid.{length-laid}
use Rattle.nommu_regions.specs.declared.region.Region.{Region}
use Rattle.nommu_regions.specs.declared.region.Source.{Source}
use Rattle.nommu_regions.specs.declared.region.Source.TheVariants.{Own, Copy}
use Rattle.nommu_regions.specs.Regions.{AreFree, covers, copy_of, with_uses_of, with_uses}
use Rattle.nommu_regions.proofs.Copies.{copy_lives, copy_covers_them}
use Rattle.mmap_rules.specs.declared.mapping.Mapping.{Mapping}
use Rattle.mmap_rules.specs.declared.want.Want.{Want}
use Rattle.mmap_rules.specs.declared.want.Want.TheVariants.{Anon, File}
use Rattle.mmap_rules.specs.Want.{AsksPages}
use Rattle.mmap_rules.specs.Held.{Held, page_address}
use Rattle.mmap_rules.specs.Mappings.{run_mapping, part_mapping, copied_from}
use Rattle.mmap_rules.specs.MapState.{map_state, Mapped, in_fresh_run, in_copy_or_new, mapped, file_in}
use Rattle.mmap_rules.proofs.Change.{covered}
use Rattle.mmap_rules.proofs.CopiesHold.{copy_byte}
use Rattle.mmap_rules.proofs.FilePages.{length-file_pages}
use Rattle.mmap_rules.proofs.Fresh.{fresh_free}
use Rattle.mem_files.specs.Inodes.{bytes_of}
use Rattle.machine_world.specs.MapCalls.{all_maps, lowest, has_pages, shared, or_own, in_copy as in_copy_of, with_mapping}
use Rattle.kept_parts.specs.Kept.{Kept}
use Rattle.kept_parts.specs.Regular.{Regular}
use Rattle.kept_parts.specs.Copies.{HoldsFiles}
use Rattle.mmap_rules.specs.Copies.{IsKnown, wanted_bytes}
use Rattle.kept_parts.specs.Stands.{About, OthersSame, private_bytes, private_of, live_from, live_spaces, world_of}
use Rattle.kept_parts.proofs.Mappings.Choice.{OfRegion, no_copy, lowest_copy, own_choice, chosen, free_page, own_is}
use Rattle.kept_parts.proofs.Mappings.Bytes.{added, others_beside, laid_same}

-- the world's choice, and what the code leaves
pub record Agrees (k : Kept) (number : ℕ) (h : Held) (want : Want) (o : Option Mapping) (m : Mapped) : Type 0 where
  pub mapping : Mapping
  pub chosen : o ≡ Some mapping
  pub addr : m.addr ≡ mapping.range.from
  pub held : m.map_state.held ≡ record h { maps = h.maps ++ mapping ∷ [] }
  pub space : private_of m.map_state.memory m.map_state.held ≡ with_mapping (private_of k.mem h) mapping (wanted_bytes k.tree want)
  pub others : OthersSame k number m.map_state.memory
  pub pages : length m.map_state.regions ≡ length k.regions
  pub len : length m.map_state.memory ≡ length k.mem
  pub below : mapping.range.from < 0xfffff001

pub length-with_uses : (rs : List Region) (id : ℕ) (change : ℕ → ℕ) → length (with_uses rs id change) ≡ length rs
length-with_uses rs id change = at (slice_get rs id)
  where
    at : (o : Option Region) → length (with_uses_of rs id change o) ≡ length rs
    at None = refl
    at (Some r) = length-set rs id (record r { uses = change r.uses })

same_space : (mem now : List ℕ) (h : Held) (mapping : Mapping) (bytes : List ℕ) →
    private_bytes now (record h { maps = h.maps ++ mapping ∷ [] }) ≡ with_bytes (private_bytes mem h) mapping.range.from bytes →
    private_of now (record h { maps = h.maps ++ mapping ∷ [] }) ≡ with_mapping (private_of mem h) mapping bytes
same_space mem now h mapping bytes same = λ i. record {
  maps = h.maps ++ mapping ∷ [];
  brk = h.brk;
  brk_low = h.brk_low;
  brk_high = h.brk_high;
  bytes = same i;
}

-- ---- a copy that is there

pub shared_is : (first pages : ℕ) (m : Mapping) (r : Region) → OfRegion m r →
    shared first pages m ≡ part_mapping r.first r.pages r.source (first - copied_from r.source) pages
shared_is first pages m r of = λ i. part_mapping (of.first i) (of.pages i) (of.source i) (first - copied_from (of.source i)) pages

-- ---- the code's run and the world's

module _ (a : About) (k : Kept) (regular : Regular k) (number : ℕ) (h : Held) where
  -- a run of its own
  module _ (want : Want) (count : ℕ) (writes anonymous : Bool) (source : Source) (some : 0 < count) (len : length (wanted_bytes k.tree want) ≡ 4096 * count)
      (o : Option Mapping) (own : o ≡ option_map (λ page. run_mapping page count writes anonymous source) (free_page a k count)) where
    new_agrees : (page : ℕ) → AreFree k.regions page count → free_page a k count ≡ Some page → Agrees k number h want o (record {
      addr = page_address page;
      map_state = record {
        held = record h { maps = h.maps ++ run_mapping page count writes anonymous source ∷ [] };
        regions = slice_set k.regions page (record { first = page; pages = count; source = source; uses = 1 });
        memory = laid k.mem (4096 * page) (wanted_bytes k.tree want);
      };
    })
    new_agrees page free there =
        let fits : 4096 * page + length (wanted_bytes k.tree want) ≤ length k.mem = omega (arith, len, free.inside, regular.memory) in
        record {
          mapping = run_mapping page count writes anonymous source;
          chosen = own ∙ ap (option_map (λ page. run_mapping page count writes anonymous source)) there;
          addr = refl;
          held = refl;
          space = same_space k.mem (laid k.mem (4096 * page) (wanted_bytes k.tree want)) h (run_mapping page count writes anonymous source) (wanted_bytes k.tree want)
              (added k.mem h (run_mapping page count writes anonymous source) page (wanted_bytes k.tree want) refl len fits);
          others = λ j other ne is. others_beside k regular page count free (wanted_bytes k.tree want) len fits j other is;
          pages = length-set k.regions page (record { first = page; pages = count; source = source; uses = 1 });
          len = length-laid k.mem (4096 * page) (wanted_bytes k.tree want) fits;
          below = omega (arith, free.inside, some, regular.most);
        }

    fresh_agrees : (m : Mapped) → in_fresh_run (map_state h k.regions k.mem) a.kind count writes anonymous source (wanted_bytes k.tree want) ≡ Some m →
        Agrees k number h want o m
    fresh_agrees m is = at (free_page a k count) refl
      where
        at : (page : Option ℕ) → free_page a k count ≡ page → Agrees k number h want o m
        at None none = absurd (none-some m (rw none at is))
        at (Some page) there =
            subst (Agrees k number h want o) (same_Some _ _ (rw there at is)) (new_agrees page (fresh_free k.regions a.kind count page some there) there)

    fresh_refused : in_fresh_run (map_state h k.regions k.mem) a.kind count writes anonymous source (wanted_bytes k.tree want) ≡ None → o ≡ None
    fresh_refused is = at (free_page a k count) refl
      where
        at : (page : Option ℕ) → free_page a k count ≡ page → o ≡ None
        at None none = own ∙ ap (option_map (λ page. run_mapping page count writes anonymous source)) none
        at (Some page) there = absurd (none-some _ (sym (rw there at is)))

  -- a file's pages that aren't written
  module _ (pages first id change : ℕ) (asks : 0 < pages) (known : IsKnown k.tree (File pages first false id change)) where
    pub world_copy : (p : Option Mapping) → lowest (has_pages id change first pages) (all_maps (live_from k.mem 0 k.spaces)) ≡ p →
        in_copy_of (world_of a k).spaces (File pages first false id change) ≡ option_map (shared first pages) p
    unfolding world_of live_spaces
    world_copy p is = ap (option_map (shared first pages)) is

    pub none_there : copy_of k.regions id change first pages ≡ None →
        chosen a k (File pages first false id change) ≡ option_map (λ page. run_mapping page pages false false (Copy id change first)) (free_page a k pages)
    none_there none =
        ap (λ (o : Option Mapping). or_own o (own_choice a k (File pages first false id change))) (world_copy None (no_copy k regular id change first pages none))
        ∙ own_is a k regular (File pages first false id change)

    old_agrees : HoldsFiles k → (copy : ℕ) (r : Region) → copy_of k.regions id change first pages ≡ Some copy → slice_get k.regions copy ≡ Some r →
        covers id change first pages r ≡ true →
        Agrees k number h (File pages first false id change) (chosen a k (File pages first false id change)) (record {
          addr = page_address (r.first + (first - copied_from r.source));
          map_state = record {
            held = record h { maps = h.maps ++ part_mapping r.first r.pages r.source (first - copied_from r.source) pages ∷ [] };
            regions = with_uses k.regions r.first (λ uses. uses + 1);
            memory = k.mem;
          };
        })
    old_agrees holds copy r is there has =
        let low = lowest_copy k regular id change first pages copy r is there has in
        let live : 0 < r.uses = grind (arith, nat_tests, has) in
        let c = covered r.source id change first pages r.pages (grind (arith, nat_tests, has)) in
        let start : copied_from r.source ≡ c.start = ap copied_from c.is in
        let inside = regular.regions.inside copy r there live in
        let bytes : List ℕ = wanted_bytes k.tree (File pages first false id change) in
        let page : ℕ = r.first + (first - copied_from r.source) in
        let mapping : Mapping = part_mapping r.first r.pages r.source (first - copied_from r.source) pages in
        let len : length (wanted_bytes k.tree (File pages first false id change)) ≡ 4096 * pages = length-file_pages (bytes_of k.tree id) first pages in
        let fits : 4096 * (r.first + (first - copied_from r.source)) + length (wanted_bytes k.tree (File pages first false id change)) ≤ length k.mem =
        omega (arith, len, start, c.from, c.to, inside, regular.memory) in
        let same : laid k.mem (4096 * (r.first + (first - copied_from r.source))) (wanted_bytes k.tree (File pages first false id change)) ≡ k.mem =
        laid_same k.mem (4096 * page) bytes fits (λ i less.
        copy_byte k.mem k.tree r id change first pages c (holds copy r there live) known.0 known.1 known.2 i (omega (arith, less, len))
        ∙ ap (λ (s : ℕ). get_or k.mem (4096 * (r.first + (first - s)) + i) 0) (sym start)) in
        record {
          mapping = part_mapping r.first r.pages r.source (first - copied_from r.source) pages;
          chosen =
              ap (λ (o : Option Mapping). or_own o (own_choice a k (File pages first false id change))) (world_copy (Some low.mapping) low.is)
              ∙ ap (λ (m : Mapping). Some m) (shared_is first pages low.mapping r low.same);
          addr = refl;
          held = refl;
          space = same_space k.mem k.mem h mapping bytes
              (ap (λ (now : List ℕ). private_bytes now (record h { maps = h.maps ++ mapping ∷ [] })) (sym same)
              ∙ added k.mem h mapping page bytes refl len fits);
          others = λ j other ne at. refl;
          pages = length-with_uses k.regions r.first (λ uses. uses + 1);
          len = refl;
          below = omega (arith, start, c.from, c.to, inside, asks, regular.most);
        }

    copy_agrees : HoldsFiles k → (o : Option ℕ) → copy_of k.regions id change first pages ≡ o → (m : Mapped) →
        in_copy_or_new (map_state h k.regions k.mem) a.kind (bytes_of k.tree id) pages first id change o ≡ Some m →
        Agrees k number h (File pages first false id change) (chosen a k (File pages first false id change)) m
    copy_agrees holds None none m is =
        fresh_agrees (File pages first false id change) pages false false (Copy id change first) asks (length-file_pages (bytes_of k.tree id) first pages)
        (chosen a k (File pages first false id change)) (none_there none) m is
    copy_agrees holds (Some copy) found m is =
        let live = copy_lives k.regions k.regions id change first pages copy refl (sym found) in
        let has = copy_covers_them k.regions k.regions id change first pages copy refl (sym found) copy live.region refl live.there in
        subst (Agrees k number h (File pages first false id change) (chosen a k (File pages first false id change)))
        (same_Some _ _ (rw live.there at is)) (old_agrees holds copy live.region found live.there has)

    copy_refused : (o : Option ℕ) → copy_of k.regions id change first pages ≡ o →
        in_copy_or_new (map_state h k.regions k.mem) a.kind (bytes_of k.tree id) pages first id change o ≡ None →
        chosen a k (File pages first false id change) ≡ None
    copy_refused None none is =
        fresh_refused (File pages first false id change) pages false false (Copy id change first) asks (length-file_pages (bytes_of k.tree id) first pages)
        (chosen a k (File pages first false id change)) (none_there none) is
    copy_refused (Some copy) found is =
        let live = copy_lives k.regions k.regions id change first pages copy refl (sym found) in
        absurd (none-some _ (sym (rw live.there at is)))

  -- ---- all that can be wanted

  pub map_agrees : slice_get k.spaces number ≡ Some (Some h) → HoldsFiles k → (want : Want) → AsksPages want → IsKnown k.tree want → (m : Mapped) →
      mapped (map_state h k.regions k.mem) a.kind (bytes_of k.tree (file_in want)) want ≡ Some m → Agrees k number h want (chosen a k want) m
  unfolding mapped
  map_agrees home holds (Anon pages) asks known m is =
      fresh_agrees (Anon pages) pages true true Own asks (length-replicate (4096 * pages) zero) (chosen a k (Anon pages)) (own_is a k regular (Anon pages)) m is
  map_agrees home holds (File pages first true id change) asks known m is =
      fresh_agrees (File pages first true id change) pages true false Own asks (length-file_pages (bytes_of k.tree id) first pages)
      (chosen a k (File pages first true id change)) (own_is a k regular (File pages first true id change)) m is
  map_agrees home holds (File pages first false id change) asks known m is =
      copy_agrees pages first id change asks known holds (copy_of k.regions id change first pages) refl m is

  pub map_refused : slice_get k.spaces number ≡ Some (Some h) → (want : Want) → AsksPages want → IsKnown k.tree want →
      mapped (map_state h k.regions k.mem) a.kind (bytes_of k.tree (file_in want)) want ≡ None → chosen a k want ≡ None
  unfolding mapped
  map_refused home (Anon pages) asks known is =
      fresh_refused (Anon pages) pages true true Own asks (length-replicate (4096 * pages) zero) (chosen a k (Anon pages)) (own_is a k regular (Anon pages)) is
  map_refused home (File pages first true id change) asks known is =
      fresh_refused (File pages first true id change) pages true false Own asks (length-file_pages (bytes_of k.tree id) first pages)
      (chosen a k (File pages first true id change)) (own_is a k regular (File pages first true id change)) is
  map_refused home (File pages first false id change) asks known is =
      copy_refused pages first id change asks known (copy_of k.regions id change first pages) refl is
