-- The parts after a munmap are regular, and copies hold their file.
use Rattle.std.proofs.Common.{◌≡◌, ◌≢◌, ℕ, ◌+◌, ◌-◌, ◌*◌, ◌<◌, ◌≤◌, inl, inr, false, List, [], ◌∷◌, Some, refl, sym, ap, subst, ◌∙◌, arith, length-set}
use Rattle.std.specs.Prelude.{slice_get, slice_set}
use Rattle.std.specs.List.{remove}
use Rattle.std.proofs.lemmas.Bool.{cases_eq}
use Rattle.std.proofs.lemmas.Option.{same_Some, slice_get_within}
use Rattle.call_log.specs.Notes.{Note}
use Rattle.nommu_regions.specs.declared.region.Region.{Region}
use Rattle.nommu_regions.specs.declared.region.Source.{Source}
use Rattle.nommu_regions.specs.declared.region.Source.TheVariants.{Own, Copy}
use Rattle.nommu_regions.specs.Regions.{AreRegions, with_uses, with_cut}
use Rattle.mmap_rules.specs.declared.mapping.Mapping.{Mapping}
use Rattle.mmap_rules.specs.Held.{Held, AreMappings}
use Rattle.mmap_rules.specs.Copies.{HasSource}
use Rattle.mmap_rules.specs.Want.{pages_for}
use Rattle.mmap_rules.specs.Mappings.{page_at, left_of}
use Rattle.mmap_rules.specs.MapState.{Freed, NameRegions, unmapped}
use Rattle.mmap_rules.proofs.TableLess.{is_removed}
use Rattle.mmap_rules.proofs.Mapped.{mapped_cut, mapped_less}
use Rattle.mmap_rules.proofs.Parts.{Cuts, left_mapped}
use Rattle.mmap_rules.proofs.Cuts.{cuts}
use Rattle.mmap_rules.proofs.NamesLess.{names_less}
use Rattle.mmap_rules.proofs.Cutting.{Cutting, cutting}
use Rattle.mmap_rules.proofs.NamesCut.{names_cut}
use Rattle.mmap_rules.proofs.NamesAll.{what_went}
use Rattle.mem_files.specs.Inodes.{Inodes}
use Rattle.kept_parts.specs.Kept.{Kept}
use Rattle.kept_parts.specs.Regular.{Names, Regular, HasSpace, named_in, uses_in}
use Rattle.kept_parts.specs.Copies.{KnowsSource, CopiesHold}
use Rattle.machine_world.specs.Ages.{kept_calls}
use Rattle.memory_world.specs.Physical.{has_stray}
use Rattle.call_bytes.proofs.Places.{get_set, get_other, after_set}
use Rattle.kept_parts.proofs.Common.UseCounts.{named, counted, counted_both}
use Rattle.kept_parts.proofs.Ends.RegularWithout.{released_at, regions_released}
use Rattle.kept_parts.proofs.Mappings.Unmapped.{same_pages}
use Rattle.kept_parts.proofs.Mappings.UsesLess.{uses_set, names_held, WasOrOwn, was_less, uses_less}
use Rattle.kept_parts.proofs.Mappings.UsesCut.{cut_beside, regions_cut, parts, none_inside, uses_cut, was_cut}

-- ---- what is left of the mappings of a space and of the regions

record Left (k : Kept) (number : ℕ) (h : Held) (maps : List Mapping) (regions : List Region) : Type 0 where
  mapped : AreMappings h.pages maps
  are : AreRegions regions
  names : NameRegions regions maps
  beside : (i j : ℕ) (g : Held) (x : Mapping) → i ≢ number → slice_get k.spaces i ≡ Some (Some g) → slice_get g.maps j ≡ Some x
      → Names k.regions x → Names regions x
  uses : (id : ℕ) (s : Region) → slice_get regions id ≡ Some s → s.uses + named_in id h.maps ≡ uses_in id k.spaces + named_in id maps
  was : (id : ℕ) (s : Region) → slice_get regions id ≡ Some s → WasOrOwn k.regions id s

module _ (k : Kept) (regular : Regular k) (number : ℕ) (h : Held) (home : slice_get k.spaces number ≡ Some (Some h))
    (shaped : AreMappings h.pages h.maps) where
  -- where a mapping went
  left_less : (at : ℕ) (m : Mapping) → slice_get h.maps at ≡ Some m
      → Left k number h (remove h.maps at) (with_uses k.regions m.first (λ uses. uses - 1))
  left_less at m there = record {
    mapped = mapped_less h.pages h.maps at shaped;
    are = regions_released k.regions (m ∷ []) regular.regions;
    names = names_less k.regions h.maps at m (names_held k regular number h home) there;
    beside = λ i j g x other is item n. record {
      region = record n.region { uses = n.region.uses - named_in x.first (m ∷ []) };
      there = released_at k.regions (m ∷ []) x.first n.region n.there;
      run = n.run;
      source = n.source;
      from = n.from;
      to = n.to;
      own = n.own;
    };
    uses = λ id s is. uses_less k regular number h home at m there id s is
        ∙ ap (λ (l : List Mapping). uses_in id k.spaces + named_in id l) (is_removed h.maps at);
    was = λ id s is. inl (was_less k.regions m id s is);
  }

  -- where pages were cut out of one
  left_cut : (at : ℕ) (m : Mapping) (addr n : ℕ) → slice_get h.maps at ≡ Some m → Cuts h.pages m addr (4096 * n) → (r : Region)
      → (c : Cutting k.regions h.maps at m r addr n (page_at addr))
      → Left k number h (parts k regular number h home at m r addr n (page_at addr) c) (with_cut k.regions m.first (page_at addr) n)
  left_cut at m addr n there cut r c = record {
    mapped = mapped_cut h.pages h.maps (left_of m addr (4096 * n)) at shaped (left_mapped h.pages m addr (4096 * n) cut);
    are = regions_cut k regular h.maps at m r addr n from c;
    names = names_cut k.regions h.maps h.pages at m addr n regular.regions (names_held k regular number h home) there cut;
    beside = λ i j g x other is item old. record {
      region = old.region;
      there = cut_beside k.regions m.first from n r c.there c.begins x.first (no_first i j g x other is item) (no_next i j g x is item) ∙ old.there;
      run = old.run;
      source = old.source;
      from = old.from;
      to = old.to;
      own = old.own;
    };
    uses = uses_cut k regular number h home at m r addr n from c;
    was = was_cut k regular number h home at m r addr n from c;
  }
    where
      from : ℕ
      from = page_at addr

      -- no mapping of another space names the region, which has one use
      no_first : (i j : ℕ) (g : Held) (x : Mapping) → i ≢ number → slice_get k.spaces i ≡ Some (Some g) → slice_get g.maps j ≡ Some x
          → x.first ≢ m.first
      no_first i j g x other is item same =
          let both = counted_both m.first k.spaces number i h g (λ e. other (sym e)) home is in
          omega (arith, both, regular.uses m.first r c.there, c.one, named m.first h.maps at m there refl, named m.first g.maps j x item same)

      -- nor the page behind the cut
      no_next : (i j : ℕ) (g : Held) (x : Mapping) → slice_get k.spaces i ≡ Some (Some g) → slice_get g.maps j ≡ Some x
          → from + n < m.first + r.pages → x.first ≢ from + n
      no_next i j g x is item more same =
          let none = none_inside k regular number h home at m r addr n from c more in
          omega (arith, none, counted (from + n) k.spaces i g is, named (from + n) g.maps j x item same)

  left_is : (addr len : ℕ) (f : Freed) → unmapped h k.regions addr len ≡ Some f → Left k number h f.held.maps f.regions
  left_is addr len f is = elim (what_went h k.regions addr len f is) [
    | inl w ↦ rw (w.maps, w.regions) (left_less w.at w.mapping w.there)
    | inr w ↦ (
        let n = pages_for len in
        let names = names_held k regular number h home in
        let named = names.each w.at w.mapping w.there in
        let cut = cuts h.pages h.maps w.at w.mapping addr n shaped w.there w.begins w.some w.can in
        let c = cutting k.regions h.maps h.pages w.at w.mapping addr n named regular.regions names w.there cut in
        rw (w.maps, w.regions) (left_cut w.at w.mapping addr n w.there cut named.region c))
  ]

-- ---- the parts

-- a live space stays live
lives_on : (k : Kept) (number : ℕ) (h g : Held) → slice_get k.spaces number ≡ Some (Some h)
    → (i : ℕ) → HasSpace k.spaces i → HasSpace (slice_set k.spaces number (Some g)) i
lives_on k number h g home i live = elim (cases_eq i number) [
  | inl same ↦ record { held = g; there = rw same (get_set k.spaces number (Some g) (slice_get_within k.spaces number (Some h) home)) }
  | inr other ↦ record { held = live.held; there = get_other k.spaces number i (Some g) other ∙ live.there }
]

-- where a mapping is well-shaped it keeps to its region
named_shaped : (k : Kept) (number : ℕ) (h : Held) (maps : List Mapping) (regions : List Region) → Left k number h maps regions
    → (j : ℕ) (x : Mapping) → slice_get maps j ≡ Some x → Names regions x
named_shaped k number h maps regions left j x item =
    let n = left.names.each j x item in
    let m = left.mapped j x item in
    record {
      region = n.region;
      there = n.there;
      run = n.run;
      source = n.source;
      from = m.from;
      to = m.to;
      own = λ writes. sym n.source ∙ m.writes writes;
    }

pub unmap_regular : (k : Kept) → Regular k → (number : ℕ) (h : Held) → slice_get k.spaces number ≡ Some (Some h) → AreMappings h.pages h.maps
    → (addr len : ℕ) (f : Freed) → unmapped h k.regions addr len ≡ Some f
    → Regular (record k { regions = f.regions; spaces = slice_set k.spaces number (Some f.held) })
unmap_regular k regular number h home shaped addr len f is =
    let left = left_is k regular number h home shaped addr len f is in
    let pages = same_pages h k.regions addr len f is in
    record {
      memory = rw pages.1 regular.memory;
      some = omega (arith, pages.1, regular.some);
      most = omega (arith, pages.1, regular.most);
      regions = left.are;
      uses = λ id s there. omega (arith, left.uses id s there, uses_set id k.spaces number h f.held home);
      one_use = λ id s there own. elim (left.was id s there) [
        | inl w ↦ omega (arith, w.fewer, regular.one_use id w.old w.there (ap (λ (q : Region). q.source) (sym w.same) ∙ own))
        | inr part ↦ part.1
      ];
      names = λ i j g x there item. elim (after_set k.spaces number i (Some f.held) (Some g) there) [
        | inl here ↦ named_shaped k number h f.held.maps f.regions left j x
            (ap (λ (y : Held). slice_get y.maps j) (sym (same_Some _ _ here.1)) ∙ item)
        | inr other ↦ left.beside i j g x other.0 other.1 item (regular.names i j g x other.1 item)
      ];
      pages = λ i g there. elim (after_set k.spaces number i (Some f.held) (Some g) there) [
        | inl here ↦ ap (λ (y : Held). y.pages) (same_Some _ _ here.1) ∙ (pages.0 ∙ (regular.pages number h home ∙ sym pages.1))
        | inr other ↦ regular.pages i g other.1 ∙ sym pages.1
      ];
      runs = λ pid e lives. lives_on k number h f.held home e.value.space (regular.runs pid e lives);
      chains = regular.chains;
      falls = regular.falls;
      few = regular.few;
      pids = regular.pids;
      loads = omega (arith, regular.loads, length-set k.spaces number (Some f.held));
    }

-- ---- copies

-- the file that a region holds has nothing to do with its uses
holds_on : (mem : List ℕ) (nodes : Inodes) (r : Region) (uses : ℕ) (source : Source) → HasSource mem nodes r source
    → HasSource mem nodes (record r { uses = uses }) source
holds_on mem nodes r uses Own has = has
holds_on mem nodes r uses (Copy file change first) has = has

pub unmap_copies : (k : Kept) → Regular k → CopiesHold k.regions k.mem k.tree k.notes → (number : ℕ) (h : Held)
    → slice_get k.spaces number ≡ Some (Some h) → AreMappings h.pages h.maps → (addr len : ℕ) (f : Freed) → unmapped h k.regions addr len ≡ Some f
    → (notes : List Note) → kept_calls k.notes ≤ kept_calls notes → (has_stray notes ≡ false → has_stray k.notes ≡ false) → CopiesHold f.regions k.mem k.tree notes
unmap_copies k regular copies number h home shaped addr len f is notes more strays =
    let left = left_is k regular number h home shaped addr len f is in
    record {
      hold = λ unstrayed id s there live. elim (left.was id s there) [
        | inl w ↦ subst (λ (q : Region). HasSource k.mem k.tree q q.source) (sym w.same)
            (holds_on k.mem k.tree w.old s.uses w.old.source (copies.hold (strays unstrayed) id w.old w.there (omega (arith, w.fewer, live))))
        | inr part ↦ subst (λ (source : Source). HasSource k.mem k.tree s source) (sym part.0) tt
      ];
      known = λ id s there live. elim (left.was id s there) [
        | inl w ↦ subst (λ (q : Region). KnowsSource k.tree q.source) (sym w.same) (copies.known id w.old w.there (omega (arith, w.fewer, live)))
        | inr part ↦ subst (KnowsSource k.tree) (sym part.0) tt
      ];
      changes = λ id n there. (let few = copies.changes id n there in omega (arith, few, more));
      uses = λ id s there. elim (left.was id s there) [
        | inl w ↦ omega (arith, w.fewer, copies.uses id w.old w.there, more)
        | inr part ↦ omega (arith, part.1)
      ];
    }
