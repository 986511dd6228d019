-- Copies still hold their file where `map` maps pages.
use Rattle.std.proofs.Common.{◌≡◌, ℕ, ◌+◌, ◌<◌, ◌≤◌, ◌⊎◌, inl, inr, false, List, length, arith, refl, sym, ap, ◌∙◌, subst}
use Rattle.std.specs.Prelude.{Option, Some, None, Ok, slice_get}
use Rattle.std.proofs.lemmas.Option.{same_Some, none-some, slice_get_within}
use Rattle.page_runs.specs.declared.place.Kind.{Kind}
use Rattle.call_log.specs.Notes.{Note}
use Rattle.nommu_regions.specs.declared.region.Region.{Region}
use Rattle.nommu_regions.specs.declared.region.Source.TheVariants.{Own}
use Rattle.mmap_rules.specs.declared.want.Want.{Want}
use Rattle.mmap_rules.specs.declared.want.Want.TheVariants.{File}
use Rattle.mmap_rules.specs.Held.{Held}
use Rattle.mmap_rules.specs.Want.{AsksPages}
use Rattle.mmap_rules.specs.Copies.{IsKnown}
use Rattle.mmap_rules.specs.MapState.{map_state, Mapped, Maps, mapped, file_in}
use Rattle.mmap_rules.proofs.Change.{Copied, FreshRun, OneMore, change}
use Rattle.mmap_rules.proofs.CopiesHold.{all_hold}
use Rattle.mmap_rules.proofs.NamesMore.{used}
use Rattle.mem_files.specs.Inodes.{Inode, Inodes, inode_at, bytes_of as bytes_of_file}
use Rattle.machine_world.specs.Ages.{kept_calls}
use Rattle.memory_world.specs.Physical.{has_stray}
use Rattle.kept_parts.specs.Kept.{Kept}
use Rattle.kept_parts.specs.Regular.{Regular}
use Rattle.kept_parts.specs.Copies.{KnowsSource, CopiesHold}
use Rattle.call_bytes.proofs.Places.{after_set}

-- ---- a copy that is made

node_within : (nodes : Inodes) (id : ℕ) (n : Inode) → inode_at nodes id ≡ Some n → id < length nodes
node_within nodes id n is = by_place (slice_get nodes id) refl
  where
    by_place : (o : Option (Option Inode)) → slice_get nodes id ≡ o → id < length nodes
    by_place (Some x) there = slice_get_within nodes id x there
    by_place None none = absurd (none-some n (rw none at is))

-- the file of a copy that is made is known
copy_known : (nodes : Inodes) (content : List ℕ) (v : Region) (want : Want) → Copied (bytes_of_file nodes (file_in want)) want v.pages v.source content
    → IsKnown nodes want → KnowsSource nodes v.source
copy_known nodes content v want copied known =
    let file : Want = File v.pages copied.from false copied.file copied.change in
    let there : IsKnown nodes file = subst (IsKnown nodes) copied.want known in
    subst (KnowsSource nodes) (sym copied.source) (record {
      given = node_within nodes copied.file there.0 there.1;
      up = λ n found. (
          let same : there.0 ≡ n = same_Some _ _ (sym there.1 ∙ found) in
          let count = ap (λ (x : Inode). x.change) same in
          let counted = there.2 in
          omega (arith, count, counted));
    })

made_known : (nodes : Inodes) (content : List ℕ) (v : Region) (want : Want)
    → (v.source ≡ Own) ⊎ Copied (bytes_of_file nodes (file_in want)) want v.pages v.source content → IsKnown nodes want → KnowsSource nodes v.source
made_known nodes content v want (inl own) known = subst (KnowsSource nodes) (sym own) tt
made_known nodes content v want (inr copied) known = copy_known nodes content v want copied known

-- ---- both of what `map` leaves

module _ (k : Kept) (copies : CopiesHold k.regions k.mem k.tree k.notes) (h : Held) (want : Want)
    (known : IsKnown k.tree want) (m : Mapped) (notes : List Note) (later : kept_calls k.notes + 1 ≤ kept_calls notes) where
  fresh_known : FreshRun (map_state h k.regions k.mem) (bytes_of_file k.tree (file_in want)) want m → (id : ℕ) (r : Region) → slice_get m.map_state.regions id ≡ Some r → 0 < r.uses →
      KnowsSource k.tree r.source
  fresh_known run =
      let v : Region = record { first = run.first; pages = run.count; source = run.source; uses = 1 } in
      rw run.regions (λ id r there live. elim (after_set k.regions run.first id v r there) [
        | inl here ↦ subst (λ (x : Region). KnowsSource k.tree x.source) (sym here.1) (made_known k.tree run.content v want run.origin known)
        | inr other ↦ copies.known id r other.1 live
      ])

  fresh_uses : FreshRun (map_state h k.regions k.mem) (bytes_of_file k.tree (file_in want)) want m → (id : ℕ) (r : Region) → slice_get m.map_state.regions id ≡ Some r →
      r.uses ≤ 1 + kept_calls notes
  fresh_uses run =
      let v : Region = record { first = run.first; pages = run.count; source = run.source; uses = 1 } in
      rw run.regions (λ id r there. elim (after_set k.regions run.first id v r there) [
        | inl here ↦ (let uses = ap (λ (x : Region). x.uses) here.1 in omega (arith, uses))
        | inr other ↦ (let old = copies.uses id r other.1 in omega (arith, old, later))
      ])

  more_known : OneMore (map_state h k.regions k.mem) want m → (id : ℕ) (r : Region) → slice_get m.map_state.regions id ≡ Some r → 0 < r.uses → KnowsSource k.tree r.source
  more_known one =
      rw one.regions (λ id r there live. elim (after_set k.regions one.region.first id (used one.region) r there) [
        | inl here ↦ subst (λ (x : Region). KnowsSource k.tree x.source) (sym here.1) (copies.known one.region.first one.region one.there one.live)
        | inr other ↦ copies.known id r other.1 live
      ])

  more_uses : OneMore (map_state h k.regions k.mem) want m → (id : ℕ) (r : Region) → slice_get m.map_state.regions id ≡ Some r → r.uses ≤ 1 + kept_calls notes
  more_uses one =
      rw one.regions (λ id r there. elim (after_set k.regions one.region.first id (used one.region) r there) [
        | inl here ↦
            let uses = ap (λ (x : Region). x.uses) here.1 in
            let old = copies.uses one.region.first one.region one.there in
            omega (arith, uses, old, later)
        | inr other ↦ (let old = copies.uses id r other.1 in omega (arith, old, later))
      ])

pub map_copies : (k : Kept) (regular : Regular k) (copies : CopiesHold k.regions k.mem k.tree k.notes) (number : ℕ) (h : Held)
    (home : slice_get k.spaces number ≡ Some (Some h)) (kind : Kind) (want : Want) (asks : AsksPages want) (known : IsKnown k.tree want) (m : Mapped)
    → mapped (map_state h k.regions k.mem) kind (bytes_of_file k.tree (file_in want)) want ≡ Some m
    → (notes : List Note) → kept_calls k.notes + 1 ≤ kept_calls notes → (has_stray notes ≡ false → has_stray k.notes ≡ false) → CopiesHold m.map_state.regions m.map_state.memory k.tree notes
map_copies k regular copies number h home kind want asks known m is notes later strays = record {
  hold = λ unstrayed.
      all_hold (map_state h k.regions k.mem) m.map_state kind k.tree want (Ok m.addr) asks regular.regions regular.memory (copies.hold (strays unstrayed)) maps;
  known = elim way [
    | inl run ↦ fresh_known k copies h want known m notes later run
    | inr one ↦ more_known k copies h want known m notes later one
  ];
  changes = λ id n there. (let old = copies.changes id n there in omega (arith, old, later));
  uses = elim way [
    | inl run ↦ fresh_uses k copies h want known m notes later run
    | inr one ↦ more_uses k copies h want known m notes later one
  ];
}
  where
    maps : Maps (mapped (map_state h k.regions k.mem) kind (bytes_of_file k.tree (file_in want)) want) (map_state h k.regions k.mem) m.map_state (Ok m.addr)
    maps = subst (λ (o : Option Mapped). Maps o (map_state h k.regions k.mem) m.map_state (Ok m.addr)) (sym is) (refl, refl)

    way : FreshRun (map_state h k.regions k.mem) (bytes_of_file k.tree (file_in want)) want m ⊎ OneMore (map_state h k.regions k.mem) want m
    way = change (map_state h k.regions k.mem) kind (bytes_of_file k.tree (file_in want)) want m asks regular.regions is
