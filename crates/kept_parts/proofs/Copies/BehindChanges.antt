-- Live copies hold their file after all but the mapping calls.
use Rattle.std.proofs.Common.{◌≡◌, ℕ, zero, suc, ◌+◌, ◌-◌, ◌*◌, ◌/◌, ◌<◌, ◌≤◌, ◌⊎◌, inl, inr, Bool, true, false, List, [], ◌∷◌, length, replicate, get_or, map, arith, refl, sym, ap, ◌∙◌, subst}
use Rattle.std.specs.Prelude.{Some, slice_get, slice_set, sum, ◌&&◌, nat_le}
use Rattle.std.proofs.lemmas.Option.{same_Some, none-some, slice_get_within, slice_get-get_or}
use Rattle.std.proofs.lemmas.Bool.{cases_lt, false≢true}
use Rattle.std.proofs.lemmas.Bool.Decides.{nat_tests}
use Rattle.std.proofs.lemmas.List.Sums.{sum_by-cons}
use Rattle.byte_words.specs.ByteMap.{byte_of}
use Rattle.page_runs.specs.Pages.{in_run}
use Rattle.nommu_regions.specs.declared.region.Region.{Region}
use Rattle.nommu_regions.specs.declared.region.Source.{Source}
use Rattle.nommu_regions.specs.declared.region.Source.TheVariants.{Own, Copy}
use Rattle.nommu_regions.specs.Regions.{holds, AreFree}
use Rattle.nommu_regions.proofs.Held.{held_by}
use Rattle.mmap_rules.specs.declared.mapping.Mapping.{Mapping}
use Rattle.mmap_rules.specs.Space.{memory_base, page_size}
use Rattle.mmap_rules.specs.Held.{released, page_address}
use Rattle.mmap_rules.specs.Copies.{HasFile, HasSource}
use Rattle.mem_files.specs.Inodes.{Inodes}
use Rattle.call_log.specs.declared.how.How.{How}
use Rattle.byte_words.specs.declared.access.Access.{Access}
use Rattle.call_log.specs.Notes.{CallEntry, LoadEntry, Note, call_note, load_note, end_note, stray_note, calls_in, bytes_in, has_room}
use Rattle.flat_loader.specs.Loads.{block_region}
use Rattle.flat_loader.specs.Begin.{Loading, in_block, block_end}
use Rattle.machine_world.specs.Ages.{AreChanged, Follows, kept_calls, most_at_boot}
use Rattle.memory_world.specs.Physical.{has_stray}
use Rattle.kept_parts.specs.Kept.{Kept}
use Rattle.kept_parts.specs.Regular.{Regular, named_in}
use Rattle.kept_parts.specs.Copies.{KnowsFile, KnowsSource, CopiesHold}
use Rattle.call_bytes.proofs.Places.{after_set}
use Rattle.kept_parts.proofs.Ends.RegularWithout.{length_released, released_at}
use Rattle.kept_parts.proofs.Copies.SameBytes.{bytes_same, holds_as, physical_at}

-- ---- notes

-- a call's note is one call more
pub call_counts : (entry : CallEntry) (notes : List Note) → kept_calls (call_note entry ∷ notes) ≡ kept_calls notes + 1
call_counts entry notes = omega (arith, sum_by-cons (λ (n : ℕ). n) 1 (map calls_in notes))

-- and no other note is
pub load_counts : (entry : LoadEntry) (notes : List Note) → kept_calls (load_note entry ∷ notes) ≡ kept_calls notes
load_counts entry notes = omega arith

pub end_counts : (pid : ℕ) (how : How) (notes : List Note) → kept_calls (end_note pid how ∷ notes) ≡ kept_calls notes
end_counts pid how notes = omega arith

pub stray_counts : (pid : ℕ) (seen : Access) (notes : List Note) → kept_calls (stray_note pid seen ∷ notes) ≡ kept_calls notes
stray_counts pid seen notes = omega arith

-- a call that has room can be counted
pub room_counts : (notes : List Note) (bytes : ℕ) → has_room notes bytes ≡ true → kept_calls notes + 1 ≤ 1048576
unfolding has_room
room_counts notes bytes room = by_calls (kept_calls notes + 1) (nat_le (sum (map bytes_in notes) + bytes) 67108864) room
  where
    by_calls : (calls : ℕ) (rest : Bool) → (nat_le calls 1048576 && rest) ≡ true → calls ≤ 1048576
    by_calls calls rest both = grind (arith, nat_tests, both)

-- counts may have risen where more was noted
changed_more : (base few many : ℕ) (ns : Inodes) → few ≤ many → AreChanged (base + few) ns → AreChanged (base + many) ns
changed_more base few many ns more changed id n is = omega (arith, more, changed id n is)

pub copies_noted : (rs : List Region) (mem : List ℕ) (ns : Inodes) (notes now : List Note) → CopiesHold rs mem ns notes → kept_calls notes ≤ kept_calls now
    → (has_stray now ≡ false → has_stray notes ≡ false) → CopiesHold rs mem ns now
copies_noted rs mem ns notes now copies more strays = record {
  hold = λ unstrayed. copies.hold (strays unstrayed);
  known = copies.known;
  changes = changed_more most_at_boot (kept_calls notes) (kept_calls now) ns more copies.changes;
  uses = λ id r is. omega (arith, more, copies.uses id r is);
}

-- ---- files

-- a file that was there and aged
file_ages : (mem : List ℕ) (ns nodes : Inodes) (r : Region) (file change first : ℕ) → Follows ns nodes → KnowsFile ns file change
    → HasFile mem ns r file change first → HasFile mem nodes r file change first
file_ages mem ns nodes r file change first follows known has = λ n is unchanged.
    let aged = follows.nodes file n known.given is in
    let low = known.up aged.was aged.there in
    let high = aged.ages.up in
    let then : change ≡ aged.was.change = omega (arith, low, high, unchanged) in
    let since : aged.was.change ≡ n.change = omega (arith, low, high, unchanged) in
    rw (← aged.ages.same since) (has aged.was aged.there then)

source_ages : (mem : List ℕ) (ns nodes : Inodes) (r : Region) (s : Source) → Follows ns nodes → KnowsSource ns s → HasSource mem ns r s → HasSource mem nodes r s
source_ages mem ns nodes r Own follows known has = tt
source_ages mem ns nodes r (Copy file change first) follows known has = file_ages mem ns nodes r file change first follows known has

knows_ages : (ns nodes : Inodes) (s : Source) → Follows ns nodes → KnowsSource ns s → KnowsSource nodes s
knows_ages ns nodes Own follows known = tt
knows_ages ns nodes (Copy file change first) follows known = record {
  given = omega (arith, known.given, follows.grows);
  up = λ n is.
      let aged = follows.nodes file n known.given is in
      omega (arith, known.up aged.was aged.there, aged.ages.up);
}

pub copies_aged : (rs : List Region) (mem : List ℕ) (ns nodes : Inodes) (notes now : List Note) → CopiesHold rs mem ns notes → Follows ns nodes
    → AreChanged (most_at_boot + kept_calls now) nodes → kept_calls notes ≤ kept_calls now → (has_stray now ≡ false → has_stray notes ≡ false) → CopiesHold rs mem nodes now
copies_aged rs mem ns nodes notes now copies follows changed more strays = record {
  hold = λ unstrayed id r is live. source_ages mem ns nodes r r.source follows (copies.known id r is live) (copies.hold (strays unstrayed) id r is live);
  known = λ id r is live. knows_ages ns nodes r.source follows (copies.known id r is live);
  changes = changed;
  uses = λ id r is. omega (arith, more, copies.uses id r is);
}

-- ---- regions with fewer uses

-- the region with another number of uses
fewer : (mem : List ℕ) (ns : Inodes) (r s : Region) (uses : ℕ) → s ≡ record r { uses = uses } → HasSource mem ns r r.source → HasSource mem ns s s.source
fewer mem ns r s uses is has = rw is (holds_as mem mem ns r (record r { uses = uses }) r.source (λ copy. refl) refl has)

pub copies_released : (rs : List Region) (mem : List ℕ) (ns : Inodes) (notes : List Note) (maps : List Mapping) → CopiesHold rs mem ns notes
    → CopiesHold (released rs maps) mem ns notes
copies_released rs mem ns notes maps copies = record {
  hold = λ unstrayed id s is live.
      let r = get_or rs id s in
      fewer mem ns r s (r.uses - named_in id maps) (fewer_at id s is) (copies.hold unstrayed id r (there_before id s is) (used_before id s is live));
  known = λ id s is live.
      subst (λ (q : Region). KnowsSource ns q.source) (sym (fewer_at id s is)) (copies.known id (get_or rs id s) (there_before id s is) (used_before id s is live));
  changes = copies.changes;
  uses = λ id s is.
      let r = get_or rs id s in
      omega (arith, ap (λ (q : Region). q.uses) (fewer_at id s is), copies.uses id r (there_before id s is));
}
  where
    there_before : (id : ℕ) (s : Region) → slice_get (released rs maps) id ≡ Some s → slice_get rs id ≡ Some (get_or rs id s)
    there_before id s is = slice_get-get_or rs id s (omega (arith, slice_get_within (released rs maps) id s is, length_released rs maps))

    fewer_at : (id : ℕ) (s : Region) → slice_get (released rs maps) id ≡ Some s
        → s ≡ record (get_or rs id s) { uses = (get_or rs id s).uses - named_in id maps }
    fewer_at id s is = same_Some _ _ (sym is ∙ released_at rs maps id (get_or rs id s) (there_before id s is))

    used_before : (id : ℕ) (s : Region) → slice_get (released rs maps) id ≡ Some s → 0 < s.uses → 0 < (get_or rs id s).uses
    used_before id s is live = omega (arith, live, ap (λ (q : Region). q.uses) (fewer_at id s is))

-- ---- a program that begins

-- a byte of a live region doesn't lie in pages that were free
beside_free : (rs : List Region) (page pages : ℕ) → AreFree rs page pages → (id : ℕ) (r : Region) → slice_get rs id ≡ Some r → 0 < r.uses
    → (at : ℕ) → r.first * 4096 ≤ at → at < (r.first + r.pages) * 4096 → (at < page_size * page) ⊎ (page_size * (page + pages) ≤ at)
beside_free rs page pages free id r is live at low high = elim (cases_lt at (4096 * page)) [
  | inl before ↦ inl before
  | inr from ↦ elim (cases_lt at (4096 * (page + pages))) [
    | inr behind ↦ inr (omega (arith, behind))
    | inl inside ↦
        let p = at / 4096 in
        let low_page : r.first ≤ p = omega (arith, low) in
        let high_page : p < r.first + r.pages = omega (arith, high) in
        let from_page : page ≤ p = omega (arith, from) in
        let to_page : p < page + pages = omega (arith, inside) in
        let has : holds r p ≡ true = grind (arith, nat_tests, live, low_page, high_page) in
        let run : in_run page pages p ≡ true = grind (arith, nat_tests, from_page, to_page) in
        absurd (false≢true (sym (free.free p run) ∙ held_by rs id r p is has))
  ]
]

pub copies_begun : (k : Kept) → Regular k → CopiesHold k.regions k.mem k.tree k.notes → (page pages : ℕ) → AreFree k.regions page pages → (mem : List ℕ)
    → length mem ≡ length k.mem
    → ((at : ℕ) → (at < page_size * page) ⊎ (page_size * (page + pages) ≤ at) → slice_get mem at ≡ slice_get k.mem at)
    → CopiesHold (slice_set k.regions page (block_region page pages)) mem k.tree k.notes
copies_begun k regular copies page pages free mem len others = record {
  hold = λ unstrayed id r is live. elim (after_set k.regions page id (block_region page pages) r is) [
    | inl here ↦ subst (λ (q : Region). HasSource mem k.tree q q.source) (sym here.1) tt
    | inr other ↦
        let bytes = bytes_same k.mem mem r (sym len)
        (λ at low high. others at (beside_free k.regions page pages free id r other.1 live at low high)) in
        holds_as k.mem mem k.tree r r r.source (λ copy. bytes) refl (copies.hold unstrayed id r other.1 live)
  ];
  known = λ id r is live. elim (after_set k.regions page id (block_region page pages) r is) [
    | inl here ↦ subst (λ (q : Region). KnowsSource k.tree q.source) (sym here.1) tt
    | inr other ↦ copies.known id r other.1 live
  ];
  changes = copies.changes;
  uses = λ id r is. elim (after_set k.regions page id (block_region page pages) r is) [
    | inl here ↦ omega (arith, ap (λ (q : Region). q.uses) here.1)
    | inr other ↦ copies.uses id r other.1
  ];
}

-- the same where the memory beside the block is said by addresses
pub copies_loaded : (k : Kept) → Regular k → CopiesHold k.regions k.mem k.tree k.notes → (page pages : ℕ) → AreFree k.regions page pages → (l : Loading)
    → l.block ≡ page_address page → block_end l ≡ page_address (page + pages) → (mem : List ℕ) → length mem ≡ length k.mem
    → ((a : ℕ) → in_block l a ≡ false → byte_of memory_base mem a ≡ byte_of memory_base k.mem a)
    → CopiesHold (slice_set k.regions page (block_region page pages)) mem k.tree k.notes
copies_loaded k regular copies page pages free l block end mem len others =
    copies_begun k regular copies page pages free mem len (λ at beside.
    sym (physical_at mem at) ∙ others (memory_base + at) (outside at beside) ∙ physical_at k.mem at)
  where
    outside : (at : ℕ) → (at < page_size * page) ⊎ (page_size * (page + pages) ≤ at) → in_block l (memory_base + at) ≡ false
    outside at (inl before) = let low : memory_base + at < l.block = omega (arith, before, block) in grind (arith, nat_tests, low)
    outside at (inr behind) = let high : block_end l ≤ memory_base + at = omega (arith, behind, end) in grind (arith, nat_tests, high)

-- ---- the parts before the first program

-- every place has the region
all_same : (n : ℕ) (v : Region) (id : ℕ) (r : Region) → slice_get (replicate n v) id ≡ Some r → r ≡ v
all_same zero v id r is = absurd (none-some r is)
all_same (suc n) v zero r is = sym (same_Some _ _ is)
all_same (suc n) v (suc id) r is = all_same n v id r is

pub copies_begin : (pages : ℕ) (mem : List ℕ) (ns : Inodes) → AreChanged most_at_boot ns
    → CopiesHold (replicate pages (record { first = 0; pages = 0; source = Own; uses = 0 })) mem ns []
copies_begin pages mem ns changed = record {
  hold = λ unstrayed id r is live. absurd (omega (arith, live, unused id r is));
  known = λ id r is live. absurd (omega (arith, live, unused id r is));
  changes = λ id n is. omega (arith, changed id n is);
  uses = λ id r is. omega (arith, unused id r is);
}
  where
    unused : (id : ℕ) (r : Region) → slice_get (replicate pages (record { first = 0; pages = 0; source = Own; uses = 0 })) id ≡ Some r → r.uses ≡ 0
    unused id r is = ap (λ (q : Region). q.uses) (all_same pages (record { first = 0; pages = 0; source = Own; uses = 0 }) id r is)
