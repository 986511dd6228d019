-- Live copies hold their file in a memory that has the same bytes there.
use Rattle.std.proofs.Common.{◌≡◌, ℕ, zero, suc, ◌+◌, ◌-◌, ◌*◌, ◌^◌, ◌<◌, ◌≤◌, Bool, true, false, not, ◌&&◌, List, [], ◌∷◌, length, take, drop, arith, refl, sym, ap, ◌∙◌}
use Rattle.std.specs.Prelude.{Some, None, slice_get, nat_le, if◌then◌else◌}
use Rattle.std.proofs.lemmas.Option.{same_Some}
use Rattle.std.proofs.lemmas.Bool.{false≢true}
use Rattle.std.proofs.lemmas.Bool.Decides.{nat_tests}
use Rattle.byte_words.specs.ByteMap.{Bytes}
use Rattle.nommu_regions.specs.declared.region.Region.{Region}
use Rattle.nommu_regions.specs.declared.region.Source.{Source}
use Rattle.nommu_regions.specs.declared.region.Source.TheVariants.{Own, Copy}
use Rattle.nommu_regions.specs.Regions.{holds, is_copy}
use Rattle.mmap_rules.specs.declared.mapping.Mapping.{Mapping}
use Rattle.mmap_rules.specs.Space.{in_range, writable_in}
use Rattle.mmap_rules.specs.Held.{Held}
use Rattle.mmap_rules.specs.Mappings.{file_pages}
use Rattle.mem_files.specs.Inodes.{Inodes, bytes_in}
use Rattle.region_watch.specs.Private.{only, physical}
use Rattle.call_log.specs.Notes.{Note}
use Rattle.kept_parts.specs.Kept.{Kept}
use Rattle.kept_parts.specs.Regular.{Regular}
use Rattle.kept_parts.specs.Copies.{CopiesHold}
use Rattle.mmap_rules.specs.Copies.{bytes_of, HasSource}
use Rattle.call_bytes.proofs.Places.{is_false, any_at, same_item}
use Rattle.kept_parts.proofs.Common.SpacesApart.{page_of, page_there, has_held}

-- ---- bytes of a region

take_same : (n : ℕ) (old new : List ℕ) → length old ≡ length new → ((a : ℕ) → a < n → slice_get new a ≡ slice_get old a) → take n new ≡ take n old
take_same zero old new len same = refl
take_same (suc n) [] [] len same = refl
take_same (suc n) [] (y ∷ new) len same = absurd (omega (arith, len))
take_same (suc n) (x ∷ old) [] len same = absurd (omega (arith, len))
take_same (suc n) (x ∷ old) (y ∷ new) len same =
    let head : y ≡ x = same_Some _ _ (same 0 (omega arith)) in
    let rest = take_same n old new (omega (arith, len)) (λ a less. same (suc a) (omega (arith, less))) in
    λ i. head i ∷ rest i

part_same : (from n : ℕ) (old new : List ℕ) → length old ≡ length new → ((a : ℕ) → from ≤ a → a < from + n → slice_get new a ≡ slice_get old a)
    → take n (drop from new) ≡ take n (drop from old)
part_same zero n old new len same = take_same n old new len (λ a less. same a (omega arith) (omega (arith, less)))
part_same (suc from) n [] [] len same = refl
part_same (suc from) n [] (y ∷ new) len same = absurd (omega (arith, len))
part_same (suc from) n (x ∷ old) [] len same = absurd (omega (arith, len))
part_same (suc from) n (x ∷ old) (y ∷ new) len same =
    part_same from n old new (omega (arith, len)) (λ a low high. same (suc a) (omega (arith, low)) (omega (arith, high)))

-- memories that agree in the region's pages have the same bytes there
pub bytes_same : (old new : List ℕ) (r : Region) → length old ≡ length new
    → ((a : ℕ) → r.first * 4096 ≤ a → a < (r.first + r.pages) * 4096 → slice_get new a ≡ slice_get old a) → bytes_of new r ≡ bytes_of old r
bytes_same old new r len same =
    part_same (4096 * r.first) (4096 * r.pages) old new len (λ a low high. same a (omega (arith, low)) (omega (arith, high)))

-- a region with the same pages, and a memory with the same bytes there
pub holds_as : (old new : List ℕ) (ns : Inodes) (r q : Region) (s : Source) → (is_copy s ≡ true → bytes_of new q ≡ bytes_of old r) → q.pages ≡ r.pages
    → HasSource old ns r s → HasSource new ns q s
holds_as old new ns r q Own same pages held = tt
holds_as old new ns r q (Copy file change first) same pages held =
    λ n is unchanged. same refl ∙ held n is unchanged ∙ ap (file_pages (bytes_in n.content) first) (sym pages)

-- the same regions, where bytes of live copies stay
pub copies_stay : (rs : List Region) (old new : List ℕ) (ns : Inodes) (notes : List Note) → CopiesHold rs old ns notes → length old ≡ length new
    → ((id : ℕ) (r : Region) → slice_get rs id ≡ Some r → 0 < r.uses → is_copy r.source ≡ true → (a : ℕ) → r.first * 4096 ≤ a
    → a < (r.first + r.pages) * 4096 → slice_get new a ≡ slice_get old a)
    → CopiesHold rs new ns notes
copies_stay rs old new ns notes copies len same = record {
  hold = λ unstrayed id r is live.
      holds_as old new ns r r r.source (λ copy. bytes_same old new r len (same id r is live copy)) refl (copies.hold unstrayed id r is live);
  known = copies.known;
  changes = copies.changes;
  uses = copies.uses;
}

-- ---- a memory in which one space wrote

both : (x y : Bool) → (x && y) ≡ true → (x ≡ true) × (y ≡ true)
both true y h = (refl, h)
both false y h = absurd (false≢true h)

-- no byte of a live copy can be written
copy_frozen : (k : Kept) → Regular k → (number : ℕ) (h : Held) → slice_get k.spaces number ≡ Some (Some h) → (id : ℕ) (r : Region)
    → slice_get k.regions id ≡ Some r → 0 < r.uses → is_copy r.source ≡ true → (at : ℕ) → r.first * 4096 ≤ at → at < (r.first + r.pages) * 4096
    → writable_in h.maps (2 ^ 31 + at) ≡ false
unfolding writable_in
copy_frozen k regular number h space id r there live copy at low high = is_false (writable_in h.maps (2 ^ 31 + at)) (λ may.
    let m = any_at (λ (m : Mapping). m.range.writes && in_range m.range (2 ^ 31 + at)) h.maps may in
    let parts = both m.item.range.writes (in_range m.item.range (2 ^ 31 + at)) m.passes in
    let names = regular.names number m.place h m.item space m.there in
    let page = page_of (2 ^ 31 + at) in
    let has = has_held k regular number m.place h m.item page space m.there names (page_there k.regions m.item (2 ^ 31 + at) names parts.1) in
    let first : r.first ≤ page = omega (arith, low) in
    let last : page < r.first + r.pages = omega (arith, high) in
    let holds_too : holds r page ≡ true = grind (arith, nat_tests, live, first, last) in
    let same : m.item.first ≡ id = regular.regions.apart m.item.first id names.region r page names.there there has holds_too in
    let is : names.region ≡ r = same_item k.regions m.item.first id names.region r same names.there there in
    let own : r.source ≡ Own = ap (λ (q : Region). q.source) (sym is) ∙ names.own parts.0 in
    false≢true (ap is_copy (sym own) ∙ copy))

pub physical_at : (mem : List ℕ) (at : ℕ) → physical mem (2 ^ 31 + at) ≡ slice_get mem at
physical_at mem at =
    let inside : nat_le (2 ^ 31) (2 ^ 31 + at) ≡ true = grind (arith, nat_tests) in
    let place : 2 ^ 31 + at - 2 ^ 31 ≡ at = omega arith in
    ap (λ (b : Bool). if b then slice_get mem (2 ^ 31 + at - 2 ^ 31) else None) inside ∙ ap (slice_get mem) place

-- a byte that can't be written stays
byte_frozen : (test : ℕ → Bool) (old new : List ℕ) (at : ℕ) → only (λ a. not (test a)) (physical new) ≡ only (λ a. not (test a)) (physical old)
    → test (2 ^ 31 + at) ≡ false → slice_get new at ≡ slice_get old at
unfolding only
byte_frozen test old new at same frozen =
    sym (physical_at new at) ∙ cut (test (2 ^ 31 + at)) frozen (ap (λ (m : Bytes). m (2 ^ 31 + at)) same) ∙ physical_at old at
  where
    cut : (b : Bool) → b ≡ false → (if not b then physical new (2 ^ 31 + at) else None) ≡ (if not b then physical old (2 ^ 31 + at) else None)
        → physical new (2 ^ 31 + at) ≡ physical old (2 ^ 31 + at)
    cut true is same = absurd (false≢true (sym is))
    cut false is same = same

pub copies_frozen : (k : Kept) → Regular k → CopiesHold k.regions k.mem k.tree k.notes → (number : ℕ) (h : Held)
    → slice_get k.spaces number ≡ Some (Some h) → (mem : List ℕ) → length mem ≡ length k.mem
    → only (λ a. not (writable_in h.maps a)) (physical mem) ≡ only (λ a. not (writable_in h.maps a)) (physical k.mem)
    → CopiesHold k.regions mem k.tree k.notes
copies_frozen k regular copies number h space mem len same =
    copies_stay k.regions k.mem mem k.tree k.notes copies (sym len) (λ id r there live copy at low high.
    byte_frozen (writable_in h.maps) k.mem mem at same (copy_frozen k regular number h space id r there live copy at low high))
