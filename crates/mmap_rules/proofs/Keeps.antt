-- What `map` keeps, as its next call needs it.
use Rattle.std.proofs.Common.{◌≡◌, ℕ, ◌+◌, ◌*◌, ◌≤◌, inl, inr, List, length, length-set, refl, sym, ap, subst, arith}
use Rattle.std.specs.Prelude.{Option, Some, None, Result, Ok, Err, slice_set}
use Rattle.byte_words.proofs.Laid.{length-laid}
use Rattle.page_runs.specs.declared.place.Kind.{Kind}
use Rattle.nommu_regions.specs.declared.region.Region.{Region}
use Rattle.nommu_regions.specs.Regions.{AreRegions}
use Rattle.nommu_regions.proofs.Held.{after_set}
use Rattle.mmap_rules.specs.declared.mapping.Mapping.{Mapping}
use Rattle.mmap_rules.specs.declared.map_fault.MapFault.{MapFault}
use Rattle.mmap_rules.specs.declared.map_fault.MapFault.TheVariants.{Enomem, Memory}
use Rattle.mmap_rules.specs.declared.want.Want.{Want}
use Rattle.mmap_rules.specs.Want.{AsksPages}
use Rattle.mmap_rules.specs.MapState.{MapState, Mapped, Maps, NameRegions, AreAtMost, mapped}
use Rattle.mmap_rules.proofs.Names.{names_stay, names_fresh}
use Rattle.mmap_rules.proofs.NamesMore.{used, names_stay_more, names_more}
use Rattle.mmap_rules.proofs.Change.{FreshRun, OneMore, change}

-- a refusal changes nothing
same_sides : (o : Option Mapped) (s new : MapState) (fault : MapFault) → Maps o s new (Err fault) → new ≡ s
same_sides None s new Enomem same = same
same_sides None s new Memory same = same
same_sides (Some m) s new Enomem never = absurd never
same_sides (Some m) s new Memory same = same

-- what holds before and after each change holds after the call
pub kept : (P : MapState → Type 0) (s new : MapState) (kind : Kind) (bytes : List ℕ) (want : Want) (result : Result ℕ MapFault) → AsksPages want → AreRegions s.regions →
    P s → ((m : Mapped) → FreshRun s bytes want m → P m.map_state) → ((m : Mapped) → OneMore s want m → P m.map_state) → Maps (mapped s kind bytes want) s new result → P new
kept P s new kind bytes want (Err fault) asks are old fresh shared maps = subst P (sym (same_sides (mapped s kind bytes want) s new fault maps)) old
kept P s new kind bytes want (Ok addr) asks are old fresh shared maps = at (mapped s kind bytes want) refl maps
  where
    at : (o : Option Mapped) → mapped s kind bytes want ≡ o → Maps o s new (Ok addr) → P new
    at None none never = absurd never
    at (Some m) some both = elim (change s kind bytes want m asks are some) [
      | inl run ↦ subst P (sym both.1) (fresh m run)
      | inr one ↦ subst P (sym both.1) (shared m one)
    ]

-- each mapping of the space has its region
pub names_kept : (s new : MapState) (kind : Kind) (bytes : List ℕ) (want : Want) (result : Result ℕ MapFault) → AsksPages want → AreRegions s.regions →
    NameRegions s.regions s.held.maps → Maps (mapped s kind bytes want) s new result → NameRegions new.regions new.held.maps
names_kept s new kind bytes want result asks are names = kept (λ (t : MapState). NameRegions t.regions t.held.maps) s new kind bytes want result asks are names
    (λ m run. rw (run.maps, run.regions) (names_fresh s.regions s.held.maps run.first run.count run.writes run.anonymous run.source are names run.free run.some))
    (λ m one. rw (one.maps, one.regions) (names_more s.regions s.held.maps one.region one.skip one.count one.there one.copy names))

-- and so has each mapping of another space
pub other_names_kept : (s new : MapState) (maps : List Mapping) (kind : Kind) (bytes : List ℕ) (want : Want) (result : Result ℕ MapFault) → AsksPages want → AreRegions s.regions →
    NameRegions s.regions maps → Maps (mapped s kind bytes want) s new result → NameRegions new.regions maps
other_names_kept s new maps kind bytes want result asks are names = kept (λ (t : MapState). NameRegions t.regions maps) s new kind bytes want result asks are names
    (λ m run. rw run.regions (names_stay s.regions maps (record { first = run.first; pages = run.count; source = run.source; uses = 1 }) run.count are names run.free run.some))
    (λ m one. rw one.regions (names_stay_more s.regions maps one.region.first one.region one.there one.copy names))

-- the pages of memory stay as many
pub pages_kept : (s new : MapState) (kind : Kind) (bytes : List ℕ) (want : Want) (result : Result ℕ MapFault) → AsksPages want → AreRegions s.regions →
    (s.held.pages ≡ length s.regions) × (length s.memory ≡ 4096 * length s.regions) → Maps (mapped s kind bytes want) s new result →
    (new.held.pages ≡ length new.regions) × (length new.memory ≡ 4096 * length new.regions)
pages_kept s new kind bytes want result asks are fits = kept (λ (t : MapState). (t.held.pages ≡ length t.regions) × (length t.memory ≡ 4096 * length t.regions)) s new kind bytes want
    result asks are fits
    (λ m run. (
    let v : Region = record { first = run.first; pages = run.count; source = run.source; uses = 1 } in
    let len : length (slice_set s.regions run.first v) ≡ length s.regions = length-set s.regions run.first v in
    let inside = run.free.inside in
    let bytes_len = run.len in
    let memory = length-laid s.memory (4096 * run.first) run.content (omega (arith, inside, bytes_len, fits.1)) in
    rw (run.pages, run.regions, run.memory, len, memory) fits))
    (λ m one. (
    let len : length (slice_set s.regions one.region.first (used one.region)) ≡ length s.regions = length-set s.regions one.region.first (used one.region) in
    rw (one.pages, one.regions, one.memory, len) fits))

-- ---- uses

pub most_set : (most : ℕ) (rs : List Region) (i : ℕ) (v : Region) → v.uses ≤ most → AreAtMost most rs → AreAtMost most (slice_set rs i v)
most_set most rs i v less all id r there =
    elim (after_set rs i id v r there) [
      | inl here ↦ (let uses = ap (λ (x : Region). x.uses) here.1 in omega (arith, uses, less))
      | inr other ↦ all id r other.1
    ]

pub uses_kept : (most : ℕ) (s new : MapState) (kind : Kind) (bytes : List ℕ) (want : Want) (result : Result ℕ MapFault) → AsksPages want → AreRegions s.regions →
    AreAtMost most s.regions → Maps (mapped s kind bytes want) s new result → AreAtMost (most + 1) new.regions
uses_kept most s new kind bytes want result asks are all = kept (λ (t : MapState). AreAtMost (most + 1) t.regions) s new kind bytes want result asks are
    (λ id r there. let old = all id r there in omega (arith, old))
    (λ m run. rw run.regions (most_set (most + 1) s.regions run.first (record { first = run.first; pages = run.count; source = run.source; uses = 1 }) (omega arith) (λ id r there. let old = all id r there in omega (arith, old))))
    (λ m one. rw one.regions (most_set (most + 1) s.regions one.region.first (used one.region) (let old = all one.region.first one.region one.there in omega (arith, old)) (λ id r there. let old = all id r there in omega (arith, old))))
