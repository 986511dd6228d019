-- Copies hold their file where `map` maps pages, and the pages that are mapped have the bytes that are wanted.
use Rattle.std.proofs.Common.{◌≡◌, ℕ, ◌+◌, ◌-◌, ◌*◌, ◌<◌, ◌≤◌, ◌⊎◌, inl, inr, false, List, length, take, drop, get_or, arith, refl, sym, ap, ◌∙◌, subst}
use Rattle.std.specs.Prelude.{Option, Some, None, slice_get, Result, Ok, Err, IfOk}
use Rattle.std.proofs.lemmas.Bool.{cases_lt, false≢true}
use Rattle.std.proofs.lemmas.Bool.Decides.{nat_tests}
use Rattle.std.proofs.lemmas.List.{length-take, length-drop, get_or-take, get_or-drop, ext_get_or}
use Rattle.byte_words.specs.Patches.{laid}
use Rattle.byte_words.proofs.Laid.{length-laid, laid_before, laid_inside, laid_past}
use Rattle.page_runs.specs.declared.place.Kind.{Kind}
use Rattle.mem_files.specs.Inodes.{Inode, Inodes, inode_at, content_in, bytes_in, bytes_of as bytes_of_file}
use Rattle.nommu_regions.specs.declared.region.Region.{Region}
use Rattle.nommu_regions.specs.declared.region.Source.{Source}
use Rattle.nommu_regions.specs.declared.region.Source.TheVariants.{Own, Copy}
use Rattle.nommu_regions.specs.Regions.{AreRegions, AreFree}
use Rattle.nommu_regions.proofs.Held.{held_by, after_set}
use Rattle.mmap_rules.specs.declared.want.Want.{Want}
use Rattle.mmap_rules.specs.declared.want.Want.TheVariants.{Anon, File}
use Rattle.mmap_rules.specs.declared.map_fault.MapFault.{MapFault}
use Rattle.mmap_rules.specs.declared.map_fault.MapFault.TheVariants.{Enomem, Memory}
use Rattle.mmap_rules.specs.Want.{AsksPages}
use Rattle.mmap_rules.specs.Held.{page_address}
use Rattle.mmap_rules.specs.Mappings.{file_pages, page_at}
use Rattle.mmap_rules.specs.Copies.{pages_at, bytes_of, HasSource, AllHold, IsKnown, pages_of, wanted_bytes}
use Rattle.mmap_rules.specs.MapState.{MapState, Mapped, Maps, mapped, file_in}
use Rattle.mmap_rules.proofs.Change.{FreshRun, OneMore, Copied, Covered, asked_bytes, change}
use Rattle.mmap_rules.proofs.FilePages.{length-file_pages, file_byte}
use Rattle.mmap_rules.proofs.NamesMore.{used}

-- ---- parts of a list over which bytes were laid

same_part : (old new : List ℕ) (at len : ℕ) → length new ≡ length old → ((i : ℕ) → at ≤ i → i < at + len → get_or new i 0 ≡ get_or old i 0)
    → take len (drop at new) ≡ take len (drop at old)
same_part old new at len same each =
    let new_len : length (take len (drop at new)) ≡ length (take len (drop at old)) =
    (let a = length-take len (drop at new) in let b = length-take len (drop at old) in
    let c = length-drop at new in let d = length-drop at old in omega (arith, a, b, c, d, same)) in
    ext_get_or 0 (take len (drop at new)) (take len (drop at old)) new_len (λ i less.
    let short : i < len = (let a = length-take len (drop at new) in omega (arith, a, less)) in
    get_or-take len (drop at new) i 0 short ∙ get_or-drop at new i 0 ∙ each (at + i) (omega arith) (omega (arith, short))
    ∙ sym (get_or-take len (drop at old) i 0 short ∙ get_or-drop at old i 0))

-- beside the bytes stands what stood there
laid_beside : (old bytes : List ℕ) (at from len : ℕ) → at + length bytes ≤ length old → (from + len ≤ at) ⊎ (at + length bytes ≤ from)
    → take len (drop from (laid old at bytes)) ≡ take len (drop from old)
laid_beside old bytes at from len fits (inl before) =
    same_part old (laid old at bytes) from len (length-laid old at bytes fits) (λ i low high. laid_before old at bytes fits i (omega (arith, before, high)))
laid_beside old bytes at from len fits (inr past) =
    same_part old (laid old at bytes) from len (length-laid old at bytes fits) (λ i low high. laid_past old at bytes fits i (omega (arith, past, low)))

-- and at their place stand the bytes
pub laid_there : (old bytes : List ℕ) (at len : ℕ) → at + length bytes ≤ length old → len ≡ length bytes
    → take len (drop at (laid old at bytes)) ≡ bytes
laid_there old bytes at len fits is =
    let whole = length-laid old at bytes fits in
    let short = length-take len (drop at (laid old at bytes)) in
    let rest = length-drop at (laid old at bytes) in
    let count : length (take len (drop at (laid old at bytes))) ≡ length bytes = omega (arith, whole, short, rest, is, fits) in
    ext_get_or 0 (take len (drop at (laid old at bytes))) bytes count (λ i less.
    let inside : i < len = omega (arith, less, count, is) in
    let place : at + i - at ≡ i = omega arith in
    get_or-take len (drop at (laid old at bytes)) i 0 inside ∙ get_or-drop at (laid old at bytes) i 0
    ∙ laid_inside old at bytes fits (at + i) (omega arith) (omega (arith, inside, is)) ∙ ap (λ (k : ℕ). get_or bytes k 0) place)

-- ---- the bytes of the regions

-- a live region lies before a free run or behind it
beside : (rs : List Region) (first count id : ℕ) (r : Region) → AreRegions rs → AreFree rs first count → 0 < count → slice_get rs id ≡ Some r → 0 < r.uses
    → (r.first + r.pages ≤ first) ⊎ (first + count ≤ r.first)
beside rs first count id r are free some there live = elim (cases_lt first (r.first + r.pages)) [
  | inl reaches ↦ elim (cases_lt r.first (first + count)) [
    | inl begins ↦ absurd (elim (cases_lt r.first first) [
      | inl low ↦ met first (omega (arith, low)) reaches (omega arith) (omega (arith, some))
      | inr high ↦ met r.first (omega arith) (omega (arith, are.some id r there live)) high begins
    ])
    | inr behind ↦ inr behind
  ]
  | inr before ↦ inl before
]
  where
    met : (p : ℕ) → r.first ≤ p → p < r.first + r.pages → first ≤ p → p < first + count → ⊥
    met p from to low high =
        let held = held_by rs id r p there (grind (arith, nat_tests, live, from, to)) in
        false≢true (sym (free.free p (grind (arith, nat_tests, low, high))) ∙ held)

pub bytes_beside : (rs : List Region) (mem content : List ℕ) (first count id : ℕ) (r : Region) → AreRegions rs → AreFree rs first count → 0 < count
    → length content ≡ 4096 * count → 4096 * first + length content ≤ length mem → slice_get rs id ≡ Some r → 0 < r.uses
    → bytes_of (laid mem (4096 * first) content) r ≡ bytes_of mem r
bytes_beside rs mem content first count id r are free some len fits there live =
    laid_beside mem content (4096 * first) (4096 * r.first) (4096 * r.pages) fits (elim (beside rs first count id r are free some there live) [
      | inl before ↦ inl (omega (arith, before))
      | inr past ↦ inr (omega (arith, past, len))
    ])

-- ---- copies hold their file

-- a region that has the bytes and the pages of another one holds its file
has_as : (mem now : List ℕ) (nodes : Inodes) (r v : Region) (s : Source) → bytes_of now v ≡ bytes_of mem r → v.pages ≡ r.pages
    → HasSource mem nodes r s → HasSource now nodes v s
has_as mem now nodes r v Own same pages old = tt
has_as mem now nodes r v (Copy file change first) same pages old =
    λ n there is. same ∙ old n there is ∙ ap (file_pages (bytes_in n.content) first) (sym pages)

-- a copy that is made
copy_has_file : (nodes : Inodes) (now content : List ℕ) (v : Region) (want : Want) → Copied (bytes_of_file nodes (file_in want)) want v.pages v.source content
    → bytes_of now v ≡ content → HasSource now nodes v v.source
copy_has_file nodes now content v want copied is =
    subst (HasSource now nodes v) (sym copied.source) (λ n found _.
    is ∙ copied.bytes
    ∙ ap (λ (w : Want). file_pages (bytes_of_file nodes (file_in w)) copied.from v.pages) copied.want
    ∙ ap (λ (o : Option Inode). file_pages (bytes_in (content_in o)) copied.from v.pages) found)

fresh_has : (nodes : Inodes) (now content : List ℕ) (v : Region) (want : Want)
    → (v.source ≡ Own) ⊎ Copied (bytes_of_file nodes (file_in want)) want v.pages v.source content
    → bytes_of now v ≡ content → HasSource now nodes v v.source
fresh_has nodes now content v want (inl own) is = subst (HasSource now nodes v) (sym own) tt
fresh_has nodes now content v want (inr copied) is = copy_has_file nodes now content v want copied is

-- a byte of pages that a copy covers is the file's
pub copy_byte : (mem : List ℕ) (nodes : Inodes) (r : Region) (id change first pages : ℕ) (c : Covered r.source id change first pages r.pages) → HasSource mem nodes r r.source
    → (n : Inode) → inode_at nodes id ≡ Some n → n.change ≡ change → (i : ℕ) → i < 4096 * pages
    → get_or (file_pages (bytes_of_file nodes id) first pages) i 0 ≡ get_or mem (4096 * (r.first + (first - c.start)) + i) 0
copy_byte mem nodes r id change first pages c holds n node count i less =
    let same = subst (HasSource mem nodes r) c.is holds n node (sym count) in
    let from = c.from in
    let to = c.to in
    let at : ℕ = 4096 * (first - c.start) + i in
    let within : 4096 * (first - c.start) + i < 4096 * r.pages = omega (arith, from, to, less) in
    let bytes : bytes_of_file nodes id ≡ bytes_in n.content = ap (λ (o : Option Inode). bytes_in (content_in o)) node in
    let here : 4096 * first + i ≡ 4096 * c.start + (4096 * (first - c.start) + i) = omega (arith, from) in
    let behind : 4096 * r.first + (4096 * (first - c.start) + i) ≡ 4096 * (r.first + (first - c.start)) + i = omega arith in
    ap (λ (bs : List ℕ). get_or (file_pages bs first pages) i 0) bytes
    ∙ file_byte (bytes_in n.content) first pages i less
    ∙ ap (λ (p : ℕ). get_or (bytes_in n.content) p 0) here
    ∙ sym (file_byte (bytes_in n.content) c.start r.pages at within)
    ∙ ap (λ (bs : List ℕ). get_or bs at 0) (sym same)
    ∙ get_or-take (4096 * r.pages) (drop (4096 * r.first) mem) at 0 within
    ∙ get_or-drop (4096 * r.first) mem at 0
    ∙ ap (λ (p : ℕ). get_or mem p 0) behind

module _ (s : MapState) (nodes : Inodes) (want : Want) (m : Mapped) (are : AreRegions s.regions) (whole : length s.memory ≡ 4096 * length s.regions)
    (holds : AllHold s.regions s.memory nodes) where
  run_fits : (run : FreshRun s (bytes_of_file nodes (file_in want)) want m) → 4096 * run.first + length run.content ≤ length s.memory
  run_fits run = (let inside = run.free.inside in let len = run.len in omega (arith, whole, inside, len))

  run_bytes : (run : FreshRun s (bytes_of_file nodes (file_in want)) want m) → pages_at (laid s.memory (4096 * run.first) run.content) run.first run.count ≡ run.content
  run_bytes run = laid_there s.memory run.content (4096 * run.first) (4096 * run.count) (run_fits run) (sym run.len)

  fresh_copies : FreshRun s (bytes_of_file nodes (file_in want)) want m → AllHold m.map_state.regions m.map_state.memory nodes
  fresh_copies run =
      let v : Region = record { first = run.first; pages = run.count; source = run.source; uses = 1 } in
      let now : List ℕ = laid s.memory (4096 * run.first) run.content in
      rw (run.regions, run.memory) (λ id r there live. elim (after_set s.regions run.first id v r there) [
        | inl here ↦
            subst (λ (x : Region). HasSource now nodes x x.source) (sym here.1)
            (fresh_has nodes now run.content v want run.origin (run_bytes run))
        | inr other ↦
            has_as s.memory now nodes r r r.source
            (bytes_beside s.regions s.memory run.content run.first run.count id r are run.free run.some run.len (run_fits run) other.1 live) refl
            (holds id r other.1 live)
      ])

  more_copies : OneMore s want m → AllHold m.map_state.regions m.map_state.memory nodes
  more_copies one =
      let v : Region = used one.region in
      rw (one.regions, one.memory) (λ id r there live. elim (after_set s.regions one.region.first id v r there) [
        | inl here ↦
            subst (λ (x : Region). HasSource s.memory nodes x x.source) (sym here.1)
            (has_as s.memory s.memory nodes one.region v one.region.source refl refl (holds one.region.first one.region one.there one.live))
        | inr other ↦ holds id r other.1 live
      ])

  -- the bytes that are mapped

  asked_is : (w : Want) → asked_bytes (bytes_of_file nodes (file_in w)) w ≡ wanted_bytes nodes w
  asked_is (Anon pages) = refl
  asked_is (File pages first write id change) = refl

  fresh_bytes : FreshRun s (bytes_of_file nodes (file_in want)) want m → pages_at m.map_state.memory (page_at m.addr) (pages_of want) ≡ wanted_bytes nodes want
  fresh_bytes run =
      let place : page_at (page_address run.first) ≡ run.first = omega arith in
      rw (run.memory, run.addr, place, ← run.wanted.1) (run_bytes run ∙ run.wanted.0 ∙ asked_is want)

  -- byte by byte
  shared_byte : (one : OneMore s want m) (n : Inode) → inode_at nodes one.shares.file ≡ Some n → n.change ≡ one.shares.change → (i : ℕ) → i < 4096 * one.count →
      get_or (file_pages (bytes_of_file nodes one.shares.file) one.shares.from one.count) i 0 ≡ get_or s.memory (4096 * (one.region.first + one.skip) + i) 0
  shared_byte one n node count i less =
      copy_byte s.memory nodes one.region one.shares.file one.shares.change one.shares.from one.count one.shares.covered
      (holds one.region.first one.region one.there one.live) n node count i less
      ∙ ap (λ (k : ℕ). get_or s.memory (4096 * (one.region.first + k) + i) 0) (sym one.shares.skipped)

  shared_bytes : (one : OneMore s want m) (n : Inode) → inode_at nodes one.shares.file ≡ Some n → n.change ≡ one.shares.change →
      pages_at s.memory (one.region.first + one.skip) one.count ≡ file_pages (bytes_of_file nodes one.shares.file) one.shares.from one.count
  shared_bytes one n node count =
      let at : ℕ = 4096 * (one.region.first + one.skip) in
      let inside = are.inside one.region.first one.region one.there one.live in
      let fits = one.fits in
      let short = length-take (4096 * one.count) (drop at s.memory) in
      let rest = length-drop at s.memory in
      let pages = length-file_pages (bytes_of_file nodes one.shares.file) one.shares.from one.count in
      let len : length (pages_at s.memory (one.region.first + one.skip) one.count) ≡ 4096 * one.count = omega (arith, short, rest, inside, fits, whole) in
      ext_get_or 0 (pages_at s.memory (one.region.first + one.skip) one.count) (file_pages (bytes_of_file nodes one.shares.file) one.shares.from one.count) (len ∙ sym pages) (λ i less.
      let low : i < 4096 * one.count = omega (arith, less, len) in
      get_or-take (4096 * one.count) (drop at s.memory) i 0 low ∙ get_or-drop at s.memory i 0 ∙ sym (shared_byte one n node count i low))

  more_bytes : IsKnown nodes want → OneMore s want m → pages_at m.map_state.memory (page_at m.addr) (pages_of want) ≡ wanted_bytes nodes want
  more_bytes known one =
      let sh = one.shares in
      let there : IsKnown nodes (File one.count sh.from false sh.file sh.change) = subst (IsKnown nodes) sh.want known in
      let place : page_at (page_address (one.region.first + one.skip)) ≡ one.region.first + one.skip = omega arith in
      rw (one.memory, one.addr, place)
      (subst (λ (w : Want). pages_at s.memory (one.region.first + one.skip) (pages_of w) ≡ wanted_bytes nodes w) (sym sh.want)
      (shared_bytes one there.0 there.1 there.2))

-- ---- what `map` leaves

pub all_hold : (s new : MapState) (kind : Kind) (nodes : Inodes) (want : Want) (result : Result ℕ MapFault) → AsksPages want → AreRegions s.regions
    → length s.memory ≡ 4096 * length s.regions → AllHold s.regions s.memory nodes
    → Maps (mapped s kind (bytes_of_file nodes (file_in want)) want) s new result → AllHold new.regions new.memory nodes
all_hold s new kind nodes want result asks are whole holds = at (mapped s kind (bytes_of_file nodes (file_in want)) want) refl result
  where
    at : (o : Option Mapped) → mapped s kind (bytes_of_file nodes (file_in want)) want ≡ o → (result : Result ℕ MapFault) → Maps o s new result
        → AllHold new.regions new.memory nodes
    at (Some m) is (Ok addr) maps =
        subst (λ (x : MapState). AllHold x.regions x.memory nodes) (sym maps.1) (elim (change s kind (bytes_of_file nodes (file_in want)) want m asks are is) [
          | inl run ↦ fresh_copies s nodes want m are whole holds run
          | inr one ↦ more_copies s nodes want m are whole holds one
        ])
    at (Some m) is (Err Enomem) maps = absurd maps
    at (Some m) is (Err Memory) maps = subst (λ (x : MapState). AllHold x.regions x.memory nodes) (sym maps) holds
    at None is (Ok addr) maps = absurd maps
    at None is (Err Enomem) maps = subst (λ (x : MapState). AllHold x.regions x.memory nodes) (sym maps) holds
    at None is (Err Memory) maps = subst (λ (x : MapState). AllHold x.regions x.memory nodes) (sym maps) holds

pub has_wanted : (s new : MapState) (kind : Kind) (nodes : Inodes) (want : Want) (result : Result ℕ MapFault) → AsksPages want → AreRegions s.regions
    → length s.memory ≡ 4096 * length s.regions → AllHold s.regions s.memory nodes → IsKnown nodes want
    → Maps (mapped s kind (bytes_of_file nodes (file_in want)) want) s new result
    → IfOk result (λ addr. pages_at new.memory (page_at addr) (pages_of want) ≡ wanted_bytes nodes want)
has_wanted s new kind nodes want result asks are whole holds known = at (mapped s kind (bytes_of_file nodes (file_in want)) want) refl result
  where
    bytes : (m : Mapped) → mapped s kind (bytes_of_file nodes (file_in want)) want ≡ Some m
        → pages_at m.map_state.memory (page_at m.addr) (pages_of want) ≡ wanted_bytes nodes want
    bytes m is = elim (change s kind (bytes_of_file nodes (file_in want)) want m asks are is) [
      | inl run ↦ fresh_bytes s nodes want m are whole holds run
      | inr one ↦ more_bytes s nodes want m are whole holds known one
    ]

    at : (o : Option Mapped) → mapped s kind (bytes_of_file nodes (file_in want)) want ≡ o → (result : Result ℕ MapFault) → Maps o s new result
        → IfOk result (λ addr. pages_at new.memory (page_at addr) (pages_of want) ≡ wanted_bytes nodes want)
    at (Some m) is (Ok addr) maps = rw (maps.0, maps.1) (bytes m is)
    at (Some m) is (Err fault) maps = tt
    at None is (Ok addr) maps = absurd maps
    at None is (Err fault) maps = tt
