-- A program that is loaded beside the live spaces: the run that is taken, the space with which it begins, and the bytes of the others, which stay.
use Rattle.std.proofs.Common.{◌≡◌, ℕ, suc, ◌+◌, ◌-◌, ◌*◌, ◌/◌, ◌^◌, ◌<◌, ◌≤◌, Bool, true, false, List, [], ◌∷◌, ◌++◌, length, arith, refl, sym, ap, ◌∙◌, length-set}
use Rattle.std.specs.Prelude.{Option, Some, None, slice_get, if◌then◌else◌, ◌||◌}
use Rattle.std.proofs.lemmas.Bool.{false≢true}
use Rattle.std.proofs.lemmas.Bool.Decides.{nat_tests}
use Rattle.byte_words.specs.ByteMap.{byte_of}
use Rattle.page_runs.specs.declared.place.Kind.{Kind}
use Rattle.page_runs.specs.declared.run.Run.{Run}
use Rattle.page_runs.specs.Pages.{in_run}
use Rattle.page_runs.specs.Place.{place, first_of}
use Rattle.nommu_regions.specs.declared.region.Region.{Region}
use Rattle.nommu_regions.specs.declared.region.Source.TheVariants.{Own}
use Rattle.nommu_regions.specs.Regions.{AreFree, free_of}
use Rattle.nommu_regions.proofs.Held.{held_by}
use Rattle.mmap_rules.specs.declared.mapping.Mapping.{Mapping}
use Rattle.mmap_rules.specs.Space.{Space, memory_base, in_range, own_in}
use Rattle.mmap_rules.specs.Held.{Held, page_address}
use Rattle.region_watch.specs.Private.{only, physical}
use Rattle.bflt_format.specs.Values.{Values}
use Rattle.flat_loader.specs.Original.{Original, flat_original, block_pages}
use Rattle.flat_loader.specs.Begin.{Loading, own_range, in_block, begin_byte, begin_bytes, begin_space}
use Rattle.flat_loader.specs.Loads.{block_page, block_region, held_begin, page_loading, IsLoaded}
use Rattle.flat_loader.specs.declared.loaded.Loaded.{Loaded}
use Rattle.machine_world.specs.World.{LiveSpace}
use Rattle.machine_world.specs.Free.{free}
use Rattle.machine_world.specs.Found.{taken}
use Rattle.kept_parts.specs.Kept.{Kept}
use Rattle.kept_parts.specs.Regular.{Regular}
use Rattle.kept_parts.specs.Stands.{About, private_bytes, private_of, live_at, live_from, live_spaces, world_of}
use Rattle.call_bytes.proofs.Places.{is_false, any_at}
use Rattle.kept_parts.proofs.Common.SpacesApart.{page_of, page_there, has_held}
use Rattle.kept_parts.proofs.Common.FreePages.{free_is}
use Rattle.kept_parts.proofs.Common.FoundInWorld.{others_same}
use Rattle.kept_parts.proofs.Starts.Regular.{Fits}

-- ---- the run that is taken

pub taken_is : (a : About) (k : Kept) → Regular k → (kind : Kind) → a.kind ≡ kind → (need : ℕ) → taken (world_of a k) need (free (world_of a k)) ≡ block_page kind k.regions need
unfolding world_of
taken_is a k regular kind same need =
    ap (λ (runs : List Run). first_of runs (place a.kind runs need)) (free_is a k regular)
    ∙ ap (λ (of : Kind). first_of (free_of k.regions).runs (place of (free_of k.regions).runs need)) same

-- ---- the spaces

-- a space more
live_more : (mem : List ℕ) (i : ℕ) (spaces : List (Option Held)) (h : Held)
    → live_from mem i (spaces ++ Some h ∷ []) ≡ record { id = i + length spaces; space = private_of mem h } ∷ live_from mem i spaces
live_more mem i [] h = ap (λ (n : ℕ). record { id = n; space = private_of mem h } ∷ []) (let e : i ≡ i + 0 = omega arith in e)
live_more mem i (s ∷ spaces) h =
    ap (λ (ss : List LiveSpace). ss ++ live_at mem i s) (live_more mem (i + 1) spaces h)
    ∙ ap (λ (n : ℕ). record { id = n; space = private_of mem h } ∷ (live_from mem (i + 1) spaces ++ live_at mem i s))
    (let n = length spaces in let e : i + 1 + n ≡ i + suc n = omega arith in e)

-- newest first, where the bytes of all that stood stay
pub push_space : (mem now : List ℕ) (spaces : List (Option Held)) (h : Held)
    → ((j : ℕ) (o : Held) → slice_get spaces j ≡ Some (Some o) → private_bytes now o ≡ private_bytes mem o)
    → live_spaces now (spaces ++ Some h ∷ []) ≡ record { id = length spaces; space = private_of now h } ∷ live_spaces mem spaces
unfolding live_spaces
push_space mem now spaces h others =
    live_more now 0 spaces h
    ∙ ap (λ (n : ℕ). record { id = n; space = private_of now h } ∷ live_from now 0 spaces) (let n = length spaces in let e : 0 + n ≡ n = omega arith in e)
    ∙ ap (λ (ss : List LiveSpace). record { id = length spaces; space = private_of now h } ∷ ss) (sym (others_same mem now spaces 0 others))

cut : (own : Bool) (x : Option ℕ) (y : ℕ) → (own ≡ true → x ≡ (if own then Some y else None)) → (if own || false then x else None) ≡ (if own then Some y else None)
cut true x y same = same refl
cut false x y same = refl

kept : (own : Bool) (x y : Option ℕ) → (own ≡ true → x ≡ y) → (if own then x else None) ≡ (if own then y else None)
kept true x y same = same refl
kept false x y same = refl

pub some_pages : (o : Original) → 0 < block_pages o
unfolding block_pages
some_pages o = omega arith

module _ (k : Kept) (regular : Regular k) (f : Values) (args env : List (List ℕ)) (page : ℕ) where
  abbrev loading : Loading
  loading = page_loading f page args env

  abbrev held : Held
  held = held_begin (length k.regions) (page_loading f page args env)

  abbrev mapping : Mapping
  mapping = record { first = page; pages = block_pages (flat_original f); range = own_range (page_loading f page args env); source = Own }

  -- ---- the new space

  maps_begin : held.maps ≡ mapping ∷ []
  unfolding begin_space
  maps_begin =
      ap (λ (n : ℕ). record { first = n; pages = block_pages (flat_original f); range = own_range (page_loading f page args env); source = Own } ∷ [])
      (let e : (page_address page - 2 ^ 31) / 4096 ≡ page = omega arith in e)

  pub fits : AreFree k.regions page (block_pages (flat_original f)) → Fits k.regions (block_region page (block_pages (flat_original f))) (held_begin (length k.regions) (page_loading f page args env))
  fits free_pages =
      let some = some_pages (flat_original f) in
      record {
        free = free_pages;
        some = some;
        one = refl;
        own = refl;
        mapping = mapping;
        maps = maps_begin;
        first = refl;
        run = refl;
        source = refl;
        from = omega arith;
        to = omega (arith, some);
        pages = refl;
      }

  bytes_begin : (mem : List ℕ) → ((a : ℕ) → in_range (own_range loading) a ≡ true → byte_of memory_base mem a ≡ begin_bytes loading a)
      → private_bytes mem held ≡ begin_bytes loading
  unfolding private_bytes only own_in
  bytes_begin mem own =
      ap (λ (maps : List Mapping). only (own_in maps) (physical mem)) maps_begin
      ∙ (λ i a. cut (in_range (own_range loading) a) (physical mem a) (begin_byte loading a) (own a) i)

  space_begins : (mem : List ℕ) → ((a : ℕ) → in_range (own_range loading) a ≡ true → byte_of memory_base mem a ≡ begin_bytes loading a)
      → private_of mem held ≡ begin_space loading
  unfolding begin_space
  space_begins mem own = λ i. record {
    maps = held.maps;
    brk = held.brk;
    brk_low = held.brk_low;
    brk_high = held.brk_high;
    bytes = bytes_begin mem own i;
  }

  -- ---- the others

  -- no byte of a live space lies in pages that were free
  beside_block : AreFree k.regions page (block_pages (flat_original f)) → (j : ℕ) (o : Held) → slice_get k.spaces j ≡ Some (Some o) → (a : ℕ)
      → own_in o.maps a ≡ true → in_block loading a ≡ false
  unfolding own_in
  beside_block free_pages j o is a own = is_false (in_block loading a) (λ inside.
      let m = any_at (λ (m : Mapping). in_range m.range a) o.maps own in
      let names = regular.names j m.place o m.item is m.there in
      let has = page_there k.regions m.item a names m.passes in
      let held_there = held_by k.regions m.item.first names.region (page_of a) names.there
      (has_held k regular j m.place o m.item (page_of a) is m.there names has) in
      let low : page_address page ≤ a = grind (arith, nat_tests, inside) in
      let high : a < page_address page + 4096 * block_pages (flat_original f) = grind (arith, nat_tests, inside) in
      let first : page ≤ page_of a = omega (arith, low) in
      let last : page_of a < page + block_pages (flat_original f) = omega (arith, low, high) in
      let run : in_run page (block_pages (flat_original f)) (page_of a) ≡ true = grind (arith, nat_tests, first, last) in
      false≢true (sym (free_pages.free (page_of a) run) ∙ held_there))

  others_stay : AreFree k.regions page (block_pages (flat_original f)) → (mem : List ℕ)
      → ((a : ℕ) → in_block loading a ≡ false → byte_of memory_base mem a ≡ byte_of memory_base k.mem a)
      → (j : ℕ) (o : Held) → slice_get k.spaces j ≡ Some (Some o) → private_bytes mem o ≡ private_bytes k.mem o
  unfolding private_bytes only
  others_stay free_pages mem others j o is =
      λ i a. kept (own_in o.maps a) (physical mem a) (physical k.mem a) (λ own. others a (beside_block free_pages j o is a own)) i

  -- ---- the spaces

  -- what is known of the memory after the program was loaded
  pub record Placed (mem : List ℕ) : Type 0 where
    pub free : AreFree k.regions page (block_pages (flat_original f))
    pub own : (a : ℕ) → in_range (own_range (page_loading f page args env)) a ≡ true → byte_of memory_base mem a ≡ begin_bytes (page_loading f page args env) a
    pub others : (a : ℕ) → in_block (page_loading f page args env) a ≡ false → byte_of memory_base mem a ≡ byte_of memory_base k.mem a
    pub len : length mem ≡ length k.mem

  pub spaces_begin : (mem : List ℕ) → Placed mem
      → live_spaces mem (k.spaces ++ Some (held_begin (length k.regions) (page_loading f page args env)) ∷ [])
      ≡ record { id = length k.spaces; space = begin_space (page_loading f page args env) } ∷ live_spaces k.mem k.spaces
  spaces_begin mem loaded =
      push_space k.mem mem k.spaces held (others_stay loaded.free mem loaded.others)
      ∙ ap (λ (s : Space). record { id = length k.spaces; space = s } ∷ live_spaces k.mem k.spaces) (space_begins mem loaded.own)

-- memory has as many pages as it had
pub pages_loaded : (kind : Kind) (f : Values) (args env : List (List ℕ)) (rs : List Region) (mem : List ℕ) (now : List Region) (after : List ℕ) (loaded : Loaded)
    → IsLoaded kind f args env rs mem now after loaded → length now ≡ length rs
pages_loaded kind f args env rs mem now after loaded is = ap (length {A = Region}) is.regions ∙ length-set rs is.page (block_region is.page (block_pages (flat_original f)))

-- what loading leaves
pub placed_by : (kind : Kind) (k : Kept) (regular : Regular k) (f : Values) (args env : List (List ℕ)) (regions : List Region) (mem : List ℕ) (loaded : Loaded)
    → (is : IsLoaded kind f args env k.regions k.mem regions mem loaded) → Placed k regular f args env is.page mem
placed_by kind k regular f args env regions mem loaded is = record { free = is.free; own = is.stands.own; others = is.stands.others; len = is.stands.len }
