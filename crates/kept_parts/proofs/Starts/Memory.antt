-- What the start of a program leaves of the one memory: its block with its header, over the blocks of those before it, and else zeros.
use Rattle.std.proofs.Common.{◌≡◌, ℕ, ◌+◌, ◌*◌, ◌<◌, ◌≤◌, true, false, List, [], ◌∷◌, length, take, arith, sym, ap, subst, ◌∙◌, length-set}
use Rattle.std.specs.Prelude.{Some, None, slice_get, slice_range, if◌then◌else◌, ◌&&◌, nat_le, nat_lt}
use Rattle.std.proofs.lemmas.Bool.Decides.{nat_tests}
use Rattle.byte_words.specs.ByteMap.{Bytes}
use Rattle.phys_mem.specs.Memory.{place as place_of}
use Rattle.page_runs.specs.declared.place.Kind.{Kind}
use Rattle.page_runs.specs.Pages.{in_run}
use Rattle.call_log.specs.Notes.{Note, load_note}
use Rattle.mmap_rules.specs.Space.{memory_base}
use Rattle.mmap_rules.specs.Held.{page_address}
use Rattle.region_watch.specs.Private.{physical}
use Rattle.bflt_format.specs.Values.{Values}
use Rattle.bflt_format.specs.Spelling.{spell}
use Rattle.flat_loader.specs.Original.{flat_original, header_len, block_pages}
use Rattle.flat_loader.specs.Begin.{Loading, in_block, begin_space}
use Rattle.flat_loader.specs.Loads.{block_region, page_loading}
use Rattle.machine_world.specs.World.{LiveSpace}
use Rattle.memory_world.specs.Physical.{or_below, bytes_in, all_headed, first_memory}
use Rattle.kept_parts.specs.Kept.{Kept}
use Rattle.kept_parts.specs.Regular.{Regular}
use Rattle.kept_parts.specs.Stands.{About, live_spaces, world_of}
use Rattle.kept_parts.specs.InMemory.{header_of, LaysOn}
use Rattle.kept_parts.specs.Starts.{LeavesOtherBytes}
use Rattle.kept_parts.proofs.Common.SpacesApart.{page_of}
use Rattle.kept_parts.proofs.Common.FreeBytes.{spaces_none}
use Rattle.kept_parts.proofs.Starts.Loaded.{Placed, placed_by, spaces_begin}
use Rattle.kept_parts.proofs.Starts.BlockBytes.{block_bytes}
use Rattle.kept_parts.proofs.Starts.World.{with_program, Begun}

-- so many pages of zeros
abbrev zeros_in : ℕ → Bytes
zeros_in pages at = if nat_le memory_base at && nat_lt at (memory_base + 4096 * pages) then Some 0 else None

module _ (headers : List (List ℕ)) (a : About) (k : Kept) (regular : Regular k) (index : ℕ) (f : Values) (args : List (List ℕ)) (page : ℕ) (mem : List ℕ)
    (loaded : Placed k regular f args [] page mem)
    (header : slice_range mem (place_of (page_address page)) (place_of (page_address page) + header_len) ≡ take header_len (spell f))
    (listed : slice_get headers index ≡ Some (header_of f)) (before : physical k.mem ≡ first_memory headers (world_of a k)) where
  abbrev loading : Loading
  loading = page_loading f page args []

  abbrev note : Note
  note = load_note (record { pid = k.procs.next_pid; program = index; base = page_address page; pages = block_pages (flat_original f) })

  abbrev begun : LiveSpace
  begun = record { id = length k.spaces; space = begin_space loading }

  abbrev under : ℕ → Bytes
  under pages = all_headed headers k.notes (zeros_in pages)

  -- a byte of the block lies in a page that was free
  none_inside : (at : ℕ) → in_block (page_loading f page args []) at ≡ true → bytes_in (live_spaces k.mem k.spaces) at ≡ None
  none_inside at inside =
      let pages : ℕ = block_pages (flat_original f) in
      let low : page_address page ≤ at = grind (arith, nat_tests, inside) in
      let high : at < page_address page + 4096 * block_pages (flat_original f) = grind (arith, nat_tests, inside) in
      let first : page ≤ page_of at = omega (arith, low) in
      let last : page_of at < page + block_pages (flat_original f) = omega (arith, low, high) in
      let run : in_run page (block_pages (flat_original f)) (page_of at) ≡ true = grind (arith, nat_tests, first, last) in
      spaces_none k regular at k.mem (loaded.free.free (page_of at) run)

  stood : (at : ℕ) → or_below (bytes_in (live_spaces k.mem k.spaces) at) (under (length k.regions) at) ≡ physical k.mem at
  unfolding first_memory world_of
  stood at = ap (λ (m : Bytes). m at) (sym before)

  byte_then : (at : ℕ) → or_below (bytes_in (begun ∷ live_spaces k.mem k.spaces) at) (all_headed headers (note ∷ k.notes) (zeros_in (length k.regions)) at) ≡ physical mem at
  unfolding begin_space
  byte_then at =
      rw listed (block_bytes k regular f args [] page mem loaded header (bytes_in (live_spaces k.mem k.spaces) at) (under (length k.regions)) at (none_inside at) (λ outside. stood at))

  pub lays : physical mem ≡ first_memory headers (world_of a (with_program k index f args page mem))
  unfolding first_memory world_of
  lays =
      (λ i at. sym (byte_then at) i)
      ∙ (λ i at. or_below (bytes_in (sym (spaces_begin k regular f args [] page mem loaded) i) at)
      (all_headed headers (note ∷ k.notes) (zeros_in (sym (length-set k.regions page (block_region page (block_pages (flat_original f)))) i)) at))

-- by what the calls left
pub lays_by : (old k n : Kept) → k ≡ old → Regular k → (kind : Kind) (index : ℕ) (f : Values) (args : List (List ℕ)) → Begun k n kind index f args →
    (headers : List (List ℕ)) → slice_get headers index ≡ Some (header_of f) → LaysOn headers old n
lays_by old k n view regular kind index f args b headers listed =
    subst (λ (x : Kept). LaysOn headers x n) view
    (λ a before. lays headers a k regular index f args b.is.page n.mem (placed_by kind k regular f args [] n.regions n.mem b.loaded b.is) b.is.stands.header listed before
    ∙ ap (λ (x : Kept). first_memory headers (world_of a x)) (sym b.new))

pub others_by : (old k n : Kept) → k ≡ old → (kind : Kind) (index : ℕ) (f : Values) (args : List (List ℕ)) → Begun k n kind index f args → LeavesOtherBytes old n
others_by old k n view kind index f args b l noted at outside =
    let now : List Note = (with_program k index f args b.is.page n.mem).notes in
    let same : load_note l ∷ old.notes ≡ now = sym noted ∙ ap (λ (x : Kept). x.notes) b.new in
    let base : l.base ≡ page_address b.is.page = cc in
    let pages : l.pages ≡ block_pages (flat_original f) = cc in
    let free : in_block (page_loading f b.is.page args []) at ≡ false = grind (arith, nat_tests, base, pages, outside) in
    b.is.stands.others at free ∙ ap (λ (x : Kept). physical x.mem at) view
