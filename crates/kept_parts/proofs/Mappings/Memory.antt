-- What an mmap2 leaves of the one memory: where pages were free, the bytes of a run of its own; a copy that is shared leaves memory as it is.
use Rattle.std.proofs.Common.{◌≡◌, ℕ, zero, ◌+◌, ◌-◌, ◌*◌, ◌<◌, ◌≤◌, inl, inr, Bool, true, false, List, [], ◌∷◌, ◌++◌, length, map, arith, refl, sym, ap, subst, ◌∙◌}
use Rattle.std.specs.Prelude.{Option, Some, None, Result, Ok, Err, slice_get, slice_set, option_map, if◌then◌else◌}
use Rattle.std.proofs.lemmas.Bool.{cases_lt, false≢true}
use Rattle.std.proofs.lemmas.Bool.Decides.{nat_tests}
use Rattle.std.proofs.lemmas.Option.{same_Some, none-some}
use Rattle.std.proofs.lemmas.List.{length-replicate, length-set}
use Rattle.byte_words.specs.ByteMap.{Bytes, with_bytes}
use Rattle.byte_words.specs.Patches.{laid}
use Rattle.byte_words.proofs.ByteArrays.{byte_of-laid}
use Rattle.call_log.specs.Notes.{Note, call_note}
use Rattle.nommu_regions.specs.declared.region.Region.{Region}
use Rattle.nommu_regions.specs.declared.region.Source.{Source}
use Rattle.nommu_regions.specs.declared.region.Source.TheVariants.{Own, Copy}
use Rattle.nommu_regions.specs.Regions.{AreFree, covers, copy_of, with_uses, holds}
use Rattle.nommu_regions.proofs.Held.{held_by}
use Rattle.nommu_regions.proofs.Copies.{copy_lives, copy_covers_them}
use Rattle.mmap_rules.specs.declared.mapping.Mapping.{Mapping}
use Rattle.mmap_rules.specs.declared.want.Want.{Want}
use Rattle.mmap_rules.specs.declared.want.Want.TheVariants.{Anon, File}
use Rattle.mmap_rules.specs.declared.map_fault.MapFault.{MapFault}
use Rattle.mmap_rules.specs.declared.map_fault.MapFault.TheVariants as fault
use Rattle.mmap_rules.specs.Want.{AsksPages}
use Rattle.mmap_rules.specs.Copies.{IsKnown, wanted_bytes}
use Rattle.mmap_rules.specs.Space.{Space, memory_base, own_in}
use Rattle.mmap_rules.specs.Held.{Held, page_address}
use Rattle.mmap_rules.specs.Mappings.{run_mapping, part_mapping, copied_from}
use Rattle.mmap_rules.specs.MapState.{MapState, map_state, Mapped, in_fresh_run, in_copy_or_new, mapped, file_in, Maps}
use Rattle.mmap_rules.proofs.Change.{covered}
use Rattle.mmap_rules.proofs.FilePages.{length-file_pages}
use Rattle.mmap_rules.proofs.Fresh.{fresh_free}
use Rattle.mem_files.specs.Inodes.{bytes_of}
use Rattle.region_watch.specs.Private.{only, physical}
use Rattle.rv32im_step.specs.declared.regs.Regs.{Regs}
use Rattle.vfork_exec.specs.declared.entry.Entry.{Entry}
use Rattle.vfork_exec.specs.Keyed.{find, change}
use Rattle.vfork_exec.specs.Procs.{Listed, Lives}
use Rattle.vfork_exec.proofs.Keyed.{change_map}
use Rattle.file_calls.specs.declared.call.Call.{Call}
use Rattle.file_calls.specs.Calls.{with_all}
use Rattle.machine_world.specs.World.{LiveSpace, Recording, World, id_of}
use Rattle.machine_world.specs.Asks.{Ask, Reply, Row, leaves}
use Rattle.machine_world.specs.MapCalls.{or_own, with_mapping, maps}
use Rattle.machine_world.specs.MapCalls.{mapped as mapped_row}
use Rattle.machine_world.specs.Event.{Trace, with_space, entry_of, item_of, replied, replied_world, room_for, served, answered}
use Rattle.memory_world.specs.Physical.{Physical, After, after, or_below, shown_space, showing, bytes_in, is_free_at, laid_behind, behind, carried}
use Rattle.kept_parts.specs.declared.task.Task.{Task}
use Rattle.kept_parts.specs.Kept.{Kept}
use Rattle.kept_parts.specs.Regular.{Regular}
use Rattle.kept_parts.specs.Stands.{About, later, private_bytes, private_of, process_of, world_of, OthersSame}
use Rattle.kept_parts.specs.Calls.{LivesIn, IsCall, RoomFor, ask_in, noted_entry, noted_call, with_task}
use Rattle.kept_parts.specs.Recorded.{call_recorded}
use Rattle.kept_parts.specs.MapsIn.{MapsIn, IsAddress, IsAsked}
use Rattle.kept_parts.specs.declared.served.Served.TheVariants.{Replied}
use Rattle.kept_parts.specs.InMemory.{physical_of, GoesIn}
use Rattle.kept_parts.proofs.Common.FoundInWorld.{find_space}
use Rattle.kept_parts.proofs.Common.RunningProcess.{runs_in}
use Rattle.kept_parts.proofs.Common.NextWorlds.{moved_world, moved_lives}
use Rattle.kept_parts.proofs.Replies.Finished.{Finishes}
use Rattle.kept_parts.proofs.Mappings.Brought.{Brought, brought_there, brought_nowhere}
use Rattle.kept_parts.proofs.Common.ShownBytes.{showing_of}
use Rattle.kept_parts.proofs.Common.SpacesApart.{page_of}
use Rattle.kept_parts.proofs.Common.FreeBytes.{below_with, bytes_changed, own_none, page_free, bytes_none, beside_run}
use Rattle.kept_parts.proofs.Mappings.Bytes.{Beside, with_beside, others_beside}
use Rattle.kept_parts.proofs.Mappings.Choice.{lowest_copy, own_choice, chosen, free_page, own_is}
use Rattle.kept_parts.proofs.Mappings.World.{length-with_uses, shared_is, world_copy, none_there, map_refused}

-- what was carried out is an answer of the process
pub changed_goes : (headers : List (List ℕ)) (a : About) (x : After) (old new : Kept) (pid : ℕ) → x ≡ after (physical_of headers (later 1 a) new) false → Lives new.procs pid →
    GoesIn headers a x old new pid Replied
changed_goes headers a x old new pid is lives = subst (λ (y : After). GoesIn headers a y old new pid Replied) (sym is) (refl, (refl, lives))

-- who has its reply lives
pub lives_finished : (k : Kept) (pid : ℕ) → Regular k → Lives k.procs pid → (value : ℕ) (procs : Listed Task) → Finishes k pid value procs → Lives procs pid
lives_finished k pid regular lives value procs finishes =
    let r = runs_in k pid regular lives in
    let e : Entry Task = r.0 in
    subst (λ (ps : Listed Task). Lives ps pid) (sym (finishes e.value (ap (option_map (λ (x : Entry Task). x.value)) r.1.1.lives)))
    (moved_lives k pid e r.1.0 r.1.1 (replied e.value.regs value) r.1.0 k.mem)

-- ---- what an event leaves, by its memory and its world

pub behind_is : (headers : List (List ℕ)) (a : About) (old new : Kept) (now : World) (t : Trace) →
    laid_behind (physical_of headers a old) (physical old.mem) now t ≡ physical new.mem → showing (physical new.mem) now ≡ world_of (later 1 a) new →
    behind (physical_of headers a old) (physical old.mem) now t ≡ physical_of headers (later 1 a) new
unfolding physical_of
behind_is headers a old new now t laid shown =
    ap (λ (m : Bytes). record { world = showing m now; memory = m; headers = headers }) laid
    ∙ ap (λ (w : World). record { world = w; memory = physical new.mem; headers = headers }) shown

-- a call that the log has room for
served_carried : (p : Physical) (m : Bytes) (w : World) (ask : Ask) (r : Reply) (bytes : Bytes) → room_for w ask r ≡ true →
    carried p m (served w ask r bytes)
    ≡ after (behind p m
    (replied_world (record w { rest = r.rest }) ask r bytes)
    (record { space = ask.process.space; events = 1; items = item_of (entry_of ask r.value r.got) bytes ∷ []; begins = None; over = r.over })) r.over
unfolding served
served_carried p m w ask r bytes room = rw room refl

-- spaces of which one becomes another one show the same where that one does
shown_changed : (m : Bytes) (n : ℕ) (x y : Space) (spaces : List LiveSpace) → record x { bytes = only (own_in x.maps) m } ≡ record y { bytes = only (own_in y.maps) m } →
    map (shown_space m) (change id_of n (λ (l : LiveSpace). record l { space = x }) spaces) ≡ map (shown_space m) (change id_of n (λ (l : LiveSpace). record l { space = y }) spaces)
shown_changed m n x y spaces same =
    let show : (z : Space) → map (shown_space m) (change id_of n (λ (l : LiveSpace). record l { space = z }) spaces)
    ≡ change id_of n (λ (l : LiveSpace). record l { space = record z { bytes = only (own_in z.maps) m } }) (map (shown_space m) spaces) =
    λ z. change_map id_of id_of n (shown_space m) (λ l. refl) (λ (l : LiveSpace). record l { space = z }) (λ (l : LiveSpace). record l { space = record z { bytes = only (own_in z.maps) m } }) (λ l. refl) spaces in
    show x ∙ ap (λ (z : Space). change id_of n (λ (l : LiveSpace). record l { space = z }) (map (shown_space m) spaces)) same ∙ sym (show y)

-- ---- memory behind it: at free addresses what the caller's space has then, else what stood there

pub record Brings (a : About) (k : Kept) (space : Space) (mem : List ℕ) : Type 0 where
  pub free : (at : ℕ) → is_free_at (world_of a k) at ≡ true → or_below (space.bytes at) (physical k.mem at) ≡ physical mem at
  pub held : (at : ℕ) → is_free_at (world_of a k) at ≡ false → physical k.mem at ≡ physical mem at

module _ (headers : List (List ℕ)) (a : About) (k : Kept) (regular : Regular k) (e : Entry Task) (h : Held) (call : Call) (runs : LivesIn k call.pid e h) (is_call : IsCall e call)
    (value : ℕ) (spaces : List (Option Held)) (rs : List Region) (procs : Listed Task) (notes : List Note)
    (finishes : Finishes k call.pid value procs) (noted_is : notes ≡ noted_call call value [] ∷ k.notes) (recording : Recording) where
  abbrev ask : Ask
  ask = ask_in a k e h call

  abbrev regs : Regs
  regs = replied e.value.regs value

  module _ (space : Space) (mem : List ℕ) (held : Held) (same : record space { bytes = only (own_in space.maps) (physical mem) } ≡ private_of mem held)
      (others : OthersSame k e.value.space mem) (pages : length rs ≡ length k.regions) (brings : Brings a k space mem)
      (recorded : recording ≡ call_recorded k.recording e.value.space (noted_entry call value []) space.bytes) where
    abbrev then_recording : Recording
    then_recording = call_recorded k.recording e.value.space (noted_entry call value []) space.bytes

    abbrev then_world : Space → World
    then_world s = record (with_space (record (world_of a k) { rest = with_all (world_of a k).rest k.tree k.files k.console }) (process_of e) regs s) {
      notes = noted_call call value [] ∷ k.notes;
      events = a.events + 1;
      recording = then_recording;
    }

    abbrev reply : Reply
    reply = record { value = value; got = []; rest = ask.rest; space = space; over = false }

    abbrev went_world : World
    went_world = replied_world (world_of a k) ask reply space.bytes

    abbrev then_kept : Kept
    then_kept = record (with_task k call.pid e held mem regs) { regions = rs; notes = noted_call call value [] ∷ k.notes; recording = then_recording }

    entry_same : entry_of ask value [] ≡ noted_entry call value []
    entry_same = λ i. record { pid = sym is_call.pid i; call = sym is_call.number i; args = sym is_call.args i; sent = call.sent.items; reply = value; got = [] }

    went_is : went_world ≡ then_world space
    unfolding world_of
    went_is = λ i. record (then_world space) {
      notes = call_note (entry_same i) ∷ k.notes;
      recording = call_recorded k.recording e.value.space (entry_same i) space.bytes;
    }

    shown_then : showing (physical mem) went_world ≡ world_of (later 1 a) then_kept
    unfolding private_bytes world_of
    shown_then =
        ap (showing (physical mem)) went_is
        ∙ ap (λ (ss : List LiveSpace). record (then_world space) { spaces = ss })
        (shown_changed (physical mem) e.value.space space (private_of mem held) (world_of a k).spaces same)
        ∙ ap (λ (w : World). showing (physical mem) (record w { recording = then_recording })) (sym (moved_world k call.pid e h runs regs held mem others rs pages k.starts a 1 (noted_call call value [] ∷ k.notes) k.tree k.files k.console))
        ∙ showing_of (later 1 a) then_kept

    there : find id_of e.value.space (world_of a k).spaces ≡ Some (record { id = e.value.space; space = private_of k.mem h })
    unfolding world_of
    there = find_space k.mem k.spaces e.value.space h runs.home

    byte_then : (at : ℕ) (free : Bool) → is_free_at (world_of a k) at ≡ free → or_below (if free then bytes_in went_world.spaces at else None) (physical k.mem at) ≡ physical mem at
    byte_then at true is =
        ap (λ (v : Option ℕ). or_below v (physical k.mem at)) (bytes_changed e.value.space space at (world_of a k).spaces _ there (bytes_none k regular at a is)) ∙ brings.free at is
    byte_then at false is = brings.held at is

    laid_then : (t : Trace) → t.begins ≡ None → laid_behind (physical_of headers a k) (physical k.mem) went_world t ≡ physical mem
    unfolding laid_behind physical_of only
    laid_then t nothing = rw nothing (λ i at. byte_then at (is_free_at (world_of a k) at) refl i)

    kept_is : spaces ≡ slice_set k.spaces e.value.space (Some held) → then_kept ≡ record k { mem = mem; regions = rs; spaces = spaces; procs = procs; notes = notes; recording = recording }
    kept_is moves = λ i. record k {
      mem = mem;
      regions = rs;
      spaces = sym moves i;
      procs = sym (finishes e.value (ap (option_map (λ (x : Entry Task). x.value)) runs.lives)) i;
      notes = sym noted_is i;
      recording = sym recorded i;
    }

    moved_in : (r : Row) → r ≡ leaves ask value space → RoomFor (world_of a k) (ask_in a k e h call) r → spaces ≡ slice_set k.spaces e.value.space (Some held) →
        carried (physical_of headers a k) (physical k.mem) (answered (world_of a k) (ask_in a k e h call) r)
        ≡ after (physical_of headers (later 1 a) (record k { mem = mem; regions = rs; spaces = spaces; procs = procs; notes = notes; recording = recording })) false
    moved_in r rows room moves =
        let t : Trace = record { space = e.value.space; events = 1; items = item_of (entry_of ask value []) space.bytes ∷ []; begins = None; over = false } in
        ap (λ (x : Row). carried (physical_of headers a k) (physical k.mem) (answered (world_of a k) ask x)) rows
        ∙ served_carried (physical_of headers a k) (physical k.mem) (world_of a k) ask reply space.bytes (room reply rows)
        ∙ ap (λ (p : Physical). after p false) (behind_is headers a k then_kept went_world t (laid_then t refl) shown_then)
        ∙ ap (λ (n : Kept). after (physical_of headers (later 1 a) n) false) (kept_is moves)

-- ---- the world's choice, and what the code leaves, in every state

pub record Chosen (a : About) (k : Kept) (number : ℕ) (h : Held) (want : Want) (o : Option Mapping) (m : Mapped) : Type 0 where
  pub mapping : Mapping
  pub chosen : o ≡ Some mapping
  pub addr : m.addr ≡ mapping.range.from
  pub held : m.map_state.held ≡ record h { maps = h.maps ++ mapping ∷ [] }
  pub others : OthersSame k number m.map_state.memory
  pub pages : length m.map_state.regions ≡ length k.regions
  pub below : mapping.range.from < 0xfffff001
  pub brings : Brings a k (with_mapping (private_of k.mem h) mapping (wanted_bytes k.tree want)) m.map_state.memory

module _ (a : About) (k : Kept) (regular : Regular k) (number : ℕ) (h : Held) (home : slice_get k.spaces number ≡ Some (Some h)) where
  -- bytes laid over memory at free addresses
  brings_laid : (mapping : Mapping) (bytes : List ℕ) (mem : List ℕ) →
      ((at : ℕ) → is_free_at (world_of a k) at ≡ true → with_bytes (physical k.mem) mapping.range.from bytes at ≡ physical mem at) →
      ((at : ℕ) → is_free_at (world_of a k) at ≡ false → physical k.mem at ≡ physical mem at) → Brings a k (with_mapping (private_of k.mem h) mapping bytes) mem
  brings_laid mapping bytes mem free held = record {
    free = λ at is.
        below_with (private_bytes k.mem h) (physical k.mem) mapping.range.from bytes at (own_none k regular at k.mem number h home (page_free k regular at a is)) ∙ free at is;
    held = held;
  }

  -- none
  brings_none : Brings a k (private_of k.mem h) k.mem
  brings_none = record {
    free = λ at is. ap (λ (v : Option ℕ). or_below v (physical k.mem at)) (own_none k regular at k.mem number h home (page_free k regular at a is));
    held = λ at is. refl;
  }

  -- a run of its own
  module _ (want : Want) (count : ℕ) (writes anonymous : Bool) (source : Source) (some : 0 < count) (len : length (wanted_bytes k.tree want) ≡ 4096 * count)
      (o : Option Mapping) (own : o ≡ option_map (λ page. run_mapping page count writes anonymous source) (free_page a k count)) where
    new_chosen : (page : ℕ) → AreFree k.regions page count → free_page a k count ≡ Some page → Chosen a k number h want o (record {
      addr = page_address page;
      map_state = record {
        held = record h { maps = h.maps ++ run_mapping page count writes anonymous source ∷ [] };
        regions = slice_set k.regions page (record { first = page; pages = count; source = source; uses = 1 });
        memory = laid k.mem (4096 * page) (wanted_bytes k.tree want);
      };
    })
    new_chosen page free there =
        let bytes : List ℕ = wanted_bytes k.tree want in
        let fits : 4096 * page + length (wanted_bytes k.tree want) ≤ length k.mem = omega (arith, len, free.inside, regular.memory) in
        let now : (at : ℕ) → physical (laid k.mem (4096 * page) bytes) at ≡ with_bytes (physical k.mem) (page_address page) bytes at =
        λ at. ap (λ (f : Bytes). f at) (byte_of-laid memory_base k.mem (4096 * page) bytes fits) in
        record {
          mapping = run_mapping page count writes anonymous source;
          chosen = own ∙ ap (option_map (λ page. run_mapping page count writes anonymous source)) there;
          addr = refl;
          held = refl;
          others = λ j other ne is. others_beside k regular page count free bytes len fits j other is;
          pages = length-set k.regions page (record { first = page; pages = count; source = source; uses = 1 });
          below = omega (arith, free.inside, some, regular.most);
          brings = brings_laid (run_mapping page count writes anonymous source) bytes (laid k.mem (4096 * page) bytes)
              (λ at is. sym (now at))
              (λ at is. sym (now at
              ∙ with_beside (physical k.mem) (page_address page) bytes at (subst (λ (n : ℕ). Beside (page_address page) n at) (sym len) (beside_run k regular at a page count free is))));
        }

    fresh_chosen : (m : Mapped) → in_fresh_run (map_state h k.regions k.mem) a.kind count writes anonymous source (wanted_bytes k.tree want) ≡ Some m →
        Chosen a k number h want o m
    fresh_chosen m is = at (free_page a k count) refl
      where
        at : (page : Option ℕ) → free_page a k count ≡ page → Chosen a k number h want o m
        at None none = absurd (none-some m (rw none at is))
        at (Some page) there =
            subst (Chosen a k number h want o) (same_Some _ _ (rw there at is)) (new_chosen page (fresh_free k.regions a.kind count page some there) there)

  -- no byte of a live region's pages lies in a page that is free
  beside_copy : (id : ℕ) (r : Region) → slice_get k.regions id ≡ Some r → 0 < r.uses → (skip count : ℕ) → skip + count ≤ r.pages → (at : ℕ) → is_free_at (world_of a k) at ≡ true →
      Beside (page_address (r.first + skip)) (4096 * count) at
  beside_copy id r there live skip count fits at is = elim (cases_lt at (page_address (r.first + skip))) [
    | inl low ↦ inl low
    | inr from ↦ (elim (cases_lt at (page_address (r.first + skip) + 4096 * count)) [
      | inl within ↦ (
          let first : r.first ≤ page_of at = omega (arith, from) in
          let last : page_of at < r.first + r.pages = omega (arith, from, within, fits) in
          let has : holds r (page_of at) ≡ true = grind (arith, nat_tests, live, first, last) in
          absurd (false≢true (sym (page_free k regular at a is) ∙ held_by k.regions id r (page_of at) there has)))
      | inr past ↦ inr past
    ])
  ]

  -- a file's pages that aren't written
  module _ (pages first id change : ℕ) (asks : 0 < pages) (known : IsKnown k.tree (File pages first false id change)) where
    abbrev wanted : Want
    wanted = File pages first false id change

    shared_chosen : (copy : ℕ) (r : Region) → copy_of k.regions id change first pages ≡ Some copy → slice_get k.regions copy ≡ Some r → covers id change first pages r ≡ true →
        Chosen a k number h (File pages first false id change) (chosen a k (File pages first false id change)) (record {
          addr = page_address (r.first + (first - copied_from r.source));
          map_state = record {
            held = record h { maps = h.maps ++ part_mapping r.first r.pages r.source (first - copied_from r.source) pages ∷ [] };
            regions = with_uses k.regions r.first (λ uses. uses + 1);
            memory = k.mem;
          };
        })
    shared_chosen copy r is there has =
        let low = lowest_copy k regular id change first pages copy r is there has in
        let live : 0 < r.uses = grind (arith, nat_tests, has) in
        let c = covered r.source id change first pages r.pages (grind (arith, nat_tests, has)) in
        let start : copied_from r.source ≡ c.start = ap copied_from c.is in
        let inside = regular.regions.inside copy r there live in
        let skip : ℕ = first - copied_from r.source in
        let fits : (first - copied_from r.source) + pages ≤ r.pages = omega (arith, start, c.from, c.to) in
        let bytes : List ℕ = wanted_bytes k.tree wanted in
        let mapping : Mapping = part_mapping r.first r.pages r.source (first - copied_from r.source) pages in
        let len : length bytes ≡ 4096 * pages = length-file_pages (bytes_of k.tree id) first pages in
        record {
          mapping = mapping;
          chosen =
              ap (λ (o : Option Mapping). or_own o (own_choice a k wanted)) (world_copy a k regular number h pages first id change asks known (Some low.mapping) low.is)
              ∙ ap (λ (m : Mapping). Some m) (shared_is first pages low.mapping r low.same);
          addr = refl;
          held = refl;
          others = λ j other ne at. refl;
          pages = length-with_uses k.regions r.first (λ uses. uses + 1);
          below = omega (arith, start, c.from, c.to, inside, asks, regular.most);
          brings = brings_laid mapping bytes k.mem
              (λ at is. with_beside (physical k.mem) (page_address (r.first + skip)) bytes at
              (subst (λ (n : ℕ). Beside (page_address (r.first + skip)) n at) (sym len) (beside_copy copy r there live skip pages fits at is)))
              (λ at is. refl);
        }

    copy_chosen : (o : Option ℕ) → copy_of k.regions id change first pages ≡ o → (m : Mapped) →
        in_copy_or_new (map_state h k.regions k.mem) a.kind (bytes_of k.tree id) pages first id change o ≡ Some m → Chosen a k number h (File pages first false id change) (chosen a k (File pages first false id change)) m
    copy_chosen None none m is =
        fresh_chosen (File pages first false id change) pages false false (Copy id change first) asks (length-file_pages (bytes_of k.tree id) first pages)
        (chosen a k (File pages first false id change)) (none_there a k regular number h pages first id change asks known none) m is
    copy_chosen (Some copy) found m is =
        let live = copy_lives k.regions k.regions id change first pages copy refl (sym found) in
        let has = copy_covers_them k.regions k.regions id change first pages copy refl (sym found) copy live.region refl live.there in
        subst (Chosen a k number h (File pages first false id change) (chosen a k (File pages first false id change)))
        (same_Some _ _ (rw live.there at is)) (shared_chosen copy live.region found live.there has)

  pub map_chosen : (want : Want) → AsksPages want → IsKnown k.tree want → (m : Mapped) → mapped (map_state h k.regions k.mem) a.kind (bytes_of k.tree (file_in want)) want ≡ Some m →
      Chosen a k number h want (chosen a k want) m
  unfolding mapped
  map_chosen (Anon pages) asks known m is =
      fresh_chosen (Anon pages) pages true true Own asks (length-replicate (4096 * pages) zero) (chosen a k (Anon pages)) (own_is a k regular (Anon pages)) m is
  map_chosen (File pages first true id change) asks known m is =
      fresh_chosen (File pages first true id change) pages true false Own asks (length-file_pages (bytes_of k.tree id) first pages)
      (chosen a k (File pages first true id change)) (own_is a k regular (File pages first true id change)) m is
  map_chosen (File pages first false id change) asks known m is =
      copy_chosen pages first id change asks known (copy_of k.regions id change first pages) refl m is

-- ---- the reply

module _ (headers : List (List ℕ)) (a : About) (k : Kept) (e : Entry Task) (h : Held) (call : Call) (runs : LivesIn k call.pid e h) (is_call : IsCall e call)
    (value : ℕ) (spaces : List (Option Held)) (rs : List Region) (procs : Listed Task) (notes : List Note)
    (finishes : Finishes k call.pid value procs) (noted_is : notes ≡ noted_call call value [] ∷ k.notes) (recording : Recording) where
  abbrev the_ask : Ask
  the_ask = ask_in a k e h call

  pub memory_mapped : Regular k → (want : Want) → AsksPages want → IsKnown k.tree want → IsAsked call want → (mem : List ℕ) (result : Result ℕ MapFault) →
      MapsIn a.kind (bytes_of k.tree (file_in want)) want e.value.space h k.spaces spaces k.regions rs k.mem mem result → IsAddress result (Ok value) →
      Brought k e.value.space a.kind want h result recording → RoomFor (world_of a k) (ask_in a k e h call) (mapped_row (ask_in a k e h call) want) →
      carried (physical_of headers a k) (physical k.mem) (answered (world_of a k) (ask_in a k e h call) (mapped_row (ask_in a k e h call) want))
      ≡ after (physical_of headers (later 1 a) (record k { mem = mem; regions = rs; spaces = spaces; procs = procs; notes = notes; recording = recording })) false
  unfolding world_of private_bytes
  memory_mapped regular want asks known asked mem result left says brought room =
      by_mapped (mapped (map_state h k.regions k.mem) a.kind (bytes_of k.tree (file_in want)) want) refl result left.maps says brought
    where
      by_mapped : (o : Option Mapped) → mapped (map_state h k.regions k.mem) a.kind (bytes_of k.tree (file_in want)) want ≡ o → (r : Result ℕ MapFault) →
          Maps o (map_state h k.regions k.mem) (map_state left.held rs mem) r → IsAddress r (Ok value) → Brought k e.value.space a.kind want h r recording →
          carried (physical_of headers a k) (physical k.mem) (answered (world_of a k) the_ask (mapped_row the_ask want))
          ≡ after (physical_of headers (later 1 a) (record k { mem = mem; regions = rs; spaces = spaces; procs = procs; notes = notes; recording = recording })) false
      by_mapped (Some m) is (Ok addr) all says b =
          let g : Chosen a k e.value.space h want (chosen a k want) m = map_chosen a k regular e.value.space h runs.home want asks known m is in
          let space = with_mapping (private_of k.mem h) g.mapping (wanted_bytes k.tree want) in
          let at : value ≡ g.mapping.range.from = says ∙ all.0 ∙ g.addr in
          let held_is : left.held ≡ m.map_state.held = ap (λ (s : MapState). s.held) all.1 in
          let mem_is : mem ≡ m.map_state.memory = ap (λ (s : MapState). s.memory) all.1 in
          moved_in headers a k regular e h call runs is_call value spaces rs procs notes finishes noted_is recording space mem left.held
          (ap (private_of mem) (sym (held_is ∙ g.held)))
          (subst (OthersSame k e.value.space) (sym mem_is) g.others)
          (ap (λ (s : MapState). length s.regions) all.1 ∙ g.pages)
          (subst (Brings a k space) (sym mem_is) g.brings)
          (brought_there k e.value.space a.kind want h recording call asked m addr is b value g.mapping.range.from at g.below (private_bytes k.mem h))
          (mapped_row the_ask want)
          (ap (maps the_ask want) g.chosen ∙ ap (λ (v : ℕ). leaves the_ask v space) (sym at))
          room
          left.spaces
      by_mapped (Some m) is (Err fault.Enomem) all says b = absurd all
      by_mapped (Some m) is (Err fault.Memory) all says b = absurd says
      by_mapped None is (Ok addr) all says b = absurd all
      by_mapped None is (Err fault.Memory) all says b = absurd says
      by_mapped None is (Err fault.Enomem) all says b =
          let none = map_refused a k regular e.value.space h runs.home want asks known is in
          let held_is : left.held ≡ h = ap (λ (s : MapState). s.held) all in
          let mem_is : mem ≡ k.mem = ap (λ (s : MapState). s.memory) all in
          moved_in headers a k regular e h call runs is_call value spaces rs procs notes finishes noted_is recording (private_of k.mem h) mem left.held
          (ap (private_of mem) (sym held_is))
          (subst (OthersSame k e.value.space) (sym mem_is) (λ j o other there. refl))
          (ap (λ (s : MapState). length s.regions) all)
          (subst (Brings a k (private_of k.mem h)) (sym mem_is) (brings_none a k regular e.value.space h runs.home))
          (brought_nowhere k e.value.space a.kind want h recording call b value says (private_bytes k.mem h))
          (mapped_row the_ask want)
          (ap (maps the_ask want) none ∙ ap (λ (v : ℕ). leaves the_ask v (private_of k.mem h)) (sym says))
          room
          left.spaces

-- whatever ids the regions have
pub physical_ids : (headers : List (List ℕ)) (a : About) (k : Kept) (starts : List ℕ) → physical_of headers a (record k { starts = starts }) ≡ physical_of headers a k
unfolding physical_of world_of
physical_ids headers a k starts = refl
