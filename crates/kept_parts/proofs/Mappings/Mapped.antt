-- The parts after an mmap2 and after a munmap.
use Rattle.std.proofs.Common.{◌≡◌, ℕ, ◌+◌, ◌≤◌, false, List, [], ◌∷◌, length, Option, Some, None, Ok, Err, refl, sym, ap, subst, ◌∙◌, arith}
use Rattle.std.specs.Prelude.{◌==◌, Result, ⊤, slice_get, slice_set}
use Rattle.std.specs.declared.alloc.AllocError.{AllocError}
use Rattle.call_log.specs.declared.errno.Errno.{Errno}
use Rattle.call_log.specs.Errno.{refusal}
use Rattle.call_log.specs.Notes.{Note}
use Rattle.nommu_regions.specs.declared.region.Region.{Region}
use Rattle.mmap_rules.specs.declared.want.Want.{Want}
use Rattle.mmap_rules.specs.declared.map_fault.MapFault.{MapFault}
use Rattle.mmap_rules.specs.declared.map_fault.MapFault.TheVariants as fault
use Rattle.mmap_rules.specs.Want.{AsksPages}
use Rattle.mmap_rules.specs.Space.{Space}
use Rattle.mmap_rules.specs.Held.{Held}
use Rattle.mmap_rules.specs.Mappings.{hit, without_hit}
use Rattle.mmap_rules.specs.MapState.{MapState, map_state, Mapped, mapped, file_in, Maps, Freed, freed, unmapped, Unmaps}
use Rattle.mem_files.specs.Inodes.{bytes_of}
use Rattle.vfork_exec.specs.declared.entry.Entry.{Entry}
use Rattle.vfork_exec.specs.Procs.{Listed}
use Rattle.machine_world.specs.MapCalls.{with_mapping, maps, over_maps, unmaps}
use Rattle.machine_world.specs.MapCalls.{mapped as mapped_row}
use Rattle.machine_world.specs.Asks.{Ask, leaves}
use Rattle.page_runs.specs.declared.place.Kind.{Kind}
use Rattle.file_calls.specs.declared.call.Call.{Call}
use Rattle.kept_parts.specs.declared.task.Task.{Task}
use Rattle.kept_parts.specs.Kept.{Kept}
use Rattle.kept_parts.specs.Regular.{Regular}
use Rattle.kept_parts.specs.Copies.{CopiesHold, HoldsFiles}
use Rattle.machine_world.specs.Ages.{kept_calls}
use Rattle.memory_world.specs.Physical.{has_stray}
use Rattle.mmap_rules.specs.Copies.{IsKnown, wanted_bytes}
use Rattle.machine_world.specs.World.{Recording}
use Rattle.kept_parts.specs.Recorded.{event_recorded, call_recorded}
use Rattle.kept_parts.specs.Stands.{About, private_bytes, private_of, OthersSame, world_of}
use Rattle.kept_parts.specs.Calls.{LivesIn, IsCall, ask_in, noted_entry, noted_call, Changed}
use Rattle.kept_parts.specs.MapsIn.{MapsIn, UnmapsIn, IsAddress, IsAsked, status_of}
use Rattle.kept_parts.proofs.Common.StaysRegular.{set_kept}
use Rattle.kept_parts.proofs.Replies.Finished.{Finishes, moved_by}
use Rattle.kept_parts.proofs.Common.Recorded.{maps_none, recorded_plain}
use Rattle.kept_parts.proofs.Mappings.Brought.{Brought, brought_there, brought_nowhere}
use Rattle.kept_parts.proofs.Copies.BehindChanges.{copies_noted}
use Rattle.kept_parts.proofs.Mappings.World.{Agrees, map_agrees, map_refused}
use Rattle.kept_parts.proofs.Mappings.Choice.{chosen}
use Rattle.kept_parts.proofs.Mappings.Regular.{map_regular, map_pages}
use Rattle.kept_parts.proofs.Mappings.CopiesHold.{map_copies}
use Rattle.kept_parts.proofs.Mappings.Unmapped.{Unmapped, same_pages, unmap_refused, unmap_agrees}
use Rattle.kept_parts.proofs.Mappings.UnmapRegular.{unmap_regular, unmap_copies}

-- what is left of memory, the regions and the spaces
abbrev pub with_maps : Kept → List ℕ → List Region → List (Option Held) → Kept
with_maps k mem rs spaces = record k { mem = mem; regions = rs; spaces = spaces }

-- the parts are regular, with so many calls more copies hold their file, and memory has as many pages as it had
abbrev pub Keeps : ℕ → Kept → Kept → Type 0
Keeps more k now = Regular now × ((notes : List Note) → kept_calls k.notes + more ≤ kept_calls notes → (has_stray notes ≡ false → has_stray k.notes ≡ false) → CopiesHold now.regions now.mem now.tree notes) × (length now.regions ≡ length k.regions)

module _ (k : Kept) (regular : Regular k) (copies : CopiesHold k.regions k.mem k.tree k.notes) (number : ℕ) (h : Held) (home : slice_get k.spaces number ≡ Some (Some h)) where
  -- where all stays
  keeps_same : (more : ℕ) → Keeps more k k
  keeps_same more = (regular, λ notes later strays. copies_noted k.regions k.mem k.tree k.notes notes copies (omega (arith, later)) strays, refl)

  same_maps : (mem : List ℕ) (rs : List Region) (spaces : List (Option Held)) (held : Held) → mem ≡ k.mem → rs ≡ k.regions → held ≡ h → spaces ≡ slice_set k.spaces number (Some held)
      → k ≡ with_maps k mem rs spaces
  same_maps mem rs spaces held same_mem same_regions same_held is =
      let stays : k.spaces ≡ spaces = sym (is ∙ ap (λ (x : Held). slice_set k.spaces number (Some x)) same_held ∙ set_kept k.spaces number (Some h) home) in
      λ i. with_maps k (sym same_mem i) (sym same_regions i) (stays i)

  -- ---- after an mmap2

  module _ (kind : Kind) (want : Want) (asks : AsksPages want) (known : IsKnown k.tree want) where
    abbrev left_by : Option Mapped
    left_by = mapped (map_state h k.regions k.mem) kind (bytes_of k.tree (file_in want)) want

    pub keeps_mapped : (spaces : List (Option Held)) (rs : List Region) (mem : List ℕ) (result : Result ℕ MapFault) →
        MapsIn kind (bytes_of k.tree (file_in want)) want number h k.spaces spaces k.regions rs k.mem mem result → Keeps 1 k (with_maps k mem rs spaces)
    keeps_mapped spaces rs mem result left = by_mapped left_by refl result left.maps
      where
        same : map_state left.held rs mem ≡ map_state h k.regions k.mem → Keeps 1 k (with_maps k mem rs spaces)
        same is = subst (Keeps 1 k) (same_maps mem rs spaces left.held (ap (λ (s : MapState). s.memory) is) (ap (λ (s : MapState). s.regions) is) (ap (λ (s : MapState). s.held) is) left.spaces) (keeps_same 1)

        by_mapped : (o : Option Mapped) → left_by ≡ o → (r : Result ℕ MapFault) → Maps o (map_state h k.regions k.mem) (map_state left.held rs mem) r → Keeps 1 k (with_maps k mem rs spaces)
        by_mapped (Some m) is (Ok addr) all =
            let now : with_maps k m.map_state.memory m.map_state.regions (slice_set k.spaces number (Some m.map_state.held)) ≡ with_maps k mem rs spaces =
            (λ i. with_maps k (sym all.1 i).memory (sym all.1 i).regions (slice_set k.spaces number (Some (sym all.1 i).held))) ∙ (λ i. with_maps k mem rs (sym left.spaces i)) in
            subst (Keeps 1 k) now (
              map_regular k regular copies number h home kind want asks known m is,
              map_copies k regular copies number h home kind want asks known m is,
              map_pages k regular h kind (bytes_of k.tree (file_in want)) want asks m is,
            )
        by_mapped (Some m) is (Err fault.Enomem) all = absurd all
        by_mapped (Some m) is (Err fault.Memory) all = same all
        by_mapped None is (Ok addr) all = absurd all
        by_mapped None is (Err fault.Enomem) all = same all
        by_mapped None is (Err fault.Memory) all = same all

    -- out of memory nothing changed
    pub same_mapped : (spaces : List (Option Held)) (rs : List Region) (mem : List ℕ) (result : Result ℕ MapFault) (error : AllocError) →
        MapsIn kind (bytes_of k.tree (file_in want)) want number h k.spaces spaces k.regions rs k.mem mem result → IsAddress result (Err error) → k ≡ with_maps k mem rs spaces
    same_mapped spaces rs mem result error left says = by_result left_by result left.maps says
      where
        by_result : (o : Option Mapped) (r : Result ℕ MapFault) → Maps o (map_state h k.regions k.mem) (map_state left.held rs mem) r → IsAddress r (Err error) → k ≡ with_maps k mem rs spaces
        by_result o (Ok addr) all says = absurd says
        by_result o (Err fault.Enomem) all says = absurd says
        by_result o (Err fault.Memory) all says =
            let is : map_state left.held rs mem ≡ map_state h k.regions k.mem = at o all in
            same_maps mem rs spaces left.held (ap (λ (s : MapState). s.memory) is) (ap (λ (s : MapState). s.regions) is) (ap (λ (s : MapState). s.held) is) left.spaces
          where
            at : (o : Option Mapped) → Maps o (map_state h k.regions k.mem) (map_state left.held rs mem) (Err fault.Memory) → map_state left.held rs mem ≡ map_state h k.regions k.mem
            at (Some m) all = all
            at None all = all

  -- ---- after a munmap

  pub keeps_unmapped : (addr len : ℕ) (spaces : List (Option Held)) (rs : List Region) (result : Result ⊤ Errno) →
      UnmapsIn addr len number h k.spaces spaces k.regions rs result → Keeps 0 k (with_maps k k.mem rs spaces)
  keeps_unmapped addr len spaces rs result left = by_freed (unmapped h k.regions addr len) refl result left.unmaps
    where
      by_freed : (o : Option Freed) → unmapped h k.regions addr len ≡ o → (r : Result ⊤ Errno) → Unmaps o (freed h k.regions) (freed left.held rs) r → Keeps 0 k (with_maps k k.mem rs spaces)
      by_freed (Some f) is (Ok done) all =
          let now : with_maps k k.mem f.regions (slice_set k.spaces number (Some f.held)) ≡ with_maps k k.mem rs spaces =
          (λ i. with_maps k k.mem (sym all i).regions (slice_set k.spaces number (Some (sym all i).held))) ∙ (λ i. with_maps k k.mem rs (sym left.spaces i)) in
          subst (Keeps 0 k) now (
            unmap_regular k regular number h home left.shaped addr len f is,
            λ notes later strays. unmap_copies k regular copies number h home left.shaped addr len f is notes (omega (arith, later)) strays,
            (same_pages h k.regions addr len f is).1,
          )
      by_freed (Some f) is (Err errno) all = absurd all
      by_freed None is (Ok done) all = absurd all
      by_freed None is (Err errno) all =
          subst (Keeps 0 k) (same_maps k.mem rs spaces left.held refl (ap (λ (x : Freed). x.regions) all.1) (ap (λ (x : Freed). x.held) all.1) left.spaces) (keeps_same 0)

-- ---- the replies

module _ (a : About) (k : Kept) (e : Entry Task) (h : Held) (call : Call) (runs : LivesIn k call.pid e h) (is_call : IsCall e call)
    (value : ℕ) (spaces : List (Option Held)) (rs : List Region) (procs : Listed Task) (notes : List Note)
    (finishes : Finishes k call.pid value procs) (noted : notes ≡ noted_call call value [] ∷ k.notes) (recording : Recording) where
  abbrev ask : Ask
  ask = ask_in a k e h call

  -- a call that maps no file brings nothing
  plainly : (space : Space) → recording ≡ event_recorded k.recording e.value.space → (call.number == 222) ≡ false →
      recording ≡ call_recorded k.recording e.value.space (noted_entry call value []) space.bytes
  plainly space recorded plain = recorded ∙ sym (recorded_plain k.recording e.value.space (noted_entry call value []) space.bytes (maps_none call value [] plain))

  pub changed_mapped : Regular k → HoldsFiles k → (want : Want) → AsksPages want → IsKnown k.tree want → IsAsked call want → (mem : List ℕ) (result : Result ℕ MapFault) →
      MapsIn a.kind (bytes_of k.tree (file_in want)) want e.value.space h k.spaces spaces k.regions rs k.mem mem result → IsAddress result (Ok value) →
      Brought k e.value.space a.kind want h result recording →
      Changed a k e h call (mapped_row (ask_in a k e h call) want) (record k { mem = mem; regions = rs; spaces = spaces; procs = procs; notes = notes; recording = recording })
  unfolding world_of
  changed_mapped regular holds want asks known asked mem result left says brought =
      by_mapped (mapped (map_state h k.regions k.mem) a.kind (bytes_of k.tree (file_in want)) want) refl result left.maps says brought
    where
      by_mapped : (o : Option Mapped) → mapped (map_state h k.regions k.mem) a.kind (bytes_of k.tree (file_in want)) want ≡ o → (r : Result ℕ MapFault) →
          Maps o (map_state h k.regions k.mem) (map_state left.held rs mem) r → IsAddress r (Ok value) → Brought k e.value.space a.kind want h r recording →
          Changed a k e h call (mapped_row ask want) (record k { mem = mem; regions = rs; spaces = spaces; procs = procs; notes = notes; recording = recording })
      by_mapped (Some m) is (Ok addr) all says b =
          let g : Agrees k e.value.space h want (chosen a k want) m = map_agrees a k regular e.value.space h runs.home holds want asks known m is in
          let space = with_mapping (private_of k.mem h) g.mapping (wanted_bytes k.tree want) in
          let at : value ≡ g.mapping.range.from = says ∙ all.0 ∙ g.addr in
          let held_is : left.held ≡ m.map_state.held = ap (λ (s : MapState). s.held) all.1 in
          let mem_is : mem ≡ m.map_state.memory = ap (λ (s : MapState). s.memory) all.1 in
          moved_by a k e h call runs is_call (mapped_row ask want) space value mem rs left.held spaces procs notes recording
          (ap (maps ask want) g.chosen ∙ ap (λ (v : ℕ). leaves ask v space) (sym at))
          (held_is ∙ g.held)
          (sym g.space ∙ (λ i. private_of (sym mem_is i) (sym held_is i)))
          (subst (OthersSame k e.value.space) (sym mem_is) g.others)
          (ap (λ (s : MapState). length s.regions) all.1 ∙ g.pages)
          left.spaces finishes noted
          (brought_there k e.value.space a.kind want h recording call asked m addr is b value g.mapping.range.from at g.below (private_bytes k.mem h))
      by_mapped (Some m) is (Err fault.Enomem) all says b = absurd all
      by_mapped (Some m) is (Err fault.Memory) all says b = absurd says
      by_mapped None is (Ok addr) all says b = absurd all
      by_mapped None is (Err fault.Memory) all says b = absurd says
      by_mapped None is (Err fault.Enomem) all says b =
          let none = map_refused a k regular e.value.space h runs.home want asks known is in
          let held_is : left.held ≡ h = ap (λ (s : MapState). s.held) all in
          let mem_is : mem ≡ k.mem = ap (λ (s : MapState). s.memory) all in
          moved_by a k e h call runs is_call (mapped_row ask want) (private_of k.mem h) value mem rs left.held spaces procs notes recording
          (ap (maps ask want) none ∙ ap (λ (v : ℕ). leaves ask v (private_of k.mem h)) (sym says))
          held_is
          (λ i. private_of (sym mem_is i) (sym held_is i))
          (subst (OthersSame k e.value.space) (sym mem_is) (λ j o other there. refl))
          (ap (λ (s : MapState). length s.regions) all)
          left.spaces finishes noted
          (brought_nowhere k e.value.space a.kind want h recording call b value says (private_bytes k.mem h))

  pub changed_unmapped : (addr len : ℕ) (result : Result ⊤ Errno) → UnmapsIn addr len e.value.space h k.spaces spaces k.regions rs result → value ≡ status_of result →
      recording ≡ event_recorded k.recording e.value.space → (call.number == 222) ≡ false →
      Changed a k e h call (unmaps (ask_in a k e h call) (hit h.maps addr len)) (record k { regions = rs; spaces = spaces; procs = procs; notes = notes; recording = recording })
  unfolding world_of
  changed_unmapped addr len result left says recorded plain = by_freed (unmapped h k.regions addr len) refl result left.unmaps says
    where
      by_freed : (o : Option Freed) → unmapped h k.regions addr len ≡ o → (r : Result ⊤ Errno) → Unmaps o (freed h k.regions) (freed left.held rs) r → value ≡ status_of r →
          Changed a k e h call (unmaps ask (hit h.maps addr len)) (record k { regions = rs; spaces = spaces; procs = procs; notes = notes; recording = recording })
      by_freed (Some f) is (Ok done) all says =
          let g : Unmapped k e.value.space h addr len f = unmap_agrees k e.value.space h addr len left.shaped f is in
          let space = over_maps (private_of k.mem h) (without_hit h.maps g.what) in
          let held_is : left.held ≡ f.held = ap (λ (x : Freed). x.held) all in
          moved_by a k e h call runs is_call (unmaps ask (hit h.maps addr len)) space value k.mem rs left.held spaces procs notes recording
          (ap (unmaps ask) g.found ∙ ap (λ (v : ℕ). leaves ask v space) (sym says))
          (held_is ∙ g.held)
          (sym g.space ∙ ap (private_of k.mem) (sym held_is))
          (λ j o other there. refl)
          (ap (λ (x : Freed). length x.regions) all ∙ g.pages)
          left.spaces finishes noted (plainly space recorded plain)
      by_freed (Some f) is (Err errno) all says = absurd all
      by_freed None is (Ok done) all says = absurd all
      by_freed None is (Err errno) all says =
          let held_is : left.held ≡ h = ap (λ (x : Freed). x.held) all.1 in
          moved_by a k e h call runs is_call (unmaps ask (hit h.maps addr len)) (private_of k.mem h) value k.mem rs left.held spaces procs notes recording
          (ap (unmaps ask) (unmap_refused h k.regions addr len is) ∙ ap (λ (v : ℕ). leaves ask v (private_of k.mem h)) (sym (says ∙ ap refusal all.0)))
          held_is
          (ap (private_of k.mem) (sym held_is))
          (λ j o other there. refl)
          (ap (λ (x : Freed). length x.regions) all.1)
          left.spaces finishes noted (plainly (private_of k.mem h) recorded plain)
