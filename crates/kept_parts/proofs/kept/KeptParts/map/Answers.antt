-- Pages are mapped, and the call has its reply.
use Rattle.std.proofs.Common.{rules, ◌≡◌, true, false, List, [], Option, ◌∷◌, length, refl, sym, ap, subst, arith, ◌∙◌}
use Rattle.std.specs.Prelude.{Some, map, slice_get, slice_set}
use Rattle.std.specs.Vec.{with_items}
use Rattle.std.proofs.lemmas.Result.{err_from_is_err_and}
use Rattle.page_runs.specs.declared.place.Kind.{Kind}
use Rattle.page_runs.specs.Choosers.{kind_of}
use Rattle.call_log.specs.Values.{got_value}
use Rattle.mem_files.specs.Inodes.{bytes_of}
use Rattle.mmap_rules.specs.Held.{Held}
use Rattle.mmap_rules.specs.MapState.{map_state, file_in}
use Rattle.region_watch.specs.Private.{physical}
use Rattle.vfork_exec.specs.declared.entry.Entry.{Entry}
use Rattle.vfork_exec.specs.Procs.{Lives}
use Rattle.machine_world.specs.MapCalls.{mapped}
use Rattle.machine_world.specs.Event.{answered}
use Rattle.memory_world.specs.Physical.{Physical, after, carried}
use Rattle.kept_parts.specs.declared.task.Task.{Task}
use Rattle.kept_parts.specs.Kept.{Kept}
use Rattle.kept_parts.specs.Inside.{kept_of}
use Rattle.kept_parts.specs.Reach.{whole_table}
use Rattle.kept_parts.specs.Regular.{IsRegular}
use Rattle.kept_parts.specs.Copies.{StillHolds}
use Rattle.kept_parts.specs.Stands.{later, world_of}
use Rattle.kept_parts.specs.InMemory.{physical_of}
use Rattle.mmap_rules.specs.Copies.{IsKnown, wanted_bytes}
use Rattle.kept_parts.specs.Calls.{LivesIn, RoomFor, noted_call, Changed, Caller, asked_by}
use Rattle.kept_parts.specs.MapsIn.{MapsIn}
use Rattle.kept_parts.specs.Recorded.{room_beside}
use Rattle.kept_parts.proofs.Common.Recorded.{room_inside, room_left, few_brought}
use Rattle.kept_parts.proofs.Mappings.Brought.{Brought, brought_none, brought_by}
use Rattle.kept_parts.proofs.Common.RunningProcess.{value_found, has_space}
use Rattle.kept_parts.proofs.Replies.Replied.{items_set}
use Rattle.kept_parts.proofs.Common.StaysRegular.{regular_ids}
use Rattle.kept_parts.proofs.Replies.Finished.{regular_finished, changed_ids}
use Rattle.kept_parts.proofs.Copies.BehindChanges.{room_counts}
use Rattle.kept_parts.proofs.Copies.BehindCalls.{counts, call_strays}
use Rattle.kept_parts.proofs.Mappings.LiveRegions.{name_regions, few_uses}
use Rattle.kept_parts.proofs.Mappings.Mapped.{with_maps, keeps_mapped, same_mapped, changed_mapped}
use Rattle.kept_parts.proofs.Mappings.Memory.{lives_finished, memory_mapped, physical_ids}
use Rattle.kept_parts.proofs.Copies.BehindStrays.{still, holds_inside, clean, none_clean, cleaned, regular_clean, copies_clean}
use Rattle.kept_parts.proofs.kept.KeptParts.map.Given.{Over}
use Rattle.kept_parts.proofs.kept.KeptParts.map.Goals as goal

pub map_in-mapped-requires-clause-fits : goal.map_in-mapped-requires-clause-fits
map_in-mapped-requires-clause-fits g c = λ h is.
    let k = kept_of c.self.inside in
    let number = c.get.result.now.space in
    let there = ap (λ (ss : List (Option Held)). slice_get ss number) c.deref_mut.ensures.value in record {
      lies = record {
        pages = c.self.invariant.0.0.pages number h (sym there ∙ is);
        names = name_regions k c.self.invariant.0.0 number h (sym there ∙ is);
        few = few_uses k c.self.invariant.0.1
            (room_counts c.self.inside.log.notes (length c.args.call.sent.items) (room_inside k c.args.self.now c.self.view_is c.args.call.sent.items c.requires.room));
      };
      memory = c.self.invariant.0.0.memory;
    }

-- ---- out of memory

recorded_none : (g : Over) (c : goal.After-drop-call-in_err-value g) → c.settle_brought.new.recording ≡ c.self.inside.recording
recorded_none g c =
    brought_none c.self.inside.recording c.bring-bringing.new.recording c.settle_brought.new.recording c.in_ok-brings.brings (wanted_bytes c.self.inside.tree c.args.want) c.map_in-mapped.result c.in_err-value.field-0.0
    (rw (← c.in_ok-brings.ensures.same) at c.bring-bringing.ensures.brings) c.settle_brought.ensures (rw (← c.in_err-value.ensures.same) at c.address.ensures)

stays : (g : Over) (c : goal.After-drop-call-in_err-value g) → kept_of c.self.inside
    ≡ record (kept_of c.self.inside) {
      mem = c.map_in-mapped.new.mem;
      regions = c.map_in-mapped.new.regions.regions;
      starts = c.map_in-mapped.new.regions.starts;
      spaces = (with_items c.self.inside.spaces c.map_in-mapped.new.spaces).items;
      notes = c.or_unreserve-2.new.log.notes;
      recording = c.settle_brought.new.recording;
    }
stays g c =
    let k = kept_of c.self.inside in
    let number = c.get.result.now.space in
    let lives = subst (λ (s : Kept). Lives s.procs c.args.call.pid) (sym c.self.view_is) c.requires.lives in
    let known = subst (λ (s : Kept). IsKnown s.tree c.args.want) (sym c.self.view_is) c.requires.wanted.known in
    let live = has_space k c.args.call.pid c.get.result.now c.self.invariant.0.0 lives c.get.ensures in
    let is = c.map_in-mapped.ensures.maps live.held (ap (λ (ss : List (Option Held)). slice_get ss number) c.deref_mut.ensures.value ∙ live.there) in
    let spaces = (with_items c.self.inside.spaces c.map_in-mapped.new.spaces).items in
    let at : MapsIn (kind_of c.args.chooser.now) (bytes_of k.tree (file_in c.args.want)) c.args.want number live.held k.spaces spaces k.regions c.map_in-mapped.new.regions.regions k.mem
    c.map_in-mapped.new.mem c.map_in-mapped.result = record {
      held = is.held;
      spaces = items_set c.self.inside.spaces c.map_in-mapped.new.spaces number (Some is.held)
          (is.spaces ∙ ap (λ (ss : List (Option Held)). slice_set ss number (Some is.held)) c.deref_mut.ensures.value);
      maps = is.maps;
    } in
    let same = same_mapped k c.self.invariant.0.0 c.self.invariant.0.1 number live.held live.there (kind_of c.args.chooser.now) c.args.want c.requires.wanted.pages known spaces
    c.map_in-mapped.new.regions.regions c.map_in-mapped.new.mem c.map_in-mapped.result c.in_err-value.field-0.0 at (rw (← c.in_err-value.ensures.same) at c.address.ensures) in
    λ i. record (same i) {
      starts = sym c.map_in-mapped.ensures.ids i;
      notes = sym (c.or_unreserve-2.ensures.notes ∙ c.or_unreserve.ensures.notes ∙ c.reserve.ensures.same) i;
      recording = sym (recorded_none g c) i;
    }

pub invariant_of-self-in_err-value : goal.invariant_of-self-in_err-value
invariant_of-self-in_err-value g c = (subst IsRegular (stays g c) c.self.invariant.0, search rules, c.self.invariant.2 ∙ ap (λ (k : Kept). whole_table (length k.regions)) (stays g c))

pub returns-in_err-value-clause-leaves : goal.returns-in_err-value-clause-leaves
returns-in_err-value-clause-leaves g c = record {
  changes = λ a kind unstrayed caller.
      let p = err_from_is_err_and c.from_residual-in_err-value.result c.from_residual-in_err-value.ensures.1 in
      rw p.1 (sym (stays g c) ∙ c.self.view_is);
  memory = λ headers a kind caller.
      let p = err_from_is_err_and c.from_residual-in_err-value.result c.from_residual-in_err-value.ensures.1 in
      rw p.1 (sym (stays g c) ∙ c.self.view_is);
  holds = holds_inside _ c.args.self.now (sym (stays g c) ∙ c.self.view_is);
}

-- ---- a reply

abbrev new_parts : (g : Over) → goal.After-finish g → Kept
new_parts g c = record (kept_of c.self.inside) {
  mem = c.map_in-mapped.new.mem;
  regions = c.map_in-mapped.new.regions.regions;
  starts = c.map_in-mapped.new.regions.starts;
  spaces = (with_items c.self.inside.spaces c.map_in-mapped.new.spaces).items;
  procs = c.finish.new.procs;
  notes = c.finish.new.log.notes;
  recording = c.pass.new.self;
}

pub finish-requires-clause-room : goal.finish-requires-clause-room
finish-requires-clause-room g c =
    room_left (kept_of c.self.inside) c.args.self.now c.self.view_is c.args.call.sent.items c.requires.room c.or_unreserve-2.new.log.notes
    (c.or_unreserve-2.ensures.notes ∙ c.or_unreserve.ensures.notes ∙ c.reserve.ensures.same) c.new-got.result.items c.new-got.ensures.items

pub bring-bringing-requires-clause-few : goal.bring-bringing-requires-clause-few
bring-bringing-requires-clause-few g c =
    few_brought (kept_of c.self.inside) (length c.args.call.sent.items) (subst (λ (s : Kept). room_beside s (length c.args.call.sent.items) ≡ true) (sym c.self.view_is) c.requires.room)

-- what is left of the space
left : (g : Over) (c : goal.After-finish g) (kind : Kind) → kind ≡ kind_of c.args.chooser.now → (h : Held) → slice_get c.self.inside.spaces.items c.get.result.now.space ≡ Some (Some h) →
    MapsIn kind (bytes_of c.self.inside.tree (file_in c.args.want)) c.args.want c.get.result.now.space h c.self.inside.spaces.items (new_parts g c).spaces c.self.inside.regions.regions
    c.map_in-mapped.new.regions.regions c.self.inside.mem c.map_in-mapped.new.mem c.map_in-mapped.result
left g c kind same h there =
    let number = c.get.result.now.space in
    let is = c.map_in-mapped.ensures.maps h (ap (λ (ss : List (Option Held)). slice_get ss number) c.deref_mut.ensures.value ∙ there) in
    rw same (record {
      held = is.held;
      spaces = items_set c.self.inside.spaces c.map_in-mapped.new.spaces number (Some is.held)
          (is.spaces ∙ ap (λ (ss : List (Option Held)). slice_set ss number (Some is.held)) c.deref_mut.ensures.value);
      maps = is.maps;
    })

noted : (g : Over) (c : goal.After-finish g) → c.finish.new.log.notes ≡ noted_call c.args.call c.in_ok-value.value [] ∷ c.self.inside.log.notes
noted g c = c.finish.ensures.notes ∙ (λ i. noted_call c.args.call c.in_ok-value.value (map got_value (c.new-got.ensures.items i)) ∷ (c.or_unreserve-2.ensures.notes ∙ c.or_unreserve.ensures.notes ∙ c.reserve.ensures.same) i)

pub invariant_of-self-2 : goal.invariant_of-self-2
invariant_of-self-2 g c =
    let k = kept_of c.self.inside in
    let lives = subst (λ (s : Kept). Lives s.procs c.args.call.pid) (sym c.self.view_is) c.requires.lives in
    let known = subst (λ (s : Kept). IsKnown s.tree c.args.want) (sym c.self.view_is) c.requires.wanted.known in
    let live = has_space k c.args.call.pid c.get.result.now c.self.invariant.0.0 lives c.get.ensures in
    let is = left g c (kind_of c.args.chooser.now) refl live.held live.there in
    let keeps = keeps_mapped k c.self.invariant.0.0 c.self.invariant.0.1 c.get.result.now.space live.held live.there (kind_of c.args.chooser.now) c.args.want c.requires.wanted.pages known
    (new_parts g c).spaces c.map_in-mapped.new.regions.regions c.map_in-mapped.new.mem c.map_in-mapped.result is in
    let now = with_maps k c.map_in-mapped.new.mem c.map_in-mapped.new.regions.regions (new_parts g c).spaces in
    let counted = counts c.args.call c.in_ok-value.value [] k.notes c.finish.new.log.notes (noted g c) in (
      (
        regular_ids _ (regular_finished now c.args.call.pid keeps.0 lives c.in_ok-value.value now.mem k.tree k.files c.finish.new.procs c.finish.new.log.notes k.console c.pass.new.self refl c.finish.ensures.procs (omega (arith, counted))) (new_parts g c).starts,
        keeps.1 c.finish.new.log.notes (omega (arith, counted)) (call_strays c.args.call c.in_ok-value.value [] k.notes c.finish.new.log.notes (noted g c)),
      ),
      search rules,
      c.self.invariant.2 ∙ ap whole_table (sym keeps.2),
    )

-- what is recorded
brought : (g : Over) (c : goal.After-finish g) (kind : Kind) (e : Entry Task) (h : Held) → LivesIn (kept_of c.self.inside) c.args.call.pid e h →
    Brought (kept_of c.self.inside) e.value.space kind c.args.want h c.map_in-mapped.result c.pass.new.self
brought g c kind e h runs =
    let k = kept_of c.self.inside in
    let want = c.args.want in
    let task : c.get.result.now ≡ e.value = value_found k.procs c.args.call.pid e runs.lives c.get.result.now c.get.ensures in
    let done = rw (← c.in_ok-brings.ensures.same) at c.bring-bringing.ensures.done in
    let now = rw (← c.in_ok-brings.ensures.same) at c.bring-bringing.ensures.brings in
    subst (λ (t : Task). Brought k t.space kind want h c.map_in-mapped.result c.pass.new.self) task
    (brought_by k c.get.result.now.space kind want h c.map_in-mapped.result c.bring-bringing.new.recording c.settle_brought.new.recording c.pass.new.self c.in_ok-brings.brings
    (done (map_state h k.regions k.mem) kind (bytes_of k.tree (file_in want)) refl) now c.settle_brought.ensures c.pass.ensures)

-- the same by the entry of the process
left_at : (g : Over) (c : goal.After-finish g) (kind : Kind) → kind ≡ kind_of c.args.chooser.now → (e : Entry Task) (h : Held) → LivesIn (kept_of c.self.inside) c.args.call.pid e h →
    MapsIn kind (bytes_of c.self.inside.tree (file_in c.args.want)) c.args.want e.value.space h c.self.inside.spaces.items (new_parts g c).spaces c.self.inside.regions.regions
    c.map_in-mapped.new.regions.regions c.self.inside.mem c.map_in-mapped.new.mem c.map_in-mapped.result
left_at g c kind same e h runs =
    let k = kept_of c.self.inside in
    let want = c.args.want in
    let task : c.get.result.now ≡ e.value = value_found k.procs c.args.call.pid e runs.lives c.get.result.now c.get.ensures in
    subst (λ (t : Task). MapsIn kind (bytes_of k.tree (file_in want)) want t.space h k.spaces (new_parts g c).spaces k.regions c.map_in-mapped.new.regions.regions k.mem c.map_in-mapped.new.mem
    c.map_in-mapped.result) task
    (left g c kind same h (ap (λ (t : Task). slice_get k.spaces t.space) task ∙ runs.home))

pub returns-clause-leaves : goal.returns-clause-leaves
returns-clause-leaves g c = record {
  changes = λ a kind holding.
      let k = kept_of c.self.inside in
      let call = c.args.call in
      let want = c.args.want in
      let known = subst (λ (s : Kept). IsKnown s.tree want) (sym c.self.view_is) c.requires.wanted.known in
      let holds = still k c.self.invariant.0.1 (subst StillHolds (sym c.self.view_is) holding) in
      subst (λ (old : Kept). (caller : Caller old call) → Changed a old caller.entry caller.held call (mapped (asked_by a caller) want) (new_parts g c)) c.self.view_is
      (λ caller. changed_ids a k caller.entry caller.held call _ _ (
      changed_mapped a k caller.entry caller.held call caller.runs caller.stands c.in_ok-value.value (new_parts g c).spaces c.map_in-mapped.new.regions.regions c.finish.new.procs c.finish.new.log.notes
      c.finish.ensures.procs (noted g c) c.pass.new.self c.self.invariant.0.0 holds want c.requires.wanted.pages known c.requires.wanted.asked c.map_in-mapped.new.mem c.map_in-mapped.result
      (left_at g c a.kind kind caller.entry caller.held caller.runs) (rw (← c.in_ok-value.ensures.same) at c.address.ensures) (brought g c a.kind caller.entry caller.held caller.runs)) (new_parts g c).starts);
  memory = λ headers a kind.
      let k = kept_of c.self.inside in
      let call = c.args.call in
      let want = c.args.want in
      let known = subst (λ (s : Kept). IsKnown s.tree want) (sym c.self.view_is) c.requires.wanted.known in
      let room = subst (λ (s : Kept). (caller : Caller s call) → RoomFor (world_of a s) (asked_by a caller) (mapped (asked_by a caller) want)) (sym c.self.view_is)
      (c.requires.brings a kind) in
      subst (λ (old : Kept). (caller : Caller old call) →
      carried (physical_of headers a old) (physical old.mem) (answered (world_of a old) (asked_by a caller) (mapped (asked_by a caller) want)) ≡ after (physical_of headers (later 1 a) (new_parts g c)) false)
      c.self.view_is
      (λ caller.
      memory_mapped headers a k caller.entry caller.held call caller.runs caller.stands c.in_ok-value.value (new_parts g c).spaces c.map_in-mapped.new.regions.regions c.finish.new.procs c.finish.new.log.notes
      c.finish.ensures.procs (noted g c) c.pass.new.self c.self.invariant.0.0 want c.requires.wanted.pages known c.requires.wanted.asked c.map_in-mapped.new.mem c.map_in-mapped.result
      (left_at g c a.kind kind caller.entry caller.held caller.runs) (rw (← c.in_ok-value.ensures.same) at c.address.ensures) (brought g c a.kind caller.entry caller.held caller.runs) (room caller)
      ∙ ap (λ (x : Physical). after x false) (sym (physical_ids headers (later 1 a) _ (new_parts g c).starts)));
  holds = λ holds.
      let k = kept_of c.self.inside in
      let call = c.args.call in
      let value = c.in_ok-value.value in
      let lives = subst (λ (s : Kept). Lives s.procs call.pid) (sym c.self.view_is) c.requires.lives in
      let known = subst (λ (s : Kept). IsKnown s.tree c.args.want) (sym c.self.view_is) c.requires.wanted.known in
      let live = has_space k call.pid c.get.result.now c.self.invariant.0.0 lives c.get.ensures in
      let copies = copies_clean k c.self.invariant.0.1 (holds_inside k c.args.self.now c.self.view_is holds) in
      let keeps = keeps_mapped (cleaned k) (regular_clean k c.self.invariant.0.0) copies c.get.result.now.space live.held live.there (kind_of c.args.chooser.now) c.args.want c.requires.wanted.pages known
      (new_parts g c).spaces c.map_in-mapped.new.regions.regions c.map_in-mapped.new.mem c.map_in-mapped.result (left g c (kind_of c.args.chooser.now) refl live.held live.there) in
      let counted = counts call value [] (clean k.notes) _ refl in
      (keeps.1 (noted_call call value [] ∷ clean k.notes) (omega (arith, counted)) (call_strays call value [] (clean k.notes) _ refl)).hold (none_clean k.notes);
}

pub returns-clause-lives : goal.returns-clause-lives
returns-clause-lives g c =
    let lives = subst (λ (s : Kept). Lives s.procs c.args.call.pid) (sym c.self.view_is) c.requires.lives in
    lives_finished (kept_of c.self.inside) c.args.call.pid c.self.invariant.0.0 lives c.in_ok-value.value c.finish.new.procs c.finish.ensures.procs

pub returns-in_err-brings-clause-leaves : goal.returns-in_err-brings-clause-leaves
returns-in_err-brings-clause-leaves g c = record {
  changes = search rules;
  memory = search rules;
  holds = holds_inside (kept_of c.self.inside) c.args.self.now c.self.view_is;
}
