-- Pages are unmapped, and the call has its reply.
use Rattle.std.proofs.Common.{rules, ◌≡◌, List, [], Option, ◌∷◌, refl, sym, ap, subst, arith, ◌∙◌}
use Rattle.std.specs.Prelude.{◌==◌, Some, map, slice_get, slice_set, slice_index}
use Rattle.std.specs.Vec.{with_items}
use Rattle.call_log.specs.Values.{got_value}
use Rattle.mmap_rules.specs.Held.{Held}
use Rattle.mmap_rules.specs.Mappings.{hit}
use Rattle.vfork_exec.specs.Procs.{Lives}
use Rattle.machine_world.specs.MapCalls.{unmaps}
use Rattle.kept_parts.specs.declared.task.Task.{Task}
use Rattle.kept_parts.specs.Kept.{Kept}
use Rattle.kept_parts.specs.Inside.{kept_of}
use Rattle.kept_parts.specs.Calls.{noted_call, Changed, Caller, asked_by}
use Rattle.kept_parts.specs.MapsIn.{UnmapsIn}
use Rattle.kept_parts.specs.Reach.{whole_table}
use Rattle.kept_parts.specs.Recorded.{event_recorded}
use Rattle.kept_parts.proofs.Common.Recorded.{room_left}
use Rattle.kept_parts.proofs.Common.RunningProcess.{value_found, has_space}
use Rattle.kept_parts.proofs.Replies.Replied.{items_set}
use Rattle.kept_parts.proofs.Common.StaysRegular.{regular_ids}
use Rattle.kept_parts.proofs.Replies.Finished.{regular_finished, changed_ids}
use Rattle.kept_parts.proofs.Copies.BehindCalls.{counts, call_strays}
use Rattle.kept_parts.proofs.Mappings.LiveRegions.{name_regions}
use Rattle.kept_parts.proofs.Mappings.Mapped.{with_maps, keeps_unmapped, changed_unmapped}
use Rattle.kept_parts.proofs.Copies.BehindStrays.{holds_inside, clean, none_clean, cleaned, regular_clean, copies_clean}
use Rattle.kept_parts.proofs.kept.KeptParts.unmap.Goals as goal

pub unmap_in-unmapped-requires-clause-names : goal.unmap_in-unmapped-requires-clause-names
unmap_in-unmapped-requires-clause-names c = λ h there.
    let k = kept_of c.self.inside in
    let number = c.get.result.now.space in
    name_regions k c.self.invariant.0.0 number h (sym (ap (λ (ss : List (Option Held)). slice_get ss number) c.deref_mut.ensures.value) ∙ there)

abbrev new_parts : goal.After-finish → Kept
new_parts c = record (kept_of c.self.inside) {
  regions = c.unmap_in-unmapped.new.regions.regions;
  starts = c.unmap_in-unmapped.new.regions.starts;
  spaces = (with_items c.self.inside.spaces c.unmap_in-unmapped.new.spaces).items;
  procs = c.finish.new.procs;
  notes = c.finish.new.log.notes;
  recording = c.pass.new.self;
}

pub finish-requires-clause-room : goal.finish-requires-clause-room
finish-requires-clause-room c =
    room_left (kept_of c.self.inside) c.args.self.now c.self.view_is c.args.call.sent.items c.requires.room c.reserve.new.self.notes c.reserve.ensures.same c.new-got.result.items c.new-got.ensures.items

-- what is left of the space
left : (c : goal.After-finish) (h : Held) → slice_get c.self.inside.spaces.items c.get.result.now.space ≡ Some (Some h) →
    UnmapsIn (slice_index c.args.call.args 0) (slice_index c.args.call.args 1) c.get.result.now.space h c.self.inside.spaces.items (new_parts c).spaces c.self.inside.regions.regions
    c.unmap_in-unmapped.new.regions.regions c.unmap_in-unmapped.result
left c h there =
    let number = c.get.result.now.space in
    let is = c.unmap_in-unmapped.ensures h (ap (λ (ss : List (Option Held)). slice_get ss number) c.deref_mut.ensures.value ∙ there) in
    record {
      held = is.held;
      spaces = items_set c.self.inside.spaces c.unmap_in-unmapped.new.spaces number (Some is.held)
          (is.spaces ∙ ap (λ (ss : List (Option Held)). slice_set ss number (Some is.held)) c.deref_mut.ensures.value);
      shaped = is.shaped;
      unmaps = is.unmaps;
    }

noted : (c : goal.After-finish) → c.finish.new.log.notes ≡ noted_call c.args.call c.status-value.result [] ∷ c.self.inside.log.notes
noted c = c.finish.ensures.notes ∙ (λ i. noted_call c.args.call c.status-value.result (map got_value (c.new-got.ensures.items i)) ∷ c.reserve.ensures.same i)

pub invariant_of-self-2 : goal.invariant_of-self-2
invariant_of-self-2 c =
    let k = kept_of c.self.inside in
    let lives = subst (λ (s : Kept). Lives s.procs c.args.call.pid) (sym c.self.view_is) c.requires.lives in
    let live = has_space k c.args.call.pid c.get.result.now c.self.invariant.0.0 lives c.get.ensures in
    let is = left c live.held live.there in
    let keeps = keeps_unmapped k c.self.invariant.0.0 c.self.invariant.0.1 c.get.result.now.space live.held live.there (slice_index c.args.call.args 0) (slice_index c.args.call.args 1)
    (new_parts c).spaces c.unmap_in-unmapped.new.regions.regions c.unmap_in-unmapped.result is in
    let now = with_maps k k.mem c.unmap_in-unmapped.new.regions.regions (new_parts c).spaces in
    let counted = counts c.args.call c.status-value.result [] k.notes c.finish.new.log.notes (noted c) in (
      (
        regular_ids _ (regular_finished now c.args.call.pid keeps.0 lives c.status-value.result k.mem k.tree k.files c.finish.new.procs c.finish.new.log.notes k.console c.pass.new.self refl c.finish.ensures.procs (omega (arith, counted))) (new_parts c).starts,
        keeps.1 c.finish.new.log.notes (omega (arith, counted)) (call_strays c.args.call c.status-value.result [] k.notes c.finish.new.log.notes (noted c)),
      ),
      search rules,
      c.self.invariant.2 ∙ ap whole_table (sym keeps.2),
    )

pub returns-clause-changes : goal.returns-clause-changes
returns-clause-changes c = λ a.
    let k = kept_of c.self.inside in
    let call = c.args.call in
    let addr = slice_index call.args 0 in
    let len = slice_index call.args 1 in
    subst (λ (old : Kept). (caller : Caller old call) → Changed a old caller.entry caller.held call (unmaps (asked_by a caller) (hit caller.held.maps addr len)) (new_parts c)) c.self.view_is
    (λ caller.
    let same : c.get.result.now ≡ caller.entry.value = value_found k.procs call.pid caller.entry caller.runs.lives c.get.result.now c.get.ensures in
    let is = left c caller.held (ap (λ (t : Task). slice_get k.spaces t.space) same ∙ caller.runs.home) in
    let at : UnmapsIn addr len caller.entry.value.space caller.held k.spaces (new_parts c).spaces k.regions c.unmap_in-unmapped.new.regions.regions c.unmap_in-unmapped.result =
    subst (λ (t : Task). UnmapsIn addr len t.space caller.held k.spaces (new_parts c).spaces k.regions c.unmap_in-unmapped.new.regions.regions c.unmap_in-unmapped.result) same is in
    changed_ids a k caller.entry caller.held call _ _ (changed_unmapped a k caller.entry caller.held call caller.runs caller.stands c.status-value.result (new_parts c).spaces c.unmap_in-unmapped.new.regions.regions c.finish.new.procs c.finish.new.log.notes
    c.finish.ensures.procs (noted c) c.pass.new.self addr len c.unmap_in-unmapped.result at c.status-value.ensures
    (c.pass.ensures ∙ ap (λ (t : Task). event_recorded k.recording t.space) same) (ap (λ n. n == 222) c.requires.munmap)) (new_parts c).starts)

pub returns-clause-holds : goal.returns-clause-holds
returns-clause-holds c = λ holds.
    let k = kept_of c.self.inside in
    let lives = subst (λ (s : Kept). Lives s.procs c.args.call.pid) (sym c.self.view_is) c.requires.lives in
    let live = has_space k c.args.call.pid c.get.result.now c.self.invariant.0.0 lives c.get.ensures in
    let copies = copies_clean k c.self.invariant.0.1 (holds_inside k c.args.self.now c.self.view_is holds) in
    let keeps = keeps_unmapped (cleaned k) (regular_clean k c.self.invariant.0.0) copies c.get.result.now.space live.held live.there (slice_index c.args.call.args 0) (slice_index c.args.call.args 1)
    (new_parts c).spaces c.unmap_in-unmapped.new.regions.regions c.unmap_in-unmapped.result (left c live.held live.there) in
    (keeps.1 (clean k.notes) (omega arith) (λ unstrayed. unstrayed)).hold (none_clean k.notes)
