-- The break may move, and the call has its reply.
use Rattle.std.proofs.Common.{rules, ◌≡◌, arith, List, Option, ◌∷◌, Ok, sym, ap, subst, ◌∙◌}
use Rattle.std.specs.Prelude.{ℕ, map, slice_get, slice_set, Some}
use Rattle.std.specs.Vec.{with_items}
use Rattle.call_log.specs.Notes.{Note}
use Rattle.call_log.specs.Values.{got_value}
use Rattle.mmap_rules.specs.Held.{Held, next_brk}
use Rattle.vfork_exec.specs.Procs.{Lives}
use Rattle.kept_parts.specs.declared.task.Task.{Task}
use Rattle.kept_parts.specs.Kept.{Kept}
use Rattle.kept_parts.specs.Inside.{kept_of}
use Rattle.kept_parts.specs.Calls.{LivesIn, value_of, brk_of, noted_call, RepliesBy}
use Rattle.kept_parts.specs.Recorded.{event_recorded}
use Rattle.kept_parts.proofs.Common.Recorded.{room_left}
use Rattle.kept_parts.proofs.Common.RunningProcess.{value_found}
use Rattle.kept_parts.proofs.Replies.Replied.{items_set}
use Rattle.kept_parts.proofs.Copies.BehindCalls.{counts, call_strays, copies_called}
use Rattle.kept_parts.proofs.Replies.Finished.{regular_settled, replied_by}
use Rattle.kept_parts.proofs.Copies.BehindStrays.{holds_inside}
use Rattle.kept_parts.proofs.kept.KeptParts.reply.Goals as goal

abbrev new_parts : goal.After-finish → Kept
new_parts c = record (kept_of c.self.inside) {
  spaces = (with_items c.self.inside.spaces c.settle-value.new.spaces).items;
  procs = c.finish.new.procs;
  notes = c.finish.new.log.notes;
  recording = c.pass.new.self;
}

pub finish-requires-clause-room : goal.finish-requires-clause-room
finish-requires-clause-room c =
    room_left (kept_of c.self.inside) c.args.self.now c.self.view_is c.args.call.sent.items c.requires.room c.reserve.new.self.notes c.reserve.ensures.same c.new-got.result.items c.new-got.ensures.items

-- what became of the space
settled : (c : goal.After-finish) (h : Held) → slice_get c.self.inside.spaces.items c.get.result.now.space ≡ Some (Some h) →
    (c.settle-value.result ≡ value_of (next_brk h) c.args.effect)
    × ((with_items c.self.inside.spaces c.settle-value.new.spaces).items
    ≡ slice_set c.self.inside.spaces.items c.get.result.now.space (Some (record h { brk = brk_of (next_brk h) h.brk c.args.effect })))
settled c h there =
    let number : ℕ = c.get.result.now.space in
    let home = ap (λ (ss : List (Option Held)). slice_get ss number) c.deref_mut.ensures.value ∙ there in
    let done = c.settle-value.ensures h home in
    let moved : Option Held = Some (record h { brk = brk_of (next_brk h) h.brk c.args.effect }) in
    (done.0, items_set c.self.inside.spaces c.settle-value.new.spaces number moved (done.1 ∙ ap (λ (ss : List (Option Held)). slice_set ss number moved) c.deref_mut.ensures.value))

pub invariant_of-self-2 : goal.invariant_of-self-2
invariant_of-self-2 c =
    let k = kept_of c.self.inside in
    let lives = subst (λ (s : Kept). Lives s.procs c.args.call.pid) (sym c.self.view_is) c.requires.lives in
    let noted = c.finish.ensures.notes ∙ ap (λ (ns : List Note). noted_call c.args.call c.settle-value.result (map got_value c.new-got.result.items) ∷ ns) c.reserve.ensures.same in
    let counted = counts c.args.call c.settle-value.result _ k.notes _ noted in (
      (
        regular_settled k c.args.call.pid c.self.invariant.0.0 lives c.get.result.now c.get.ensures c.settle-value.result (λ h. brk_of (next_brk h) h.brk c.args.effect)
            (new_parts c).spaces c.finish.new.procs c.finish.new.log.notes c.pass.new.self (λ h there. (settled c h there).1) c.finish.ensures.procs (omega (arith, counted)),
        copies_called k c.self.invariant.0.1 c.finish.new.log.notes counted (call_strays c.args.call c.settle-value.result _ k.notes _ noted),
      ),
      search rules,
      c.self.invariant.2,
    )

pub returns-clause-replies : goal.returns-clause-replies
returns-clause-replies c = λ a e h.
    let k = kept_of c.self.inside in
    let call = c.args.call in
    let noted = c.finish.ensures.notes
    ∙ (λ i. noted_call call c.settle-value.result (map got_value (c.new-got.ensures.items i)) ∷ c.reserve.ensures.same i) in
    subst (λ (old : Kept). LivesIn old call.pid e h → RepliesBy a old e h call c.args.effect (new_parts c) (Ok tt)) c.self.view_is
    (λ runs.
    let same : c.get.result.now ≡ e.value = value_found k.procs call.pid e runs.lives c.get.result.now c.get.ensures in
    let done = settled c h (ap (λ (t : Task). slice_get k.spaces t.space) same ∙ runs.home) in
    let spaces = done.1 ∙ ap (λ (t : Task). slice_set k.spaces t.space (Some (record h { brk = brk_of (next_brk h) h.brk c.args.effect }))) same in
    replied_by a k e h call runs c.args.effect c.settle-value.result (new_parts c).spaces c.finish.new.procs c.finish.new.log.notes c.pass.new.self done.0 spaces c.finish.ensures.procs noted
    (c.pass.ensures ∙ ap (λ (t : Task). event_recorded k.recording t.space) same) c.requires.plain)

pub returns-clause-holds : goal.returns-clause-holds
returns-clause-holds c = holds_inside (kept_of c.self.inside) c.args.self.now c.self.view_is
