-- The last note's follower has all calls.
use Rattle.std.proofs.Common.{◌≡◌, ℕ, ◌-◌, ◌<◌, ◌≤◌, zero, suc, List, map, reverse, length, take, sym, ap, ◌∙◌, subst, take_all, arith}
use Rattle.std.proofs.lemmas.List.{length-map, length-reverse, length-take-le}
use Rattle.call_log.specs.Notes.{Note}
use Rattle.call_log.specs.declared.note.Note.{Note as Stored}
use Rattle.call_log.specs.Values.{note_value}
use Rattle.flat_loader.specs.Frame.{texts}
use Rattle.items_text.specs.Values.{item_value}
use Rattle.recording_laws.specs.Homes.{calls_at}
use Rattle.recording_laws.specs.Items.{with_lists}
use Rattle.recorded_items.specs.Recorded.{told_item, calls_of, kept_space}
use Rattle.recorded_items.specs.Followed.{HasFollowed}
use Rattle.recorded_items.proofs.Left.{few_loads, with_none}
use Rattle.recorded_items.proofs.Told.{note_more}
use Rattle.recorded_items.proofs.recorded.kept_items.Goals as goal

so_long : (i : ℕ) (notes : List Stored) → i ≤ length notes → length (reverse (map note_value (take i notes))) ≡ i
so_long i notes within = length-reverse (map note_value (take i notes)) ∙ length-map (take i notes) note_value ∙ length-take-le i notes within

kept : (keep : ℕ) (notes : List Note) → 0 < keep → calls_at (keep - 1) notes ≡ calls_of (kept_space keep) notes
kept zero notes some = absurd (omega (arith, some))
kept (suc keep) notes some = ap (λ k. calls_at k notes) (omega arith)

pub returns-then-keep-eq0 : goal.returns-then-keep-eq0
returns-then-keep-eq0 c =
    let notes = reverse (map note_value c.args.notes.now) in
    let lists = texts c.args.lists.now in
    ap (map item_value) c.new.ensures.items ∙ ap (map told_item) (sym (with_none lists))
    ∙ ap (λ keep. map told_item (with_lists (calls_of (kept_space keep) notes) lists)) (sym c.if-keep-eq0.true)

pub follow-requires : goal.follow-requires
follow-requires c =
    let so_far = reverse (map note_value (take c.loop-note.note-index c.args.notes.now)) in
    let count : c.loop-note.follower.members.loads ≤ length so_far = omega (arith, c.loop-note.invariant.members.loads, few_loads so_far) in
    let long : length so_far ≡ c.loop-note.note-index = so_long c.loop-note.note-index c.args.notes.now (omega arith) in
    omega arith

pub loop-note-preserved : goal.loop-note-preserved
loop-note-preserved c =
    let at = note_more c.args.notes.now c.loop-note.note-index c.note-item.result c.loop-note-test.true c.note-item.is in
    subst (λ ns. HasFollowed (c.args.keep - 1) (texts c.args.lists.now) c.follow.new.self ns) (sym at)
    (c.in_ok-follow.ensures (c.args.keep - 1) (texts c.args.lists.now) (reverse (map note_value (take c.loop-note.note-index c.args.notes.now))) c.loop-note.invariant)

pub returns : goal.returns
returns c =
    let notes = c.args.notes.now in
    let all : take c.loop-note.note-index notes ≡ notes = take_all c.loop-note.note-index notes c.loop-note-test.false in
    c.loop-note.invariant.items
    ∙ ap (λ ns. map told_item (with_lists (calls_at (c.args.keep - 1) (reverse (map note_value ns))) (texts c.args.lists.now))) all
    ∙ ap (map told_item) (ap (λ calls. with_lists calls (texts c.args.lists.now)) (kept c.args.keep (reverse (map note_value notes)) (omega (arith, c.if-keep-eq0.false))))
