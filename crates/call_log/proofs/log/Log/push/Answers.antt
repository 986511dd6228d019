-- What is kept passes no limit, and the counts grow by what the note holds.
use Rattle.std.proofs.Common.{◌≡◌, ◌+◌, ◌≤◌, true, [], ◌∷◌, ◌++◌, map, reverse, sym, ◌∙◌, ap, rules, arith}
use Rattle.std.specs.Vec.{vec_len, vec_capacity}
use Rattle.call_log.specs.Notes.{calls_in, bytes_in}
use Rattle.call_log.specs.Values.{note_value}
use Rattle.call_log.specs.Log.{KeptNotes, may_keep}
use Rattle.call_log.specs.Inside.{notes_of}
use Rattle.call_log.proofs.Room.{kept_fits, notes_more, count_more, not_cut}
use Rattle.call_log.proofs.log.Log.push.Goals as goal

pub overflow_add-self-2 : goal.overflow_add-self-2
overflow_add-self-2 c =
    let i = c.self.inside in
    let v = c.self.invariant in
    let n = note_value c.args.note in
    let keeps : may_keep (notes_of i) n ≡ true = ap (λ (k : KeptNotes). may_keep k.notes n) c.self.view_is ∙ sym c.may_keep.ensures ∙ c.if-not-may_keep.false in
    let fit = kept_fits (notes_of i) i.calls i.bytes v.calls v.bytes v.calls_fit v.bytes_fit n keeps in
    omega (arith, fit.1, not_cut i.bytes (bytes_in n) c.bytes_in.result fit.1 c.bytes_in.ensures)

pub invariant_of-self-2 : goal.invariant_of-self-2
invariant_of-self-2 c =
    let i = c.self.inside in
    let v = c.self.invariant in
    let n = note_value c.args.note in
    let keeps : may_keep (notes_of i) n ≡ true = ap (λ (k : KeptNotes). may_keep k.notes n) c.self.view_is ∙ sym c.may_keep.ensures ∙ c.if-not-may_keep.false in
    let fit = kept_fits (notes_of i) i.calls i.bytes v.calls v.bytes v.calls_fit v.bytes_fit n keeps in
    let bytes = not_cut i.bytes (bytes_in n) c.bytes_in.result fit.1 c.bytes_in.ensures in
    let items = c.push_reserved.ensures.items ∙ ap (λ xs. xs ++ c.args.note ∷ []) c.reserve.ensures.items in
    let room : vec_len c.reserve.new.self + 1 ≤ vec_capacity c.reserve.new.self = search rules in
    let more = ap (λ xs. reverse (map note_value xs)) items ∙ notes_more note_value i.notes.items c.args.note in
    record {
      calls = count_more calls_in (notes_of i) _ n i.calls c.calls_in.result v.calls c.calls_in.ensures more;
      bytes = count_more bytes_in (notes_of i) _ n i.bytes c.bytes_in.result v.bytes bytes more;
      calls_fit = omega (arith, fit.0, c.calls_in.ensures);
      bytes_fit = omega (arith, fit.1, bytes);
      ready = omega (arith, room, v.ready, c.push_reserved.ensures.len, c.push_reserved.ensures.capacity, c.reserve.ensures.len, c.reserve.ensures.capacity, c.saturating_sub-self-inside.ensures);
    }
