-- One more note, and in the end all of them.
use Rattle.std.proofs.Common.{◌≡◌, ℕ, List, ◌++◌, map, take, ap, ◌∙◌, subst}
use Rattle.std.specs.Prelude.{IfOk}
use Rattle.std.specs.Option.{option_to_list}
use Rattle.std.proofs.lemmas.List.{take_all}
use Rattle.call_log.specs.declared.note.Note.{Note}
use Rattle.call_log.specs.Values.{note_value}
use Rattle.trace_text.specs.declared.count.Count.{Count}
use Rattle.trace_text.specs.Counts.{shown_call, shown_calls, tally, counts_of}
use Rattle.trace_text.proofs.Shown.{shown_more}
use Rattle.trace_text.proofs.CountSteps.{values_tally}
use Rattle.trace_text.proofs.counting.counts.Goals as goal

pub loop-note-preserved : goal.loop-note-preserved
loop-note-preserved c =
    let notes = c.args.notes.now in
    let i = c.loop-note.note-index in
    let pid = c.args.pid in
    let so_far = shown_calls pid (map note_value (take i notes)) in
    c.in_ok-add_note.ensures so_far c.loop-note.invariant
    ∙ ap (λ (note : Note). tally (so_far ++ option_to_list (shown_call pid (note_value note)))) c.note-item.is
    ∙ ap tally (shown_more pid notes i c.note-item.result c.loop-note-test.true)

pub returns : goal.returns
returns c =
    let notes = c.args.notes.now in
    let all : map (λ (p : ℕ × Count). p.1) c.loop-note.counts.entries ≡ counts_of (shown_calls c.args.pid (map note_value notes)) =
    ap (map (λ (p : ℕ × Count). p.1)) c.loop-note.invariant
    ∙ values_tally (shown_calls c.args.pid (map note_value (take c.loop-note.note-index notes)))
    ∙ ap (λ (notes : List Note). counts_of (shown_calls c.args.pid (map note_value notes))) (take_all c.loop-note.note-index notes c.loop-note-test.false) in
    subst (λ (counts : List Count). IfOk c.list_of.result (λ list. list.items ≡ counts)) all c.list_of.ensures
