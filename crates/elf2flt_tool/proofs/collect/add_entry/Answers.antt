use Rattle.std.proofs.Common.{◌∷◌, inr, sym}
use Rattle.std.specs.Option.{option_to_list}
use Rattle.elf2flt_tool.proofs.Entries.{entry_accepted, entry_refused, entry_inside, entry_lens, entry_added}
use Rattle.elf2flt_tool.proofs.Walked.{entry_found}
use Rattle.elf2flt_tool.proofs.collect.add_entry.Goals as goal

pub note_spans-requires-clause-inside : goal.note_spans-requires-clause-inside
note_spans-requires-clause-inside c =
    let spans = c.in-Ok.checked.spans in
    let is = rw c.walk.view_is at c.in-Ok.ensures in
    let laid = rw c.walk.view_is at c.walk.invariant.layout in
    let numbers = rw c.walk.view_is at c.walk.invariant.numbers in
    entry_inside c.args.walk.now c.args.section c.args.entry c.walk.inside.layout.now _ (spans.own ∷ option_to_list spans.slot) laid c.requires.found.len (sym is.2)
    numbers c.requires.kept is.0

pub note_spans-requires-clause-words : goal.note_spans-requires-clause-words
note_spans-requires-clause-words c =
    let spans = c.in-Ok.checked.spans in
    let is = rw c.walk.view_is at c.in-Ok.ensures in
    entry_lens c.args.walk.now c.args.section c.args.entry (spans.own ∷ option_to_list spans.slot) (sym is.2)

pub returns-in_ok-note_spans-in-Ok : goal.returns-in_ok-note_spans-in-Ok
returns-in_ok-note_spans-in-Ok c =
    let e = c.args.walk.now in
    let i = c.args.section in
    let j = c.args.entry in
    let spans = c.in-Ok.checked.spans in
    let is = rw c.walk.view_is at c.in-Ok.ensures in
    let laid = rw c.walk.view_is at c.walk.invariant.layout in (
      entry_accepted e i j is.0,
      entry_found e i j c.args.cover.now c.note_spans.new.cover c.requires.found
          (rw (sym is.2) (entry_added e c.walk.inside.layout.now (spans.own ∷ option_to_list spans.slot) c.args.cover.now c.note_spans.new.cover laid c.in_ok-note_spans-in-Ok.ensures)),
    )

pub returns-in-Err : goal.returns-in-Err
returns-in-Err c =
    let is = rw c.walk.view_is at c.in-Err.ensures in
    inr (entry_refused c.args.walk.now c.args.section c.args.entry c.in-Err.fault is)
