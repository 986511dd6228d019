-- Each note names a program that is there.
use Rattle.std.proofs.Common.{length, sym, subst}
use Rattle.call_log.specs.declared.note.Note.{Note}
use Rattle.call_log.specs.Values.{note_value}
use Rattle.call_log.specs.Programs.{IsProgramBelow}
use Rattle.trace_text.proofs.Shown.{below_at}
use Rattle.trace_text.proofs.texts.trace_texts.Goals as goal

pub push_note-requires : goal.push_note-requires
push_note-requires c =
    let n = length c.args.paths.now in
    subst (λ (note : Note). IsProgramBelow n (note_value note)) (sym c.note-item.is) (below_at n c.args.notes.now c.loop-note.note-index c.note-item.result c.requires c.loop-note-test.true)
