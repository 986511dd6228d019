use Rattle.std.proofs.Common.{◌∙◌, ◌++◌, refl, sym, ap, ap₂, arith}
use Rattle.flat_layout.proofs.Facts.{size_le}
use Rattle.psabi_relocs.specs.Effect.{listed}
use Rattle.elf2flt_tool.specs.Faults.{outside_in, entry_at}
use Rattle.elf2flt_tool.proofs.Entries.{entry_inside, entry_lens, entry_added}
use Rattle.elf2flt_tool.proofs.NotedSteps.{sound_noted}
use Rattle.elf2flt_tool.proofs.noting.note_sound.Goals as goal

pub note_spans-requires-clause-inside : goal.note_spans-requires-clause-inside
note_spans-requires-clause-inside c =
    let laid = rw c.walk.view_is at c.walk.invariant.layout in
    let numbers = rw c.walk.view_is at c.walk.invariant.numbers in
    entry_inside c.args.walk.now c.args.section c.args.entry c.walk.inside.layout.now _ (listed c.args.checked.now.spans) laid c.requires.noted.cover.len (sym c.requires.spans)
    numbers c.requires.kept c.requires.sound

pub note_spans-requires-clause-words : goal.note_spans-requires-clause-words
note_spans-requires-clause-words c = entry_lens c.args.walk.now c.args.section c.args.entry (listed c.args.checked.now.spans) (sym c.requires.spans)

pub outside_in-word-requires : goal.outside_in-word-requires
outside_in-word-requires c =
    let small = size_le c.walk.inside.elf.now c.walk.invariant.numbers in
    rw c.walk.invariant.layout (omega arith)

pub returns : goal.returns
returns c =
    let e = c.args.walk.now in
    let laid = rw c.walk.view_is at c.walk.invariant.layout in
    let x = entry_at c.args.section c.args.entry in
    sound_noted e c.args.section c.args.entry c.args.noted.now _ c.requires.noted c.requires.sound refl
    (c.in_ok-push_some.ensures ∙ ap (λ ws. c.args.noted.now.outside.items ++ ws) (c.outside_in-word.ensures ∙ ap₂ (λ l f. outside_in l x f) laid c.requires.effect))
    (rw (sym c.requires.spans) (entry_added e c.walk.inside.layout.now (listed c.args.checked.now.spans) c.args.noted.now.cover _ laid c.in_ok-note_spans.ensures))
