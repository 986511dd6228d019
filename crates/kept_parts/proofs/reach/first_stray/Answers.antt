-- By the first that is one.
use Rattle.std.proofs.Common.{refl, sym}
use Rattle.kept_parts.proofs.Common.NotedStrays.{still_none, finds_first, finds_none}
use Rattle.kept_parts.proofs.reach.first_stray.Goals as goal

pub loop-note-init : goal.loop-note-init
loop-note-init c = refl

pub loop-note-preserved : goal.loop-note-preserved
loop-note-preserved c = still_none c.args.notes.now c.loop-note.note-index c.note-item.result c.loop-note-test.true c.note-item.is c.loop-note.invariant c.in_default.not-Stray

pub returns-in-Stray : goal.returns-in-Stray
returns-in-Stray c =
    sym (finds_first c.args.notes.now c.loop-note.note-index c.note-item.result c.loop-note-test.true c.note-item.is c.loop-note.invariant _ _ c.in-Stray.is)

pub returns : goal.returns
returns c = sym (finds_none c.args.notes.now c.loop-note.note-index c.loop-note-test.false c.loop-note.invariant)
