-- What the notes so far tell.
use Rattle.std.proofs.Common.{◌-◌, take, map, reverse}
use Rattle.call_log.specs.Values.{note_value}
use Rattle.flat_loader.specs.Frame.{texts}
use Rattle.recorded_items.specs.Followed.{HasFollowed}
use Rattle.recorded_items.proofs.recorded.kept_items.Given as goal

abbrev pub invariant-loop-note : goal.invariant-loop-note
invariant-loop-note l = HasFollowed (l.keep - 1) (texts l.lists) l.follower (reverse (map note_value (take l.note-index l.notes)))
