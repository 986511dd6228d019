-- Every event, turn and run leaves a world in order.
use Rattle.std.proofs.Common.{◌≡◌, ℕ, List}
use Rattle.quantum_sched.specs.declared.Quantum.{Quantum}
use Rattle.machine_world.specs.World.{World}
use Rattle.machine_world.specs.Families.{MayRun}
use Rattle.machine_world.specs.Event.{Trace, went, event}
use Rattle.machine_world.specs.Turns.{turn, turns}
use Rattle.machine_world.proofs.CountedKept.{events_keep_counted, turns_keep_counted, runs_keep_counted}
use Rattle.machine_world.proofs.Marks.{events_leave_no_mark, turns_leave_no_mark, runs_leave_no_mark}
use Rattle.alone_laws.proofs.SoundRuns.{events_keep_sound, turns_keep_sound, runs_keep_sound}
use Rattle.waits_laws.specs.Laws.{IsOrdered}

pub events_keep_ordered : (w : World) (pid : ℕ) (now : World) (t : Trace) → IsOrdered w → MayRun w pid → event w pid ≡ went now t → IsOrdered now
events_keep_ordered w pid now t h may is = record {
  sound = events_keep_sound w pid now t h.sound may is;
  counted = events_keep_counted w pid now t h.counted is;
  unmarked = events_leave_no_mark w pid now t h.unmarked is;
}

pub turns_keep_ordered : (count pid : ℕ) (w : World) → IsOrdered w → MayRun w pid → IsOrdered (turn count pid w).world
turns_keep_ordered count pid w h may = record {
  sound = turns_keep_sound count pid w h.sound may;
  counted = turns_keep_counted count pid w h.counted;
  unmarked = turns_leave_no_mark count pid w h.unmarked;
}

pub runs_keep_ordered : (quanta : List Quantum) (w : World) → IsOrdered w → IsOrdered (turns quanta w).world
runs_keep_ordered quanta w h = record {
  sound = runs_keep_sound quanta w h.sound;
  counted = runs_keep_counted quanta w h.counted;
  unmarked = runs_leave_no_mark quanta w h.unmarked;
}
