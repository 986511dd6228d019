-- By the opening world, and by each event, turn and run.
use Rattle.alone_laws.proofs.SoundRuns.{boots_are_sound, events_keep_sound, turns_keep_sound, runs_keep_sound}
use Rattle.alone_laws.proofs.laws.sound_law.Goals as goal

pub returns-clause-boots : goal.returns-clause-boots
returns-clause-boots c = boots_are_sound

pub returns-clause-events : goal.returns-clause-events
returns-clause-events c = events_keep_sound

pub returns-clause-turns : goal.returns-clause-turns
returns-clause-turns c = turns_keep_sound

pub returns-clause-runs : goal.returns-clause-runs
returns-clause-runs c = runs_keep_sound
