-- Every turn and every run keeps the stays right.
pub use Rattle.alone_laws.proofs.BootStays.{boots_begin_stays}
pub use Rattle.alone_laws.proofs.StaysKept.{events_keep_stays}
use Rattle.alone_laws.specs.Stays.{AreRight}
use Rattle.alone_laws.specs.Laws.{TurnsKeepStays, RunsKeepStays}
use Rattle.alone_laws.proofs.SoundRuns.{events_keep_sound, turns_keep_sound}
use Rattle.alone_laws.proofs.TurnStays.{told_stray, along_turns, along_runs}

pub turns_keep_stays : TurnsKeepStays
turns_keep_stays = along_turns AreRight told_stray events_keep_sound events_keep_stays

pub runs_keep_stays : RunsKeepStays
runs_keep_stays = along_runs AreRight told_stray events_keep_sound events_keep_stays turns_keep_sound
