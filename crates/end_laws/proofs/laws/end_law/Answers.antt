-- At boot, by each event, and along turns and runs.
use Rattle.end_laws.proofs.Ends.{events_end_as_alone}
use Rattle.end_laws.proofs.EndBoots.{boots_end_none}
use Rattle.end_laws.proofs.EndRuns.{turns_end_as_alone, runs_end_as_alone}
use Rattle.end_laws.proofs.laws.end_law.Goals as goal

pub returns : goal.returns
returns c = record { boots = boots_end_none; events = events_end_as_alone; turns = turns_end_as_alone; runs = runs_end_as_alone }
