-- At boot, by each event, and along turns and runs.
use Rattle.end_laws.proofs.ConsoleEvents.{events_print}
use Rattle.end_laws.proofs.ConsoleRuns.{turns_print, runs_print, boots_print_none}
use Rattle.end_laws.proofs.laws.console_law.Goals as goal

pub returns : goal.returns
returns c = record { boots = boots_print_none; events = events_print; turns = turns_print; runs = runs_print }
