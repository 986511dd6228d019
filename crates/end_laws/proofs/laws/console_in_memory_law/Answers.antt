-- By each event, and along turns and runs.
use Rattle.end_laws.proofs.ConsoleMemory.{events_print_in, turns_print_in, runs_print_in}
use Rattle.end_laws.proofs.laws.console_in_memory_law.Goals as goal

pub returns : goal.returns
returns c = record { events = events_print_in; turns = turns_print_in; runs = runs_print_in }
