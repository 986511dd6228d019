-- By the events, one after the other.
use Rattle.machine_world.proofs.Loads.{boot_loads_programs, turn_loads_programs, run_loads_programs}
use Rattle.machine_world.proofs.laws.programs_law.Goals as goal

pub returns : goal.returns
returns c = record { boot = boot_loads_programs; turns = turn_loads_programs; runs = run_loads_programs }
