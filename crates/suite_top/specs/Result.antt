-- What each command line gives: what it requests of the host, and what it ends with. Each command's part stands in its own file.
use Rattle.std.specs.Prelude.{ℕ, List, [], Option, Some, None}
use Rattle.file_commands.specs.Outcome.{Outcome, Inputs}
use Rattle.file_commands.specs.Ending.{usage_ending}
use Rattle.file_commands.specs.Arguments.{Invocation, convert, list, check, run, trace, romfs, unromfs, replay, demo, command_of}
use Rattle.file_commands.specs.Convert.{convert_outcome}
use Rattle.file_commands.specs.List.{list_outcome}
use Rattle.file_commands.specs.Check.{check_outcome}
use Rattle.file_commands.specs.Romfs.{romfs_outcome}
use Rattle.file_commands.specs.Unromfs.{unromfs_outcome}
use Rattle.file_commands.specs.Replay.{replay_outcome}
use Rattle.suite_top.specs.Telling.{Report, Trace}
use Rattle.suite_top.specs.Run.{run_outcome}
use Rattle.suite_top.specs.Demo.{demo_outcome}

abbrev pub command_outcome : Option Invocation → Inputs → Outcome
command_outcome None inputs = record { requests = []; ending = usage_ending }
command_outcome (Some (convert elf flt stack)) inputs = convert_outcome elf flt stack inputs
command_outcome (Some (list flt)) inputs = list_outcome flt inputs
command_outcome (Some (check elf all)) inputs = check_outcome elf all inputs
command_outcome (Some (run manifest options)) inputs = run_outcome manifest (Report options) inputs
command_outcome (Some (trace manifest options)) inputs = run_outcome manifest (Trace options) inputs
command_outcome (Some (romfs manifest image)) inputs = romfs_outcome manifest image inputs
command_outcome (Some (unromfs image)) inputs = unromfs_outcome image inputs
command_outcome (Some (replay kind file items)) inputs = replay_outcome kind file items inputs
command_outcome (Some (demo programs)) inputs = demo_outcome programs inputs

-- the command of these arguments, where its loads give these files
abbrev pub result_of : List (List ℕ) → Inputs → Outcome
result_of arguments inputs = command_outcome (command_of arguments) inputs
