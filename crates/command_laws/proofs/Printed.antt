-- What a run writes to the console is the data of the writes that its events noted: at boot nothing is noted and nothing written.
use Rattle.std.proofs.Common.{◌≡◌, ℕ, List, ◌++◌, map, ap, ◌∙◌}
use Rattle.page_runs.specs.declared.place.Kind.{Kind}
use Rattle.call_log.specs.Notes.{CallEntry}
use Rattle.region_watch.specs.declared.mode.Mode.{Mode}
use Rattle.region_watch.specs.declared.mode.Mode.TheVariants.{Halt, GoOn}
use Rattle.alone_laws.specs.Stays.{kept_calls_of}
use Rattle.memory_world.specs.Physical.{opening_in}
use Rattle.end_laws.specs.Console.{moments, all_calls, all_printed, PrintsAlong, BeginsSilent}
use Rattle.end_laws.specs.ConsoleIn.{moments_in, all_calls_in, all_printed_in, PrintsAlongIn}
use Rattle.end_laws.proofs.ConsoleRuns.{runs_print, boots_print_none}
use Rattle.end_laws.proofs.ConsoleMemory.{runs_print_in}
use Rattle.file_commands.specs.Outcome.{Inputs}
use Rattle.suite_top.specs.Run.{start_line, opening}
use Rattle.command_laws.specs.RunLaws.{Opens}
use Rattle.command_laws.specs.Beside.{halting, going_on}
use Rattle.command_laws.specs.WatchLaws.{world_behind}
use Rattle.command_laws.specs.Headline.{quanta_of, calls_by, printed_by, AreWholeBy}

module _ {inputs : Inputs} {name : List ℕ} {keep : ℕ} {kind : Kind} (o : Opens inputs name keep kind) where
  silent : BeginsSilent (opening keep kind o.manifest o.booted.brought) o.booted.world
  silent = boots_print_none (opening keep kind o.manifest o.booted.brought) (map start_line o.manifest.starts) o.booted.world o.booted.boots

  along : PrintsAlong o.booted.world (moments (quanta_of o) o.booted.world) (halting o)
  along = runs_print (quanta_of o) o.booted.world

  along_in : PrintsAlongIn (opening_in o.booted.brought.headers o.booted.world) (moments_in (quanta_of o) (opening_in o.booted.brought.headers o.booted.world)) (going_on o).now
  along_in = runs_print_in (quanta_of o) (opening_in o.booted.brought.headers o.booted.world)

  pub are_noted : (mode : Mode) → kept_calls_of (world_behind mode o).notes ≡ calls_by o mode
  unfolding opening_in
  are_noted Halt = along.notes ∙ ap (λ (calls : List CallEntry). calls ++ all_calls (moments (quanta_of o) o.booted.world)) silent.notes
  are_noted GoOn =
      along_in.notes
      ∙ ap (λ (calls : List CallEntry). calls ++ all_calls_in (moments_in (quanta_of o) (opening_in o.booted.brought.headers o.booted.world))) silent.notes

  pub are_printed : (mode : Mode) → (world_behind mode o).rest.console ≡ printed_by o mode
  unfolding opening_in
  are_printed Halt = along.console ∙ ap (λ (bytes : List ℕ). bytes ++ all_printed (moments (quanta_of o) o.booted.world)) silent.console
  are_printed GoOn =
      along_in.console
      ∙ ap (λ (bytes : List ℕ). bytes ++ all_printed_in (moments_in (quanta_of o) (opening_in o.booted.brought.headers o.booted.world))) silent.console

  pub are_whole : (mode : Mode) → AreWholeBy o mode
  are_whole Halt = along.whole
  are_whole GoOn = along_in.whole
