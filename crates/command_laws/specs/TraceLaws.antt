-- What a call of `trace` does: it is the run of its manifest, but for the report.
use Rattle.std.specs.Prelude.{◌≡◌, ◌↔◌, ◌⊎◌, ℕ, ◌≤◌, List, ◌++◌, map, reverse, decimal, Some, None}
use Rattle.region_watch.specs.declared.mode.Mode.TheVariants.{Halt}
use Rattle.trace_text.specs.Texts.{trace_texts}
use Rattle.machine_world.specs.World.{program_path}
use Rattle.file_commands.specs.Outcome.{Outcome, Inputs}
use Rattle.file_commands.specs.declared.command.TraceOptions.{TraceOptions}
use Rattle.file_commands.specs.Arguments.{RunOptions, run, trace, least_pid, most_pid, pid_of}
use Rattle.suite_top.specs.Report.{own_dumps, stop_word, stop_line}
use Rattle.suite_top.specs.Result.{command_outcome}
use Rattle.command_laws.specs.RunLaws.{Opens, IsStop}
use Rattle.command_laws.specs.Beside.{halting}

-- the argument of `--pid` says a number exactly where it spells it and it is in the range
abbrev pub PidsAreSpelled : Type 0
PidsAreSpelled = (text : List ℕ) (n : ℕ) → (pid_of text ≡ Some n) ↔ ((text ≡ decimal n) × (least_pid ≤ n) × (n ≤ most_pid))

-- the same is asked of the host, and the status and the console are the same; one that doesn't reach its machine is the same as a whole
pub record IsAsRun (traced ran : Outcome) : Type 0 where
  pub requests : traced.requests ≡ ran.requests
  pub status : traced.ending.status ≡ ran.ending.status
  pub out : traced.ending.out ≡ ran.ending.out
  pub early : IsStop ran.ending.status ⊎ (traced ≡ ran)

-- whatever is shown, and whatever the run tells
abbrev pub TracesAreRuns : Type 0
TracesAreRuns = (manifest : List ℕ) (options : TraceOptions) (ran : RunOptions) (inputs : Inputs)
    → IsAsRun (command_outcome (Some (trace manifest options)) inputs) (command_outcome (Some (run manifest (record ran { mode = Halt; kind = options.kind; kept = None }))) inputs)

-- where the machine is reached, the report has the texts of a trace, of the notes in the world behind the turns, then the dumps and why the
-- run stopped
abbrev pub TracesTellNotes : Type 0
TracesTellNotes = (inputs : Inputs) (manifest : List ℕ) (options : TraceOptions) (o : Opens inputs manifest 0 options.kind)
    → (command_outcome (Some (trace manifest options)) inputs).ending.report
    ≡ trace_texts options.pid options.counted (map program_path (halting o).world.rest.programs) (reverse (halting o).world.notes)
    ++ own_dumps (halting o).world o.manifest.dumps
    ++ stop_line (stop_word (halting o).end) (halting o).world.events
