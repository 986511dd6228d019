-- What a run with `--watch` does: it is the same run without it, but for the lines of its hits.
use Rattle.std.specs.Prelude.{◌≡◌, ℕ, List, ◌++◌, Some, None}
use Rattle.page_runs.specs.declared.place.Kind.{Kind}
use Rattle.region_watch.specs.declared.mode.Mode.{Mode}
use Rattle.region_watch.specs.declared.mode.Mode.TheVariants.{Halt, GoOn}
use Rattle.watch_points.specs.declared.point.PointKind.{PointKind}
use Rattle.machine_world.specs.World.{World}
use Rattle.memory_world.specs.Physical.{opening_in}
use Rattle.flat_machine.specs.Runs.{repeated}
use Rattle.flat_machine.specs.Hits.{hits, hits_in_memory}
use Rattle.file_commands.specs.Outcome.{Inputs}
use Rattle.file_commands.specs.Arguments.{RunOptions, run}
use Rattle.suite_top.specs.KeptItems.{keep_of}
use Rattle.suite_top.specs.Report.{notes_text}
use Rattle.suite_top.specs.Watched.{watched_text}
use Rattle.suite_top.specs.Result.{command_outcome}
use Rattle.command_laws.specs.RunLaws.{Opens}
use Rattle.command_laws.specs.TraceLaws.{IsAsRun}
use Rattle.command_laws.specs.Beside.{halting, going_on}

-- whatever is watched, and whether items are kept or not
abbrev pub WatchesAreRuns : Type 0
WatchesAreRuns = (manifest : List ℕ) (options : RunOptions) (point : PointKind) (inputs : Inputs)
    → IsAsRun (command_outcome (Some (run manifest (record options { watch = Some point }))) inputs) (command_outcome (Some (run manifest (record options { watch = None }))) inputs)

-- the world that its notes are told of
abbrev pub world_behind : {inputs : Inputs} {name : List ℕ} {keep : ℕ} {kind : Kind} → Mode → Opens inputs name keep kind → World
world_behind Halt o = (halting o).world
world_behind GoOn o = (going_on o).now.world

-- the lines of the hits of this kind in the ranges of the manifest, in the order of the run: those of its turns, and with `--go-on` those of
-- its turns over one memory
abbrev pub hit_lines : {inputs : Inputs} {name : List ℕ} {keep : ℕ} {kind : Kind} → Mode → PointKind → Opens inputs name keep kind → List ℕ
hit_lines Halt point o = watched_text (Some point) o.manifest.watches (λ kind spans. hits kind spans (repeated o.manifest.repeat o.manifest.quanta) o.booted.world)
hit_lines GoOn point o =
    watched_text (Some point) o.manifest.watches
    (λ kind spans. hits_in_memory kind spans (repeated o.manifest.repeat o.manifest.quanta) (opening_in o.booted.brought.headers o.booted.world))

-- a text that has some lines more than another one, behind the start that both have
pub record HasMore (start lines without_it with_it : List ℕ) : Type 0 where
  pub rest : List ℕ
  pub without : without_it ≡ start ++ rest
  pub has : with_it ≡ start ++ lines ++ rest

-- where the machine is reached, the report has just these lines more, behind the notes
abbrev pub WatchesTellHits : Type 0
WatchesTellHits = (inputs : Inputs) (manifest : List ℕ) (options : RunOptions) (point : PointKind) (o : Opens inputs manifest (keep_of options.kept) options.kind)
    → HasMore (notes_text options.log (world_behind options.mode o)) (hit_lines options.mode point o)
    (command_outcome (Some (run manifest (record options { watch = None }))) inputs).ending.report
    (command_outcome (Some (run manifest (record options { watch = Some point }))) inputs).ending.report
