-- A run with `--watch` and the same run without it.
use Rattle.std.proofs.Common.{◌≡◌, ℕ, Bool, List, [], ◌++◌, Option, Some, None, inl, refl, sym, ap, ◌∙◌}
use Rattle.std.proofs.lemmas.List.{append_assoc}
use Rattle.machine_world.specs.World.{World}
use Rattle.machine_world.specs.Turns.{End, turns}
use Rattle.memory_world.specs.Physical.{turns_in, opening_in}
use Rattle.region_watch.specs.declared.mode.Mode.{Mode}
use Rattle.region_watch.specs.declared.mode.Mode.TheVariants.{Halt, GoOn}
use Rattle.quantum_sched.specs.declared.Quantum.{Quantum}
use Rattle.manifest_text.specs.declared.manifest.Dump.{Dump}
use Rattle.manifest_text.specs.declared.manifest.WatchLine.{WatchLine}
use Rattle.watch_points.specs.declared.point.PointKind.{PointKind}
use Rattle.file_commands.specs.Arguments.{RunOptions}
use Rattle.file_commands.specs.Outcome.{Outcome, Inputs}
use Rattle.suite_top.specs.Telling.{Telling, Report}
use Rattle.suite_top.specs.Report.{own_dumps, memory_dumps, notes_text, report_text, stop_word, stop_line}
use Rattle.suite_top.specs.KeptItems.{keep_of}
use Rattle.suite_top.specs.Run.{mode_outcome, run_outcome}
use Rattle.suite_top.proofs.RunOutcomes.{told_status}
use Rattle.command_laws.specs.RunLaws.{Opens, IsStop, opened_outcome}
use Rattle.command_laws.specs.TraceLaws.{IsAsRun}
use Rattle.command_laws.specs.Beside.{halting, going_on}
use Rattle.command_laws.specs.WatchLaws.{HasMore, WatchesAreRuns, WatchesTellHits, world_behind, hit_lines}
use Rattle.command_laws.proofs.BothRuns.{both_run}
use Rattle.command_laws.proofs.RunLaws.{runs_where_it_opens}
use Rattle.command_laws.proofs.TraceLaws.{same, alike_after}

abbrev watching : RunOptions → Option PointKind → Telling
watching options watch = Report (record options { watch = watch })

-- ---- the same but for the report

module _ (options : RunOptions) (point : PointKind) where
  ends_alike : (mode : Mode) (quanta : List Quantum) (watches : List WatchLine) (dumps : List Dump) (headers : List (List ℕ)) (w : World)
      → IsAsRun (mode_outcome (watching options (Some point)) mode quanta watches dumps headers w) (mode_outcome (watching options None) mode quanta watches dumps headers w)
  ends_alike Halt quanta watches dumps headers w =
      let walk = turns quanta w in
      record { requests = refl; status = refl; out = refl; early = inl (told_status IsStop tt tt tt tt tt (watching options None) [] walk.world walk.end) }
  ends_alike GoOn quanta watches dumps headers w =
      let walk = turns_in quanta (opening_in headers w) in
      record { requests = refl; status = refl; out = refl; early = inl (told_status IsStop tt tt tt tt tt (watching options None) [] walk.now.world walk.end) }

pub watches_are_runs : WatchesAreRuns
watches_are_runs manifest options point inputs =
    both_run (watching options (Some point)) (watching options None) (λ m b. refl) IsAsRun alike_after (λ name. same _) (λ tail. same _) (ends_alike options point options.mode) manifest inputs

-- ---- the report

-- behind the notes these lines, the dumps, and why the run stopped
has_more : (log : Bool) (lines dumped : List ℕ) (w : World) (end : Option End) → HasMore (notes_text log w) lines (report_text log dumped w end) (report_text log (lines ++ dumped) w end)
unfolding report_text
has_more log lines dumped w end =
    let notes = notes_text log w in
    let stop = stop_line (stop_word end) w.events in
    record {
      rest = dumped ++ stop;
      without = append_assoc notes dumped stop;
      has =
          append_assoc notes (lines ++ dumped) stop
          ∙ ap (λ (text : List ℕ). notes ++ text) (append_assoc lines dumped stop)
          ∙ sym (append_assoc notes lines (dumped ++ stop));
    }

more_is : (start lines one other without_it with_it : List ℕ) → one ≡ without_it → other ≡ with_it → HasMore start lines without_it with_it → HasMore start lines one other
more_is start lines one other without_it with_it is has more = record { rest = more.rest; without = is ∙ more.without; has = has ∙ more.has }

module _ (options : RunOptions) (point : PointKind) {inputs : Inputs} {name : List ℕ} (o : Opens inputs name (keep_of options.kept) options.kind) where
  abbrev opened : Mode → Option PointKind → Outcome
  opened mode watch = opened_outcome (watching (record options { mode = mode }) watch) o

  tells_more : (mode : Mode) → HasMore (notes_text options.log (world_behind mode o)) (hit_lines mode point o) (opened mode None).ending.report (opened mode (Some point)).ending.report
  tells_more Halt = let walk = halting o in has_more options.log (hit_lines Halt point o) (own_dumps walk.world o.manifest.dumps) walk.world walk.end
  tells_more GoOn = let walk = going_on o in has_more options.log (hit_lines GoOn point o) (memory_dumps walk.now o.manifest.dumps) walk.now.world walk.end

  report_is : (watch : Option PointKind) → (run_outcome name (watching options watch) inputs).ending.report ≡ (opened options.mode watch).ending.report
  report_is watch = ap (λ (outcome : Outcome). outcome.ending.report) (runs_where_it_opens inputs name (watching options watch) o)

pub watches_tell_hits : WatchesTellHits
watches_tell_hits inputs manifest options point o =
    more_is _ _ _ _ _ _ (report_is options point o None) (report_is options point o (Some point)) (tells_more options point o options.mode)
