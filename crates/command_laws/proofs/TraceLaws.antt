-- What a call of `trace` does.
use Rattle.std.proofs.Common.{List, [], ◌∷◌, None, inl, inr, refl, ap, arith}
use Rattle.machine_world.specs.Turns.{turns}
use Rattle.region_watch.specs.declared.mode.Mode.TheVariants.{Halt}
use Rattle.file_commands.specs.Arguments.{least_pid, most_pid}
use Rattle.file_commands.specs.Outcome.{Request, Outcome, after}
use Rattle.suite_top.specs.Telling.{Report, Trace}
use Rattle.suite_top.specs.Report.{trace_report}
use Rattle.command_laws.specs.RunLaws.{IsStop}
use Rattle.command_laws.specs.TraceLaws.{PidsAreSpelled, IsAsRun, TracesAreRuns, TracesTellNotes}
use Rattle.file_commands.proofs.SpelledNumbers.{number_is_spelled}
use Rattle.suite_top.proofs.RunOutcomes.{told_status}
use Rattle.command_laws.proofs.BothRuns.{both_run}
use Rattle.command_laws.proofs.RunLaws.{runs_where_it_opens}

pub pids_are_spelled : PidsAreSpelled
pids_are_spelled text n = number_is_spelled least_pid most_pid (omega arith) text n

pub same : (o : Outcome) → IsAsRun o o
same o = record { requests = refl; status = refl; out = refl; early = inr refl }

pub alike_after : (request : Request) (traced ran : Outcome) → IsAsRun traced ran → IsAsRun (after request traced) (after request ran)
alike_after request traced ran is = record {
  requests = ap (λ (requests : List Request). request ∷ requests) is.requests;
  status = is.status;
  out = is.out;
  early = elim is.early [ inl stops ↦ inl stops | inr whole ↦ inr (ap (after request) whole) ];
}

pub traces_are_runs : TracesAreRuns
traces_are_runs manifest options ran inputs =
    let run = Report (record ran { mode = Halt; kind = options.kind; kept = None }) in
    both_run (Trace options) run (λ m b. refl) IsAsRun alike_after (λ name. same _) (λ tail. same _)
    (λ quanta watches dumps headers w.
    let walk = turns quanta w in
    record { requests = refl; status = refl; out = refl; early = inl (told_status IsStop tt tt tt tt tt run [] walk.world walk.end) })
    manifest inputs

pub traces_tell_notes : TracesTellNotes
unfolding trace_report
traces_tell_notes t manifest options o = ap (λ (outcome : Outcome). outcome.ending.report) (runs_where_it_opens t manifest (Trace options) o)
