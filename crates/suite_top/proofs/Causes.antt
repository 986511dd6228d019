-- The counts that rose, by the status of a call.
use Rattle.std.proofs.Common.{◌≡◌, ℕ, List, Option, Some, None, inl, inr}
use Rattle.std.specs.Prelude.{◌⊎◌}
use Rattle.host_io.specs.Faults.{Rose}
use Rattle.host_io.specs.Host.{Told}
use Rattle.file_commands.specs.declared.status.Status.{Status}
use Rattle.file_commands.specs.declared.status.Status.TheVariants.{SinkWrite, HostWrite}
use Rattle.file_commands.specs.Ending.{Ending}
use Rattle.file_commands.specs.Outcome.{Inputs}
use Rattle.file_commands.specs.Observed.{Observed, ObservedSink}
use Rattle.suite_top.specs.Result.{result_of}
use Rattle.file_commands.specs.HostCourse.{Performs, inputs_in, PerformsOver, PerformsCommand}
use Rattle.file_commands.specs.Delivery.{Delivers}
use Rattle.suite_top.specs.Call.{Call}
use Rattle.suite_top.proofs.StatusLaws.{writes_fail, sinks_fail}

module _ (arguments : List (List ℕ)) (host host_after : Observed Told) (out out_after report report_after : ObservedSink) (ending : Ending) (status : Status) (delivers : Delivers ending out out_after report report_after status) where
  abbrev call : Inputs → Call
  call inputs = record {
    arguments = arguments;
    inputs = inputs;
    host = host;
    host_after = host_after;
    out = out;
    out_after = out_after;
    report = report;
    report_after = report_after;
    status = status;
  }

  -- the files that the loads give
  by_inputs : (P : Type 0) → ((inputs : Inputs) → Performs host host_after (result_of arguments inputs) ending → P) → PerformsCommand host host_after (result_of arguments) ending → P
  by_inputs P each performs =
      (elim host.told as (λ (o : Option Told). PerformsOver o host host_after (result_of arguments) ending → P) [
        | None ↦ λ p. each p.0 p.1
        | Some t ↦ λ p. each (inputs_in t.files) p
      ]) performs

  pub host_rose : PerformsCommand host host_after (result_of arguments) ending → status ≡ HostWrite → Rose host.faults host_after.faults
  host_rose performs is = by_inputs (Rose host.faults host_after.faults) (λ inputs p. (writes_fail (call inputs) (ending, p, delivers) is).2.rose) performs

  sink_at : (inputs : Inputs) → Performs host host_after (result_of arguments inputs) ending → status ≡ SinkWrite → Rose out.faults out_after.faults ⊎ Rose report.faults report_after.faults
  sink_at inputs p is =
      elim (sinks_fail (call inputs) (ending, p, delivers) is) [
        | inl cut ↦ inl cut.out.1.0
        | inr (inl cut) ↦ inr cut.report.1.0
        | inr (inr (inl cut)) ↦ inr cut.report.1.0
        | inr (inr (inr cut)) ↦ inr cut.report.1.0
      ]

  pub sink_rose : PerformsCommand host host_after (result_of arguments) ending → status ≡ SinkWrite → Rose out.faults out_after.faults ⊎ Rose report.faults report_after.faults
  sink_rose performs is = by_inputs (Rose out.faults out_after.faults ⊎ Rose report.faults report_after.faults) (λ inputs p. sink_at inputs p is) performs
