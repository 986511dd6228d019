-- The counts that rose, by the laws of the statuses.
use Rattle.std.proofs.Common.{map, string_bytes}
use Rattle.file_commands.specs.Observed.{observed, observed_sink}
use Rattle.suite_top.proofs.Causes.{host_rose, sink_rose}
use Rattle.suite_top.proofs.HeldItems.{delivered_holds}
use Rattle.suite_top.proofs.top.suite.Goals as goal

pub returns-in-Ok-clause-host_write : goal.returns-in-Ok-clause-host_write
returns-in-Ok-clause-host_write g c =
    let host = observed g.H.Host.told g.H.Host.faults in
    let out = observed_sink g.O.Sink.told g.O.Sink.faults g.O.Sink.shortages in
    let report = observed_sink g.R.Sink.told g.R.Sink.faults g.R.Sink.shortages in
    let delivers = rw (c.deref.ensures.value, c.deref-in-Ok.ensures.value) at c.deliver.ensures in
    host_rose (map string_bytes c.args.arguments.now) (host c.args.host.now) (host c.answer_command.new.host) (out c.args.out.now) (out c.deliver.new.out) (report c.args.report.now) (report c.deliver.new.report) _ c.deliver.result delivers c.in-Ok.ensures.performs

pub returns-in-Ok-clause-sink_write : goal.returns-in-Ok-clause-sink_write
returns-in-Ok-clause-sink_write g c =
    let host = observed g.H.Host.told g.H.Host.faults in
    let out = observed_sink g.O.Sink.told g.O.Sink.faults g.O.Sink.shortages in
    let report = observed_sink g.R.Sink.told g.R.Sink.faults g.R.Sink.shortages in
    let delivers = rw (c.deref.ensures.value, c.deref-in-Ok.ensures.value) at c.deliver.ensures in
    sink_rose (map string_bytes c.args.arguments.now) (host c.args.host.now) (host c.answer_command.new.host) (out c.args.out.now) (out c.deliver.new.out) (report c.args.report.now) (report c.deliver.new.report) _ c.deliver.result delivers c.in-Ok.ensures.performs

pub returns-in-Ok-clause-held : goal.returns-in-Ok-clause-held
returns-in-Ok-clause-held g c =
    let delivers = rw (c.deref.ensures.value, c.deref-in-Ok.ensures.value) at c.deliver.ensures in
    delivered_holds (map string_bytes c.args.arguments.now) (g.H.Host.told c.args.host.now) _ _ _ _ _ _ delivers c.in-Ok.ensures.held

pub returns-in-Err-clause-held : goal.returns-in-Err-clause-held
returns-in-Err-clause-held g c =
    delivered_holds (map string_bytes c.args.arguments.now) (g.H.Host.told c.args.host.now) _ _ _ _ _ _ c.deliver-in-Err.ensures c.in-Err.ensures.held
