-- The lines of the dumps so far.
use Rattle.std.proofs.Common.{◌≡◌, take, string_bytes}
use Rattle.suite_top.specs.Report.{dumps_of}
use Rattle.suite_top.proofs.report.dumps_text.Given as goal

abbrev pub invariant-loop-dump : goal.invariant-loop-dump
invariant-loop-dump l = string_bytes l.text ≡ dumps_of l.machine (take l.dump-index l.dumps)
