-- By what becomes of the run at its first stray access.
use Rattle.std.proofs.Common.{◌≡◌}
use Rattle.std.specs.Prelude.{IfOk, option_map}
use Rattle.suite_top.proofs.Shown.{shows}
use Rattle.suite_top.proofs.report.shown.Goals as goal

pub returns : goal.returns
returns c =
    let d = c.args.dump in
    shows c.args.machine.now d.pid d.addr d.len (λ shown. IfOk c.bytes.result (λ found. option_map (λ bytes. bytes.items) found ≡ shown)) c.bytes.ensures.own c.bytes.ensures.memory
