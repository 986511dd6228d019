-- The quanta once.
use Rattle.std.proofs.Common.{arith}
use Rattle.flat_machine.proofs.Rounds.{once}
use Rattle.flat_machine.proofs.machine.Machine.run.Goals as goal

pub run_repeated-requires-clause-fits : goal.run_repeated-requires-clause-fits
run_repeated-requires-clause-fits g c =
    let fits = c.requires.fits.events in
    record { kind = c.requires.fits.kind; events = omega (arith, fits) }

pub returns-clause-keeps : goal.returns-clause-keeps
returns-clause-keeps g c =
    let kept = c.run_repeated.ensures.keeps in
    let within = kept.events in
    record { kind = kept.kind; mode = kept.mode; events = omega (arith, within) }

pub returns-clause-halts : goal.returns-clause-halts
returns-clause-halts g c halting = rw (once c.args.quanta.now) at (c.run_repeated.ensures.halts halting)

pub returns-clause-goes_on : goal.returns-clause-goes_on
returns-clause-goes_on g c go = rw (once c.args.quanta.now) at (c.run_repeated.ensures.goes_on go)
