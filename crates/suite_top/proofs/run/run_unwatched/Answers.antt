-- What the machine tells behind its run, without any hits.
use Rattle.std.proofs.Common.{[]}
use Rattle.flat_machine.specs.Hits.{hits, hits_in_memory}
use Rattle.flat_machine.specs.State.{world, one_memory}
use Rattle.suite_top.specs.Running.{turns_of}
use Rattle.suite_top.specs.Telling.{watch_of, telling_value}
use Rattle.suite_top.proofs.Hits.{none_told}
use Rattle.suite_top.proofs.Shown.{halts_with, goes_on_with}
use Rattle.suite_top.proofs.run.run_unwatched.Goals as goal

pub run_repeated-requires-clause-fits : goal.run_repeated-requires-clause-fits
run_repeated-requires-clause-fits g c = record { kind = c.requires.ready.kind; events = rw c.deref.ensures.value c.requires.ready.events }

pub returns-clause-halt : goal.returns-clause-halt
returns-clause-halt g c =
    let course = c.args.course.now in
    let runs = rw c.deref.ensures.value at c.in_ok-end.ensures.halts in
    let told = rw (c.deref-3.ensures, c.in_ok-shown.ensures, c.deref-2.ensures.value) at c.told.ensures in
    let none = none_told (watch_of (telling_value c.args.telling)) course.watches.items (λ kind spans. hits kind spans (turns_of course) (world c.args.machine.now)) c.requires.none in
    λ is. halts_with (telling_value c.args.telling) (turns_of course) [] course.dumps.items c.args.machine.now c.run_repeated.new.self c.in_ok-end.ensures.keeps.mode c.in_ok-end.end
    c.told.result told course.watches.items none is c.requires.ready.quiet runs

pub returns-clause-go_on : goal.returns-clause-go_on
returns-clause-go_on g c =
    let course = c.args.course.now in
    let runs = rw c.deref.ensures.value at c.in_ok-end.ensures.goes_on in
    let told = rw (c.deref-3.ensures, c.in_ok-shown.ensures, c.deref-2.ensures.value) at c.told.ensures in
    let none = none_told (watch_of (telling_value c.args.telling)) course.watches.items (λ kind spans. hits_in_memory kind spans (turns_of course) (one_memory c.args.machine.now)) c.requires.none in
    λ is. goes_on_with (telling_value c.args.telling) (turns_of course) [] course.dumps.items c.args.machine.now c.run_repeated.new.self c.in_ok-end.ensures.keeps.mode c.in_ok-end.end
    c.told.result told course.watches.items none is runs
