-- What the machine tells behind its run, with the hits that were found in it.
use Rattle.std.proofs.Common.{refl}
use Rattle.flat_machine.specs.Hits.{hits, hits_in_memory}
use Rattle.flat_machine.specs.State.{world, one_memory}
use Rattle.watch_points.specs.Points.{kind_of_point}
use Rattle.suite_top.specs.Running.{turns_of}
use Rattle.suite_top.specs.Telling.{watch_of, telling_value}
use Rattle.suite_top.specs.Watched.{found_text}
use Rattle.suite_top.proofs.Hits.{some_told, are_spans}
use Rattle.suite_top.proofs.Shown.{halts_with, goes_on_with}
use Rattle.suite_top.proofs.run.run_watched.Goals as goal

pub run_repeated_watched-requires-clause-watcher : goal.run_repeated_watched-requires-clause-watcher
run_repeated_watched-requires-clause-watcher g c = record {
  point = c.requires.point;
  spans = rw (c.deref-3.ensures.value, c.in_ok-spans.ensures, c.deref.ensures.value) (are_spans c.args.course.now.watches.items c.requires.ready.watches);
}

pub run_repeated_watched-requires-clause-fits : goal.run_repeated_watched-requires-clause-fits
run_repeated_watched-requires-clause-fits g c = record { kind = c.requires.ready.kind; events = rw c.deref-2.ensures.value c.requires.ready.events }

pub returns-clause-halt : goal.returns-clause-halt
returns-clause-halt g c =
    let course = c.args.course.now in
    let found = c.run_repeated_watched.new.hits in
    let spans = rw c.deref.ensures.value at c.in_ok-spans.ensures in
    let watched = rw (c.deref-2.ensures.value, c.deref-3.ensures.value) at c.in_ok-end.ensures.halts in
    let told = rw (c.deref-5.ensures, c.in_ok-shown.ensures, c.deref-4.ensures.value) at c.told.ensures in
    λ is.
    let some = some_told (watch_of (telling_value c.args.telling)) (kind_of_point c.args.point.now) course.watches.items (λ kind spans. hits kind spans (turns_of course) (world c.args.machine.now))
    c.in_ok-spans.spans.items c.in_ok-hits.hits found (found_text found) c.requires.some spans c.in_ok-hits.ensures (watched (record { halts = is; quiet = c.requires.ready.quiet })).hits refl in
    halts_with (telling_value c.args.telling) (turns_of course) (found_text found) course.dumps.items c.args.machine.now c.run_repeated_watched.new.self c.in_ok-end.ensures.keeps.mode c.in_ok-end.end
    c.told.result told course.watches.items some is c.requires.ready.quiet (λ halting. (watched halting).runs)

pub returns-clause-go_on : goal.returns-clause-go_on
returns-clause-go_on g c =
    let course = c.args.course.now in
    let found = c.run_repeated_watched.new.hits in
    let spans = rw c.deref.ensures.value at c.in_ok-spans.ensures in
    let watched = rw (c.deref-2.ensures.value, c.deref-3.ensures.value) at c.in_ok-end.ensures.goes_on in
    let told = rw (c.deref-5.ensures, c.in_ok-shown.ensures, c.deref-4.ensures.value) at c.told.ensures in
    λ is.
    let some = some_told (watch_of (telling_value c.args.telling)) (kind_of_point c.args.point.now) course.watches.items (λ kind spans. hits_in_memory kind spans (turns_of course) (one_memory c.args.machine.now))
    c.in_ok-spans.spans.items c.in_ok-hits.hits found (found_text found) c.requires.some spans c.in_ok-hits.ensures (watched is).hits refl in
    goes_on_with (telling_value c.args.telling) (turns_of course) (found_text found) course.dumps.items c.args.machine.now c.run_repeated_watched.new.self c.in_ok-end.ensures.keeps.mode c.in_ok-end.end
    c.told.result told course.watches.items some is (λ go. (watched go).runs)
