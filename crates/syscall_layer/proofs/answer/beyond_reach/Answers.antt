-- It strays, or the process ends by SIGSEGV.
use Rattle.std.proofs.Common.{◌≡◌, [], refl}
use Rattle.std.proofs.lemmas.Result.{err_from_is_err_and}
use Rattle.memory_world.specs.Physical.{died_in, outside}
use Rattle.kept_parts.specs.InMemory.{physical_of}
use Rattle.kept_parts.proofs.Common.AnyRun.{some_about}
use Rattle.syscall_layer.proofs.CallsKeep.{remains_same, signal_remains}
use Rattle.kept_parts.proofs.Replies.InMemory.{died_goes}
use Rattle.syscall_layer.proofs.CallsOn.{on_err}
use Rattle.syscall_layer.proofs.answer.beyond_reach.Goals as goal

pub returns-in-Halt-clause-keeps : goal.returns-in-Halt-clause-keeps
returns-in-Halt-clause-keeps c = remains_same c.args.parts.now c.args.parts.now refl

pub returns-in_err-end_by_signal-in-GoOn-clause-memory : goal.returns-in_err-end_by_signal-in-GoOn-clause-memory
returns-in_err-end_by_signal-in-GoOn-clause-memory c = λ goes headers a.
    let p = err_from_is_err_and c.from_residual.result c.from_residual.ensures.1 in
    rw p.1 (c.in_err-end_by_signal-in-GoOn.ensures.dies a)

pub returns-in_err-end_by_signal-in-GoOn-clause-keeps : goal.returns-in_err-end_by_signal-in-GoOn-clause-keeps
returns-in_err-end_by_signal-in-GoOn-clause-keeps c = remains_same c.args.parts.now c.end_by_signal.new.self (c.in_err-end_by_signal-in-GoOn.ensures.dies some_about)

pub returns-in_err-end_by_signal-in-GoOn-clause-unchanged : goal.returns-in_err-end_by_signal-in-GoOn-clause-unchanged
returns-in_err-end_by_signal-in-GoOn-clause-unchanged c =
    on_err (c.end_by_signal.new.self ≡ c.args.parts.now) c.from_residual.result (c.in_err-end_by_signal-in-GoOn.ensures.dies some_about)

pub returns-in_ok-end_by_signal-in-GoOn-clause-memory : goal.returns-in_ok-end_by_signal-in-GoOn-clause-memory
returns-in_ok-end_by_signal-in-GoOn-clause-memory c = λ goes headers a.
    died_goes headers a (died_in (physical_of headers a c.args.parts.now) c.args.pid outside) c.args.parts.now c.end_by_signal.new.self c.args.pid (c.in_ok-end_by_signal-in-GoOn.ensures.memory headers a)

pub returns-in_ok-end_by_signal-in-GoOn-clause-keeps : goal.returns-in_ok-end_by_signal-in-GoOn-clause-keeps
returns-in_ok-end_by_signal-in-GoOn-clause-keeps c = record {
  notes = signal_remains [] some_about c.args.parts.now c.end_by_signal.new.self c.args.pid 11 (c.in_ok-end_by_signal-in-GoOn.ensures.dies some_about);
  marks = c.in_ok-end_by_signal-in-GoOn.ensures.marks;
}
