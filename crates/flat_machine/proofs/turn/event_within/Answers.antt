-- Each event, by the step at which the process stands.
use Rattle.std.proofs.Common.{[], ap, subst, rules}
use Rattle.machine_world.specs.Courses.{StandsAt}
use Rattle.machine_world.specs.Event.{event}
use Rattle.kept_parts.specs.InMemory.{headers_of, physical_of}
use Rattle.kept_parts.specs.Reach.{reach_of}
use Rattle.kept_parts.specs.Stands.{world_of}
use Rattle.kept_parts.proofs.Common.AnyRun.{some_about}
use Rattle.syscall_layer.specs.Parts.{RunParts}
use Rattle.flat_machine.specs.declared.turn.After.TheVariants as after
use Rattle.flat_machine.proofs.Events.{trap_ends, refused_strays, nothing_done}
use Rattle.flat_machine.proofs.EventsIn.{call_stands, trap_ends_in, trap_fits_in, refused_in, err_within}
use Rattle.flat_machine.proofs.EventsOn.{ends_other, past_event_of, as_past_result, err_past}
use Rattle.flat_machine.proofs.TurnsIn.{marked_reach, own_quiet, whole_noted, never_next}
use Rattle.flat_machine.proofs.turn.event_within.Goals as goal

pub called-requires-clause-stands : goal.called-requires-clause-stands
called-requires-clause-stands g c = record {
  may = c.requires.stands.may;
  own = λ quiet a. subst (StandsAt (world_of a c.args.parts.now.kept) c.args.pid) c.in-Call.is (c.requires.stands.own quiet a);
  memory = λ headers a. call_stands (reach_of c.args.parts.now.noted) (physical_of headers a c.args.parts.now.kept) c.args.pid c.args.stop c.in-Call.is (c.requires.stands.memory headers a);
}

pub returns-in_ok-end_by_signal-in-Trap-clause-halts : goal.returns-in_ok-end_by_signal-in-Trap-clause-halts
returns-in_ok-end_by_signal-in-Trap-clause-halts g c halt a so are =
    trap_ends a c.args.parts.now.kept c.end_by_signal.new.self.kept c.args.pid c.args.stop c.in-Trap.signal c.in-Trap.is (c.requires.stands.own (c.requires.stands.may.halting halt) a) (c.in_ok-end_by_signal-in-Trap.ensures.dies a)

pub returns-in_ok-end_by_signal-in-Trap-clause-goes_on : goal.returns-in_ok-end_by_signal-in-Trap-clause-goes_on
returns-in_ok-end_by_signal-in-Trap-clause-goes_on g c go = record {
  memory = λ a so are.
      trap_ends_in (headers_of c.args.parts.now.programs) a (reach_of c.args.parts.now.noted) c.args.parts.now.kept c.args.pid c.args.stop (marked_reach c.args.parts.now.kept c.args.parts.now.noted c.requires.stands.noted) (λ own. c.requires.stands.own (own_quiet c.args.parts.now.kept c.args.parts.now.noted c.requires.stands.noted own) a) (c.requires.stands.memory (headers_of c.args.parts.now.programs) a) c.in-Trap.signal c.end_by_signal.new.self.kept c.in-Trap.is (c.in_ok-end_by_signal-in-Trap.ensures.dies a) (c.in_ok-end_by_signal-in-Trap.ensures.memory (headers_of c.args.parts.now.programs) a);
  first = λ quiet a so are.
      past_event_of (headers_of c.args.parts.now.programs) a c.args.parts.now.kept c.end_by_signal.new.self.kept c.args.pid quiet after.TurnEnds ends_other (trap_ends_in (headers_of c.args.parts.now.programs) a (reach_of c.args.parts.now.noted) c.args.parts.now.kept c.args.pid c.args.stop (marked_reach c.args.parts.now.kept c.args.parts.now.noted c.requires.stands.noted) (λ own. c.requires.stands.own (own_quiet c.args.parts.now.kept c.args.parts.now.noted c.requires.stands.noted own) a) (c.requires.stands.memory (headers_of c.args.parts.now.programs) a) c.in-Trap.signal c.end_by_signal.new.self.kept c.in-Trap.is (c.in_ok-end_by_signal-in-Trap.ensures.dies a) (c.in_ok-end_by_signal-in-Trap.ensures.memory (headers_of c.args.parts.now.programs) a))
      (λ none. trap_ends a c.args.parts.now.kept c.end_by_signal.new.self.kept c.args.pid c.args.stop c.in-Trap.signal c.in-Trap.is (c.requires.stands.own quiet a) (c.in_ok-end_by_signal-in-Trap.ensures.dies a));
}

pub returns-in_err-end_by_signal-in-Trap-clause-halts : goal.returns-in_err-end_by_signal-in-Trap-clause-halts
returns-in_err-end_by_signal-in-Trap-clause-halts g c halt a so are =
    nothing_done a c.args.parts.now.kept c.end_by_signal.new.self.kept c.args.pid c.from_residual.result c.from_residual.ensures.0 (ap (λ (p : RunParts). p.kept) c.in_err-end_by_signal-in-Trap.ensures.unchanged)

pub returns-in_err-end_by_signal-in-Trap-clause-goes_on : goal.returns-in_err-end_by_signal-in-Trap-clause-goes_on
returns-in_err-end_by_signal-in-Trap-clause-goes_on g c go = record {
  memory = λ a so are.
      err_within (headers_of c.args.parts.now.programs) a c.args.parts.now.kept c.end_by_signal.new.self.kept c.args.pid c.from_residual.result c.from_residual.ensures.0 (ap (λ (p : RunParts). p.kept) c.in_err-end_by_signal-in-Trap.ensures.unchanged);
  first = λ quiet a so are.
      err_past a c.args.parts.now.kept c.end_by_signal.new.self.kept c.args.pid (event (world_of a c.args.parts.now.kept) c.args.pid) c.from_residual.result c.from_residual.ensures.0 (ap (λ (p : RunParts). p.kept) c.in_err-end_by_signal-in-Trap.ensures.unchanged);
}

pub overflow_cast-signal : goal.overflow_cast-signal
overflow_cast-signal g c =
    let h = trap_fits_in (reach_of c.args.parts.now.noted) some_about c.args.parts.now.kept c.args.pid c.args.stop c.in-Trap.signal c.in-Trap.is (c.requires.stands.memory [] some_about) in search rules

pub returns-in-Refused-clause-halts : goal.returns-in-Refused-clause-halts
returns-in-Refused-clause-halts g c halt a so are =
    let so_it_is = c.refused.ensures.strays (c.requires.stands.may.halting halt) in
    refused_strays a c.args.parts.now.kept c.refused.new.parts.kept c.args.pid c.args.stop c.in-Refused.access c.in-Refused.is (c.requires.stands.own (c.requires.stands.may.halting halt) a) c.refused.result so_it_is.0 (ap (λ (p : RunParts). p.kept) so_it_is.1)

pub returns-in-Refused-clause-goes_on : goal.returns-in-Refused-clause-goes_on
returns-in-Refused-clause-goes_on g c go = record {
  memory = λ a so are.
      refused_in (headers_of c.args.parts.now.programs) a (reach_of c.args.parts.now.noted) c.args.parts.now.kept c.args.pid c.args.stop (marked_reach c.args.parts.now.kept c.args.parts.now.noted c.requires.stands.noted) (λ own. c.requires.stands.own (own_quiet c.args.parts.now.kept c.args.parts.now.noted c.requires.stands.noted own) a) (c.requires.stands.memory (headers_of c.args.parts.now.programs) a)
      c.in-Refused.access c.refused.new.parts.kept c.in-Refused.is c.refused.result (λ own. let x = c.refused.ensures.strays (own_quiet c.args.parts.now.kept c.args.parts.now.noted c.requires.stands.noted own) in (x.0, ap (λ (p : RunParts). p.kept) x.1))
      (λ whole. c.refused.ensures.memory (whole_noted c.args.parts.now.kept c.args.parts.now.noted c.requires.stands.noted whole) (headers_of c.args.parts.now.programs) a);
  first = λ quiet a so are.
      let so_it_is = c.refused.ensures.strays quiet in
      as_past_result a c.args.parts.now.kept c.refused.new.parts.kept c.args.pid (event (world_of a c.args.parts.now.kept) c.args.pid) c.refused.result c.in-Refused.access so_it_is.0
      (refused_strays a c.args.parts.now.kept c.refused.new.parts.kept c.args.pid c.args.stop c.in-Refused.access c.in-Refused.is (c.requires.stands.own quiet a) c.refused.result so_it_is.0 (ap (λ (p : RunParts). p.kept) so_it_is.1));
}

-- it stands at no instruction that is carried out

pub returns-in-Next-clause-halts : goal.returns-in-Next-clause-halts
returns-in-Next-clause-halts g c halt =
    absurd (never_next (reach_of c.args.parts.now.noted) (physical_of [] some_about c.args.parts.now.kept) c.args.pid c.args.stop c.in-Next.is (c.requires.stands.memory [] some_about))

pub returns-in-Next-clause-goes_on : goal.returns-in-Next-clause-goes_on
returns-in-Next-clause-goes_on g c go =
    absurd (never_next (reach_of c.args.parts.now.noted) (physical_of [] some_about c.args.parts.now.kept) c.args.pid c.args.stop c.in-Next.is (c.requires.stands.memory [] some_about))
