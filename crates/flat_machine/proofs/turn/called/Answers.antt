-- A call, by what serve answers.
use Rattle.std.proofs.Common.{refl, ap}
use Rattle.rv32im_step.specs.declared.stop.Stop.TheVariants.{Call}
use Rattle.machine_world.specs.Event.{event}
use Rattle.kept_parts.specs.InMemory.{headers_of}
use Rattle.kept_parts.specs.Stands.{world_of}
use Rattle.kept_parts.proofs.Copies.BehindStrays.{unstrayed_holds}
use Rattle.syscall_layer.specs.Parts.{RunParts}
use Rattle.flat_machine.specs.declared.turn.After.TheVariants as after
use Rattle.flat_machine.proofs.Events.{call_replied, call_turn_ends, call_full, call_strays, nothing_done}
use Rattle.flat_machine.proofs.EventsIn.{call_replied_in, call_turn_ends_in, call_full_in, call_never_strays, call_first, err_within}
use Rattle.flat_machine.proofs.EventsOn.{goes_other, ends_other, full_other, past_event_of, err_past}
use Rattle.flat_machine.proofs.turn.called.Goals as goal

pub returns-in-Replied-clause-halts : goal.returns-in-Replied-clause-halts
returns-in-Replied-clause-halts g c halt a so are =
    call_replied a c.args.parts.now.kept c.serve.new.parts.kept c.args.pid Call refl (c.requires.stands.own (c.requires.stands.may.halting halt) a) c.requires.stands.may.ready c.in_ok-serve.field-0 c.in-Replied.is ((c.in_ok-serve.ensures.halts halt).serves a so are (unstrayed_holds c.args.parts.now.kept (c.requires.stands.may.halting halt)))

pub returns-in-Replied-clause-goes_on : goal.returns-in-Replied-clause-goes_on
returns-in-Replied-clause-goes_on g c go = record {
  memory = λ a so are.
      call_replied_in c.call_event_law.ensures (headers_of c.args.parts.now.programs) a c.args.parts.now.kept c.serve.new.parts.kept c.args.pid (λ none. c.requires.stands.own none a) (c.requires.stands.memory (headers_of c.args.parts.now.programs) a) c.requires.stands.may.ready c.in_ok-serve.field-0 c.in-Replied.is ((c.in_ok-serve.ensures.goes_on go).memory a so are);
  first = λ quiet a so are.
      past_event_of (headers_of c.args.parts.now.programs) a c.args.parts.now.kept c.serve.new.parts.kept c.args.pid quiet after.GoesOn goes_other (call_replied_in c.call_event_law.ensures (headers_of c.args.parts.now.programs) a c.args.parts.now.kept c.serve.new.parts.kept c.args.pid (λ none. c.requires.stands.own none a) (c.requires.stands.memory (headers_of c.args.parts.now.programs) a) c.requires.stands.may.ready c.in_ok-serve.field-0 c.in-Replied.is ((c.in_ok-serve.ensures.goes_on go).memory a so are))
      (λ none. call_replied a c.args.parts.now.kept c.serve.new.parts.kept c.args.pid Call refl (c.requires.stands.own quiet a) c.requires.stands.may.ready c.in_ok-serve.field-0 c.in-Replied.is (call_first a c.args.parts.now.kept c.serve.new.parts.kept c.args.pid c.in_ok-serve.field-0 (c.requires.stands.own quiet a) none ((c.in_ok-serve.ensures.goes_on go).first quiet a so are)));
}

pub returns-in-TurnEnds-clause-halts : goal.returns-in-TurnEnds-clause-halts
returns-in-TurnEnds-clause-halts g c halt a so are =
    call_turn_ends a c.args.parts.now.kept c.serve.new.parts.kept c.args.pid Call refl (c.requires.stands.own (c.requires.stands.may.halting halt) a) c.in_ok-serve.field-0 c.in-TurnEnds.is ((c.in_ok-serve.ensures.halts halt).serves a so are (unstrayed_holds c.args.parts.now.kept (c.requires.stands.may.halting halt)))

pub returns-in-TurnEnds-clause-goes_on : goal.returns-in-TurnEnds-clause-goes_on
returns-in-TurnEnds-clause-goes_on g c go = record {
  memory = λ a so are.
      call_turn_ends_in c.call_event_law.ensures (headers_of c.args.parts.now.programs) a c.args.parts.now.kept c.serve.new.parts.kept c.args.pid (λ none. c.requires.stands.own none a) (c.requires.stands.memory (headers_of c.args.parts.now.programs) a) c.in_ok-serve.field-0 c.in-TurnEnds.is ((c.in_ok-serve.ensures.goes_on go).memory a so are);
  first = λ quiet a so are.
      past_event_of (headers_of c.args.parts.now.programs) a c.args.parts.now.kept c.serve.new.parts.kept c.args.pid quiet after.TurnEnds ends_other (call_turn_ends_in c.call_event_law.ensures (headers_of c.args.parts.now.programs) a c.args.parts.now.kept c.serve.new.parts.kept c.args.pid (λ none. c.requires.stands.own none a) (c.requires.stands.memory (headers_of c.args.parts.now.programs) a) c.in_ok-serve.field-0 c.in-TurnEnds.is ((c.in_ok-serve.ensures.goes_on go).memory a so are))
      (λ none. call_turn_ends a c.args.parts.now.kept c.serve.new.parts.kept c.args.pid Call refl (c.requires.stands.own quiet a) c.in_ok-serve.field-0 c.in-TurnEnds.is (call_first a c.args.parts.now.kept c.serve.new.parts.kept c.args.pid c.in_ok-serve.field-0 (c.requires.stands.own quiet a) none ((c.in_ok-serve.ensures.goes_on go).first quiet a so are)));
}

pub returns-in-LogFull-clause-halts : goal.returns-in-LogFull-clause-halts
returns-in-LogFull-clause-halts g c halt a so are =
    call_full a c.args.parts.now.kept c.serve.new.parts.kept c.args.pid Call refl (c.requires.stands.own (c.requires.stands.may.halting halt) a) c.in_ok-serve.field-0 c.in-LogFull.is ((c.in_ok-serve.ensures.halts halt).serves a so are (unstrayed_holds c.args.parts.now.kept (c.requires.stands.may.halting halt)))

pub returns-in-LogFull-clause-goes_on : goal.returns-in-LogFull-clause-goes_on
returns-in-LogFull-clause-goes_on g c go = record {
  memory = λ a so are.
      call_full_in c.call_event_law.ensures (headers_of c.args.parts.now.programs) a c.args.parts.now.kept c.serve.new.parts.kept c.args.pid (λ none. c.requires.stands.own none a) (c.requires.stands.memory (headers_of c.args.parts.now.programs) a) c.in_ok-serve.field-0 c.in-LogFull.is ((c.in_ok-serve.ensures.goes_on go).memory a so are);
  first = λ quiet a so are.
      past_event_of (headers_of c.args.parts.now.programs) a c.args.parts.now.kept c.serve.new.parts.kept c.args.pid quiet after.LogFull full_other (call_full_in c.call_event_law.ensures (headers_of c.args.parts.now.programs) a c.args.parts.now.kept c.serve.new.parts.kept c.args.pid (λ none. c.requires.stands.own none a) (c.requires.stands.memory (headers_of c.args.parts.now.programs) a) c.in_ok-serve.field-0 c.in-LogFull.is ((c.in_ok-serve.ensures.goes_on go).memory a so are))
      (λ none. call_full a c.args.parts.now.kept c.serve.new.parts.kept c.args.pid Call refl (c.requires.stands.own quiet a) c.in_ok-serve.field-0 c.in-LogFull.is (call_first a c.args.parts.now.kept c.serve.new.parts.kept c.args.pid c.in_ok-serve.field-0 (c.requires.stands.own quiet a) none ((c.in_ok-serve.ensures.goes_on go).first quiet a so are)));
}

pub returns-in-Stray-clause-halts : goal.returns-in-Stray-clause-halts
returns-in-Stray-clause-halts g c halt a so are =
    call_strays a c.args.parts.now.kept c.serve.new.parts.kept c.args.pid Call refl (c.requires.stands.own (c.requires.stands.may.halting halt) a) c.in_ok-serve.field-0 c.in-Stray.access c.in-Stray.is ((c.in_ok-serve.ensures.halts halt).serves a so are (unstrayed_holds c.args.parts.now.kept (c.requires.stands.may.halting halt)))

pub returns-in-Stray-clause-goes_on : goal.returns-in-Stray-clause-goes_on
returns-in-Stray-clause-goes_on g c go = record {
  memory = λ a so are.
      absurd (call_never_strays c.call_event_law.ensures (headers_of c.args.parts.now.programs) a c.args.parts.now.kept c.serve.new.parts.kept c.args.pid (λ none. c.requires.stands.own none a) (c.requires.stands.memory (headers_of c.args.parts.now.programs) a) c.in_ok-serve.field-0 c.in-Stray.access c.in-Stray.is ((c.in_ok-serve.ensures.goes_on go).memory a so are));
  first = λ quiet a so are.
      absurd (call_never_strays c.call_event_law.ensures (headers_of c.args.parts.now.programs) a c.args.parts.now.kept c.serve.new.parts.kept c.args.pid (λ none. c.requires.stands.own none a) (c.requires.stands.memory (headers_of c.args.parts.now.programs) a) c.in_ok-serve.field-0 c.in-Stray.access c.in-Stray.is ((c.in_ok-serve.ensures.goes_on go).memory a so are));
}

pub returns-in_err-serve-clause-halts : goal.returns-in_err-serve-clause-halts
returns-in_err-serve-clause-halts g c halt a so are =
    nothing_done a c.args.parts.now.kept c.serve.new.parts.kept c.args.pid c.from_residual.result c.from_residual.ensures.0 (ap (λ (p : RunParts). p.kept) c.in_err-serve.ensures.unchanged)

pub returns-in_err-serve-clause-goes_on : goal.returns-in_err-serve-clause-goes_on
returns-in_err-serve-clause-goes_on g c go = record {
  memory = λ a so are.
      err_within (headers_of c.args.parts.now.programs) a c.args.parts.now.kept c.serve.new.parts.kept c.args.pid c.from_residual.result c.from_residual.ensures.0 (ap (λ (p : RunParts). p.kept) c.in_err-serve.ensures.unchanged);
  first = λ quiet a so are.
      err_past a c.args.parts.now.kept c.serve.new.parts.kept c.args.pid (event (world_of a c.args.parts.now.kept) c.args.pid) c.from_residual.result c.from_residual.ensures.0 (ap (λ (p : RunParts). p.kept) c.in_err-serve.ensures.unchanged);
}
