-- The bytes are beyond reach, find no room, or are given.
use Rattle.std.proofs.Common.{◌≡◌, refl, Some, None, true, false, sym, subst, ◌∙◌}
use Rattle.std.specs.Prelude.{option_map, length, Ok, Err}
use Rattle.std.proofs.lemmas.Result.{err_from_is_err_and}
use Rattle.file_calls.specs.Calls.{got_of}
use Rattle.machine_world.specs.Asks.{replies}
use Rattle.memory_world.specs.Physical.{After, answered_in}
use Rattle.region_watch.specs.declared.mode.Mode.{Mode}
use Rattle.region_watch.specs.declared.mode.Mode.TheVariants.{Halt}
use Rattle.kept_parts.specs.declared.served.Served.TheVariants.{Replied, LogFull}
use Rattle.kept_parts.specs.Copies.{HoldsFiles}
use Rattle.kept_parts.specs.Reach.{writable}
use Rattle.call_bytes.specs.Puts.{stray_range, access_at}
use Rattle.kept_parts.specs.InMemory.{physical_of, ServesIn}
use Rattle.kept_parts.specs.Calls.{asked_by, output_reply}
use Rattle.kept_parts.proofs.Common.RunningProcess.{runs_in}
use Rattle.kept_parts.proofs.Common.ProcessList.{can_run_lives}
use Rattle.kept_parts.proofs.Replies.Outcomes.{output_serves, output_full}
use Rattle.kept_parts.proofs.Replies.InMemory.{in_reach}
use Rattle.kept_parts.proofs.Replies.GivenMemory.{given_serves_in, given_full_in, given_strays_in, beyond, reach_inside, fits_unstrayed, strays_serve, found_by, none_beyond, room_by}
use Rattle.syscall_layer.proofs.answer.answer_outcome.Goals.{After-give}
use Rattle.syscall_layer.proofs.answer.answer_outcome.Goals as goal

-- copies hold their file
holds_given : (c : After-give) → c.args.mode ≡ Halt → HoldsFiles c.args.parts.now → HoldsFiles c.give.new.self
holds_given c own =
    let k = c.args.parts.now in
    let o = c.args.outcome in
    let r = runs_in k c.args.call.pid (c.has_room_with.ensures.regular) (can_run_lives k.procs c.args.call.pid c.requires.ready) in
    c.give.ensures.leaves.holds r.0 r.1.0 r.1.1
    (subst (λ (mode : Mode). stray_range (writable mode (length k.regions) r.1.0) (got_of o) ≡ None) own (none_beyond o _ c.deref.ensures.value c.args.mode k c.args.call.pid c.stray_of.result c.stray_of.ensures r.0 r.1.0 r.1.1 c.in_default.is))

pub returns-in-Some-clause-answers : goal.returns-in-Some-clause-answers
returns-in-Some-clause-answers c = record {
  serves = λ own a caller.
      let k = c.args.parts.now in
      let o = c.args.outcome in
      let found = subst (λ (r : Mode). Some c.in-Some.access ≡ option_map (access_at caller.entry.value.regs.pc) (stray_range (writable r (length k.regions) caller.held) (got_of o))) own (sym c.in-Some.is ∙ found_by o _ c.deref.ensures.value c.args.mode k c.args.call.pid c.stray_of.result c.stray_of.ensures caller.entry caller.held caller.runs) in
      let strays = c.output_beyond_reach.ensures.strays own in
      strays_serve a k caller.entry caller.held c.args.call caller.runs caller.stands o c.in-Some.access found c.output_beyond_reach.new.parts c.output_beyond_reach.result strays.0 strays.1;
  memory = λ headers a caller.
      let k = c.args.parts.now in
      let o = c.args.outcome in
      beyond headers a (answered_in (physical_of headers a k) (asked_by a caller) (replies (output_reply (asked_by a caller) o))) k c.output_beyond_reach.new.parts c.args.call.pid
      c.args.mode c.in-Some.access c.output_beyond_reach.result c.output_beyond_reach.ensures.strays (λ whole.
      let found = subst (λ (r : Mode). Some c.in-Some.access ≡ option_map (access_at caller.entry.value.regs.pc) (stray_range (writable r (length k.regions) caller.held) (got_of o))) whole (sym c.in-Some.is ∙ found_by o _ c.deref.ensures.value c.args.mode k c.args.call.pid c.stray_of.result c.stray_of.ensures caller.entry caller.held caller.runs) in
      subst (λ (x : After). ServesIn headers a x k c.output_beyond_reach.new.parts c.args.call.pid c.output_beyond_reach.result) (given_strays_in headers a k caller.entry caller.held c.args.call caller.runs caller.stands o c.in-Some.access found)
      (c.output_beyond_reach.ensures.memory whole headers a caller.entry caller.held caller.runs));
  holds = λ own holds. subst HoldsFiles (sym (c.output_beyond_reach.ensures.strays own).1) holds;
  leaves = c.output_beyond_reach.ensures.leaves;
}

pub returns-then-not-has_room_with-clause-answers : goal.returns-then-not-has_room_with-clause-answers
returns-then-not-has_room_with-clause-answers c = record {
  serves = λ own a caller.
      let k = c.args.parts.now in
      let o = c.args.outcome in
      let fits = subst (λ (r : Mode). stray_range (writable r (length k.regions) caller.held) (got_of o) ≡ None) own (none_beyond o _ c.deref.ensures.value c.args.mode k c.args.call.pid c.stray_of.result c.stray_of.ensures caller.entry caller.held caller.runs c.in_default.is) in
      output_full a k caller.entry caller.held c.args.call caller.runs caller.stands o fits (room_by o _ c.deref-2.ensures.value k k refl c.args.call.sent.items c.has_room_with.result false c.has_room_with.ensures.room c.if-not-has_room_with.true);
  memory = λ headers a caller.
      let k = c.args.parts.now in
      let regular = c.has_room_with.ensures.regular in
      let o = c.args.outcome in
      let fits = reach_inside k regular caller.entry.value.space caller.held caller.runs.home c.args.mode (got_of o) (none_beyond o _ c.deref.ensures.value c.args.mode k c.args.call.pid c.stray_of.result c.stray_of.ensures caller.entry caller.held caller.runs c.in_default.is) in
      in_reach headers a (answered_in (physical_of headers a k) (asked_by a caller) (replies (output_reply (asked_by a caller) o))) k k c.args.call.pid c.args.mode (Ok LogFull)
      (given_full_in headers a k caller.entry caller.held c.args.call caller.runs caller.stands o fits (room_by o _ c.deref-2.ensures.value k k refl c.args.call.sent.items c.has_room_with.result false c.has_room_with.ensures.room c.if-not-has_room_with.true));
  holds = λ own holds. holds;
  leaves = tt;
}

pub give-requires-clause-within : goal.give-requires-clause-within
give-requires-clause-within c = record {
  inside =
      let k = c.args.parts.now in
      let o = c.args.outcome in
      let regular = c.has_room_with.ensures.regular in
      let r = runs_in k c.args.call.pid regular (can_run_lives k.procs c.args.call.pid c.requires.ready) in
      reach_inside k regular r.0.value.space r.1.0 r.1.1.home c.args.mode (got_of c.args.outcome) (none_beyond o _ c.deref.ensures.value c.args.mode k c.args.call.pid c.stray_of.result c.stray_of.ensures r.0 r.1.0 r.1.1 c.in_default.is);
  own = λ unstrayed e h runs.
      let k = c.args.parts.now in
      let o = c.args.outcome in
      fits_unstrayed c.args.mode c.args.parts.now.notes (length c.args.parts.now.regions) h (got_of c.args.outcome) c.requires.strayed (none_beyond o _ c.deref.ensures.value c.args.mode k c.args.call.pid c.stray_of.result c.stray_of.ensures e h runs c.in_default.is) unstrayed;
}

pub returns-in_err-give-clause-answers : goal.returns-in_err-give-clause-answers
returns-in_err-give-clause-answers c = record {
  serves = λ own a caller.
      let k = c.args.parts.now in
      let o = c.args.outcome in
      let p = err_from_is_err_and c.from_residual.result c.from_residual.ensures.1 in
      let fits = subst (λ (r : Mode). stray_range (writable r (length c.args.parts.now.regions) caller.held) (got_of c.args.outcome) ≡ None) own (none_beyond o _ c.deref.ensures.value c.args.mode k c.args.call.pid c.stray_of.result c.stray_of.ensures caller.entry caller.held caller.runs c.in_default.is) in
      rw p.1 (c.in_err-give.ensures.leaves.gives a caller fits);
  memory = λ headers a caller.
      let p = err_from_is_err_and c.from_residual.result c.from_residual.ensures.1 in
      let k = c.args.parts.now in
      rw p.1
      (in_reach headers a (answered_in (physical_of headers a k) (asked_by a caller) (replies (output_reply (asked_by a caller) c.args.outcome))) k c.give.new.self c.args.call.pid
      c.args.mode (Err p.0) (c.in_err-give.ensures.leaves.memory a caller));
  holds = holds_given (goal.at.returns-in_err-give-clause-answers c).After-give;
  leaves = let p = err_from_is_err_and c.from_residual.result c.from_residual.ensures.1 in rw p.1 tt;
}

pub returns-clause-answers : goal.returns-clause-answers
returns-clause-answers c = record {
  serves = λ own a caller.
      let k = c.args.parts.now in
      let o = c.args.outcome in
      let fits = subst (λ (r : Mode). stray_range (writable r (length k.regions) caller.held) (got_of o) ≡ None) own (none_beyond o _ c.deref.ensures.value c.args.mode k c.args.call.pid c.stray_of.result c.stray_of.ensures caller.entry caller.held caller.runs c.in_default.is) in
      output_serves a k caller.entry caller.held c.args.call caller.runs caller.stands o c.give.new.self (c.in_ok-give.ensures.leaves.gives a caller fits) c.requires.plain (room_by o _ c.deref-2.ensures.value k k refl c.args.call.sent.items c.has_room_with.result true c.has_room_with.ensures.room c.if-not-has_room_with.false);
  memory = λ headers a caller.
      let k = c.args.parts.now in
      let regular = c.has_room_with.ensures.regular in
      let o = c.args.outcome in
      in_reach headers a (answered_in (physical_of headers a k) (asked_by a caller) (replies (output_reply (asked_by a caller) o))) k c.give.new.self c.args.call.pid c.args.mode (Ok Replied)
      (given_serves_in headers a k caller.entry caller.held c.args.call caller.runs caller.stands o regular c.give.new.self (c.in_ok-give.ensures.leaves.memory a caller) c.requires.plain (room_by o _ c.deref-2.ensures.value k k refl c.args.call.sent.items c.has_room_with.result true c.has_room_with.ensures.room c.if-not-has_room_with.false) c.in_ok-give.ensures.lives);
  holds = holds_given (goal.at.returns-clause-answers c).After-give;
  leaves = tt;
}
