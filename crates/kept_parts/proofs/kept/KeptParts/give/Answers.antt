-- The bytes are given, and the call has its reply.
use Rattle.std.proofs.Common.{rules, ◌≡◌, arith, true, List, length, None, ◌∷◌, sym, ap, subst, ◌∙◌}
use Rattle.std.specs.Prelude.{map, Ok, false}
use Rattle.region_watch.specs.Private.{physical}
use Rattle.call_log.specs.declared.note.Got.{Got}
use Rattle.call_log.specs.Notes.{Note, weight_of, has_room}
use Rattle.call_log.specs.Values.{got_value}
use Rattle.vfork_exec.specs.Procs.{Lives}
use Rattle.mmap_rules.specs.Space.{writable_in}
use Rattle.machine_world.specs.Event.{put_got}
use Rattle.file_calls.specs.Calls.{got_of}
use Rattle.memory_world.specs.Physical.{has_stray}
use Rattle.kept_parts.specs.Kept.{Kept}
use Rattle.kept_parts.specs.Inside.{kept_of}
use Rattle.call_bytes.specs.Puts.{stray_range}
use Rattle.region_watch.specs.Private.{in_pages}
use Rattle.kept_parts.specs.Calls.{LivesIn, noted_call, Gave, GaveIn, Caller}
use Rattle.kept_parts.specs.declared.task.Task.{Task}
use Rattle.kept_parts.specs.Recorded.{event_recorded, room_beside}
use Rattle.kept_parts.proofs.Common.Recorded.{room_alone}
use Rattle.kept_parts.proofs.Common.RunningProcess.{runs_in, value_found}
use Rattle.kept_parts.proofs.Copies.BehindCalls.{counts, call_strays, copies_called}
use Rattle.kept_parts.proofs.Forks.Told.{replied_lives}
use Rattle.kept_parts.proofs.Replies.Finished.{regular_finished, gave_by, gave_in_by}
use Rattle.kept_parts.proofs.Copies.BehindStrays.{holds_inside, none_clean, cleaned, regular_clean, copies_clean}
use Rattle.kept_parts.proofs.Replies.GivenMemory.{copies_given}
use Rattle.kept_parts.proofs.kept.KeptParts.give.Goals as goal

abbrev new_parts : goal.After-finish → Kept
new_parts c = record (kept_of c.self.inside) {
  mem = c.put.new.mem;
  files = c.follow-followed.new.files.open_files;
  procs = c.finish.new.procs;
  notes = c.finish.new.log.notes;
  recording = c.pass.new.self;
}

pub finish-requires-clause-room : goal.finish-requires-clause-room
finish-requires-clause-room c =
    let k = kept_of c.self.inside in
    let weight = weight_of c.args.call.sent.items (got_of c.args.outcome) in
    ap (λ (ns : List Note). has_room ns weight) (c.or_unreserve.ensures.notes ∙ c.reserve.ensures.same)
    ∙ room_alone k weight (subst (λ (s : Kept). room_beside s weight ≡ true) (sym c.self.view_is) c.requires.room)

-- all bytes were written
puts_all : (c : goal.After-finish) → put_got (physical (kept_of c.self.inside).mem) (in_pages (length (kept_of c.self.inside).regions)) (got_of c.args.outcome) ≡ Ok (physical c.put.new.mem)
puts_all c =
    let k = kept_of c.self.inside in
    subst (λ (xs : List Got). put_got (physical k.mem) (in_pages (length k.regions)) (map got_value xs) ≡ Ok (physical c.put.new.mem)) c.deref.ensures.value
    (c.put.ensures.all (length k.regions) c.self.invariant.0.0.memory)

noted_so : (c : goal.After-finish) → c.finish.new.log.notes ≡ noted_call c.args.call c.args.outcome.value (got_of c.args.outcome) ∷ (kept_of c.self.inside).notes
noted_so c = c.finish.ensures.notes ∙ ap (λ (ns : List Note). noted_call c.args.call c.args.outcome.value (got_of c.args.outcome) ∷ ns) (c.or_unreserve.ensures.notes ∙ c.reserve.ensures.same)

pub put-requires-clause-inside : goal.put-requires-clause-inside
put-requires-clause-inside c =
    let inside = subst (λ (s : Kept). stray_range (in_pages (length s.regions)) (got_of c.args.outcome) ≡ None) (sym c.self.view_is) c.requires.within.inside in
    let same = ap (λ (xs : List Got). stray_range (in_pages (length (kept_of c.self.inside).regions)) (map got_value xs)) c.deref.ensures.value in
    (length (kept_of c.self.inside).regions, c.self.invariant.0.0.memory, same ∙ inside)

pub invariant_of-self-2 : goal.invariant_of-self-2
invariant_of-self-2 c =
    let k = kept_of c.self.inside in
    let call = c.args.call in
    let gots = got_of c.args.outcome in
    let lives = subst (λ (s : Kept). Lives s.procs call.pid) (sym c.self.view_is) c.requires.lives in
    let r = runs_in k call.pid c.self.invariant.0.0 lives in
    let fits = subst (λ (s : Kept). has_stray s.notes ≡ false → (e : _) → (h : _) → LivesIn s call.pid e h → stray_range (writable_in h.maps) gots ≡ None) (sym c.self.view_is) c.requires.within.own in
    let counted = counts call c.args.outcome.value gots k.notes _ (noted_so c) in (
      (
        regular_finished k call.pid c.self.invariant.0.0 lives c.args.outcome.value c.put.new.mem k.tree c.follow-followed.new.files.open_files c.finish.new.procs c.finish.new.log.notes k.console c.pass.new.self
            c.put.ensures.len c.finish.ensures.procs (omega (arith, counted)),
        copies_called (record k { mem = c.put.new.mem })
            (copies_given k c.self.invariant.0.0 r.0.value.space r.1.0 r.1.1.home c.self.invariant.0.1 c.put.new.mem c.put.ensures.len gots (puts_all c) (λ unstrayed. fits unstrayed r.0 r.1.0 r.1.1))
            c.finish.new.log.notes counted (call_strays call c.args.outcome.value gots k.notes c.finish.new.log.notes (noted_so c)),
      ),
      search rules,
      c.self.invariant.2,
    )

pub returns-clause-leaves : goal.returns-clause-leaves
returns-clause-leaves c = record {
  gives = λ a.
      let k = kept_of c.self.inside in
      let call = c.args.call in
      let o = c.args.outcome in
      subst (λ (old : Kept). (caller : Caller old call) → stray_range (writable_in caller.held.maps) (got_of o) ≡ None → Gave a old caller.entry caller.held call o (new_parts c)) c.self.view_is
      (λ caller fits.
      gave_by a k caller.entry caller.held call caller.runs caller.stands o c.put.new.mem (puts_all c) c.follow-followed.new.files.open_files c.finish.new.procs c.finish.new.log.notes c.pass.new.self
      (rw (← c.in_ok-or_unreserve.ensures.same) at c.follow-followed.ensures.after) c.finish.ensures.procs (noted_so c)
      (c.pass.ensures ∙ ap (λ (t : Task). event_recorded k.recording t.space) (value_found k.procs call.pid caller.entry caller.runs.lives c.get.result.now c.get.ensures)) c.requires.plain c.self.invariant.0.0 fits);
  memory = λ a.
      let k = kept_of c.self.inside in
      let call = c.args.call in
      let o = c.args.outcome in
      subst (λ (old : Kept). (caller : Caller old call) → GaveIn a old caller.entry caller.held call o (new_parts c)) c.self.view_is
      (λ caller.
      gave_in_by a k caller.entry caller.held call caller.runs caller.stands o c.put.new.mem (puts_all c) c.follow-followed.new.files.open_files c.finish.new.procs c.finish.new.log.notes c.pass.new.self
      (rw (← c.in_ok-or_unreserve.ensures.same) at c.follow-followed.ensures.after) c.finish.ensures.procs (noted_so c)
      (c.pass.ensures ∙ ap (λ (t : Task). event_recorded k.recording t.space) (value_found k.procs call.pid caller.entry caller.runs.lives c.get.result.now c.get.ensures)) c.requires.plain c.put.ensures.len);
  holds = λ e h runs fits holds.
      let k = kept_of c.self.inside in
      let regular = c.self.invariant.0.0 in
      let home = (subst (λ (s : Kept). LivesIn s c.args.call.pid e h) (sym c.self.view_is) runs).home in
      let copies = copies_clean k c.self.invariant.0.1 (holds_inside k c.args.self.now c.self.view_is holds) in
      (copies_given (cleaned k) (regular_clean k regular) e.value.space h home copies c.put.new.mem c.put.ensures.len (got_of c.args.outcome) (puts_all c) (λ unstrayed. fits)).hold (none_clean k.notes);
}

pub returns-clause-lives : goal.returns-clause-lives
returns-clause-lives c =
    let lives = subst (λ (s : Kept). Lives s.procs c.args.call.pid) (sym c.self.view_is) c.requires.lives in
    replied_lives (kept_of c.self.inside).procs c.args.call.pid lives c.args.outcome.value c.finish.new.procs c.finish.ensures.procs
