-- The parent's reply is its child's pid.
use Rattle.std.proofs.Common.{rules, ◌≡◌, ◌<◌, List, ◌∷◌, length, map, sym, ap, subst, ◌∙◌}
use Rattle.std.specs.Prelude.{Some}
use Rattle.call_log.specs.Notes.{Note}
use Rattle.call_log.specs.Values.{got_value}
use Rattle.vfork_exec.specs.declared.entry.Entry.{Entry}
use Rattle.fd_tables.specs.Changes.{with_copy}
use Rattle.vfork_exec.specs.Procs.{Listed, CanRun, process, count, most_entries}
use Rattle.kept_parts.specs.declared.task.Task.{Task}
use Rattle.kept_parts.specs.Kept.{Kept}
use Rattle.kept_parts.specs.Regular.{Regular}
use Rattle.kept_parts.specs.Inside.{kept_of}
use Rattle.kept_parts.specs.Calls.{LivesIn, after_fork, noted_call}
use Rattle.kept_parts.specs.Recorded.{event_recorded}
use Rattle.kept_parts.proofs.Common.Recorded.{room_inside, room_left}
use Rattle.kept_parts.proofs.Common.RunningProcess.{runs_in, value_found}
use Rattle.kept_parts.proofs.Common.ProcessList.{can_run_lives}
use Rattle.kept_parts.proofs.Copies.BehindCalls.{counts, call_strays, copies_called}
use Rattle.kept_parts.proofs.Forks.Child.{pids_fit, lives_still, procs_by, regular_forked}
use Rattle.kept_parts.proofs.Copies.BehindStrays.{holds_inside}
use Rattle.kept_parts.proofs.kept.KeptParts.fork.Goals as goal

pub vfork-requires-clause-pids : goal.vfork-requires-clause-pids
vfork-requires-clause-pids c =
    let k = kept_of c.self.inside in
    pids_fit k c.self.invariant.0.0 (length c.args.call.sent.items) (room_inside k c.args.self.now c.self.view_is c.args.call.sent.items c.requires.room)

pub finish-requires-clause-room : goal.finish-requires-clause-room
finish-requires-clause-room c =
    room_left (kept_of c.self.inside) c.args.self.now c.self.view_is c.args.call.sent.items c.requires.room c.or_unreserve.new.log.notes (c.or_unreserve.ensures.notes ∙ c.reserve.ensures.same) c.new-got.result.items c.new-got.ensures.items

pub finish-requires-clause-lives : goal.finish-requires-clause-lives
finish-requires-clause-lives c =
    let k = kept_of c.self.inside in
    let pid = c.args.call.pid in
    let r = runs_in k pid c.self.invariant.0.0 (can_run_lives k.procs pid (subst (λ (s : Kept). CanRun s.procs pid) (sym c.self.view_is) c.requires.ready)) in
    lives_still k c.args.call c.self.invariant.0.0 c.get.result.now c.get.ensures c.child_regs.result c.in_ok-or_unreserve.field-0 c.child_regs.ensures (rw (← c.in_ok-or_unreserve.ensures.same) at c.copy_table-copied.ensures.table)
    c.vfork.new.self c.in-Ok.ensures.2 r.0 r.1.1.lives

-- the processes are those behind a vfork
procs_are : (c : goal.After-finish) (e : Entry Task) → process (kept_of c.self.inside).procs c.args.call.pid ≡ Some e → c.finish.new.procs ≡ (after_fork (kept_of c.self.inside) e c.args.call).procs
procs_are c e lives =
    procs_by (kept_of c.self.inside) c.args.call c.self.invariant.0.0 c.get.result.now c.get.ensures c.child_regs.result c.in_ok-or_unreserve.field-0 c.child_regs.ensures (rw (← c.in_ok-or_unreserve.ensures.same) at c.copy_table-copied.ensures.table)
    c.vfork.new.self c.in-Ok.ensures.2 e lives c.in-Ok.pid c.in-Ok.ensures.1 c.finish.new.procs c.finish.ensures.procs

pub invariant_of-self-in-Ok : goal.invariant_of-self-in-Ok
invariant_of-self-in-Ok c =
    let k = kept_of c.self.inside in
    let call = c.args.call in
    let ready = subst (λ (s : Kept). CanRun s.procs call.pid) (sym c.self.view_is) c.requires.ready in
    let few = subst (λ (s : Kept). count s.procs < most_entries) (sym c.self.view_is) c.requires.few in
    let r = runs_in k call.pid c.self.invariant.0.0 (can_run_lives k.procs call.pid ready) in
    let noted = c.finish.ensures.notes ∙ ap (λ (ns : List Note). noted_call call c.in-Ok.pid (map got_value c.new-got.result.items) ∷ ns) (c.or_unreserve.ensures.notes ∙ c.reserve.ensures.same) in
    let counted = counts call c.in-Ok.pid _ k.notes c.finish.new.log.notes noted in (
      (
        subst (λ (s : Listed Task). Regular (record k { procs = s; files = c.copy_table-copied.new.self.open_files; notes = c.finish.new.log.notes; recording = c.pass.new.self })) (sym (procs_are c r.0 r.1.1.lives))
            (regular_forked k r.0 call c.self.invariant.0.0 r.1.1.lives ready few c.copy_table-copied.new.self.open_files c.finish.new.log.notes c.pass.new.self counted),
        copies_called k c.self.invariant.0.1 c.finish.new.log.notes counted (call_strays call c.in-Ok.pid _ k.notes c.finish.new.log.notes noted),
      ),
      search rules,
      c.self.invariant.2,
    )

pub returns-clause-forks : goal.returns-clause-forks
returns-clause-forks c = λ e h.
    let k = kept_of c.self.inside in
    let call = c.args.call in
    let noted = c.finish.ensures.notes
    ∙ (λ i. noted_call call (c.in-Ok.ensures.1 i) (map got_value (c.new-got.ensures.items i)) ∷ (c.or_unreserve.ensures.notes ∙ c.reserve.ensures.same) i) in
    subst (λ (old : Kept). LivesIn old call.pid e h →
    record k { procs = c.finish.new.procs; files = c.copy_table-copied.new.self.open_files; notes = c.finish.new.log.notes; recording = c.pass.new.self } ≡ after_fork old e call) c.self.view_is
    (λ runs. λ i. record k {
      procs = procs_are c e runs.lives i;
      files = ((rw (← c.in_ok-or_unreserve.ensures.same) at c.copy_table-copied.ensures.added) ∙ ap (λ (x : Task). with_copy k.files x.table) (value_found k.procs call.pid e runs.lives c.get.result.now c.get.ensures)) i;
      notes = noted i;
      recording = (c.pass.ensures ∙ ap (λ (t : Task). event_recorded k.recording t.space) (value_found k.procs call.pid e runs.lives c.get.result.now c.get.ensures)) i;
    })

pub returns-clause-holds : goal.returns-clause-holds
returns-clause-holds c = holds_inside (kept_of c.self.inside) c.args.self.now c.self.view_is

pub returns-in_err-or_unreserve-clause-holds : goal.returns-in_err-or_unreserve-clause-holds
returns-in_err-or_unreserve-clause-holds c = holds_inside (kept_of c.self.inside) c.args.self.now c.self.view_is
