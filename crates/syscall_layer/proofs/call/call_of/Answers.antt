-- The call's parts are those of the process.
use Rattle.std.proofs.Common.{◌≡◌, length, sym, subst, ◌∙◌, List, Ok, Err}
use Rattle.std.specs.Prelude.{slice_index}
use Rattle.call_log.specs.Sent.{sent}
use Rattle.mmap_rules.specs.declared.page_owner.PageOwner.{PageOwner}
use Rattle.region_watch.specs.Private.{only, physical, own_bytes}
use Rattle.vfork_exec.specs.Procs.{Lives}
use Rattle.machine_world.specs.Event.{number_of, args_of}
use Rattle.file_calls.specs.declared.call.Call.{Call}
use Rattle.kept_parts.specs.Kept.{Kept}
use Rattle.kept_parts.specs.Inside.{kept_of}
use Rattle.kept_parts.specs.Calls.{LivesIn, IsCall, Made}
use Rattle.kept_parts.specs.Reach.{readable}
use Rattle.kept_parts.proofs.Common.WholeMemory.{reached_bytes, reached_pages}
use Rattle.kept_parts.proofs.Common.RunningProcess.{has_space, home_at, sent_is, call_is, unread_is}
use Rattle.syscall_layer.proofs.call.call_of.Goals as goal

pub read_sent-requires : goal.read_sent-requires
read_sent-requires c =
    let k = kept_of c.parts.inside in
    let each = rw (← c.parts.view_is) at c.table_of-owners.ensures in
    let lives = subst (λ (s : Kept). Lives s.procs c.args.pid) (sym c.parts.view_is) c.requires.lives in
    let live = has_space k c.args.pid c.get-task.result.now c.parts.invariant.0.0 lives c.get-task.ensures in
    record { memory = reached_pages c.args.mode k live.held c.table_of-owners.result.now c.parts.invariant.0.0 (each live.held live.there) }

pub returns-in-Ok-clause-made : goal.returns-in-Ok-clause-made
returns-in-Ok-clause-made c = λ e h runs.
    let k = kept_of c.parts.inside in
    let t = c.get-task.result.now in
    let args = c.args_of-args.result in
    let table : List PageOwner = c.table_of-owners.result.now in
    let each = rw (← c.parts.view_is) at c.table_of-owners.ensures in
    let from : Call = record {
      pid = c.args.pid;
      parent = c.parent.result;
      table = c.get-task.result.now.table;
      number = slice_index c.get-task.result.now.regs.x 17;
      args = c.args_of-args.result;
      sent = c.in-Ok.sent;
    } in
    subst (λ (now : Kept). LivesIn now c.args.pid e h → IsCall e from
    × (sent (number_of e.value.regs) (args_of e.value.regs) (only (readable c.args.mode (length now.regions) h) (physical now.mem)) ≡ Ok c.in-Ok.sent.items)) c.parts.view_is
    (λ r.
    let bytes = reached_bytes c.args.mode (length k.regions) h table k.mem (each h (home_at k c.args.pid e h r t c.get-task.ensures)) in
    let read : sent (slice_index t.regs.x 17) args (own_bytes table k.mem) ≡ Ok c.in-Ok.sent.items = c.in-Ok.ensures in (
      call_is k c.args.pid e h r t c.get-task.ensures args c.args_of-args.ensures c.parent.result c.parent.ensures c.in-Ok.sent,
      sent_is k c.args.pid e h r t c.get-task.ensures args c.args_of-args.ensures _ _ bytes ∙ read,
    ))
    runs

pub returns-in-Err-clause-made : goal.returns-in-Err-clause-made
returns-in-Err-clause-made c = λ e h runs.
    let k = kept_of c.parts.inside in
    let t = c.get-task.result.now in
    let args = c.args_of-args.result in
    let table : List PageOwner = c.table_of-owners.result.now in
    let each = rw (← c.parts.view_is) at c.table_of-owners.ensures in
    subst (λ (now : Kept). LivesIn now c.args.pid e h → Made (only (readable c.args.mode (length now.regions) h) (physical now.mem)) e (Err c.in-Err.unread)) c.parts.view_is
    (λ r.
    let bytes = reached_bytes c.args.mode (length k.regions) h table k.mem (each h (home_at k c.args.pid e h r t c.get-task.ensures)) in
    unread_is k c.args.pid e h r t c.get-task.ensures args c.args_of-args.ensures _ _ bytes c.in-Err.unread c.in-Err.ensures)
    runs
