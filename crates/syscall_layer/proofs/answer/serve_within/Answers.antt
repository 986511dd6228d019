-- The call that is read, and the range that isn't within reach.
use Rattle.std.proofs.Common.{◌≡◌, ℕ, true, false, refl, sym, subst, ◌∙◌}
use Rattle.std.specs.Prelude.{Some, Err, Ok}
use Rattle.page_runs.specs.Choosers.{kind_of}
use Rattle.vfork_exec.specs.Procs.{value_at}
use Rattle.machine_world.specs.Event.{called}
use Rattle.memory_world.specs.Physical.{After, called_in}
use Rattle.call_bytes.specs.declared.unread.Unread.{Unread}
use Rattle.call_bytes.specs.declared.unread.Unread.TheVariants.{Stray}
use Rattle.kept_parts.specs.Kept.{Kept}
use Rattle.kept_parts.specs.Regular.{IsRegular}
use Rattle.kept_parts.specs.Serves.{WaitsAt}
use Rattle.kept_parts.specs.Copies.{HoldsFiles}
use Rattle.kept_parts.specs.Stands.{world_of}
use Rattle.kept_parts.specs.InMemory.{headers_of, physical_of, ServesIn}
use Rattle.kept_parts.proofs.Common.AnyRun.{about_with, some_are_flats}
use Rattle.syscall_layer.proofs.CallsKeep.{call_remains}
use Rattle.syscall_layer.proofs.CallsOn.{unchanged_by, stray_answers}
use Rattle.syscall_layer.proofs.Leaves.{stray_keeps, yield_goes, wait_goes, wait_unnoted}
use Rattle.kept_parts.proofs.Common.ProcessList.{can_run_lives}
use Rattle.kept_parts.proofs.Copies.BehindStrays.{unstrayed_holds}
use Rattle.kept_parts.proofs.Replies.Outcomes.{serve_call, serve_stray}
use Rattle.kept_parts.proofs.Replies.InMemory.{MadeAs, own_made, call_goes, called_outside}
use Rattle.kept_parts.proofs.Replies.GivenMemory.{beyond}
use Rattle.syscall_layer.proofs.answer.serve_within.Goals as goal

pub returns-in-Ok-clause-comes : goal.returns-in-Ok-clause-comes
returns-in-Ok-clause-comes g c = record {
  serves = λ own a kind flats holding.
      serve_call a c.args.parts.now c.args.pid (subst IsRegular c.parts.view_is c.parts.invariant.0).0 (can_run_lives c.args.parts.now.procs c.args.pid c.requires.ready) c.in-Ok.call c.in-Ok.ensures.pid
      (own_made c.args.parts.now c.args.pid c.args.mode own (Ok c.in-Ok.call) c.in-Ok.ensures.made)
      c.answer_and_wake.new.parts c.answer_and_wake.result (c.answer_and_wake.ensures.answers.serves own a kind flats holding);
  memory = λ a kind flats.
      call_goes (headers_of c.args.programs.now) a c.args.parts.now c.args.pid (subst IsRegular c.parts.view_is c.parts.invariant.0).0 (can_run_lives c.args.parts.now.procs c.args.pid c.requires.ready) c.args.mode
      c.in-Ok.call c.in-Ok.ensures.pid c.in-Ok.ensures.made c.answer_and_wake.new.parts c.answer_and_wake.result (c.answer_and_wake.ensures.answers.memory a kind flats);
  holds = c.answer_and_wake.ensures.answers.holds;
}

-- ---- by the answer

pub returns-in-Ok-clause-told : goal.returns-in-Ok-clause-told
returns-in-Ok-clause-told g c = record {
  stray = c.answer_and_wake.ensures.told.stray;
  yields = λ is. subst (λ (p : ℕ). WaitsAt c.answer_and_wake.new.parts.procs p false) c.in-Ok.ensures.pid (c.answer_and_wake.ensures.told.yields is);
  waits = λ is marks. subst (λ (p : ℕ). WaitsAt c.answer_and_wake.new.parts.procs p true) c.in-Ok.ensures.pid (c.answer_and_wake.ensures.told.waits is marks);
  unnoted = c.answer_and_wake.ensures.told.unnoted;
}

-- ---- out of memory

pub returns-in-Ok-clause-unchanged : goal.returns-in-Ok-clause-unchanged
returns-in-Ok-clause-unchanged g c =
    let k = c.args.parts.now in
    let flats = c.args.programs.now in
    let a = about_with (kind_of c.args.chooser.now) flats in
    unchanged_by (headers_of flats) a (called_in (physical_of (headers_of flats) a k) c.args.pid) k c.answer_and_wake.new.parts c.args.pid c.args.mode c.answer_and_wake.result
    (call_goes (headers_of flats) a k c.args.pid (subst IsRegular c.parts.view_is c.parts.invariant.0).0 (can_run_lives k.procs c.args.pid c.requires.ready) c.args.mode
    c.in-Ok.call c.in-Ok.ensures.pid c.in-Ok.ensures.made c.answer_and_wake.new.parts c.answer_and_wake.result (c.answer_and_wake.ensures.answers.memory a refl (some_are_flats flats)))

-- ---- what stays

pub returns-in-Ok-clause-keeps : goal.returns-in-Ok-clause-keeps
returns-in-Ok-clause-keeps g c =
    let k = c.args.parts.now in
    let flats = c.args.programs.now in
    let a = about_with (kind_of c.args.chooser.now) flats in
    let regular = (subst IsRegular c.parts.view_is c.parts.invariant.0).0 in
    let lives = can_run_lives k.procs c.args.pid c.requires.ready in
    let memory = call_goes (headers_of flats) a k c.args.pid regular lives c.args.mode
    c.in-Ok.call c.in-Ok.ensures.pid c.in-Ok.ensures.made c.answer_and_wake.new.parts c.answer_and_wake.result (c.answer_and_wake.ensures.answers.memory a refl (some_are_flats flats)) in
    call_remains (headers_of flats) a k c.answer_and_wake.new.parts c.args.pid c.args.mode c.requires.strayed c.answer_and_wake.result
    (λ own quiet. serve_call a k c.args.pid regular lives c.in-Ok.call c.in-Ok.ensures.pid (own_made k c.args.pid c.args.mode own (Ok c.in-Ok.call) c.in-Ok.ensures.made)
    c.answer_and_wake.new.parts c.answer_and_wake.result (c.answer_and_wake.ensures.answers.serves own a refl (some_are_flats flats) (unstrayed_holds k quiet)))
    memory c.answer_and_wake.ensures.told.stray

-- ---- a range beyond reach

pub returns-in-Err-Stray-clause-comes : goal.returns-in-Err-Stray-clause-comes
returns-in-Err-Stray-clause-comes g c =
    let k = c.args.parts.now in
    let pid = c.args.pid in
    let headers = headers_of c.args.programs.now in
    let regular = (subst IsRegular c.parts.view_is c.parts.invariant.0).0 in
    let lives = can_run_lives k.procs pid c.requires.ready in
    let kept = subst (λ (now : Kept). value_at now.procs pid ≡ Some c.get.result.now) c.parts.view_is c.get.ensures in
    let made = subst (λ (unread : Unread). MadeAs k pid c.args.mode (Err unread)) c.in-Err-Stray.field-0-is c.in-Err-Stray.ensures.made in
    record {
      serves = λ own a kind flats holding.
          stray_answers a (called (world_of a k) pid) k c.beyond_reach.new.parts pid _ c.beyond_reach.result (c.beyond_reach.ensures.strays own)
          (serve_stray a k pid regular lives c.get.result.now kept (record { addr = c.in-Err-Stray.addr; len = c.in-Err-Stray.len })
          (own_made k pid c.args.mode own (Err (Stray c.in-Err-Stray.addr c.in-Err-Stray.len)) made));
      memory = λ a kind flats.
          beyond headers a (called_in (physical_of headers a k) pid) k c.beyond_reach.new.parts pid c.args.mode _ c.beyond_reach.result c.beyond_reach.ensures.strays (λ goes.
          subst (λ (x : After). ServesIn headers a x k c.beyond_reach.new.parts pid c.beyond_reach.result)
          (sym (called_outside headers a k pid regular lives c.args.mode goes c.in-Err-Stray.addr c.in-Err-Stray.len made)) (c.beyond_reach.ensures.memory goes headers a));
      holds = λ own holds. subst HoldsFiles (sym (c.beyond_reach.ensures.strays own).1) holds;
    }

pub returns-in-Err-Stray-clause-told : goal.returns-in-Err-Stray-clause-told
returns-in-Err-Stray-clause-told g c =
    let k = c.args.parts.now in
    let new = c.beyond_reach.new.parts in
    let leaves = c.beyond_reach.ensures.leaves in record {
      stray = stray_keeps k new c.args.pid c.beyond_reach.result leaves;
      yields = yield_goes k new c.args.pid c.beyond_reach.result leaves;
      waits = λ is marks. wait_goes k new c.args.pid c.beyond_reach.result leaves is;
      unnoted = wait_unnoted k new c.args.pid c.beyond_reach.result leaves;
    }
