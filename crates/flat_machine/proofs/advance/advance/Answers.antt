-- What instructions of the process leave, at the parts.
use Rattle.std.proofs.Common.{refl, sym, subst, ◌∙◌, arith}
use Rattle.vfork_exec.specs.Procs.{CanRun}
use Rattle.kept_parts.specs.Kept.{Kept}
use Rattle.kept_parts.specs.Inside.{kept_of}
use Rattle.flat_machine.proofs.Advanced.{has_space, never_none, below}
use Rattle.flat_machine.proofs.AdvancedIn.{space_paged, advances}
use Rattle.flat_machine.proofs.NoneDone.{none_done}
use Rattle.flat_machine.proofs.HitsAdvanced.{advance_hits}
use Rattle.watch_points.specs.Points.{kind_of_point}
use Rattle.flat_machine.proofs.advance.advance.Goals as goal

pub index-requires : goal.index-requires
index-requires g c =
    let h = has_space (kept_of c.parts.inside) c.args.pid c.get_mut-task.result.now c.parts.invariant.0.0 c.get_mut-task.ensures.value in
    omega (arith, below c.parts.inside.spaces.items c.get_mut-task.result.now.space h)

pub with_windows-watch-requires-clause-paged : goal.with_windows-watch-requires-clause-paged
with_windows-watch-requires-clause-paged g c =
    space_paged (kept_of c.parts.inside) c.args.pid c.get_mut-task.result.now c.index.result.now c.in-Some.space c.owners.result.now c.parts.invariant.0.0
    c.get_mut-task.ensures.value c.index.ensures c.in-Some.is c.owners.ensures.pages

pub invariant_of-parts : goal.invariant_of-parts
invariant_of-parts g c =
    let ready = subst (λ (k : Kept). CanRun k.procs c.args.pid) (sym c.parts.view_is) c.requires.ready in
    let strayed = rw (← c.parts.view_is) at c.requires.strayed in (
      rw (c.pass.ensures) ((advances c.args.mode (kept_of c.parts.inside) c.args.pid c.args.count c.get_mut-task.result.now c.index.result.now c.in-Some.space c.with_windows-watch.result.mode c.owners.result.now
          c.with_windows-watch.result.owners.now c.with_windows-watch.result.mem.now c.run_watched-progress.new.watch.mem.now c.run_watched-progress.new.regs c.run_watched-progress.result.done c.run_watched-progress.result.stop
          c.parts.invariant.0 ready strayed c.get_mut-task.ensures.value c.index.ensures c.in-Some.is
          c.owners.ensures.own c.owners.ensures.writable c.owners.ensures.pages c.with_windows-watch.ensures.fresh.mode c.with_windows-watch.ensures.fresh.owners c.with_windows-watch.ensures.fresh.mem
          c.run_watched-progress.ensures.leaves.leaves c.run_watched-progress.ensures.leaves.frozen c.run_watched-progress.ensures.leaves.size).regular),
      c.parts.invariant.1,
      c.parts.invariant.2,
    )

pub returns-in-Some-clause-keeps : goal.returns-in-Some-clause-keeps
returns-in-Some-clause-keeps g c =
    let v = c.parts.view_is in
    let ready = subst (λ (k : Kept). CanRun k.procs c.args.pid) (sym c.parts.view_is) c.requires.ready in
    let strayed = rw (← c.parts.view_is) at c.requires.strayed in
    let advanced =
    (advances c.args.mode (kept_of c.parts.inside) c.args.pid c.args.count c.get_mut-task.result.now c.index.result.now c.in-Some.space c.with_windows-watch.result.mode c.owners.result.now
    c.with_windows-watch.result.owners.now c.with_windows-watch.result.mem.now c.run_watched-progress.new.watch.mem.now c.run_watched-progress.new.regs c.run_watched-progress.result.done c.run_watched-progress.result.stop
    c.parts.invariant.0 ready strayed c.get_mut-task.ensures.value c.index.ensures c.in-Some.is
    c.owners.ensures.own c.owners.ensures.writable c.owners.ensures.pages c.with_windows-watch.ensures.fresh.mode c.with_windows-watch.ensures.fresh.owners c.with_windows-watch.ensures.fresh.mem
    c.run_watched-progress.ensures.leaves.leaves c.run_watched-progress.ensures.leaves.frozen c.run_watched-progress.ensures.leaves.size) in
    rw (← v, c.pass.ensures) (record {
      ready = advanced.ready;
      within = advanced.within;
      notes = refl;
      files = refl;
      regions = refl;
      still = λ none. (none_done c.args.mode (kept_of c.parts.inside) c.args.pid c.args.count c.get_mut-task.result.now c.in-Some.space c.with_windows-watch.result.mode c.owners.result.now
          c.with_windows-watch.result.owners.now c.with_windows-watch.result.mem.now c.run_watched-progress.new.watch.mem.now c.run_watched-progress.new.regs c.run_watched-progress.result.done c.run_watched-progress.result.stop
          c.get_mut-task.ensures.value c.owners.ensures.own c.owners.ensures.writable c.with_windows-watch.ensures.fresh.mode c.with_windows-watch.ensures.fresh.owners c.with_windows-watch.ensures.fresh.mem
          c.run_watched-progress.ensures.leaves.leaves c.run_watched-progress.ensures.leaves.frozen none);
    })

pub returns-in-Some-clause-own : goal.returns-in-Some-clause-own
returns-in-Some-clause-own g c own =
    let v = c.parts.view_is in
    let ready = subst (λ (k : Kept). CanRun k.procs c.args.pid) (sym c.parts.view_is) c.requires.ready in
    let strayed = rw (← c.parts.view_is) at c.requires.strayed in
    let advanced =
    (advances c.args.mode (kept_of c.parts.inside) c.args.pid c.args.count c.get_mut-task.result.now c.index.result.now c.in-Some.space c.with_windows-watch.result.mode c.owners.result.now
    c.with_windows-watch.result.owners.now c.with_windows-watch.result.mem.now c.run_watched-progress.new.watch.mem.now c.run_watched-progress.new.regs c.run_watched-progress.result.done c.run_watched-progress.result.stop
    c.parts.invariant.0 ready strayed c.get_mut-task.ensures.value c.index.ensures c.in-Some.is
    c.owners.ensures.own c.owners.ensures.writable c.owners.ensures.pages c.with_windows-watch.ensures.fresh.mode c.with_windows-watch.ensures.fresh.owners c.with_windows-watch.ensures.fresh.mem
    c.run_watched-progress.ensures.leaves.leaves c.run_watched-progress.ensures.leaves.frozen c.run_watched-progress.ensures.leaves.size) in
    let found = (advance_hits (kind_of_point c.args.watcher.now.point.now) c.args.watcher.now.spans.now c.args.hits.now c.run_watched-progress.new.hits c.args.mode (kept_of c.parts.inside) c.args.pid c.args.count
    c.get_mut-task.result.now c.index.result.now c.in-Some.space c.with_windows-watch.result.mode c.owners.result.now
    c.with_windows-watch.result.owners.now c.with_windows-watch.result.mem.now c.run_watched-progress.new.watch.mem.now c.run_watched-progress.new.regs c.run_watched-progress.result.done c.run_watched-progress.result.stop
    c.run_watched-progress.ensures.hits advanced c.parts.invariant.0 strayed c.get_mut-task.ensures.value c.index.ensures c.in-Some.is
    c.owners.ensures.own c.owners.ensures.writable c.owners.ensures.pages c.with_windows-watch.ensures.fresh.mode c.with_windows-watch.ensures.fresh.owners c.with_windows-watch.ensures.fresh.mem
    c.run_watched-progress.ensures.leaves.leaves c.run_watched-progress.ensures.leaves.frozen c.run_watched-progress.ensures.leaves.size) in
    rw (← v, c.pass.ensures) (record { leads = advanced.leads own; halts = advanced.halts own; hits = found.own own })

pub returns-in-Some-clause-memory : goal.returns-in-Some-clause-memory
returns-in-Some-clause-memory g c =
    let v = c.parts.view_is in
    let ready = subst (λ (k : Kept). CanRun k.procs c.args.pid) (sym c.parts.view_is) c.requires.ready in
    let strayed = rw (← c.parts.view_is) at c.requires.strayed in
    let advanced =
    (advances c.args.mode (kept_of c.parts.inside) c.args.pid c.args.count c.get_mut-task.result.now c.index.result.now c.in-Some.space c.with_windows-watch.result.mode c.owners.result.now
    c.with_windows-watch.result.owners.now c.with_windows-watch.result.mem.now c.run_watched-progress.new.watch.mem.now c.run_watched-progress.new.regs c.run_watched-progress.result.done c.run_watched-progress.result.stop
    c.parts.invariant.0 ready strayed c.get_mut-task.ensures.value c.index.ensures c.in-Some.is
    c.owners.ensures.own c.owners.ensures.writable c.owners.ensures.pages c.with_windows-watch.ensures.fresh.mode c.with_windows-watch.ensures.fresh.owners c.with_windows-watch.ensures.fresh.mem
    c.run_watched-progress.ensures.leaves.leaves c.run_watched-progress.ensures.leaves.frozen c.run_watched-progress.ensures.leaves.size) in
    let found = (advance_hits (kind_of_point c.args.watcher.now.point.now) c.args.watcher.now.spans.now c.args.hits.now c.run_watched-progress.new.hits c.args.mode (kept_of c.parts.inside) c.args.pid c.args.count
    c.get_mut-task.result.now c.index.result.now c.in-Some.space c.with_windows-watch.result.mode c.owners.result.now
    c.with_windows-watch.result.owners.now c.with_windows-watch.result.mem.now c.run_watched-progress.new.watch.mem.now c.run_watched-progress.new.regs c.run_watched-progress.result.done c.run_watched-progress.result.stop
    c.run_watched-progress.ensures.hits advanced c.parts.invariant.0 strayed c.get_mut-task.ensures.value c.index.ensures c.in-Some.is
    c.owners.ensures.own c.owners.ensures.writable c.owners.ensures.pages c.with_windows-watch.ensures.fresh.mode c.with_windows-watch.ensures.fresh.owners c.with_windows-watch.ensures.fresh.mem
    c.run_watched-progress.ensures.leaves.leaves c.run_watched-progress.ensures.leaves.frozen c.run_watched-progress.ensures.leaves.size) in
    rw (← v, c.pass.ensures) (record { leads = advanced.leads_in; halts = advanced.halts_in; hits = found.memory })

pub returns-in-None-clause-keeps : goal.returns-in-None-clause-keeps
returns-in-None-clause-keeps g c = absurd (never_none c.parts.inside.spaces.items c.get_mut-task.result.now.space c.index.result.now
    (has_space (kept_of c.parts.inside) c.args.pid c.get_mut-task.result.now c.parts.invariant.0.0 c.get_mut-task.ensures.value) c.index.ensures c.in-None.is)

pub returns-in-None-clause-own : goal.returns-in-None-clause-own
returns-in-None-clause-own g c = absurd (never_none c.parts.inside.spaces.items c.get_mut-task.result.now.space c.index.result.now
    (has_space (kept_of c.parts.inside) c.args.pid c.get_mut-task.result.now c.parts.invariant.0.0 c.get_mut-task.ensures.value) c.index.ensures c.in-None.is)

pub returns-in-None-clause-memory : goal.returns-in-None-clause-memory
returns-in-None-clause-memory g c = absurd (never_none c.parts.inside.spaces.items c.get_mut-task.result.now.space c.index.result.now
    (has_space (kept_of c.parts.inside) c.args.pid c.get_mut-task.result.now c.parts.invariant.0.0 c.get_mut-task.ensures.value) c.index.ensures c.in-None.is)

pub invariant_of-parts-in-None : goal.invariant_of-parts-in-None
invariant_of-parts-in-None g c = absurd (never_none c.parts.inside.spaces.items c.get_mut-task.result.now.space c.index.result.now
    (has_space (kept_of c.parts.inside) c.args.pid c.get_mut-task.result.now c.parts.invariant.0.0 c.get_mut-task.ensures.value) c.index.ensures c.in-None.is)
