-- One pipe less is marked each time, and those go on that wait on it.
use Rattle.std.proofs.Common.{length, refl, sym, ap, subst, ◌∙◌, arith}
use Rattle.vfork_exec.specs.Procs.{Listed}
use Rattle.kept_parts.specs.declared.task.Task.{Task}
use Rattle.kept_parts.specs.Inside.{kept_of}
use Rattle.kept_parts.specs.Regular.{IsRegular}
use Rattle.kept_parts.specs.Stands.{world_of}
use Rattle.kept_parts.specs.Awake.{awake_in}
use Rattle.kept_parts.proofs.Replies.Wakes.{awake_last, awake_next, awake_world, regular_awake}
use Rattle.kept_parts.proofs.kept.KeptParts.wake_changed.Goals as goal

pub loop-pipe-init : goal.loop-pipe-init
loop-pipe-init c = (refl, c.self.invariant.1, c.self.invariant.2)

pub loop-pipe-smaller : goal.loop-pipe-smaller
loop-pipe-smaller c = omega (arith, ap length c.in-Some.ensures.changed.0)

pub loop-pipe-preserved : goal.loop-pipe-preserved
loop-pipe-preserved c = (
  ap (λ (s : Listed Task). awake_in (record (kept_of c.loop-pipe.self-inside) { procs = s; files = c.next_changed.new.self.open_files })) c.wake.ensures
      ∙ awake_next (kept_of c.loop-pipe.self-inside) c.in-Some.pipe c.next_changed.new.self.open_files c.in-Some.ensures.changed
      ∙ c.loop-pipe.invariant.0,
  c.loop-pipe.invariant.1,
  c.loop-pipe.invariant.2,
)

pub invariant_of-self : goal.invariant_of-self
invariant_of-self c = (
  subst IsRegular (sym (awake_last (kept_of c.loop-pipe.self-inside) c.next_changed.new.self.open_files c.in_default.ensures.changed ∙ c.loop-pipe.invariant.0))
      (regular_awake (kept_of c.self.inside) c.self.invariant.0),
  c.loop-pipe.invariant.1,
  c.loop-pipe.invariant.2,
)

pub returns-clause-kept : goal.returns-clause-kept
returns-clause-kept c =
    awake_last (kept_of c.loop-pipe.self-inside) c.next_changed.new.self.open_files c.in_default.ensures.changed
    ∙ c.loop-pipe.invariant.0
    ∙ ap awake_in c.self.view_is

pub returns-clause-world : goal.returns-clause-world
returns-clause-world c = λ a.
    ap (world_of a) (awake_last (kept_of c.loop-pipe.self-inside) c.next_changed.new.self.open_files c.in_default.ensures.changed ∙ c.loop-pipe.invariant.0 ∙ ap awake_in c.self.view_is)
    ∙ awake_world a c.args.self.now
