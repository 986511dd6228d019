-- A process has other registers.
use Rattle.std.proofs.Common.{Some, arith, refl, sym, subst}
use Rattle.std.specs.Prelude.{slice_set}
use Rattle.rv32im_step.specs.declared.regs.Regs.{Regs}
use Rattle.vfork_exec.specs.Procs.{Lives, with_value_at}
use Rattle.kept_parts.specs.Kept.{Kept}
use Rattle.kept_parts.specs.Inside.{kept_of}
use Rattle.kept_parts.proofs.Common.RunningProcess.{has_space}
use Rattle.kept_parts.proofs.Common.StaysRegular.{set_kept}
use Rattle.kept_parts.proofs.Replies.Replied.{regular_replied}
use Rattle.machine_tests.proofs.tests.noted.set_write.Goals as goal

pub invariant_of-parts : goal.invariant_of-parts
invariant_of-parts c =
    let k = kept_of c.parts.inside in
    let t = c.get_mut-task.result.now in
    let lives = subst (λ (s : Kept). Lives s.procs c.args.pid) (sym c.parts.view_is) c.requires in
    let live = has_space k c.args.pid t c.parts.invariant.0.0 lives c.get_mut-task.ensures.value in
    let regs : Regs = record { pc = t.regs.pc; x = slice_set (slice_set (slice_set (slice_set t.regs.x 17 64) 10 1) 11 c.args.addr) 12 c.args.len } in (
      (
        regular_replied k c.args.pid t live.held c.parts.invariant.0.0 lives c.get_mut-task.ensures.value live.there
            regs live.held.brk k.mem k.spaces k.tree k.files (with_value_at k.procs c.args.pid (record t { regs = regs })) k.notes k.console
            refl (sym (set_kept k.spaces t.space (Some live.held) live.there)) refl (omega arith),
        c.parts.invariant.0.1,
      ),
      c.parts.invariant.1,
      c.parts.invariant.2,
    )
