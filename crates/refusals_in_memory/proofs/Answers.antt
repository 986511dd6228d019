-- What holds of each answer that a call over one memory may have holds of what comes of the call.
use Rattle.std.proofs.Common.{◌≡◌, Bool, true, false, List, Option, Some, None, Result, Ok, Err}
use Rattle.std.specs.Prelude.{◌==◌, if◌then◌else◌}
use Rattle.call_log.specs.declared.errno.Errno.{Errno}
use Rattle.call_log.specs.Notes.{GotRange}
use Rattle.vfork_exec.specs.declared.family.Who.{Who}
use Rattle.vfork_exec.specs.declared.family.State.{State}
use Rattle.vfork_exec.specs.declared.family.State.TheVariants.{Waiting}
use Rattle.vfork_exec.specs.declared.family.Ended.{Ended}
use Rattle.vfork_exec.specs.declared.family.Waited.{Waited}
use Rattle.vfork_exec.specs.declared.family.Waited.TheVariants.{Child, NoneYet, Waits}
use Rattle.vfork_exec.specs.Families.{first_ended, without_first}
use Rattle.machine_world.specs.Families.{has_child}
use Rattle.machine_world.specs.Asks.{Ask, arg, gives, refuses}
use Rattle.machine_world.specs.FamilyCalls.{who_of, may_wait, waitid_fault, child_info, no_info, info_at}
use Rattle.machine_world.specs.Rows.{row}
use Rattle.machine_world.specs.Event.{waited, told_in, classed}
use Rattle.refusal_laws.proofs.Errnos.{is_enomem, Other, OtherErr, other_waitid, other_told}
use Rattle.memory_world.specs.Physical.{Physical, After, after, no_room, nobody, carried, answered_in, full_at, reaped_in, waitid_behind_in, waitid_in, writes_nothing, classed_in}

-- X holds of each answer
pub record EachAnswer (X : After → Type 0) (p : Physical) (a : Ask) : Type 0 where
  -- waitid refuses with no ENOMEM
  pub refused : (e : Errno) → is_enomem e ≡ false → X (answered_in p a (refuses a e))
  pub row : X (answered_in p a (row a))
  -- exit, clone and execve
  pub calls : X (carried p p.memory (classed p.world a))
  -- waitid: a child that has ended may go from the list
  pub told : (ended : List Ended) (got : List GotRange) → X (answered_in (record p { world = record p.world { ended = ended } }) a (gives a 0 got a.rest))
  pub waits : (state : State) → X (carried p p.memory (waited p.world a.process state))
  pub full : X (no_room p)

module _ (X : After → Type 0) (p : Physical) (a : Ask) (each : EachAnswer X p a) where
  by_if : (b : Bool) (x y : After) → X x → X y → X (if b then x else y)
  by_if true x y hx hy = hx
  by_if false x y hx hy = hy

  by_full : (x : After) → X x → X (full_at p x)
  by_full (after now over) h = h
  by_full (no_room now) h = each.full
  by_full nobody h = h

  by_reaped : (who : Who) (o : Result Waited Errno) → OtherErr o → X (reaped_in p a who o)
  by_reaped who (Ok (Child pid how)) other = by_full _ (each.told (without_first a.process.pid who p.world.ended) (info_at (arg a 2) (child_info pid how)))
  by_reaped who (Ok NoneYet) other = each.told p.world.ended (info_at (arg a 2) no_info)
  by_reaped who (Ok Waits) other = each.waits (Waiting who)
  by_reaped who (Err e) other = each.refused e other

  by_fault : (o : Option Errno) → Other o → X (waitid_behind_in p a o)
  by_fault (Some e) other = each.refused e other
  by_fault None other =
      by_reaped (who_of a) (told_in p.world a)
      (other_told (first_ended a.process.pid (who_of a) p.world.ended) (has_child a.process.pid (who_of a) p.world.procs) (may_wait (arg a 3)))

  by_waitid : X (waitid_in p a)
  unfolding waitid_in
  by_waitid = by_fault (waitid_fault a) (other_waitid a)

  pub by_classed_in : X (classed_in p a)
  by_classed_in =
      by_if (writes_nothing a.number) (carried p p.memory (classed p.world a)) _ each.calls
      (by_if (a.number == 95) (waitid_in p a) (answered_in p a (row a)) by_waitid each.row)
