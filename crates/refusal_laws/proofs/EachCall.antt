-- What holds behind each answer that a call can have holds behind every call.
use Rattle.std.proofs.Common.{◌≡◌, ℕ, Bool, true, false, List, Option, Some, None, Result, Ok, Err, refl}
use Rattle.std.specs.Prelude.{◌==◌, not, if◌then◌else◌}
use Rattle.std.proofs.lemmas.Bool.{eqb-true}
use Rattle.call_log.specs.declared.errno.Errno.{Errno}
use Rattle.call_log.specs.declared.errno.Errno.TheVariants.{E2big, Eagain, Enomem, Einval, Enametoolong}
use Rattle.call_log.specs.Notes.{GotRange}
use Rattle.call_log.specs.Strings.{ProgramStrings, program_strings}
use Rattle.call_log.specs.Sent.{has_zero}
use Rattle.flat_loader.specs.Original.{block_pages}
use Rattle.flat_loader.specs.Frame.{frame_fits}
use Rattle.flat_loader.specs.Begin.{Loading}
use Rattle.vfork_exec.specs.declared.family.Who.{Who}
use Rattle.vfork_exec.specs.declared.family.State.{State}
use Rattle.vfork_exec.specs.declared.family.State.TheVariants.{Waiting}
use Rattle.vfork_exec.specs.declared.family.Ended.{Ended}
use Rattle.vfork_exec.specs.declared.family.Waited.{Waited}
use Rattle.vfork_exec.specs.declared.family.Waited.TheVariants.{Child, NoneYet, Waits}
use Rattle.vfork_exec.specs.Families.{first_ended, without_first}
use Rattle.machine_world.specs.World.{World}
use Rattle.machine_world.specs.Families.{is_full, has_child}
use Rattle.machine_world.specs.Free.{free}
use Rattle.machine_world.specs.Found.{Found, address_of, taken}
use Rattle.machine_world.specs.Asks.{Ask, arg, gives, refuses}
use Rattle.machine_world.specs.PathCalls.{path_of}
use Rattle.machine_world.specs.FamilyCalls.{who_of, may_wait, waitid_fault, child_info, no_info, info_at, vfork_flags, runs}
use Rattle.machine_world.specs.Rows.{row}
use Rattle.machine_world.specs.Event.{Outcome, waited, answered, exited, is_exit, reaped, told_in, waitid_behind, waitid, forked, cloned, executed, exec_at, exec_program, exec_strings, exec, classed}
use Rattle.refusal_laws.specs.NoRun.{LacksRunToExec}
use Rattle.refusal_laws.proofs.Errnos.{is_enomem, Other, OtherErr, other_waitid, other_told, other_runs}

-- P holds behind each answer
pub record EachCall (P : Outcome → Type 0) (w : World) (a : Ask) : Type 0 where
  pub row : P (answered w a (row a))
  pub refused : (e : Errno) → is_enomem e ≡ false → P (answered w a (refuses a e))
  pub exit : P (exited w a)
  -- waitid: a child that has ended may go from the list
  pub told : (ended : List Ended) (got : List GotRange) → P (answered (record w { ended = ended }) a (gives a 0 got a.rest))
  pub waiting : (state : State) → P (waited w a.process state)
  pub fork : P (forked w a)
  -- execve: a program in a run that is free, or no run
  pub load : (index page : ℕ) (l : Loading) → l.block ≡ address_of page → taken w (block_pages l.original) (free w) ≡ Some page → P (executed w a index l)
  pub no_run : a.number ≡ 221 → LacksRunToExec w a → P (answered w a (refuses a Enomem))

module _ (P : Outcome → Type 0) (w : World) (a : Ask) (each : EachCall P w a) where
  by_test : (b : Bool) (x y : Outcome) → (b ≡ true → P x) → (b ≡ false → P y) → P (if b then x else y)
  by_test true x y hx hy = hx refl
  by_test false x y hx hy = hy refl

  by_if : (b : Bool) (x y : Outcome) → P x → P y → P (if b then x else y)
  by_if true x y hx hy = hx
  by_if false x y hx hy = hy

  by_reaped : (who : Who) (o : Result Waited Errno) → OtherErr o → P (reaped w a who o)
  by_reaped who (Ok (Child pid how)) other = each.told (without_first a.process.pid who w.ended) (info_at (arg a 2) (child_info pid how))
  by_reaped who (Ok NoneYet) other = each.told w.ended (info_at (arg a 2) no_info)
  by_reaped who (Ok Waits) other = each.waiting (Waiting who)
  by_reaped who (Err e) other = each.refused e other

  by_fault : (o : Option Errno) → Other o → P (waitid_behind w a o)
  by_fault (Some e) other = each.refused e other
  by_fault None other =
      by_reaped (who_of a) (told_in w a) (other_told (first_ended a.process.pid (who_of a) w.ended) (has_child a.process.pid (who_of a) w.procs) (may_wait (arg a 3)))

  by_waitid : P (waitid w a)
  unfolding waitid
  by_waitid = by_fault (waitid_fault a) (other_waitid a)

  by_cloned : P (cloned w a)
  unfolding cloned
  by_cloned =
      by_if (not (arg a 0 == vfork_flags)) (answered w a (refuses a Einval)) _ (each.refused Einval refl)
      (by_if (is_full w) (answered w a (refuses a Eagain)) (forked w a) (each.refused Eagain refl) each.fork)

  module _ (number : a.number ≡ 221) (ends : has_zero a.sent ≡ true) where
    by_page : (s : ProgramStrings) → program_strings a.sent (arg a 1) (arg a 2) ≡ Some s → (f : Found) → runs w.rest (path_of a) ≡ Ok f → frame_fits f.original s.args s.env ≡ true
        → (o : Option ℕ) → taken w (block_pages f.original) (free w) ≡ o → P (exec_at w a f s o)
    by_page s read f leads fits None none =
        each.no_run number (record { ends = ends; strings = s; read = read; program = f; leads = leads; fits = fits; no_run = none })
    by_page s read f leads fits (Some page) is =
        each.load f.index page (record { original = f.original; block = address_of page; args = s.args; env = s.env }) refl is

    by_program : (s : ProgramStrings) → program_strings a.sent (arg a 1) (arg a 2) ≡ Some s → (o : Result Found Errno) → runs w.rest (path_of a) ≡ o → OtherErr o → P (exec_program w a s o)
    by_program s read (Ok f) leads other =
        by_test (frame_fits f.original s.args s.env) (exec_at w a f s (taken w (block_pages f.original) (free w))) (answered w a (refuses a E2big))
        (λ fits. by_page s read f leads fits (taken w (block_pages f.original) (free w)) refl) (λ no. each.refused E2big refl)
    by_program s read (Err e) leads other = each.refused e other

    by_strings : (o : Option ProgramStrings) → program_strings a.sent (arg a 1) (arg a 2) ≡ o → P (exec_strings w a o)
    by_strings (Some s) read = by_program s read (runs w.rest (path_of a)) refl (other_runs w.rest (path_of a))
    by_strings None read = each.refused E2big refl

  by_exec : a.number ≡ 221 → P (exec w a)
  unfolding exec
  by_exec number =
      by_test (has_zero a.sent) (exec_strings w a (program_strings a.sent (arg a 1) (arg a 2))) (answered w a (refuses a Enametoolong))
      (λ ends. by_strings number ends (program_strings a.sent (arg a 1) (arg a 2)) refl) (λ no. each.refused Enametoolong refl)

  pub each_call : P (classed w a)
  each_call =
      by_if (is_exit a.number) (exited w a) _ each.exit
      (by_if (a.number == 95) (waitid w a) _ by_waitid
      (by_if (a.number == 220) (cloned w a) _ by_cloned
      (by_test (a.number == 221) (exec w a) (answered w a (row a)) (λ is. by_exec (eqb-true a.number 221 is)) (λ no. each.row))))
