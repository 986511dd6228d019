-- A waitid keeps what is told of the stays right: it is answered, or the process waits.
use Rattle.std.proofs.Common.{◌≡◌, ℕ, true, false, List, Option, Some, None, Result, Ok, Err, refl, ap, ◌∙◌}
use Rattle.std.specs.Prelude.{◌==◌, ◌||◌}
use Rattle.rv32im_step.specs.Meaning.{call}
use Rattle.call_log.specs.declared.errno.Errno.{Errno}
use Rattle.call_log.specs.Notes.{GotRange}
use Rattle.call_log.specs.Sent.{sent}
use Rattle.vfork_exec.specs.declared.family.Who.{Who}
use Rattle.vfork_exec.specs.declared.family.State.TheVariants.{Ready, Waiting}
use Rattle.vfork_exec.specs.declared.family.Ended.{Ended}
use Rattle.vfork_exec.specs.declared.family.Waited.{Waited}
use Rattle.vfork_exec.specs.declared.family.Waited.TheVariants.{Child, NoneYet, Waits}
use Rattle.vfork_exec.specs.Keyed.{find}
use Rattle.vfork_exec.specs.Families.{without_first}
use Rattle.flat_loader.specs.Alone.{number_of, args_of}
use Rattle.machine_world.specs.World.{Process, LiveSpace, World, pid_of, id_of}
use Rattle.machine_world.specs.FamilyCalls.{who_of, waitid_fault, child_info, no_info, info_at}
use Rattle.machine_world.specs.Asks.{Ask, arg, gives, refuses}
use Rattle.machine_world.specs.Event.{ask_of, answered, reaped, told_in, waitid_behind, waitid, is_exit}
use Rattle.alone_laws.specs.Stays.{Stay, AreRight}
use Rattle.alone_laws.specs.Sound.{IsSound}
use Rattle.alone_laws.proofs.Lists.{eqb_is}
use Rattle.alone_laws.proofs.Moved.{ended_sound}
use Rattle.alone_laws.proofs.EventStays.{Keeps, below, means, keeps_answered, keeps_waited}
use Rattle.alone_laws.proofs.PlainCalls.{follows_refused, follows_same}

-- others have ended
ended_right : (ys : List Stay) (w : World) (ended : List Ended) → AreRight ys w → AreRight ys (record w { ended = ended })
ended_right ys w ended right = record { count = right.count; loads = right.loads; agree = right.agree; told = right.told }

module _ (ys : List Stay) (w : World) (sound : IsSound w) (right : AreRight ys w) (p : Process) (s : LiveSpace)
    (lives : find pid_of p.pid w.procs ≡ Some p) (ready : p.state ≡ Ready) (has : find id_of p.space w.spaces ≡ Some s)
    (is : means ys w sound right p s lives ready has ≡ call) (bytes : List ℕ) (reads : sent (number_of p.regs) (args_of p.regs) s.space.bytes ≡ Ok bytes)
    (asks : (number_of p.regs == 95) ≡ true) where
  abbrev a : Ask
  a = ask_of w p s.space bytes

  number : number_of p.regs ≡ 95
  number = eqb_is (number_of p.regs) 95 asks

  stays : is_exit (number_of p.regs) ≡ false
  stays = ap (λ (n : ℕ). n == 93 || n == 94) number

  isnt : (k : ℕ) → (95 == k) ≡ false → (number_of p.regs == k) ≡ false
  isnt k other = ap (λ (n : ℕ). n == k) number ∙ other

  -- with a list of those that have ended
  given_here : (ended : List Ended) (value : ℕ) (got : List GotRange) → Keeps ys (answered (record w { ended = ended }) a (gives a value got w.rest))
  given_here ended value got =
      let v : World = record w { ended = ended } in
      let fine = ended_sound w ended sound in
      let same = ended_right ys w ended right in
      keeps_answered ys v fine same p s lives ready has is bytes reads (gives a value got w.rest)
      (follows_same v p (below ys v fine same p s lives ready has) s.space bytes stays (isnt 215 refl) (isnt 222 refl) (isnt 220 refl) (isnt 221 refl) (gives a value got w.rest)
      (record { maps = refl; bytes = refl })) refl

  refused_here : (e : Errno) → Keeps ys (answered w a (refuses a e))
  refused_here e =
      keeps_answered ys w sound right p s lives ready has is bytes reads (refuses a e)
      (follows_refused w p (below ys w sound right p s lives ready has) s.space bytes stays e) refl

  keeps_reaped : (who : Who) (r : Result Waited Errno) → Keeps ys (reaped w a who r)
  keeps_reaped who (Ok (Child child how)) = given_here (without_first p.pid who w.ended) 0 (info_at (arg a 2) (child_info child how))
  keeps_reaped who (Ok NoneYet) = given_here w.ended 0 (info_at (arg a 2) no_info)
  keeps_reaped who (Ok Waits) = keeps_waited ys w sound right p s lives ready has is bytes reads (Waiting who)
  keeps_reaped who (Err e) = refused_here e

  pub keeps_waitid : Keeps ys (waitid w a)
  unfolding waitid
  keeps_waitid = by (waitid_fault a)
    where
      by : (o : Option Errno) → Keeps ys (waitid_behind w a o)
      by (Some e) = refused_here e
      by None = keeps_reaped (who_of a) (told_in w a)
