-- Ends, children and waits, and calls that leave the world to a reply alone.
use Rattle.std.proofs.Common.{◌≡◌, ℕ, false, List, [], Option, Some, None, Result, Ok, Err, refl, ap}
use Rattle.std.specs.Prelude.{◌==◌, not}
use Rattle.call_log.specs.declared.errno.Errno.{Errno}
use Rattle.call_log.specs.declared.errno.Errno.TheVariants.{Eagain, Einval}
use Rattle.call_log.specs.Errno.{refusal}
use Rattle.call_log.specs.Notes.{weight_of}
use Rattle.vfork_exec.specs.declared.family.Who.{Who}
use Rattle.vfork_exec.specs.declared.family.State.{State}
use Rattle.vfork_exec.specs.declared.family.State.TheVariants.{Waiting}
use Rattle.vfork_exec.specs.declared.family.Ended.{Ended}
use Rattle.vfork_exec.specs.declared.family.Waited.{Waited}
use Rattle.vfork_exec.specs.declared.family.Waited.TheVariants.{Child, NoneYet, Waits}
use Rattle.vfork_exec.specs.Keyed.{find}
use Rattle.vfork_exec.specs.Families.{without_first}
use Rattle.machine_world.specs.World.{Process, LiveSpace, id_of}
use Rattle.machine_world.specs.Families.{spaces_left, is_full}
use Rattle.machine_world.specs.Asks.{Ask, Reply, arg, refuses}
use Rattle.machine_world.specs.FamilyCalls.{who_of, waitid_fault, child_info, no_info, info_at, vfork_flags}
use Rattle.machine_world.specs.Recordings.{room_in}
use Rattle.machine_world.specs.Event.{Outcome, went, strays, full, idle, trapped, ended, ask_of, room_for, served, waited, answered, exited, reaped, told_in, waitid_behind, waitid, forked, cloned}
use Rattle.alone_laws.specs.Sound.{IsSound}
use Rattle.alone_laws.proofs.Moved.{ended_sound}
use Rattle.alone_laws.proofs.SpacesLeft.{falls_spaces, space_was}
use Rattle.memory_world.specs.Physical.{Physical, After, carried, killed, full_at, reaped_in, waitid_behind_in, waitid_in}
use Rattle.go_on_laws.specs.Alike.{Stands}
use Rattle.go_on_laws.proofs.Behind.{Behind, Goes, goes_carried, goes_room, came_plain, is_in, behind_some, behind_same, behind_put}
use Rattle.go_on_laws.proofs.Writes.{goes_gives, goes_refuses}

module _ (p : Physical) (sound : IsSound p.world) (stands : Stands p.world p) (q : Process) where
  -- the spaces that a process leaves
  pub behind_left : Behind p.world p.world.loads (spaces_left q p.world.procs p.world.spaces) p.memory
  behind_left =
      behind_some p sound stands p.world.loads (spaces_left q p.world.procs p.world.spaces) (falls_spaces q p.world.procs p.world.spaces p.world.loads sound.numbers)
      (space_was q p.world.procs p.world.spaces)

  pub goes_trapped : (signal : ℕ) → Goes p (trapped p.world q signal) (killed p q signal)
  unfolding trapped ended
  goes_trapped signal = came_plain p _ _ refl behind_left

  pub goes_waited : (state : State) → Goes p (waited p.world q state) (carried p p.memory (waited p.world q state))
  unfolding waited
  goes_waited state = came_plain p _ _ refl (behind_same p sound stands)

  module _ (s : LiveSpace) (has : find id_of q.space p.world.spaces ≡ Some s) (bytes : List ℕ) where
    abbrev the_ask : Ask
    the_ask = ask_of p.world q s.space bytes

    pub goes_exited : Goes p (exited p.world the_ask) (carried p p.memory (exited p.world the_ask))
    unfolding exited ended
    goes_exited = goes_room p p.memory (room_in p.world (weight_of bytes [])) _ _ _ _ (came_plain p _ _ refl behind_left)

    -- a refusal of a call that writes nothing
    pub goes_refused : (errno : Errno) → Goes p (answered p.world the_ask (refuses the_ask errno)) (carried p p.memory (answered p.world the_ask (refuses the_ask errno)))
    unfolding served
    goes_refused errno =
        let r : Reply = record { value = refusal errno; got = []; rest = p.world.rest; space = s.space; over = false } in
        goes_room p p.memory (room_for p.world the_ask r) _ _ _ _
        (came_plain p _ _ refl (behind_put p sound stands q.space s has s.space (is_in p sound stands q.space s has)))

    goes_forked : Goes p (forked p.world the_ask) (carried p p.memory (forked p.world the_ask))
    unfolding forked
    goes_forked = goes_room p p.memory (room_in p.world (weight_of bytes [])) _ _ _ _ (came_plain p _ _ refl (behind_same p sound stands))

    pub goes_cloned : Goes p (cloned p.world the_ask) (carried p p.memory (cloned p.world the_ask))
    unfolding cloned
    goes_cloned =
        goes_carried p p.memory (not (arg the_ask 0 == vfork_flags)) (answered p.world the_ask (refuses the_ask Einval)) _ (goes_refused Einval)
        (goes_carried p p.memory (is_full p.world) (answered p.world the_ask (refuses the_ask Eagain)) (forked p.world the_ask) (goes_refused Eagain) goes_forked)

-- ---- a process asks for its children

-- a world with others that have ended
abbrev with_ended : Physical → List Ended → Physical
with_ended p ended = record p { world = record p.world { ended = ended } }

ended_stands : (p : Physical) (ended : List Ended) → Stands p.world p → Stands (record p.world { ended = ended }) (with_ended p ended)
ended_stands p ended h = record { world = refl; shown = h.shown; all = h.all; copies = h.copies; headers = h.headers }

-- where the log has no room nothing has changed
goes_at : (p : Physical) (ended : List Ended) (o : Outcome) (a : After) → Goes (with_ended p ended) o a → Goes p o (full_at p a)
goes_at p ended (went now t) a c = record {
  behind = c.behind;
  is = ap (full_at p) c.is;
  world = c.world;
  headers = c.headers;
  left = record { falls = c.left.falls; each = c.left.each; all = c.left.all };
}
goes_at p ended (strays access) a c = tt
goes_at p ended full a c = ap (full_at p) c
goes_at p ended idle a c = ap (full_at p) c

module _ (p : Physical) (sound : IsSound p.world) (stands : Stands p.world p) (q : Process) (s : LiveSpace) (has : find id_of q.space p.world.spaces ≡ Some s) (bytes : List ℕ) where
  goes_reaped : (who : Who) (r : Result Waited Errno) → Goes p (reaped p.world (ask_of p.world q s.space bytes) who r) (reaped_in p (ask_of p.world q s.space bytes) who r)
  goes_reaped who (Ok (Child pid how)) =
      let ended : List Ended = without_first q.pid who p.world.ended in
      goes_at p ended _ _
      (goes_gives (with_ended p ended) (ended_sound p.world ended sound) (ended_stands p ended stands) q s has bytes 0 (info_at (arg (ask_of p.world q s.space bytes) 2) (child_info pid how)))
  goes_reaped who (Ok NoneYet) = goes_gives p sound stands q s has bytes 0 (info_at (arg (ask_of p.world q s.space bytes) 2) no_info)
  goes_reaped who (Ok Waits) = goes_waited p sound stands q (Waiting who)
  goes_reaped who (Err errno) = goes_refuses p sound stands q s has bytes errno

  goes_fault : (fault : Option Errno) → Goes p (waitid_behind p.world (ask_of p.world q s.space bytes) fault) (waitid_behind_in p (ask_of p.world q s.space bytes) fault)
  goes_fault (Some errno) = goes_refuses p sound stands q s has bytes errno
  goes_fault None = goes_reaped (who_of (ask_of p.world q s.space bytes)) (told_in p.world (ask_of p.world q s.space bytes))

  pub goes_waitid : Goes p (waitid p.world (ask_of p.world q s.space bytes)) (waitid_in p (ask_of p.world q s.space bytes))
  unfolding waitid waitid_in
  goes_waitid = goes_fault (waitid_fault (ask_of p.world q s.space bytes))
