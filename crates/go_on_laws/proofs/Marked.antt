-- Over one memory no pipe is marked between two events.
use Rattle.std.proofs.Common.{ℕ, Bool, true, false, List, Option, Some, None, Result, Ok, Err, refl}
use Rattle.std.specs.Prelude.{◌==◌, if◌then◌else◌}
use Rattle.byte_words.specs.ByteMap.{Bytes}
use Rattle.byte_words.specs.declared.access.Access.{Access}
use Rattle.rv32im_step.specs.Meaning.{Meaning, next, call, trap, refused}
use Rattle.call_log.specs.declared.errno.Errno.{Errno}
use Rattle.call_log.specs.Sent.{Span, sent}
use Rattle.vfork_exec.specs.declared.family.Who.{Who}
use Rattle.vfork_exec.specs.declared.family.State.TheVariants.{Waiting}
use Rattle.vfork_exec.specs.declared.family.Waited.{Waited}
use Rattle.vfork_exec.specs.declared.family.Waited.TheVariants.{Child, NoneYet, Waits}
use Rattle.vfork_exec.specs.Keyed.{find}
use Rattle.mmap_rules.specs.Space.{Space}
use Rattle.flat_loader.specs.Alone.{number_of, args_of, put_got}
use Rattle.machine_world.specs.World.{Process, LiveSpace, pid_of, id_of}
use Rattle.machine_world.specs.Asks.{Ask, Reply, Row, replies, waits, arg, gives, refuses}
use Rattle.machine_world.specs.FamilyCalls.{who_of, waitid_fault, no_info, info_at}
use Rattle.machine_world.specs.Rows.{row}
use Rattle.machine_world.specs.Event.{Outcome, went, strays, full, idle, trapped, served, waited, told_in, ask_of, classed}
use Rattle.memory_world.specs.Physical.{Physical, in_memory, After, after, no_room, nobody, carried, settled_in, outside, killed, put_in, answered_in, full_at, reaped_in, waitid_behind_in, waitid_in, writes_nothing, classed_in, asked_in, answer_in, effect_in, in_space_in, by_process_in, at_process_in, next_meaning, carried_out, first_stray_in, with_stray, event_in, opening_in}
use Rattle.memory_world.specs.After.{AfterHas}
use Rattle.memory_world.proofs.ByTurnsIn.{by_turn_in, by_run_in}
use Rattle.go_on_laws.specs.Marks.{HasNoMark, OpeningsHaveNoMark, EventsHaveNoMark, TurnsHaveNoMark, RunsHaveNoMark}

pub openings_have_no_mark : OpeningsHaveNoMark
unfolding opening_in
openings_have_no_mark headers w unmarked = unmarked

-- ---- where the log has no room no pipe was marked before

abbrev IfFull : After → Type 0
IfFull (after now over) = Unit {0}
IfFull (no_room now) = HasNoMark now.world
IfFull nobody = Unit {0}

full_if : (test : Bool) (x y : After) → IfFull x → IfFull y → IfFull (if test then x else y)
full_if true x y hx hy = hx
full_if false x y hx hy = hy

-- settling clears all marks
marks_settled_in : (a : After) → IfFull a → AfterHas HasNoMark (settled_in a)
marks_settled_in (after now over) found = refl
marks_settled_in (no_room now) found = found
marks_settled_in nobody found = tt

module _ (p : Physical) (unmarked : HasNoMark p.world) where
  full_carried : (memory : Bytes) (o : Outcome) → IfFull (carried p memory o)
  full_carried memory (went now t) = tt
  full_carried memory (strays access) = tt
  full_carried memory full = unmarked
  full_carried memory idle = tt

  full_killed : (q : Process) (signal : ℕ) → IfFull (killed p q signal)
  full_killed q signal = full_carried p.memory (trapped p.world q signal)

  full_found : (a : After) → IfFull (full_at p a)
  full_found (after now over) = tt
  full_found (no_room now) = unmarked
  full_found nobody = tt

  module _ (a : Ask) where
    full_put : (r : Reply) (o : Result Bytes Span) → IfFull (put_in p a r o)
    full_put r (Ok memory) = full_carried memory (served p.world a r r.space.bytes)
    full_put r (Err span) = full_killed a.process outside

    full_answered : (r : Row) → IfFull (answered_in p a r)
    full_answered (replies r) = full_put r (put_got p.memory (in_memory p.world) r.got)
    full_answered (waits state) = full_carried p.memory (waited p.world a.process state)

    full_reaped : (who : Who) (o : Result Waited Errno) → IfFull (reaped_in p a who o)
    full_reaped who (Ok (Child pid how)) = full_found _
    full_reaped who (Ok NoneYet) = full_answered (gives a 0 (info_at (arg a 2) no_info) a.rest)
    full_reaped who (Ok Waits) = full_carried p.memory (waited p.world a.process (Waiting who))
    full_reaped who (Err errno) = full_answered (refuses a errno)

    full_fault : (fault : Option Errno) → IfFull (waitid_behind_in p a fault)
    full_fault (Some errno) = full_answered (refuses a errno)
    full_fault None = full_reaped (who_of a) (told_in p.world a)

    full_waitid : IfFull (waitid_in p a)
    unfolding waitid_in
    full_waitid = full_fault (waitid_fault a)

    full_classed : IfFull (classed_in p a)
    full_classed =
        full_if (writes_nothing a.number) (carried p p.memory (classed p.world a)) _ (full_carried p.memory (classed p.world a))
        (full_if (a.number == 95) (waitid_in p a) (answered_in p a (row a)) full_waitid (full_answered (row a)))

  full_asked : (q : Process) (s : Space) (o : Result (List ℕ) Span) → IfFull (asked_in p q s o)
  full_asked q s (Ok bytes) = full_classed (ask_of p.world q s bytes)
  full_asked q s (Err span) = full_killed q outside

  full_answer : (q : Process) (s : Space) → IfFull (answer_in p q s)
  unfolding answer_in
  full_answer q s = full_asked q s (sent (number_of q.regs) (args_of q.regs) p.memory)

  -- ---- an event

  marks_effect_in : (q : Process) (s : Space) (m : Meaning) → AfterHas HasNoMark (effect_in p q s m)
  marks_effect_in q s (next regs memory) = unmarked
  marks_effect_in q s call = marks_settled_in (answer_in p q s) (full_answer q s)
  marks_effect_in q s (trap signal) = marks_settled_in (killed p q signal) (full_killed q signal)
  marks_effect_in q s (refused access) = marks_settled_in (killed p q outside) (full_killed q outside)

  marks_space_in : (q : Process) (o : Option LiveSpace) → AfterHas HasNoMark (in_space_in (λ r s. effect_in p r s (next_meaning p r)) q o)
  marks_space_in q None = tt
  marks_space_in q (Some s) = marks_effect_in q s.space (next_meaning p q)

  marks_process_in : (o : Option Process) → AfterHas HasNoMark (by_process_in p.world.spaces (λ q s. effect_in p q s (next_meaning p q)) o)
  marks_process_in None = tt
  marks_process_in (Some q) = marks_space_in q (find id_of q.space p.world.spaces)

  marks_carried_out : (pid : ℕ) → AfterHas HasNoMark (carried_out p pid)
  unfolding carried_out at_process_in
  marks_carried_out pid = marks_process_in (find pid_of pid p.world.procs)

-- the note of a stray access marks none
marks_stray_in : (p : Physical) (pid : ℕ) (o : Option Access) → HasNoMark p.world → HasNoMark (with_stray pid o p).world
marks_stray_in p pid None unmarked = unmarked
marks_stray_in p pid (Some access) unmarked = unmarked

pub events_have_no_mark : EventsHaveNoMark
unfolding event_in
events_have_no_mark p pid unmarked = marks_carried_out (with_stray pid (first_stray_in p pid) p) (marks_stray_in p pid (first_stray_in p pid) unmarked) pid

-- ---- turns and runs

pub turns_have_no_mark : TurnsHaveNoMark
turns_have_no_mark = by_turn_in (λ p. HasNoMark p.world) events_have_no_mark

pub runs_have_no_mark : RunsHaveNoMark
runs_have_no_mark = by_run_in (λ p. HasNoMark p.world) events_have_no_mark
