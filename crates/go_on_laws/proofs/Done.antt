-- Over one memory every event of a process that lives in a live space is made, or the log has no room.
use Rattle.std.proofs.Common.{◌≡◌, ℕ, Bool, true, false, List, [], Option, Some, None, Result, Ok, Err, sym, ap, subst}
use Rattle.std.specs.Prelude.{◌==◌, ◌||◌, not, if◌then◌else◌}
use Rattle.std.proofs.lemmas.Bool.{eqb-true}
use Rattle.byte_words.specs.ByteMap.{Bytes}
use Rattle.rv32im_step.specs.Meaning.{Meaning, next, call, trap, refused}
use Rattle.call_log.specs.declared.errno.Errno.{Errno}
use Rattle.call_log.specs.declared.errno.Errno.TheVariants.{E2big, Eagain, Enomem, Einval, Enametoolong}
use Rattle.call_log.specs.Notes.{weight_of}
use Rattle.call_log.specs.Strings.{ProgramStrings, program_strings}
use Rattle.call_log.specs.Sent.{Span, has_zero, sent}
use Rattle.mmap_rules.specs.Space.{Space}
use Rattle.flat_loader.specs.Original.{block_pages}
use Rattle.flat_loader.specs.Frame.{frame_fits}
use Rattle.vfork_exec.specs.declared.family.Who.{Who}
use Rattle.vfork_exec.specs.declared.family.State.{State}
use Rattle.vfork_exec.specs.declared.family.State.TheVariants.{Waiting}
use Rattle.vfork_exec.specs.declared.family.Waited.{Waited}
use Rattle.vfork_exec.specs.declared.family.Waited.TheVariants.{Child, NoneYet, Waits}
use Rattle.vfork_exec.specs.Keyed.{find}
use Rattle.vfork_exec.specs.Families.{without_first}
use Rattle.flat_loader.specs.Alone.{put_got}
use Rattle.machine_world.specs.World.{Process, LiveSpace, World, pid_of, id_of}
use Rattle.machine_world.specs.Families.{is_full}
use Rattle.machine_world.specs.FamilyCalls.{who_of, waitid_fault, child_info, no_info, info_at, vfork_flags, runs}
use Rattle.machine_world.specs.Free.{free}
use Rattle.machine_world.specs.Found.{Found, taken}
use Rattle.machine_world.specs.Asks.{Ask, Reply, Row, replies, waits, arg, gives, refuses}
use Rattle.machine_world.specs.PathCalls.{path_of}
use Rattle.machine_world.specs.Rows.{row}
use Rattle.machine_world.specs.Recordings.{room_in}
use Rattle.machine_world.specs.Event.{Outcome, went, strays, full, idle, number_of, args_of, ask_of, trapped, room_for, served, waited, answered, exited, is_exit, waitid, told_in, forked, cloned, executed, exec_at, exec_program, exec_strings, exec, classed}
use Rattle.memory_world.specs.Physical.{Physical, in_memory, After, after, no_room, nobody, carried, settled_in, killed, put_in, answered_in, full_at, reaped_in, waitid_behind_in, waitid_in, writes_nothing, classed_in, asked_in, answer_in, effect_in, next_meaning, carried_out}
use Rattle.memory_world.proofs.Moves.{carried_is}

-- it is made in the world of private spaces, or over one memory
abbrev Happens : Outcome → Type 0
Happens (went now t) = Unit {0}
Happens (strays access) = ⊥
Happens full = Unit {0}
Happens idle = ⊥

abbrev pub Done : After → Type 0
Done (after now over) = Unit {0}
Done (no_room now) = Unit {0}
Done nobody = ⊥

happens_if : (test : Bool) (x y : Outcome) → Happens x → Happens y → Happens (if test then x else y)
happens_if true x y hx hy = hx
happens_if false x y hx hy = hy

done_if : (test : Bool) (x y : After) → (test ≡ true → Done x) → Done y → Done (if test then x else y)
done_if true x y hx hy = hx (λ i. true)
done_if false x y hx hy = hy

done_carried : (p : Physical) (memory : Bytes) (o : Outcome) → Happens o → Done (carried p memory o)
done_carried p memory (went now t) h = tt
done_carried p memory (strays access) h = h
done_carried p memory full h = tt
done_carried p memory idle h = h

done_settled : (a : After) → Done a → Done (settled_in a)
done_settled (after now over) h = tt
done_settled (no_room now) h = tt
done_settled nobody h = h

done_at : (p : Physical) (a : After) → Done a → Done (full_at p a)
done_at p (after now over) h = tt
done_at p (no_room now) h = tt
done_at p nobody h = h

-- ---- in the world of private spaces

module _ (w : World) (a : Ask) where
  served_happens : (r : Reply) (bytes : Bytes) → Happens (served w a r bytes)
  unfolding served
  served_happens r bytes = happens_if (room_for w a r) (went _ _) full tt tt

  refused_happens : (errno : Errno) → Happens (answered w a (refuses a errno))
  refused_happens errno = served_happens _ a.space.bytes

  exited_happens : Happens (exited w a)
  unfolding exited
  exited_happens = happens_if (room_in w (weight_of a.sent [])) (went _ _) full tt tt

  forked_happens : Happens (forked w a)
  unfolding forked
  forked_happens = happens_if (room_in w (weight_of a.sent [])) (went _ _) full tt tt

  cloned_happens : Happens (cloned w a)
  unfolding cloned
  cloned_happens =
      happens_if (not (arg a 0 == vfork_flags)) (answered w a (refuses a Einval)) _ (refused_happens Einval)
      (happens_if (is_full w) (answered w a (refuses a Eagain)) (forked w a) (refused_happens Eagain) forked_happens)

  at_happens : (f : Found) (s : ProgramStrings) (page : Option ℕ) → Happens (exec_at w a f s page)
  unfolding executed
  at_happens f s None = refused_happens Enomem
  at_happens f s (Some page) = happens_if (room_in w (weight_of a.sent [])) (went _ _) full tt tt

  program_happens : (s : ProgramStrings) (o : Result Found Errno) → Happens (exec_program w a s o)
  program_happens s (Ok f) =
      happens_if (frame_fits f.original s.args s.env) (exec_at w a f s (taken w (block_pages f.original) (free w))) (answered w a (refuses a E2big))
      (at_happens f s (taken w (block_pages f.original) (free w))) (refused_happens E2big)
  program_happens s (Err errno) = refused_happens errno

  strings_happens : (o : Option ProgramStrings) → Happens (exec_strings w a o)
  strings_happens (Some s) = program_happens s (runs w.rest (path_of a))
  strings_happens None = refused_happens E2big

  exec_happens : Happens (exec w a)
  unfolding exec
  exec_happens =
      happens_if (has_zero a.sent) (exec_strings w a (program_strings a.sent (arg a 1) (arg a 2))) (answered w a (refuses a Enametoolong))
      (strings_happens (program_strings a.sent (arg a 1) (arg a 2))) (refused_happens Enametoolong)

  -- those that write nothing
  by_classes : (x y z u : Bool) (e v c l r : Outcome) → (y ≡ true → (z || u) ≡ false) → Happens e → Happens c → Happens l → (x || z || u) ≡ true
      → Happens (if x then e else if y then v else if z then c else if u then l else r)
  by_classes true y z u e v c l r apart he hc hl is = he
  by_classes false true true u e v c l r apart he hc hl is = absurd (let no = apart (λ i. true) in cc)
  by_classes false true false true e v c l r apart he hc hl is = absurd (let no = apart (λ i. true) in cc)
  by_classes false true false false e v c l r apart he hc hl is = absurd cc
  by_classes false false true u e v c l r apart he hc hl is = hc
  by_classes false false false true e v c l r apart he hc hl is = hl
  by_classes false false false false e v c l r apart he hc hl is = absurd cc

  classed_happens : writes_nothing a.number ≡ true → Happens (classed w a)
  classed_happens is =
      by_classes (is_exit a.number) (a.number == 95) (a.number == 220) (a.number == 221) (exited w a) (waitid w a) (cloned w a) (exec w a) (answered w a (row a))
      (λ at. ap (λ (n : ℕ). n == 220 || n == 221) (eqb-true a.number 95 at)) exited_happens cloned_happens exec_happens is

trapped_happens : (w : World) (q : Process) (signal : ℕ) → Happens (trapped w q signal)
unfolding trapped
trapped_happens w q signal = tt

waited_happens : (w : World) (q : Process) (state : State) → Happens (waited w q state)
unfolding waited
waited_happens w q state = tt

-- ---- over one memory

done_killed : (p : Physical) (q : Process) (signal : ℕ) → Done (killed p q signal)
done_killed p q signal = done_carried p p.memory (trapped p.world q signal) (trapped_happens p.world q signal)

done_put : (p : Physical) (a : Ask) (r : Reply) (o : Result Bytes Span) → Done (put_in p a r o)
done_put p a r (Ok memory) = done_carried p memory (served p.world a r r.space.bytes) (served_happens p.world a r r.space.bytes)
done_put p a r (Err span) = done_killed p a.process _

done_answered : (p : Physical) (a : Ask) (r : Row) → Done (answered_in p a r)
done_answered p a (replies r) = done_put p a r (put_got p.memory (in_memory p.world) r.got)
done_answered p a (waits state) = done_carried p p.memory (waited p.world a.process state) (waited_happens p.world a.process state)

done_reaped : (p : Physical) (a : Ask) (who : Who) (o : Result Waited Errno) → Done (reaped_in p a who o)
done_reaped p a who (Ok (Child pid how)) =
    done_at p _
    (done_answered (record p { world = record p.world { ended = without_first a.process.pid who p.world.ended } }) a (gives a 0 (info_at (arg a 2) (child_info pid how)) a.rest))
done_reaped p a who (Ok NoneYet) = done_answered p a (gives a 0 (info_at (arg a 2) no_info) a.rest)
done_reaped p a who (Ok Waits) = done_carried p p.memory (waited p.world a.process (Waiting who)) (waited_happens p.world a.process (Waiting who))
done_reaped p a who (Err errno) = done_answered p a (refuses a errno)

done_fault : (p : Physical) (a : Ask) (fault : Option Errno) → Done (waitid_behind_in p a fault)
done_fault p a (Some errno) = done_answered p a (refuses a errno)
done_fault p a None = done_reaped p a (who_of a) (told_in p.world a)

done_waitid : (p : Physical) (a : Ask) → Done (waitid_in p a)
unfolding waitid_in
done_waitid p a = done_fault p a (waitid_fault a)

done_classed : (p : Physical) (a : Ask) → Done (classed_in p a)
done_classed p a =
    done_if (writes_nothing a.number) (carried p p.memory (classed p.world a)) _ (λ is. done_carried p p.memory (classed p.world a) (classed_happens p.world a is))
    (done_if (a.number == 95) (waitid_in p a) (answered_in p a (row a)) (λ is. done_waitid p a) (done_answered p a (row a)))

done_asked : (p : Physical) (q : Process) (s : Space) (o : Result (List ℕ) Span) → Done (asked_in p q s o)
done_asked p q s (Ok bytes) = done_classed p (ask_of p.world q s bytes)
done_asked p q s (Err span) = done_killed p q _

done_answer : (p : Physical) (q : Process) (s : Space) → Done (answer_in p q s)
unfolding answer_in
done_answer p q s = done_asked p q s (sent (number_of q.regs) (args_of q.regs) p.memory)

done_effect : (p : Physical) (q : Process) (s : Space) (m : Meaning) → Done (effect_in p q s m)
done_effect p q s (next regs memory) = tt
done_effect p q s call = done_settled (answer_in p q s) (done_answer p q s)
done_effect p q s (trap signal) = done_settled (killed p q signal) (done_killed p q signal)
done_effect p q s (refused access) = done_settled (killed p q _) (done_killed p q _)

pub done_carried_out : (p : Physical) (pid : ℕ) (q : Process) (s : LiveSpace) → find pid_of pid p.world.procs ≡ Some q → find id_of q.space p.world.spaces ≡ Some s → Done (carried_out p pid)
done_carried_out p pid q s lives has = subst Done (sym (carried_is p pid q s lives has)) (done_effect p q s.space (next_meaning p q))
