-- What holds of the world behind each change that an event makes holds behind every event over one memory.
use Rattle.std.proofs.Common.{◌≡◌, ℕ, Bool, true, false, List, [], Option, Some, None, Result, Ok, Err, refl}
use Rattle.std.specs.Prelude.{◌==◌, if◌then◌else◌}
use Rattle.byte_words.specs.ByteMap.{Bytes}
use Rattle.byte_words.specs.declared.access.Access.{Access}
use Rattle.rv32im_step.specs.Meaning.{Meaning, next, call, trap, refused}
use Rattle.call_log.specs.declared.errno.Errno.{Errno}
use Rattle.call_log.specs.Errno.{refusal}
use Rattle.call_log.specs.Notes.{GotRange, stray_note}
use Rattle.call_log.specs.Sent.{Span, sent}
use Rattle.mmap_rules.specs.Space.{Space}
use Rattle.vfork_exec.specs.declared.family.Who.{Who}
use Rattle.vfork_exec.specs.declared.family.State.{State}
use Rattle.vfork_exec.specs.declared.family.State.TheVariants.{Waiting}
use Rattle.vfork_exec.specs.declared.family.Ended.{Ended}
use Rattle.vfork_exec.specs.declared.family.Waited.{Waited}
use Rattle.vfork_exec.specs.declared.family.Waited.TheVariants.{Child, NoneYet, Waits}
use Rattle.vfork_exec.specs.Keyed.{find}
use Rattle.vfork_exec.specs.Families.{without_first}
use Rattle.flat_loader.specs.Alone.{number_of, args_of, put_got}
use Rattle.machine_world.specs.World.{Process, LiveSpace, Rest, World, pid_of, id_of}
use Rattle.machine_world.specs.Asks.{Ask, Reply, Row, replies, waits, arg, gives, refuses}
use Rattle.machine_world.specs.FamilyCalls.{who_of, waitid_fault, child_info, no_info, info_at}
use Rattle.machine_world.specs.Rows.{row}
use Rattle.machine_world.specs.Event.{Outcome, went, strays, full, idle, noted, trapped, room_for, served, waited, told_in, ask_of, classed, awake}
use Rattle.machine_world.proofs.EachChange.{Answers}
use Rattle.machine_world.proofs.ByEvents.{Keeps, Answered, Happened, by_classed}
use Rattle.memory_world.specs.Physical.{Physical, in_memory, showing, laid_behind, After, after, no_room, nobody, carried, settled_in, outside, killed, put_in, answered_in, full_at, reaped_in, waitid_behind_in, waitid_in, writes_nothing, classed_in, asked_in, answer_in, effect_in, in_space_in, by_process_in, at_process_in, next_meaning, carried_out, first_stray_in, with_stray, event_in}
use Rattle.memory_world.specs.After.{AfterHas}

after_if : (P : World → Type 0) (test : Bool) (x y : After) → AfterHas P x → AfterHas P y → AfterHas P (if test then x else y)
after_if P true x y hx hy = hx
after_if P false x y hx hy = hy

keeps_test : (P : World → Type 0) (test : Bool) (o : Outcome) → (test ≡ true → Keeps P o) → Keeps P (if test then o else full)
keeps_test P true o h = h refl
keeps_test P false o h = tt

-- what each change keeps: P of the world, Q of what a row leaves outside of the space, in the world of its call
pub record Steady (P : World → Type 0) (Q : World → Rest → Type 0) : Type 0 where
  pub wakes : (now : World) → P now → P (awake now)
  pub shows : (memory : Bytes) (now : World) → P now → P (showing memory now)
  pub strays : (pid : ℕ) (seen : Access) (now : World) → P now → P (noted (stray_note pid seen) now)
  pub reaps : (ended : List Ended) (now : World) → P now → P (record now { ended = ended })
  pub acts : (w : World) (q : Process) (s : Space) → P w → Happened (λ now t. P now) (Q w) w q s
  pub rests : (w : World) → P w → Q w w.rest
  pub rows : (w : World) (q : Process) (s : Space) (bytes : List ℕ) → P w → Answers (Q w) (row (ask_of w q s bytes))

module _ (P : World → Type 0) (Q : World → Rest → Type 0) (steady : Steady P Q) where
  by_carried : (p : Physical) (memory : Bytes) (o : Outcome) → P p.world → Keeps P o → AfterHas P (carried p memory o)
  by_carried p memory (went now t) h kept = steady.shows (laid_behind p memory now t) now kept
  by_carried p memory (strays access) h kept = tt
  by_carried p memory full h kept = h
  by_carried p memory idle h kept = tt

  by_settled_in : (a : After) → AfterHas P a → AfterHas P (settled_in a)
  by_settled_in (after now over) h = steady.wakes now.world h
  by_settled_in (no_room now) h = h
  by_settled_in nobody h = tt

  by_full_at : (p : Physical) (a : After) → P p.world → AfterHas P a → AfterHas P (full_at p a)
  by_full_at p (after now over) h kept = kept
  by_full_at p (no_room now) h kept = h
  by_full_at p nobody h kept = tt

  by_trapped : (w : World) (q : Process) (s : Space) (signal : ℕ) → P w → Keeps P (trapped w q signal)
  unfolding trapped
  by_trapped w q s signal h = (steady.acts w q s h).trap signal

  by_killed : (p : Physical) (q : Process) (s : Space) (signal : ℕ) → P p.world → AfterHas P (killed p q signal)
  by_killed p q s signal h = by_carried p p.memory (trapped p.world q signal) h (by_trapped p.world q s signal h)

  -- ---- a call

  module _ (w : World) (q : Process) (s : Space) (bytes : List ℕ) (begun : P w) where
    abbrev the_ask : Ask
    the_ask = ask_of w q s bytes

    each : Answered (λ now t. P now) (Q w) w the_ask
    each = (steady.acts w q s begun).calls bytes

    by_served : (ended : List Ended) (r : Reply) (m : Bytes) → Q w r.rest → Keeps P (served (record w { ended = ended }) the_ask r m)
    unfolding served
    by_served ended r m holds = keeps_test P (room_for w the_ask r) (went _ _) (λ room. each.reply ended r m holds room)

    by_waited : (ended : List Ended) (state : State) → Keeps P (waited w q state)
    unfolding waited
    by_waited ended state = each.wait state

    -- of the same world, or of one that was told of a child that ended
    module _ (p : Physical) (ended : List Ended) (is : p.world ≡ record w { ended = ended }) (h : P p.world) where
      by_put_in : (r : Reply) (o : Result Bytes Span) → Q w r.rest → AfterHas P (put_in p the_ask r o)
      by_put_in r (Ok memory) holds = by_carried p memory (served p.world the_ask r r.space.bytes) h (rw is (by_served ended r r.space.bytes holds))
      by_put_in r (Err span) holds = by_killed p q s outside h

      by_gives_in : (value : ℕ) (got : List GotRange) → AfterHas P (answered_in p the_ask (gives the_ask value got w.rest))
      by_gives_in value got =
          by_put_in (record { value = value; got = got; rest = w.rest; space = s; over = false }) (put_got p.memory (in_memory p.world) got) (steady.rests w begun)

    module _ (p : Physical) (is : p.world ≡ w) where
      holds_in : P p.world
      holds_in = rw is begun

      by_refuses_in : (errno : Errno) → AfterHas P (answered_in p the_ask (refuses the_ask errno))
      by_refuses_in errno = by_gives_in p w.ended is holds_in (refusal errno) []

      by_waited_in : (state : State) → AfterHas P (carried p p.memory (waited p.world q state))
      by_waited_in state = by_carried p p.memory (waited p.world q state) holds_in (rw is (by_waited w.ended state))

      by_answered_in : (r : Row) → Answers (Q w) r → AfterHas P (answered_in p the_ask r)
      by_answered_in (replies r) holds = by_put_in p w.ended is holds_in r (put_got p.memory (in_memory p.world) r.got) holds
      by_answered_in (waits state) holds = by_waited_in state

      by_reaped_in : (who : Who) (o : Result Waited Errno) → AfterHas P (reaped_in p the_ask who o)
      by_reaped_in who (Ok (Child pid how)) =
          let ended : List Ended = without_first q.pid who p.world.ended in
          by_full_at p _ holds_in
          (by_gives_in (record p { world = record p.world { ended = ended } }) ended (rw is refl) (steady.reaps ended p.world holds_in) 0 (info_at (arg the_ask 2) (child_info pid how)))
      by_reaped_in who (Ok NoneYet) = by_gives_in p w.ended is holds_in 0 (info_at (arg the_ask 2) no_info)
      by_reaped_in who (Ok Waits) = by_waited_in (Waiting who)
      by_reaped_in who (Err errno) = by_refuses_in errno

      by_fault_in : (fault : Option Errno) → AfterHas P (waitid_behind_in p the_ask fault)
      by_fault_in (Some errno) = by_refuses_in errno
      by_fault_in None = by_reaped_in (who_of the_ask) (told_in p.world the_ask)

      by_waitid_in : AfterHas P (waitid_in p the_ask)
      unfolding waitid_in
      by_waitid_in = by_fault_in (waitid_fault the_ask)

      by_classed_in : AfterHas P (classed_in p the_ask)
      by_classed_in =
          after_if P (writes_nothing (number_of q.regs)) (carried p p.memory (classed p.world the_ask)) _
          (by_carried p p.memory (classed p.world the_ask) holds_in
          (rw is (by_classed (λ now t. P now) (Q w) w the_ask each (steady.rests w begun) (steady.rows w q s bytes begun))))
          (after_if P (number_of q.regs == 95) (waitid_in p the_ask) (answered_in p the_ask (row the_ask)) by_waitid_in
          (by_answered_in (row the_ask) (steady.rows w q s bytes begun)))

  by_asked_in : (p : Physical) (q : Process) (s : Space) (o : Result (List ℕ) Span) → P p.world → AfterHas P (asked_in p q s o)
  by_asked_in p q s (Ok bytes) h = by_classed_in p.world q s bytes h p refl
  by_asked_in p q s (Err span) h = by_killed p q s outside h

  pub by_answer_in : (p : Physical) (q : Process) (s : Space) → P p.world → AfterHas P (answer_in p q s)
  unfolding answer_in
  by_answer_in p q s h = by_asked_in p q s (sent (number_of q.regs) (args_of q.regs) p.memory) h

  -- ---- an event

  pub by_effect_in : (p : Physical) (q : Process) (s : Space) (m : Meaning) → P p.world → AfterHas P (effect_in p q s m)
  by_effect_in p q s (next regs memory) h = steady.shows memory _ ((steady.acts p.world q s h).step regs s.bytes)
  by_effect_in p q s call h = by_settled_in (answer_in p q s) (by_answer_in p q s h)
  by_effect_in p q s (trap signal) h = by_settled_in (killed p q signal) (by_killed p q s signal h)
  by_effect_in p q s (refused access) h = by_settled_in (killed p q outside) (by_killed p q s outside h)

  by_space_in : (p : Physical) (act : Process → Space → After) → ((q : Process) (s : Space) → AfterHas P (act q s)) → (q : Process) (o : Option LiveSpace) → AfterHas P (in_space_in act q o)
  by_space_in p act acts q None = tt
  by_space_in p act acts q (Some s) = acts q s.space

  by_found_in : (p : Physical) (act : Process → Space → After) → ((q : Process) (s : Space) → AfterHas P (act q s)) → (o : Option Process) → AfterHas P (by_process_in p.world.spaces act o)
  by_found_in p act acts None = tt
  by_found_in p act acts (Some q) = by_space_in p act acts q (find id_of q.space p.world.spaces)

  by_act_in : (p : Physical) (pid : ℕ) (act : Process → Space → After) → ((q : Process) (s : Space) → AfterHas P (act q s)) → AfterHas P (at_process_in p pid act)
  unfolding at_process_in
  by_act_in p pid act acts = by_found_in p act acts (find pid_of pid p.world.procs)

  by_stray_in : (p : Physical) (pid : ℕ) (o : Option Access) → P p.world → P (with_stray pid o p).world
  by_stray_in p pid None h = h
  by_stray_in p pid (Some access) h = steady.strays pid access p.world h

  pub by_event_in : (p : Physical) (pid : ℕ) → P p.world → AfterHas P (event_in p pid)
  unfolding event_in carried_out
  by_event_in p pid h =
      let now : Physical = with_stray pid (first_stray_in p pid) p in
      by_act_in now pid (λ q s. effect_in now q s (next_meaning now q)) (λ q s. by_effect_in now q s (next_meaning now q) (by_stray_in p pid (first_stray_in p pid) h))
