-- A process that may run is somebody to an event over one memory, and may run still while its turn isn't over.
use Rattle.std.proofs.Common.{◌≡◌, ℕ, Bool, true, false, List, [], Option, Some, None, Result, Ok, Err, refl, sym, ap, subst, ◌∙◌, arith}
use Rattle.std.specs.Prelude.{◌==◌, not, if◌then◌else◌, option_map}
use Rattle.std.proofs.lemmas.Bool.Decides.{nat_tests}
use Rattle.byte_words.specs.ByteMap.{Bytes}
use Rattle.rv32im_step.specs.declared.regs.Regs.{Regs}
use Rattle.rv32im_step.specs.Meaning.{Meaning, next, call, trap, refused}
use Rattle.call_log.specs.declared.errno.Errno.{Errno}
use Rattle.call_log.specs.declared.errno.Errno.TheVariants.{E2big, Eagain, Enomem, Einval, Enametoolong}
use Rattle.call_log.specs.Notes.{weight_of}
use Rattle.call_log.specs.Sent.{Span, has_zero, sent}
use Rattle.call_log.specs.Strings.{ProgramStrings, program_strings}
use Rattle.mmap_rules.specs.Space.{Space}
use Rattle.flat_loader.specs.Alone.{put_got}
use Rattle.flat_loader.specs.Begin.{Loading}
use Rattle.flat_loader.specs.Original.{block_pages}
use Rattle.flat_loader.specs.Frame.{frame_fits}
use Rattle.vfork_exec.specs.declared.family.Who.{Who}
use Rattle.vfork_exec.specs.declared.family.State.{State}
use Rattle.vfork_exec.specs.declared.family.State.TheVariants.{Ready, Waiting}
use Rattle.vfork_exec.specs.declared.family.Waited.{Waited}
use Rattle.vfork_exec.specs.declared.family.Waited.TheVariants.{Child, NoneYet, Waits}
use Rattle.vfork_exec.specs.Keyed.{find, change}
use Rattle.vfork_exec.specs.Families.{resumed, without_first}
use Rattle.vfork_exec.proofs.Keyed.{find_changed}
use Rattle.machine_world.specs.World.{Process, LiveSpace, World, pid_of, id_of}
use Rattle.machine_world.specs.Free.{free}
use Rattle.machine_world.specs.Found.{Found, address_of, taken}
use Rattle.machine_world.specs.Families.{MayRun, is_full}
use Rattle.machine_world.specs.Asks.{Ask, Reply, Row, replies, waits, arg, gives, refuses}
use Rattle.machine_world.specs.PathCalls.{path_of}
use Rattle.machine_world.specs.FamilyCalls.{who_of, waitid_fault, child_info, no_info, info_at, vfork_flags, runs}
use Rattle.machine_world.specs.Rows.{row}
use Rattle.machine_world.specs.Recordings.{room_in}
use Rattle.machine_world.specs.Event.{Outcome, went, strays, full, idle, number_of, args_of, replied, ask_of, trapped, room_for, served, waited, answered, is_exit, exited, forked, cloned, executed, exec_at, exec_program, exec_strings, exec, told_in, waitid, classed}
use Rattle.machine_world.proofs.States.{find_has}
use Rattle.machine_world.proofs.Awake.{may_run_awake}
use Rattle.machine_world.proofs.Chains.{find_exec_own}
use Rattle.memory_world.specs.Physical.{Physical, in_memory, After, after, no_room, nobody, carried, settled_in, outside, killed, put_in, answered_in, full_at, reaped_in, waitid_behind_in, waitid_in, writes_nothing, classed_in, asked_in, answer_in, effect_in, next_meaning, carried_out}
use Rattle.memory_world.proofs.Moves.{carried_is}

-- ---- what each act leaves

-- of an outcome, which neither strays nor finds nobody
abbrev StillOf : ℕ → Outcome → Type 0
StillOf pid (went now t) = t.over ≡ false → MayRun now pid
StillOf pid (strays access) = ⊥
StillOf pid full = Unit {0}
StillOf pid idle = ⊥

abbrev pub StillIn : ℕ → After → Type 0
StillIn pid (after now over) = over ≡ false → MayRun now.world pid
StillIn pid (no_room now) = Unit {0}
StillIn pid nobody = ⊥

of_test : (pid : ℕ) (test : Bool) (x y : Outcome) → (test ≡ true → StillOf pid x) → (test ≡ false → StillOf pid y) → StillOf pid (if test then x else y)
of_test pid true x y hx hy = hx refl
of_test pid false x y hx hy = hy refl

in_test : (pid : ℕ) (test : Bool) (x y : After) → (test ≡ true → StillIn pid x) → (test ≡ false → StillIn pid y) → StillIn pid (if test then x else y)
in_test pid true x y hx hy = hx refl
in_test pid false x y hx hy = hy refl

still_carried : (pid : ℕ) (p : Physical) (memory : Bytes) (o : Outcome) → StillOf pid o → StillIn pid (carried p memory o)
still_carried pid p memory (went now t) h = h
still_carried pid p memory (strays access) h = absurd h
still_carried pid p memory full h = tt
still_carried pid p memory idle h = absurd h

still_full : (pid : ℕ) (p : Physical) (a : After) → StillIn pid a → StillIn pid (full_at p a)
still_full pid p (after now over) h = h
still_full pid p (no_room now) h = tt
still_full pid p nobody h = absurd h

still_settled : (pid : ℕ) (a : After) → StillIn pid a → StillIn pid (settled_in a)
still_settled pid (after now over) h = λ more. may_run_awake now.world pid (h more)
still_settled pid (no_room now) h = tt
still_settled pid nobody h = absurd h

-- registers that change leave its state
still_moved : (procs : List Process) (q : Process) (regs : Regs) → find pid_of q.pid procs ≡ Some q → q.state ≡ Ready
    → option_map (λ o. o.state) (find pid_of q.pid (change pid_of q.pid (λ o. record o { regs = regs }) procs)) ≡ Some Ready
still_moved procs q regs lives ready =
    let at : Process → Process = λ o. record o { regs = regs } in
    ap (option_map (λ o. o.state)) (find_changed pid_of q.pid at (λ o. refl) procs ∙ ap (option_map at) lives) ∙ ap Some ready

still_trapped : (w : World) (q : Process) (signal : ℕ) → StillOf q.pid (trapped w q signal)
unfolding trapped
still_trapped w q signal over = absurd cc

still_killed : (p : Physical) (q : Process) (signal : ℕ) → StillIn q.pid (killed p q signal)
still_killed p q signal = still_carried q.pid p p.memory (trapped p.world q signal) (still_trapped p.world q signal)

-- ---- a call

module _ (w : World) (a : Ask) (lives : find pid_of a.process.pid w.procs ≡ Some a.process) (ready : a.process.state ≡ Ready) where
  still_served : (r : Reply) (m : Bytes) → StillOf a.process.pid (served w a r m)
  unfolding served
  still_served r m =
      of_test a.process.pid (room_for w a r) (went _ _) full
      (λ room more. still_moved w.procs a.process (replied a.process.regs r.value) lives ready) (λ none. tt)

  still_waited : (state : State) → StillOf a.process.pid (waited w a.process state)
  unfolding waited
  still_waited state over = absurd cc

  still_refused : (errno : Errno) → StillOf a.process.pid (answered w a (refuses a errno))
  still_refused errno = still_served _ _

  still_exited : StillOf a.process.pid (exited w a)
  unfolding exited
  still_exited = of_test a.process.pid (room_in w (weight_of a.sent [])) (went _ _) full (λ room over. absurd cc) (λ none. tt)

  still_forked : StillOf a.process.pid (forked w a)
  unfolding forked
  still_forked = of_test a.process.pid (room_in w (weight_of a.sent [])) (went _ _) full (λ room over. absurd cc) (λ none. tt)

  still_cloned : StillOf a.process.pid (cloned w a)
  unfolding cloned
  still_cloned =
      of_test a.process.pid (not (arg a 0 == vfork_flags)) (answered w a (refuses a Einval)) (if is_full w then answered w a (refuses a Eagain) else forked w a)
      (λ other. still_refused Einval)
      (λ vfork. of_test a.process.pid (is_full w) (answered w a (refuses a Eagain)) (forked w a) (λ many. still_refused Eagain) (λ few. still_forked))

  still_executed : (index : ℕ) (l : Loading) → StillOf a.process.pid (executed w a index l)
  unfolding executed resumed
  still_executed index l =
      of_test a.process.pid (room_in w (weight_of a.sent [])) (went _ _) full
      (λ room more. ap (option_map (λ q. q.state)) (find_exec_own w a.process l lives) ∙ ap (λ s. Some (resumed a.process.pid s)) ready) (λ none. tt)

  still_strings : (s : Option ProgramStrings) → StillOf a.process.pid (exec_strings w a s)
  still_strings None = still_refused E2big
  still_strings (Some s) = program (runs w.rest (path_of a))
    where
      page : (f : Found) (o : Option ℕ) → StillOf a.process.pid (exec_at w a f s o)
      page f None = still_refused Enomem
      page f (Some at) = still_executed f.index (record { original = f.original; block = address_of at; args = s.args; env = s.env })

      program : (f : Result Found Errno) → StillOf a.process.pid (exec_program w a s f)
      program (Err errno) = still_refused errno
      program (Ok f) =
          of_test a.process.pid (frame_fits f.original s.args s.env) (exec_at w a f s (taken w (block_pages f.original) (free w))) (answered w a (refuses a E2big))
          (λ fits. page f (taken w (block_pages f.original) (free w))) (λ none. still_refused E2big)

  still_exec : StillOf a.process.pid (exec w a)
  unfolding exec
  still_exec =
      of_test a.process.pid (has_zero a.sent) (exec_strings w a (program_strings a.sent (arg a 1) (arg a 2))) (answered w a (refuses a Enametoolong))
      (λ ends. still_strings (program_strings a.sent (arg a 1) (arg a 2))) (λ none. still_refused Enametoolong)

  -- exit, clone and execve, which write nothing
  still_classed : writes_nothing a.number ≡ true → StillOf a.process.pid (classed w a)
  still_classed is =
      of_test a.process.pid (is_exit a.number) (exited w a) _ (λ exit. still_exited)
      (λ stays. of_test a.process.pid (a.number == 95) (waitid w a) _ (λ waits. absurd (grind (arith, nat_tests, is, stays, waits)))
      (λ other. of_test a.process.pid (a.number == 220) (cloned w a) _ (λ clone. still_cloned)
      (λ more. of_test a.process.pid (a.number == 221) (exec w a) (answered w a (row a)) (λ exec. still_exec) (λ none. absurd (grind (arith, nat_tests, is, stays, more, none))))))

module _ (p : Physical) (a : Ask) (lives : find pid_of a.process.pid p.world.procs ≡ Some a.process) (ready : a.process.state ≡ Ready) where
  still_put : (r : Reply) (o : Result Bytes Span) → StillIn a.process.pid (put_in p a r o)
  still_put r (Ok memory) = still_carried a.process.pid p memory (served p.world a r r.space.bytes) (still_served p.world a lives ready r r.space.bytes)
  still_put r (Err span) = still_killed p a.process outside

  still_waits : (state : State) → StillIn a.process.pid (carried p p.memory (waited p.world a.process state))
  still_waits state = still_carried a.process.pid p p.memory (waited p.world a.process state) (still_waited p.world a lives ready state)

  still_answered : (r : Row) → StillIn a.process.pid (answered_in p a r)
  still_answered (replies r) = still_put r (put_got p.memory (in_memory p.world) r.got)
  still_answered (waits state) = still_waits state

module _ (p : Physical) (a : Ask) (lives : find pid_of a.process.pid p.world.procs ≡ Some a.process) (ready : a.process.state ≡ Ready) where
  still_reaped : (who : Who) (o : Result Waited Errno) → StillIn a.process.pid (reaped_in p a who o)
  still_reaped who (Ok (Child pid how)) =
      still_full a.process.pid p _
      (still_answered (record p { world = record p.world { ended = without_first a.process.pid who p.world.ended } }) a lives ready (gives a 0 (info_at (arg a 2) (child_info pid how)) a.rest))
  still_reaped who (Ok NoneYet) = still_answered p a lives ready (gives a 0 (info_at (arg a 2) no_info) a.rest)
  still_reaped who (Ok Waits) = still_waits p a lives ready (Waiting who)
  still_reaped who (Err errno) = still_answered p a lives ready (refuses a errno)

  still_waitid : StillIn a.process.pid (waitid_in p a)
  unfolding waitid_in
  still_waitid = behind (waitid_fault a)
    where
      behind : (fault : Option Errno) → StillIn a.process.pid (waitid_behind_in p a fault)
      behind (Some errno) = still_answered p a lives ready (refuses a errno)
      behind None = still_reaped (who_of a) (told_in p.world a)

  still_classed_in : StillIn a.process.pid (classed_in p a)
  still_classed_in =
      in_test a.process.pid (writes_nothing a.number) (carried p p.memory (classed p.world a)) _
      (λ is. still_carried a.process.pid p p.memory (classed p.world a) (still_classed p.world a lives ready is))
      (λ other. in_test a.process.pid (a.number == 95) (waitid_in p a) (answered_in p a (row a)) (λ waits. still_waitid) (λ none. still_answered p a lives ready (row a)))

-- ---- an event

module _ (p : Physical) (q : Process) (lives : find pid_of q.pid p.world.procs ≡ Some q) (ready : q.state ≡ Ready) where
  still_asked : (s : Space) (o : Result (List ℕ) Span) → StillIn q.pid (asked_in p q s o)
  still_asked s (Ok bytes) = still_classed_in p (ask_of p.world q s bytes) lives ready
  still_asked s (Err span) = still_killed p q outside

  still_effect : (s : Space) (m : Meaning) → StillIn q.pid (effect_in p q s m)
  unfolding answer_in
  still_effect s (next regs memory) = λ more. still_moved p.world.procs q regs lives ready
  still_effect s call = still_settled q.pid (answer_in p q s) (still_asked s (sent (number_of q.regs) (args_of q.regs) p.memory))
  still_effect s (trap signal) = still_settled q.pid (killed p q signal) (still_killed p q signal)
  still_effect s (refused access) = still_settled q.pid (killed p q outside) (still_killed p q outside)

-- of a process that lives in its space
pub still_in : (p : Physical) (pid : ℕ) (q : Process) (s : LiveSpace) → find pid_of pid p.world.procs ≡ Some q → find id_of q.space p.world.spaces ≡ Some s → MayRun p.world pid
    → StillIn pid (carried_out p pid)
still_in p pid q s lives has may =
    let same : q.pid ≡ pid = find_has pid_of pid p.world.procs q lives in
    let is : find pid_of q.pid p.world.procs ≡ Some q = ap (λ (n : ℕ). find pid_of n p.world.procs) same ∙ lives in
    let ready : q.state ≡ Ready = state_of (ap (option_map (λ (o : Process). o.state)) (sym lives) ∙ may) in
    subst (λ (n : ℕ). StillIn n (carried_out p pid)) same
    (subst (StillIn q.pid) (sym (carried_is p pid q s lives has)) (still_effect p q is ready s.space (next_meaning p q)))
  where
    state_of : {t : State} → Some t ≡ Some Ready → t ≡ Ready
    state_of is = cc
