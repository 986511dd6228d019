-- The process of a turn may run, and may run still while its turn isn't over.
use Rattle.std.proofs.Common.{◌≡◌, ℕ, ◌<◌, Bool, true, false, cond, inl, inr, List, [], ◌∷◌, map, not, Option, Some, None, refl, sym, ap, subst, ◌∙◌, arith}
use Rattle.std.specs.Prelude.{◌-◌, ◌%◌, length, reverse, get_or, ◌==◌, if◌then◌else◌, filter, option_map, Result, Ok, Err}
use Rattle.std.specs.List.{All}
use Rattle.std.proofs.lemmas.Bool.{cases_Bool}
use Rattle.std.proofs.lemmas.List.{length-reverse, get_or-reverse}
use Rattle.std.proofs.lemmas.List.Elements.{All-nil, All-cons, All-get_or}
use Rattle.std.proofs.lemmas.Option.{slice_get_within, get_or_from_slice_get}
use Rattle.quantum_sched.specs.Picked.{picked}
use Rattle.vfork_exec.specs.declared.family.Who.{Who}
use Rattle.vfork_exec.specs.declared.family.State.{State}
use Rattle.vfork_exec.specs.declared.family.State.TheVariants.{Ready, Waiting, OnPipe, Lent}
use Rattle.vfork_exec.specs.Keyed.{find, change, Falls}
use Rattle.vfork_exec.specs.declared.family.Waited.{Waited}
use Rattle.vfork_exec.specs.declared.family.Waited.TheVariants.{Child, NoneYet, Waits}
use Rattle.vfork_exec.specs.Families.{resumed, is_ready, without_first}
use Rattle.vfork_exec.proofs.Keyed.{eqb_other, eqb_same, find_head, find_changed}
use Rattle.flat_loader.specs.Begin.{Loading}
use Rattle.byte_words.specs.ByteMap.{Bytes}
use Rattle.rv32im_step.specs.declared.regs.Regs.{Regs}
use Rattle.rv32im_step.specs.Meaning.{Meaning, next, call, trap, refused, meaning}
use Rattle.call_log.specs.declared.errno.Errno.{Errno}
use Rattle.call_log.specs.declared.errno.Errno.TheVariants.{E2big, Eagain, Enomem, Einval, Enametoolong}
use Rattle.call_log.specs.Notes.{weight_of}
use Rattle.call_log.specs.Sent.{Span, has_zero, sent}
use Rattle.call_log.specs.Strings.{ProgramStrings, program_strings}
use Rattle.mmap_rules.specs.Space.{Space, writable_in}
use Rattle.flat_loader.specs.Original.{block_pages}
use Rattle.flat_loader.specs.Frame.{frame_fits}
use Rattle.machine_world.specs.World.{Process, LiveSpace, World, pid_of, id_of}
use Rattle.machine_world.specs.Free.{free}
use Rattle.machine_world.specs.Found.{Found, address_of, taken}
use Rattle.machine_world.specs.PathCalls.{path_of}
use Rattle.machine_world.specs.Rows.{row}
use Rattle.machine_world.specs.FamilyCalls.{who_of, waitid_fault, child_info, no_info, info_at, vfork_flags, runs}
use Rattle.machine_world.specs.Families.{MayRun, ready_pids, is_full}
use Rattle.machine_world.specs.Asks.{Ask, Reply, Row, replies, waits, arg, gives, refuses}
use Rattle.machine_world.specs.Recordings.{room_in}
use Rattle.machine_world.specs.Event.{Trace, Outcome, went, strays, full, idle, number_of, args_of, replied, put_got, ask_of, stepped, trapped, room_for, served, put, waited, answered, is_exit, exited, forked, cloned, executed, exec_at, exec_program, exec_strings, exec, reaped, told_in, waitid_behind, waitid, classed, asked, answer, settled, effect, in_space, by_process, at_process, event}
use Rattle.machine_world.proofs.States.{find_has}
use Rattle.machine_world.proofs.Awake.{may_run_awake}
use Rattle.machine_world.proofs.Chains.{find_exec_own}

-- ---- the process of a turn

ready_head : (p : Process) (ps : List Process) (b : Bool) → is_ready p.state ≡ b → ready_pids (p ∷ ps) ≡ cond b (p.pid ∷ ready_pids ps) (ready_pids ps)
unfolding ready_pids
ready_head p ps true is = ap (λ (t : Bool). map pid_of (cond t (p ∷ filter (λ q. is_ready q.state) ps) (filter (λ q. is_ready q.state) ps))) is
ready_head p ps false is = ap (λ (t : Bool). map pid_of (cond t (p ∷ filter (λ q. is_ready q.state) ps) (filter (λ q. is_ready q.state) ps))) is

is_ready_state : (s : State) → is_ready s ≡ true → s ≡ Ready
is_ready_state Ready is = refl
is_ready_state (Waiting who) is = absurd cc
is_ready_state (OnPipe pipe) is = absurd cc
is_ready_state (Lent child) is = absurd cc

all_ready : (P : ℕ → Type 0) (b : ℕ) (ps : List Process) → Falls pid_of b ps → ((q : Process) → q.pid < b → find pid_of q.pid ps ≡ Some q → q.state ≡ Ready → P q.pid)
    → All P (ready_pids ps)
unfolding ready_pids
all_ready P b [] falls each = All-nil P
all_ready P b (p ∷ ps) falls each =
    let later : All P (ready_pids ps) = all_ready P p.pid ps falls.1
    (λ q below lives ready. each q (omega (arith, below, falls.0)) (find_head pid_of q.pid p ps false (eqb_other p.pid q.pid (omega (arith, below))) ∙ lives) ready) in
    elim (cases_Bool (is_ready p.state)) [
      | inl is ↦
          subst (All P) (sym (ready_head p ps true is)) (All-cons P p.pid (ready_pids ps)
          (each p falls.0 (find_head pid_of p.pid p ps true (eqb_same p.pid p.pid refl)) (is_ready_state p.state is)) later)
      | inr is ↦ subst (All P) (sym (ready_head p ps false is)) later
    ]

picked_of_all : (P : ℕ → Type 0) (k : ℕ) (pids : List ℕ) (pid : ℕ) → All P pids → picked k pids ≡ Some pid → P pid
unfolding picked
picked_of_all P k pids pid all is =
    let j : ℕ = k % length pids in
    let inside : j < length (reverse pids) = slice_get_within (reverse pids) j pid is in
    let n : length (reverse pids) ≡ length pids = length-reverse pids in
    let there : get_or (reverse pids) j pid ≡ pid = get_or_from_slice_get (reverse pids) j pid pid is in
    let at : get_or (reverse pids) j pid ≡ get_or pids (length pids - 1 - j) pid = get_or-reverse pids j pid (omega (arith, inside, n)) in
    subst P (sym at ∙ there) (All-get_or P pids (length pids - 1 - j) pid (omega (arith, inside, n)) all)

pub ready_found : (procs : List Process) (b k pid : ℕ) → picked k (ready_pids procs) ≡ Some pid → Falls pid_of b procs
    → option_map (λ p. p.state) (find pid_of pid procs) ≡ Some Ready
ready_found procs b k pid is falls =
    picked_of_all (λ n. option_map (λ p. p.state) (find pid_of n procs) ≡ Some Ready) k (ready_pids procs) pid
    (all_ready (λ n. option_map (λ p. p.state) (find pid_of n procs) ≡ Some Ready) b procs falls
    (λ q below lives ready. ap (option_map (λ p. p.state)) lives ∙ ap Some ready)) is

-- ---- a process whose turn isn't over may run still

abbrev Still : ℕ → Outcome → Type 0
Still pid (went now t) = t.over ≡ false → MayRun now pid
Still pid (strays access) = Unit {0}
Still pid full = Unit {0}
Still pid idle = Unit {0}

still_if : (pid : ℕ) (b : Bool) (x y : Outcome) → Still pid x → Still pid y → Still pid (if b then x else y)
still_if pid true x y hx hy = hx
still_if pid false x y hx hy = hy

-- and where those go on who wait on a pipe
still_settled : (pid : ℕ) (o : Outcome) → Still pid o → Still pid (settled o)
unfolding settled
still_settled pid (went now t) h = λ more. may_run_awake now pid (h more)
still_settled pid (strays access) h = tt
still_settled pid full h = tt
still_settled pid idle h = tt

still_moved : (procs : List Process) (p : Process) (regs : Regs) → find pid_of p.pid procs ≡ Some p → p.state ≡ Ready
    → option_map (λ q. q.state) (find pid_of p.pid (change pid_of p.pid (λ q. record q { regs = regs }) procs)) ≡ Some Ready
still_moved procs p regs lives ready =
    let at : Process → Process = λ q. record q { regs = regs } in
    ap (option_map (λ q. q.state)) (find_changed pid_of p.pid at (λ q. refl) procs ∙ ap (option_map at) lives) ∙ ap Some ready

module _ (w : World) (a : Ask) (lives : find pid_of a.process.pid w.procs ≡ Some a.process) (ready : a.process.state ≡ Ready) where
  still_put : (r : Reply) (found : Result Bytes Span) → Still a.process.pid (put w a r found)
  unfolding served
  still_put r (Err span) = tt
  still_put r (Ok m) =
      still_if a.process.pid (room_for w a r) (went _ _) full
      (λ more. still_moved w.procs a.process (replied a.process.regs r.value) lives ready) tt

  still_waited : (state : State) → Still a.process.pid (waited w a.process state)
  unfolding waited
  still_waited state over = absurd cc

  still_answered : (r : Row) → Still a.process.pid (answered w a r)
  still_answered (replies r) = still_put r (put_got r.space.bytes (writable_in r.space.maps) r.got)
  still_answered (waits state) = still_waited state

  still_exited : Still a.process.pid (exited w a)
  unfolding exited
  still_exited = still_if a.process.pid (room_in w (weight_of a.sent [])) (went _ _) full (λ over. absurd cc) tt

  still_forked : Still a.process.pid (forked w a)
  unfolding forked
  still_forked = still_if a.process.pid (room_in w (weight_of a.sent [])) (went _ _) full (λ over. absurd cc) tt

  still_cloned : Still a.process.pid (cloned w a)
  unfolding cloned
  still_cloned =
      still_if a.process.pid (not (arg a 0 == vfork_flags)) (answered w a (refuses a Einval)) (if is_full w then answered w a (refuses a Eagain) else forked w a)
      (still_answered (refuses a Einval))
      (still_if a.process.pid (is_full w) (answered w a (refuses a Eagain)) (forked w a) (still_answered (refuses a Eagain)) still_forked)

  still_executed : (index : ℕ) (l : Loading) → Still a.process.pid (executed w a index l)
  unfolding executed resumed
  still_executed index l =
      still_if a.process.pid (room_in w (weight_of a.sent [])) (went _ _) full
      (λ more. ap (option_map (λ q. q.state)) (find_exec_own w a.process l lives) ∙ ap (λ s. Some (resumed a.process.pid s)) ready) tt

  still_strings : (s : Option ProgramStrings) → Still a.process.pid (exec_strings w a s)
  still_strings None = still_answered (refuses a E2big)
  still_strings (Some s) = program (runs w.rest (path_of a))
    where
      page : (f : Found) (o : Option ℕ) → Still a.process.pid (exec_at w a f s o)
      page f None = still_answered (refuses a Enomem)
      page f (Some at) = still_executed f.index (record { original = f.original; block = address_of at; args = s.args; env = s.env })

      program : (f : Result Found Errno) → Still a.process.pid (exec_program w a s f)
      program (Err errno) = still_answered (refuses a errno)
      program (Ok f) =
          still_if a.process.pid (frame_fits f.original s.args s.env) (exec_at w a f s (taken w (block_pages f.original) (free w))) (answered w a (refuses a E2big))
          (page f (taken w (block_pages f.original) (free w))) (still_answered (refuses a E2big))

  still_exec : Still a.process.pid (exec w a)
  unfolding exec
  still_exec =
      still_if a.process.pid (has_zero a.sent) (exec_strings w a (program_strings a.sent (arg a 1) (arg a 2))) (answered w a (refuses a Enametoolong))
      (still_strings (program_strings a.sent (arg a 1) (arg a 2))) (still_answered (refuses a Enametoolong))

module _ (w : World) (a : Ask) (lives : find pid_of a.process.pid w.procs ≡ Some a.process) (ready : a.process.state ≡ Ready) where
  still_reaped : (who : Who) (r : Result Waited Errno) → Still a.process.pid (reaped w a who r)
  still_reaped who (Ok (Child pid how)) =
      still_answered (record w { ended = without_first a.process.pid who w.ended }) a lives ready (gives a 0 (info_at (arg a 2) (child_info pid how)) a.rest)
  still_reaped who (Ok NoneYet) = still_answered w a lives ready (gives a 0 (info_at (arg a 2) no_info) a.rest)
  still_reaped who (Ok Waits) = still_waited w a lives ready (Waiting who)
  still_reaped who (Err errno) = still_answered w a lives ready (refuses a errno)

  still_waitid : Still a.process.pid (waitid w a)
  unfolding waitid
  still_waitid = behind (waitid_fault a)
    where
      behind : (fault : Option Errno) → Still a.process.pid (waitid_behind w a fault)
      behind (Some errno) = still_answered w a lives ready (refuses a errno)
      behind None = still_reaped (who_of a) (told_in w a)

  still_classed : Still a.process.pid (classed w a)
  still_classed =
      still_if a.process.pid (is_exit a.number) _ _ (still_exited w a lives ready)
      (still_if a.process.pid (a.number == 95) _ _ still_waitid
      (still_if a.process.pid (a.number == 220) _ _ (still_cloned w a lives ready)
      (still_if a.process.pid (a.number == 221) _ _ (still_exec w a lives ready) (still_answered w a lives ready (row a)))))

module _ (w : World) (p : Process) (lives : find pid_of p.pid w.procs ≡ Some p) (ready : p.state ≡ Ready) where
  still_asked : (s : Space) (found : Result (List ℕ) Span) → Still p.pid (asked w p s found)
  still_asked s (Ok bytes) = still_classed w (ask_of w p s bytes) lives ready
  still_asked s (Err span) = tt

  still_effect : (s : Space) (m : Meaning) → Still p.pid (effect w p s m)
  unfolding stepped trapped answer
  still_effect s (next regs bytes) = λ more. still_moved w.procs p regs lives ready
  still_effect s (trap signal) = still_settled p.pid (trapped w p signal) (λ over. absurd cc)
  still_effect s (refused access) = tt
  still_effect s call = still_settled p.pid (answer w p s) (still_asked s (sent (number_of p.regs) (args_of p.regs) s.bytes))

  still_in : (found : Option LiveSpace) → Still p.pid (in_space (λ q s. effect w q s (meaning q.regs s.bytes (writable_in s.maps))) p found)
  still_in None = tt
  still_in (Some s) = still_effect s.space (meaning p.regs s.space.bytes (writable_in s.space.maps))

still_by : (w : World) (pid : ℕ) (found : Option Process) → find pid_of pid w.procs ≡ found → option_map (λ p. p.state) found ≡ Some Ready
    → Still pid (by_process w.spaces (λ q s. effect w q s (meaning q.regs s.bytes (writable_in s.maps))) found)
still_by w pid None is ready = tt
still_by w pid (Some p) is ready =
    let at : p.pid ≡ pid = find_has pid_of pid w.procs p is in
    subst (λ n. Still n (by_process w.spaces (λ q s. effect w q s (meaning q.regs s.bytes (writable_in s.maps))) (Some p))) at
    (still_in w p (ap (λ n. find pid_of n w.procs) at ∙ is) (let e : Some p.state ≡ Some Ready = ready in cc) (find id_of p.space w.spaces))

pub may_run_still : (w : World) (pid : ℕ) (now : World) (t : Trace) → MayRun w pid → event w pid ≡ went now t → t.over ≡ false → MayRun now pid
unfolding event at_process
may_run_still w pid now t may is = subst (Still pid) is (still_by w pid (find pid_of pid w.procs) refl may)
