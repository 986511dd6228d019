-- A process that would wait, in a world where all that it waits for is as before, would wait again.
use Rattle.std.proofs.Common.{◌≡◌, ℕ, Bool, true, false, List, [], Option, Some, None, Result, Ok, Err, refl, sym, ap, ◌∙◌, arith}
use Rattle.std.specs.Prelude.{◌==◌, not, option_map, if◌then◌else◌}
use Rattle.byte_words.specs.ByteMap.{Bytes}
use Rattle.call_log.specs.declared.errno.Errno.{Errno}
use Rattle.call_log.specs.declared.errno.Errno.TheVariants.{Echild, Einval, Eagain, Enomem, E2big, Enametoolong}
use Rattle.call_log.specs.Errno.{refusal}
use Rattle.call_log.specs.Notes.{GotRange, weight_of}
use Rattle.call_log.specs.Strings.{ProgramStrings, program_strings}
use Rattle.call_log.specs.Sent.{Span, has_zero, sent}
use Rattle.mmap_rules.specs.Space.{Space, writable_in}
use Rattle.fd_tables.specs.declared.view.View.{View}
use Rattle.fd_tables.specs.declared.view.Target.TheVariants.{Pipe}
use Rattle.fd_tables.specs.Files.{view}
use Rattle.fd_tables.specs.Pipes.{pipe_view}
use Rattle.flat_loader.specs.Original.{block_pages}
use Rattle.flat_loader.specs.Frame.{frame_fits}
use Rattle.vfork_exec.specs.declared.family.Who.{Who}
use Rattle.vfork_exec.specs.declared.family.State.{State}
use Rattle.vfork_exec.specs.declared.family.State.TheVariants.{Waiting, OnPipe}
use Rattle.vfork_exec.specs.declared.family.Ended.{Ended}
use Rattle.vfork_exec.specs.Keyed.{find}
use Rattle.vfork_exec.specs.Families.{first_ended, without_first, told}
use Rattle.vfork_exec.proofs.Keyed.{find_changed}
use Rattle.machine_world.specs.World.{Process, World, pid_of}
use Rattle.machine_world.specs.Families.{is_full, has_child}
use Rattle.machine_world.specs.Found.{Found, taken}
use Rattle.machine_world.specs.Free.{free}
use Rattle.machine_world.specs.Asks.{Ask, Reply, Row, replies, waits, arg, gives, refuses}
use Rattle.machine_world.specs.PathCalls.{path_of}
use Rattle.machine_world.specs.FamilyCalls.{who_of, may_wait, waitid_fault, child_info, no_info, info_at, vfork_flags, runs}
use Rattle.machine_world.specs.Rows.{row}
use Rattle.machine_world.specs.Recordings.{room_in}
use Rattle.machine_world.specs.Event.{Outcome, went, strays, full, idle, number_of, args_of, put_got, ask_of, room_for, served, put, waited, answered, exited, is_exit, reaped, told_in, waitid_behind, waitid, forked, cloned, executed, exec_at, exec_program, exec_strings, exec, classed, asked, answer}
use Rattle.waits_laws.proofs.RowAgain.{row_again}

-- ---- how many events an outcome is in its space

abbrev events_of : Outcome → ℕ
events_of (went now t) = t.events
events_of (strays access) = 1
events_of full = 1
events_of idle = 1

one_if : (b : Bool) (x y : Outcome) → events_of x ≡ 1 → events_of y ≡ 1 → events_of (if b then x else y) ≡ 1
one_if true x y hx hy = hx
one_if false x y hx hy = hy

module _ (w : World) (a : Ask) where
  one_served : (r : Reply) (m : Bytes) → events_of (served w a r m) ≡ 1
  unfolding served
  one_served r m = one_if (room_for w a r) (went _ _) full refl refl

  one_put : (r : Reply) (o : Result Bytes Span) → events_of (put w a r o) ≡ 1
  one_put r (Ok m) = one_served r m
  one_put r (Err span) = refl

  pub one_reply : (r : Reply) → events_of (answered w a (replies r)) ≡ 1
  one_reply r = one_put r (put_got r.space.bytes (writable_in r.space.maps) r.got)

  one_refuses : (e : Errno) → events_of (answered w a (refuses a e)) ≡ 1
  one_refuses e = one_reply (record { value = refusal e; got = []; rest = a.rest; space = a.space; over = false })

  one_gives : (value : ℕ) (got : List GotRange) → events_of (answered w a (gives a value got a.rest)) ≡ 1
  one_gives value got = one_reply (record { value = value; got = got; rest = a.rest; space = a.space; over = false })

  one_exited : events_of (exited w a) ≡ 1
  unfolding exited
  one_exited = one_if (room_in w (weight_of a.sent [])) (went _ _) full refl refl

  one_forked : events_of (forked w a) ≡ 1
  unfolding forked
  one_forked = one_if (room_in w (weight_of a.sent [])) (went _ _) full refl refl

  one_cloned : events_of (cloned w a) ≡ 1
  unfolding cloned
  one_cloned =
      one_if (not (arg a 0 == vfork_flags)) (answered w a (refuses a Einval)) _ (one_refuses Einval)
      (one_if (is_full w) (answered w a (refuses a Eagain)) (forked w a) (one_refuses Eagain) one_forked)

  module _ (s : ProgramStrings) where
    one_page : (f : Found) (o : Option ℕ) → events_of (exec_at w a f s o) ≡ 1
    unfolding executed
    one_page f None = one_refuses Enomem
    one_page f (Some page) = one_if (room_in w (weight_of a.sent [])) (went _ _) full refl refl

    one_program : (o : Result Found Errno) → events_of (exec_program w a s o) ≡ 1
    one_program (Ok f) =
        one_if (frame_fits f.original s.args s.env) (exec_at w a f s (taken w (block_pages f.original) (free w))) (answered w a (refuses a E2big))
        (one_page f (taken w (block_pages f.original) (free w))) (one_refuses E2big)
    one_program (Err errno) = one_refuses errno

  one_strings : (o : Option ProgramStrings) → events_of (exec_strings w a o) ≡ 1
  one_strings (Some s) = one_program s (runs w.rest (path_of a))
  one_strings None = one_refuses E2big

  one_exec : events_of (exec w a) ≡ 1
  unfolding exec
  one_exec = one_if (has_zero a.sent) (exec_strings w a (program_strings a.sent (arg a 1) (arg a 2))) (answered w a (refuses a Enametoolong))
      (one_strings (program_strings a.sent (arg a 1) (arg a 2))) (one_refuses Enametoolong)

-- ---- a wait

none_waited : (w : World) (q : Process) (st : State) → events_of (waited w q st) ≡ 0
unfolding waited
none_waited w q st = refl

-- a process waits in one state
state_of : Outcome → ℕ → Option State
state_of (went now t) pid = option_map (λ p. p.state) (find pid_of pid now.procs)
state_of (strays access) pid = None
state_of full pid = None
state_of idle pid = None

state_waited : (w : World) (q : Process) (st : State) → find pid_of q.pid w.procs ≡ Some q → state_of (waited w q st) q.pid ≡ Some st
unfolding waited state_of
state_waited w q st lives =
    let to : Process → Process = λ p. record p { state = st } in
    ap (option_map (λ (p : Process). p.state)) (find_changed pid_of q.pid to (λ p. refl) w.procs ∙ ap (option_map to) lives)

one_state : (w : World) (q : Process) (s t : State) → find pid_of q.pid w.procs ≡ Some q → waited w q s ≡ waited w q t → s ≡ t
one_state w q s t lives same =
    let both : Some s ≡ Some t = sym (state_waited w q s lives) ∙ ap (λ o. state_of o q.pid) same ∙ state_waited w q t lives in
    cc

-- ---- all that the process waits for is as before

module _ (w now : World) (q : Process) (st : State) where
  pub record AsBefore : Type 0 where
    -- of its descriptors those that lead to a pipe lead to the same end, and the pipe for which it waits shows what it showed
    pub views : (fd : ℕ) (v : View) (id : ℕ) (end : Bool) → view w.rest.files q.table fd ≡ Some v → v.target ≡ Pipe id end → view now.rest.files q.table fd ≡ Some v
    pub pipes : (fd : ℕ) (v : View) (id : ℕ) (end : Bool) → view w.rest.files q.table fd ≡ Some v → v.target ≡ Pipe id end → st ≡ OnPipe id
        → pipe_view now.rest.files id ≡ pipe_view w.rest.files id
    -- none of the children for which it waits has ended, and one lives
    pub ended : (who : Who) → st ≡ Waiting who → first_ended q.pid who w.ended ≡ None → first_ended q.pid who now.ended ≡ None
    pub child : (who : Who) → st ≡ Waiting who → has_child q.pid who w.procs ≡ true → has_child q.pid who now.procs ≡ true

module _ (w now : World) (q : Process) (parent : ℕ) (state : State) (s : Space) (st : State) (lives : find pid_of q.pid w.procs ≡ Some q) (same : AsBefore w now q st) where
  abbrev later : Process
  later = record q { parent = parent; state = state }

  abbrev WaitsAlike : Outcome → Outcome → Type 0
  WaitsAlike x y = x ≡ waited w q st → y ≡ waited now later st

  alike_one : (x y : Outcome) → events_of x ≡ 1 → WaitsAlike x y
  alike_one x y one is =
      let none : events_of x ≡ 0 = ap events_of is ∙ none_waited w q st in
      absurd (omega (arith, one, none))

  alike_test : (b : Bool) (x y u v : Outcome) → WaitsAlike x u → WaitsAlike y v → WaitsAlike (if b then x else y) (if b then u else v)
  alike_test true x y u v one two = one
  alike_test false x y u v one two = two

  module _ (bytes : List ℕ) where
    abbrev a : Ask
    a = ask_of w q s bytes

    abbrev b : Ask
    b = ask_of now later s bytes

    -- ---- a row

    row_by : (r : Row) → row a ≡ r → WaitsAlike (answered w a r) (answered now b (row b))
    row_by (replies r) of is = alike_one (answered w a (replies r)) (answered now b (row b)) (one_reply w a r) is
    row_by (waits x) of is =
        let at : x ≡ st = one_state w q x st lives is in
        let again : row b ≡ waits st = row_again w now q parent state s st bytes same.views same.pipes (of ∙ ap waits at) in
        ap (answered now b) again

    -- ---- waitid

    reaped_by : (o : Option Ended) (c m : Bool) → first_ended q.pid (who_of a) w.ended ≡ o → has_child q.pid (who_of a) w.procs ≡ c → may_wait (arg a 3) ≡ m
        → WaitsAlike (reaped w a (who_of a) (told o c m)) (reaped now b (who_of a) (told_in now b))
    unfolding told
    reaped_by (Some e) c m first child may is = alike_one _ (reaped now b (who_of a) (told_in now b)) (one_gives (record w { ended = without_first q.pid (who_of a) w.ended }) a 0 (info_at (arg a 2) (child_info e.pid e.how))) is
    reaped_by None false m first child may is = alike_one _ (reaped now b (who_of a) (told_in now b)) (one_refuses w a Echild) is
    reaped_by None true false first child may is = alike_one _ (reaped now b (who_of a) (told_in now b)) (one_gives w a 0 (info_at (arg a 2) no_info)) is
    reaped_by None true true first child may is =
        let at : Waiting (who_of a) ≡ st = one_state w q (Waiting (who_of a)) st lives is in
        let none : first_ended q.pid (who_of a) now.ended ≡ None = same.ended (who_of a) (sym at) first in
        let lives_now : has_child q.pid (who_of a) now.procs ≡ true = same.child (who_of a) (sym at) child in
        rw (none, lives_now, may) (ap (waited now later) at)

    fault_by : (o : Option Errno) → WaitsAlike (waitid_behind w a o) (waitid_behind now b o)
    fault_by (Some errno) = alike_one (answered w a (refuses a errno)) (answered now b (refuses b errno)) (one_refuses w a errno)
    fault_by None = reaped_by (first_ended q.pid (who_of a) w.ended) (has_child q.pid (who_of a) w.procs) (may_wait (arg a 3)) refl refl refl

    waitid_again : WaitsAlike (waitid w a) (waitid now b)
    unfolding waitid
    waitid_again = fault_by (waitid_fault a)

    classed_again : WaitsAlike (classed w a) (classed now b)
    classed_again =
        alike_test (is_exit a.number) (exited w a) _ (exited now b) _ (alike_one (exited w a) (exited now b) (one_exited w a))
        (alike_test (a.number == 95) (waitid w a) _ (waitid now b) _ waitid_again
        (alike_test (a.number == 220) (cloned w a) _ (cloned now b) _ (alike_one (cloned w a) (cloned now b) (one_cloned w a))
        (alike_test (a.number == 221) (exec w a) (answered w a (row a)) (exec now b) (answered now b (row b)) (alike_one (exec w a) (exec now b) (one_exec w a))
        (row_by (row a) refl))))

  asked_again : (o : Result (List ℕ) Span) → WaitsAlike (asked w q s o) (asked now later s o)
  asked_again (Ok bytes) = classed_again bytes
  asked_again (Err span) = alike_one (asked w q s (Err span)) (asked now later s (Err span)) refl

  pub waits_again : answer w q s ≡ waited w q st → answer now later s ≡ waited now later st
  unfolding answer
  waits_again = asked_again (sent (number_of q.regs) (args_of q.regs) s.bytes)
