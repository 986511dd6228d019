-- What an answer alone tells of the parts: whether its process waits then, and that a stray access changed nothing.
use Rattle.std.proofs.Common.{◌≡◌, ℕ, Bool, true, false, List, [], ◌∷◌, Option, Some, None, refl, sym, ap, subst, ◌∙◌}
use Rattle.std.specs.Prelude.{option_map, Result, Ok, IfOk}
use Rattle.std.specs.declared.alloc.AllocError.{AllocError}
use Rattle.byte_words.specs.declared.access.Access.{Access}
use Rattle.page_runs.specs.declared.place.Kind.TheVariants.{First}
use Rattle.mmap_rules.specs.Held.{Held}
use Rattle.fd_tables.specs.Files.{OpenFiles}
use Rattle.vfork_exec.specs.declared.family.State.{State}
use Rattle.vfork_exec.specs.declared.family.State.TheVariants.{Ready, Waiting, OnPipe, Lent}
use Rattle.vfork_exec.specs.declared.entry.Entry.{Entry}
use Rattle.vfork_exec.specs.Families.{roused}
use Rattle.vfork_exec.specs.Procs.{Listed, process, CanRun, state_at, with_value, with_state, with_value_at, with_state_at, with_child, with_wake}
use Rattle.vfork_exec.specs.Procs.{pid_of as entry_pid}
use Rattle.vfork_exec.proofs.Keyed.{find_changed}
use Rattle.vfork_exec.proofs.Places.{found}
use Rattle.vfork_exec.proofs.Values.{process_wake}
use Rattle.machine_world.specs.Event.{replied}
use Rattle.file_calls.specs.declared.call.Call.{Call}
use Rattle.kept_parts.specs.declared.task.Task.{Task}
use Rattle.kept_parts.specs.declared.effect.Effect.{Effect}
use Rattle.kept_parts.specs.declared.effect.Effect.TheVariants.{Answer, Yield, Break}
use Rattle.kept_parts.specs.declared.served.Served.{Served}
use Rattle.kept_parts.specs.declared.served.Served.TheVariants.{TurnEnds, Waits, Stray}
use Rattle.kept_parts.specs.Kept.{Kept}
use Rattle.kept_parts.specs.Regular.{Regular}
use Rattle.kept_parts.specs.Stands.{About}
use Rattle.kept_parts.specs.Awake.{with_wakes, awake_in}
use Rattle.kept_parts.specs.Serves.{went_by, is_waiting, WaitsAt, Tells}
use Rattle.kept_parts.specs.Calls.{child_task, after_fork, after_reply, ask_in, reply_of, served_by}
use Rattle.kept_parts.proofs.Common.ProcessList.{can_run_lives, state_ready}
use Rattle.kept_parts.proofs.Forks.Child.{parent_there}

-- ---- the state of one process

module _ (s : Listed Task) (pid : ℕ) (e : Entry Task) (lives : process s pid ≡ Some e) where
  state_now : (state : State) → state_at (with_state_at s pid state) pid ≡ Some state
  state_now state =
      ap (option_map (λ (x : Entry Task). x.state))
      (find_changed entry_pid pid (λ (x : Entry Task). with_state x state) (λ x. refl) s.entries ∙ ap (option_map (λ (x : Entry Task). with_state x state)) lives)

  -- it is the same where something else is kept of it
  state_stays : (value : Task) → state_at (with_value_at s pid value) pid ≡ Some e.state
  state_stays value =
      ap (option_map (λ (x : Entry Task). x.state))
      (find_changed entry_pid pid (λ (x : Entry Task). with_value x value) (λ x. refl) s.entries ∙ ap (option_map (λ (x : Entry Task). with_value x value)) lives)

-- it waits
pub waits_now : (s : Listed Task) (pid : ℕ) → CanRun s pid → (state : State) → is_waiting state ≡ true → (now : Listed Task) → now ≡ with_state_at s pid state → WaitsAt now pid true
waits_now s pid ready state waits now is =
    let e = found entry_pid pid s.entries (can_run_lives s pid ready) in
    subst (λ (x : Listed Task). WaitsAt x pid true) (sym is) (ap (option_map is_waiting) (state_now s pid e.0 e.1 state) ∙ ap (λ (b : Bool). Some b) waits)

-- it has its reply
pub effect_leaves : (k : Kept) (e : Entry Task) (h : Held) (call : Call) → process k.procs call.pid ≡ Some e → CanRun k.procs call.pid → (f : Effect) (new : Kept) →
    ((a : About) → new ≡ after_reply k e h call (reply_of (ask_in a k e h call) f) k.mem) → Tells k new call.pid (served_by f)
effect_leaves k e h call lives ready (Answer value) new replies = tt
effect_leaves k e h call lives ready Yield new replies =
    subst (λ (x : Kept). WaitsAt x.procs call.pid false) (sym (replies (record { kind = First; programs = []; events = 0 })))
    (ap (option_map is_waiting) (state_stays k.procs call.pid e lives (record e.value { regs = replied e.value.regs 0 }))
    ∙ ap (λ (state : State). Some (is_waiting state)) (state_ready k.procs call.pid e lives ready))
effect_leaves k e h call lives ready (Break to) new replies = tt

-- it stands still for its child, and waits for nothing
pub fork_leaves : (k : Kept) (e : Entry Task) (call : Call) → Regular k → process k.procs call.pid ≡ Some e → (new : Kept) → new ≡ after_fork k e call → Tells k new call.pid TurnEnds
fork_leaves k e call regular lives new is =
    let there = parent_there k.procs call.pid e lives regular.falls (child_task k e call) in
    subst (λ (x : Kept). WaitsAt x.procs call.pid false) (sym is)
    (ap (option_map is_waiting)
    (state_stays (with_child k.procs call.pid (child_task k e call)) call.pid (with_state e (Lent k.procs.next_pid)) there (record e.value { regs = replied e.value.regs k.procs.next_pid })))

-- ---- those go on that wait on a pipe which changed

still_roused : (pipe : ℕ) (state : State) → is_waiting state ≡ false → is_waiting (roused pipe state) ≡ false
unfolding roused
still_roused pipe Ready is = refl
still_roused pipe (Waiting who) is = absurd cc
still_roused pipe (OnPipe id) is = absurd cc
still_roused pipe (Lent child) is = refl

wake_found : (pipe : ℕ) (o : Option (Entry Task)) → option_map is_waiting (option_map (λ (e : Entry Task). e.state) o) ≡ Some false →
    option_map is_waiting (option_map (λ (e : Entry Task). e.state) (option_map (λ (e : Entry Task). with_state e (roused pipe e.state)) o)) ≡ Some false
wake_found pipe (Some e) is =
    let still : is_waiting e.state ≡ false = cc in
    ap (λ (b : Bool). Some b) (still_roused pipe e.state still)
wake_found pipe None is = absurd cc

-- who doesn't wait doesn't wait then
wakes_still : (pipes : List ℕ) (procs : Listed Task) (pid : ℕ) → WaitsAt procs pid false → WaitsAt (with_wakes pipes procs) pid false
unfolding with_wakes
wakes_still [] procs pid is = is
wakes_still (pipe ∷ pipes) procs pid is =
    wakes_still pipes (with_wake procs pipe) pid
    (ap (λ (o : Option (Entry Task)). option_map is_waiting (option_map (λ (e : Entry Task). e.state) o)) (process_wake procs pipe pid) ∙ wake_found pipe (process procs pid) is)

-- where no pipe is marked nobody goes on
none_woken : (pipes : List ℕ) (procs : Listed Task) → pipes ≡ [] → with_wakes pipes procs ≡ procs
unfolding with_wakes
none_woken [] procs is = refl
none_woken (pipe ∷ pipes) procs is = absurd cc

-- ---- by the answer

module _ (old new : Kept) (pid : ℕ) (r : Result Served AllocError) (leaves : IfOk r (Tells old new pid)) where
  pub stray_keeps : (access : Access) → r ≡ Ok (Stray access) → new ≡ old
  stray_keeps access is = subst (λ (x : Result Served AllocError). IfOk x (Tells old new pid)) is leaves

  pub yield_goes : r ≡ Ok TurnEnds → WaitsAt new.procs pid false
  yield_goes is = subst (λ (x : Result Served AllocError). IfOk x (Tells old new pid)) is leaves

  wait_stays : r ≡ Ok Waits → WaitsAt new.procs pid true × (new.files ≡ old.files) × (new.notes ≡ old.notes)
  wait_stays is = subst (λ (x : Result Served AllocError). IfOk x (Tells old new pid)) is leaves

  pub wait_goes : r ≡ Ok Waits → WaitsAt new.procs pid true
  wait_goes is = (wait_stays is).0

  pub wait_unnoted : r ≡ Ok Waits → new.notes ≡ old.notes
  wait_unnoted is = (wait_stays is).2

  -- and once those go on that wait
  module _ (now : Kept) (kept : now ≡ awake_in new) where
    pub yield_goes_on : r ≡ Ok TurnEnds → WaitsAt now.procs pid false
    yield_goes_on is = subst (λ (k : Kept). WaitsAt k.procs pid false) (sym kept) (wakes_still new.files.changed new.procs pid (yield_goes is))

    pub wait_leaves_notes : r ≡ Ok Waits → now.notes ≡ old.notes
    wait_leaves_notes is = ap (λ (k : Kept). k.notes) kept ∙ wait_unnoted is

    pub wait_goes_on : r ≡ Ok Waits → old.files.changed ≡ [] → WaitsAt now.procs pid true
    wait_goes_on is marks =
        let stays = wait_stays is in
        let none : new.files.changed ≡ [] = ap (λ (f : OpenFiles). f.changed) stays.1 ∙ marks in
        subst (λ (k : Kept). WaitsAt k.procs pid true) (sym kept) (subst (λ (s : Listed Task). WaitsAt s pid true) (sym (none_woken new.files.changed new.procs none)) stays.0)

-- a stray access was no event
pub stray_never : (r : Result Served AllocError) → IfOk r (λ s. went_by s ≡ true) → (access : Access) → r ≡ Ok (Stray access) → ⊥
stray_never r goes access is =
    let wrong : false ≡ true = subst (λ (x : Result Served AllocError). IfOk x (λ s. went_by s ≡ true)) is goes in
    cc
