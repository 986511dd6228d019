-- Behind every event all who wait would wait again.
use Rattle.std.proofs.Common.{◌≡◌, ℕ, ◌<◌, Bool, true, false, cond, List, [], ◌∷◌, Option, Some, None, Result, Ok, Err, ◌⊎◌, inl, inr, refl, sym, ap, subst, ◌∙◌, arith}
use Rattle.std.specs.Prelude.{◌==◌, ◌||◌, IsSome, option_map}
use Rattle.std.specs.List.{list_any}
use Rattle.std.proofs.lemmas.Bool.{cases_Bool}
use Rattle.byte_words.specs.ByteMap.{Bytes}
use Rattle.rv32im_step.specs.declared.regs.Regs.{Regs}
use Rattle.rv32im_step.specs.Meaning.{Meaning, next, call, trap, refused, meaning}
use Rattle.call_log.specs.declared.how.How.TheVariants.{Signal}
use Rattle.call_log.specs.Sent.{Span, sent}
use Rattle.mmap_rules.specs.Space.{Space, writable_in}
use Rattle.fd_tables.specs.Files.{free_number, view}
use Rattle.fd_tables.specs.Pipes.{pipe_view, is_marked, none_changed}
use Rattle.fd_tables.proofs.TablesThere.{has_table}
use Rattle.vfork_exec.specs.declared.family.Who.{Who}
use Rattle.vfork_exec.specs.declared.family.State.{State}
use Rattle.vfork_exec.specs.declared.family.State.TheVariants.{Ready, Waiting, OnPipe, Lent}
use Rattle.vfork_exec.specs.declared.family.Ended.{Ended}
use Rattle.vfork_exec.specs.Keyed.{find, Falls}
use Rattle.vfork_exec.specs.Families.{is_child, first_ended, roused}
use Rattle.vfork_exec.proofs.Keyed.{eqb_is, eqb_same, eqb_other, any_map, any_change, find_key, find_below, find_changed, find_beside_change}
use Rattle.vfork_exec.proofs.Families.{none_without}
use Rattle.machine_world.specs.World.{Process, LiveSpace, World, pid_of, id_of}
use Rattle.machine_world.specs.Families.{MayRun, has_child, AreChains}
use Rattle.machine_world.specs.Asks.{Ask, Row, replies, waits}
use Rattle.machine_world.specs.Rows.{row}
use Rattle.machine_world.specs.Event.{Trace, went, with_state, with_space, counted, counted_in, number_of, args_of, replied, ask_of, stepped, trapped, ended, waited, classed, asked, answer, awake, effect, event}
use Rattle.machine_world.specs.Others.{LeavesOthers}
use Rattle.machine_world.proofs.Awake.{roused_all, woke, all_ready, all_waiting, all_lent, all_roused_is, find_roused, not_awake, settled_of}
use Rattle.machine_world.proofs.EachChange.{Answers}
use Rattle.machine_world.proofs.ByEvents.{Went, Answered, loading_of, by_classed}
use Rattle.machine_world.proofs.States.{event_is}
use Rattle.machine_world.proofs.Beside.{events_leave_others}
use Rattle.waits_laws.specs.Waits.{WaitsAgain, IfWaits, WaitsWell}
use Rattle.machine_world.specs.Order.{AreCounted}
use Rattle.waits_laws.specs.Laws.{IsOrdered}
use Rattle.waits_laws.proofs.Shown.{shows_itself}
use Rattle.waits_laws.proofs.RowsShow.{ShowsAsIn, rows_show}
use Rattle.waits_laws.proofs.Again.{waits_again}
use Rattle.waits_laws.proofs.Calls.{Told, Behind, Happens, by_call}
use Rattle.waits_laws.proofs.Moves.{StillWaits, Moves, moves_regs, moves_left, moves_loaded, moves_forked}
use Rattle.waits_laws.proofs.Lenders.{AreLent}
use Rattle.waits_laws.proofs.Settled.{Found, Settled, if_none, well_settled}

-- ---- who waits on a pipe, once some have changed

module _ (id : ℕ) where
  either_way : (pipe : ℕ) (b : Bool) → (pipe == id) ≡ b → (id == pipe) ≡ b
  either_way pipe true is = eqb_same id pipe (sym (eqb_is pipe id is))
  either_way pipe false is = eqb_other id pipe (λ e. (let same : (pipe == id) ≡ true = eqb_same pipe id (sym e) in cc))

  roused_by : (pipe : ℕ) (b : Bool) → (id == pipe) ≡ b → roused pipe (OnPipe id) ≡ cond b Ready (OnPipe id)
  unfolding roused
  roused_by pipe b is = ap (λ (t : Bool). cond t Ready (OnPipe id)) is

  roused_on : (pipes : List ℕ) (b : Bool) → list_any (λ x. x == id) pipes ≡ b → roused_all pipes (OnPipe id) ≡ cond b Ready (OnPipe id)
  unfolding roused_all
  roused_on [] b is = ap (λ (t : Bool). cond t Ready (OnPipe id)) is
  roused_on (pipe ∷ pipes) b is = elim (cases_Bool (pipe == id)) [
    | inl here ↦
        ap (roused_all pipes) (roused_by pipe true (either_way pipe true here)) ∙ all_ready pipes
        ∙ ap (λ (t : Bool). cond t Ready (OnPipe id)) (sym (ap (λ (t : Bool). t || list_any (λ x. x == id) pipes) here) ∙ is)
    | inr away ↦
        ap (roused_all pipes) (roused_by pipe false (either_way pipe false away))
        ∙ roused_on pipes b (sym (ap (λ (t : Bool). t || list_any (λ x. x == id) pipes) away) ∙ is)
  ]

-- ---- behind a call or a trap

module _ (w : World) (p : Process) (v : World) (moves : Moves w p v.procs v.ended v.rest.files) where
  abbrev pipes : List ℕ
  pipes = v.rest.files.changed

  child_awake : (own : ℕ) (who : Who) → has_child own who (awake v).procs ≡ has_child own who v.procs
  unfolding has_child
  child_awake own who =
      ap (list_any (λ (x : Process). is_child own who x.pid x.parent)) (all_roused_is pipes v.procs)
      ∙ any_map (λ (x : Process). is_child own who x.pid x.parent) (λ (x : Process). is_child own who x.pid x.parent) (woke pipes) (λ x. refl) v.procs

  same_pipe : (id : ℕ) → pipe_view (none_changed v.rest.files) id ≡ pipe_view v.rest.files id
  unfolding pipe_view
  same_pipe id = refl

  same_view : (t fd : ℕ) → view (none_changed v.rest.files) t fd ≡ view v.rest.files t fd
  unfolding view
  same_view t fd = refl

  found_on : (q : Process) (id : ℕ) (b : Bool) → is_marked id v.rest.files ≡ b → q.state ≡ OnPipe id → Found w (awake v) q (cond b Ready (OnPipe id))
  found_on q id true marked is = tt
  found_on q id false marked is = (is, λ given. same_pipe id ∙ moves.shows.pipes id given marked)

  found_awake : (q : Process) (x : State) → StillWaits w v.procs v.ended q x → Found w (awake v) q (roused_all pipes x)
  found_awake q Ready still = subst (Found w (awake v) q) (sym (all_ready pipes)) tt
  found_awake q (Lent child) still = subst (Found w (awake v) q) (sym (all_lent pipes child)) tt
  found_awake q (Waiting who) still =
      subst (Found w (awake v) q) (sym (all_waiting pipes who)) (still.0, still.1, λ has. child_awake q.pid who ∙ still.2 has)
  found_awake q (OnPipe id) still =
      subst (Found w (awake v) q) (sym (roused_on id pipes (is_marked id v.rest.files) refl)) (found_on q id (is_marked id v.rest.files) refl still)

  idle_awake : (x : State) → IfWaits x ⊥ → IfWaits (roused_all pipes x) ⊥
  idle_awake Ready h = subst (λ (x : State). IfWaits x ⊥) (sym (all_ready pipes)) tt
  idle_awake (Lent child) h = subst (λ (x : State). IfWaits x ⊥) (sym (all_lent pipes child)) tt
  idle_awake (Waiting who) h = absurd h
  idle_awake (OnPipe id) h = absurd h

  -- what is found was there before
  before : (other : ℕ) (later : Process) → find pid_of other (awake v).procs ≡ Some later → (x : Process) × (find pid_of other v.procs ≡ Some x) × (woke pipes x ≡ later)
  before other later is = by (find pid_of other v.procs) refl (sym (find_roused pipes v.procs other) ∙ is)
    where
      by : (o : Option Process) → find pid_of other v.procs ≡ o → option_map (woke pipes) o ≡ Some later → (x : Process) × (find pid_of other v.procs ≡ Some x) × (woke pipes x ≡ later)
      by None of is = absurd cc
      by (Some x) of is = (x, of, (let same : woke pipes x ≡ later = cc in same))

  pub settled_awake : Settled w p (awake v)
  settled_awake = record {
    others = λ other q later beside was is.
        let b = before other later is in
        subst (λ (x : Process). Found w (awake v) q x.state) b.2 (found_awake q b.0.state (moves.others other q b.0 beside was b.1));
    own = λ later is.
        let b = before p.pid later is in
        let own = moves.own b.0 b.1 in
        subst (λ (x : Process). IfWaits x.state (WaitsAgain (awake v) x) × (x.table ≡ p.table) × (has_table v.rest.files p.table ≡ true)) b.2
        (if_none (roused_all pipes b.0.state) (WaitsAgain (awake v) (woke pipes b.0)) (idle_awake b.0.state own.0), own.1, own.2);
    new = λ later is.
        let b = before w.next_pid later is in
        let new = moves.new b.0 b.1 in
        subst (λ (x : Process). IfWaits x.state ⊥ × (x.table ≡ free_number w.rest.files.tables) × (has_table v.rest.files x.table ≡ true)) b.2
        (idle_awake b.0.state new.0, new.1, new.2);
    views = λ other fd shown id end beside is leads. same_view other fd ∙ moves.shows.views other fd shown id end beside is leads;
  }

-- ---- a wait

module _ (w : World) (p : Process) (s : LiveSpace) (st : State) (falls : Falls pid_of w.next_pid w.procs) (lives : find pid_of p.pid w.procs ≡ Some p) (space : find id_of p.space w.spaces ≡ Some s)
    (has : has_table w.rest.files p.table ≡ true) (at_call : meaning p.regs s.space.bytes (writable_in s.space.maps) ≡ call) (waits : answer w p s.space ≡ waited w p st) where
  abbrev to : Process → Process
  to q = record q { state = st }

  abbrev then : World
  then = counted (with_state w p.pid st)

  child_then : (own : ℕ) (who : Who) → has_child own who w.procs ≡ true → has_child own who then.procs ≡ true
  unfolding has_child
  child_then own who is = any_change pid_of p.pid (λ (x : Process). is_child own who x.pid x.parent) to (λ x. refl) w.procs ∙ is

  found_then : (q : Process) (x : State) → q.state ≡ x → Found w then q x
  found_then q Ready is = tt
  found_then q (Lent child) is = tt
  found_then q (Waiting who) is = (is, λ none. none, child_then q.pid who)
  found_then q (OnPipe id) is = (is, λ given. refl)

  if_all : (x : State) (P : Type 0) → P → IfWaits x P
  if_all Ready P h = tt
  if_all (Waiting who) P h = h
  if_all (OnPipe id) P h = h
  if_all (Lent child) P h = tt

  again_then : WaitsAgain then (to p)
  again_then = record {
    space = s;
    has = space;
    at_call = at_call;
    again = waits_again w then p p.parent st s.space st lives (record {
      views = λ fd v id end shown leads. shown;
      pipes = λ fd v id end shown leads on. refl;
      ended = λ who on none. none;
      child = λ who on. child_then p.pid who;
    }) waits;
  }

  pub settled_wait : Settled w p then
  settled_wait = record {
    others = λ other q later beside was is.
        let same : q ≡ later = let e = sym was ∙ sym (find_beside_change pid_of p.pid other beside to (λ y. refl) w.procs) ∙ is in cc in
        subst (λ (x : Process). Found w then q x.state) same (found_then q q.state refl);
    own = λ later is.
        let same : to p ≡ later = let e = sym (find_changed pid_of p.pid to (λ y. refl) w.procs ∙ ap (option_map to) lives) ∙ is in cc in
        subst (λ (x : Process). IfWaits x.state (WaitsAgain then x) × (x.table ≡ p.table) × (has_table w.rest.files p.table ≡ true)) same
        (if_all st (WaitsAgain then (to p)) again_then, refl, has);
    new = λ later is.
        let low : p.pid < w.next_pid = find_below pid_of p.pid w.next_pid w.procs p falls lives in
        let there : find pid_of w.next_pid w.procs ≡ Some later = sym (find_beside_change pid_of p.pid w.next_pid (λ e. absurd (omega (arith, low))) to (λ y. refl) w.procs) ∙ is in
        let high : w.next_pid < w.next_pid = find_below pid_of w.next_pid w.next_pid w.procs later falls there in
        absurd (omega (arith, high));
    views = λ other fd v id end beside shown leads. shown;
  }

-- ---- a call

any_row : (r : Row) → Answers (λ rest. Unit {0}) r
any_row (replies r) = tt
any_row (waits state) = tt

-- it is one event, or a wait
abbrev OneOrWait : World → Process → World → Trace → Type 0
OneOrWait w p v t = (t.events ≡ 1) ⊎ ((st : State) × (v ≡ counted (with_state w p.pid st)) × (t ≡ record { space = p.space; events = 0; items = []; begins = None; over = true }))

wait_is : (w : World) (p : Process) (st : State) (v : World) (u : Trace) → v ≡ counted (with_state w p.pid st)
    → u ≡ record { space = p.space; events = 0; items = []; begins = None; over = true } → went v u ≡ waited w p st
unfolding waited
wait_is w p st v u world trace = λ j. went (world j) (trace j)

module _ (w : World) (p : Process) (s : Space) (bytes : List ℕ) where
  abbrev a : Ask
  a = ask_of w p s bytes

  one_or_wait : Answered (OneOrWait w p) (λ rest. Unit {0}) w a
  one_or_wait = record {
    reply = λ ended r m holds room. inl refl;
    wait = λ state. inr (state, refl, refl);
    exit = λ room. inl refl;
    fork = λ few room. inl refl;
    load = λ f strings page is fits room. inl refl;
  }

  call_is : Went (OneOrWait w p) (classed w a)
  call_is = by_classed (OneOrWait w p) (λ rest. Unit {0}) w a one_or_wait tt (any_row (row a))

  module _ (falls : Falls pid_of w.next_pid w.procs) (lives : find pid_of p.pid w.procs ≡ Some p) (ready : p.state ≡ Ready)
      (has : has_table w.rest.files p.table ≡ true) (counts : AreCounted w.rest.files) where
    none_told : (ended : List Ended) → Told w a ended → (own : ℕ) (who : Who) → first_ended own who w.ended ≡ None → first_ended own who ended ≡ None
    none_told ended (inl same) own who none = ap (first_ended own who) same ∙ none
    none_told ended (inr told) own who none = ap (first_ended own who) told.1 ∙ none_without own who p.pid told.0 w.ended none

    abbrev MovesTo : World → Type 0
    MovesTo v = Moves w p v.procs v.ended v.rest.files

    behind : Behind MovesTo (ShowsAsIn p.table w.rest.files) w a
    unfolding ended
    behind = record {
      reply = λ ended r m told rest.
          moves_regs w p falls lives ready has counts (replied p.regs r.value) ended r.rest.files (none_told ended told) rest.0 (rest.1 ∙ has);
      exit = moves_left w p falls lives ready has counts _;
      fork = moves_forked w a falls lives has;
      load = λ f strings page. moves_loaded w p falls lives ready has counts (loading_of f strings page);
    }

    call_moves : Happens MovesTo (classed w a)
    call_moves = by_call MovesTo (ShowsAsIn p.table w.rest.files) w a behind (shows_itself p.table w.rest.files, refl) (rows_show a counts)

-- ---- an event

module _ (w : World) (order : IsOrdered w) (well : WaitsWell w) (p : Process) (s : LiveSpace) (lives : find pid_of p.pid w.procs ≡ Some p) (ready : p.state ≡ Ready)
    (space : find id_of p.space w.spaces ≡ Some s) where
  falls : Falls pid_of w.next_pid w.procs
  falls = order.sound.pids

  has : has_table w.rest.files p.table ≡ true
  has = well.has_table p.pid p lives

  counts : AreCounted w.rest.files
  counts = order.counted.counted

  -- where no pipe is marked
  settled_plain : (v : World) → v.rest.files.changed ≡ [] → Moves w p v.procs v.ended v.rest.files → Settled w p v
  settled_plain v unmarked moves = subst (Settled w p) (not_awake v unmarked) (settled_awake w p v moves)

  module _ (now : World) (t : Trace) where
    settled_call : (at_call : meaning p.regs s.space.bytes (writable_in s.space.maps) ≡ call) (v : World) (u : Trace) → answer w p s.space ≡ went v u → now ≡ awake v → Settled w p now
    unfolding answer
    settled_call at_call v u goes is = by (sent (number_of p.regs) (args_of p.regs) s.space.bytes) refl goes
      where
        by_wait : (bytes : List ℕ) → classed w (ask_of w p s.space bytes) ≡ went v u → answer w p s.space ≡ went v u → OneOrWait w p v u → Settled w p now
        by_wait bytes does goes (inl one) =
            let moves = subst (Happens (λ (x : World). Moves w p x.procs x.ended x.rest.files)) does (call_moves w p s.space bytes falls lives ready has counts) one in
            subst (Settled w p) (sym is) (settled_awake w p v moves)
        by_wait bytes does goes (inr wait) =
            let waits : answer w p s.space ≡ waited w p wait.0 = goes ∙ wait_is w p wait.0 v u wait.1 wait.2 in
            let same : now ≡ counted (with_state w p.pid wait.0) = is ∙ ap awake wait.1 ∙ not_awake (counted (with_state w p.pid wait.0)) order.unmarked in
            subst (Settled w p) (sym same) (settled_wait w p s wait.0 falls lives space has at_call waits)

        by : (o : Result (List ℕ) Span) → sent (number_of p.regs) (args_of p.regs) s.space.bytes ≡ o → asked w p s.space o ≡ went v u → Settled w p now
        by (Ok bytes) reads does = by_wait bytes does goes (subst (Went (OneOrWait w p)) does (call_is w p s.space bytes))
        by (Err span) reads does = absurd cc

    settled_trap : (signal : ℕ) (v : World) (u : Trace) → trapped w p signal ≡ went v u → now ≡ awake v → Settled w p now
    unfolding trapped ended
    settled_trap signal v u goes is =
        let moves = moves_left w p falls lives ready has counts (Signal signal) in
        let same : counted_in p.space (ended w p (Signal signal)) ≡ v = cc in
        subst (Settled w p) (sym (is ∙ ap awake (sym same))) (settled_awake w p (counted_in p.space (ended w p (Signal signal))) moves)

    settled_step : (regs : Regs) (bytes : Bytes) → stepped w p s.space regs bytes ≡ went now t → Settled w p now
    unfolding stepped
    settled_step regs bytes is =
        let then : World = counted_in p.space (with_space w p regs (record s.space { bytes = bytes })) in
        let moves = moves_regs w p falls lives ready has counts regs w.ended w.rest.files (λ own who none. none) (shows_itself p.table w.rest.files) has in
        let same : then ≡ now = cc in
        subst (Settled w p) same (settled_plain then order.unmarked moves)

    settled_effect : (m : Meaning) → meaning p.regs s.space.bytes (writable_in s.space.maps) ≡ m → effect w p s.space m ≡ went now t → Settled w p now
    settled_effect (next regs bytes) means is = settled_step regs bytes is
    settled_effect call means is = let of = settled_of (answer w p s.space) now t is in settled_call means of.0 t of.1 of.2
    settled_effect (trap signal) means is = let of = settled_of (trapped w p signal) now t is in settled_trap signal of.0 t of.1 of.2
    settled_effect (refused access) means is = absurd cc

    pub settled_event : event w p.pid ≡ went now t → Settled w p now
    settled_event is = settled_effect (meaning p.regs s.space.bytes (writable_in s.space.maps)) refl (sym (event_is w p.pid p s lives space) ∙ is)

-- ---- what is left of all who wait

pub events_keep_waits_in : (w : World) (pid : ℕ) (now : World) (t : Trace) → IsOrdered w → WaitsWell w → MayRun w pid → event w pid ≡ went now t → AreChains now.procs → AreLent now → WaitsWell now
events_keep_waits_in w pid now t order well may is chains lenders =
    let others = events_leave_others w pid now t is in
    let p : Process = others.0 in
    let key : p.pid ≡ pid = find_key pid_of pid w.procs p others.1 in
    let lives : find pid_of p.pid w.procs ≡ Some p = ap (λ (n : ℕ). find pid_of n w.procs) key ∙ others.1 in
    let ready : p.state ≡ Ready = (let e = sym (ap (option_map (λ (q : Process). q.state)) others.1) ∙ may in cc) in
    let leaves : LeavesOthers p.pid p.space p.table w now = subst (λ (n : ℕ). LeavesOthers n p.space p.table w now) (sym key) others.3 in
    by p lives ready leaves (ap (event w) key ∙ is) (find id_of p.space w.spaces) refl (order.sound.homes p.pid p lives)
  where
    by : (p : Process) → find pid_of p.pid w.procs ≡ Some p → p.state ≡ Ready → LeavesOthers p.pid p.space p.table w now → event w p.pid ≡ went now t
        → (o : Option LiveSpace) → find id_of p.space w.spaces ≡ o → IsSome o → WaitsWell now
    by p lives ready leaves goes None space some = absurd cc
    by p lives ready leaves goes (Some s) space some =
        well_settled w p now order well lives ready leaves (settled_event w order well p s lives ready space now t goes) chains lenders
