-- A call by its class, and what goes on behind it, in the one memory.
use Rattle.std.proofs.Common.{◌≡◌, ℕ, Bool, true, false, List, length, Option, Some, Result, Ok, Err, refl, sym, ap, subst, ◌∙◌}
use Rattle.std.specs.declared.alloc.AllocError.{AllocError}
use Rattle.byte_words.specs.ByteMap.{Bytes}
use Rattle.region_watch.specs.Private.{only, physical}
use Rattle.region_watch.proofs.Accesses.{all_pages}
use Rattle.call_log.specs.Sent.{Span, sent}
use Rattle.mmap_rules.specs.Held.{Held}
use Rattle.mmap_rules.specs.Space.{Space}
use Rattle.vfork_exec.specs.declared.entry.Entry.{Entry}
use Rattle.vfork_exec.specs.declared.family.State.TheVariants.{OnPipe}
use Rattle.vfork_exec.specs.Procs.{Lives}
use Rattle.machine_world.specs.World.{Process, LiveSpace}
use Rattle.machine_world.specs.Asks.{Ask, Row, replies}
use Rattle.machine_world.specs.Rows.{row}
use Rattle.machine_world.specs.Event as event
use Rattle.machine_world.specs.Event.{trapped, number_of, args_of, waited, answered, exited, is_exit, cloned, exec, awake}
use Rattle.file_calls.specs.declared.call.Call.{Call}
use Rattle.file_calls.specs.Calls.{WaitsOn}
use Rattle.memory_world.specs.Physical.{Physical, After, after, no_room, nobody, carried, settled_in, killed, answered_in, waitid_in, classed_in, asked_in, answer_in, in_space_in, by_process_in, at_process_in, called_in, died_in, outside}
use Rattle.memory_world.proofs.Sub.{sent_sub}
use Rattle.memory_world.proofs.InMemory.{answered_begins, exited_begins, cloned_begins, waited_begins}
use Rattle.kept_parts.specs.declared.task.Task.{Task}
use Rattle.kept_parts.specs.declared.effect.Effect.{Effect}
use Rattle.kept_parts.specs.declared.effect.Effect.TheVariants.{Answer, Yield, Break}
use Rattle.call_bytes.specs.declared.unread.Unread.{Unread}
use Rattle.call_bytes.specs.declared.unread.Unread.TheVariants.{Stray}
use Rattle.region_watch.specs.declared.mode.Mode.{Mode}
use Rattle.region_watch.specs.declared.mode.Mode.TheVariants.{Halt, GoOn}
use Rattle.kept_parts.specs.declared.served.Served.{Served}
use Rattle.kept_parts.specs.declared.served.Served.TheVariants as result
use Rattle.kept_parts.specs.Kept.{Kept}
use Rattle.kept_parts.specs.Regular.{Regular}
use Rattle.kept_parts.specs.Stands.{About, later, private_bytes, private_of, process_of, world_of}
use Rattle.kept_parts.specs.Awake.{awake_in}
use Rattle.kept_parts.specs.Serves.{went_by, Answered, Serves, Died}
use Rattle.kept_parts.specs.Calls.{LivesIn, IsCall, ask_in, reply_of, Made, Caller, asked_by}
use Rattle.kept_parts.specs.Reach.{readable}
use Rattle.kept_parts.specs.InMemory.{physical_of, Over, GoesIn, ServesIn, UnlessStray, InReach, DiedIn}
use Rattle.kept_parts.proofs.Replies.QuietRows.{IsMute}
use Rattle.kept_parts.proofs.Common.RunningProcess.{runs_in}
use Rattle.kept_parts.proofs.Replies.Outcomes.{IsRow, wait_row, waits_is, process_there, space_there}
use Rattle.kept_parts.proofs.Replies.Wakes.{world_now, lives_now, gone_now}
use Rattle.kept_parts.proofs.Replies.PlainMemory.{answered_never, exited_never, cloned_never, waited_never, mute_carried, plain_goes, plain_in, plain_died}
use Rattle.kept_parts.proofs.Ends.Memory.{died_carried, ending_begins}

-- ---- classes

module _ (p : Physical) (a : Ask) where
  class_exit : is_exit a.number ≡ true → classed_in p a ≡ carried p p.memory (exited p.world a)
  class_exit exits = rw exits refl

  class_clone : a.number ≡ 220 → classed_in p a ≡ carried p p.memory (cloned p.world a)
  class_clone is = rw is refl

  class_exec : a.number ≡ 221 → classed_in p a ≡ carried p p.memory (exec p.world a)
  class_exec is = rw is refl

  class_waitid : a.number ≡ 95 → classed_in p a ≡ waitid_in p a
  class_waitid is = rw is refl

  class_row : IsRow a.number → classed_in p a ≡ answered_in p a (row a)
  class_row c = rw (c.exits, c.n220, c.n221, c.n95) refl

-- ---- within its own bytes or in all of memory

module _ (headers : List (List ℕ)) (a : About) (x : After) (old new : Kept) (pid : ℕ) where
  unless_stray : (s : Served) (T : Type 0) → T → UnlessStray s T
  unless_stray (result.Stray access) T is = tt
  unless_stray result.Replied T is = is
  unless_stray result.TurnEnds T is = is
  unless_stray result.Waits T is = is
  unless_stray result.Ended T is = is
  unless_stray result.LogFull T is = is

  pub in_reach : (mode : Mode) (r : Result Served AllocError) → ServesIn headers a x old new pid r → InReach mode headers a x old new pid r
  in_reach Halt (Ok s) serves = unless_stray s (GoesIn headers a x old new pid s) serves
  in_reach GoOn (Ok s) serves = serves
  in_reach Halt (Err error) serves = serves
  in_reach GoOn (Err error) serves = serves

-- what is the same comes of it
pub same_reach : (headers : List (List ℕ)) (a : About) (mode : Mode) (x y : After) → y ≡ x → (old new : Kept) (pid : ℕ) (r : Result Served AllocError) →
    InReach mode headers a x old new pid r → InReach mode headers a y old new pid r
same_reach headers a mode x y same old new pid r = subst (λ (z : After). InReach mode headers a z old new pid r) (sym same)

-- ---- those go on that wait

module _ (headers : List (List ℕ)) (a : About) (pid : ℕ) where
  module _ (mid new : Kept) (kept : new ≡ awake_in mid) where
    awake_now : (p : Physical) → p ≡ physical_of headers (later 1 a) mid → record p { world = awake p.world } ≡ physical_of headers (later 1 a) new
    unfolding physical_of
    awake_now p is =
        ap (λ (q : Physical). record q { world = awake q.world }) is
        ∙ (λ i. record { world = sym (world_now a pid mid new kept) i; memory = physical (sym kept i).mem; headers = headers })

    over_now : (over : Bool) (s : Served) → Over over mid pid s → Over over new pid s
    over_now over result.Replied was = (was.0, lives_now a pid mid new kept was.1)
    over_now over result.TurnEnds was = (was.0, lives_now a pid mid new kept was.1)
    over_now over result.Waits was = (was.0, lives_now a pid mid new kept was.1)
    over_now over result.Ended was = (was.0, gone_now a pid mid new kept was.1)
    over_now over (result.Stray access) was = was
    over_now over result.LogFull was = was

    pub settled_goes : (x : After) (old : Kept) (s : Served) → went_by s ≡ true → GoesIn headers a x old mid pid s → GoesIn headers a (settled_in x) old new pid s
    settled_goes (after p over) old s goes was = (awake_now p was.0, over_now over s was.1)
    settled_goes (no_room p) old result.Replied goes was = absurd was.2
    settled_goes (no_room p) old result.TurnEnds goes was = absurd was.2
    settled_goes (no_room p) old result.Waits goes was = absurd was.2
    settled_goes (no_room p) old result.Ended goes was = absurd was.2
    settled_goes (no_room p) old (result.Stray access) goes was = absurd was.2
    settled_goes (no_room p) old result.LogFull goes was = absurd cc
    settled_goes nobody old s goes was = was

    pub settled_reach : (mode : Mode) (x : After) (old : Kept) (s : Served) → went_by s ≡ true → InReach mode headers a x old mid pid (Ok s) → InReach mode headers a (settled_in x) old new pid (Ok s)
    settled_reach GoOn x old s goes was = settled_goes x old s goes was
    settled_reach Halt x old result.Replied goes was = settled_goes x old result.Replied goes was
    settled_reach Halt x old result.TurnEnds goes was = settled_goes x old result.TurnEnds goes was
    settled_reach Halt x old result.Waits goes was = settled_goes x old result.Waits goes was
    settled_reach Halt x old result.Ended goes was = settled_goes x old result.Ended goes was
    settled_reach Halt x old (result.Stray access) goes was = tt
    settled_reach Halt x old result.LogFull goes was = absurd cc

    pub settled_dies : (x : After) → DiedIn headers a x mid pid → DiedIn headers a (settled_in x) new pid
    settled_dies (after p over) was = (awake_now p was.0, was.1, gone_now a pid mid new kept was.2)
    settled_dies (no_room p) was = was
    settled_dies nobody was = was

    -- a process dies, and then those go on
    pub ending_in : (old : Kept) (signal : ℕ) → mid.mem ≡ old.mem → Died a (event.at_process (world_of a old) pid (λ q s. trapped (world_of a old) q signal)) mid pid →
        DiedIn headers a (died_in (physical_of headers a old) pid signal) new pid
    unfolding physical_of
    ending_in old signal same died =
        let o = event.at_process (world_of a old) pid (λ q s. trapped (world_of a old) q signal) in
        subst (λ (x : After). DiedIn headers a x new pid) (sym (died_carried (physical_of headers a old) signal pid))
        (settled_dies (carried (physical_of headers a old) (physical old.mem) o) (plain_died headers a old mid same pid o died (ending_begins (world_of a old) pid signal)))

  -- it was no event
  unsettled_goes : (x : After) (old new : Kept) (s : Served) → went_by s ≡ false → GoesIn headers a x old new pid s → GoesIn headers a (settled_in x) old new pid s
  unsettled_goes (after p over) old new result.Replied goes was = absurd cc
  unsettled_goes (after p over) old new result.TurnEnds goes was = absurd cc
  unsettled_goes (after p over) old new result.Waits goes was = absurd cc
  unsettled_goes (after p over) old new result.Ended goes was = absurd cc
  unsettled_goes (after p over) old new (result.Stray access) goes was = absurd was.1
  unsettled_goes (after p over) old new result.LogFull goes was = absurd was.1
  unsettled_goes (no_room p) old new s goes was = was
  unsettled_goes nobody old new s goes was = was

  pub unsettled_reach : (mode : Mode) (x : After) (old new : Kept) (s : Served) → went_by s ≡ false → InReach mode headers a x old new pid (Ok s) → InReach mode headers a (settled_in x) old new pid (Ok s)
  unsettled_reach GoOn x old new s goes was = unsettled_goes x old new s goes was
  unsettled_reach Halt x old new result.Replied goes was = absurd cc
  unsettled_reach Halt x old new result.TurnEnds goes was = absurd cc
  unsettled_reach Halt x old new result.Waits goes was = absurd cc
  unsettled_reach Halt x old new result.Ended goes was = absurd cc
  unsettled_reach Halt x old new (result.Stray access) goes was = tt
  unsettled_reach Halt x old new result.LogFull goes was = unsettled_goes x old new result.LogFull goes was

-- a reply of an effect gives no bytes
effect_mute : (a : Ask) (f : Effect) (r : Row) → r ≡ replies (reply_of a f) → IsMute r
effect_mute a f r is = subst IsMute (sym is) (got_none f)
  where
    got_none : (g : Effect) → IsMute (replies (reply_of a g))
    got_none (Answer value) = refl
    got_none Yield = refl
    got_none (Break to) = refl

-- ---- a call of its class

module _ (headers : List (List ℕ)) (a : About) (k : Kept) (e : Entry Task) (h : Held) (call : Call) (is : IsCall e call) where
  abbrev ask : Ask
  ask = ask_in a k e h call

  abbrev before : Physical
  before = physical_of headers a k

  module _ (mode : Mode) (new : Kept) (r : Result Served AllocError) where
    by_after : (x : After) → classed_in before ask ≡ x → InReach mode headers a x k new call.pid r → InReach mode headers a (classed_in before ask) k new call.pid r
    by_after x same = same_reach headers a mode x (classed_in before ask) same k new call.pid r

    -- one that gives no bytes
    pub mute_reach : IsRow call.number → IsMute (row ask) → new.mem ≡ k.mem → Serves a (answered (world_of a k) ask (row ask)) k new call.pid r →
        InReach mode headers a (classed_in before ask) k new call.pid r
    unfolding physical_of
    mute_reach goes mute same serves =
        by_after (carried before (physical k.mem) (answered (world_of a k) ask (row ask)))
        (class_row before ask (subst IsRow is.number goes) ∙ mute_carried before ask (row ask) mute)
        (in_reach headers a _ k new call.pid mode r
        (plain_in headers a k new same call.pid _ r serves (answered_begins (world_of a k) ask (row ask)) (answered_never (world_of a k) ask (row ask) mute)))

    pub effect_reach : (f : Effect) → IsRow call.number → row ask ≡ replies (reply_of ask f) → new.mem ≡ k.mem →
        Serves a (answered (world_of a k) ask (replies (reply_of ask f))) k new call.pid r → InReach mode headers a (classed_in before ask) k new call.pid r
    effect_reach f goes rows same serves =
        mute_reach goes (effect_mute ask f (row ask) rows) same (subst (λ (x : Row). Serves a (answered (world_of a k) ask x) k new call.pid r) (sym rows) serves)

    pub row_reach : IsRow call.number → InReach mode headers a (answered_in before ask (row ask)) k new call.pid r → InReach mode headers a (classed_in before ask) k new call.pid r
    row_reach goes = by_after (answered_in before ask (row ask)) (class_row before ask (subst IsRow is.number goes))

    -- one that gives no bytes, and brings some
    pub carried_reach : IsRow call.number → IsMute (row ask) → ServesIn headers a (carried before (physical k.mem) (answered (world_of a k) ask (row ask))) k new call.pid r →
        InReach mode headers a (classed_in before ask) k new call.pid r
    unfolding physical_of
    carried_reach goes mute serves =
        by_after (carried before (physical k.mem) (answered (world_of a k) ask (row ask)))
        (class_row before ask (subst IsRow is.number goes) ∙ mute_carried before ask (row ask) mute)
        (in_reach headers a _ k new call.pid mode r serves)

    pub waitid_reach : call.number ≡ 95 → InReach mode headers a (waitid_in before ask) k new call.pid r → InReach mode headers a (classed_in before ask) k new call.pid r
    waitid_reach same = by_after (waitid_in before ask) (class_waitid before ask (sym is.number ∙ same))

    pub exit_reach : is_exit call.number ≡ true → new.mem ≡ k.mem → Serves a (exited (world_of a k) ask) k new call.pid r → InReach mode headers a (classed_in before ask) k new call.pid r
    unfolding physical_of
    exit_reach exits same serves =
        by_after (carried before (physical k.mem) (exited (world_of a k) ask)) (class_exit before ask (ap is_exit (sym is.number) ∙ exits))
        (in_reach headers a _ k new call.pid mode r
        (plain_in headers a k new same call.pid _ r serves (exited_begins (world_of a k) ask) (exited_never (world_of a k) ask)))

    pub clone_reach : call.number ≡ 220 → new.mem ≡ k.mem → Serves a (cloned (world_of a k) ask) k new call.pid r → InReach mode headers a (classed_in before ask) k new call.pid r
    unfolding physical_of
    clone_reach number same serves =
        by_after (carried before (physical k.mem) (cloned (world_of a k) ask)) (class_clone before ask (sym is.number ∙ number))
        (in_reach headers a _ k new call.pid mode r
        (plain_in headers a k new same call.pid _ r serves (cloned_begins (world_of a k) ask) (cloned_never (world_of a k) ask)))

    pub exec_reach : call.number ≡ 221 → ServesIn headers a (carried before (physical k.mem) (exec (world_of a k) ask)) k new call.pid r →
        InReach mode headers a (classed_in before ask) k new call.pid r
    unfolding physical_of
    exec_reach number serves =
        by_after (carried before (physical k.mem) (exec (world_of a k) ask)) (class_exec before ask (sym is.number ∙ number))
        (in_reach headers a _ k new call.pid mode r serves)

  -- one that waits on a pipe
  pub wait_reach : (mode : Mode) (new : Kept) (s : Served) (pipe : ℕ) → is_exit call.number ≡ false → WaitsOn (row ask) (Some pipe) → new.mem ≡ k.mem →
      Answered a (waited (world_of a k) (process_of e) (OnPipe pipe)) k new call.pid s → InReach mode headers a (classed_in before ask) k new call.pid (Ok s)
  unfolding physical_of
  wait_reach mode new s pipe goes waits_so same serves =
      by_after mode new (Ok s) (carried before (physical k.mem) (waited (world_of a k) (process_of e) (OnPipe pipe)))
      (class_row before ask (wait_row ask pipe waits_so (ap is_exit (sym is.number) ∙ goes)) ∙ ap (answered_in before ask) (waits_is (row ask) pipe waits_so))
      (in_reach headers a _ k new call.pid mode (Ok s)
      (plain_goes headers a k new same call.pid _ s serves (waited_begins (world_of a k) (process_of e) (OnPipe pipe)) (waited_never (world_of a k) (process_of e) (OnPipe pipe))))

-- ---- the whole call

module _ (headers : List (List ℕ)) (a : About) (k : Kept) (pid : ℕ) (e : Entry Task) (h : Held) (runs : LivesIn k pid e h) where
  acts_in : (act : Process → Space → After) → at_process_in (physical_of headers a k) pid act ≡ act (process_of e) (private_of k.mem h)
  unfolding at_process_in physical_of
  acts_in act =
      ap (λ (o : Option Process). by_process_in (world_of a k).spaces act o) (process_there a k pid e h runs)
      ∙ ap (λ (o : Option LiveSpace). in_space_in act (process_of e) o) (space_there a k pid e h runs)

  -- by what it reads of memory
  called_by : (found : Result (List ℕ) Span) → sent (number_of e.value.regs) (args_of e.value.regs) (physical k.mem) ≡ found →
      called_in (physical_of headers a k) pid ≡ settled_in (asked_in (physical_of headers a k) (process_of e) (private_of k.mem h) found)
  unfolding called_in answer_in physical_of
  called_by found is =
      acts_in (λ q s. settled_in (answer_in (physical_of headers a k) q s))
      ∙ ap (λ (r : Result (List ℕ) Span). settled_in (asked_in (physical_of headers a k) (process_of e) (private_of k.mem h) r)) is

  called_dies : (span : Span) → sent (number_of e.value.regs) (args_of e.value.regs) (physical k.mem) ≡ Err span → called_in (physical_of headers a k) pid ≡ died_in (physical_of headers a k) pid outside
  unfolding died_in
  called_dies span is = called_by (Err span) is ∙ sym (acts_in (λ q s. settled_in (killed (physical_of headers a k) q outside)))

  called_is : (call : Call) → sent (number_of e.value.regs) (args_of e.value.regs) (physical k.mem) ≡ Ok call.sent.items →
      called_in (physical_of headers a k) pid ≡ settled_in (classed_in (physical_of headers a k) (ask_in a k e h call))
  unfolding physical_of
  called_is call is = called_by (Ok call.sent.items) is

-- a process that died ended
pub died_goes : (headers : List (List ℕ)) (a : About) (x : After) (old new : Kept) (pid : ℕ) → DiedIn headers a x new pid → GoesIn headers a x old new pid result.Ended
died_goes headers a (after p over) old new pid was = (was.0, (was.1, was.2))
died_goes headers a (no_room p) old new pid was = absurd was
died_goes headers a nobody old new pid was = absurd was

-- what is read within reach of a process
abbrev pub MadeAs : Kept → ℕ → Mode → Result Call Unread → Type 0
MadeAs k pid mode r = (e : Entry Task) → (h : Held) → LivesIn k pid e h → Made (only (readable mode (length k.regions) h) (physical k.mem)) e r

pub own_made : (k : Kept) (pid : ℕ) (mode : Mode) → mode ≡ Halt → (r : Result Call Unread) → MadeAs k pid mode r →
    (e : Entry Task) → (h : Held) → LivesIn k pid e h → Made (private_bytes k.mem h) e r
unfolding private_bytes
own_made k pid mode own r made e h runs = subst (λ (x : Mode). Made (only (readable x (length k.regions) h) (physical k.mem)) e r) own (made e h runs)

module _ (headers : List (List ℕ)) (a : About) (k : Kept) (pid : ℕ) (regular : Regular k) (lives : Lives k.procs pid) (mode : Mode) where
  -- what is read within reach is read of all of memory
  pub call_goes : (call : Call) → call.pid ≡ pid → MadeAs k pid mode (Ok call) → (new : Kept) (r : Result Served AllocError) →
      ((caller : Caller k call) → InReach mode headers a (settled_in (classed_in (physical_of headers a k) (asked_by a caller))) k new call.pid r) →
      InReach mode headers a (called_in (physical_of headers a k) pid) k new pid r
  call_goes call same made new r goes =
      let there = runs_in k pid regular lives in
      let e : Entry Task = there.0 in
      let h : Held = there.1.0 in
      let runs : LivesIn k pid e h = there.1.1 in
      let at = made e h runs in
      let reads = sent_sub (readable mode (length k.regions) h) (physical k.mem) (number_of e.value.regs) (args_of e.value.regs) call.sent.items at.1 in
      same_reach headers a mode _ _ (called_is headers a k pid e h runs call reads) k new pid r
      (subst (λ (n : ℕ). InReach mode headers a (settled_in (classed_in (physical_of headers a k) (ask_in a k e h call))) k new n r) same
      (goes (record { entry = e; held = h; runs = subst (λ (n : ℕ). LivesIn k n e h) (sym same) runs; stands = at.0 })))

  -- a range outside memory
  pub called_outside : mode ≡ GoOn → (addr len : ℕ) → MadeAs k pid mode (Err (Stray addr len)) → called_in (physical_of headers a k) pid ≡ died_in (physical_of headers a k) pid outside
  called_outside whole addr len made =
      let there = runs_in k pid regular lives in
      let e : Entry Task = there.0 in
      let h : Held = there.1.0 in
      let span : Span = record { addr = addr; len = len } in
      called_dies headers a k pid e h there.1.1 span
      (subst (λ (m : Bytes). sent (number_of e.value.regs) (args_of e.value.regs) m ≡ Err span) (all_pages (length k.regions) k.mem regular.memory)
      (subst (λ (x : Mode). sent (number_of e.value.regs) (args_of e.value.regs) (only (readable x (length k.regions) h) (physical k.mem)) ≡ Err span) whole (made e h there.1.1)))
