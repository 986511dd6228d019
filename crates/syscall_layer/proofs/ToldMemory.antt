-- What a waitid leaves of the one memory.
use Rattle.std.proofs.Common.{◌≡◌, ◌≢◌, ℕ, Bool, true, false, not, ◌&&◌, inl, inr, cond, List, [], ◌∷◌, ◌++◌, None, Some, Option, refl, sym, ap, subst, ◌∙◌}
use Rattle.std.specs.Prelude.{◌==◌, filter, if◌then◌else◌, slice_index, Result, Ok, Err}
use Rattle.std.specs.declared.alloc.AllocError.{AllocError}
use Rattle.byte_words.specs.ByteMap.{Bytes}
use Rattle.call_log.specs.declared.errno.Errno.{Errno}
use Rattle.call_log.specs.Errno.{refusal}
use Rattle.call_log.specs.declared.how.How.TheVariants.{Signal}
use Rattle.call_log.specs.Notes.{end_note}
use Rattle.call_log.specs.Sent.{Span}
use Rattle.mmap_rules.specs.Held.{Held}
use Rattle.vfork_exec.specs.declared.family.Who.{Who}
use Rattle.vfork_exec.specs.declared.family.Ended.{Ended}
use Rattle.vfork_exec.specs.declared.family.State.TheVariants.{Waiting}
use Rattle.vfork_exec.specs.declared.family.Waited.{Waited}
use Rattle.vfork_exec.specs.declared.family.Waited.TheVariants.{Child, NoneYet, Waits}
use Rattle.vfork_exec.specs.declared.entry.Entry.{Entry}
use Rattle.vfork_exec.specs.Families.{is_child, is_meant, ended_behind, without_first}
use Rattle.vfork_exec.specs.Procs.{process, looked, with_wait, with_state_at}
use Rattle.vfork_exec.proofs.Keyed.{decide}
use Rattle.vfork_exec.proofs.Families.{without_first_head}
use Rattle.machine_world.specs.World.{Process, World}
use Rattle.machine_world.specs.Asks.{Ask, Reply, Row, replies, waits, arg, gives, refuses}
use Rattle.machine_world.specs.FamilyCalls.{who_of, may_wait, waitid_fault, info_at}
use Rattle.machine_world.specs.Event.{Trace, Outcome, went, strays, full, idle, counted_in, noted, departed, ended, room_for, served, trapped, answered, waited}
use Rattle.file_calls.specs.declared.call.Call.{Call}
use Rattle.file_calls.specs.declared.outcome.Outcome.{Outcome as Output}
use Rattle.file_calls.specs.declared.outcome.Then.TheVariants.{Nothing}
use Rattle.file_calls.specs.Calls.{got_of}
use Rattle.flat_loader.specs.Alone.{put_got}
use Rattle.memory_world.specs.Physical.{Physical, After, after, no_room, in_memory, laid_behind, behind, carried, outside, killed, put_in, answered_in, full_at, reaped_in, waitid_behind_in, waitid_in}
use Rattle.memory_world.proofs.InMemory.{answered_begins, waited_begins}
use Rattle.kept_parts.specs.declared.task.Task.{Task}
use Rattle.kept_parts.specs.declared.effect.Effect.TheVariants.{Answer}
use Rattle.region_watch.specs.declared.mode.Mode.{Mode}
use Rattle.region_watch.specs.declared.mode.Mode.TheVariants.{Halt, GoOn}
use Rattle.kept_parts.specs.declared.served.Served.{Served}
use Rattle.kept_parts.specs.declared.served.Served.TheVariants as result
use Rattle.kept_parts.specs.Kept.{Kept}
use Rattle.kept_parts.specs.Stands.{About, later, process_of, world_of}
use Rattle.kept_parts.specs.Families.{info_of}
use Rattle.kept_parts.specs.Serves.{Serves}
use Rattle.kept_parts.specs.InMemory.{physical_of, Over, GoesIn, ServesIn, UnlessStray, InReach}
use Rattle.kept_parts.specs.Calls.{IsCall, ask_in, output_reply, reply_of}
use Rattle.kept_parts.proofs.Forks.Told.{IsTold, looked_told, left_of, Behind, given_is, told_world, told_lives, told_is, waits_serve}
use Rattle.kept_parts.proofs.Replies.PlainMemory.{answered_never, waited_never, mute_carried, plain_in, plain_goes}

-- ---- who dies leaves no children, so a child that it was told of is gone either way

module _ (own : ℕ) (who : Who) where
  abbrev stays : Ended → Bool
  stays child = not (child.parent == own)

  parent_is : (x y : Bool) → (x && y) ≡ true → x ≡ true
  parent_is true y is = refl
  parent_is false y is = absurd (let e : false ≡ true = is in cc)

  child_goes : (e : Ended) (es : List Ended) → is_child own who e.pid e.parent ≡ true → filter stays (e ∷ es) ≡ filter stays es
  child_goes e es is = ap (λ (b : Bool). cond (not b) (e ∷ filter stays es) (filter stays es)) (parent_is (e.parent == own) (is_meant who e.pid) is)

  children_go : (es : List Ended) → filter stays (without_first own who es) ≡ filter stays es
  unfolding without_first
  children_go [] = refl
  children_go (e ∷ es) = elim (decide (is_child own who e.pid e.parent)) [
    | inl is ↦ ap (filter stays) (without_first_head own who e es true is) ∙ sym (child_goes e es is)
    | inr is ↦
        ap (filter stays) (without_first_head own who e es false is)
        ∙ ap (λ (xs : List Ended). cond (stays e) (e ∷ xs) xs) (children_go es)
  ]

ended_without : (e : Ended) (who : Who) (es : List Ended) → ended_behind e (without_first e.pid who es) ≡ ended_behind e es
unfolding ended_behind
ended_without e who es = ap (λ (xs : List Ended). xs ++ (if e.parent == 0 then [] else e ∷ [])) (children_go e.pid who es)

ended_left : (e : Ended) (who : Who) (t : Waited) (es : List Ended) → ended_behind e (left_of e.pid who t es) ≡ ended_behind e es
ended_left e who (Child pid how) es = ended_without e who es
ended_left e who NoneYet es = refl
ended_left e who Waits es = refl

-- ---- where the log has no room nothing has changed

full_carried : (p : Physical) (memory : Bytes) (o : Outcome) → full_at p (carried p memory o) ≡ carried p memory o
full_carried p memory (went now t) = refl
full_carried p memory (strays access) = refl
full_carried p memory full = refl
full_carried p memory idle = refl

full_put : (p : Physical) (a : Ask) (r : Reply) (found : Result Bytes Span) → full_at p (put_in p a r found) ≡ put_in p a r found
full_put p a r (Ok memory) = full_carried p memory (served p.world a r r.space.bytes)
full_put p a r (Err span) = full_carried p p.memory (trapped p.world a.process outside)

full_answered : (p : Physical) (a : Ask) (row : Row) → full_at p (answered_in p a row) ≡ answered_in p a row
full_answered p a (replies r) = full_put p a r (put_got p.memory (in_memory p.world) r.got)
full_answered p a (waits state) = full_carried p p.memory (waited p.world a.process state)

-- ---- a reply in the one memory, where other processes have ended

module _ (p : Physical) (a : Ask) (left : List Ended) (r : Reply) where
  abbrev beside : Physical
  beside = record p { world = record p.world { ended = left } }

  -- its process dies the same way
  killed_beside : (q : Process) (signal : ℕ) → ended_behind (record { pid = q.pid; parent = q.parent; how = Signal signal }) left ≡ ended_behind (record { pid = q.pid; parent = q.parent; how = Signal signal }) p.world.ended →
      killed beside q signal ≡ killed p q signal
  unfolding trapped ended laid_behind
  killed_beside q signal same = ap (λ (es : List Ended).
      carried p p.memory
      (went (counted_in q.space (noted (end_note q.pid (Signal signal)) (record (departed p.world q (Signal signal)) { ended = es })))
      (record { space = q.space; events = 1; items = []; begins = None; over = true }))) same

  killed_over : (q : Process) (signal : ℕ) → (x : Physical) × (killed p q signal ≡ after x true)
  unfolding trapped
  killed_over q signal = (_, refl)

  module _ (R : After → After → Type 0) (goes : (x : Physical) → Behind p.world a left r x.world → R (after x r.over) (after (record x { world = record x.world { ended = left } }) r.over))
      (filled : R (no_room p) (no_room p)) (dies : (x : Physical) → R (after x true) (after x true))
      (same : ended_behind (record { pid = a.process.pid; parent = a.process.parent; how = Signal outside }) left ≡ ended_behind (record { pid = a.process.pid; parent = a.process.parent; how = Signal outside }) p.world.ended) where
    put_beside_in : (found : Result Bytes Span) → R (put_in p a r found) (full_at p (put_in beside a r found))
    unfolding served laid_behind
    put_beside_in (Err span) =
        let x = killed_over a.process outside in
        subst (λ (y : After). R (killed p a.process outside) (full_at p y)) (sym (killed_beside a.process outside same))
        (subst (λ (y : After). R y (full_at p y)) (sym x.1) (dies x.0))
    put_beside_in (Ok memory) = by_room (room_for p.world a r) _ _ _ (goes _ (refl, refl))
      where
        by_room : (b : Bool) (now : World) (next : World) (t : Trace) → R (carried p memory (went now t)) (carried beside memory (went next t)) →
            R (carried p memory (if b then went now t else full)) (full_at p (carried beside memory (if b then went next t else full)))
        by_room true now next t both = both
        by_room false now next t both = filled

    answered_beside_in : R (answered_in p a (replies r)) (full_at p (answered_in beside a (replies r)))
    answered_beside_in = put_beside_in (put_got p.memory (in_memory p.world) r.got)

-- ---- a process is told of its children

module _ (headers : List (List ℕ)) (a : About) (k : Kept) (e : Entry Task) (h : Held) (call : Call) (is : IsCall e call) (who : Who) (t : Waited) (o : Output)
    (tells : looked k.procs call.pid who false ≡ Ok t) (zero_is : o.value ≡ 0) (got_is : got_of o ≡ info_at (slice_index call.args 2) (info_of t)) (then_is : o.then ≡ Nothing) where
  abbrev ask : Ask
  ask = ask_in a k e h call

  abbrev before : Physical
  before = physical_of headers a k

  abbrev gone : List Ended
  gone = left_of e.pid who t k.procs.ended

  reaped_in_is : reaped_in before ask who (Ok t) ≡ full_at before (answered_in (record before { world = record before.world { ended = gone } }) ask (replies (output_reply ask o)))
  unfolding world_of physical_of
  reaped_in_is =
      by_told t (looked_told k.procs call.pid who t tells)
      ∙ ap (λ (r : Row). full_at before (answered_in (record before { world = record before.world { ended = gone } }) ask r)) (sym (given_is a k e h call is who t o tells zero_is got_is then_is))
    where
      by_told : (x : Waited) → IsTold x → reaped_in before ask who (Ok x)
          ≡ full_at before (answered_in (record before { world = record before.world { ended = left_of e.pid who x k.procs.ended } }) ask (gives ask 0 (info_at (arg ask 2) (info_of x)) ask.rest))
      by_told (Child child how) told = refl
      by_told NoneYet told = sym (full_answered before ask (gives ask 0 (info_at (arg ask 2) (info_of NoneYet)) ask.rest))
      by_told Waits told = absurd told

  -- the end of the caller forgets the child too
  same_end : ended_behind (record { pid = e.pid; parent = e.parent; how = Signal outside }) gone ≡ ended_behind (record { pid = e.pid; parent = e.parent; how = Signal outside }) k.procs.ended
  same_end = ended_left (record { pid = e.pid; parent = e.parent; how = Signal outside }) who t k.procs.ended

  module _ (R : After → After → Type 0) (goes : (x : Physical) → Behind (world_of a k) ask gone (output_reply ask o) x.world → R (after x false) (after (record x { world = record x.world { ended = gone } }) false))
      (filled : R (no_room before) (no_room before)) (dies : (x : Physical) → R (after x true) (after x true)) where
    reaped_beside : R (answered_in before ask (replies (output_reply ask o))) (reaped_in before ask who (Ok t))
    unfolding world_of physical_of
    reaped_beside =
        subst (λ (y : After). R (answered_in before ask (replies (output_reply ask o))) y) (sym reaped_in_is)
        (answered_beside_in before ask gone (output_reply ask o) R goes filled dies same_end)

  -- its process dies, or the log has no room
  pub untold_goes : (new : Kept) (s : Served) → s ≢ result.Replied → GoesIn headers a (answered_in before ask (replies (output_reply ask o))) k new call.pid s →
      GoesIn headers a (reaped_in before ask who (Ok t)) k new call.pid s
  untold_goes new s other =
      reaped_beside (λ x y. GoesIn headers a x k new call.pid s → GoesIn headers a y k new call.pid s)
      (λ x behind was. absurd (never s other was.1)) (λ was. was) (λ x was. was)
    where
      never : (x : Served) → x ≢ result.Replied → Over false new call.pid x → ⊥
      never result.Replied not_so was = not_so refl
      never result.TurnEnds not_so was = let wrong = was.0 in cc
      never result.Waits not_so was = let wrong = was.0 in cc
      never result.Ended not_so was = let wrong = was.0 in cc
      never (result.Stray access) not_so was = was
      never result.LogFull not_so was = was

  -- it is told, and then the child goes
  pub told_goes : (mid : Kept) (answer : Result Waited Errno) → answer ≡ looked mid.procs call.pid who false →
      GoesIn headers a (answered_in before ask (replies (output_reply ask o))) k mid call.pid result.Replied →
      GoesIn headers a (reaped_in before ask who (Ok t)) k (record mid { procs = with_wait mid.procs call.pid who answer }) call.pid result.Replied
  unfolding physical_of
  told_goes mid answer looks =
      reaped_beside (λ x y. GoesIn headers a x k mid call.pid result.Replied → GoesIn headers a y k (record mid { procs = with_wait mid.procs call.pid who answer }) call.pid result.Replied)
      replies_so (λ was. absurd was.2) (λ x was. let wrong = was.1.0 in absurd cc)
    where
      replies_so : (x : Physical) → Behind (world_of a k) ask gone (output_reply ask o) x.world → GoesIn headers a (after x false) k mid call.pid result.Replied →
          GoesIn headers a (after (record x { world = record x.world { ended = gone } }) false) k (record mid { procs = with_wait mid.procs call.pid who answer }) call.pid result.Replied
      replies_so x behind was =
          let now_is : x.world ≡ world_of (later 1 a) mid = ap (λ (y : Physical). y.world) was.0 in
          let world_is = told_world a k e h call is who t o tells zero_is got_is then_is mid answer looks x.world behind now_is in (
            (λ i. record (was.0 i) { world = world_is i }),
            (refl, told_lives a k e h call is who t o tells zero_is got_is then_is mid answer looks x.world behind now_is was.1.1),
          )

-- ---- within reach

-- what follows of what goes follows of what is within reach
pub reach_goes : (headers : List (List ℕ)) (a : About) (x y : After) (old mid new : Kept) (pid : ℕ) (mode : Mode) (s : Served) →
    (GoesIn headers a x old mid pid s → GoesIn headers a y old new pid s) → InReach mode headers a x old mid pid (Ok s) → InReach mode headers a y old new pid (Ok s)
reach_goes headers a x y old mid new pid GoOn s goes was = goes was
reach_goes headers a x y old mid new pid Halt s goes was = by_served s goes was
  where
    by_served : (s : Served) → (GoesIn headers a x old mid pid s → GoesIn headers a y old new pid s) → UnlessStray s (GoesIn headers a x old mid pid s) → UnlessStray s (GoesIn headers a y old new pid s)
    by_served result.Replied goes was = goes was
    by_served result.TurnEnds goes was = goes was
    by_served result.Waits goes was = goes was
    by_served result.Ended goes was = goes was
    by_served (result.Stray access) goes was = tt
    by_served result.LogFull goes was = goes was

-- ---- a waitid, by what it asks

module _ (headers : List (List ℕ)) (a : About) (k : Kept) (e : Entry Task) (h : Held) (call : Call) (lives : process k.procs call.pid ≡ Some e) (is : IsCall e call) where
  abbrev asks : Ask
  asks = ask_in a k e h call

  abbrev first : Physical
  first = physical_of headers a k

  fault_is : (fault : Option Errno) → waitid_fault asks ≡ fault → waitid_in first asks ≡ waitid_behind_in first asks fault
  unfolding waitid_in
  fault_is fault same = ap (waitid_behind_in first asks) same

  module _ (new : Kept) (same : new.mem ≡ k.mem) (answer : Result Served AllocError) where
    -- a refusal gives nothing
    refused_in : (errno : Errno) (value : ℕ) → value ≡ refusal errno → Serves a (answered (world_of a k) asks (replies (reply_of asks (Answer value)))) k new call.pid answer →
        ServesIn headers a (answered_in first asks (refuses asks errno)) k new call.pid answer
    unfolding physical_of
    refused_in errno value says serves =
        let refuses_so = subst (λ (v : ℕ). Serves a (answered (world_of a k) asks (replies (reply_of asks (Answer v)))) k new call.pid answer) says serves in
        subst (λ (x : After). ServesIn headers a x k new call.pid answer) (sym (mute_carried first asks (refuses asks errno) refl))
        (plain_in headers a k new same call.pid (answered (world_of a k) asks (refuses asks errno)) answer refuses_so
        (answered_begins (world_of a k) asks (refuses asks errno)) (answered_never (world_of a k) asks (refuses asks errno) refl))

    -- it is refused
    pub fault_in : (errno : Errno) → waitid_fault asks ≡ Some errno → (value : ℕ) → value ≡ refusal errno →
        Serves a (answered (world_of a k) asks (replies (reply_of asks (Answer value)))) k new call.pid answer → ServesIn headers a (waitid_in first asks) k new call.pid answer
    fault_in errno fault value says serves = subst (λ (x : After). ServesIn headers a x k new call.pid answer) (sym (fault_is (Some errno) fault)) (refused_in errno value says serves)

  -- or it looks for these children
  module _ (fault : waitid_fault asks ≡ None) (who : Who) (may : Bool) (meant : who ≡ who_of asks) (waits_so : may ≡ may_wait (slice_index call.args 3)) where
    pub looked_in : (t : Result Waited Errno) → looked k.procs call.pid who may ≡ t → waitid_in first asks ≡ reaped_in first asks who t
    unfolding physical_of
    looked_in t looks =
        fault_is None fault ∙ (λ i. reaped_in first asks (sym meant i) ((told_is a k e h call lives is who may meant waits_so ∙ looks) i))

    pub childless_in : (new : Kept) → new.mem ≡ k.mem → (answer : Result Served AllocError) (errno : Errno) → looked k.procs call.pid who may ≡ Err errno → (value : ℕ) → value ≡ refusal errno →
        Serves a (answered (world_of a k) asks (replies (reply_of asks (Answer value)))) k new call.pid answer → ServesIn headers a (waitid_in first asks) k new call.pid answer
    childless_in new same answer errno looks value says serves =
        subst (λ (x : After). ServesIn headers a x k new call.pid answer) (sym (looked_in (Err errno) looks)) (refused_in new same answer errno value says serves)

    pub waiting_in : looked k.procs call.pid who may ≡ Ok Waits →
        GoesIn headers a (waitid_in first asks) k (record k { procs = with_state_at k.procs call.pid (Waiting who) }) call.pid result.Waits
    unfolding physical_of
    waiting_in looks =
        subst (λ (x : After). GoesIn headers a x k (record k { procs = with_state_at k.procs call.pid (Waiting who) }) call.pid result.Waits) (sym (looked_in (Ok Waits) looks))
        (plain_goes headers a k (record k { procs = with_state_at k.procs call.pid (Waiting who) }) refl call.pid (waited (world_of a k) (process_of e) (Waiting who)) result.Waits
        (waits_serve a k call.pid e lives (Waiting who)) (waited_begins (world_of a k) (process_of e) (Waiting who)) (waited_never (world_of a k) (process_of e) (Waiting who)))
