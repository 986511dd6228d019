-- What a process is told of its children, in the world and in the parts.
use Rattle.std.proofs.Common.{◌≡◌, ◌≢◌, ℕ, ◌≤◌, Bool, true, false, inl, inr, List, [], ◌∷◌, map, length, Option, Some, None, refl, sym, ap, subst, ◌∙◌, arith}
use Rattle.std.specs.Prelude.{◌==◌, if◌then◌else◌, IsSome, All, option_map, slice_index, Result, Ok, Err}
use Rattle.std.proofs.lemmas.List.Elements.{All-nil, All-cons}
use Rattle.std.specs.declared.alloc.AllocError.{AllocError}
use Rattle.std.proofs.lemmas.Option.{same_Some}
use Rattle.byte_words.specs.ByteMap.{Bytes}
use Rattle.byte_words.specs.declared.access.Access.{Access}
use Rattle.call_log.specs.declared.errno.Errno.{Errno}
use Rattle.call_log.specs.Errno.{refusal}
use Rattle.call_log.specs.Sent.{Span}
use Rattle.mmap_rules.specs.Held.{Held}
use Rattle.vfork_exec.specs.declared.family.Who.{Who}
use Rattle.vfork_exec.specs.declared.family.State.{State}
use Rattle.vfork_exec.specs.declared.family.Ended.{Ended}
use Rattle.vfork_exec.specs.declared.family.Waited.{Waited}
use Rattle.vfork_exec.specs.declared.family.Waited.TheVariants.{Child, NoneYet, Waits}
use Rattle.vfork_exec.specs.declared.entry.Entry.{Entry}
use Rattle.vfork_exec.specs.Keyed.{change}
use Rattle.vfork_exec.specs.Families.{is_child, first_ended, without_first, told}
use Rattle.vfork_exec.specs.Procs.{Listed, process, Lives, CanRun, value_at, with_value, with_value_at, with_state, with_state_at, looked, with_wait}
use Rattle.vfork_exec.specs.Procs.{pid_of as entry_pid, has_child as entry_has_child}
use Rattle.vfork_exec.proofs.Keyed.{decide, eqb_is, eqb_same, find_changed, find_beside_change, falls_change, length_change, any_change}
use Rattle.vfork_exec.proofs.Families.{without_first_head}
use Rattle.vfork_exec.proofs.Places.{found}
use Rattle.machine_world.specs.World.{Process, World, pid_of}
use Rattle.machine_world.specs.Families.{has_child, is_lent, AreChains}
use Rattle.machine_world.specs.Asks.{Ask, Reply, replies, arg, gives, refuses}
use Rattle.machine_world.specs.FamilyCalls.{who_of, may_wait, waitid_fault, child_info, info_at}
use Rattle.machine_world.specs.Event.{Trace, Outcome, went, strays, full, replied, put_got, call_access, put, room_for, served, answered, waited, reaped, told_in, waitid_behind, waitid}
use Rattle.machine_world.proofs.Chains.{chains_stopped}
use Rattle.file_calls.specs.declared.call.Call.{Call}
use Rattle.file_calls.specs.declared.outcome.Outcome.{Outcome as Output}
use Rattle.file_calls.specs.declared.outcome.Then.TheVariants.{Nothing}
use Rattle.file_calls.specs.Calls.{after, got_of}
use Rattle.kept_parts.specs.declared.task.Task.{Task}
use Rattle.kept_parts.specs.declared.effect.Effect.TheVariants.{Answer}
use Rattle.kept_parts.specs.declared.served.Served.{Served}
use Rattle.kept_parts.specs.declared.served.Served.TheVariants as result
use Rattle.kept_parts.specs.Kept.{Kept}
use Rattle.kept_parts.specs.Regular.{Regular, HasSpace}
use Rattle.kept_parts.specs.Stands.{About, later, process_of, world_of}
use Rattle.call_bytes.specs.Puts.{IsRange}
use Rattle.kept_parts.specs.Families.{info_of}
use Rattle.kept_parts.specs.Serves.{Went, Serves, Answered}
use Rattle.kept_parts.specs.Calls.{IsCall, ask_in, output_reply, reply_of}
use Rattle.kept_parts.proofs.Common.ProcessList.{has_child_is, state_is, found_is, own_pid, state_ready}

-- ---- who called lives on

some_mapped : {A B : Type 0} (f : A → B) (o : Option A) (x : A) → o ≡ Some x → IsSome (option_map f o)
some_mapped f (Some y) x is = refl
some_mapped f None x is = absurd cc

changed_lives : (s : Listed Task) (pid : ℕ) (f : Entry Task → Entry Task) → ((x : Entry Task) → (f x).pid ≡ x.pid) → Lives s pid → Lives (record s { entries = change entry_pid pid f s.entries }) pid
changed_lives s pid f same lives =
    let x = found entry_pid pid s.entries lives in
    subst IsSome (sym (find_changed entry_pid pid f same s.entries)) (some_mapped f _ x.0 x.1)

pub replied_lives : (s : Listed Task) (pid : ℕ) → Lives s pid → (value : ℕ) (now : Listed Task) →
    ((t : Task) → value_at s pid ≡ Some t → now ≡ with_value_at s pid (record t { regs = replied t.regs value })) → Lives now pid
replied_lives s pid lives value now answers =
    let x = found entry_pid pid s.entries lives in
    let t : Task = x.0.value in
    subst (λ (l : Listed Task). Lives l pid) (sym (answers t (ap (option_map (λ (e : Entry Task). e.value)) x.1)))
    (changed_lives s pid (λ (e : Entry Task). with_value e (record t { regs = replied t.regs value })) (λ e. refl) lives)

-- ---- what is told

-- of a child, or that none has ended
abbrev pub IsTold : Waited → Type 0
IsTold (Child pid how) = Unit {0}
IsTold NoneYet = Unit {0}
IsTold Waits = ⊥

pub is_told : (t : Waited) → t ≢ Waits → IsTold t
is_told (Child pid how) other = tt
is_told NoneYet other = tt
is_told Waits other = absurd (other refl)

-- who may not wait is told something
told_something : (o : Option Ended) (child : Bool) (t : Waited) → told o child false ≡ Ok t → IsTold t
unfolding told
told_something o child (Child pid how) is = tt
told_something o child NoneYet is = tt
told_something (Some e) child Waits is = absurd cc
told_something None true Waits is = absurd cc
told_something None false Waits is = absurd cc

pub looked_told : (s : Listed Task) (pid : ℕ) (who : Who) (t : Waited) → looked s pid who false ≡ Ok t → IsTold t
looked_told s pid who t is = told_something (first_ended pid who s.ended) (entry_has_child s pid who) t is

-- who is told something is told the same where it may not wait
same_told : (o : Option Ended) (child may : Bool) (t : Waited) → IsTold t → told o child may ≡ Ok t → told o child false ≡ Ok t
unfolding told
same_told o child false t tells is = is
same_told (Some e) child true t tells is = is
same_told None true true (Child pid how) tells is = absurd cc
same_told None true true NoneYet tells is = absurd cc
same_told None true true Waits tells is = absurd tells
same_told None false true t tells is = absurd cc

pub looked_same : (s : Listed Task) (pid : ℕ) (who : Who) (may : Bool) (t : Waited) → IsTold t → looked s pid who may ≡ Ok t → looked s pid who false ≡ Ok t
looked_same s pid who may t tells is = same_told (first_ended pid who s.ended) (entry_has_child s pid who) may t tells is

-- those that have ended, once it is told
abbrev pub left_of : ℕ → Who → Waited → List Ended → List Ended
left_of pid who (Child child how) ended = without_first pid who ended
left_of pid who NoneYet ended = ended
left_of pid who Waits ended = ended

pub wait_is : (s : Listed Task) (pid : ℕ) (who : Who) (t : Waited) → IsTold t → with_wait s pid who (Ok t) ≡ record s { ended = left_of pid who t s.ended }
wait_is s pid who (Child child how) tells = refl
wait_is s pid who NoneYet tells = refl
wait_is s pid who Waits tells = absurd tells

-- ---- the bytes that are told

info_len : (t : Waited) → length (info_of t) ≡ 24
unfolding child_info
info_len (Child pid how) = refl
info_len NoneYet = refl
info_len Waits = refl

pub info_ranges : (at : ℕ) (t : Waited) → All IsRange (info_at at (info_of t))
info_ranges at t = by_test (at == 0)
  where
    by_test : (b : Bool) → All IsRange (if b then [] else record { addr = at; bytes = info_of t } ∷ [])
    by_test true = All-nil IsRange
    by_test false = All-cons IsRange (record { addr = at; bytes = info_of t }) [] (omega (arith, info_len t), omega (arith, info_len t)) (All-nil IsRange)

-- ---- what stays regular

length_first : (own : ℕ) (who : Who) (es : List Ended) → length (without_first own who es) ≤ length es
unfolding without_first
length_first own who [] = omega arith
length_first own who (e ∷ es) = elim (decide (is_child own who e.pid e.parent)) [
  | inl is ↦ omega (arith, ap length (without_first_head own who e es true is))
  | inr is ↦ omega (arith, ap length (without_first_head own who e es false is), length_first own who es)
]

regular_less : (k : Kept) → Regular k → (ended : List Ended) → length ended ≤ length k.procs.ended → Regular (record k { procs = record k.procs { ended = ended } })
regular_less k regular ended less = record {
  memory = regular.memory;
  some = regular.some;
  most = regular.most;
  regions = regular.regions;
  uses = regular.uses;
  one_use = regular.one_use;
  names = regular.names;
  pages = regular.pages;
  runs = regular.runs;
  chains = regular.chains;
  falls = regular.falls;
  few = omega (arith, regular.few, less);
  pids = regular.pids;
  loads = regular.loads;
}

pub regular_told : (k : Kept) → Regular k → (pid : ℕ) (who : Who) (answer : Result Waited Errno) → answer ≡ looked k.procs pid who false → Regular (record k { procs = with_wait k.procs pid who answer })
regular_told k regular pid who (Ok (Child child how)) is = regular_less k regular (without_first pid who k.procs.ended) (length_first pid who k.procs.ended)
regular_told k regular pid who (Ok NoneYet) is = regular
regular_told k regular pid who (Ok Waits) is = absurd (looked_told k.procs pid who Waits (sym is))
regular_told k regular pid who (Err errno) is = regular

-- a process waits, for its children or on a pipe
module _ (k : Kept) (pid : ℕ) (e : Entry Task) (state : State) (own : is_lent state ≡ false) (regular : Regular k) (lives : process k.procs pid ≡ Some e) where
  abbrev waiting : Entry Task → Entry Task
  waiting x = with_state x state

  pub regular_waiting : CanRun k.procs pid → Regular (record k { procs = with_state_at k.procs pid state })
  regular_waiting runs = record {
    memory = regular.memory;
    some = regular.some;
    most = regular.most;
    regions = regular.regions;
    uses = regular.uses;
    one_use = regular.one_use;
    names = regular.names;
    pages = regular.pages;
    runs = λ q x there. elim (decide (q == pid)) [
      | inl is ↦
          let at : q ≡ pid = eqb_is q pid is in
          let now : Some (waiting e) ≡ Some x =
          sym (find_changed entry_pid pid waiting (λ y. refl) k.procs.entries ∙ ap (option_map waiting) lives)
          ∙ ap (λ n. process (with_state_at k.procs pid state) n) (sym at) ∙ there in
          subst (HasSpace k.spaces) (ap (λ (y : Entry Task). y.value.space) (same_Some _ _ now)) (regular.runs pid e lives)
      | inr is ↦
          regular.runs q x (sym (find_beside_change entry_pid pid q (λ same. not_both is (eqb_same q pid same)) waiting (λ y. refl) k.procs.entries) ∙ there)
    ];
    chains = subst AreChains (sym (state_is k.procs pid state))
        (chains_stopped (map process_of k.procs.entries) pid (process_of e) state own regular.chains (found_is k.procs pid e lives) (state_ready k.procs pid e lives runs));
    falls = falls_change entry_pid pid waiting (λ y. refl) k.procs.next_pid k.procs.entries regular.falls;
    few = omega (arith, regular.few, length_change entry_pid pid waiting k.procs.entries);
    pids = regular.pids;
    loads = regular.loads;
  }
    where
      not_both : {b : Bool} → b ≡ false → b ≡ true → ⊥
      not_both other same = let wrong = sym other ∙ same in cc

-- ---- a reply in a world where other processes have ended

module _ (w : World) (a : Ask) (ended : List Ended) (r : Reply) where
  -- what a reply leaves of the processes
  abbrev pub Behind : World → Type 0
  Behind now = (now.ended ≡ w.ended) × (now.procs ≡ change pid_of a.process.pid (λ (q : Process). record q { regs = replied a.process.regs r.value }) w.procs)

  module _ (P : Outcome → Outcome → Type 0) (goes : (now : World) (t : Trace) → t.over ≡ r.over → Behind now → P (went now t) (went (record now { ended = ended }) t))
      (strayed : (access : Access) → P (strays access) (strays access)) (filled : P full full) where
    put_beside : (there : Result Bytes Span) → P (put w a r there) (put (record w { ended = ended }) a r there)
    unfolding served
    put_beside (Err span) = strayed (call_access a.process span)
    put_beside (Ok bytes) = by_room (room_for w a r) _ _ (goes _ _ refl (refl, refl))
      where
        by_room : (b : Bool) (x y : Outcome) → P x y → P (if b then x else full) (if b then y else full)
        by_room true x y both = both
        by_room false x y both = filled

    answered_beside : P (answered w a (replies r)) (answered (record w { ended = ended }) a (replies r))
    answered_beside = put_beside (put_got r.space.bytes _ r.got)

-- ---- a process is told of its children

module _ (a : About) (k : Kept) (e : Entry Task) (h : Held) (call : Call) (is : IsCall e call) (who : Who) (t : Waited) (o : Output)
    (tells : looked k.procs call.pid who false ≡ Ok t) (zero_is : o.value ≡ 0) (got_is : got_of o ≡ info_at (slice_index call.args 2) (info_of t)) (then_is : o.then ≡ Nothing) where
  abbrev ask : Ask
  ask = ask_in a k e h call

  abbrev left : List Ended
  left = left_of e.pid who t k.procs.ended

  pub given_is : replies (output_reply ask o) ≡ gives ask 0 (info_at (arg ask 2) (info_of t)) ask.rest
  given_is = λ i. replies (record {
    value = zero_is i;
    got = (got_is ∙ ap (λ (args : List ℕ). info_at (slice_index args 2) (info_of t)) is.args) i;
    rest = record ask.rest { files = after (then_is i) ask.process.table ask.rest.files };
    space = ask.space;
    over = false;
  })

  reaped_is : reaped (world_of a k) ask who (Ok t) ≡ answered (record (world_of a k) { ended = left }) ask (replies (output_reply ask o))
  unfolding world_of
  reaped_is = by_told t (looked_told k.procs call.pid who t tells) ∙ ap (answered (record (world_of a k) { ended = left }) ask) (sym given_is)
    where
      by_told : (x : Waited) → IsTold x → reaped (world_of a k) ask who (Ok x)
          ≡ answered (record (world_of a k) { ended = left_of e.pid who x k.procs.ended }) ask (gives ask 0 (info_at (arg ask 2) (info_of x)) ask.rest)
      by_told (Child child how) told = refl
      by_told NoneYet told = refl
      by_told Waits told = absurd told

  -- it strays, or finds no room
  pub untold_serves : (new : Kept) (s : Served) → s ≢ result.Replied → Answered a (answered (world_of a k) ask (replies (output_reply ask o))) k new call.pid s →
      Answered a (reaped (world_of a k) ask who (Ok t)) k new call.pid s
  untold_serves new s other serves =
      subst (λ (x : Outcome). Answered a x k new call.pid s) (sym reaped_is)
      (answered_beside (world_of a k) ask left (output_reply ask o) (λ x y. Answered a x k new call.pid s → Answered a y k new call.pid s)
      (λ now trace over behind was. absurd (never s trace over other was.1)) (λ access was. was) (λ was. was) serves)
    where
      never : (x : Served) (trace : Trace) → trace.over ≡ false → x ≢ result.Replied → Went trace new call.pid x → ⊥
      never result.Replied trace over not_so was = not_so refl
      never result.TurnEnds trace over not_so was = let wrong = sym over ∙ was.0 in cc
      never result.Waits trace over not_so was = let wrong = sym over ∙ was.0 in cc
      never result.Ended trace over not_so was = let wrong = sym over ∙ was.0 in cc
      never (result.Stray access) trace over not_so was = was
      never result.LogFull trace over not_so was = was

  -- it is told, and then the child goes
  module _ (mid : Kept) (answer : Result Waited Errno) (looks : answer ≡ looked mid.procs call.pid who false) where
    abbrev now_told : Kept
    now_told = record mid { procs = with_wait mid.procs call.pid who answer }

    module _ (now : World) (behind : Behind (world_of a k) ask left (output_reply ask o) now) (was : now ≡ world_of (later 1 a) mid) where
      same_ended : k.procs.ended ≡ mid.procs.ended
      unfolding world_of
      same_ended = sym behind.0 ∙ ap (λ (x : World). x.ended) was

      told_procs : with_wait mid.procs call.pid who answer ≡ record mid.procs { ended = left_of call.pid who t mid.procs.ended }
      unfolding world_of has_child
      told_procs =
          let pid : ℕ = call.pid in
          let same_child : entry_has_child mid.procs pid who ≡ entry_has_child k.procs pid who =
          sym (has_child_is mid.procs pid who)
          ∙ sym (ap (λ (x : World). has_child pid who x.procs) was)
          ∙ ap (has_child pid who) behind.1
          ∙ any_change pid_of e.pid (λ (q : Process). is_child pid who q.pid q.parent) (λ (q : Process). record q { regs = replied e.value.regs o.value }) (λ q. refl) (map process_of k.procs.entries)
          ∙ has_child_is k.procs pid who in
          let told_so : answer ≡ Ok t = looks ∙ (λ i. told (first_ended pid who (sym same_ended i)) (same_child i) false) ∙ tells in
          ap (with_wait mid.procs pid who) told_so ∙ wait_is mid.procs pid who t (looked_told k.procs pid who t tells)

      pub told_world : record now { ended = left } ≡ world_of (later 1 a) now_told
      unfolding world_of
      told_world =
          (λ i. record (was i) { ended = left_of (sym is.pid i) who t (same_ended i) }) ∙ ap (λ (s : Listed Task). world_of (later 1 a) (record mid { procs = s })) (sym told_procs)

      pub told_lives : Lives mid.procs call.pid → Lives now_told.procs call.pid
      told_lives lives = subst (λ (s : Listed Task). Lives s call.pid) (sym told_procs) lives

    pub told_serves : Answered a (answered (world_of a k) ask (replies (output_reply ask o))) k mid call.pid result.Replied →
        Answered a (reaped (world_of a k) ask who (Ok t)) k now_told call.pid result.Replied
    told_serves serves =
        subst (λ (x : Outcome). Answered a x k now_told call.pid result.Replied) (sym reaped_is)
        (answered_beside (world_of a k) ask left (output_reply ask o) (λ x y. Answered a x k mid call.pid result.Replied → Answered a y k now_told call.pid result.Replied)
        (λ now trace over behind was. (told_world now behind was.0, (was.1.0, was.1.1, told_lives now behind was.0 was.1.2)))
        (λ access was. was) (λ was. was) serves)

-- ---- a process waits

module _ (a : About) (k : Kept) (pid : ℕ) (e : Entry Task) (lives : process k.procs pid ≡ Some e) (state : State) where
  pub waits_serve : Answered a (waited (world_of a k) (process_of e) state) k (record k { procs = with_state_at k.procs pid state }) pid result.Waits
  unfolding world_of waited
  waits_serve =
      let pid_is : e.pid ≡ pid = own_pid k.procs pid e lives in (
        (λ i. record (world_of (later 1 a) k) {
          procs = (ap (λ (n : ℕ). change pid_of n (λ (q : Process). record q { state = state }) (map process_of k.procs.entries)) pid_is ∙ sym (state_is k.procs pid state)) i;
        }),
        (refl, refl, changed_lives k.procs pid (λ (x : Entry Task). with_state x state) (λ x. refl) (some_lives (process k.procs pid) e lives)),
      )
    where
      some_lives : (f : Option (Entry Task)) (x : Entry Task) → f ≡ Some x → IsSome f
      some_lives (Some y) x there = refl
      some_lives None x there = absurd cc

-- ---- a waitid, by what it asks

module _ (a : About) (k : Kept) (e : Entry Task) (h : Held) (call : Call) (lives : process k.procs call.pid ≡ Some e) (is : IsCall e call) where
  abbrev asks : Ask
  asks = ask_in a k e h call

  behind_is : (fault : Option Errno) → waitid_fault asks ≡ fault → waitid (world_of a k) asks ≡ waitid_behind (world_of a k) asks fault
  unfolding waitid
  behind_is fault same = ap (waitid_behind (world_of a k) asks) same

  pub told_is : (who : Who) (may : Bool) → who ≡ who_of asks → may ≡ may_wait (slice_index call.args 3) → told_in (world_of a k) asks ≡ looked k.procs call.pid who may
  unfolding world_of
  told_is who may meant waits =
      let pid_is : e.pid ≡ call.pid = own_pid k.procs call.pid e lives in
      (λ i. told (first_ended (pid_is i) (sym meant i) k.procs.ended) (has_child (pid_is i) (sym meant i) (map process_of k.procs.entries)) (may_wait (slice_index (sym is.args i) 3)))
      ∙ (λ i. told (first_ended call.pid who k.procs.ended) (has_child_is k.procs call.pid who i) (sym waits i))

  module _ (new : Kept) (answer : Result Served AllocError) where
    serves_as : (x y : Outcome) → x ≡ y → Serves a y k new call.pid answer → Serves a x k new call.pid answer
    serves_as x y same = subst (λ (z : Outcome). Serves a z k new call.pid answer) (sym same)

    refused_as : (errno : Errno) (value : ℕ) → value ≡ refusal errno → Serves a (answered (world_of a k) asks (replies (reply_of asks (Answer value)))) k new call.pid answer →
        Serves a (answered (world_of a k) asks (refuses asks errno)) k new call.pid answer
    refused_as errno value says = subst (λ (v : ℕ). Serves a (answered (world_of a k) asks (replies (reply_of asks (Answer v)))) k new call.pid answer) says

    -- it is refused
    pub fault_serves : (errno : Errno) → waitid_fault asks ≡ Some errno → (value : ℕ) → value ≡ refusal errno →
        Serves a (answered (world_of a k) asks (replies (reply_of asks (Answer value)))) k new call.pid answer → Serves a (waitid (world_of a k) asks) k new call.pid answer
    fault_serves errno fault value says serves = serves_as _ _ (behind_is (Some errno) fault) (refused_as errno value says serves)

    -- or it looks for these children
    module _ (fault : waitid_fault asks ≡ None) (who : Who) (may : Bool) (meant : who ≡ who_of asks) (waits : may ≡ may_wait (slice_index call.args 3)) where
      pub looked_serves : (t : Result Waited Errno) → looked k.procs call.pid who may ≡ t → Serves a (reaped (world_of a k) asks who t) k new call.pid answer →
          Serves a (waitid (world_of a k) asks) k new call.pid answer
      looked_serves t looks =
          serves_as _ _ (behind_is None fault ∙ (λ i. reaped (world_of a k) asks (sym meant i) ((told_is who may meant waits ∙ looks) i)))

      pub childless_serves : (errno : Errno) → looked k.procs call.pid who may ≡ Err errno → (value : ℕ) → value ≡ refusal errno →
          Serves a (answered (world_of a k) asks (replies (reply_of asks (Answer value)))) k new call.pid answer → Serves a (waitid (world_of a k) asks) k new call.pid answer
      childless_serves errno looks value says serves = looked_serves (Err errno) looks (refused_as errno value says serves)
