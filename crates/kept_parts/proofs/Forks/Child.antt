-- The parts after a process had a child.
use Rattle.std.proofs.Common.{◌≡◌, ◌≢◌, ℕ, ◌+◌, ◌<◌, ◌^◌, Bool, true, false, inl, inr, List, [], ◌∷◌, map, length, Option, Some, None, refl, sym, ap, subst, ◌∙◌, arith, add-zero}
use Rattle.std.specs.Prelude.{◌==◌, nat_le, IsSome, option_map, slice_index, Result}
use Rattle.std.specs.declared.alloc.AllocError.{AllocError}
use Rattle.std.proofs.lemmas.Option.{same_Some}
use Rattle.std.proofs.lemmas.List.{length-map}
use Rattle.std.proofs.lemmas.Bool.{false≢true}
use Rattle.page_runs.specs.declared.place.Kind.TheVariants.{First}
use Rattle.call_log.specs.declared.errno.Errno.{Errno}
use Rattle.call_log.specs.declared.errno.Errno.TheVariants.{Einval, Eagain}
use Rattle.call_log.specs.Errno.{refusal}
use Rattle.call_log.specs.Notes.{Note, call_note, has_room, weight_of}
use Rattle.mmap_rules.specs.Held.{Held}
use Rattle.fd_tables.specs.Files.{OpenFiles, free_number}
use Rattle.rv32im_step.specs.declared.regs.Regs.{Regs}
use Rattle.vfork_exec.specs.declared.family.State.TheVariants.{Ready, Lent}
use Rattle.vfork_exec.specs.declared.entry.Entry.{Entry}
use Rattle.vfork_exec.specs.Keyed.{find, change, Falls}
use Rattle.vfork_exec.specs.Procs.{Listed, process, Lives, CanRun, count, value_at, with_value, with_state, with_value_at, with_child, most_entries}
use Rattle.vfork_exec.specs.Procs.{pid_of as entry_pid}
use Rattle.vfork_exec.proofs.Keyed.{decide, eqb_is, eqb_same, eqb_other, find_head, change_head, find_below, find_changed, find_beside_change, falls_change, length_change}
use Rattle.machine_world.specs.World.{Process, Recording, World, pid_of}
use Rattle.machine_world.specs.Families.{is_full, AreChains}
use Rattle.machine_world.specs.Ages.{kept_calls}
use Rattle.flat_loader.specs.Alone.{child_regs}
use Rattle.machine_world.specs.Asks.{Ask, replies, arg, refuses}
use Rattle.machine_world.specs.FamilyCalls.{vfork_flags}
use Rattle.machine_world.specs.Event as event
use Rattle.machine_world.specs.Recordings.{room_in}
use Rattle.machine_world.specs.Event.{Outcome, went, full, replied, args_of, counted_in, noted, entry_of, plain_item, answered, cloned, forked}
use Rattle.machine_world.proofs.Chains.{chains_forked}
use Rattle.file_calls.specs.declared.call.Call.{Call}
use Rattle.kept_parts.specs.declared.task.Task.{Task}
use Rattle.kept_parts.specs.Kept.{Kept}
use Rattle.kept_parts.specs.declared.effect.Effect.TheVariants.{Answer}
use Rattle.kept_parts.specs.declared.served.Served.{Served}
use Rattle.kept_parts.specs.declared.served.Served.TheVariants.{TurnEnds, LogFull}
use Rattle.kept_parts.specs.Regular.{Regular, HasSpace}
use Rattle.kept_parts.specs.Recorded.{room_beside}
use Rattle.kept_parts.specs.Stands.{About, later, process_of, world_of}
use Rattle.kept_parts.specs.Serves.{Serves, Answered}
use Rattle.kept_parts.specs.Calls.{IsCall, child_task, after_fork, ask_in, reply_of}
use Rattle.kept_parts.proofs.Copies.BehindChanges.{room_counts}
use Rattle.kept_parts.proofs.Common.RunningProcess.{value_found}
use Rattle.kept_parts.proofs.Common.ProcessList.{same_change, child_is, value_is, falls_is, found_is, found_own, own_pid, state_ready}

-- ---- pids

-- while a call has room in the log, the next pid is a number of 32 bits
pub pids_fit : (k : Kept) → Regular k → (bytes : ℕ) → has_room k.notes bytes ≡ true → k.procs.next_pid < 2 ^ 32
pids_fit k regular bytes room = omega (arith, regular.pids, room_counts k.notes bytes room)

-- the process that called has its reply
abbrev pub Answers : Listed Task → ℕ → ℕ → Listed Task → Type 0
Answers s pid value procs = (t : Task) → value_at s pid ≡ Some t → procs ≡ with_value_at s pid (record t { regs = replied t.regs value })

-- ---- two changes of one item

change_twice : {A : Type 0} (key : A → ℕ) (k : ℕ) (f g : A → A) → ((x : A) → key (g x) ≡ key x) → (xs : List A) → change key k f (change key k g xs) ≡ change key k (λ x. f (g x)) xs
unfolding change
change_twice key k f g same [] = refl
change_twice key k f g same (x ∷ xs) = elim (decide (key x == k)) [
  | inl is ↦
      ap (change key k f) (change_head key k g x xs true is)
      ∙ change_head key k f (g x) xs true (ap (λ n. n == k) (same x) ∙ is)
      ∙ sym (change_head key k (λ y. f (g y)) x xs true is)
  | inr is ↦
      ap (change key k f) (change_head key k g x xs false is)
      ∙ change_head key k f x (change key k g xs) false is
      ∙ ap (λ ys. x ∷ ys) (change_twice key k f g same xs)
      ∙ sym (change_head key k (λ y. f (g y)) x xs false is)
]

-- ---- the list with a child, whose parent has its reply

-- what a child is made of, from its parent's entry
module _ (s : Listed Task) (pid : ℕ) (e : Entry Task) (lives : process s pid ≡ Some e) (falls : Falls entry_pid s.next_pid s.entries) (child : Task) where
  older : pid < s.next_pid
  older = find_below entry_pid pid s.next_pid s.entries e falls lives

  -- the parent is there, with what was kept of it
  pub parent_there : process (with_child s pid child) pid ≡ Some (with_state e (Lent s.next_pid))
  parent_there =
      find_head entry_pid pid _ (change entry_pid pid (λ (x : Entry Task). with_state x (Lent s.next_pid)) s.entries) false (eqb_other s.next_pid pid (omega (arith, older)))
      ∙ find_changed entry_pid pid (λ (x : Entry Task). with_state x (Lent s.next_pid)) (λ x. refl) s.entries
      ∙ ap (option_map (λ (x : Entry Task). with_state x (Lent s.next_pid))) lives

  pub parent_value : value_at (with_child s pid child) pid ≡ Some e.value
  parent_value = ap (option_map (λ (x : Entry Task). x.value)) parent_there

  pub parent_lives : Lives (with_child s pid child) pid
  parent_lives = subst IsSome (sym parent_there) refl

  module _ (value : Task) where
    abbrev after : Listed Task
    after = with_value_at (with_child s pid child) pid value

    abbrev child_entry : Entry Task
    child_entry = record { pid = s.next_pid; parent = pid; state = Ready; value = child }

    -- what becomes of the parent's entry
    abbrev lent : Entry Task → Entry Task
    lent x = with_value (with_state x (Lent s.next_pid)) value

    entries_are : after.entries ≡ child_entry ∷ change entry_pid pid lent s.entries
    entries_are =
        change_head entry_pid pid (λ (x : Entry Task). with_value x value) child_entry (change entry_pid pid (λ (x : Entry Task). with_state x (Lent s.next_pid)) s.entries) false
        (eqb_other s.next_pid pid (omega (arith, older)))
        ∙ ap (λ (es : List (Entry Task)). child_entry ∷ es)
        (change_twice entry_pid pid (λ (x : Entry Task). with_value x value) (λ (x : Entry Task). with_state x (Lent s.next_pid)) (λ x. refl) s.entries)

    pub falls_after : Falls entry_pid after.next_pid after.entries
    falls_after =
        subst (Falls entry_pid (s.next_pid + 1)) (sym entries_are)
        (omega arith, falls_change entry_pid pid lent (λ x. refl) s.next_pid s.entries falls)

    pub count_after : count after ≡ count s + 1
    count_after =
        let same = length_change entry_pid pid lent s.entries in
        omega (arith, ap length entries_are, same)

    -- who lives then: the child, its parent, or who lived before
    pub runs_after : (spaces : List (Option Held)) → child.space ≡ e.value.space → value.space ≡ e.value.space →
        ((q : ℕ) (x : Entry Task) → process s q ≡ Some x → HasSpace spaces x.value.space) →
        (q : ℕ) (x : Entry Task) → process after q ≡ Some x → HasSpace spaces x.value.space
    runs_after spaces of_child of_parent runs q x there = elim (decide (s.next_pid == q)) [
      | inl is ↦
          let at : child_entry ≡ x = same_Some _ _ (sym (find_head entry_pid q child_entry (change entry_pid pid lent s.entries) true is) ∙ found) in
          subst (HasSpace spaces) (sym of_child ∙ ap (λ (y : Entry Task). y.value.space) at) (runs pid e lives)
      | inr is ↦
          let behind : find entry_pid q (change entry_pid pid lent s.entries) ≡ Some x = sym (find_head entry_pid q child_entry (change entry_pid pid lent s.entries) false is) ∙ found in
          elim (decide (pid == q)) [
            | inl own ↦
                let one : pid ≡ q = eqb_is pid q own in
                let now : Some (lent e) ≡ Some x =
                sym (find_changed entry_pid pid lent (λ y. refl) s.entries ∙ ap (option_map lent) lives)
                ∙ ap (λ n. find entry_pid n (change entry_pid pid lent s.entries)) one ∙ behind in
                subst (HasSpace spaces) (sym of_parent ∙ ap (λ (y : Entry Task). y.value.space) (same_Some _ _ now)) (runs pid e lives)
            | inr other ↦
                runs q x (sym (find_beside_change entry_pid pid q (λ same. not_both other (eqb_same pid q (sym same))) lent (λ y. refl) s.entries) ∙ behind)
          ]
    ]
      where
        found : find entry_pid q (child_entry ∷ change entry_pid pid lent s.entries) ≡ Some x
        found = ap (find entry_pid q) (sym entries_are) ∙ there

        not_both : {b : Bool} → b ≡ false → b ≡ true → ⊥
        not_both other same = false≢true (sym other ∙ same)

    -- in the world
    pub procs_after : map process_of after.entries
        ≡ process_of child_entry
        ∷ change pid_of pid (λ (q : Process). record q { regs = value.regs; space = value.space; table = value.table; state = Lent s.next_pid }) (map process_of s.entries)
    procs_after =
        value_is (with_child s pid child) pid value
        ∙ ap (change pid_of pid (λ (q : Process). record q { regs = value.regs; space = value.space; table = value.table })) (child_is s pid child)
        ∙ change_head pid_of pid (λ (q : Process). record q { regs = value.regs; space = value.space; table = value.table }) (process_of child_entry)
        (change pid_of pid (λ (q : Process). record q { state = Lent s.next_pid }) (map process_of s.entries)) false (eqb_other s.next_pid pid (omega (arith, older)))
        ∙ ap (λ (qs : List Process). process_of child_entry ∷ qs)
        (change_twice pid_of pid (λ (q : Process). record q { regs = value.regs; space = value.space; table = value.table }) (λ (q : Process). record q { state = Lent s.next_pid }) (λ q. refl) (map process_of s.entries))

-- ---- the parts with a child

module _ (k : Kept) (e : Entry Task) (call : Call) (regular : Regular k) (lives : process k.procs call.pid ≡ Some e) where
  abbrev child : Task
  child = child_task k e call

  abbrev parent : Task
  parent = record e.value { regs = replied e.value.regs k.procs.next_pid }

  abbrev procs_now : Listed Task
  procs_now = (after_fork k e call).procs

  -- the processes are those of the world, for a call with these arguments
  module _ (a : About) (h : Held) (args : List ℕ) (same : call.args ≡ args) where
    abbrev asks : Ask
    asks = record (ask_in a k e h call) { args = args }

    pub procs_forked : map process_of procs_now.entries ≡ (event.with_child (world_of a k) asks).procs
    unfolding world_of
    procs_forked =
        procs_after k.procs call.pid e lives regular.falls child parent
        ∙ ap (λ (qs : List Process). process_of (child_entry k.procs call.pid e lives regular.falls child parent) ∷ qs)
        (same_change pid_of call.pid (λ (q : Process). record q { regs = parent.regs; space = e.value.space; table = e.value.table; state = Lent k.procs.next_pid })
        (λ (q : Process). record q { regs = parent.regs; state = Lent k.procs.next_pid }) (map process_of k.procs.entries) (process_of e) (found_is k.procs call.pid e lives) refl)
        ∙ (λ i. record { pid = k.procs.next_pid; parent = sym own i; regs = child_regs e.value.regs (slice_index (same i) 1); space = e.value.space; table = child.table; state = Ready }
        ∷ change pid_of (sym own i) (λ (q : Process). record q { regs = parent.regs; state = Lent k.procs.next_pid }) (map process_of k.procs.entries))
      where
        own : e.pid ≡ call.pid
        own = own_pid k.procs call.pid e lives

    pub chains_after : CanRun k.procs call.pid → AreChains (map process_of procs_now.entries)
    unfolding world_of
    chains_after runs =
        subst AreChains (sym procs_forked)
        (chains_forked (world_of a k) asks regular.chains (falls_is k.procs k.procs.next_pid regular.falls) (found_own k.procs call.pid e lives) (state_ready k.procs call.pid e lives runs))

  -- what holds of the parts still holds
  pub regular_forked : CanRun k.procs call.pid → count k.procs < most_entries → (files : OpenFiles) (notes : List Note) (recording : Recording) → kept_calls notes ≡ kept_calls k.notes + 1 →
      Regular (record k { procs = procs_now; files = files; notes = notes; recording = recording })
  regular_forked runs few files notes recording counted = record {
    memory = regular.memory;
    some = regular.some;
    most = regular.most;
    regions = regular.regions;
    uses = regular.uses;
    one_use = regular.one_use;
    names = regular.names;
    pages = regular.pages;
    runs = runs_after k.procs call.pid e lives regular.falls child parent k.spaces refl refl regular.runs;
    chains = chains_after (record { kind = First; programs = []; events = 0 }) (regular.runs call.pid e lives).held call.args refl runs;
    falls = falls_after k.procs call.pid e lives regular.falls child parent;
    few = omega (arith, few, count_after k.procs call.pid e lives regular.falls child parent);
    pids = omega (arith, regular.pids, counted);
    loads = omega (arith, regular.loads, counted);
  }

-- ---- by what the code did

module _ (k : Kept) (call : Call) (regular : Regular k) (t : Task) (kept : value_at k.procs call.pid ≡ Some t) (regs : Regs) (table : ℕ)
    (is_regs : regs ≡ child_regs t.regs (slice_index call.args 1)) (is_table : table ≡ free_number k.files.tables)
    (s : Listed Task) (grows : s ≡ with_child k.procs call.pid (record { regs = regs; space = t.space; table = table }))
    (e : Entry Task) (lives : process k.procs call.pid ≡ Some e) where
  same_task : t ≡ e.value
  same_task = value_found k.procs call.pid e lives t kept

  grown : s ≡ with_child k.procs call.pid (child_task k e call)
  grown = grows ∙ (λ i. with_child k.procs call.pid (record {
    regs = (is_regs ∙ ap (λ (x : Task). child_regs x.regs (slice_index call.args 1)) same_task) i;
    space = (same_task i).space;
    table = is_table i;
  }))

  pub lives_still : Lives s call.pid
  lives_still = subst (λ (x : Listed Task). Lives x call.pid) (sym grown) (parent_lives k.procs call.pid e lives regular.falls (child_task k e call))

  pub procs_by : (pid : ℕ) → pid ≡ k.procs.next_pid → (procs : Listed Task) → Answers s call.pid pid procs → procs ≡ (after_fork k e call).procs
  procs_by pid is procs answers =
      answers e.value (ap (λ (x : Listed Task). value_at x call.pid) grown ∙ parent_value k.procs call.pid e lives regular.falls (child_task k e call))
      ∙ (λ i. with_value_at (grown i) call.pid (record e.value { regs = replied e.value.regs (is i) }))

-- ---- what comes of a clone in the world

module _ (w : World) (a : Ask) where
  pub clone_flags : (arg a 0 == vfork_flags) ≡ false → event.cloned w a ≡ answered w a (refuses a Einval)
  unfolding cloned
  clone_flags other = rw other refl

  pub clone_full : (arg a 0 == vfork_flags) ≡ true → is_full w ≡ true → event.cloned w a ≡ answered w a (refuses a Eagain)
  unfolding cloned
  clone_full flags many = rw (flags, many) refl

  clone_forks : (arg a 0 == vfork_flags) ≡ true → is_full w ≡ false → event.cloned w a ≡ event.forked w a
  unfolding cloned
  clone_forks flags few = rw (flags, few) refl

  fork_when : room_in w (weight_of a.sent []) ≡ true → event.forked w a
      ≡ went (noted (call_note (entry_of a w.next_pid [])) (counted_in a.process.space (event.with_child w a)))
      (record { space = a.process.space; events = 1; items = plain_item (entry_of a w.next_pid []) ∷ []; begins = None; over = true })
  unfolding forked
  fork_when room = rw room refl

  fork_full : room_in w (weight_of a.sent []) ≡ false → event.forked w a ≡ full
  unfolding forked
  fork_full room = rw room refl

module _ (a : About) (k : Kept) (e : Entry Task) (h : Held) (call : Call) (is : IsCall e call) where
  abbrev ask : Ask
  ask = ask_in a k e h call

  flags_are : (b : Bool) → (slice_index call.args 0 == vfork_flags) ≡ b → (arg ask 0 == vfork_flags) ≡ b
  flags_are b same = ap (λ (args : List ℕ). slice_index args 0 == vfork_flags) (sym is.args) ∙ same

  full_is : (b : Bool) → nat_le most_entries (count k.procs) ≡ b → is_full (world_of a k) ≡ b
  unfolding world_of is_full
  full_is b same = ap (λ (n : ℕ). nat_le most_entries (n + length k.procs.ended)) (length-map k.procs.entries process_of) ∙ same

  refused_serves : (errno : Errno) (value : ℕ) → value ≡ refusal errno → (new : Kept) (result : Result Served AllocError) → event.cloned (world_of a k) ask ≡ answered (world_of a k) ask (refuses ask errno) →
      Serves a (answered (world_of a k) ask (replies (reply_of ask (Answer value)))) k new call.pid result → Serves a (event.cloned (world_of a k) ask) k new call.pid result
  refused_serves errno value says new result same =
      subst (λ (x : Outcome). Serves a x k new call.pid result)
      (sym (same ∙ ap (λ (v : ℕ). answered (world_of a k) ask (replies (reply_of ask (Answer v)))) (sym says)))

  pub flags_serve : slice_index call.args 0 ≢ vfork_flags → (value : ℕ) → value ≡ refusal Einval → (new : Kept) (result : Result Served AllocError) →
      Serves a (answered (world_of a k) ask (replies (reply_of ask (Answer value)))) k new call.pid result → Serves a (event.cloned (world_of a k) ask) k new call.pid result
  flags_serve other value says new result =
      refused_serves Einval value says new result (clone_flags (world_of a k) ask (flags_are false (eqb_other (slice_index call.args 0) vfork_flags other)))

  module _ (flags : slice_index call.args 0 ≡ vfork_flags) where
    are_flags : (arg ask 0 == vfork_flags) ≡ true
    are_flags = flags_are true (eqb_same (slice_index call.args 0) vfork_flags flags)

    pub full_serves : nat_le most_entries (count k.procs) ≡ true → (value : ℕ) → value ≡ refusal Eagain → (new : Kept) (result : Result Served AllocError) →
        Serves a (answered (world_of a k) ask (replies (reply_of ask (Answer value)))) k new call.pid result → Serves a (event.cloned (world_of a k) ask) k new call.pid result
    full_serves many value says new result = refused_serves Eagain value says new result (clone_full (world_of a k) ask are_flags (full_is true many))

    -- ---- a child more, where the log has room for the call

    module _ (few : nat_le most_entries (count k.procs) ≡ false) where
      forks : event.cloned (world_of a k) ask ≡ event.forked (world_of a k) ask
      forks = clone_forks (world_of a k) ask are_flags (full_is false few)

      room_there : (b : Bool) → room_beside k (length call.sent.items) ≡ b → room_in (world_of a k) (weight_of call.sent.items []) ≡ b
      unfolding world_of
      room_there b room = ap (room_beside k) (add-zero (length call.sent.items)) ∙ room

      by_outcome : (new : Kept) (s : Served) (o : Outcome) → event.forked (world_of a k) ask ≡ o → Answered a o k new call.pid s → Answered a (event.cloned (world_of a k) ask) k new call.pid s
      by_outcome new s o same = subst (λ (x : Outcome). Answered a x k new call.pid s) (sym (forks ∙ same))

      pub fork_has_no_room : room_beside k (length call.sent.items) ≡ false → Answered a (event.cloned (world_of a k) ask) k k call.pid LogFull
      fork_has_no_room room = by_outcome k LogFull full (fork_full (world_of a k) ask (room_there false room)) refl

      module _ (regular : Regular k) (lives : process k.procs call.pid ≡ Some e) where
        forked_world : world_of (later 1 a) (after_fork k e call) ≡ noted (call_note (entry_of ask (world_of a k).next_pid [])) (counted_in e.value.space (event.with_child (world_of a k) ask))
        unfolding world_of
        forked_world = λ i. record (counted_in e.value.space (event.with_child (world_of a k) ask)) {
          procs = procs_forked k e call regular lives a h (args_of e.value.regs) is.args i;
          notes = call_note (record { pid = is.pid i; call = is.number i; args = is.args i; sent = call.sent.items; reply = k.procs.next_pid; got = [] }) ∷ k.notes;
        }

        some_mapped : (f : Entry Task → Entry Task) (o : Option (Entry Task)) (x : Entry Task) → o ≡ Some x → IsSome (option_map f o)
        some_mapped f (Some y) x there = refl
        some_mapped f None x there = absurd cc

        -- the parent lives on
        parent_stays : Lives (after_fork k e call).procs call.pid
        parent_stays =
            let replies : Entry Task → Entry Task = λ x. with_value x (parent k e call regular lives) in
            subst IsSome (sym (find_changed entry_pid call.pid replies (λ x. refl) (with_child k.procs call.pid (child_task k e call)).entries))
            (some_mapped replies _ _ (parent_there k.procs call.pid e lives regular.falls (child_task k e call)))

        pub fork_serves : room_beside k (length call.sent.items) ≡ true → (new : Kept) → new ≡ after_fork k e call → Answered a (event.cloned (world_of a k) ask) k new call.pid TurnEnds
        fork_serves room new same =
            subst (λ (x : Kept). Answered a (event.cloned (world_of a k) ask) k x call.pid TurnEnds) (sym same)
            (by_outcome (after_fork k e call) TurnEnds _ (fork_when (world_of a k) ask (room_there true room)) (sym forked_world, (refl, refl, parent_stays)))
