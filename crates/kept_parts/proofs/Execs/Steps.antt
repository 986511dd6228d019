-- What the steps of an execve leave: the parts are regular, and stand for the world that it gives.
use Rattle.std.proofs.Common.{◌≡◌, ◌≢◌, ℕ, ◌+◌, ◌<◌, ◌^◌, Bool, true, false, List, [], ◌∷◌, ◌++◌, length, Some, refl, sym, ap, subst, ◌∙◌, arith}
use Rattle.std.specs.Prelude.{slice_get, Result, Err}
use Rattle.std.specs.declared.alloc.AllocError.{AllocError}
use Rattle.page_runs.specs.declared.place.Kind.{Kind}
use Rattle.mmap_rules.specs.Held.{Held, page_address}
use Rattle.mmap_rules.specs.Copies.{AllHold}
use Rattle.bflt_format.specs.Values.{Values}
use Rattle.call_log.specs.declared.errno.Errno.{Errno}
use Rattle.call_log.specs.declared.errno.Errno.TheVariants.{E2big, Enomem}
use Rattle.call_log.specs.Notes.{Note, load_note}
use Rattle.fd_tables.specs.Changes.{Storage, storage, exec_closed}
use Rattle.nommu_regions.specs.declared.region.Region.{Region}
use Rattle.flat_loader.specs.Original.{flat_original, block_pages}
use Rattle.flat_loader.specs.Frame.{frame_fits}
use Rattle.flat_loader.specs.Begin.{block_end}
use Rattle.flat_loader.specs.Loads.{block_region, held_begin, page_loading, IsLoaded, Loads}
use Rattle.flat_loader.specs.declared.loaded.Loaded.{Loaded}
use Rattle.flat_loader.specs.declared.loaded.LoadRefusal.{LoadRefusal}
use Rattle.flat_loader.specs.declared.loaded.LoadRefusal.TheVariants as load_refusal
use Rattle.vfork_exec.specs.declared.entry.Entry.{Entry}
use Rattle.vfork_exec.specs.Procs.{process, CanRun, Lives, value_at, with_value_at, with_exec}
use Rattle.vfork_exec.specs.Procs.{borrows as entry_borrows}
use Rattle.file_calls.specs.declared.call.Call.{Call}
use Rattle.machine_world.specs.Ages.{kept_calls}
use Rattle.machine_world.specs.Asks.{refuses}
use Rattle.machine_world.specs.Event.{Outcome, answered, exec_fitting}
use Rattle.kept_parts.specs.declared.task.Task.{Task}
use Rattle.kept_parts.specs.declared.served.Served.{Served}
use Rattle.kept_parts.specs.declared.served.Served.TheVariants.{Replied}
use Rattle.kept_parts.specs.Kept.{Kept}
use Rattle.kept_parts.specs.Regular.{HasSpace, Regular, IsRegular}
use Rattle.kept_parts.specs.Copies.{CopiesHold, HoldsFiles}
use Rattle.kept_parts.specs.Stands.{About, world_of}
use Rattle.kept_parts.specs.Serves.{Answered, Serves}
use Rattle.kept_parts.specs.Gone.{without_space, space_left}
use Rattle.kept_parts.specs.Recorded.{event_recorded, program_recorded, room_beside}
use Rattle.kept_parts.specs.Calls.{LivesIn, IsCall, ask_in, noted_call, Caller, asked_by}
use Rattle.call_bytes.proofs.Places.{get_before}
use Rattle.kept_parts.proofs.Common.RunningProcess.{runs_in, value_found, has_space}
use Rattle.kept_parts.proofs.Common.ProcessList.{can_run_lives, own_pid, state_ready}
use Rattle.kept_parts.proofs.Common.Recorded.{room_alone, regular_recorded}
use Rattle.kept_parts.proofs.Copies.BehindChanges.{call_counts, load_counts, room_counts}
use Rattle.kept_parts.proofs.Starts.World.{same_parts}
use Rattle.kept_parts.proofs.Copies.BehindStrays.{none_clean, cleaned, regular_clean, copies_clean}
use Rattle.kept_parts.proofs.Starts.Loaded.{fits, placed_by}
use Rattle.kept_parts.proofs.Execs.Regular.{regular_switched, copies_switched, nobody_stays}
use Rattle.kept_parts.proofs.Execs.World.{too_big, no_run, notes_behind, recorded_behind, running, old_home, exec_serves}

-- the parts in which a program stands in the place of the one that made the call
pub record Begun (k n : Kept) (call : Call) (task : Task) (kind : Kind) (index : ℕ) (f : Values) (args env : List (List ℕ)) : Type 0 where
  pub loaded : Loaded
  pub is : IsLoaded kind f args env k.regions k.mem n.regions n.mem loaded
  pub kept : value_at k.procs call.pid ≡ Some task
  pub new : n ≡ running k call task f args env is.page index n.mem

-- by what the calls left
pub begun_by : (k n : Kept) (call : Call) (kind : Kind) (index : ℕ) (f : Values) (args env : List (List ℕ)) (loaded : Loaded) (task : Task) (number : ℕ)
    → IsLoaded kind f args env k.regions k.mem n.regions n.mem loaded → n.starts ≡ k.starts → value_at k.procs call.pid ≡ Some task
    → n.spaces ≡ k.spaces ++ Some loaded.space ∷ [] → number ≡ length k.spaces
    → ((t : Task) → value_at k.procs call.pid ≡ Some t → n.procs ≡ with_value_at (with_exec k.procs call.pid) call.pid (record t { regs = loaded.regs; space = number }))
    → storage n.tree n.files ≡ exec_closed (storage k.tree k.files) task.table
    → n.notes ≡ load_note (record { pid = call.pid; program = index; base = loaded.base; pages = loaded.pages }) ∷ noted_call call 0 [] ∷ k.notes
    → n.console ≡ k.console
    → n.recording ≡ program_recorded (event_recorded k.recording task.space) number (record { stack = f.stack; base = loaded.base; pid = call.pid; args = args; env = env })
    → Begun k n call task kind index f args env
begun_by k n call kind index f args env loaded task number is starts kept spaces number_is procs closed notes console recorded = record {
  loaded = loaded;
  is = is;
  kept = kept;
  new = same_parts (running k call task f args env is.page index n.mem) n refl is.regions starts
      (spaces ∙ ap (λ (h : Held). k.spaces ++ Some h ∷ []) is.space)
      (ap (λ (s : Storage). s.nodes) closed) (ap (λ (s : Storage). s.files) closed)
      (procs task kept ∙ (λ i. with_value_at (with_exec k.procs call.pid) call.pid (record task { regs = is.regs i; space = number_is i })))
      (notes ∙ (λ i. load_note (record { pid = call.pid; program = index; base = is.base i; pages = is.pages i }) ∷ noted_call call 0 [] ∷ k.notes))
      console
      (recorded ∙ (λ i. program_recorded (event_recorded k.recording task.space) (number_is i) (record { stack = f.stack; base = is.base i; pid = call.pid; args = args; env = env })));
}

-- the numbers of spaces fit: each but the first has its kept call
pub number_fits : (k : Kept) (bytes : ℕ) → Regular k → room_beside k bytes ≡ true → length k.spaces < 2 ^ 32
number_fits k bytes regular room = omega (arith, regular.loads, room_counts k.notes bytes (room_alone k bytes room))

counts_behind : (k : Kept) (call : Call) (f : Values) (page index : ℕ) → kept_calls (notes_behind k call f page index) ≡ kept_calls k.notes + 1
counts_behind k call f page index =
    load_counts (record { pid = call.pid; program = index; base = page_address page; pages = block_pages (flat_original f) }) (noted_call call 0 [] ∷ k.notes)
    ∙ call_counts (record { pid = call.pid; call = call.number; args = call.args; sent = call.sent.items; reply = 0; got = [] }) k.notes

module _ (k n : Kept) (regular : Regular k) (call : Call) (task : Task) (kind : Kind) (index : ℕ) (f : Values) (args env : List (List ℕ)) (b : Begun k n call task kind index f args env) where
  -- the task is that of the process
  pub task_is : (e : Entry Task) → process k.procs call.pid ≡ Some e → task ≡ e.value
  task_is e lives = value_found k.procs call.pid e lives task b.kept

  pub running_is : (e : Entry Task) → process k.procs call.pid ≡ Some e → n ≡ running k call e.value f args env b.is.page index n.mem
  running_is e lives = b.new ∙ ap (λ (t : Task). running k call t f args env b.is.page index n.mem) (task_is e lives)

  pub sound_by : CopiesHold k.regions k.mem k.tree k.notes → CanRun k.procs call.pid → IsRegular n
  sound_by copies ready =
      let page : ℕ = b.is.page in
      let pages : ℕ = block_pages (flat_original f) in
      let r = runs_in k call.pid regular (can_run_lives k.procs call.pid ready) in
      let e : Entry Task = r.0 in
      let lives = r.1.1.lives in
      let placed = placed_by kind k regular f args env n.regions n.mem b.loaded b.is in
      let end : block_end (page_loading f page args env) ≡ page_address (page + pages) = omega arith in
      let counted = counts_behind k call f page index in
      subst IsRegular (sym (running_is e lives)) (
        regular_recorded _ (regular_switched k regular call.pid e lives (state_ready k.procs call.pid e lives ready) (block_region page pages) (held_begin (length k.regions) (page_loading f page args env))
            (page_loading f page args env) n.mem (notes_behind k call f page index) (fits k regular f args env page b.is.free) b.is.stands.len counted)
            (recorded_behind k call e.value.space (page_loading f page args env)),
        copies_switched k regular copies e.value page pages b.is.free (page_loading f page args env) refl end n.mem b.is.stands.len b.is.stands.others (notes_behind k call f page index) counted (λ unstrayed. unstrayed),
      )

  pub there_by : Lives k.procs call.pid → HasSpace n.spaces task.space
  there_by lives =
      let had = has_space k call.pid task regular lives b.kept in
      subst (λ (x : Kept). HasSpace x.spaces task.space) (sym b.new)
      (record { held = had.held; there = get_before k.spaces (Some (held_begin (length k.regions) (page_loading f b.is.page args env))) task.space (Some had.held) had.there })

  pub nobody_by : CanRun k.procs call.pid → entry_borrows k.procs call.pid ≡ false → (p : ℕ) (g : Entry Task) → process n.procs p ≡ Some g → g.value.space ≢ task.space
  nobody_by ready none p g is same =
      let r = runs_in k call.pid regular (can_run_lives k.procs call.pid ready) in
      let e : Entry Task = r.0 in
      let lives = r.1.1.lives in
      nobody_stays (record { kind = kind; programs = []; events = 0 }) k regular call.pid e lives (page_loading f b.is.page args env) (state_ready k.procs call.pid e lives ready)
      (ap (entry_borrows k.procs) (own_pid k.procs call.pid e lives) ∙ none) p g (ap (λ (x : Kept). process x.procs p) (sym (running_is e lives)) ∙ is)
      (same ∙ ap (λ (t : Task). t.space) (task_is e lives))

  -- ---- the world

  module _ (a : About) (same : a.kind ≡ kind) (e : Entry Task) (h : Held) (runs : LivesIn k call.pid e h) (is : IsCall e call) (room : room_beside k (length call.sent.items) ≡ true) where
    serves_by : (lent : Bool) → entry_borrows k.procs call.pid ≡ lent →
        Answered a (exec_fitting (world_of a k) (ask_in a k e h call) (record { index = index; original = flat_original f }) (record { args = args; env = env }) (frame_fits (flat_original f) args env))
        k (space_left (running k call e.value f args env b.is.page index n.mem) lent e.value.space h) call.pid Replied
    serves_by lent lends =
        exec_serves k regular e h call runs f args env b.is.page index n.mem a is (placed_by kind k regular f args env n.regions n.mem b.loaded b.is) kind same
        (frame_fits (flat_original f) args env) lent b.is.fits b.is.placed room (ap (entry_borrows k.procs) (own_pid k.procs call.pid e runs.lives) ∙ lends)

    -- the old space stays with who lent it
    pub serves_lent : entry_borrows k.procs call.pid ≡ true →
        Answered a (exec_fitting (world_of a k) (ask_in a k e h call) (record { index = index; original = flat_original f }) (record { args = args; env = env }) (frame_fits (flat_original f) args env))
        k n call.pid Replied
    serves_lent lends =
        subst (λ (x : Kept). Answered a (exec_fitting (world_of a k) (ask_in a k e h call) (record { index = index; original = flat_original f }) (record { args = args; env = env }) (frame_fits (flat_original f) args env)) k x call.pid Replied)
        (sym (running_is e runs.lives)) (serves_by true lends)

    -- or it goes
    pub serves_own : (new : Kept) → ((g : Held) → slice_get n.spaces task.space ≡ Some (Some g) → new ≡ without_space n task.space g) → entry_borrows k.procs call.pid ≡ false →
        Answered a (exec_fitting (world_of a k) (ask_in a k e h call) (record { index = index; original = flat_original f }) (record { args = args; env = env }) (frame_fits (flat_original f) args env))
        k new call.pid Replied
    serves_own new goes none =
        let number : task.space ≡ e.value.space = ap (λ (t : Task). t.space) (task_is e runs.lives) in
        let now : n ≡ running k call e.value f args env b.is.page index n.mem = running_is e runs.lives in
        let home : slice_get n.spaces task.space ≡ Some (Some h) =
        (λ i. slice_get (now i).spaces (number i)) ∙ old_home k regular e h call runs f args env b.is.page index n.mem in
        let left : new ≡ without_space (running k call e.value f args env b.is.page index n.mem) e.value.space h = goes h home ∙ (λ i. without_space (now i) (number i) h) in
        subst (λ (x : Kept). Answered a (exec_fitting (world_of a k) (ask_in a k e h call) (record { index = index; original = flat_original f }) (record { args = args; env = env }) (frame_fits (flat_original f) args env)) k x call.pid Replied)
        (sym left) (serves_by false none)

-- copies hold their file, whatever was noted
pub holds_begun : (k n : Kept) → Regular k → CopiesHold k.regions k.mem k.tree k.notes → (call : Call) (task : Task) (kind : Kind) (index : ℕ) (f : Values) (args env : List (List ℕ))
    → Begun k n call task kind index f args env → CanRun k.procs call.pid → HoldsFiles k → HoldsFiles n
holds_begun k n regular copies call task kind index f args env b ready holds =
    let notes : List Note = notes_behind (cleaned k) call f b.is.page index in
    let now : Begun (cleaned k) (record n { notes = notes }) call task kind index f args env =
    record { loaded = b.loaded; is = b.is; kept = b.kept; new = ap (λ (x : Kept). record x { notes = notes }) b.new } in
    (sound_by (cleaned k) (record n { notes = notes }) (regular_clean k regular) call task kind index f args env now (copies_clean k copies holds) ready).1.hold (none_clean k.notes)

-- and where none began
pub holds_refused : (k : Kept) (kind : Kind) (f : Values) (args env : List (List ℕ)) (rs : List Region) (mem : List ℕ) (loaded : Result Loaded LoadRefusal)
    → Loads kind f args env k.regions k.mem rs mem loaded → (why : LoadRefusal) → loaded ≡ Err why → HoldsFiles k → AllHold rs mem k.tree
holds_refused k kind f args env rs mem loaded is why same holds = by_why why (subst (Loads kind f args env k.regions k.mem rs mem) same is)
  where
    stays : rs ≡ k.regions → mem ≡ k.mem → AllHold rs mem k.tree
    stays regions memory = subst HoldsFiles (λ i. record k { regions = sym regions i; mem = sym memory i }) holds

    by_why : (why : LoadRefusal) → Loads kind f args env k.regions k.mem rs mem (Err why) → AllHold rs mem k.tree
    by_why load_refusal.E2big left = stays left.1.0 left.1.1
    by_why load_refusal.NoRun left = stays left.1.1.0 left.1.1.1
    by_why load_refusal.Memory left = stays left.0 left.1

-- ---- what comes of it, for every world that the old parts stand for

abbrev pub ExecServes : Kind → ℕ → Values → (args env : List (List ℕ)) → Call → (old new : Kept) → Result Served AllocError → Type 0
ExecServes kind index f args env call old new result =
    (a : About) → a.kind ≡ kind → (caller : Caller old call) →
    Serves a (exec_fitting (world_of a old) (asked_by a caller) (record { index = index; original = flat_original f }) (record { args = args; env = env }) (frame_fits (flat_original f) args env))
    old new call.pid result

abbrev pub RefusalServes : Errno → Call → (old new : Kept) → Result Served AllocError → Type 0
RefusalServes errno call old new result =
    (a : About) → (caller : Caller old call) →
    Serves a (answered (world_of a old) (asked_by a caller) (refuses (asked_by a caller) errno)) old new call.pid result

module _ (k n new : Kept) (regular : Regular k) (call : Call) (kind : Kind) (index : ℕ) (f : Values) (args env : List (List ℕ)) (result : Result Served AllocError)
    (all : n.regions ≡ k.regions → n.mem ≡ k.mem → n ≡ k) where
  pub refused_big : Loads kind f args env k.regions k.mem n.regions n.mem (Err load_refusal.E2big) → RefusalServes E2big call n new result → ExecServes kind index f args env call k new result
  refused_big why refused = λ a same caller.
      let goes = too_big a k regular kind same (asked_by a caller) (record { index = index; original = flat_original f }) (record { args = args; env = env })
      (frame_fits (flat_original f) args env) why.0 in
      subst (λ (o : Outcome). Serves a o k new call.pid result) (sym goes) (subst (λ (x : Kept). RefusalServes E2big call x new result) (all why.1.0 why.1.1) refused a caller)

  pub refused_run : Loads kind f args env k.regions k.mem n.regions n.mem (Err load_refusal.NoRun) → RefusalServes Enomem call n new result → ExecServes kind index f args env call k new result
  refused_run why refused = λ a same caller.
      let goes = no_run a k regular kind same (asked_by a caller) (record { index = index; original = flat_original f }) (record { args = args; env = env })
      (frame_fits (flat_original f) args env) why.0 why.1.0 in
      subst (λ (o : Outcome). Serves a o k new call.pid result) (sym goes) (subst (λ (x : Kept). RefusalServes Enomem call x new result) (all why.1.1.0 why.1.1.1) refused a caller)
