-- What an execve leaves of the one memory: the program's block in pages that were free, with its header.
use Rattle.std.proofs.Common.{◌≡◌, ℕ, ◌+◌, Bool, true, false, List, [], ◌∷◌, length, take, refl, sym, ap, subst, ◌∙◌}
use Rattle.std.specs.Prelude.{Option, Some, None, Result, Ok, Err, option_map, slice_get, slice_range, if◌then◌else◌}
use Rattle.std.specs.declared.alloc.AllocError.{AllocError}
use Rattle.byte_words.specs.ByteMap.{with_bytes}
use Rattle.phys_mem.specs.Memory.{place as place_of}
use Rattle.page_runs.specs.declared.place.Kind.{Kind}
use Rattle.call_log.specs.declared.errno.Errno.{Errno}
use Rattle.call_log.specs.declared.errno.Errno.TheVariants.{E2big, Enomem}
use Rattle.call_log.specs.Errno.{refusal}
use Rattle.call_log.specs.Notes.{call_note}
use Rattle.mmap_rules.specs.Held.{Held, page_address}
use Rattle.region_watch.specs.Private.{only, physical}
use Rattle.bflt_format.specs.Values.{Values}
use Rattle.bflt_format.specs.Spelling.{spell}
use Rattle.flat_loader.specs.Original.{flat_original, header_len, block_pages}
use Rattle.flat_loader.specs.Frame.{frame_fits}
use Rattle.flat_loader.specs.Begin.{Loading, begin_bytes, begin_space}
use Rattle.flat_loader.specs.Loads.{block_page, page_loading, Loads}
use Rattle.flat_loader.specs.declared.loaded.LoadRefusal.TheVariants as load_refusal
use Rattle.vfork_exec.specs.declared.entry.Entry.{Entry}
use Rattle.vfork_exec.specs.Keyed.{without}
use Rattle.vfork_exec.specs.Procs.{borrows as entry_borrows}
use Rattle.file_calls.specs.declared.call.Call.{Call}
use Rattle.machine_world.specs.World.{World, id_of}
use Rattle.machine_world.specs.Families.{borrows, spaces_left}
use Rattle.machine_world.specs.Asks.{Ask, answers, refuses}
use Rattle.machine_world.specs.Event.{Trace, Outcome, went, strays, full, idle, counted_in, noted, entry_of, plain_item, answered, with_exec, load_of, exec_fitting, exec}
use Rattle.memory_world.specs.Physical.{Physical, After, after, or_below, bytes_in, is_free_at, laid_behind, carried, showing}
use Rattle.memory_world.proofs.InMemory.{answered_begins}
use Rattle.kept_parts.specs.declared.task.Task.{Task}
use Rattle.kept_parts.specs.declared.served.Served.{Served}
use Rattle.kept_parts.specs.declared.served.Served.TheVariants.{Replied, LogFull}
use Rattle.kept_parts.specs.Kept.{Kept}
use Rattle.kept_parts.specs.Regular.{Regular}
use Rattle.kept_parts.specs.Stands.{About, later, process_of, world_of}
use Rattle.kept_parts.specs.Serves.{Answered, Serves}
use Rattle.kept_parts.specs.InMemory.{header_of, headers_of, physical_of, GoesIn, ServesIn}
use Rattle.kept_parts.specs.Gone.{without_space, space_left}
use Rattle.kept_parts.specs.Recorded.{room_beside}
use Rattle.kept_parts.specs.Calls.{LivesIn, IsCall, ask_in, Caller, asked_by}
use Rattle.kept_parts.proofs.Common.ShownBytes.{showing_of}
use Rattle.kept_parts.proofs.Replies.PlainMemory.{answered_never, plain_in}
use Rattle.kept_parts.proofs.Common.FreeBytes.{bytes_none, beside_run, without_none}
use Rattle.kept_parts.proofs.Mappings.Memory.{behind_is, changed_goes}
use Rattle.kept_parts.proofs.Starts.Loaded.{Placed, placed_by}
use Rattle.kept_parts.proofs.Starts.BlockBytes.{block_bytes, outside_block, header_beside}
use Rattle.kept_parts.proofs.Common.ProcessList.{own_pid}
use Rattle.kept_parts.proofs.Execs.World.{too_big, no_run, exec_is_at, executed_when, running, old_home, lives_behind, world_behind, room_there}
use Rattle.kept_parts.proofs.Execs.Ways.{got_map}
use Rattle.kept_parts.proofs.Execs.Steps.{Begun, running_is, task_is, RefusalServes}

-- ---- the program stands there

module _ (headers : List (List ℕ)) (a : About) (k : Kept) (regular : Regular k) (e : Entry Task) (h : Held) (call : Call) (runs : LivesIn k call.pid e h) (is : IsCall e call)
    (f : Values) (args env : List (List ℕ)) (page index : ℕ) (mem : List ℕ) (loaded : Placed k regular f args env page mem)
    (header : slice_range mem (place_of (page_address page)) (place_of (page_address page) + header_len) ≡ take header_len (spell f))
    (listed : slice_get headers index ≡ Some (header_of f)) where
  abbrev loading : Loading
  loading = page_loading f page args env

  abbrev ask : Ask
  ask = ask_in a k e h call

  abbrev world : World
  world = noted (load_of (process_of e) index loading) (noted (call_note (entry_of ask 0 [])) (counted_in e.value.space (with_exec (world_of a k) (process_of e) loading)))

  abbrev trace : Trace
  trace = record {
    space = e.value.space;
    events = 1;
    items = plain_item (entry_of ask 0 []) ∷ [];
    begins = Some (record { loading = loading; pid = e.pid });
    over = false;
  }

  abbrev left : Bool → Kept
  left lent = space_left (running k call e.value f args env page index mem) lent e.value.space h

  -- the spaces that are left have no byte at a free address
  left_none : (at : ℕ) → is_free_at (world_of a k) at ≡ true → bytes_in (spaces_left (process_of e) (world_of a k).procs (world_of a k).spaces) at ≡ None
  unfolding spaces_left
  left_none at free = by_lent (borrows (process_of e) (world_of a k).procs)
    where
      by_lent : (lent : Bool) → bytes_in (if lent then (world_of a k).spaces else without id_of e.value.space (world_of a k).spaces) at ≡ None
      by_lent true = bytes_none k regular at a free
      by_lent false = without_none e.value.space at (world_of a k).spaces (bytes_none k regular at a free)

  byte_then : (at : ℕ) (free : Bool) → is_free_at (world_of a k) at ≡ free →
      or_below (if free then or_below (begin_bytes (page_loading f page args env) at) (bytes_in (spaces_left (process_of e) (world_of a k).procs (world_of a k).spaces) at) else None)
      (with_bytes (physical k.mem) (page_address page) (header_of f) at) ≡ physical mem at
  byte_then at true free =
      let none = left_none at free in
      block_bytes k regular f args env page mem loaded header (bytes_in (spaces_left (process_of e) (world_of a k).procs (world_of a k).spaces) at) (physical k.mem) at
      (λ inside. none) (λ outside. ap (λ (v : Option ℕ). or_below v (physical k.mem at)) none)
  byte_then at false held =
      let outside = outside_block k regular f args env page mem loaded header (block_pages (flat_original f)) refl at (beside_run k regular at a page (block_pages (flat_original f)) loaded.free held) in
      header_beside k regular f args env page mem loaded header (physical k.mem) at outside ∙ sym (loaded.others at outside)

  laid_then : laid_behind (physical_of headers a k) (physical k.mem) world trace ≡ physical mem
  unfolding laid_behind physical_of only begin_space
  laid_then = rw listed (λ i at. byte_then at (is_free_at (world_of a k) at) refl i)

  mem_left : (lent : Bool) → (left lent).mem ≡ mem
  mem_left true = refl
  mem_left false = refl

  pub exec_carried : (kind : Kind) → a.kind ≡ kind → (fits lent : Bool) → fits ≡ true → block_page kind k.regions (block_pages (flat_original f)) ≡ Some page →
      room_beside k (length call.sent.items) ≡ true → entry_borrows k.procs e.pid ≡ lent →
      carried (physical_of headers a k) (physical k.mem) (exec_fitting (world_of a k) (ask_in a k e h call) (record { index = index; original = flat_original f }) (record { args = args; env = env }) fits)
      ≡ after (physical_of headers (later 1 a) (space_left (running k call e.value f args env page index mem) lent e.value.space h)) false
  exec_carried kind same fits lent fit placed room lends =
      let goes = exec_is_at a k regular kind same ask (record { index = index; original = flat_original f }) (record { args = args; env = env }) fits (Some page) fit placed
      ∙ executed_when (world_of a k) ask index loading (room_there k regular e h call runs f args env page index mem a is loaded room) in
      let stands = world_behind k regular e h call runs f args env page index mem a is loaded lent lends in
      ap (carried (physical_of headers a k) (physical k.mem)) goes
      ∙ ap (λ (p : Physical). after p false)
      (behind_is headers a k (left lent) world trace (laid_then ∙ ap physical (sym (mem_left lent)))
      (ap (showing (physical (left lent).mem)) (sym stands) ∙ showing_of (later 1 a) (left lent) ∙ stands ∙ sym stands))

-- ---- by what the steps of an execve leave

abbrev pub ExecServesIn : Kind → ℕ → Values → (args env : List (List ℕ)) → Call → (old new : Kept) → Result Served AllocError → Type 0
ExecServesIn kind index f args env call old new result =
    (headers : List (List ℕ)) → (a : About) → a.kind ≡ kind → slice_get headers index ≡ Some (header_of f) → (caller : Caller old call) →
    ServesIn headers a (carried (physical_of headers a old) (physical old.mem)
    (exec_fitting (world_of a old) (asked_by a caller) (record { index = index; original = flat_original f }) (record { args = args; env = env }) (frame_fits (flat_original f) args env)))
    old new call.pid result

module _ (k n : Kept) (regular : Regular k) (call : Call) (task : Task) (kind : Kind) (index : ℕ) (f : Values) (args env : List (List ℕ)) (b : Begun k n call task kind index f args env)
    (room : room_beside k (length call.sent.items) ≡ true) where
  module _ (headers : List (List ℕ)) (a : About) (same : a.kind ≡ kind) (listed : slice_get headers index ≡ Some (header_of f)) (e : Entry Task) (h : Held) (runs : LivesIn k call.pid e h) (is : IsCall e call) where
    abbrev comes : After
    comes = carried (physical_of headers a k) (physical k.mem)
        (exec_fitting (world_of a k) (ask_in a k e h call) (record { index = index; original = flat_original f }) (record { args = args; env = env }) (frame_fits (flat_original f) args env))

    goes_by : (lent : Bool) → entry_borrows k.procs call.pid ≡ lent → GoesIn headers a comes k (space_left (running k call e.value f args env b.is.page index n.mem) lent e.value.space h) call.pid Replied
    goes_by lent lends =
        let loaded = placed_by kind k regular f args env n.regions n.mem b.loaded b.is in
        changed_goes headers a comes k (space_left (running k call e.value f args env b.is.page index n.mem) lent e.value.space h) call.pid
        (exec_carried headers a k regular e h call runs is f args env b.is.page index n.mem loaded b.is.stands.header listed kind same (frame_fits (flat_original f) args env) lent b.is.fits b.is.placed room
        (ap (entry_borrows k.procs) (own_pid k.procs call.pid e runs.lives) ∙ lends))
        (lives_behind k regular e h call runs f args env b.is.page index n.mem lent)

  -- the old space stays with who lent it
  pub memory_lent : entry_borrows k.procs call.pid ≡ true → ExecServesIn kind index f args env call k n (Ok Replied)
  memory_lent lends = λ headers a same listed caller.
      subst (λ (x : Kept). GoesIn headers a (comes headers a same listed caller.entry caller.held caller.runs caller.stands) k x call.pid Replied)
      (sym (running_is k n regular call task kind index f args env b caller.entry caller.runs.lives)) (goes_by headers a same listed caller.entry caller.held caller.runs caller.stands true lends)

  -- or it goes
  pub memory_own : (new : Kept) → ((g : Held) → slice_get n.spaces task.space ≡ Some (Some g) → new ≡ without_space n task.space g) → entry_borrows k.procs call.pid ≡ false →
      ExecServesIn kind index f args env call k new (Ok Replied)
  memory_own new goes none = λ headers a same listed caller.
      let number : task.space ≡ caller.entry.value.space = ap (λ (t : Task). t.space) (task_is k n regular call task kind index f args env b caller.entry caller.runs.lives) in
      let now : n ≡ running k call caller.entry.value f args env b.is.page index n.mem = running_is k n regular call task kind index f args env b caller.entry caller.runs.lives in
      let home : slice_get n.spaces task.space ≡ Some (Some caller.held) =
      (λ i. slice_get (now i).spaces (number i)) ∙ old_home k regular caller.entry caller.held call caller.runs f args env b.is.page index n.mem in
      let left : new ≡ without_space (running k call caller.entry.value f args env b.is.page index n.mem) caller.entry.value.space caller.held = goes caller.held home ∙ (λ i. without_space (now i) (number i) caller.held) in
      subst (λ (x : Kept). GoesIn headers a (comes headers a same listed caller.entry caller.held caller.runs caller.stands) k x call.pid Replied) (sym left) (goes_by headers a same listed caller.entry caller.held caller.runs caller.stands false none)

-- ---- a refusal

module _ (k n new : Kept) (regular : Regular k) (call : Call) (kind : Kind) (index : ℕ) (f : Values) (args env : List (List ℕ)) (result : Result Served AllocError)
    (all : n.regions ≡ k.regions → n.mem ≡ k.mem → n ≡ k) (stays : new.mem ≡ n.mem) where
  refused_in : (errno : Errno) → n ≡ k → RefusalServes errno call n new result →
      ((a : About) → a.kind ≡ kind → (e : Entry Task) → (h : Held) →
      exec_fitting (world_of a k) (ask_in a k e h call) (record { index = index; original = flat_original f }) (record { args = args; env = env }) (frame_fits (flat_original f) args env)
      ≡ answered (world_of a k) (ask_in a k e h call) (refuses (ask_in a k e h call) errno)) → ExecServesIn kind index f args env call k new result
  refused_in errno is refused goes = λ headers a same listed caller.
      let ask = asked_by a caller in
      subst (λ (o : Outcome). ServesIn headers a (carried (physical_of headers a k) (physical k.mem) o) k new call.pid result) (sym (goes a same caller.entry caller.held))
      (plain_in headers a k new (stays ∙ ap (λ (x : Kept). x.mem) is) call.pid (answered (world_of a k) ask (refuses ask errno)) result
      (subst (λ (x : Kept). RefusalServes errno call x new result) is refused a caller)
      (answered_begins (world_of a k) ask (refuses ask errno)) (answered_never (world_of a k) ask (refuses ask errno) refl))

  pub refused_big_in : Loads kind f args env k.regions k.mem n.regions n.mem (Err load_refusal.E2big) → RefusalServes E2big call n new result → ExecServesIn kind index f args env call k new result
  refused_big_in why refused =
      refused_in E2big (all why.1.0 why.1.1) refused (λ a same e h. too_big a k regular kind same (ask_in a k e h call) (record { index = index; original = flat_original f }) (record { args = args; env = env })
      (frame_fits (flat_original f) args env) why.0)

  pub refused_run_in : Loads kind f args env k.regions k.mem n.regions n.mem (Err load_refusal.NoRun) → RefusalServes Enomem call n new result → ExecServesIn kind index f args env call k new result
  refused_run_in why refused =
      refused_in Enomem (all why.1.1.0 why.1.1.1) refused (λ a same e h. no_run a k regular kind same (ask_in a k e h call) (record { index = index; original = flat_original f }) (record { args = args; env = env })
      (frame_fits (flat_original f) args env) why.0 why.1.0)

-- ---- the whole call

-- a log without room
pub full_in : (headers : List (List ℕ)) (a : About) (k : Kept) (pid : ℕ) (o : Outcome) → Answered a o k k pid LogFull → GoesIn headers a (carried (physical_of headers a k) (physical k.mem) o) k k pid LogFull
full_in headers a k pid (went now t) was = absurd was.1
full_in headers a k pid (strays access) was = absurd was
full_in headers a k pid full was = (refl, refl, tt)
full_in headers a k pid idle was = absurd was

-- the header of a program by its number
pub header_listed : (programs : List Values) (index : ℕ) (f : Values) → slice_get programs index ≡ Some f → slice_get (headers_of programs) index ≡ Some (header_of f)
header_listed programs index f is = got_map header_of programs index ∙ ap (option_map header_of) is

module _ (headers : List (List ℕ)) (a : About) (k : Kept) (e : Entry Task) (h : Held) (call : Call) (new : Kept) (result : Result Served AllocError) where
  pub by_outcome_in : (o : Outcome) → exec (world_of a k) (ask_in a k e h call) ≡ o → ServesIn headers a (carried (physical_of headers a k) (physical k.mem) o) k new call.pid result →
      ServesIn headers a (carried (physical_of headers a k) (physical k.mem) (exec (world_of a k) (ask_in a k e h call))) k new call.pid result
  by_outcome_in o goes serves = subst (λ (x : Outcome). ServesIn headers a (carried (physical_of headers a k) (physical k.mem) x) k new call.pid result) (sym goes) serves

  pub by_refusal_in : (errno : Errno) (value : ℕ) → value ≡ refusal errno → exec (world_of a k) (ask_in a k e h call) ≡ answered (world_of a k) (ask_in a k e h call) (refuses (ask_in a k e h call) errno) →
      new.mem ≡ k.mem → Serves a (answered (world_of a k) (ask_in a k e h call) (answers (ask_in a k e h call) value)) k new call.pid result →
      ServesIn headers a (carried (physical_of headers a k) (physical k.mem) (exec (world_of a k) (ask_in a k e h call))) k new call.pid result
  by_refusal_in errno value same goes stays serves =
      let ask = ask_in a k e h call in
      by_outcome_in (answered (world_of a k) ask (refuses ask errno)) goes
      (plain_in headers a k new stays call.pid (answered (world_of a k) ask (refuses ask errno)) result
      (subst (λ (v : ℕ). Serves a (answered (world_of a k) ask (answers ask v)) k new call.pid result) same serves)
      (answered_begins (world_of a k) ask (refuses ask errno)) (answered_never (world_of a k) ask (refuses ask errno) refl))
