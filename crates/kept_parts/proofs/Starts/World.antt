-- The parts with one program more stand for the world that starts it.
use Rattle.std.proofs.Common.{◌≡◌, ℕ, ◌+◌, ◌<◌, Bool, true, false, List, [], ◌∷◌, ◌++◌, map, length, arith, refl, sym, ap, subst, ◌∙◌, length-set, length-append}
use Rattle.std.specs.Prelude.{Option, Some, None, Result, Ok, Err, ⊤}
use Rattle.page_runs.specs.declared.place.Kind.{Kind}
use Rattle.mmap_rules.specs.Held.{Held, page_address}
use Rattle.vfork_exec.specs.declared.family.State.TheVariants.{Ready}
use Rattle.vfork_exec.specs.Procs.{most_entries, count, Listed, with_start, Starts as ProcsStart}
use Rattle.call_log.specs.Log.{KeptNotes as LogKept, Pushes}
use Rattle.call_log.specs.declared.log.LogFault.{LogFault}
use Rattle.std.proofs.lemmas.Option.{same_Some, none-some}
use Rattle.kept_parts.specs.declared.task.Task.{Task}
use Rattle.call_log.specs.Notes.{Note, load_note}
use Rattle.bflt_format.specs.Values.{Values}
use Rattle.flat_loader.specs.Original.{flat_original, block_pages}
use Rattle.flat_loader.specs.Frame.{frame_fits}
use Rattle.flat_loader.specs.Begin.{Loading, block_end, begin_regs}
use Rattle.flat_loader.specs.Loads.{block_page, block_region, held_begin, page_loading, IsLoaded, Loads}
use Rattle.flat_loader.specs.declared.loaded.Loaded.{Loaded}
use Rattle.flat_loader.specs.declared.loaded.LoadRefusal.{LoadRefusal}
use Rattle.flat_loader.specs.declared.loaded.LoadRefusal.TheVariants.{E2big, NoRun, Memory}
use Rattle.machine_world.specs.World.{World}
use Rattle.machine_world.specs.Recordings.{launched}
use Rattle.machine_world.specs.Boot.{StartLine, BootFault, args_too_big, begun, Found, placed, fitting}
use Rattle.kept_parts.specs.declared.start.StartRefusal.{StartRefusal}
use Rattle.kept_parts.specs.declared.start.StartRefusal.TheVariants as refusal
use Rattle.kept_parts.specs.Refusals.{refusal_of}
use Rattle.fd_tables.specs.Files.{free_number}
use Rattle.fd_tables.specs.Changes.{with_table}
use Rattle.kept_parts.specs.Kept.{Kept}
use Rattle.kept_parts.specs.Regular.{Regular, most_first}
use Rattle.kept_parts.specs.Copies.{CopiesHold}
use Rattle.kept_parts.specs.Stands.{About, process_of, world_of}
use Rattle.kept_parts.specs.Starts.{Started, Starts}
use Rattle.kept_parts.specs.Recorded.{program_recorded}
use Rattle.kept_parts.proofs.Common.Recorded.{regular_recorded}
use Rattle.kept_parts.proofs.Copies.BehindChanges.{copies_loaded, copies_noted, load_counts}
use Rattle.kept_parts.proofs.Starts.Regular.{with_one, regular_with}
use Rattle.kept_parts.proofs.Starts.Loaded.{taken_is, Placed, placed_by, fits, spaces_begin}

-- program number `index` in the block at a page of memory
abbrev pub with_program : Kept → ℕ → Values → List (List ℕ) → ℕ → List ℕ → Kept
with_program k index f args page mem = record (with_one k (block_region page (block_pages (flat_original f))) (held_begin (length k.regions) (page_loading f page args []))
    (begin_regs (page_loading f page args [])) (free_number k.files.tables) mem (with_table k.files)
    (load_note (record { pid = k.procs.next_pid; program = index; base = page_address page; pages = block_pages (flat_original f) }) ∷ k.notes)) {
      recording = launched (length k.spaces) k.procs.next_pid (page_loading f page args []) k.recording;
    }

module _ (k : Kept) (regular : Regular k) (f : Values) (args : List (List ℕ)) (page : ℕ) where
  abbrev loading : Loading
  loading = page_loading f page args []

  abbrev held : Held
  held = held_begin (length k.regions) (page_loading f page args [])

  pub regular_program : (index : ℕ) (mem : List ℕ) → Placed k regular f args [] page mem → count k.procs < most_entries → k.procs.next_pid < most_first → length k.spaces < most_first → Regular (with_program k index f args page mem)
  regular_program index mem loaded few pids spaces =
      regular_recorded _ (regular_with k (block_region page (block_pages (flat_original f))) held (begin_regs loading) (free_number k.files.tables) mem (with_table k.files)
      (load_note (record { pid = k.procs.next_pid; program = index; base = page_address page; pages = block_pages (flat_original f) }) ∷ k.notes)
      regular (fits k regular f args [] page loaded.free) loaded.len few pids spaces) (launched (length k.spaces) k.procs.next_pid loading k.recording)

  world_begins : (a : About) (index : ℕ) (mem : List ℕ) → Placed k regular f args [] page mem → begun (world_of a k) index loading ≡ world_of a (with_program k index f args page mem)
  unfolding world_of
  world_begins a index mem loaded = λ i. record {
    procs = record { pid = k.procs.next_pid; parent = 0; regs = begin_regs loading; space = length k.spaces; table = free_number k.files.tables; state = Ready } ∷ map process_of k.procs.entries;
    ended = k.procs.ended;
    spaces = sym (spaces_begin k regular f args [] page mem loaded) i;
    loads = sym (length-append k.spaces (Some held ∷ [])) i;
    next_pid = k.procs.next_pid + 1;
    rest = record {
      pages = sym (length-set k.regions page (block_region page (block_pages (flat_original f)))) i;
      kind = a.kind;
      programs = a.programs;
      tree = k.tree;
      files = with_table k.files;
      console = k.console;
      keep = k.recording.keep;
    };
    notes = load_note (record { pid = k.procs.next_pid; program = index; base = page_address page; pages = block_pages (flat_original f) }) ∷ k.notes;
    events = a.events;
    recording = launched (length k.spaces) k.procs.next_pid loading k.recording;
  }

-- ---- which run is taken

module _ (a : About) (k : Kept) (regular : Regular k) (kind : Kind) (s : StartLine) (f : Found) (same : a.kind ≡ kind) where
  too_big : (fits : Bool) → fits ≡ false → fitting (world_of a k) s f fits ≡ Err (args_too_big s.line)
  too_big fits big = ap (λ (b : Bool). fitting (world_of a k) s f b) big

  placed_is : (fits : Bool) (o : Option ℕ) → fits ≡ true → block_page kind k.regions (block_pages f.original) ≡ o
      → fitting (world_of a k) s f fits ≡ placed (world_of a k) s f o
  placed_is fits o fit is =
      ap (λ (b : Bool). fitting (world_of a k) s f b) fit ∙ ap (placed (world_of a k) s f) (taken_is a k regular kind same (block_pages f.original) ∙ is)

-- ---- what the start leaves

pub same_parts : (k n : Kept) → n.mem ≡ k.mem → n.regions ≡ k.regions → n.starts ≡ k.starts → n.spaces ≡ k.spaces → n.tree ≡ k.tree → n.files ≡ k.files → n.procs ≡ k.procs → n.notes ≡ k.notes → n.console ≡ k.console → n.recording ≡ k.recording → n ≡ k
same_parts k n mem regions starts spaces tree files procs notes console recorded = λ i. record {
  tree = tree i;
  files = files i;
  mem = mem i;
  regions = regions i;
  starts = starts i;
  spaces = spaces i;
  procs = procs i;
  notes = notes i;
  console = console i;
  recording = recorded i;
}

starts : (k n : Kept) (regular : Regular k) (kind : Kind) (index : ℕ) (f : Values) (args : List (List ℕ)) (page : ℕ) (mem : List ℕ)
    → frame_fits (flat_original f) args [] ≡ true → block_page kind k.regions (block_pages (flat_original f)) ≡ Some page → Placed k regular f args [] page mem
    → n ≡ with_program k index f args page mem → Starts kind index (flat_original f) args k n (Ok tt)
starts k n regular kind index f args page mem fit is loaded new = record {
  started = λ a s same args_is.
      let found : Found = record { index = index; original = flat_original f } in
      let begun_as : List (List ℕ) → World = λ given. begun (world_of a k) index (record { original = flat_original f; block = page_address page; args = given; env = [] }) in
      let world : begun_as s.args ≡ world_of a n =
      ap begun_as args_is ∙ world_begins k regular f args page a index mem loaded ∙ ap (world_of a) (sym new) in
      let goes = placed_is a k regular kind s found same (frame_fits (flat_original f) args []) (Some page) fit is in
      let Goal : Result World BootFault → Type 0 = λ r. Started a r s.line k n (Ok tt) in
      subst Goal (sym goes) world;
}

memory_refused : (a : About) (r : Result World BootFault) (line : ℕ) (k n : Kept) → n ≡ k → Started a r line k n (Err refusal.Memory)
memory_refused a (Ok now) line k n same = same
memory_refused a (Err fault) line k n same = same

refuses : (k n : Kept) → Regular k → (kind : Kind) (index : ℕ) (f : Values) (args : List (List ℕ)) (e : LoadRefusal)
    → Loads kind f args [] k.regions k.mem n.regions n.mem (Err e) → (n.regions ≡ k.regions → n.mem ≡ k.mem → n ≡ k)
    → Starts kind index (flat_original f) args k n (Err (refusal_of e))
refuses k n regular kind index f args E2big why all = record {
  started = λ a s same args_is.
      let found : Found = record { index = index; original = flat_original f } in
      let goes = too_big a k regular kind s found same (frame_fits (flat_original f) args []) why.0 in
      let Goal : Result World BootFault → Type 0 = λ r. Started a r s.line k n (Err refusal.E2big) in
      subst Goal (sym goes) (refl, all why.1.0 why.1.1);
}
refuses k n regular kind index f args NoRun why all = record {
  started = λ a s same args_is.
      let found : Found = record { index = index; original = flat_original f } in
      let goes = placed_is a k regular kind s found same (frame_fits (flat_original f) args []) None why.0 why.1.0 in
      let Goal : Result World BootFault → Type 0 = λ r. Started a r s.line k n (Err refusal.NoRun) in
      subst Goal (sym goes) (refl, all why.1.1.0 why.1.1.1);
}
refuses k n regular kind index f args Memory why all = record {
  started = λ a s same args_is.
      memory_refused a (fitting (world_of a k) s (record { index = index; original = flat_original f }) (frame_fits (flat_original f) args [])) s.line k n (all why.0 why.1);
}

-- the same by what is known of a call
pub refuses_by : (old k n : Kept) (r : Result ⊤ StartRefusal) → k ≡ old → Regular k → (kind : Kind) (index : ℕ) (f : Values) (args : List (List ℕ)) (e : LoadRefusal)
    → Loads kind f args [] k.regions k.mem n.regions n.mem (Err e) → n.starts ≡ k.starts → n.spaces ≡ k.spaces → n.tree ≡ k.tree → n.files ≡ k.files → n.procs ≡ k.procs → n.notes ≡ k.notes → n.console ≡ k.console
    → n.recording ≡ k.recording → r ≡ Err (refusal_of e) → Starts kind index (flat_original f) args old n r
refuses_by old k n r view regular kind index f args e why starts spaces tree files procs notes console recorded is =
    rw (is, ← view) (refuses k n regular kind index f args e why (λ regions mem. same_parts k n mem regions starts spaces tree files procs notes console recorded))

-- ---- what the calls left

pub process_started : (old : Listed Task) (value : Task) (new : Listed Task) (r : Option ℕ) (pid : ℕ) → ProcsStart old value new r → r ≡ Some pid
    → (pid ≡ old.next_pid) × (new ≡ with_start old value)
process_started old value new None pid starts is = absurd (none-some pid is)
process_started old value new (Some x) pid starts is = (sym (same_Some _ _ is) ∙ starts.1, starts.2)

pub note_pushed : (old : LogKept) (notes : List Note) (note : Note) (new : LogKept) (r : Result ⊤ LogFault) (done : ⊤) → old.notes ≡ notes
    → Pushes old note new r → r ≡ Ok done → new.notes ≡ note ∷ notes
note_pushed old notes note new (Ok x) done same pushed is = pushed.1 ∙ ap (λ (ns : List Note). note ∷ ns) same
note_pushed old notes note new (Err x) done same pushed is = absurd cc

-- the parts that a program was loaded into
pub record Begun (k n : Kept) (kind : Kind) (index : ℕ) (f : Values) (args : List (List ℕ)) : Type 0 where
  pub loaded : Loaded
  pub is : IsLoaded kind f args [] k.regions k.mem n.regions n.mem loaded
  pub new : n ≡ with_program k index f args is.page n.mem

-- by what the calls left
pub begun_by : (k n : Kept) (kind : Kind) (index : ℕ) (f : Values) (args : List (List ℕ)) (loaded : Loaded) (pid number table : ℕ)
    → IsLoaded kind f args [] k.regions k.mem n.regions n.mem loaded → n.starts ≡ k.starts → n.spaces ≡ k.spaces ++ Some loaded.space ∷ [] → number ≡ length k.spaces
    → (pid ≡ k.procs.next_pid) × (n.procs ≡ with_start k.procs (record { regs = loaded.regs; space = number; table = table }))
    → table ≡ free_number k.files.tables → n.tree ≡ k.tree → n.files ≡ with_table k.files
    → n.notes ≡ load_note (record { pid = pid; program = index; base = loaded.base; pages = loaded.pages }) ∷ k.notes
    → n.console ≡ k.console
    → n.recording ≡ program_recorded k.recording (length k.spaces) (record { stack = f.stack; base = loaded.base; pid = pid; args = args; env = [] })
    → Begun k n kind index f args
begun_by k n kind index f args loaded pid number table is starts spaces number_is procs table_is tree files notes console recorded = record {
  loaded = loaded;
  is = is;
  new = same_parts (with_program k index f args is.page n.mem) n refl is.regions starts
      (spaces ∙ ap (λ (h : Held). k.spaces ++ Some h ∷ []) is.space)
      tree files
      (procs.1 ∙ (λ i. with_start k.procs (record { regs = is.regs i; space = number_is i; table = table_is i })))
      (notes ∙ (λ i. load_note (record { pid = procs.0 i; program = index; base = is.base i; pages = is.pages i }) ∷ k.notes))
      console
      (recorded ∙ (λ i. program_recorded k.recording (length k.spaces) (record { stack = f.stack; base = is.base i; pid = procs.0 i; args = args; env = [] })));
}

pub regular_by : (old k n : Kept) → k ≡ old → count old.procs < most_entries → old.procs.next_pid < most_first → length old.spaces < most_first → Regular k → (kind : Kind) (index : ℕ) (f : Values) (args : List (List ℕ))
    → Begun k n kind index f args → Regular n
regular_by old k n view few pids spaces regular kind index f args b =
    let less : count k.procs < most_entries = rw view few in
    let given : k.procs.next_pid < most_first = rw view pids in
    let loaded : length k.spaces < most_first = rw view spaces in
    subst Regular (sym b.new) (regular_program k regular f args b.is.page index n.mem (placed_by kind k regular f args [] n.regions n.mem b.loaded b.is) less given loaded)

pub copies_by : (k n : Kept) → Regular k → CopiesHold k.regions k.mem k.tree k.notes → (kind : Kind) (index : ℕ) (f : Values) (args : List (List ℕ))
    → Begun k n kind index f args → CopiesHold n.regions n.mem n.tree n.notes
copies_by k n regular copies kind index f args b =
    let page : ℕ = b.is.page in
    let pages : ℕ = block_pages (flat_original f) in
    let p = placed_by kind k regular f args [] n.regions n.mem b.loaded b.is in
    let end : block_end (page_loading f page args []) ≡ page_address (page + pages) = omega arith in
    let loaded = copies_loaded k regular copies page pages p.free (page_loading f page args []) refl end n.mem p.len p.others in
    let now : Kept = with_program k index f args page n.mem in
    subst (λ (x : Kept). CopiesHold x.regions x.mem x.tree x.notes) (sym b.new)
    (copies_noted now.regions now.mem now.tree k.notes now.notes loaded (omega (arith, load_counts (record { pid = k.procs.next_pid; program = index; base = page_address page; pages = pages }) k.notes)) (λ unstrayed. unstrayed))

pub starts_by : (old k n : Kept) → k ≡ old → Regular k → (kind : Kind) (index : ℕ) (f : Values) (args : List (List ℕ))
    → Begun k n kind index f args → Starts kind index (flat_original f) args old n (Ok tt)
starts_by old k n view regular kind index f args b =
    rw (← view) (starts k n regular kind index f args b.is.page n.mem b.is.fits b.is.placed (placed_by kind k regular f args [] n.regions n.mem b.loaded b.is) b.new)
