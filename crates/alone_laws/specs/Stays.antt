-- The life of each space, as a stay of a program: what is told of it, and when that is right for a world.
use Rattle.std.specs.Prelude.{◌≡◌, ℕ, zero, suc, ◌+◌, ◌==◌, ◌≤◌, if◌then◌else◌, List, [], ◌∷◌, ◌++◌, map, length, Option, Some, None, Result, Ok, Err, option_map, slice_get}
use Rattle.call_log.specs.Notes.{CallEntry, LoadEntry, Note, call_note, load_note, end_note, stray_note}
use Rattle.quantum_sched.specs.declared.Quantum.{Quantum}
use Rattle.vfork_exec.specs.Keyed.{find}
use Rattle.flat_loader.specs.Begin.{Loading}
use Rattle.flat_loader.specs.Alone.{Runner, Solo, Item, memory_of, alone}
use Rattle.flat_loader.specs.Original.{Original, block_pages}
use Rattle.machine_world.specs.World.{Program, Process, LiveSpace, World, id_of}
use Rattle.machine_world.specs.Event.{Begins, Trace}
use Rattle.machine_world.specs.Turns.{turns}
use Rattle.machine_world.specs.Free.{free}
use Rattle.machine_world.specs.Boot.{StartLine, Found, found, start_path, taken, address_of, started, BootFault}

-- a program loaded into a space, the space's owner, the calls made in it with what their mappings brought, and how many events
-- were made in it, other than waits
pub record Stay : Type 0 where
  pub loading : Loading
  pub pid : ℕ
  pub items : List Item
  pub events : ℕ

-- ---- along a walk

-- item number i is changed
unfoldable pub change_at : {A : Type 0} → ℕ → (A → A) → List A → List A
change_at i f [] = []
change_at zero f (x ∷ xs) = f x ∷ xs
change_at (suc i) f (x ∷ xs) = x ∷ change_at i f xs

-- what an event adds to the stay of its space
abbrev pub longer : Trace → Stay → Stay
longer t y = record y { items = y.items ++ t.items; events = y.events + t.events }

-- a stay that begins, with no call and no event
abbrev pub begun_stay : Option Begins → List Stay
begun_stay None = []
begun_stay (Some b) = record { loading = b.loading; pid = b.pid; items = []; events = 0 } ∷ []

-- spaces are numbered by their load notes, so that stay number i is that of space number i
abbrev pub collect : List Stay → Trace → List Stay
collect ys t = change_at t.space (longer t) ys ++ begun_stay t.begins

unfoldable pub collect_all : List Stay → List Trace → List Stay
collect_all ys [] = ys
collect_all ys (t ∷ ts) = collect_all (collect ys t) ts

-- the stays behind a run by quanta
abbrev pub stays_along : List Stay → World → List Quantum → List Stay
stays_along ys w quanta = collect_all ys (turns quanta w).traces

-- ---- at boot: one stay for each start line, with no call and no event

abbrev pub loading_at : StartLine → Found → Option ℕ → Option Loading
loading_at s f None = None
loading_at s f (Some page) = Some (record { original = f.original; block = address_of page; args = s.args; env = [] })

abbrev pub loading_in : World → StartLine → Option Found → Option Loading
loading_in w s None = None
loading_in w s (Some f) = loading_at s f (taken w (block_pages f.original) (free w))

-- how the program of a start line is loaded
abbrev pub loading_of : World → StartLine → Option Loading
loading_of w s = loading_in w s (found w.rest (start_path s))

abbrev pub first_stay : ℕ → Option Loading → List Stay
first_stay pid None = []
first_stay pid (Some l) = record { loading = l; pid = pid; items = []; events = 0 } ∷ []

abbrev pub behind_start : (World → List Stay) → Result World BootFault → List Stay
behind_start more (Ok now) = more now
behind_start more (Err fault) = []

unfoldable pub first_stays : World → List StartLine → List Stay
first_stays w [] = []
first_stays w (s ∷ ss) = first_stay w.next_pid (loading_of w s) ++ behind_start (λ now. first_stays now ss) (started w s)

-- ---- what is right for a world

abbrev pub runner_of : Process → Runner
runner_of p = record { pid = p.pid; regs = p.regs }

-- the processes of a space, newest first
unfoldable pub runners : ℕ → List Process → List Runner
runners i [] = []
runners i (p ∷ ps) = if p.space == i then runner_of p ∷ runners i ps else runners i ps

-- what the run of a stay leaves, alone
abbrev pub alone_end : Stay → Option Solo
alone_end y = alone y.loading y.pid y.items y.events

-- the run isn't refuted, and leaves no process
pub record IsOver (y : Stay) : Type 0 where
  pub end : Solo
  pub is : alone_end y ≡ Some end
  pub empty : end.stack ≡ []

-- while the space lives, the run alone leaves its processes with their registers, its own ranges and its bytes
abbrev pub Agrees : ℕ → List Process → Stay → Option LiveSpace → Type 0
Agrees i procs y None = IsOver y
Agrees i procs y (Some s) = alone_end y ≡ Some (record { stack = runners i procs; memory = memory_of s.space })

abbrev pub AllAgree : List Stay → World → Type 0
AllAgree ys w = (i : ℕ) (y : Stay) → slice_get ys i ≡ Some y → Agrees i w.procs y (find id_of i w.spaces)

-- the calls that were kept, and the loads, oldest first
unfoldable pub kept_calls_of : List Note → List CallEntry
kept_calls_of [] = []
kept_calls_of (call_note e ∷ notes) = kept_calls_of notes ++ e ∷ []
kept_calls_of (load_note l ∷ notes) = kept_calls_of notes
kept_calls_of (end_note pid how ∷ notes) = kept_calls_of notes
kept_calls_of (stray_note pid seen ∷ notes) = kept_calls_of notes

unfoldable pub loads_of : List Note → List LoadEntry
loads_of [] = []
loads_of (call_note e ∷ notes) = loads_of notes
loads_of (load_note l ∷ notes) = loads_of notes ++ l ∷ []
loads_of (end_note pid how ∷ notes) = loads_of notes
loads_of (stray_note pid seen ∷ notes) = loads_of notes

-- the items that belong to a place
unfoldable pub belonging : {A : Type 0} → ℕ → List ℕ → List A → List A
belonging i [] xs = []
belonging i (n ∷ ns) [] = []
belonging i (n ∷ ns) (x ∷ xs) = if n == i then x ∷ belonging i ns xs else belonging i ns xs

-- each kept call belongs to one stay, and the entries of a stay are those that belong to it, in their order
pub record AreTold (ys : List Stay) (notes : List Note) : Type 0 where
  pub places : List ℕ
  pub each : length places ≡ length (kept_calls_of notes)
  pub entries : (i : ℕ) (y : Stay) → slice_get ys i ≡ Some y → map (λ (x : Item). x.entry) y.items ≡ belonging i places (kept_calls_of notes)
  pub no_others : (i : ℕ) → length ys ≤ i → belonging i places (kept_calls_of notes) ≡ []

-- the original of a program, by its number
abbrev pub original_at : List Program → ℕ → Option Original
original_at programs index = option_map (λ p. p.original) (slice_get programs index)

-- the pid of a stay, the first address of its block, and its program
abbrev pub head_of : Stay → ℕ × ℕ × Option Original
head_of y = (y.pid, y.loading.block, Some y.loading.original)

abbrev pub loaded_head : List Program → LoadEntry → ℕ × ℕ × Option Original
loaded_head programs l = (l.pid, l.base, original_at programs l.program)

pub record AreRight (ys : List Stay) (w : World) : Type 0 where
  -- one stay for each load note, in their order, of the program that the note names
  pub count : length ys ≡ w.loads
  pub loads : map head_of ys ≡ map (loaded_head w.rest.programs) (loads_of w.notes)
  -- each is a run of its program alone that isn't refuted, and agrees with its space
  pub agree : AllAgree ys w
  -- and has the calls that were kept
  pub told : AreTold ys w.notes
