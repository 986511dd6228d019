-- A run with `--go-on` beside the same run without it.
use Rattle.std.specs.Prelude.{◌≡◌, ◌≢◌, ◌⊎◌, ℕ, List, ◌++◌, Some, None}
use Rattle.byte_words.specs.declared.access.Access.{Access}
use Rattle.page_runs.specs.declared.place.Kind.{Kind}
use Rattle.quantum_sched.specs.declared.Quantum.{Quantum}
use Rattle.manifest_text.specs.declared.manifest.Dump.{Dump}
use Rattle.vfork_exec.specs.Keyed.{find}
use Rattle.machine_world.specs.World.{Process, World, pid_of}
use Rattle.machine_world.specs.Turns.{Walk, stray_at}
use Rattle.machine_world.specs.Order.{IsInOrder}
use Rattle.memory_world.specs.Physical.{Physical, WalkIn, turns_in, opening_in}
use Rattle.go_on_laws.specs.Laws.{GoesPast}
use Rattle.refusals_in_memory.specs.Regular.{IsRegularIn}
use Rattle.region_watch.specs.declared.mode.Mode.TheVariants.{Halt, GoOn}
use Rattle.flat_machine.specs.Runs.{repeated}
use Rattle.flat_machine.specs.OwnBytes.{own_bytes, memory_bytes}
use Rattle.file_commands.specs.declared.status.Status.TheVariants.{Stray}
use Rattle.file_commands.specs.Ending.{Ending}
use Rattle.file_commands.specs.Arguments.{RunOptions}
use Rattle.suite_top.specs.Telling.{Telling, Report}
use Rattle.suite_top.specs.Report.{own_dumps, memory_dumps, notes_text}
use Rattle.file_commands.specs.Outcome.{Inputs}
use Rattle.suite_top.specs.Run.{world_hits, memory_hits, run_outcome}
use Rattle.command_laws.specs.Booted.{booted_turns}
use Rattle.command_laws.specs.RunLaws.{Opens, opened_outcome, IsStop}

-- the turns without it, and those with it
abbrev pub halting : {inputs : Inputs} {name : List ℕ} {keep : ℕ} {kind : Kind} → Opens inputs name keep kind → Walk
halting o = booted_turns o.booted

abbrev pub going_on : {inputs : Inputs} {name : List ℕ} {keep : ℕ} {kind : Kind} → Opens inputs name keep kind → WalkIn
going_on o = turns_in (repeated o.manifest.repeat o.manifest.quanta) (opening_in o.booted.brought.headers o.booted.world)

-- ---- the worlds

-- where nothing strays the world and the end are the same; bytes that are all own are shown by both
pub record RunsAlike (private : Walk) (one : WalkIn) : Type 0 where
  pub world : one.now.world ≡ private.world
  pub end : one.end ≡ private.end
  pub shown : (d : Dump) (bytes : List ℕ) → own_bytes private.world d.pid d.addr d.len ≡ Some bytes → memory_bytes one.now d.pid d.addr d.len ≡ Some bytes

-- and where they end with a stray access, that is the first one that is noted, and all notes up to it, and all that was written to the
-- console, stand before what came later
pub record GoesOnWell (private : Walk) (one : WalkIn) : Type 0 where
  pub alike : ((pid : ℕ) (access : Access) → private.end ≢ Some (stray_at pid access)) → RunsAlike private one
  pub past : (pid : ℕ) (access : Access) → private.end ≡ Some (stray_at pid access) → GoesPast private.world one pid access

abbrev pub RunsGoOnWell : Type 0
RunsGoOnWell = (inputs : Inputs) (name : List ℕ) (keep : ℕ) (kind : Kind) (o : Opens inputs name keep kind) → GoesOnWell (halting o) (going_on o)

-- the one memory of such a run behind some quanta, before the first stray access and behind it
abbrev pub memory_behind : {inputs : Inputs} {name : List ℕ} {keep : ℕ} {kind : Kind} → Opens inputs name keep kind → List Quantum → Physical
memory_behind o quanta = (turns_in quanta (opening_in o.booted.brought.headers o.booted.world)).now

-- its nodes are a tree of names, and all counts of what is open are exact
abbrev pub MemoryIsInOrder : Type 0
MemoryIsInOrder = (inputs : Inputs) (name : List ℕ) (keep : ℕ) (kind : Kind) (o : Opens inputs name keep kind) (quanta : List Quantum) → IsInOrder (memory_behind o quanta).world

-- and it is regular: the laws of refused calls speak of it
abbrev pub MemoryIsRegular : Type 0
MemoryIsRegular = (inputs : Inputs) (name : List ℕ) (keep : ℕ) (kind : Kind) (o : Opens inputs name keep kind) (quanta : List Quantum) → IsRegularIn (memory_behind o quanta)

-- ---- the status and the texts

-- these options without `--go-on`, and with it: a run keeps no items here
abbrev pub halted : RunOptions → Telling
halted options = Report (record options { mode = Halt; kept = None })

abbrev pub gone_on : RunOptions → Telling
gone_on options = Report (record options { mode = GoOn; kept = None })

abbrev pub halting_ending : {inputs : Inputs} {name : List ℕ} → (options : RunOptions) → Opens inputs name 0 options.kind → Ending
halting_ending options o = (opened_outcome (halted options) o).ending

abbrev pub going_on_ending : {inputs : Inputs} {name : List ℕ} → (options : RunOptions) → Opens inputs name 0 options.kind → Ending
going_on_ending options o = (opened_outcome (gone_on options) o).ending

-- what is told of the hits without it, and with it: nothing, where none are asked for
abbrev pub halting_hits : {inputs : Inputs} {name : List ℕ} {keep : ℕ} {kind : Kind} → RunOptions → Opens inputs name keep kind → List ℕ
halting_hits options o = world_hits (Report options) (repeated o.manifest.repeat o.manifest.quanta) o.manifest.watches o.booted.world

abbrev pub going_on_hits : {inputs : Inputs} {name : List ℕ} {keep : ℕ} {kind : Kind} → RunOptions → Opens inputs name keep kind → List ℕ
going_on_hits options o =
    memory_hits (Report options) (repeated o.manifest.repeat o.manifest.quanta) o.manifest.watches (opening_in o.booted.brought.headers o.booted.world)

-- a dump of a process that lives, of bytes that lie in memory and aren't all own
pub record ShowsMore (private : World) (one : Physical) (d : Dump) : Type 0 where
  pub process : Process
  pub lives : find pid_of d.pid private.procs ≡ Some process
  pub unowned : own_bytes private d.pid d.addr d.len ≡ None
  pub bytes : List ℕ
  pub there : memory_bytes one d.pid d.addr d.len ≡ Some bytes

-- each other dump shows the same, bytes or none
abbrev pub DumpsAlike : World → Physical → Dump → Type 0
DumpsAlike private one d = (memory_bytes one d.pid d.addr d.len ≡ own_bytes private d.pid d.addr d.len) ⊎ ShowsMore private one d

-- two reports have the same notes, what is told of the hits, and the last line, and before that their dump lines
pub record ReportsAlike (private : World) (one : Physical) (hits : List ℕ) (dumps : List Dump) (without_it with_it : List ℕ) : Type 0 where
  pub notes : List ℕ
  pub stop : List ℕ
  pub halts : without_it ≡ notes ++ (hits ++ own_dumps private dumps) ++ stop
  pub goes_on : with_it ≡ notes ++ (hits ++ memory_dumps one dumps) ++ stop
  pub shown : (d : Dump) → DumpsAlike private one d

-- where nothing strays the status and the console are the same, and the reports, with their hits, but for such dumps
pub record TellsAlike {inputs : Inputs} {name : List ℕ} (options : RunOptions) (o : Opens inputs name 0 options.kind) : Type 0 where
  pub status : (going_on_ending options o).status ≡ (halting_ending options o).status
  pub out : (going_on_ending options o).out ≡ (halting_ending options o).out
  pub report : ReportsAlike (halting o).world (going_on o).now (halting_hits options o) o.manifest.dumps (halting_ending options o).report (going_on_ending options o).report

-- a text has more behind its start
abbrev pub Begins : (start text : List ℕ) → Type 0
Begins start text = (more : List ℕ) × (text ≡ start ++ more)

-- where they end with a stray access, the console goes on behind what it has there, and both reports begin with the notes up to that
-- access, its own among them
pub record TellsPast {inputs : Inputs} {name : List ℕ} (options : RunOptions) (o : Opens inputs name 0 options.kind) : Type 0 where
  pub out : Begins (halting_ending options o).out (going_on_ending options o).out
  pub halts : Begins (notes_text options.log (halting o).world) (halting_ending options o).report
  pub goes_on : Begins (notes_text options.log (halting o).world) (going_on_ending options o).report

pub record TellsWell {inputs : Inputs} {name : List ℕ} (options : RunOptions) (o : Opens inputs name 0 options.kind) : Type 0 where
  pub alike : ((pid : ℕ) (access : Access) → (halting o).end ≢ Some (stray_at pid access)) → TellsAlike options o
  pub past : (pid : ℕ) (access : Access) → (halting o).end ≡ Some (stray_at pid access) → TellsPast options o

abbrev pub RunsTellWell : Type 0
RunsTellWell = (inputs : Inputs) (name : List ℕ) (options : RunOptions) (o : Opens inputs name 0 options.kind) → TellsWell options o

-- a run that doesn't reach its machine is the same with it and without it
abbrev pub RunsEndEarlyAlike : Type 0
RunsEndEarlyAlike = (name : List ℕ) (options : RunOptions) (inputs : Inputs)
    → IsStop (run_outcome name (halted options) inputs).ending.status ⊎ (run_outcome name (gone_on options) inputs ≡ run_outcome name (halted options) inputs)

-- and with it no run ends at a stray access
abbrev pub RunsOnNeverStray : Type 0
RunsOnNeverStray = (name : List ℕ) (options : RunOptions) (inputs : Inputs) → (run_outcome name (gone_on options) inputs).ending.status ≢ Stray
