-- The machine of a run before its first turn, and what is said of the run from there on: of `run` and of `demo` alike.
use Rattle.std.specs.Prelude.{◌≡◌, ℕ, List, map, Some}
use Rattle.page_runs.specs.declared.place.Kind.{Kind}
use Rattle.quantum_sched.specs.declared.Quantum.{Quantum}
use Rattle.manifest_text.specs.Values.{Manifest}
use Rattle.machine_world.specs.World.{Process, World, pid_of}
use Rattle.machine_world.specs.Boot.{empty_world}
use Rattle.machine_world.specs.Turns.{stuck, Walk, turns}
use Rattle.machine_world.specs.Order.{IsInOrder}
use Rattle.vfork_exec.specs.Keyed.{find}
use Rattle.waits_laws.specs.Waits.{WaitsWell}
use Rattle.waits_laws.specs.Laws.{WaitsOrLent}
use Rattle.alone_laws.specs.Stays.{Stay, AreRight, stays_along, first_stays}
use Rattle.end_laws.specs.Laws.{EndsAreTold}
use Rattle.refusal_laws.specs.Regular.{IsRegularWorld}
use Rattle.flat_machine.specs.Runs.{repeated}
use Rattle.suite_top.specs.Run.{start_line, opening}
-- what the item lines bring in with these files, and the opening world
pub use Rattle.suite_top.specs.Opened.{Booted}

module _ {keep : ℕ} {kind : Kind} {m : Manifest} {files : List (List ℕ)} (b : Booted keep kind m files) where
  -- the turns from that world, up to the first stray access
  abbrev pub booted_turns : Walk
  booted_turns = turns (repeated m.repeat m.quanta) b.world

  -- the world behind them, from which without `--go-on` all texts are told
  abbrev pub last_world : World
  last_world = booted_turns.world

  -- ---- each process by itself

  -- the stays of the start lines, along the turns: of an elf line's program the image is that of its ELF file
  abbrev pub booted_stays : List Stay
  booted_stays = stays_along (first_stays (empty_world (opening keep kind m b.brought)) (map start_line m.starts)) b.world (repeated m.repeat m.quanta)

  -- what each process does up to the first stray access is what its program does alone, under the replies that it had
  abbrev pub DoesAsAlone : Type 0
  DoesAsAlone = AreRight booted_stays last_world

  -- and how each process ends up to there is how its program ends alone: each end that is noted is that of the run of one of the stays, as it was then
  abbrev pub EndsAsAlone : Type 0
  EndsAsAlone = EndsAreTold booted_stays last_world.notes

-- ---- those that wait

-- who waits in the world behind the turns would wait again, for just what it waits for; and where the run is stuck, each process that
-- lives waits so, or stands still for its vfork child
pub record WaitsToTheEnd {keep : ℕ} {kind : Kind} {m : Manifest} {files : List (List ℕ)} (b : Booted keep kind m files) : Type 0 where
  pub waits : WaitsWell (last_world b)
  pub when_stuck : (booted_turns b).end ≡ Some stuck → (pid : ℕ) (p : Process) → find pid_of pid (last_world b).procs ≡ Some p → WaitsOrLent (last_world b) p p.state

-- ---- files, and refused calls

-- in every world of its turns, up to the first stray access, the nodes are a tree of names, and all counts of what is open are exact
abbrev pub HasWorldsInOrder : {keep : ℕ} {kind : Kind} {m : Manifest} {files : List (List ℕ)} → Booted keep kind m files → Type 0
HasWorldsInOrder b = (quanta : List Quantum) → IsInOrder (turns quanta b.world).world

-- and every such world is one of which the laws of refusals, of ENOMEM and of waiting speak
abbrev pub HasRegularWorlds : {keep : ℕ} {kind : Kind} {m : Manifest} {files : List (List ℕ)} → Booted keep kind m files → Type 0
HasRegularWorlds b = (quanta : List Quantum) → IsRegularWorld (turns quanta b.world).world
