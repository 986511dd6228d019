-- How far a turn or a run over one memory came: what it leaves to do gives what the whole gives.
use Rattle.std.specs.Prelude.{◌≡◌, ℕ, ◌+◌, ◌<◌, true, List, ◌++◌, map, Some}
use Rattle.byte_words.specs.ByteMap.{Bytes}
use Rattle.rv32im_step.specs.declared.stop.Stop.{Stop}
use Rattle.rv32im_step.specs.declared.stop.Stop.TheVariants.{Next}
use Rattle.mmap_rules.specs.Space.{own_in, writable_in}
use Rattle.region_watch.specs.Private.{only}
use Rattle.region_watch.specs.Instructions.{Ran, instructions}
use Rattle.quantum_sched.specs.declared.Quantum.{Quantum}
use Rattle.vfork_exec.specs.Keyed.{find}
use Rattle.machine_world.specs.World.{Process, LiveSpace, World, pid_of, id_of}
use Rattle.machine_world.specs.Courses.{EndsAs}
use Rattle.memory_world.specs.Physical.{Physical, in_memory, shown_space, moved_in, next_meaning, has_stray, event_in, turn_in, turns_in, opening_in}
use Rattle.memory_world.specs.After.{AfterIs}
use Rattle.memory_world.specs.Wider.{IsWithin, Grows}

-- behind so many events of a process a turn of it goes on in the new world
abbrev pub LeadsIn : (pid : ℕ) → Physical → (done : ℕ) → Physical → Type 0
LeadsIn pid old done new = (left : ℕ) → turn_in (done + left) pid old ≡ turn_in left pid new

-- behind the turns of some quanta a run goes on in the new world
abbrev pub ComesIn : (front : List Quantum) → (old new : Physical) → Type 0
ComesIn front old new = (back : List Quantum) → turns_in (front ++ back) old ≡ turns_in back new

-- every space has what memory has in its own ranges
abbrev pub IsShown : Physical → Type 0
IsShown p = map (shown_space p.memory) p.world.spaces ≡ p.world.spaces

-- the next step of a process that lives ends so
pub record StandsIn (p : Physical) (pid : ℕ) (stop : Stop) : Type 0 where
  pub process : Process
  pub space : LiveSpace
  pub lives : find pid_of pid p.world.procs ≡ Some process
  pub has : find id_of process.space p.world.spaces ≡ Some space
  pub means : EndsAs (next_meaning p process) stop

-- of at most so many instructions all were carried out, or the process stands at one that isn't
abbrev pub HaltsIn : Physical → (pid most done : ℕ) → Stop → Type 0
HaltsIn p pid most done Next = done ≡ most
HaltsIn p pid most done stop = (done < most) × StandsIn p pid stop

-- instructions over a process's own bytes are as many events over all of memory, whether a stray access was noted or not. Of memory
-- afterwards the space has what they left there, and what it may not write is as before
abbrev pub OwnInstructionsLead : Type 0
OwnInstructionsLead =
    (n pid : ℕ) (p : Physical) (q : Process) (s : LiveSpace) (r : Ran) (all : Bytes) →
    IsShown p → find pid_of pid p.world.procs ≡ Some q → find id_of q.space p.world.spaces ≡ Some s →
    IsWithin (own_in s.space.maps) (writable_in s.space.maps) → IsWithin (in_memory p.world) (writable_in s.space.maps) →
    r ≡ instructions n (writable_in s.space.maps) q.regs (only (own_in s.space.maps) p.memory) →
    Grows (own_in s.space.maps) (writable_in s.space.maps) p.memory r.bytes all → LeadsIn pid p r.done (moved_in p q s.space r.regs all r.done)

-- once a stray access was noted, instructions over all of memory are as many events, and where one is not carried out, the process
-- stands at it
abbrev pub WholeInstructionsLead : Type 0
WholeInstructionsLead =
    (n pid : ℕ) (p : Physical) (q : Process) (s : LiveSpace) (r : Ran) →
    IsShown p → find pid_of pid p.world.procs ≡ Some q → find id_of q.space p.world.spaces ≡ Some s → has_stray p.world.notes ≡ true →
    r ≡ instructions n (in_memory p.world) q.regs p.memory →
    let now : Physical = moved_in p q s.space r.regs r.bytes r.done in
    LeadsIn pid p r.done now × HaltsIn now pid n r.done r.stop

-- ---- every space shows memory in the opening world, and behind every event, turn and run

abbrev pub OpeningsShow : Type 0
OpeningsShow = (headers : List (List ℕ)) (w : World) → IsShown (opening_in headers w)

abbrev pub EventsShow : Type 0
EventsShow = (p : Physical) (pid : ℕ) → IsShown p → AfterIs IsShown (event_in p pid)

abbrev pub TurnsShow : Type 0
TurnsShow = (count pid : ℕ) (p : Physical) → IsShown p → IsShown (turn_in count pid p).now

abbrev pub RunsShow : Type 0
RunsShow = (quanta : List Quantum) (p : Physical) → IsShown p → IsShown (turns_in quanta p).now
