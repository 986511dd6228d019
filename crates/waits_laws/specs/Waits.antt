-- Who waits does so for what would make it wait again (Linux, wait(2), pipe(7), in this project's profile).
use Rattle.std.specs.Prelude.{◌≡◌, ℕ, Some, IsSome}
use Rattle.rv32im_step.specs.Meaning.{call, meaning}
use Rattle.mmap_rules.specs.Space.{writable_in}
use Rattle.fd_tables.specs.Files.{table_at}
use Rattle.vfork_exec.specs.declared.family.State.{State}
use Rattle.vfork_exec.specs.declared.family.State.TheVariants.{Ready, Waiting, OnPipe, Lent}
use Rattle.vfork_exec.specs.Keyed.{find}
use Rattle.machine_world.specs.World.{Process, LiveSpace, World, pid_of, id_of}
use Rattle.machine_world.specs.Families.{AreChains}
use Rattle.machine_world.specs.Event.{waited, answer}

-- its pc stands at a call, and the answer to that is a wait for just what it waits for
pub record WaitsAgain (w : World) (p : Process) : Type 0 where
  pub space : LiveSpace
  pub has : find id_of p.space w.spaces ≡ Some space
  pub at_call : meaning p.regs space.space.bytes (writable_in space.space.maps) ≡ call
  pub again : answer w p space.space ≡ waited w p p.state

-- if it waits, for children or on a pipe
abbrev pub IfWaits : State → Type 0 → Type 0
IfWaits Ready holds = Unit {0}
IfWaits (Waiting who) holds = holds
IfWaits (OnPipe pipe) holds = holds
IfWaits (Lent child) holds = Unit {0}

-- it stands still for this vfork child, which lives and runs in its space
pub record HasVforkChild (w : World) (p : Process) (child : ℕ) : Type 0 where
  pub process : Process
  pub lives : find pid_of child w.procs ≡ Some process
  pub parent : process.parent ≡ p.pid
  pub space : process.space ≡ p.space

pub record WaitsWell (w : World) : Type 0 where
  -- each process has a table of descriptors, and no two have one
  pub has_table : (pid : ℕ) (p : Process) → find pid_of pid w.procs ≡ Some p → IsSome (table_at w.rest.files p.table)
  pub own_table : (i j : ℕ) (p q : Process) → find pid_of i w.procs ≡ Some p → find pid_of j w.procs ≡ Some q → p.table ≡ q.table → i ≡ j
  -- of the processes of a space each but the newest stands still for the next one, its vfork child
  pub chains : AreChains w.procs
  -- who stands still does so for its vfork child, which lives and runs in its space
  pub lenders : (pid child : ℕ) (p : Process) → find pid_of pid w.procs ≡ Some p → p.state ≡ Lent child → HasVforkChild w p child
  -- who waits would wait again
  pub waits : (pid : ℕ) (p : Process) → find pid_of pid w.procs ≡ Some p → IfWaits p.state (WaitsAgain w p)
