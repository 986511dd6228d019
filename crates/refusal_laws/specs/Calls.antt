-- A system call that a process is to make.
use Rattle.std.specs.Prelude.{◌≡◌, ℕ, List, Some, Ok}
use Rattle.rv32im_step.specs.Meaning.{call, meaning}
use Rattle.call_log.specs.Sent.{sent}
use Rattle.mmap_rules.specs.Space.{writable_in}
use Rattle.vfork_exec.specs.Keyed.{find}
use Rattle.machine_world.specs.World.{Process, LiveSpace, World, pid_of, id_of}
use Rattle.machine_world.specs.Asks.{Ask}
use Rattle.machine_world.specs.Event.{number_of, args_of, ask_of}

-- the process lives in a space that lives, its pc stands at a call, and what the call reads doesn't stray
pub record Call (w : World) (pid : ℕ) : Type 0 where
  pub process : Process
  pub lives : find pid_of pid w.procs ≡ Some process
  pub space : LiveSpace
  pub has : find id_of process.space w.spaces ≡ Some space
  pub at_call : meaning process.regs space.space.bytes (writable_in space.space.maps) ≡ call
  pub bytes : List ℕ
  pub reads : sent (number_of process.regs) (args_of process.regs) space.space.bytes ≡ Ok bytes

-- as it is made
abbrev pub ask : (w : World) (pid : ℕ) → Call w pid → Ask
ask w pid c = ask_of w c.process c.space.space c.bytes
