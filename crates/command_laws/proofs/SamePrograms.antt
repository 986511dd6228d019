-- A run of private spaces leaves its programs as they are.
use Rattle.std.proofs.Common.{◌≡◌, ℕ, List}
use Rattle.quantum_sched.specs.declared.Quantum.{Quantum}
use Rattle.mmap_rules.specs.Space.{Space}
use Rattle.machine_world.specs.World.{Program, Process, Rest, World}
use Rattle.machine_world.specs.Asks.{Ask}
use Rattle.machine_world.specs.Event.{ended, ask_of, event}
use Rattle.machine_world.specs.Turns.{turns}
use Rattle.machine_world.proofs.EachChange.{kept_outside}
use Rattle.machine_world.proofs.ByRows.{by_rows}
use Rattle.machine_world.proofs.ByEvents.{Answered, Happened, Keeps, by_event, by_turns}

abbrev Has : List Program → Rest → Type 0
Has ps rest = rest.programs ≡ ps

module _ (ps : List Program) where
  module _ (w : World) (h : Has ps w.rest) where
    call_leaves : (a : Ask) → Answered (λ now t. Has ps now.rest) (Has ps) w a
    unfolding ended
    call_leaves a = record {
      reply = λ ended r m same room. same;
      wait = λ state. h;
      exit = λ room. h;
      fork = λ few room. h;
      load = λ f s page is fits room. h;
    }

    act_leaves : (p : Process) (s : Space) → Happened (λ now t. Has ps now.rest) (Has ps) w p s
    unfolding ended
    act_leaves p s = record { step = λ regs bytes. h; trap = λ signal. h; calls = λ bytes. call_leaves (ask_of w p s bytes) }

    event_leaves : (pid : ℕ) → Keeps (λ now. Has ps now.rest) (event w pid)
    event_leaves pid =
        by_event (λ now t. Has ps now.rest) (Has ps) (λ now t kept. kept) w h pid (λ p s lives has. act_leaves p s.space)
        (λ p s bytes. by_rows (Has ps) (ask_of w p s bytes) (kept_outside (λ programs pages kind. programs ≡ ps) (ask_of w p s bytes) h) h)

  pub programs_stay : (quanta : List Quantum) (w : World) → w.rest.programs ≡ ps → (turns quanta w).world.rest.programs ≡ ps
  programs_stay quanta w h = by_turns (λ now. Has ps now.rest) (λ v own holds. event_leaves v holds own) (λ v own access holds. holds) quanta w h
