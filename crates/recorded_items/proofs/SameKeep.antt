-- From boot on a run records one space, or none.
use Rattle.std.proofs.Common.{◌≡◌, ℕ, List, Ok, refl}
use Rattle.quantum_sched.specs.declared.Quantum.{Quantum}
use Rattle.mmap_rules.specs.Space.{Space}
use Rattle.machine_world.specs.World.{Process, Rest, World}
use Rattle.machine_world.specs.Asks.{Ask}
use Rattle.machine_world.specs.Event.{ended, ask_of, event}
use Rattle.machine_world.specs.Turns.{turns}
use Rattle.machine_world.specs.Boot.{StartLine, boot}
use Rattle.machine_world.proofs.EachChange.{kept_outside}
use Rattle.machine_world.proofs.ByRows.{by_rows}
use Rattle.machine_world.proofs.ByEvents.{Answered, Happened, Keeps, by_event, by_turns}
use Rattle.recorded_items.proofs.ByBoots.{by_boots}

module _ (keep : ℕ) where
  abbrev Has : World → Type 0
  Has w = w.recording.keep ≡ keep

  abbrev Any : Rest → Type 0
  Any rest = Unit {0}

  -- ---- an event

  module _ (w : World) (h : Has w) where
    call_keeps : (a : Ask) → Answered (λ now t. Has now) Any w a
    unfolding ended
    call_keeps a = record {
      reply = λ ended r m same room. h;
      wait = λ state. h;
      exit = λ room. h;
      fork = λ few room. h;
      load = λ f s page is fits room. h;
    }

    act_keeps : (p : Process) (s : Space) → Happened (λ now t. Has now) Any w p s
    unfolding ended
    act_keeps p s = record { step = λ regs bytes. h; trap = λ signal. h; calls = λ bytes. call_keeps (ask_of w p s bytes) }

    event_keeps : (pid : ℕ) → Keeps Has (event w pid)
    event_keeps pid =
        by_event (λ now t. Has now) Any (λ now t kept. kept) w tt pid (λ p s lives has. act_keeps p s.space)
        (λ p s bytes. by_rows Any (ask_of w p s bytes) (kept_outside (λ programs pages kind. Unit {0}) (ask_of w p s bytes) tt) tt)

  pub keep_stays : (quanta : List Quantum) (w : World) → w.recording.keep ≡ keep → (turns quanta w).world.recording.keep ≡ keep
  keep_stays quanta w h = by_turns Has (λ v pid holds. event_keeps v holds pid) (λ v pid access holds. holds) quanta w h

pub boot_keeps : (rest : Rest) (starts : List StartLine) (w : World) → boot rest starts ≡ Ok w → w.recording.keep ≡ rest.keep
boot_keeps rest starts w is = by_boots (Has rest.keep) (λ v index l h. h) rest starts w refl is
