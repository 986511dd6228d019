-- The code's processes, items and runs as those of a program by itself.
use Rattle.std.specs.Prelude.{◌≡◌, ℕ, List, [], ◌∷◌, map, reverse, Option, Some, None}
use Rattle.call_log.specs.declared.note.Entry.{Entry}
use Rattle.call_log.specs.Values.{entry_value}
use Rattle.region_watch.specs.declared.instructions.Progress.{Progress}
use Rattle.region_watch.specs.Instructions.{Ran, instructions}
use Rattle.flat_loader.specs.Alone.{Runner, OwnMemory, Solo, Item, writable_of}
use Rattle.replay_check.specs.declared.lone.Runner.{Runner as Stored}
use Rattle.replay_check.specs.declared.lone.Lone.{Lone}
use Rattle.replay_check.specs.Ranges.{own_memory}

abbrev pub runner_value : Stored → Runner
runner_value r = record { pid = r.pid; regs = r.regs }

-- the last one runs
abbrev pub solo_of : Lone → Solo
solo_of l = record { stack = reverse (map runner_value l.stack.items); memory = own_memory l.memory }

abbrev pub item_of : Entry → List ℕ → Item
item_of entry brought = record { entry = entry_value entry; brought = brought }

-- ---- what instructions leave

-- the process at the head with other registers, over other bytes
abbrev pub moved : Runner → List Runner → OwnMemory → Ran → Solo
moved top below m r = record { stack = record top { regs = r.regs } ∷ below; memory = record m { bytes = r.bytes } }

-- up to so many of the process that runs; none where no process is left
pub record Runs (most : ℕ) (old new : Solo) (p : Progress) : Type 0 where
  pub top : Runner
  pub below : List Runner
  pub stack : old.stack ≡ top ∷ below
  pub new_is : new ≡ moved top below old.memory (instructions most (writable_of old.memory.ranges) top.regs old.memory.bytes)
  pub done : p.done ≡ (instructions most (writable_of old.memory.ranges) top.regs old.memory.bytes).done
  pub stop : p.stop ≡ (instructions most (writable_of old.memory.ranges) top.regs old.memory.bytes).stop

abbrev pub RunsOn : (most : ℕ) (old new : Solo) → Option Progress → Type 0
RunsOn most old new None = (old.stack ≡ []) × (new ≡ old)
RunsOn most old new (Some p) = Runs most old new p

-- the process that runs goes
abbrev pub without_top : List Runner → List Runner
without_top [] = []
without_top (top ∷ below) = below

abbrev pub Pops : (old new : Solo) → Type 0
Pops old new = new ≡ record old { stack = without_top old.stack }
