-- A process that dies, computed from the definitions.
use Rattle.std.proofs.Common.{◌≡◌, ℕ, true, List, [], ◌∷◌, map, Option, Some, None, refl}
use Rattle.std.specs.Prelude.{replicate}
use Rattle.rv32im_step.specs.declared.regs.Regs.{Regs}
use Rattle.page_runs.specs.declared.place.Kind.TheVariants.{First}
use Rattle.call_log.specs.declared.how.How.TheVariants.{Signal}
use Rattle.call_log.specs.Notes.{Note, end_note}
use Rattle.mmap_rules.specs.Held.{block_mapping}
use Rattle.fd_tables.specs.Files.{OpenFiles, nothing_open}
use Rattle.fd_tables.specs.Changes.{closed, without_table, all_descriptors}
use Rattle.vfork_exec.specs.declared.family.State.{State}
use Rattle.vfork_exec.specs.declared.family.State.TheVariants.{Ready, Lent}
use Rattle.vfork_exec.specs.declared.family.Ended.{Ended}
use Rattle.vfork_exec.specs.Keyed.{find, without}
use Rattle.vfork_exec.specs.Families.{resumed, state_behind, ended_behind}
use Rattle.machine_world.specs.World.{Process, LiveSpace, World, id_of}
use Rattle.machine_world.specs.Recordings.{nothing_recorded}
use Rattle.machine_world.specs.Families.{borrows, spaces_left, all_left_by, all_roused}
use Rattle.machine_world.specs.Event.{Outcome, went, strays, full, idle, Trace, ended, trapped, settled, at_process, died}

-- ---- process 1, and its vfork child 2, which runs in its space; process 3 is a child of process 2 in a space of its own

abbrev regs : Regs
regs = record { pc = 0x8000_0080; x = replicate 32 0 }

abbrev pub process : (pid parent space : ℕ) → State → Process
process pid parent space state = record { pid = pid; parent = parent; regs = regs; space = space; table = pid; state = state }

abbrev pub space : (id page : ℕ) → LiveSpace
space id page = record { id = id; space = record { maps = block_mapping page 1 ∷ []; brk = 0; brk_low = 0; brk_high = 0; bytes = λ a. Some 0 } }

-- each has a table of its own
abbrev pub files : OpenFiles
files = record (nothing_open []) { tables = None ∷ Some (replicate 32 None) ∷ Some (replicate 32 None) ∷ Some (replicate 32 None) ∷ [] }

abbrev pub world : List Process → List Ended → World
world procs gone = record {
  procs = procs;
  ended = gone;
  spaces = space 1 1 ∷ space 0 0 ∷ [];
  loads = 2;
  next_pid = 4;
  rest = record { pages = 4; kind = First; programs = []; tree = []; files = files; console = []; keep = 0 };
  notes = [];
  events = 5;
  recording = nothing_recorded 0;
}

abbrev family : World
family = world (process 3 2 1 Ready ∷ process 2 1 0 Ready ∷ process 1 0 0 (Lent 2) ∷ []) []

-- what is seen of an outcome: the processes that live, those that have ended, the spaces, the tables that are there,
-- the notes and the count of events, and the trace
pub record Life : Type 0 where
  pub pid : ℕ
  pub parent : ℕ
  pub space : ℕ
  pub state : State

abbrev life_of : Process → Life
life_of p = record { pid = p.pid; parent = p.parent; space = p.space; state = p.state }

abbrev pub life : (pid parent space : ℕ) → State → Life
life pid parent space state = record { pid = pid; parent = parent; space = space; state = state }

pub record Seen : Type 0 where
  pub lives : List Life
  pub ended : List Ended
  pub spaces : List ℕ
  pub notes : List Note
  pub events : ℕ
  pub trace : Trace

abbrev pub seen : Outcome → Option Seen
seen (went w t) = Some (record {
  lives = map life_of w.procs;
  ended = w.ended;
  spaces = map id_of w.spaces;
  notes = w.notes;
  events = w.events;
  trace = t;
})
seen (strays access) = None
seen full = None
seen idle = None

-- ---- a process dies

-- the vfork child: its space stays with its lender, who goes on, its own child has no parent, and its parent can be told
died-child :
    seen (died family 2 11)
    ≡ Some (record {
      lives = life 3 0 1 Ready ∷ life 1 0 0 Ready ∷ [];
      ended = record { pid = 2; parent = 1; how = Signal 11 } ∷ [];
      spaces = 1 ∷ 0 ∷ [];
      notes = end_note 2 (Signal 11) ∷ [];
      events = 6;
      trace = record { space = 0; events = 1; items = []; begins = None; over = true };
    })
unfolding find without resumed state_behind ended_behind borrows spaces_left all_left_by all_roused closed without_table all_descriptors ended trapped settled at_process died
died-child = refl

-- who has a space of its own takes it along
died-owner :
    seen (died family 3 4)
    ≡ Some (record {
      lives = life 2 1 0 Ready ∷ life 1 0 0 (Lent 2) ∷ [];
      ended = record { pid = 3; parent = 2; how = Signal 4 } ∷ [];
      spaces = 0 ∷ [];
      notes = end_note 3 (Signal 4) ∷ [];
      events = 6;
      trace = record { space = 1; events = 1; items = []; begins = None; over = true };
    })
unfolding find without resumed state_behind ended_behind borrows spaces_left all_left_by all_roused closed without_table all_descriptors ended trapped settled at_process died
died-owner = refl

-- there is no process 7
died-nobody : died family 7 11 ≡ idle
unfolding find at_process died
died-nobody = refl
