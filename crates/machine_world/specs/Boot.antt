-- The opening world: the start lines' programs, loaded in order.
pub use Rattle.machine_world.specs.Found.{Found, found_program, found_mark, found_node, found, address_of, taken}
use Rattle.std.specs.Prelude.{ℕ, ◌+◌, List, [], ◌∷◌, Option, Some, None, Result, Ok, Err, Bool, if◌then◌else◌}
use Rattle.std.specs.List.{slice_index_or}
use Rattle.call_log.specs.Notes.{load_note}
use Rattle.fd_tables.specs.Files.{free_number}
use Rattle.fd_tables.specs.Changes.{with_table}
use Rattle.flat_loader.specs.Original.{block_pages}
use Rattle.flat_loader.specs.Frame.{frame_fits}
use Rattle.flat_loader.specs.Begin.{Loading, begin_space, begin_regs}
use Rattle.vfork_exec.specs.declared.family.State.TheVariants.{Ready}
use Rattle.machine_world.specs.World.{Rest, World}
use Rattle.machine_world.specs.Free.{free}
use Rattle.machine_world.specs.Asks.{with_files}
use Rattle.machine_world.specs.Event.{noted}
use Rattle.machine_world.specs.Recordings.{nothing_recorded, launched}

-- a start line: its number, and the arguments, of which the first is the program's path
pub record StartLine : Type 0 where
  pub line : ℕ
  pub args : List (List ℕ)

-- why a start line fails: its path leads to no program, its frame doesn't fit into the stack, or no free run is long enough
pub data BootFault : Type 0 where
  bad_start : ℕ → BootFault
  args_too_big : ℕ → BootFault
  no_run : ℕ → BootFault

abbrev pub start_path : StartLine → List ℕ
start_path s = slice_index_or s.args 0 []

-- a process of its own in a new space, with a new table
abbrev pub begun : World → ℕ → Loading → World
begun w index l = noted (load_note (record { pid = w.next_pid; program = index; base = l.block; pages = block_pages l.original })) (record w {
  procs = record { pid = w.next_pid; parent = 0; regs = begin_regs l; space = w.loads; table = free_number w.rest.files.tables; state = Ready } ∷ w.procs;
  spaces = record { id = w.loads; space = begin_space l } ∷ w.spaces;
  loads = w.loads + 1;
  next_pid = w.next_pid + 1;
  rest = with_files w.rest (with_table w.rest.files);
  recording = launched w.loads w.next_pid l w.recording;
})

abbrev pub placed : World → StartLine → Found → Option ℕ → Result World BootFault
placed w s f None = Err (no_run s.line)
placed w s f (Some page) = Ok (begun w f.index (record { original = f.original; block = address_of page; args = s.args; env = [] }))

abbrev pub fitting : World → StartLine → Found → Bool → Result World BootFault
fitting w s f fits =
    if fits then placed w s f (taken w (block_pages f.original) (free w)) else Err (args_too_big s.line)

abbrev pub located : World → StartLine → Option Found → Result World BootFault
located w s None = Err (bad_start s.line)
located w s (Some f) = fitting w s f (frame_fits f.original s.args [])

unfoldable pub started : World → StartLine → Result World BootFault
started w s = located w s (found w.rest (start_path s))

abbrev pub then_started : Result World BootFault → (World → Result World BootFault) → Result World BootFault
then_started (Ok w) more = more w
then_started (Err fault) more = Err fault

-- each in order, up to the first that fails
unfoldable pub all_started : World → List StartLine → Result World BootFault
all_started w [] = Ok w
all_started w (s ∷ ss) = then_started (started w s) (λ now. all_started now ss)

abbrev pub empty_world : Rest → World
empty_world rest = record {
  procs = [];
  ended = [];
  spaces = [];
  loads = 0;
  next_pid = 1;
  rest = rest;
  notes = [];
  events = 0;
  recording = nothing_recorded rest.keep;
}

unfoldable pub boot : Rest → List StartLine → Result World BootFault
boot rest starts = all_started (empty_world rest) starts
