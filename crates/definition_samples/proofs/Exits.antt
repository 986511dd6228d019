-- A program of two instructions, and worlds in which it runs.
use Rattle.std.proofs.Common.{ℕ, [], ◌∷◌, ◌++◌, Some, None}
use Rattle.std.specs.Prelude.{replicate, flat_map, slice_index, codes}
use Rattle.byteorder.specs.Endian.{little_bytes}
use Rattle.byte_words.specs.Patches.{from_base}
use Rattle.rv32im_step.specs.declared.regs.Regs.{Regs}
use Rattle.page_runs.specs.declared.place.Kind.TheVariants.{First}
use Rattle.call_log.specs.declared.how.How.TheVariants.{Exit}
use Rattle.call_log.specs.Notes.{CallEntry, Note, call_note, load_note, end_note}
use Rattle.mem_files.specs.Inodes.{Inodes, file, folder, new_inode}
use Rattle.fd_tables.specs.Files.{OpenFiles, nothing_open}
use Rattle.fd_tables.specs.Changes.{first_table}
use Rattle.vfork_exec.specs.declared.family.State.TheVariants.{Ready}
use Rattle.flat_loader.specs.Original.{Original}
use Rattle.flat_loader.specs.Begin.{Loading, begin_space}
use Rattle.flat_loader.specs.Alone.{Item}
use Rattle.machine_world.specs.World.{Process, LiveSpace, Rest, World}
use Rattle.machine_world.specs.Recordings.{nothing_recorded}
use Rattle.machine_world.specs.Boot.{StartLine}

-- two words at number 64: a7 becomes 93, and the call exits with a0, which is 0
abbrev pub exits : Original
exits = record {
  image = λ b. from_base b 72 (slice_index (replicate 64 0 ++ flat_map (little_bytes 4) (0x05d00893 ∷ 0x73 ∷ [])));
  size = 72;
  entry = 128;
  stack = 4096;
}

abbrev pub loading : Loading
loading = record { original = exits; block = 0x8000_0000; args = codes "/x" ∷ []; env = [] }

-- its registers at an instruction, with a7
abbrev pub regs : (pc a7 : ℕ) → Regs
regs pc a7 = record { pc = pc; x = 0 ∷ 0 ∷ 0x8000_1fe0 ∷ replicate 14 0 ++ a7 ∷ replicate 14 0 }

-- its call, as it is answered
abbrev pub exit_entry : CallEntry
exit_entry = record { pid = 1; call = 93; args = replicate 6 0; sent = []; reply = 0; got = [] }

abbrev pub exit_item : Item
exit_item = record { entry = exit_entry; brought = [] }

-- ---- a world in which it stands as /x, and runs once

abbrev pub tree : Inodes
tree =
    None
    ∷ Some (new_inode (folder 1 (record { name = codes "x"; id = 2 } ∷ [])) None)
    ∷ Some (new_inode (file []) (Some 0))
    ∷ []

abbrev pub rest_with : OpenFiles → Rest
rest_with files = record {
  pages = 4;
  kind = First;
  programs = record { path = codes "/x"; original = exits } ∷ [];
  tree = tree;
  files = files;
  console = [];
  keep = 0;
}

abbrev pub start : StartLine
start = record { line = 3; args = codes "/x" ∷ [] }

abbrev pub process : (pc a7 : ℕ) → Process
process pc a7 = record { pid = 1; parent = 0; regs = regs pc a7; space = 0; table = 0; state = Ready }

abbrev pub space : LiveSpace
space = record { id = 0; space = begin_space loading }

abbrev pub load : Note
load = load_note (record { pid = 1; program = 0; base = 0x8000_0000; pages = 2 })

-- while it runs, with its registers and the count of events
abbrev pub running : (pc a7 events : ℕ) → World
running pc a7 events = record {
  procs = process pc a7 ∷ [];
  ended = [];
  spaces = space ∷ [];
  loads = 1;
  next_pid = 2;
  rest = rest_with (record (nothing_open []) { tables = Some first_table ∷ [] });
  notes = load ∷ [];
  events = events;
  recording = nothing_recorded 0;
}

-- and when it has ended
abbrev pub over : World
over = record {
  procs = [];
  ended = [];
  spaces = [];
  loads = 1;
  next_pid = 2;
  rest = rest_with (record (nothing_open []) { tables = None ∷ [] });
  notes = end_note 1 (Exit 0) ∷ call_note exit_entry ∷ load ∷ [];
  events = 2;
  recording = nothing_recorded 0;
}
