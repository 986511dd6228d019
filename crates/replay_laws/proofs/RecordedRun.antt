-- A run of which a space is recorded: a program opens a file and maps a page of it, and makes a vfork child, which leaves for a program
-- and a space of its own and exits.
use Rattle.std.proofs.Common.{ℕ, List, [], ◌∷◌, ◌++◌, Some, None}
use Rattle.std.specs.Prelude.{replicate, flat_map, codes, true, false}
use Rattle.byteorder.specs.Endian.{little_bytes}
use Rattle.rv32im_step.specs.declared.regs.Regs.{Regs}
use Rattle.page_runs.specs.declared.place.Kind.TheVariants.{First}
use Rattle.bflt_format.specs.Values.{Values, ram_values}
use Rattle.call_log.specs.declared.how.How.TheVariants.{Exit}
use Rattle.call_log.specs.Notes.{CallEntry, Note, call_note, load_note, end_note}
use Rattle.nommu_regions.specs.declared.region.Source.TheVariants.{Copy}
use Rattle.mmap_rules.specs.declared.mapping.Mapping.{Mapping}
use Rattle.mmap_rules.specs.Space.{Space}
use Rattle.mmap_rules.specs.Mappings.{run_mapping, file_pages}
use Rattle.mem_files.specs.Inodes.{Inodes, file, folder, new_inode}
use Rattle.fd_tables.specs.declared.open_file.Handle.TheVariants.{Input, Output, Open}
use Rattle.fd_tables.specs.Files.{OpenFiles, Table, nothing_open}
use Rattle.fd_tables.specs.Changes.{first_table, console_descriptor, new_file}
use Rattle.vfork_exec.specs.declared.family.State.TheVariants.{Ready}
use Rattle.flat_loader.specs.Original.{flat_original}
use Rattle.flat_loader.specs.Begin.{Loading, begin_space}
use Rattle.flat_loader.specs.Alone.{Item}
use Rattle.machine_world.specs.World.{Launch, Process, Recording, Rest, World}
use Rattle.machine_world.specs.Boot.{StartLine}
use Rattle.machine_world.specs.Event.{Trace}
use Rattle.machine_world.specs.MapCalls.{with_mapping}
use Rattle.alone_laws.specs.Stays.{Stay}

-- ---- its programs: openat("/f"), mmap2(0, 1, 0, MAP_PRIVATE, 3, 0), a vfork, execve("/y", 0, 0), and behind the text both paths

abbrev pub forks_file : Values
forks_file = ram_values 64 84 0 0 4096
    (flat_map (little_bytes 4)
    (0x800005b7 ∷ 0x08c58593 ∷ 0x03800893 ∷ 0x73 ∷ 0x00050713 ∷ 0x00000513 ∷ 0x00100593 ∷ 0x00200693 ∷ 0x0de00893 ∷ 0x73 ∷ 0x00004537 ∷ 0x11150513 ∷ 0x00000593
    ∷ 0x0dc00893 ∷ 0x73 ∷ 0x80000537 ∷ 0x09050513 ∷ 0x0dd00893 ∷ 0x73 ∷ []) ++ (codes "/f" ++ 0 ∷ 0 ∷ []) ++ codes "/y" ++ 0 ∷ 0 ∷ [])
    []

-- exit(0)
abbrev pub exits_file : Values
exits_file = ram_values 64 8 0 0 4096 (flat_map (little_bytes 4) (0x05d00893 ∷ 0x73 ∷ [])) []

abbrev pub loading : Loading
loading = record { original = flat_original forks_file; block = 0x8000_0000; args = codes "/x" ∷ []; env = [] }

abbrev pub second_loading : Loading
second_loading = record { original = flat_original exits_file; block = 0x8000_3000; args = []; env = [] }

-- ---- its files: /f, which is held so often, and the programs /x and /y

abbrev pub tree : ℕ → Inodes
tree holds =
    None
    ∷ Some (new_inode (folder 1 (record { name = codes "f"; id = 2 } ∷ record { name = codes "x"; id = 3 } ∷ record { name = codes "y"; id = 4 } ∷ [])) None)
    ∷ Some (record (new_inode (file (codes "abc")) None) { holds = holds })
    ∷ Some (new_inode (file []) (Some 0))
    ∷ Some (new_inode (file []) (Some 1))
    ∷ []

abbrev pub rest : (keep holds : ℕ) → OpenFiles → Rest
rest keep holds files = record {
  pages = 8;
  kind = First;
  programs = record { path = codes "/x"; original = flat_original forks_file } ∷ record { path = codes "/y"; original = flat_original exits_file } ∷ [];
  tree = tree holds;
  files = files;
  console = [];
  keep = keep;
}

abbrev pub start : StartLine
start = record { line = 4; args = codes "/x" ∷ [] }

-- descriptor 3 reads /f
abbrev table : Table
table = console_descriptor Input ∷ console_descriptor Output ∷ console_descriptor Output ∷ Some (record { handle = Open 0; cloexec = false }) ∷ replicate 28 None

abbrev opened : OpenFiles
opened = record (nothing_open []) {
  files = Some (new_file 2 (record { read = true; write = false; append = false; cloexec = false })) ∷ [];
  tables = Some table ∷ [];
}

-- ---- its calls

abbrev call : (pid number : ℕ) → (args sent : List ℕ) → (reply : ℕ) → CallEntry
call pid number args read reply = record { pid = pid; call = number; args = args; sent = read; reply = reply; got = [] }

abbrev pub open_call : CallEntry
open_call = call 1 56 (0 ∷ 0x8000_008c ∷ replicate 4 0) (codes "/f" ++ 0 ∷ []) 3

abbrev pub map_call : CallEntry
map_call = call 1 222 (0 ∷ 1 ∷ 0 ∷ 2 ∷ 3 ∷ 0 ∷ []) [] 0x8000_2000

abbrev pub fork_call : CallEntry
fork_call = call 1 220 (0x4111 ∷ 0 ∷ 0 ∷ 2 ∷ 3 ∷ 0 ∷ []) [] 2

abbrev pub exec_call : CallEntry
exec_call = call 2 221 (0x8000_0090 ∷ 0 ∷ 0 ∷ 2 ∷ 3 ∷ 0 ∷ []) (codes "/y" ++ 0 ∷ []) 0

abbrev pub exit_call : CallEntry
exit_call = call 2 93 (replicate 6 0) [] 0

abbrev pub load : (pid program base : ℕ) → Note
load pid program base = load_note (record { pid = pid; program = program; base = base; pages = 2 })

-- newest first
abbrev pub notes : List Note
notes =
    end_note 2 (Exit 0) ∷ call_note exit_call ∷ load 2 1 0x8000_3000 ∷ call_note exec_call ∷ call_note fork_call ∷ call_note map_call ∷ call_note open_call
    ∷ load 1 0 0x8000_0000 ∷ []

-- the page of /f: its bytes, and zeros
abbrev pub page : List ℕ
page = file_pages (codes "abc") 0 1

-- ---- its worlds

abbrev regs : (pc a0 a1 a3 a4 a7 : ℕ) → Regs
regs pc a0 a1 a3 a4 a7 = record { pc = pc; x = 0 ∷ 0 ∷ 0x8000_1fe0 ∷ replicate 7 0 ++ a0 ∷ a1 ∷ 0 ∷ a3 ∷ a4 ∷ 0 ∷ 0 ∷ a7 ∷ replicate 14 0 }

abbrev process : Regs → Process
process rs = record { pid = 1; parent = 0; regs = rs; space = 0; table = 0; state = Ready }

abbrev space : Space
space = begin_space loading

abbrev pub mapping : Mapping
mapping = run_mapping 2 1 false false (Copy 2 0 0)

-- at boot
abbrev pub at_boot : Recording → World
at_boot r = record {
  procs = process (regs 0x8000_0040 0 0 0 0 0) ∷ [];
  ended = [];
  spaces = record { id = 0; space = space } ∷ [];
  loads = 1;
  next_pid = 2;
  rest = rest r.keep 0 (record (nothing_open []) { tables = Some first_table ∷ [] });
  notes = load 1 0 0x8000_0000 ∷ [];
  events = 0;
  recording = r;
}

abbrev pub at_map : Process
at_map = process (regs 0x8000_0064 0 1 2 3 222)

-- before the mapping
abbrev pub unmapped : Recording → World
unmapped r = record (at_boot r) {
  procs = at_map ∷ [];
  rest = rest r.keep 1 opened;
  notes = call_note open_call ∷ load 1 0 0x8000_0000 ∷ [];
  events = 9;
}

-- and behind it
abbrev pub mapped : Recording → World
mapped r = record (unmapped r) {
  procs = process (regs 0x8000_0068 0x8000_2000 1 2 3 222) ∷ [];
  spaces = record { id = 0; space = with_mapping space mapping page } ∷ [];
  notes = call_note map_call ∷ call_note open_call ∷ load 1 0 0x8000_0000 ∷ [];
  events = 10;
}

-- ---- its traces, and its stays

abbrev pub step : ℕ → Trace
step space = record { space = space; events = 1; items = []; begins = None; over = false }

abbrev pub item : CallEntry → List ℕ → Item
item e brought = record { entry = e; brought = brought }

abbrev pub calls : ℕ → Item → Trace
calls space i = record (step space) { items = i ∷ [] }

abbrev pub open_traces : List Trace
open_traces = step 0 ∷ step 0 ∷ step 0 ∷ calls 0 (item open_call []) ∷ replicate 5 (step 0)

abbrev pub other_traces : List Trace
other_traces =
    step 0 ∷ step 0 ∷ step 0 ∷ step 0 ∷ record (calls 0 (item fork_call [])) { over = true }
    ∷ step 0 ∷ step 0 ∷ step 0 ∷ record (calls 0 (item exec_call [])) { begins = Some (record { loading = second_loading; pid = 2 }) }
    ∷ step 1 ∷ record (calls 1 (item exit_call [])) { over = true } ∷ []

abbrev pub first_stay : List Item → ℕ → Stay
first_stay items events = record { loading = loading; pid = 1; items = items; events = events }

abbrev pub first_items : List Item
first_items = item open_call [] ∷ item map_call page ∷ item fork_call [] ∷ item exec_call [] ∷ []

abbrev pub second_items : List Item
second_items = item exit_call [] ∷ []

abbrev pub second_stay : Stay
second_stay = record { loading = second_loading; pid = 2; items = second_items; events = 2 }

-- ---- what is recorded

abbrev pub launch : Launch
launch = record { stack = 4096; base = 0x8000_0000; pid = 1; args = codes "/x" ∷ []; env = [] }

abbrev pub second_launch : Launch
second_launch = record { stack = 4096; base = 0x8000_3000; pid = 2; args = []; env = [] }

-- of the first space, behind so many of its events
abbrev pub first_recording : ℕ → List (List ℕ) → Recording
first_recording events brought = record { keep = 1; launch = Some launch; events = events; brought = brought }
