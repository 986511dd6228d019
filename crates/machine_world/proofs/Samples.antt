-- Whole runs, computed from the definitions.
use Rattle.std.proofs.Common.{◌≡◌, ℕ, ◌+◌, List, [], ◌∷◌, ◌++◌, Option, Some, None, refl}
use Rattle.std.specs.Prelude.{Result, Ok, Err, drop, replicate, flat_map, reverse, slice_index, codes}
use Rattle.byteorder.specs.Endian.{little_bytes}
use Rattle.byte_words.specs.Patches.{from_base}
use Rattle.byte_words.specs.Numbers.{number_at, byte_at}
use Rattle.rv32im_table.specs.Field.{opcode, funct3, funct7, rd, rs1, rs2}
use Rattle.rv32im_table.specs.Immediate.{imm_i, imm_s, imm_b, imm_u, imm_j}
use Rattle.rv32im_table.specs.Table.{decoded}
use Rattle.rv32im_step.specs.Memory.{loaded, stored}
use Rattle.rv32im_step.specs.Meaning.{effect, meaning}
use Rattle.rv32im_step.specs.Registers.{register, with_register}
use Rattle.byte_words.specs.declared.access.AccessKind.TheVariants.{Store}
use Rattle.page_runs.specs.declared.place.Kind.TheVariants.{First}
use Rattle.page_runs.specs.Free.{free_runs}
use Rattle.page_runs.specs.Place.{place}
use Rattle.call_log.specs.declared.how.How.TheVariants.{Exit}
use Rattle.call_log.specs.Errno.{refusal}
use Rattle.call_log.specs.Notes.{Note, call_note, load_note, end_note, stray_note, has_room}
use Rattle.call_log.specs.Sent.{sent, read_span}
use Rattle.mmap_rules.specs.Space.{writable_in, may_use}
use Rattle.flat_loader.specs.Original.{Original, block_pages}
use Rattle.flat_loader.specs.Frame.{frame_len, frame, frame_start, frame_fits}
use Rattle.flat_loader.specs.Begin.{begin_space, begin_regs}
use Rattle.quantum_sched.specs.declared.Quantum.{Quantum}
use Rattle.quantum_sched.specs.Picked.{picked}
use Rattle.vfork_exec.specs.Keyed.{find, change, without}
use Rattle.vfork_exec.specs.Families.{ended_behind, resumed, state_behind}
use Rattle.machine_world.specs.World.{Program, Rest, World}
use Rattle.machine_world.specs.Families.{borrows, spaces_left, all_left_by, all_roused, ready_pids}
use Rattle.machine_world.specs.Free.{free_runs_in}
use Rattle.mem_files.specs.Inodes.{Inodes, Entry, file, folder, new_inode}
use Rattle.mem_files.specs.Paths.{names, is_too_long, walked, place_of}
use Rattle.byte_words.specs.Pieces.{pieces}
use Rattle.fd_tables.specs.Files.{view, nothing_open}
use Rattle.fd_tables.specs.Changes.{closed, with_table, without_table, all_descriptors}
use Rattle.machine_world.specs.Rows.{row}
use Rattle.machine_world.specs.Transfers.{write_row}
use Rattle.machine_world.specs.Event.{ended, stepped, trapped, served, exited, answer, settled, at_process, event}
use Rattle.machine_world.specs.Turns.{End, all_ended, out_of_quanta, stray_at, Walk, turn, turns}
use Rattle.machine_world.specs.Boot.{StartLine, BootFault, bad_start, no_run, started, all_started, boot}

-- the program hi: nine words of code at number 64, three bytes and a zero, and a pointer to them; ho differs in one byte
abbrev code : List ℕ
code = 0x597 ∷ 0x0285a583 ∷ 0x00100513 ∷ 0x00300613 ∷ 0x04000893 ∷ 0x73 ∷ 0x00700513 ∷ 0x05d00893 ∷ 0x73 ∷ []

abbrev greeting_at : ℕ → ℕ → List ℕ
greeting_at letter b = replicate 64 0 ++ flat_map (little_bytes 4) code ++ (0x68 ∷ letter ∷ 0x0a ∷ 0 ∷ []) ++ little_bytes 4 (b + 100)

abbrev greeting : ℕ → Original
greeting letter = record { image = λ b. from_base b 108 (slice_index (greeting_at letter b)); size = 108; entry = 128; stack = 4096 }

abbrev hi : Program
hi = record { path = codes "/hi"; original = greeting 0x69 }

abbrev ho : Program
ho = record { path = codes "/ho"; original = greeting 0x6f }

-- each program stands in the root under its path, in order
abbrev entries_from : ℕ → List Program → List Entry
entries_from id [] = []
entries_from id (p ∷ ps) = record { name = drop 1 p.path; id = id } ∷ entries_from (id + 1) ps

abbrev files_from : ℕ → List Program → Inodes
files_from i [] = []
files_from i (p ∷ ps) = Some (new_inode (file []) (Some i)) ∷ files_from (i + 1) ps

abbrev tree_of : List Program → Inodes
tree_of programs = None ∷ Some (new_inode (folder 1 (entries_from 2 programs)) None) ∷ files_from 0 programs

abbrev pub rest_of : ℕ → List Program → Rest
rest_of pages programs = record { pages = pages; kind = First; programs = programs; tree = tree_of programs; files = nothing_open []; console = []; keep = 0 }

abbrev pub start : ℕ → List ℕ → StartLine
start line path = record { line = line; args = path ∷ [] }

abbrev pub q : ℕ → ℕ → Quantum
q pick count = record { pick = pick; count = count }

-- what a run writes and counts, and why it stops
pub record Seen : Type 0 where
  pub console : List ℕ
  pub notes : List Note
  pub events : ℕ
  pub end : Option End

abbrev seen_of : Walk → Seen
seen_of w = record { console = w.world.rest.console; notes = reverse w.world.notes; events = w.world.events; end = w.end }

abbrev pub run : List Quantum → Result World BootFault → Option Seen
run qs (Ok w) = Some (seen_of (turns qs w))
run qs (Err fault) = None

-- a program that stores into another's block: four words of code at number 64
abbrev st : Program
st = record {
  path = codes "/st";
  original = record {
    image = λ b. from_base b 80 (slice_index (replicate 64 0 ++ flat_map (little_bytes 4) (0x07a00513 ∷ 0x06010593 ∷ 0x00a58023 ∷ 0x6f ∷ [])));
    size = 80;
    entry = 128;
    stack = 4096;
  };
}

abbrev pub loaded_at : ℕ → ℕ → ℕ → Note
loaded_at pid program base = load_note (record { pid = pid; program = program; base = base; pages = 2 })

-- the notes of a program that writes its greeting and exits, in the order of its two calls
abbrev wrote : ℕ → ℕ → List ℕ → Note
wrote pid at text = call_note (record { pid = pid; call = 64; args = 1 ∷ at ∷ 3 ∷ 0 ∷ 0 ∷ 0 ∷ []; sent = text; reply = 3; got = [] })

abbrev exits : ℕ → ℕ → List Note
exits pid at = call_note (record { pid = pid; call = 93; args = 7 ∷ at ∷ 3 ∷ 0 ∷ 0 ∷ 0 ∷ []; sent = []; reply = 0; got = [] }) ∷ end_note pid (Exit 7) ∷ []

run-hi :
    run (q 0 100 ∷ []) (boot (rest_of 4 (hi ∷ [])) (start 3 (codes "/hi") ∷ []))
    ≡ Some (record {
      console = codes "hi\n";
      notes = loaded_at 1 0 0x8000_0000 ∷ wrote 1 0x8000_00a4 (codes "hi\n") ∷ exits 1 0x8000_00a4;
      events = 9;
      end = Some all_ended;
    })
unfolding number_at byte_at from_base decoded opcode funct3 funct7 rd rs1 rs2 imm_i imm_s imm_b imm_u imm_j loaded stored effect meaning register with_register free_runs place refusal has_room sent read_span writable_in may_use block_pages frame_len frame frame_start frame_fits begin_space begin_regs find change without ended_behind state_behind resumed spaces_left borrows all_left_by free_runs_in write_row row view closed with_table without_table all_descriptors pieces names is_too_long walked place_of ended stepped trapped served exited answer at_process event settled all_roused turn ready_pids picked turns started all_started boot
run-hi = refl

-- both programs in one memory, one after the other
abbrev two : Result World BootFault
two = boot (rest_of 4 (hi ∷ ho ∷ [])) (start 4 (codes "/hi") ∷ start 5 (codes "/ho") ∷ [])

run-one_by_one :
    run (q 0 100 ∷ q 0 100 ∷ []) two
    ≡ Some (record {
      console = codes "hi\nho\n";
      notes = loaded_at 1 0 0x8000_0000 ∷ loaded_at 2 1 0x8000_2000
          ∷ wrote 1 0x8000_00a4 (codes "hi\n") ∷ exits 1 0x8000_00a4
          ++ wrote 2 0x8000_20a4 (codes "ho\n") ∷ exits 2 0x8000_20a4;
      events = 18;
      end = Some all_ended;
    })
unfolding number_at byte_at from_base decoded opcode funct3 funct7 rd rs1 rs2 imm_i imm_s imm_b imm_u imm_j loaded stored effect meaning register with_register free_runs place refusal has_room sent read_span writable_in may_use block_pages frame_len frame frame_start frame_fits begin_space begin_regs find change without ended_behind state_behind resumed spaces_left borrows all_left_by free_runs_in write_row row view closed with_table without_table all_descriptors pieces names is_too_long walked place_of ended stepped trapped served exited answer at_process event settled all_roused turn ready_pids picked turns started all_started boot
run-one_by_one = refl

-- by turns: the second one writes first
run-by_turns :
    run (q 0 5 ∷ q 1 6 ∷ q 0 1 ∷ []) two
    ≡ Some (record {
      console = codes "ho\nhi\n";
      notes = loaded_at 1 0 0x8000_0000 ∷ loaded_at 2 1 0x8000_2000
          ∷ wrote 2 0x8000_20a4 (codes "ho\n") ∷ wrote 1 0x8000_00a4 (codes "hi\n") ∷ [];
      events = 12;
      end = Some out_of_quanta;
    })
unfolding number_at byte_at from_base decoded opcode funct3 funct7 rd rs1 rs2 imm_i imm_s imm_b imm_u imm_j loaded stored effect meaning register with_register free_runs place refusal has_room sent read_span writable_in may_use block_pages frame_len frame frame_start frame_fits begin_space begin_regs find change without ended_behind state_behind resumed spaces_left borrows all_left_by free_runs_in write_row row view closed with_table without_table all_descriptors pieces names is_too_long walked place_of ended stepped trapped served exited answer at_process event settled all_roused turn ready_pids picked turns started all_started boot
run-by_turns = refl

-- the first stray access, a store to the next block's first own byte, stops the run before it has any effect
run-stray :
    run (q 0 3 ∷ []) (boot (rest_of 4 (st ∷ hi ∷ [])) (start 4 (codes "/st") ∷ start 5 (codes "/hi") ∷ []))
    ≡ Some (record {
      console = [];
      notes = loaded_at 1 0 0x8000_0000 ∷ loaded_at 2 1 0x8000_2000
          ∷ stray_note 1 (record { pc = 0x8000_0088; addr = 0x8000_2040; len = 1; kind = Store }) ∷ [];
      events = 2;
      end = Some (stray_at 1 (record { pc = 0x8000_0088; addr = 0x8000_2040; len = 1; kind = Store }));
    })
unfolding number_at byte_at from_base decoded opcode funct3 funct7 rd rs1 rs2 imm_i imm_s imm_b imm_u imm_j loaded stored effect meaning register with_register free_runs place refusal has_room sent read_span writable_in may_use block_pages frame_len frame frame_start frame_fits begin_space begin_regs find change without ended_behind state_behind resumed spaces_left borrows all_left_by free_runs_in write_row row view closed with_table without_table all_descriptors pieces names is_too_long walked place_of ended stepped trapped served exited answer at_process event settled all_roused turn ready_pids picked turns started all_started boot
run-stray = refl

-- a program that isn't there, and one that finds no free run
boot-no_program : boot (rest_of 4 (hi ∷ [])) (start 3 (codes "/no") ∷ []) ≡ Err (bad_start 3)
unfolding all_started started boot pieces names is_too_long walked place_of
boot-no_program = refl

boot-no_run : boot (rest_of 1 (hi ∷ [])) (start 3 (codes "/hi") ∷ []) ≡ Err (no_run 3)
unfolding all_started started boot pieces names is_too_long walked place_of block_pages frame_fits frame_len frame_start free_runs_in free_runs place
boot-no_run = refl
