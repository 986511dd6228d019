-- Whole runs that go on after a stray access, computed from the definitions.
use Rattle.std.proofs.Common.{◌≡◌, ℕ, ◌+◌, ◌*◌, List, length, [], ◌∷◌, ◌++◌, map, Option, Some, None, refl}
use Rattle.std.specs.Prelude.{Result, Ok, Err, drop, replicate, flat_map, reverse, slice_index, codes}
use Rattle.byteorder.specs.Endian.{little_bytes}
use Rattle.byte_words.specs.Patches.{from_base}
use Rattle.byte_words.specs.Numbers.{number_at, byte_at}
use Rattle.byte_words.specs.Pieces.{pieces}
use Rattle.rv32im_table.specs.Field.{opcode, funct3, funct7, rd, rs1, rs2}
use Rattle.rv32im_table.specs.Immediate.{imm_i, imm_s, imm_b, imm_u, imm_j}
use Rattle.rv32im_table.specs.Table.{decoded}
use Rattle.rv32im_step.specs.Memory.{loaded, stored}
use Rattle.rv32im_step.specs.Meaning.{effect, meaning}
use Rattle.rv32im_step.specs.Registers.{register, with_register}
use Rattle.page_runs.specs.declared.place.Kind.TheVariants.{First}
use Rattle.page_runs.specs.Free.{free_runs}
use Rattle.page_runs.specs.Place.{place}
use Rattle.call_log.specs.declared.how.How.TheVariants.{Signal}
use Rattle.byte_words.specs.declared.access.AccessKind.TheVariants as access
use Rattle.call_log.specs.Errno.{refusal}
use Rattle.call_log.specs.Notes.{Note, call_note, load_note, end_note, stray_note, has_room}
use Rattle.call_log.specs.Sent.{sent, read_span}
use Rattle.mmap_rules.specs.Space.{writable_in, own_in, may_use}
use Rattle.mmap_rules.specs.Want.{wanted}
use Rattle.mmap_rules.specs.Mappings.{hit, without_hit}
use Rattle.region_watch.specs.Private.{only}
use Rattle.flat_loader.specs.Original.{block_pages}
use Rattle.flat_loader.specs.Frame.{frame_len, frame, frame_start, frame_fits}
use Rattle.flat_loader.specs.Begin.{begin_space, begin_regs}
use Rattle.quantum_sched.specs.declared.Quantum.{Quantum}
use Rattle.quantum_sched.specs.Picked.{picked}
use Rattle.vfork_exec.specs.Keyed.{find, change, without}
use Rattle.vfork_exec.specs.Families.{ended_behind, resumed, state_behind}
use Rattle.mem_files.specs.Inodes.{Inodes, Entry, file, folder, new_inode}
use Rattle.mem_files.specs.Paths.{names, is_too_long, walked, place_of}
use Rattle.fd_tables.specs.Files.{view, two_free, nothing_open}
use Rattle.fd_tables.specs.Changes.{closed, piped, with_table, without_table, all_descriptors}
use Rattle.machine_world.specs.World.{Program, Rest, World}
use Rattle.machine_world.specs.Families.{borrows, spaces_left, all_left_by, all_roused, ready_pids}
use Rattle.machine_world.specs.Free.{free_runs_in}
use Rattle.machine_world.specs.Rows.{row}
use Rattle.machine_world.specs.MapCalls.{munmap_row, mmap2_row}
use Rattle.machine_world.specs.Descriptors.{pipe2_row}
use Rattle.machine_world.specs.Transfers.{write_row}
use Rattle.machine_world.specs.Event.{ended, stepped, trapped, served, exited, answer, settled, at_process as private_process, event, stray}
use Rattle.machine_world.specs.Turns.{End, all_ended, out_of_quanta}
use Rattle.machine_world.specs.Boot.{StartLine, BootFault, started, all_started, boot}
use Rattle.memory_world.specs.Physical.{WalkIn, bytes_in, laid_behind, waitid_in, answer_in, at_process_in, carried_out, event_in, turn_in, turns_in, first_memory, opening_in}

-- a program of these words at number 64
abbrev pub of_words : List ℕ → List ℕ → Program
of_words path words = record {
  path = path;
  original = record {
    image = λ b. from_base b (64 + 4 * length words) (slice_index (replicate 64 0 ++ flat_map (little_bytes 4) words));
    size = 64 + 4 * length words;
    entry = 128;
    stack = 4096;
  };
}

-- it stores a byte at 96 behind sp, and goes in a circle
abbrev st : Program
st = of_words (codes "/st") (0x07a00513 ∷ 0x06010593 ∷ 0x00a58023 ∷ 0x6f ∷ [])

-- it stores the byte again and again
abbrev again : Program
again = of_words (codes "/st") (0x07a00513 ∷ 0x06010593 ∷ 0x00a58023 ∷ 0xffdff06f ∷ [])

-- it maps a page, stores a byte there, unmaps the page, stores the next byte, and maps the page again
abbrev mapper : Program
mapper = of_words (codes "/a")
    (0x15b7 ∷ 0x00300613 ∷ 0x02200693 ∷ 0xfff00713 ∷ 0x0de00893 ∷ 0x73 ∷ 0x00050413 ∷ 0x00c40023 ∷ 0x0d700893 ∷ 0x73 ∷ 0x011400a3 ∷ 0x513 ∷ 0x0de00893 ∷ 0x73 ∷ [])

-- pipe2(sp + 96, 0), write(1, sp + 96, 4), and it goes in a circle
abbrev pub caller : Program
caller = of_words (codes "/st")
    (0x06010513 ∷ 0x593 ∷ 0x03b00893 ∷ 0x73 ∷ 0x00100513 ∷ 0x06010593 ∷ 0x00400613 ∷ 0x04000893 ∷ 0x73 ∷ 0x6f ∷ [])

-- it does nothing
abbrev pub still : Program
still = of_words (codes "/a") (0x6f ∷ 0 ∷ 0 ∷ 0 ∷ [])

-- it stores a word at 0
abbrev at_zero : Program
at_zero = of_words (codes "/a") (0x00002023 ∷ 0 ∷ 0 ∷ 0 ∷ [])

-- each program stands in the root under its path, in order
abbrev entries_from : ℕ → List Program → List Entry
entries_from id [] = []
entries_from id (p ∷ ps) = record { name = drop 1 p.path; id = id } ∷ entries_from (id + 1) ps

abbrev files_from : ℕ → List Program → Inodes
files_from i [] = []
files_from i (p ∷ ps) = Some (new_inode (file []) (Some i)) ∷ files_from (i + 1) ps

abbrev pub rest_of : ℕ → List Program → Rest
rest_of pages programs = record {
  pages = pages;
  kind = First;
  programs = programs;
  tree = None ∷ Some (new_inode (folder 1 (entries_from 2 programs)) None) ∷ files_from 0 programs;
  files = nothing_open [];
  console = [];
  keep = 0;
}

abbrev pub start : ℕ → List ℕ → StartLine
start line path = record { line = line; args = path ∷ [] }

abbrev pub q : ℕ → ℕ → Quantum
q pick count = record { pick = pick; count = count }

abbrev pub loaded_at : ℕ → ℕ → ℕ → Note
loaded_at pid program base = load_note (record { pid = pid; program = program; base = base; pages = 2 })

-- what a run writes, counts, and leaves at some addresses in memory and in its spaces, and why it stops
pub record Saw : Type 0 where
  pub console : List ℕ
  pub notes : List Note
  pub events : ℕ
  pub bytes : List (Option ℕ)
  pub own : List (Option ℕ)
  pub end : Option End

abbrev saw : List ℕ → WalkIn → Saw
saw at w = record {
  console = w.now.world.rest.console;
  notes = reverse w.now.world.notes;
  events = w.now.world.events;
  bytes = map w.now.memory at;
  own = map (bytes_in w.now.world.spaces) at;
  end = w.end;
}

-- each program's header is 64 bytes of its number and 80
abbrev pub headers : List (List ℕ)
headers = replicate 64 80 ∷ replicate 64 81 ∷ []

abbrev run : List ℕ → List Quantum → Result World BootFault → Option Saw
run at qs (Ok w) = Some (saw at (turns_in qs (opening_in headers w)))
run at qs (Err fault) = None

-- the store goes into the other program's block, and the run goes on
run-stray_store :
    run (0x8000_0000 ∷ 0x8000_203f ∷ 0x8000_2040 ∷ 0x8000_4000 ∷ []) (q 0 3 ∷ []) (boot (rest_of 4 (st ∷ still ∷ [])) (start 3 (codes "/st") ∷ start 4 (codes "/a") ∷ []))
    ≡ Some (record {
      console = [];
      notes = loaded_at 1 0 0x8000_0000 ∷ loaded_at 2 1 0x8000_2000
          ∷ stray_note 1 (record { pc = 0x8000_0088; addr = 0x8000_2040; len = 1; kind = access.Store }) ∷ [];
      events = 3;
      bytes = Some 80 ∷ Some 81 ∷ Some 0x7a ∷ None ∷ [];
      own = None ∷ None ∷ Some 0x7a ∷ None ∷ [];
      end = Some out_of_quanta;
    })
unfolding number_at byte_at from_base decoded opcode funct3 funct7 rd rs1 rs2 imm_i imm_s imm_b imm_u imm_j loaded stored effect meaning register with_register free_runs place refusal has_room sent read_span writable_in own_in only may_use block_pages frame_len frame frame_start frame_fits begin_space begin_regs find change without ended_behind state_behind resumed spaces_left borrows all_left_by free_runs_in write_row row view closed with_table without_table all_descriptors pieces names is_too_long walked place_of ended stepped trapped served exited answer private_process event stray settled all_roused laid_behind waitid_in answer_in at_process_in carried_out event_in turn_in ready_pids picked turns_in first_memory opening_in started all_started boot
run-stray_store = refl

-- an access outside memory is noted, and ends the process
run-outside_memory :
    run (0x8000_0000 ∷ []) (q 0 9 ∷ []) (boot (rest_of 4 (at_zero ∷ [])) (start 3 (codes "/a") ∷ []))
    ≡ Some (record {
      console = [];
      notes = loaded_at 1 0 0x8000_0000 ∷ stray_note 1 (record { pc = 0x8000_0080; addr = 0; len = 4; kind = access.Store }) ∷ end_note 1 (Signal 11) ∷ [];
      events = 1;
      bytes = Some 80 ∷ [];
      own = None ∷ [];
      end = Some all_ended;
    })
unfolding number_at byte_at from_base decoded opcode funct3 funct7 rd rs1 rs2 imm_i imm_s imm_b imm_u imm_j loaded stored effect meaning register with_register free_runs place refusal has_room sent read_span writable_in own_in only may_use block_pages frame_len frame frame_start frame_fits begin_space begin_regs find change without ended_behind state_behind resumed spaces_left borrows all_left_by free_runs_in write_row row view closed with_table without_table all_descriptors pieces names is_too_long walked place_of ended stepped trapped served exited answer private_process event stray settled all_roused laid_behind waitid_in answer_in at_process_in carried_out event_in turn_in ready_pids picked turns_in first_memory opening_in started all_started boot
run-outside_memory = refl

-- the second stray access has no note
run-one_note :
    run (0x8000_2040 ∷ []) (q 0 5 ∷ []) (boot (rest_of 4 (again ∷ still ∷ [])) (start 3 (codes "/st") ∷ start 4 (codes "/a") ∷ []))
    ≡ Some (record {
      console = [];
      notes = loaded_at 1 0 0x8000_0000 ∷ loaded_at 2 1 0x8000_2000
          ∷ stray_note 1 (record { pc = 0x8000_0088; addr = 0x8000_2040; len = 1; kind = access.Store }) ∷ [];
      events = 5;
      bytes = Some 0x7a ∷ [];
      own = Some 0x7a ∷ [];
      end = Some out_of_quanta;
    })
unfolding number_at byte_at from_base decoded opcode funct3 funct7 rd rs1 rs2 imm_i imm_s imm_b imm_u imm_j loaded stored effect meaning register with_register free_runs place refusal has_room sent read_span writable_in own_in only may_use block_pages frame_len frame frame_start frame_fits begin_space begin_regs find change without ended_behind state_behind resumed spaces_left borrows all_left_by free_runs_in mmap2_row wanted munmap_row hit without_hit row view closed with_table without_table all_descriptors pieces names is_too_long walked place_of ended stepped trapped served exited answer private_process event stray settled all_roused laid_behind waitid_in answer_in at_process_in carried_out event_in turn_in ready_pids picked turns_in first_memory opening_in started all_started boot
run-one_note = refl

-- the notes of an mmap2 of one page, and of its munmap
abbrev maps_page : Note
maps_page = call_note (record { pid = 1; call = 222; args = 0 ∷ 0x1000 ∷ 3 ∷ 0x22 ∷ 0xffff_ffff ∷ 0 ∷ []; sent = []; reply = 0x8000_2000; got = [] })

abbrev unmaps_page : Note
unmaps_page = call_note (record { pid = 1; call = 215; args = 0x8000_2000 ∷ 0x1000 ∷ 3 ∷ 0x22 ∷ 0xffff_ffff ∷ 0 ∷ []; sent = []; reply = 0; got = [] })

abbrev stray_behind : Note
stray_behind = stray_note 1 (record { pc = 0x8000_00a8; addr = 0x8000_2001; len = 1; kind = access.Store })

-- a page that was given back keeps its bytes, and is written by who doesn't own it
run-freed_page :
    run (0x8000_2000 ∷ 0x8000_2001 ∷ []) (q 0 11 ∷ []) (boot (rest_of 4 (mapper ∷ [])) (start 3 (codes "/a") ∷ []))
    ≡ Some (record {
      console = [];
      notes = loaded_at 1 0 0x8000_0000 ∷ maps_page ∷ unmaps_page ∷ stray_behind ∷ [];
      events = 11;
      bytes = Some 3 ∷ Some 215 ∷ [];
      own = None ∷ None ∷ [];
      end = Some out_of_quanta;
    })
unfolding number_at byte_at from_base decoded opcode funct3 funct7 rd rs1 rs2 imm_i imm_s imm_b imm_u imm_j loaded stored effect meaning register with_register free_runs place refusal has_room sent read_span writable_in own_in only may_use block_pages frame_len frame frame_start frame_fits begin_space begin_regs find change without ended_behind state_behind resumed spaces_left borrows all_left_by free_runs_in mmap2_row wanted munmap_row hit without_hit row view closed with_table without_table all_descriptors pieces names is_too_long walked place_of ended stepped trapped served exited answer private_process event stray settled all_roused laid_behind waitid_in answer_in at_process_in carried_out event_in turn_in ready_pids picked turns_in first_memory opening_in started all_started boot
run-freed_page = refl

-- a fresh mapping is cleared
run-mapped_again :
    run (0x8000_2000 ∷ 0x8000_2001 ∷ []) (q 0 14 ∷ []) (boot (rest_of 4 (mapper ∷ [])) (start 3 (codes "/a") ∷ []))
    ≡ Some (record {
      console = [];
      notes = loaded_at 1 0 0x8000_0000 ∷ maps_page ∷ unmaps_page ∷ stray_behind ∷ maps_page ∷ [];
      events = 14;
      bytes = Some 0 ∷ Some 0 ∷ [];
      own = Some 0 ∷ Some 0 ∷ [];
      end = Some out_of_quanta;
    })
unfolding number_at byte_at from_base decoded opcode funct3 funct7 rd rs1 rs2 imm_i imm_s imm_b imm_u imm_j loaded stored effect meaning register with_register free_runs place refusal has_room sent read_span writable_in own_in only may_use block_pages frame_len frame frame_start frame_fits begin_space begin_regs find change without ended_behind state_behind resumed spaces_left borrows all_left_by free_runs_in mmap2_row wanted munmap_row hit without_hit row view closed with_table without_table all_descriptors pieces names is_too_long walked place_of ended stepped trapped served exited answer private_process event stray settled all_roused laid_behind waitid_in answer_in at_process_in carried_out event_in turn_in ready_pids picked turns_in first_memory opening_in started all_started boot
run-mapped_again = refl

-- a call writes into the other program's block, and one reads from there
run-stray_calls :
    run (0x8000_2040 ∷ 0x8000_2044 ∷ []) (q 0 9 ∷ []) (boot (rest_of 4 (caller ∷ still ∷ [])) (start 3 (codes "/st") ∷ start 4 (codes "/a") ∷ []))
    ≡ Some (record {
      console = 3 ∷ 0 ∷ 0 ∷ 0 ∷ [];
      notes = loaded_at 1 0 0x8000_0000 ∷ loaded_at 2 1 0x8000_2000
          ∷ stray_note 1 (record { pc = 0x8000_008c; addr = 0x8000_2040; len = 8; kind = access.Call })
          ∷ call_note (record { pid = 1; call = 59; args = 0x8000_2040 ∷ 0 ∷ 0 ∷ 0 ∷ 0 ∷ 0 ∷ []; sent = []; reply = 0; got = record { addr = 0x8000_2040; bytes = 3 ∷ 0 ∷ 0 ∷ 0 ∷ 4 ∷ 0 ∷ 0 ∷ 0 ∷ [] } ∷ [] })
          ∷ call_note (record { pid = 1; call = 64; args = 1 ∷ 0x8000_2040 ∷ 4 ∷ 0 ∷ 0 ∷ 0 ∷ []; sent = 3 ∷ 0 ∷ 0 ∷ 0 ∷ []; reply = 4; got = [] }) ∷ [];
      events = 9;
      bytes = Some 3 ∷ Some 4 ∷ [];
      own = Some 3 ∷ Some 4 ∷ [];
      end = Some out_of_quanta;
    })
unfolding number_at byte_at from_base decoded opcode funct3 funct7 rd rs1 rs2 imm_i imm_s imm_b imm_u imm_j loaded stored effect meaning register with_register free_runs place refusal has_room sent read_span writable_in own_in only may_use block_pages frame_len frame frame_start frame_fits begin_space begin_regs find change without ended_behind state_behind resumed spaces_left borrows all_left_by free_runs_in pipe2_row write_row row view two_free piped with_table without_table all_descriptors pieces names is_too_long walked place_of ended stepped trapped served exited answer private_process event stray settled all_roused laid_behind waitid_in answer_in at_process_in carried_out event_in turn_in ready_pids picked turns_in first_memory opening_in started all_started boot
run-stray_calls = refl
