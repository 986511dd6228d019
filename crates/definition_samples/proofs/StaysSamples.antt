-- Stays: a program that is loaded, runs and exits, and what is told of it.
use Rattle.std.proofs.Common.{◌≡◌, ℕ, true, List, [], ◌∷◌, Option, Some, None, refl}
use Rattle.std.specs.Prelude.{Ok, false}
use Rattle.byte_words.specs.Numbers.{number_at, byte_at}
use Rattle.byte_words.specs.Patches.{from_base}
use Rattle.byte_words.specs.Pieces.{pieces}
use Rattle.rv32im_table.specs.Field.{opcode, funct3, funct7, rd, rs1, rs2}
use Rattle.rv32im_table.specs.Immediate.{imm_i}
use Rattle.rv32im_table.specs.Table.{decoded}
use Rattle.rv32im_step.specs.Memory.{loaded}
use Rattle.rv32im_step.specs.Meaning.{effect, meaning}
use Rattle.rv32im_step.specs.Registers.{register, with_register}
use Rattle.page_runs.specs.Free.{free_runs}
use Rattle.page_runs.specs.Place.{place}
use Rattle.call_log.specs.Notes.{has_room}
use Rattle.call_log.specs.Sent.{sent}
use Rattle.mmap_rules.specs.Space.{writable_in}
use Rattle.mem_files.specs.Paths.{names, is_too_long, walked, place_of}
use Rattle.fd_tables.specs.Files.{nothing_open}
use Rattle.fd_tables.specs.Changes.{closed, with_table, without_table, all_descriptors}
use Rattle.flat_loader.specs.Original.{block_pages}
use Rattle.flat_loader.specs.Frame.{frame_len, frame, frame_start, frame_fits}
use Rattle.flat_loader.specs.Begin.{begin_space, begin_regs}
use Rattle.flat_loader.specs.Alone.{Runner, Solo, Item, memory_of, own_of, writable_of, is_errno, is_call, solo_step, solo_run, alone}
use Rattle.quantum_sched.specs.declared.Quantum.{Quantum}
use Rattle.quantum_sched.specs.Picked.{picked}
use Rattle.vfork_exec.specs.Keyed.{find, change, without}
use Rattle.vfork_exec.specs.Families.{ended_behind}
use Rattle.machine_world.specs.Families.{borrows, spaces_left, all_left_by, all_roused, ready_pids}
use Rattle.machine_world.specs.Free.{free_runs_in}
use Rattle.machine_world.specs.Event.{ended, stepped, exited, answer, settled, at_process, event}
use Rattle.machine_world.specs.Turns.{turn, turns}
use Rattle.machine_world.specs.Boot.{empty_world, started, all_started, boot}
use Rattle.alone_laws.specs.Stays.{Stay, change_at, collect_all, stays_along, first_stays, alone_end}
use Rattle.definition_samples.proofs.Exits.{loading, regs, exit_item, rest_with, start, running, over}

-- ---- the run itself: the world at boot, behind one event, and behind all

boots : boot (rest_with (nothing_open [])) (start ∷ []) ≡ Ok (running 0x8000_0080 0 0)
unfolding pieces names is_too_long walked place_of free_runs place block_pages frame_len frame_start frame_fits begin_regs with_table free_runs_in started all_started boot
boots = refl

abbrev run : (count : ℕ) → List Quantum
run count = record { pick = 0; count = count } ∷ []

goes-on : (turns (run 1) (running 0x8000_0080 0 0)).world ≡ running 0x8000_0084 93 1
unfolding number_at byte_at from_base decoded opcode funct3 funct7 rd rs1 rs2 imm_i loaded effect meaning register with_register writable_in block_pages frame_len frame frame_start begin_space find change stepped at_process event turn ready_pids picked turns
goes-on = refl

ends : (turns (run 9) (running 0x8000_0080 0 0)).world ≡ over
unfolding number_at byte_at from_base decoded opcode funct3 funct7 rd rs1 rs2 imm_i loaded effect meaning register with_register sent writable_in has_room block_pages frame_len frame frame_start begin_space find change without ended_behind borrows spaces_left all_left_by all_roused closed without_table all_descriptors ended stepped exited answer settled at_process event turn ready_pids picked turns
ends = refl

-- ---- its stay

abbrev pub stay : (items : List Item) → (events : ℕ) → Stay
stay items events = record { loading = loading; pid = 1; items = items; events = events }

-- at boot, with no call and no event
stays-first : first_stays (empty_world (rest_with (nothing_open []))) (start ∷ []) ≡ stay [] 0 ∷ []
unfolding pieces names is_too_long walked place_of free_runs place block_pages frame_len frame_start frame_fits with_table free_runs_in started first_stays
stays-first = refl

-- behind one event, and behind all: with its call
stays-one : stays_along (stay [] 0 ∷ []) (running 0x8000_0080 0 0) (run 1) ≡ stay [] 1 ∷ []
unfolding number_at byte_at from_base decoded opcode funct3 funct7 rd rs1 rs2 imm_i loaded effect meaning register with_register writable_in block_pages frame_len frame frame_start begin_space find change stepped at_process event turn ready_pids picked turns change_at collect_all
stays-one = refl

stays-all : stays_along (stay [] 0 ∷ []) (running 0x8000_0080 0 0) (run 9) ≡ stay (exit_item ∷ []) 2 ∷ []
unfolding number_at byte_at from_base decoded opcode funct3 funct7 rd rs1 rs2 imm_i loaded effect meaning register with_register sent writable_in has_room block_pages frame_len frame frame_start begin_space find change without ended_behind borrows spaces_left all_left_by all_roused closed without_table all_descriptors ended stepped exited answer settled at_process event turn ready_pids picked turns change_at collect_all
stays-all = refl

-- ---- what it leaves alone

abbrev stands : List Runner → Option Solo
stands stack = Some (record { stack = stack; memory = memory_of (begin_space loading) })

pub alone-first : alone_end (stay [] 0) ≡ stands (record { pid = 1; regs = regs 0x8000_0080 0 } ∷ [])
unfolding block_pages frame_len frame_start begin_regs solo_run alone
alone-first = refl

pub alone-one : alone_end (stay [] 1) ≡ stands (record { pid = 1; regs = regs 0x8000_0084 93 } ∷ [])
unfolding number_at byte_at from_base decoded opcode funct3 funct7 rd rs1 rs2 imm_i loaded effect meaning register with_register block_pages frame_len frame frame_start begin_space begin_regs own_of writable_of solo_step solo_run alone
alone-one = refl

pub alone-all : alone_end (stay (exit_item ∷ []) 2) ≡ stands []
unfolding number_at byte_at from_base decoded opcode funct3 funct7 rd rs1 rs2 imm_i loaded effect meaning register with_register sent block_pages frame_len frame frame_start begin_space begin_regs own_of writable_of is_errno is_call solo_step solo_run alone
alone-all = refl

-- two events without an item are refuted
pub alone-untold : alone_end (stay [] 2) ≡ None
unfolding number_at byte_at from_base decoded opcode funct3 funct7 rd rs1 rs2 imm_i loaded effect meaning register with_register sent block_pages frame_len frame frame_start begin_space begin_regs own_of writable_of is_errno is_call solo_step solo_run alone
alone-untold = refl

-- ---- traces, collected: those of space number 0 and of number 1, in which a program begins, which is stay number 2

abbrev now : (items : List Item) → (events : ℕ) → Stay
now items events = record (stay items events) { pid = 7 }

collected :
    collect_all (stay [] 5 ∷ now (exit_item ∷ []) 3 ∷ [])
    (record { space = 0; events = 1; items = []; begins = None; over = false }
    ∷ record { space = 1; events = 1; items = exit_item ∷ []; begins = Some (record { loading = loading; pid = 9 }); over = false }
    ∷ record { space = 0; events = 0; items = []; begins = None; over = true }
    ∷ record { space = 2; events = 1; items = exit_item ∷ []; begins = None; over = true }
    ∷ [])
    ≡ stay [] 6 ∷ now (exit_item ∷ exit_item ∷ []) 4 ∷ record { loading = loading; pid = 9; items = exit_item ∷ []; events = 1 } ∷ []
unfolding change_at collect_all
collected = refl
