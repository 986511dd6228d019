-- The definitions, computed on examples.
use Rattle.std.proofs.Common.{◌≡◌, ℕ, ◌+◌, ◌*◌, Bool, true, false, List, [], ◌∷◌, map, replicate, Some, None, option_map, if◌then◌else◌, refl}
use Rattle.rv32im_step.specs.declared.regs.Regs.{Regs}
use Rattle.rv32im_step.specs.Registers.{register, with_register}
use Rattle.rv32im_step.specs.Memory.{loaded, stored}
use Rattle.rv32im_step.specs.Meaning.{effect, meaning}
use Rattle.rv32im_table.specs.Table.{decoded}
use Rattle.rv32im_table.specs.Field.{opcode, funct3, funct7, rd, rs1, rs2}
use Rattle.page_runs.specs.declared.place.Kind.TheVariants.{First}
use Rattle.nommu_regions.specs.declared.region.Source.TheVariants.{Own}
use Rattle.mmap_rules.specs.declared.mapping.Mapping.{Mapping}
use Rattle.mmap_rules.specs.Space.{in_range, own_in, writable_in, may_use}
use Rattle.fd_tables.specs.Files.{nothing_open}
use Rattle.fd_tables.specs.Changes.{closed, without_table, all_descriptors}
use Rattle.quantum_sched.specs.declared.Quantum.{Quantum}
use Rattle.quantum_sched.specs.Picked.{picked}
use Rattle.vfork_exec.specs.declared.family.State.TheVariants.{Ready}
use Rattle.vfork_exec.specs.Keyed.{find, change, without}
use Rattle.vfork_exec.specs.Families.{ended_behind, resumed, state_behind}
use Rattle.machine_world.specs.World.{World, Process, LiveSpace}
use Rattle.machine_world.specs.Families.{borrows, spaces_left, all_left_by, all_roused, ready_pids}
use Rattle.machine_world.specs.Recordings.{nothing_recorded}
use Rattle.machine_world.specs.Event.{ended, stepped, trapped, settled, at_process, event}
use Rattle.machine_world.specs.Turns.{turn, turns}
use Rattle.core_world.specs.Segments.{kind, intervals, segments}
use Rattle.core_world.specs.Cores.{core_in, load_in}
use Rattle.core_world.specs.Falls.{Fall, trap_at, turn_falls, falls, core_of}

-- ---- intervals

abbrev own : (from size : ℕ) → (writes : Bool) → Mapping
own from size writes = record { first = 0; pages = 1; range = record { from = from; size = size; writes = writes; anonymous = false }; source = Own }

-- a block from its byte 4 on, and right behind it a mapping: they make one interval. Bytes that may not be written, mapped twice, and
-- right behind them some that may be
abbrev maps : List Mapping
maps = own 104 12 true ∷ own 116 4 true ∷ own 124 4 false ∷ own 124 4 false ∷ own 128 4 true ∷ []

intervals_are :
    intervals (kind (own_in maps) (writable_in maps)) 100 40
    ≡ record { addr = 104; len = 16; write = true } ∷ record { addr = 124; len = 4; write = false } ∷ record { addr = 128; len = 4; write = true } ∷ []
unfolding intervals own_in writable_in
intervals_are = refl

-- ---- a world of three processes, each with one page but for its header

abbrev block : (page : ℕ) → Mapping
block page = own (0x8000_0040 + 4096 * page) 4032 true

abbrev space : (page : ℕ) → LiveSpace
space page = record {
  id = page;
  space = record {
    maps = block page ∷ [];
    brk = 0;
    brk_low = 0;
    brk_high = 0;
    bytes = λ a. if in_range (block page).range a then Some 0 else None;
  };
}

abbrev regs : ℕ → Regs
regs pc = record { pc = pc; x = replicate 32 9 }

abbrev process : (pid parent pc page : ℕ) → Process
process pid parent pc page = record { pid = pid; parent = parent; regs = regs pc; space = page; table = 0; state = Ready }

abbrev world_of : (pages : ℕ) → List Process → List LiveSpace → World
world_of pages procs spaces = record {
  procs = procs;
  ended = [];
  spaces = spaces;
  loads = 3;
  next_pid = 4;
  rest = record { pages = pages; kind = First; programs = []; tree = []; files = nothing_open []; console = []; keep = 0 };
  notes = [];
  events = 0;
  recording = nothing_recorded 0;
}

-- the first one's next word is no instruction, and the second one stands in its header, which isn't its own
abbrev three : World
three = world_of 3 (process 3 2 0x8000_2080 2 ∷ process 2 0 0x8000_1000 1 ∷ process 1 0 0x8000_0080 0 ∷ []) (space 2 ∷ space 1 ∷ space 0 ∷ [])

abbrev quanta : List Quantum
quanta = record { pick = 0; count = 5 } ∷ record { pick = 0; count = 5 } ∷ record { pick = 0; count = 5 } ∷ []

abbrev seen : Fall → ℕ × ℕ
seen f = (f.pid, f.signal)

-- the first one falls by SIGILL, and the second one by its stray access, which ends the run
falls_are : map seen (falls quanta three) ≡ (1, 4) ∷ (2, 11) ∷ []
unfolding core_of falls turn_falls trap_at decoded opcode funct3 funct7 rd rs1 rs2 loaded stored effect meaning register with_register writable_in may_use find change without ended_behind state_behind resumed spaces_left borrows all_left_by closed without_table all_descriptors ended stepped trapped at_process event settled all_roused turn ready_pids picked turns
falls_are = refl

-- the first that falls; the second, where it is wanted; the third as it stands; and no other
core_first : option_map seen (core_of quanta three None) ≡ Some (1, 4)
unfolding core_of falls turn_falls trap_at decoded opcode funct3 funct7 rd rs1 rs2 loaded stored effect meaning register with_register writable_in may_use find change without ended_behind state_behind resumed spaces_left borrows all_left_by closed without_table all_descriptors ended stepped trapped at_process event settled all_roused turn ready_pids picked turns
core_first = refl

core_second : option_map seen (core_of quanta three (Some 2)) ≡ Some (2, 11)
unfolding core_of falls turn_falls trap_at decoded opcode funct3 funct7 rd rs1 rs2 loaded stored effect meaning register with_register writable_in may_use find change without ended_behind state_behind resumed spaces_left borrows all_left_by closed without_table all_descriptors ended stepped trapped at_process event settled all_roused turn ready_pids picked turns
core_second = refl

core_standing : option_map seen (core_of quanta three (Some 3)) ≡ Some (3, 0)
unfolding core_of falls turn_falls trap_at decoded opcode funct3 funct7 rd rs1 rs2 loaded stored effect meaning register with_register writable_in may_use find change without ended_behind state_behind resumed spaces_left borrows all_left_by closed without_table all_descriptors ended stepped trapped at_process event settled all_roused turn ready_pids picked turns
core_standing = refl

core_nobody : option_map seen (core_of quanta three (Some 4)) ≡ None
unfolding core_of falls turn_falls trap_at decoded opcode funct3 funct7 rd rs1 rs2 loaded stored effect meaning register with_register writable_in may_use find change without ended_behind state_behind resumed spaces_left borrows all_left_by closed without_table all_descriptors ended stepped trapped at_process event settled all_roused turn ready_pids picked turns
core_nobody = refl

-- ---- what its core says

core_is :
    core_in (world_of 1 (process 2 1 0x8000_0080 0 ∷ []) (space 0 ∷ [])) 2 5
    ≡ Some (record {
      signal = 5;
      pid = 2;
      parent = 1;
      regs = regs 0x8000_0080;
      segments = record { addr = 0x8000_0040; write = true; bytes = replicate 4032 0 } ∷ [];
    })
unfolding core_in segments intervals own_in writable_in find
core_is = refl

load_is : load_in three 3 ≡ Some 3
unfolding load_in find
load_is = refl
