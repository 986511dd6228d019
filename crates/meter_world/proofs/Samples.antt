-- The definitions, computed on a program of one page that makes its stack 48 bytes deeper.
use Rattle.std.proofs.Common.{◌≡◌, ℕ, ◌==◌, true, false, List, [], ◌∷◌, replicate, slice_set, Some, None, if◌then◌else◌, refl}
use Rattle.rv32im_step.specs.declared.regs.Regs.{Regs}
use Rattle.rv32im_step.specs.Registers.{register, with_register}
use Rattle.rv32im_step.specs.Memory.{loaded, stored}
use Rattle.rv32im_step.specs.Meaning.{effect, meaning}
use Rattle.rv32im_table.specs.Table.{decoded}
use Rattle.rv32im_table.specs.Field.{opcode, funct3, funct7, rd, rs1, rs2}
use Rattle.rv32im_table.specs.Immediate.{imm_i}
use Rattle.page_runs.specs.declared.place.Kind.TheVariants.{First}
use Rattle.page_runs.specs.Place.{place}
use Rattle.page_runs.specs.Free.{free_runs}
use Rattle.nommu_regions.specs.declared.region.Source.TheVariants.{Own}
use Rattle.call_log.specs.Notes.{load_note}
use Rattle.mmap_rules.specs.declared.mapping.Mapping.{Mapping}
use Rattle.mmap_rules.specs.Space.{in_range, writable_in, may_use}
use Rattle.fd_tables.specs.Files.{nothing_open}
use Rattle.fd_tables.specs.Changes.{closed, without_table, all_descriptors}
use Rattle.quantum_sched.specs.declared.Quantum.{Quantum}
use Rattle.quantum_sched.specs.Picked.{picked}
use Rattle.vfork_exec.specs.declared.family.State.TheVariants.{Ready}
use Rattle.vfork_exec.specs.Keyed.{find, change, without}
use Rattle.vfork_exec.specs.Families.{ended_behind, resumed, state_behind}
use Rattle.alone_laws.specs.Stays.{loads_of}
use Rattle.machine_world.specs.World.{World, LiveSpace}
use Rattle.machine_world.specs.Families.{borrows, spaces_left, all_left_by, all_roused, ready_pids}
use Rattle.machine_world.specs.Free.{free_runs_in}
use Rattle.machine_world.specs.Recordings.{nothing_recorded}
use Rattle.machine_world.specs.Event.{ended, stepped, trapped, settled, at_process, event}
use Rattle.machine_world.specs.Turns.{turn, turns}
use Rattle.meter_world.specs.Steps.{need_at, turn_steps, steps}
use Rattle.meter_world.specs.Requests.{Request, need_of}
use Rattle.meter_world.specs.Meter.{greatest, depth, outside, top, step_requests, metered, meter_of}

-- addi sp, sp, -48 at 0x80000080, and no instruction behind it
abbrev byte : ℕ → ℕ
byte a =
    if a == 0x8000_0080 then 0x13 else if a == 0x8000_0081 then 0x01 else if a == 0x8000_0082 then 0x01
    else if a == 0x8000_0083 then 0xfd else 0

abbrev block : Mapping
block = record { first = 0; pages = 1; range = record { from = 0x8000_0040; size = 4032; writes = true; anonymous = false }; source = Own }

-- its break went 20 bytes up
abbrev space : LiveSpace
space = record {
  id = 0;
  space = record {
    maps = block ∷ [];
    brk = 0x8000_0114;
    brk_low = 0x8000_0100;
    brk_high = 0x8000_0fe0;
    bytes = λ a. if in_range block.range a then Some (byte a) else None;
  };
}

-- its start frame has 32 bytes
abbrev regs : Regs
regs = record { pc = 0x8000_0080; x = slice_set (replicate 32 0) 2 0x8000_0fe0 }

abbrev empty : World
empty = record {
  procs = [];
  ended = [];
  spaces = [];
  loads = 0;
  next_pid = 1;
  rest = record { pages = 4; kind = First; programs = []; tree = []; files = nothing_open []; console = []; keep = 0 };
  notes = [];
  events = 0;
  recording = nothing_recorded 0;
}

abbrev loaded_world : World
loaded_world = record empty {
  procs = record { pid = 1; parent = 0; regs = regs; space = 0; table = 0; state = Ready } ∷ [];
  spaces = space ∷ [];
  loads = 1;
  next_pid = 2;
  notes = load_note (record { pid = 1; program = 0; base = 0x8000_0000; pages = 1 }) ∷ [];
}

abbrev quanta : List Quantum
quanta = record { pick = 0; count = 5 } ∷ []

-- its block was granted; five pages aren't there, while four are free
abbrev asked : List Request
asked = record { need = 1; world = empty } ∷ record { need = 5; world = empty } ∷ []

-- 80 bytes deep; one page held, and five asked for at most
meter_is :
    meter_of asked loaded_world (steps quanta loaded_world)
    ≡ record {
      stays = record { pid = 1; program = 0; depth = 80; outside = 0; top = 20 } ∷ [];
      most = 1;
      largest = 5;
      fragmented = 0;
      short = 1;
    }
unfolding meter_of metered depth outside top greatest step_requests loads_of steps turn_steps need_at need_of free_runs_in free_runs place decoded opcode funct3 funct7 rd rs1 rs2 imm_i loaded stored effect meaning register with_register writable_in may_use find change without ended_behind state_behind resumed spaces_left borrows all_left_by closed without_table all_descriptors ended stepped trapped at_process event settled all_roused turn ready_pids picked turns
meter_is = refl
