-- Calls that are refused, computed in a world of one page that a process's block fills.
use Rattle.std.proofs.Common.{◌≡◌, ℕ, ◌+◌, ◌-◌, ◌^◌, List, [], ◌∷◌, ◌++◌, Option, inl, refl}
use Rattle.std.specs.Prelude.{replicate, slice_get}
use Rattle.byte_words.specs.Numbers.{number_at, byte_at as byte_in}
use Rattle.rv32im_table.specs.Field.{opcode, funct3, funct7, rd, rs1, rs2}
use Rattle.rv32im_table.specs.Immediate.{imm_i}
use Rattle.rv32im_table.specs.Table.{decoded}
use Rattle.rv32im_step.specs.Memory.{loaded}
use Rattle.rv32im_step.specs.Meaning.{effect, meaning}
use Rattle.rv32im_step.specs.Registers.{register, with_register}
use Rattle.page_runs.specs.Free.{free_runs}
use Rattle.page_runs.specs.Place.{place}
use Rattle.call_log.specs.Errno.{refusal}
use Rattle.call_log.specs.Notes.{has_room}
use Rattle.call_log.specs.Sent.{sent}
use Rattle.mmap_rules.specs.Space.{writable_in}
use Rattle.mmap_rules.specs.Want.{wanted}
use Rattle.flat_loader.specs.Alone.{is_errno}
use Rattle.vfork_exec.specs.Keyed.{find, change}
use Rattle.machine_world.specs.Families.{all_roused}
use Rattle.machine_world.specs.Free.{free_runs_in}
use Rattle.machine_world.specs.Rows.{row}
use Rattle.machine_world.specs.Recordings.{nothing_recorded}
use Rattle.machine_world.specs.MapCalls.{mmap2_row}
use Rattle.page_runs.specs.declared.place.Kind.TheVariants.{First}
use Rattle.call_log.specs.declared.errno.Errno.TheVariants.{Enomem}
use Rattle.mmap_rules.specs.declared.want.Want.TheVariants.{Anon}
use Rattle.mmap_rules.specs.Held.{block_mapping}
use Rattle.fd_tables.specs.Files.{nothing_open, view}
use Rattle.fd_tables.specs.Changes.{with_table}
use Rattle.vfork_exec.specs.declared.family.State.TheVariants.{Ready}
use Rattle.machine_world.specs.World.{Process, LiveSpace, Rest, World}
use Rattle.machine_world.specs.Event.{served, answer, settled, at_process, event}
use Rattle.machine_world.specs.Laws.{refused_outcome}
use Rattle.refusal_laws.specs.Calls.{Call, ask}
use Rattle.refusal_laws.specs.NoRun.{LacksRun}

abbrev rest : (pages : ℕ) → Rest
rest pages = record { pages = pages; kind = First; programs = []; tree = []; files = with_table (nothing_open []); console = []; keep = 0 }

-- ecall stands behind the header
abbrev pub byte_at : ℕ → Option ℕ
byte_at a = slice_get (replicate 64 0 ++ 0x73 ∷ 0 ∷ 0 ∷ 0 ∷ []) (a - 2 ^ 31)

abbrev pub space : LiveSpace
space = record {
  id = 0;
  space = record { maps = block_mapping 0 1 ∷ []; brk = 2 ^ 31 + 68; brk_low = 2 ^ 31 + 68; brk_high = 2 ^ 31 + 4096; bytes = byte_at };
}

-- a process at a call with this number and these arguments
abbrev pub process : ℕ → List ℕ → Process
process number args = record { pid = 1; parent = 0; regs = record { pc = 2 ^ 31 + 64; x = replicate 10 0 ++ args ++ 0 ∷ number ∷ replicate 14 0 }; space = 0; table = 0; state = Ready }

abbrev pub world : (pages : ℕ) → ℕ → List ℕ → World
world pages number args =
    record { procs = process number args ∷ []; ended = []; spaces = space ∷ []; loads = 1; next_pid = 2; rest = rest pages; notes = []; events = 0; recording = nothing_recorded 0 }

-- mmap2 of a page, private and anonymous
abbrev pub asks_page : List ℕ
asks_page = 0 ∷ 4096 ∷ 3 ∷ 0x22 ∷ 0xffffffff ∷ 0 ∷ []

abbrev maps_page : Call (world 1 222 asks_page) 1
unfolding number_at byte_in decoded opcode funct3 funct7 rd rs1 rs2 imm_i loaded effect meaning register with_register sent writable_in find
maps_page = record { process = process 222 asks_page; lives = refl; space = space; has = refl; at_call = refl; bytes = []; reads = refl }

lacks-page : LacksRun (world 1 222 asks_page) (ask (world 1 222 asks_page) 1 maps_page)
unfolding maps_page register wanted free_runs_in free_runs place
lacks-page = inl (refl, record { want = Anon 1; asks = refl; no_copy = refl; no_run = refl })

enomem-page : event (world 1 222 asks_page) 1 ≡ refused_outcome (world 1 222 asks_page) (process 222 asks_page) (ask (world 1 222 asks_page) 1 maps_page) Enomem
unfolding maps_page number_at byte_in decoded opcode funct3 funct7 rd rs1 rs2 imm_i loaded effect meaning register with_register sent writable_in find change refusal is_errno has_room wanted view with_table free_runs_in free_runs place row mmap2_row served answer at_process event settled all_roused
enomem-page = refl
