-- A call over one memory that is refused with ENOMEM, computed in a memory of one page that a process's block fills.
use Rattle.std.proofs.Common.{◌+◌, ◌^◌, List, [], ◌∷◌, inl, refl}
use Rattle.byte_words.specs.Numbers.{number_at, byte_at as byte_in}
use Rattle.rv32im_table.specs.Field.{opcode, funct3, funct7, rd, rs1, rs2}
use Rattle.rv32im_table.specs.Immediate.{imm_i}
use Rattle.rv32im_table.specs.Table.{decoded}
use Rattle.rv32im_step.specs.Memory.{loaded}
use Rattle.rv32im_step.specs.Meaning.{effect, meaning}
use Rattle.rv32im_step.specs.Registers.{register, with_register}
use Rattle.page_runs.specs.Free.{free_runs}
use Rattle.page_runs.specs.Place.{place}
use Rattle.byte_words.specs.declared.access.AccessKind.TheVariants as access
use Rattle.call_log.specs.Errno.{refusal}
use Rattle.call_log.specs.Notes.{Note, stray_note, has_room}
use Rattle.call_log.specs.Sent.{sent}
use Rattle.mmap_rules.specs.declared.want.Want.TheVariants.{Anon}
use Rattle.mmap_rules.specs.Space.{writable_in}
use Rattle.mmap_rules.specs.Want.{wanted}
use Rattle.flat_loader.specs.Alone.{is_errno}
use Rattle.fd_tables.specs.Files.{view}
use Rattle.fd_tables.specs.Changes.{with_table}
use Rattle.vfork_exec.specs.Keyed.{find, change}
use Rattle.machine_world.specs.Families.{all_roused}
use Rattle.machine_world.specs.Free.{free_runs_in}
use Rattle.machine_world.specs.Rows.{row}
use Rattle.machine_world.specs.MapCalls.{mmap2_row}
use Rattle.machine_world.specs.Event.{served, answer, settled, at_process as private_process, event, stray}
use Rattle.memory_world.specs.Physical.{Physical}
use Rattle.refusal_laws.proofs.Samples.{byte_at, space, process, world, asks_page}
use Rattle.refusals_in_memory.specs.Enomem.{IsWithoutRunIn}

-- an mmap2 of a page, behind these notes
abbrev asking : List Note → Physical
asking notes = record { world = record (world 1 222 asks_page) { notes = notes }; memory = byte_at; headers = [] }

-- a load that strayed
abbrev strayed : List Note
strayed = stray_note 1 (record { pc = 2 ^ 31 + 60; addr = 0; len = 4; kind = access.Load }) ∷ []

without_run : IsWithoutRunIn (asking []) 1
unfolding number_at byte_in decoded opcode funct3 funct7 rd rs1 rs2 imm_i loaded effect meaning register with_register sent writable_in find change refusal is_errno has_room wanted view with_table free_runs_in free_runs place row mmap2_row served answer private_process event stray settled all_roused
without_run = record {
  call = record { process = process 222 asks_page; lives = refl; space = space; has = refl; at_call = refl; bytes = []; reads = refl };
  room = refl;
  lacks = inl (refl, record { want = Anon 1; asks = refl; no_copy = refl; no_run = refl });
}

-- and behind the first stray access
without_run-strayed : IsWithoutRunIn (asking strayed) 1
unfolding number_at byte_in decoded opcode funct3 funct7 rd rs1 rs2 imm_i loaded effect meaning register with_register sent writable_in find change refusal is_errno has_room wanted view with_table free_runs_in free_runs place row mmap2_row served answer private_process event stray settled all_roused
without_run-strayed = record {
  call = record { process = process 222 asks_page; lives = refl; space = space; has = refl; at_call = refl; bytes = []; reads = refl };
  room = refl;
  lacks = inl (refl, record { want = Anon 1; asks = refl; no_copy = refl; no_run = refl });
}
