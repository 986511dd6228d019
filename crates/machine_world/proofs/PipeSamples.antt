-- Pipes, computed from the definitions.
use Rattle.std.proofs.Common.{◌≡◌, ℕ, Bool, true, false, List, [], ◌∷◌, ◌++◌, length, Some, refl}
use Rattle.std.specs.Prelude.{replicate, codes, flat_map, slice_index, Result}
use Rattle.std.proofs.lemmas.List.{length-take}
use Rattle.byteorder.specs.Endian.{little_bytes}
use Rattle.byte_words.specs.Patches.{from_base}
use Rattle.byte_words.specs.Numbers.{number_at, byte_at}
use Rattle.byte_words.specs.Pieces.{pieces}
use Rattle.rv32im_table.specs.Field.{opcode, funct3, funct7, rd, rs1, rs2}
use Rattle.rv32im_table.specs.Immediate.{imm_i, imm_s, imm_b, imm_u, imm_j}
use Rattle.rv32im_table.specs.Table.{decoded}
use Rattle.rv32im_step.specs.Memory.{loaded, stored}
use Rattle.rv32im_step.specs.Meaning.{effect, meaning}
use Rattle.rv32im_step.specs.Registers.{register, with_register}
use Rattle.page_runs.specs.Free.{free_runs}
use Rattle.page_runs.specs.Place.{place}
use Rattle.call_log.specs.Errno.{refusal}
use Rattle.call_log.specs.Sent.{sent, read_span}
use Rattle.mem_files.specs.Paths.{names, is_too_long, walked, place_of}
use Rattle.mmap_rules.specs.Space.{writable_in, may_use}
use Rattle.flat_loader.specs.Original.{block_pages}
use Rattle.flat_loader.specs.Frame.{frame_len, frame, frame_start, frame_fits}
use Rattle.flat_loader.specs.Begin.{begin_space, begin_regs}
use Rattle.quantum_sched.specs.Picked.{picked}
use Rattle.vfork_exec.specs.Keyed.{find, change}
use Rattle.call_log.specs.Notes.{GotRange, call_note, has_room}
use Rattle.fd_tables.specs.Files.{view, two_free}
use Rattle.fd_tables.specs.Pipes.{pipe_view, pipe_bytes, pipe_taken}
use Rattle.fd_tables.specs.Changes.{with_table, piped}
use Rattle.vfork_exec.specs.declared.family.State.TheVariants.{OnPipe}
use Rattle.machine_world.specs.World.{Program, Rest, World}
use Rattle.machine_world.specs.Asks.{Row, waits}
use Rattle.machine_world.specs.Families.{all_roused, ready_pids}
use Rattle.machine_world.specs.Free.{free_runs_in}
use Rattle.machine_world.specs.Descriptors.{pipe2_row}
use Rattle.machine_world.specs.Transfers.{read_row, write_row}
use Rattle.machine_world.specs.Event.{stepped, waited, served, answer, settled, at_process, event}
use Rattle.machine_world.specs.Rows.{row}
use Rattle.machine_world.specs.Turns.{stuck, out_of_quanta, turn, turns}
use Rattle.machine_world.specs.Boot.{BootFault, started, all_started, boot}
use Rattle.machine_world.proofs.Samples.{q, start, rest_of, run, loaded_at}
use Rattle.machine_world.proofs.FileSamples.{rest, ask, seen, rest_after}

-- ---- a process makes a pipe, and reads from it

-- eight words at number 64: pipe2(sp - 16, 0), read(3, sp - 16, 1)
abbrev code : List ℕ
code = 0xff010513 ∷ 0x03b00893 ∷ 0x73 ∷ 0x00300513 ∷ 0xff010593 ∷ 0x00100613 ∷ 0x03f00893 ∷ 0x73 ∷ []

abbrev reader : Program
reader = record {
  path = codes "/p";
  original = record {
    image = λ b. from_base b 96 (slice_index (replicate 64 0 ++ flat_map (little_bytes 4) code));
    size = 96;
    entry = 128;
    stack = 4096;
  };
}

abbrev booted : Result World BootFault
booted = boot (rest_of 4 (reader ∷ [])) (start 3 (codes "/p") ∷ [])

abbrev made_pipe : GotRange
made_pipe = record { addr = 0x8000_1fd0; bytes = 3 ∷ 0 ∷ 0 ∷ 0 ∷ 4 ∷ 0 ∷ 0 ∷ 0 ∷ [] }

-- the read waits, and nobody else lives
run-stuck :
    run (q 0 100 ∷ []) booted
    ≡ Some (record {
      console = [];
      notes = loaded_at 1 0 0x8000_0000
          ∷ call_note (record { pid = 1; call = 59; args = 0x8000_1fd0 ∷ 0 ∷ 0 ∷ 0 ∷ 0 ∷ 0 ∷ []; sent = []; reply = 0; got = made_pipe ∷ [] }) ∷ [];
      events = 8;
      end = Some stuck;
    })
unfolding number_at byte_at from_base decoded opcode funct3 funct7 rd rs1 rs2 imm_i imm_s imm_b imm_u imm_j loaded stored effect meaning register with_register free_runs place refusal has_room sent read_span writable_in may_use block_pages frame_len frame frame_start frame_fits begin_space begin_regs find change free_runs_in pipe2_row read_row row view pipe_view two_free piped with_table pieces names is_too_long walked place_of stepped waited served answer at_process event settled all_roused turn ready_pids picked turns started all_started boot
run-stuck = refl

-- an event less, and it may run still
run-unstuck :
    run (q 0 7 ∷ []) booted
    ≡ Some (record {
      console = [];
      notes = loaded_at 1 0 0x8000_0000
          ∷ call_note (record { pid = 1; call = 59; args = 0x8000_1fd0 ∷ 0 ∷ 0 ∷ 0 ∷ 0 ∷ 0 ∷ []; sent = []; reply = 0; got = made_pipe ∷ [] }) ∷ [];
      events = 7;
      end = Some out_of_quanta;
    })
unfolding number_at byte_at from_base decoded opcode funct3 funct7 rd rs1 rs2 imm_i imm_s imm_b imm_u imm_j loaded stored effect meaning register with_register free_runs place refusal has_room sent read_span writable_in may_use block_pages frame_len frame frame_start frame_fits begin_space begin_regs find change free_runs_in pipe2_row read_row row view pipe_view two_free piped with_table pieces names is_too_long walked place_of stepped waited served answer at_process event settled all_roused turn ready_pids picked turns started all_started boot
run-unstuck = refl

-- ---- pipes that are full, empty or closed

-- a process with a pipe behind the descriptors 3 and 4, which holds these bytes, and of which these ends are open
abbrev holding : List ℕ → (read write : Bool) → Rest
holding held read write =
    record rest {
      files = record (piped rest.files 0 (record { read = 3; write = 4 }) false) {
        pipes = record { id = 1; bytes = held; read_open = read; write_open = write } ∷ [];
      };
    }

-- write(4, 512, n) of these bytes, and read(3, 512, n)
abbrev writes : Rest → List ℕ → Row
writes r bytes = row (ask r 64 (4 ∷ 512 ∷ length bytes ∷ 0 ∷ 0 ∷ 0 ∷ []) bytes)

abbrev reads : Rest → ℕ → Row
reads r n = row (ask r 63 (3 ∷ 512 ∷ n ∷ 0 ∷ 0 ∷ 0 ∷ []) [])

-- EPIPE without a reading end, but no bytes are written anyway
writes-closed : seen (writes (holding [] false true) (7 ∷ [])) ≡ Some (record { value = 0xffffffe0; got = [] })
unfolding row write_row view with_table piped pipe_view refusal find
writes-closed = refl

writes-nothing : seen (writes (holding [] false true) []) ≡ Some (record { value = 0; got = [] })
unfolding row write_row view with_table piped pipe_view find
writes-nothing = refl

-- where 65,000 bytes are held, there is room for 536
module _ (held bytes : List ℕ) (many : length held ≡ 65000) where
  waits-whole : length bytes ≡ 4096 → writes (holding held true true) bytes ≡ waits (OnPipe 1)
  unfolding row write_row view with_table piped pipe_view find
  waits-whole n = rw (many, n) refl

  writes-part : length bytes ≡ 5000 → seen (writes (holding held true true) bytes) ≡ Some (record { value = 536; got = [] })
  unfolding row write_row view with_table piped pipe_view find
  writes-part n = rw (many, n, length-take 536 bytes, n) refl

-- and where it is full, for none
waits-full : (held bytes : List ℕ) → length held ≡ 65536 → length bytes ≡ 5000 → writes (holding held true true) bytes ≡ waits (OnPipe 1)
unfolding row write_row view with_table piped pipe_view find
waits-full held bytes full n = rw (full, n) refl

-- where nothing is held
reads-closed : seen (reads (holding [] true false) 1) ≡ Some (record { value = 0; got = [] })
unfolding row read_row view with_table piped pipe_view pipe_bytes pipe_taken find
reads-closed = refl

reads-open : reads (holding [] true true) 1 ≡ waits (OnPipe 1)
unfolding row read_row view with_table piped pipe_view find
reads-open = refl

reads-nothing : seen (reads (holding [] true true) 0) ≡ Some (record { value = 0; got = [] })
unfolding row read_row view with_table piped pipe_view pipe_bytes pipe_taken find
reads-nothing = refl

-- what is held is read from the front, and goes
reads-front : seen (reads (holding (7 ∷ 8 ∷ 9 ∷ []) true true) 2) ≡ Some (record { value = 2; got = record { addr = 512; bytes = 7 ∷ 8 ∷ [] } ∷ [] })
unfolding row read_row view with_table piped pipe_view pipe_bytes pipe_taken find
reads-front = refl

reads-goes : (rest_after (reads (holding (7 ∷ 8 ∷ 9 ∷ []) true true) 2)).files ≡ record (holding (9 ∷ []) true true).files { changed = 1 ∷ [] }
unfolding row read_row view with_table piped pipe_view pipe_bytes pipe_taken find change
reads-goes = refl
