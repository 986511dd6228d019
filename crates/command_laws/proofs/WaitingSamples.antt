-- What is said of a booted run, computed on a small manifest whose one program waits.
use Rattle.std.proofs.Common.{◌≡◌, ℕ, zero, suc, ◌≤◌, List, [], ◌∷◌, ◌++◌, map, Some, None, IsSome, refl, sym, ap, subst, ◌∙◌, arith, ne_eqb}
use Rattle.std.specs.Prelude.{false, true, replicate, slice_get}
use Rattle.byte_words.specs.Numbers.{number_at}
use Rattle.byte_words.specs.ByteMap.{with_bytes}
use Rattle.byte_words.specs.Patches.{from_base}
use Rattle.byte_words.specs.Search.{any_below}
use Rattle.byte_words.specs.Pieces.{pieces}
use Rattle.rv32im_table.specs.Field.{opcode, funct3, rd, rs1}
use Rattle.rv32im_table.specs.Immediate.{imm_i}
use Rattle.rv32im_table.specs.Table.{decoded}
use Rattle.rv32im_step.specs.Memory.{loaded}
use Rattle.rv32im_step.specs.Meaning.{effect, meaning}
use Rattle.rv32im_step.specs.Registers.{register, with_register}
use Rattle.page_runs.specs.declared.place.Kind.TheVariants.{First}
use Rattle.page_runs.specs.Free.{free_runs}
use Rattle.page_runs.specs.Place.{place}
use Rattle.bflt_format.specs.Header.{flat_values}
use Rattle.bflt_format.specs.Image.{flat_image}
use Rattle.bflt_format.specs.Fault.{header_fault, record_fault, is_out_of_bounds, is_entry, is_table_bad, flat_fault}
use Rattle.bflt_format.specs.Spelling.{spell}
use Rattle.call_log.specs.Notes.{call_note, has_room}
use Rattle.call_log.specs.Sent.{sent}
use Rattle.mmap_rules.specs.Space.{writable_in, may_use}
use Rattle.flat_loader.specs.Original.{block_pages}
use Rattle.flat_loader.specs.Frame.{frame_len, frame_start, frame_fits}
use Rattle.flat_loader.specs.Begin.{begin_space, begin_regs}
use Rattle.flat_loader.specs.Alone.{Item, is_call, is_errno, writable_of, alone, solo_run, solo_step}
use Rattle.quantum_sched.specs.Picked.{picked}
use Rattle.vfork_exec.specs.declared.family.State.TheVariants.{OnPipe, Lent}
use Rattle.vfork_exec.specs.Keyed.{find, change}
use Rattle.mem_files.specs.Paths.{names, is_too_long, walked, place_of}
use Rattle.mem_files.specs.Changes.{with_file}
use Rattle.fd_tables.specs.Files.{view, two_free, nothing_open, table_at}
use Rattle.fd_tables.specs.Changes.{piped, with_table}
use Rattle.fd_tables.specs.Pipes.{pipe_view}
use Rattle.machine_world.specs.World.{Process, LiveSpace, pid_of}
use Rattle.machine_world.specs.Families.{all_roused, ready_pids, sharing, AreChains, IsChain}
use Rattle.machine_world.specs.Free.{free_runs_in}
use Rattle.machine_world.specs.Rows.{row}
use Rattle.machine_world.specs.Descriptors.{pipe2_row}
use Rattle.machine_world.specs.Transfers.{read_row}
use Rattle.machine_world.specs.Event.{stepped, served, waited, answer, settled, at_process, event}
use Rattle.machine_world.specs.Turns.{Walk, stuck, turn, turns}
use Rattle.machine_world.specs.Boot.{started, all_started, boot}
use Rattle.alone_laws.specs.Stays.{Stay, AreRight, AllAgree, Agrees, runners, kept_calls_of, loads_of, belonging, change_at, collect_all, first_stays}
use Rattle.waits_laws.specs.Waits.{WaitsAgain, WaitsWell, IfWaits}
use Rattle.waits_laws.specs.Laws.{WaitsOrLent}
use Rattle.run_setup.specs.Brought.{all_brought}
use Rattle.command_laws.specs.Booted.{Booted, booted_turns, booted_stays, DoesAsAlone, WaitsToTheEnd}
use Rattle.command_laws.proofs.BootedSamples.{flat, m, with_program, rest, loading, at_first, loaded_note, step, stay}

-- addi a0, sp, -16; li a7, 59; ecall; li a0, 3; li a2, 1; li a7, 63; ecall: pipe2, and a read of one byte from the pipe
abbrev reads : List ℕ
reads = 0xff010513 ∷ 0x03b00893 ∷ 0x73 ∷ 0x00300513 ∷ 0x00100613 ∷ 0x03f00893 ∷ 0x73 ∷ 0 ∷ []

abbrev reading : Booted 0 First m (flat reads ∷ [])
unfolding all_brought with_file place_of is_too_long names pieces walked flat_fault header_fault record_fault is_out_of_bounds is_entry is_table_bad any_below flat_values number_at spell started all_started boot block_pages frame_fits frame_len frame_start free_runs_in free_runs place
reading = record { brought = with_program reads; brings = refl; world = at_first reads; boots = refl }

-- ---- its turns, which are stuck

-- the numbers of the pipe's two ends stand 16 bytes below the frame
abbrev ends : List ℕ
ends = 3 ∷ 0 ∷ 0 ∷ 0 ∷ 4 ∷ 0 ∷ 0 ∷ 0 ∷ []

abbrev pipe_call : Item
pipe_call = record {
  entry = record { pid = 1; call = 59; args = 0x8000_1fd0 ∷ replicate 5 0; sent = []; reply = 0; got = record { addr = 0x8000_1fd0; bytes = ends } ∷ [] };
  brought = [];
}

abbrev reader : Process
reader = record {
  pid = 1;
  parent = 0;
  regs = record { pc = 0x8000_0058; x = 0 ∷ 0 ∷ 0x8000_1fe0 ∷ replicate 7 0 ++ 3 ∷ 0 ∷ 1 ∷ replicate 4 0 ++ 63 ∷ replicate 14 0 };
  space = 0;
  table = 0;
  state = OnPipe 1;
}

abbrev its_space : LiveSpace
its_space = record { id = 0; space = record (begin_space (loading reads)) { bytes = with_bytes (begin_space (loading reads)).bytes 0x8000_1fd0 ends } }

-- the read is an event, and none for those who follow the space
abbrev read_walk : Walk
read_walk = record {
  world = record (at_first reads) {
    procs = reader ∷ [];
    spaces = its_space ∷ [];
    rest = record (rest reads) { files = piped (with_table (nothing_open [])) 0 (record { read = 3; write = 4 }) false };
    notes = call_note pipe_call.entry ∷ loaded_note ∷ [];
    events = 7;
  };
  traces = step ∷ step ∷ record step { items = pipe_call ∷ [] } ∷ step ∷ step ∷ step ∷ record step { events = 0; over = true } ∷ [];
  end = Some stuck;
}

turns_are : booted_turns reading ≡ read_walk
unfolding reading from_base decoded opcode funct3 rd rs1 imm_i loaded effect meaning register with_register has_room sent writable_in may_use begin_space begin_regs find change view with_table stepped served answer at_process event settled all_roused turn ready_pids picked turns flat_image row pipe2_row read_row waited piped two_free pipe_view
turns_are = refl

-- ---- its stay, whose run alone leaves what the process and its space are

abbrev read_stay : Stay
read_stay = stay reads (pipe_call ∷ []) 6

stays_are : booted_stays reading ≡ read_stay ∷ []
unfolding reading collect_all change_at first_stays
stays_are = rw turns_are refl

agree : AllAgree (read_stay ∷ []) read_walk.world
unfolding from_base decoded opcode funct3 rd rs1 imm_i loaded effect meaning register with_register sent may_use block_pages frame_len frame_start begin_space begin_regs flat_image writable_of is_call is_errno alone solo_run solo_step runners find
agree zero y is = let e : read_stay ≡ y = cc in subst (λ y. Agrees 0 (reader ∷ []) y (Some its_space)) e refl
agree (suc i) y is = absurd cc

-- the one call that was kept is the stay's
entries : (i : ℕ) (y : Stay) → slice_get (read_stay ∷ []) i ≡ Some y → map (λ (x : Item). x.entry) y.items ≡ belonging i (0 ∷ []) (pipe_call.entry ∷ [])
unfolding belonging
entries zero y is = let e : read_stay ≡ y = cc in subst (λ (y : Stay). map (λ (x : Item). x.entry) y.items ≡ pipe_call.entry ∷ []) e refl
entries (suc i) y is = absurd cc

no_others : (i : ℕ) → 1 ≤ i → belonging i (0 ∷ []) (pipe_call.entry ∷ []) ≡ []
unfolding belonging
no_others i le = rw (ne_eqb 0 i (λ e. absurd (omega arith))) refl

right : AreRight (read_stay ∷ []) read_walk.world
unfolding loads_of kept_calls_of
right = record { count = refl; loads = refl; agree = agree; told = record { places = 0 ∷ []; each = refl; entries = entries; no_others = no_others } }

reading_does : DoesAsAlone reading
reading_does = rw stays_are (subst (λ (w : Walk). AreRight (read_stay ∷ []) w.world) (sym turns_are) right)

-- ---- it would wait again

the_one : (pid : ℕ) (p : Process) → find pid_of pid (reader ∷ []) ≡ Some p → (1 ≡ pid) × (reader ≡ p)
unfolding find
the_one zero p is = absurd cc
the_one (suc zero) p is = (refl, cc)
the_one (suc (suc n)) p is =
    let none : find pid_of (suc (suc n)) (reader ∷ []) ≡ None = rw (ne_eqb 1 (suc (suc n)) (λ e. absurd (omega (arith, e)))) refl in
    let never : None ≡ Some p = sym none ∙ is in
    absurd cc

again : WaitsAgain read_walk.world reader
unfolding from_base decoded opcode funct3 rd rs1 imm_i loaded effect meaning register sent writable_in block_pages frame_len frame_start begin_space flat_image find answer row read_row view piped with_table pipe_view
again = record { space = its_space; has = refl; at_call = refl; again = refl }

chains : AreChains (reader ∷ [])
unfolding sharing
chains zero = (refl, tt)
chains (suc i) = let none : sharing (suc i) (reader ∷ []) ≡ [] = rw (ne_eqb 0 (suc i) (λ e. absurd (omega (arith, e)))) refl in subst IsChain (sym none) tt

well : WaitsWell read_walk.world
unfolding piped with_table
well = record {
  has_table = λ pid p is. subst (λ (p : Process). IsSome (table_at read_walk.world.rest.files p.table)) (the_one pid p is).1 refl;
  own_table = λ i j p q is other same. sym (the_one i p is).0 ∙ (the_one j q other).0;
  chains = chains;
  lenders = λ pid child p is lent. absurd (let e : OnPipe 1 ≡ Lent child = ap (λ (p : Process). p.state) (the_one pid p is).1 ∙ lent in cc);
  waits = λ pid p is. subst (λ (p : Process). IfWaits p.state (WaitsAgain read_walk.world p)) (the_one pid p is).1 again;
}

-- what is said of a walk that is stuck
abbrev WaitsBehind : Walk → Type 0
WaitsBehind w = w.end ≡ Some stuck → (pid : ℕ) (p : Process) → find pid_of pid w.world.procs ≡ Some p → WaitsOrLent w.world p p.state

each : WaitsBehind read_walk
each is pid p lives = subst (λ (p : Process). WaitsOrLent read_walk.world p p.state) (the_one pid p lives).1 again

reading_waits : WaitsToTheEnd reading
reading_waits = record { waits = subst (λ (w : Walk). WaitsWell w.world) (sym turns_are) well; when_stuck = subst WaitsBehind (sym turns_are) each }
