-- Stays of a program that makes a vfork child: both run in its space, the child first.
use Rattle.std.proofs.Common.{◌≡◌, ℕ, zero, suc, ◌≤◌, List, [], ◌∷◌, ◌++◌, map, Option, Some, None, refl, ap, sym, subst, arith}
use Rattle.std.specs.Prelude.{replicate, flat_map, slice_index, slice_get, codes}
use Rattle.std.proofs.lemmas.Bool.Decides.{nat_tests}
use Rattle.std.proofs.lemmas.Option.{same_Some}
use Rattle.byteorder.specs.Endian.{little_bytes}
use Rattle.byte_words.specs.Numbers.{number_at, byte_at}
use Rattle.byte_words.specs.Patches.{from_base}
use Rattle.rv32im_table.specs.Field.{opcode, funct3, funct7, rd, rs1, rs2}
use Rattle.rv32im_table.specs.Immediate.{imm_i, imm_u}
use Rattle.rv32im_table.specs.Table.{decoded}
use Rattle.rv32im_step.specs.declared.regs.Regs.{Regs}
use Rattle.rv32im_step.specs.Memory.{loaded}
use Rattle.rv32im_step.specs.Meaning.{effect, meaning}
use Rattle.rv32im_step.specs.Registers.{register, with_register}
use Rattle.call_log.specs.Notes.{CallEntry, call_note, has_room}
use Rattle.call_log.specs.Sent.{sent}
use Rattle.mmap_rules.specs.Space.{writable_in}
use Rattle.fd_tables.specs.Files.{OpenFiles, nothing_open}
use Rattle.fd_tables.specs.Changes.{first_table, closed, with_copy, without_table, all_descriptors}
use Rattle.flat_loader.specs.Original.{Original, block_pages}
use Rattle.flat_loader.specs.Frame.{frame_len, frame, frame_start}
use Rattle.flat_loader.specs.Begin.{Loading, begin_space, begin_regs}
use Rattle.flat_loader.specs.Alone.{Runner, Item, Solo, memory_of, own_of, writable_of, is_errno, is_call, solo_step, solo_run, alone}
use Rattle.quantum_sched.specs.declared.Quantum.{Quantum}
use Rattle.quantum_sched.specs.Picked.{picked}
use Rattle.vfork_exec.specs.declared.family.State.{State}
use Rattle.vfork_exec.specs.declared.family.State.TheVariants.{Ready, Lent}
use Rattle.vfork_exec.specs.Keyed.{find, change, without}
use Rattle.vfork_exec.specs.Families.{resumed, state_behind, ended_behind}
use Rattle.machine_world.specs.World.{Rest, Process, LiveSpace, World}
use Rattle.machine_world.specs.Recordings.{nothing_recorded}
use Rattle.machine_world.specs.Families.{is_full, borrows, spaces_left, all_left_by, all_roused, ready_pids}
use Rattle.machine_world.specs.Event.{ended, stepped, exited, forked, cloned, answer, settled, at_process, event}
use Rattle.machine_world.specs.Turns.{turn, turns}
use Rattle.alone_laws.specs.Stays.{Stay, change_at, collect_all, stays_along, runners, kept_calls_of, loads_of, belonging, alone_end, Agrees, AllAgree, AreRight}
use Rattle.definition_samples.proofs.Exits.{rest_with, load}

-- six words at number 64: a0 becomes 0x4111 and a7 220, a call, a7 becomes 93, a call
abbrev vforks : Original
vforks = record {
  image = λ b. from_base b 88 (slice_index (replicate 64 0 ++ flat_map (little_bytes 4) (0x00004537 ∷ 0x11150513 ∷ 0x0dc00893 ∷ 0x73 ∷ 0x05d00893 ∷ 0x73 ∷ [])));
  size = 88;
  entry = 128;
  stack = 4096;
}

-- the program that stands as /x
abbrev vforking : OpenFiles → Rest
vforking files = record (rest_with files) { programs = record { path = codes "/x"; original = vforks } ∷ [] }

abbrev loading : Loading
loading = record { original = vforks; block = 0x8000_0000; args = codes "/x" ∷ []; env = [] }

abbrev pub regs : (pc a0 a7 : ℕ) → Regs
regs pc a0 a7 = record { pc = pc; x = 0 ∷ 0 ∷ 0x8000_1fe0 ∷ replicate 7 0 ++ a0 ∷ replicate 6 0 ++ a7 ∷ replicate 14 0 }

abbrev pub process : (pid parent table : ℕ) → Regs → State → Process
process pid parent table rs state = record { pid = pid; parent = parent; regs = rs; space = 0; table = table; state = state }

abbrev space : LiveSpace
space = record { id = 0; space = begin_space loading }

abbrev first : World
first = record {
  procs = process 1 0 0 (regs 0x8000_0080 0 0) Ready ∷ [];
  ended = [];
  spaces = space ∷ [];
  loads = 1;
  next_pid = 2;
  rest = vforking (record (nothing_open []) { tables = Some first_table ∷ [] });
  notes = load ∷ [];
  events = 0;
  recording = nothing_recorded 0;
}

-- the two calls of process 1, and that of its child
abbrev entry : (pid call a0 reply : ℕ) → CallEntry
entry pid call a0 reply = record { pid = pid; call = call; args = a0 ∷ replicate 5 0; sent = []; reply = reply; got = [] }

abbrev item : CallEntry → Item
item e = record { entry = e; brought = [] }

-- ---- behind the vfork the parent stands still, and the child is the newest

abbrev pub lent : World
lent = record first {
  procs = process 2 1 1 (regs 0x8000_0090 0 220) Ready ∷ process 1 0 0 (regs 0x8000_0090 2 220) (Lent 2) ∷ [];
  next_pid = 3;
  rest = vforking (record (nothing_open []) { tables = Some first_table ∷ Some first_table ∷ [] });
  notes = call_note (entry 1 220 0x4111 2) ∷ load ∷ [];
  events = 4;
}

abbrev turns_of : ℕ → List Quantum
turns_of n = replicate n (record { pick = 0; count = 9 })

comes-to_lent : (turns (turns_of 1) first).world ≡ lent
unfolding number_at byte_at from_base decoded opcode funct3 funct7 rd rs1 rs2 imm_i imm_u loaded effect meaning register with_register sent writable_in has_room block_pages frame_len frame frame_start begin_space find change with_copy is_full all_roused stepped forked cloned answer settled at_process event turn ready_pids picked turns
comes-to_lent = refl

abbrev stay : (items : List Item) → (events : ℕ) → Stay
stay items events = record { loading = loading; pid = 1; items = items; events = events }

-- the child's exit, and then the parent's, each in its own turn, are told in the one stay
abbrev all_items : List Item
all_items = item (entry 1 220 0x4111 2) ∷ item (entry 2 93 0 0) ∷ item (entry 1 93 2 0) ∷ []

stays-all : stays_along (stay [] 0 ∷ []) first (turns_of 3) ≡ stay all_items 8 ∷ []
unfolding number_at byte_at from_base decoded opcode funct3 funct7 rd rs1 rs2 imm_i imm_u loaded effect meaning register with_register sent writable_in has_room block_pages frame_len frame frame_start begin_space find change without resumed state_behind ended_behind with_copy closed without_table all_descriptors is_full borrows spaces_left all_left_by all_roused ended stepped exited forked cloned answer settled at_process event turn ready_pids picked turns change_at collect_all
stays-all = refl

-- ---- alone

abbrev stands : List Runner → Option Solo
stands stack = Some (record { stack = stack; memory = memory_of (begin_space loading) })

alone-lent :
    alone_end (stay (item (entry 1 220 0x4111 2) ∷ []) 4)
    ≡ stands (record { pid = 2; regs = regs 0x8000_0090 0 220 } ∷ record { pid = 1; regs = regs 0x8000_0090 2 220 } ∷ [])
unfolding number_at byte_at from_base decoded opcode funct3 funct7 rd rs1 rs2 imm_i imm_u loaded effect meaning register with_register sent block_pages frame_len frame frame_start begin_space begin_regs own_of writable_of is_errno is_call solo_step solo_run alone
alone-lent = refl

alone-all : alone_end (stay all_items 8) ≡ stands []
unfolding number_at byte_at from_base decoded opcode funct3 funct7 rd rs1 rs2 imm_i imm_u loaded effect meaning register with_register sent block_pages frame_len frame frame_start begin_space begin_regs own_of writable_of is_errno is_call solo_step solo_run alone
alone-all = refl

-- the parent can't exit before its child
refuted-order : alone_end (stay (item (entry 1 220 0x4111 2) ∷ item (entry 1 93 2 0) ∷ item (entry 2 93 0 0) ∷ []) 8) ≡ None
unfolding number_at byte_at from_base decoded opcode funct3 funct7 rd rs1 rs2 imm_i imm_u loaded effect meaning register with_register sent block_pages frame_len frame frame_start begin_space begin_regs own_of writable_of is_errno is_call solo_step solo_run alone
refuted-order = refl

-- ---- right for the world: both processes of the space stand there as they do alone

abbrev now : Stay
now = stay (item (entry 1 220 0x4111 2) ∷ []) 4

agree : AllAgree (now ∷ []) lent
unfolding find runners
agree zero y is = subst (λ (z : Stay). Agrees 0 lent.procs z (Some space)) (same_Some now y is) alone-lent
agree (suc i) y is = absurd cc

entries : (i : ℕ) (y : Stay) → slice_get (now ∷ []) i ≡ Some y → map (λ (x : Item). x.entry) y.items ≡ belonging i (0 ∷ []) (kept_calls_of lent.notes)
unfolding kept_calls_of belonging
entries zero y is = ap (λ (z : Stay). map (λ (x : Item). x.entry) z.items) (sym (same_Some now y is))
entries (suc i) y is = absurd cc

no_others : (i : ℕ) → 1 ≤ i → belonging i (0 ∷ []) (kept_calls_of lent.notes) ≡ []
unfolding kept_calls_of belonging
no_others zero behind = absurd (omega (arith, behind))
no_others (suc i) behind = grind (arith, nat_tests)

right : AreRight (now ∷ []) lent
unfolding kept_calls_of loads_of
right = record { count = refl; loads = refl; agree = agree; told = record { places = 0 ∷ []; each = refl; entries = entries; no_others = no_others } }
