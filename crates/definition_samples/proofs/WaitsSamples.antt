-- A process that waits on a pipe: an empty one, for which it would wait again, and one with a byte.
use Rattle.std.proofs.Common.{◌≡◌, ℕ, ◌+◌, ◌-◌, ◌^◌, Bool, true, false, List, [], ◌∷◌, ◌++◌, Some, None, refl, ap, sym, subst, ◌∙◌, arith}
use Rattle.std.specs.Prelude.{◌==◌, if◌then◌else◌, replicate, slice_get, IsSome}
use Rattle.std.proofs.lemmas.Bool.Decides.{nat_tests}
use Rattle.std.proofs.lemmas.Option.{same_Some}
use Rattle.byte_words.specs.Numbers.{number_at, byte_at}
use Rattle.rv32im_table.specs.Field.{opcode, funct3, funct7, rd, rs1, rs2}
use Rattle.rv32im_table.specs.Immediate.{imm_i}
use Rattle.rv32im_table.specs.Table.{decoded}
use Rattle.rv32im_step.specs.Memory.{loaded}
use Rattle.rv32im_step.specs.Meaning.{effect, meaning}
use Rattle.rv32im_step.specs.Registers.{register, with_register}
use Rattle.page_runs.specs.declared.place.Kind.TheVariants.{First}
use Rattle.call_log.specs.Notes.{has_room}
use Rattle.call_log.specs.Sent.{sent}
use Rattle.mmap_rules.specs.Space.{writable_in, may_use}
use Rattle.mmap_rules.specs.Held.{block_mapping}
use Rattle.fd_tables.specs.Files.{OpenFiles, nothing_open, table_at, view}
use Rattle.fd_tables.specs.Pipes.{pipe_view, pipe_bytes, pipe_taken}
use Rattle.fd_tables.specs.Changes.{with_table, piped}
use Rattle.flat_loader.specs.Alone.{is_errno}
use Rattle.vfork_exec.specs.declared.family.State.{State}
use Rattle.vfork_exec.specs.declared.family.State.TheVariants.{Ready, OnPipe, Lent}
use Rattle.vfork_exec.specs.Keyed.{find, change}
use Rattle.machine_world.specs.World.{Process, LiveSpace, World, pid_of}
use Rattle.machine_world.specs.Recordings.{nothing_recorded}
use Rattle.machine_world.specs.Families.{sharing, all_roused, IsChain, AreChains}
use Rattle.machine_world.specs.Transfers.{read_row}
use Rattle.machine_world.specs.Rows.{row}
use Rattle.machine_world.specs.Event.{Outcome, went, strays, full, idle, waited, served, answer, settled, at_process, event}
use Rattle.waits_laws.specs.Waits.{WaitsAgain, IfWaits, WaitsWell}

-- ---- a process at read(3, 0x80000050, 1), whose descriptors 3 and 4 are the ends of a pipe that holds these bytes

-- ecall stands behind the header
abbrev space : LiveSpace
space = record {
  id = 0;
  space = record {
    maps = block_mapping 0 1 ∷ [];
    brk = 2 ^ 31 + 68;
    brk_low = 2 ^ 31 + 68;
    brk_high = 2 ^ 31 + 4096;
    bytes = λ a. slice_get (replicate 64 0 ++ 0x73 ∷ replicate 31 0) (a - 2 ^ 31);
  };
}

abbrev process : State → Process
process state = record {
  pid = 1;
  parent = 0;
  regs = record { pc = 2 ^ 31 + 64; x = replicate 10 0 ++ 3 ∷ 0x8000_0050 ∷ 1 ∷ replicate 4 0 ++ 63 ∷ replicate 14 0 };
  space = 0;
  table = 0;
  state = state;
}

abbrev holding : List ℕ → OpenFiles
holding held = record (piped (with_table (nothing_open [])) 0 (record { read = 3; write = 4 }) false) {
  pipes = record { id = 1; bytes = held; read_open = true; write_open = true } ∷ [];
}

abbrev world : List ℕ → (events : ℕ) → State → World
world held events state = record {
  procs = process state ∷ [];
  ended = [];
  spaces = space ∷ [];
  loads = 1;
  next_pid = 2;
  rest = record { pages = 4; kind = First; programs = []; tree = []; files = holding held; console = []; keep = 0 };
  notes = [];
  events = events;
  recording = nothing_recorded 0;
}

-- the read comes to a wait on the pipe
comes-to_wait : event (world [] 7 Ready) 1 ≡ went (world [] 8 (OnPipe 1)) (record { space = 0; events = 0; items = []; begins = None; over = true })
unfolding number_at byte_at decoded opcode funct3 funct7 rd rs1 rs2 imm_i loaded effect meaning register with_register sent writable_in view pipe_view with_table piped find change all_roused read_row row waited answer settled at_process event
comes-to_wait = refl

-- ---- behind it the process would wait again

abbrev stuck : World
stuck = world [] 8 (OnPipe 1)

again : WaitsAgain stuck (process (OnPipe 1))
unfolding number_at byte_at decoded opcode funct3 funct7 rd rs1 rs2 imm_i loaded effect meaning register with_register sent writable_in view pipe_view with_table piped find read_row row answer
again = record { space = space; has = refl; at_call = refl; again = refl }

-- the one process that is found
found : (state : State) (pid : ℕ) (p : Process) → find pid_of pid (process state ∷ []) ≡ Some p → (process state ≡ p) × (1 ≡ pid)
unfolding find
found state pid p is = by (1 == pid) refl is
  where
    by : (b : Bool) → (1 == pid) ≡ b → (if b then Some (process state) else None) ≡ Some p → (process state ≡ p) × (1 ≡ pid)
    by true it same = (same_Some (process state) p same, grind (arith, nat_tests, it))
    by false it same = absurd cc

chains : AreChains stuck.procs
unfolding sharing
chains i = by (0 == i)
  where
    by : (b : Bool) → IsChain (if b then process (OnPipe 1) ∷ [] else [])
    by true = (refl, tt)
    by false = tt

has-table : IsSome (table_at stuck.rest.files 0)
unfolding with_table piped
has-table = refl

on-pipe : (child : ℕ) → OnPipe 1 ≡ Lent child → ⊥
on-pipe child is = cc

waits-well : WaitsWell stuck
waits-well = record {
  has_table = λ pid p is. subst (λ (q : Process). IsSome (table_at stuck.rest.files q.table)) (found (OnPipe 1) pid p is).0 has-table;
  own_table = λ i j p q first second same. sym (found (OnPipe 1) i p first).1 ∙ (found (OnPipe 1) j q second).1;
  chains = chains;
  lenders = λ pid child p is lent. absurd (on-pipe child (ap (λ (q : Process). q.state) (found (OnPipe 1) pid p is).0 ∙ lent));
  waits = λ pid p is. subst (λ (q : Process). IfWaits q.state (WaitsAgain stuck q)) (found (OnPipe 1) pid p is).0 again;
}

-- ---- where the pipe has a byte, it would get that

abbrev filled : World
filled = world (7 ∷ []) 8 (OnPipe 1)

-- how many events an outcome is in its space
abbrev events_of : Outcome → ℕ
events_of (went w t) = t.events
events_of (strays access) = 0
events_of full = 0
events_of idle = 0

answers : events_of (answer filled (process (OnPipe 1)) space.space) ≡ 1
unfolding register with_register sent writable_in may_use is_errno has_room view pipe_view pipe_bytes pipe_taken with_table piped find change read_row row served answer
answers = refl

waits : events_of (waited filled (process (OnPipe 1)) (OnPipe 1)) ≡ 0
unfolding waited
waits = refl

refuted-again : WaitsAgain filled (process (OnPipe 1)) → ⊥
unfolding find
refuted-again w = by w.space (same_Some space w.space w.has) w.again
  where
    by : (s : LiveSpace) → space ≡ s → answer filled (process (OnPipe 1)) s.space ≡ waited filled (process (OnPipe 1)) (OnPipe 1) → ⊥
    by s same is =
        let there : answer filled (process (OnPipe 1)) space.space ≡ waited filled (process (OnPipe 1)) (OnPipe 1) = ap (λ (t : LiveSpace). answer filled (process (OnPipe 1)) t.space) same ∙ is in
        let one : 1 ≡ 0 = sym answers ∙ ap (λ (o : Outcome). events_of o) there ∙ waits in
        omega (arith, one)

refuted-well : WaitsWell filled → ⊥
unfolding find
refuted-well w = refuted-again (w.waits 1 (process (OnPipe 1)) refl)
