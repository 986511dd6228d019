-- Calls of a run that goes on, live copies that hold their file or don't, and what ties the parts of a run, computed from the definitions.
use Rattle.std.proofs.Common.{◌≡◌, ◌≤◌, ℕ, zero, suc, Bool, true, false, List, [], ◌∷◌, ◌++◌, get_or, map, Option, Some, None, refl, ap, subst, arith}
use Rattle.std.specs.Prelude.{Result, Ok, Err, codes, option_map, replicate}
use Rattle.std.proofs.lemmas.Option.{same_Some, none-some}
use Rattle.byte_words.specs.Patches.{from_base}
use Rattle.byte_words.specs.Numbers.{number_at, byte_at}
use Rattle.byte_words.specs.Pieces.{pieces}
use Rattle.rv32im_table.specs.Field.{opcode, funct3, funct7, rd, rs1, rs2}
use Rattle.rv32im_table.specs.Immediate.{imm_i, imm_s, imm_b, imm_u, imm_j}
use Rattle.rv32im_table.specs.Table.{decoded}
use Rattle.byte_words.specs.declared.access.Access.{Access}
use Rattle.rv32im_step.specs.Memory.{loaded, stored}
use Rattle.rv32im_step.specs.Meaning.{effect, meaning}
use Rattle.rv32im_step.specs.Registers.{register, with_register}
use Rattle.page_runs.specs.Free.{free_runs}
use Rattle.page_runs.specs.Place.{place}
use Rattle.byte_words.specs.declared.access.AccessKind.TheVariants as access
use Rattle.call_log.specs.Errno.{refusal}
use Rattle.call_log.specs.Notes.{Note, call_note, stray_note, has_room}
use Rattle.call_log.specs.Sent.{sent, read_span}
use Rattle.nommu_regions.specs.declared.region.Region.{Region}
use Rattle.nommu_regions.specs.declared.region.Source.TheVariants.{Own, Copy}
use Rattle.mmap_rules.specs.Space.{writable_in, own_in, may_use}
use Rattle.mmap_rules.specs.Mappings.{file_pages}
use Rattle.mmap_rules.specs.Copies.{bytes_of, HasSource}
use Rattle.region_watch.specs.Private.{only}
use Rattle.region_watch.specs.Strays.{call_of}
use Rattle.flat_loader.specs.Original.{block_pages}
use Rattle.flat_loader.specs.Frame.{frame_len, frame, frame_start, frame_fits}
use Rattle.flat_loader.specs.Begin.{begin_space, begin_regs}
use Rattle.quantum_sched.specs.Picked.{picked}
use Rattle.vfork_exec.specs.Keyed.{find, change, without}
use Rattle.vfork_exec.specs.Families.{ended_behind, resumed, state_behind}
use Rattle.mem_files.specs.Inodes.{Inode, root, file, folder, new_inode, bytes_in}
use Rattle.mem_files.specs.Paths.{names, is_too_long, walked, place_of}
use Rattle.fd_tables.specs.Files.{view, two_free, nothing_open}
use Rattle.fd_tables.specs.Changes.{piped, with_table, without_table, all_descriptors}
use Rattle.machine_world.specs.World.{World}
use Rattle.machine_world.specs.Families.{borrows, spaces_left, all_left_by, all_roused, ready_pids}
use Rattle.machine_world.specs.Free.{free_runs_in}
use Rattle.machine_world.specs.Rows.{row}
use Rattle.machine_world.specs.Descriptors.{pipe2_row}
use Rattle.machine_world.specs.Transfers.{write_row}
use Rattle.machine_world.specs.Event.{ended, stepped, trapped, served, exited, answer, settled, at_process as private_process, called, event, stray}
use Rattle.machine_world.specs.Boot.{BootFault, started, all_started, boot}
use Rattle.memory_world.specs.Physical.{Physical, After, after, no_room, nobody, laid_behind, waitid_in, answer_in, at_process_in, called_in, carried_out, event_in, turn_in, turns_in, first_memory, opening_in}
use Rattle.memory_world.proofs.Samples.{caller, still, rest_of, start, q, loaded_at, headers}
use Rattle.kept_parts.specs.Kept.{Kept, nothing_yet}
use Rattle.kept_parts.specs.Copies.{KnowsFile, HoldsFiles, StillHolds}
use Rattle.syscall_layer.specs.Parts.{AreTied}
use Rattle.kept_parts.specs.InMemory.{first_range, called_on}
use Rattle.kept_parts.proofs.Copies.BehindStrays.{unstrayed_holds}

-- what a call's first range is, whether its turn is over, what it notes, and what it leaves at some addresses of memory
pub record Saw : Type 0 where
  pub range : Option Access
  pub over : Option Bool
  pub notes : List Note
  pub bytes : List (Option ℕ)

abbrev saw : List ℕ → Option Access → After → Saw
saw at range (after p over) = record { range = range; over = Some over; notes = p.world.notes; bytes = map p.memory at }
saw at range (no_room p) = record { range = range; over = None; notes = p.world.notes; bytes = [] }
saw at range nobody = record { range = range; over = None; notes = []; bytes = [] }

-- the call behind so many events of the program that makes a pipe beside its block and writes from there
abbrev behind_events : ℕ → Result World BootFault → Option Physical
behind_events n (Ok w) = Some (turns_in (q 0 n ∷ []) (opening_in headers w)).now
behind_events n (Err fault) = None

abbrev seen_behind : ℕ → Option Saw
seen_behind n =
    option_map (λ (p : Physical). saw (0x8000_2040 ∷ 0x8000_2044 ∷ []) (first_range p 1) (called_on p 1))
    (behind_events n (boot (rest_of 4 (caller ∷ still ∷ [])) (start 3 (codes "/st") ∷ start 4 (codes "/a") ∷ [])))

abbrev stray_range : Note
stray_range = stray_note 1 (record { pc = 0x8000_008c; addr = 0x8000_2040; len = 8; kind = access.Call })

abbrev makes_pipe : Note
makes_pipe = call_note (record { pid = 1; call = 59; args = 0x8000_2040 ∷ 0 ∷ 0 ∷ 0 ∷ 0 ∷ 0 ∷ []; sent = []; reply = 0; got = record { addr = 0x8000_2040; bytes = 3 ∷ 0 ∷ 0 ∷ 0 ∷ 4 ∷ 0 ∷ 0 ∷ 0 ∷ [] } ∷ [] })

abbrev writes_it : Note
writes_it = call_note (record { pid = 1; call = 64; args = 1 ∷ 0x8000_2040 ∷ 4 ∷ 0 ∷ 0 ∷ 0 ∷ []; sent = 3 ∷ 0 ∷ 0 ∷ 0 ∷ []; reply = 4; got = [] })

-- the run's first range that strays is noted before the call's own note, and the call writes it
called-first_range :
    seen_behind 3
    ≡ Some (record {
      range = Some (call_of 0x8000_008c 0x8000_2040 8);
      over = Some false;
      notes = makes_pipe ∷ stray_range ∷ loaded_at 2 1 0x8000_2000 ∷ loaded_at 1 0 0x8000_0000 ∷ [];
      bytes = Some 3 ∷ Some 4 ∷ [];
    })
unfolding number_at byte_at from_base decoded opcode funct3 funct7 rd rs1 rs2 imm_i imm_s imm_b imm_u imm_j loaded stored effect meaning register with_register free_runs place refusal has_room sent read_span writable_in own_in only may_use block_pages frame_len frame frame_start frame_fits begin_space begin_regs find change without ended_behind state_behind resumed spaces_left borrows all_left_by free_runs_in pipe2_row write_row row view two_free piped with_table without_table all_descriptors pieces names is_too_long walked place_of ended stepped trapped served exited answer private_process called event stray settled all_roused laid_behind waitid_in answer_in at_process_in called_in carried_out event_in turn_in ready_pids picked turns_in first_memory opening_in started all_started boot first_range called_on
called-first_range = refl

-- no later one is
called-next_range :
    seen_behind 8
    ≡ Some (record {
      range = None;
      over = Some false;
      notes = writes_it ∷ makes_pipe ∷ stray_range ∷ loaded_at 2 1 0x8000_2000 ∷ loaded_at 1 0 0x8000_0000 ∷ [];
      bytes = Some 3 ∷ Some 4 ∷ [];
    })
unfolding number_at byte_at from_base decoded opcode funct3 funct7 rd rs1 rs2 imm_i imm_s imm_b imm_u imm_j loaded stored effect meaning register with_register free_runs place refusal has_room sent read_span writable_in own_in only may_use block_pages frame_len frame frame_start frame_fits begin_space begin_regs find change without ended_behind state_behind resumed spaces_left borrows all_left_by free_runs_in pipe2_row write_row row view two_free piped with_table without_table all_descriptors pieces names is_too_long walked place_of ended stepped trapped served exited answer private_process called event stray settled all_roused laid_behind waitid_in answer_in at_process_in called_in carried_out event_in turn_in ready_pids picked turns_in first_memory opening_in started all_started boot first_range called_on
called-next_range = refl

-- ---- copies

-- a file of two bytes that was changed so often
abbrev changed : ℕ → Inode
changed times = record (new_inode (file (1 ∷ 2 ∷ [])) None) { change = times }

-- a copy of its first page, made before any change, in the second page of memory
abbrev copy : Region
copy = record { first = 1; pages = 1; source = Copy 2 0 0; uses = 1 }

-- the parts with the copy, which has these three bytes and zeros behind them
abbrev with_copy : List ℕ → ℕ → List Note → Kept
with_copy bytes times notes =
    record (nothing_yet 2 (None ∷ Some (new_inode (folder root (record { name = codes "f"; id = 2 } ∷ [])) None) ∷ Some (changed times) ∷ []) (nothing_open []) 0) {
      mem = replicate 4096 7 ++ bytes ++ replicate 4093 0;
      regions = record { first = 0; pages = 0; source = Own; uses = 0 } ∷ copy ∷ [];
      notes = notes;
    }

abbrev copied : List ℕ → List ℕ
copied bytes = bytes_of (with_copy bytes 0 []).mem copy

-- the parts hold their files where that copy does
holds_if : (bytes : List ℕ) (times : ℕ) (notes : List Note) → (0 ≡ times → copied bytes ≡ file_pages (1 ∷ 2 ∷ []) 0 1) → HoldsFiles (with_copy bytes times notes)
holds_if bytes times notes same zero r is live = absurd (omega (arith, live, ap (λ (q : Region). q.uses) (same_Some _ _ is)))
holds_if bytes times notes same (suc zero) r is live =
    subst (λ (q : Region). HasSource (with_copy bytes times notes).mem (with_copy bytes times notes).tree q q.source) (same_Some _ _ is) (λ n there.
    subst (λ (n : Inode). 0 ≡ n.change → copied bytes ≡ file_pages (bytes_in n.content) 0 1) (same_Some _ _ there) same)
holds_if bytes times notes same (suc (suc id)) r is live = absurd (none-some r is)

-- and only there
has_bytes : (bytes : List ℕ) (notes : List Note) → HoldsFiles (with_copy bytes 0 notes) → copied bytes ≡ file_pages (1 ∷ 2 ∷ []) 0 1
has_bytes bytes notes holds = holds 1 copy refl (omega arith) (changed 0) refl refl

-- the file's bytes, and zeros past its end
its_bytes : (notes : List Note) → HoldsFiles (with_copy (1 ∷ 2 ∷ 0 ∷ []) 0 notes)
unfolding file_pages
its_bytes notes = holds_if (1 ∷ 2 ∷ 0 ∷ []) 0 notes (λ unchanged. refl)

-- another byte
other_byte : (notes : List Note) → HoldsFiles (with_copy (1 ∷ 3 ∷ 0 ∷ []) 0 notes) → ⊥
unfolding file_pages
other_byte notes holds =
    let same : 3 ≡ 2 = ap (λ (bs : List ℕ). get_or bs 1 0) (has_bytes (1 ∷ 3 ∷ 0 ∷ []) notes holds) in
    absurd (omega (arith, same))

-- another one past the file's end
past_its_end : (notes : List Note) → HoldsFiles (with_copy (1 ∷ 2 ∷ 9 ∷ []) 0 notes) → ⊥
unfolding file_pages
past_its_end notes holds =
    let same : 9 ≡ 0 = ap (λ (bs : List ℕ). get_or bs 2 0) (has_bytes (1 ∷ 2 ∷ 9 ∷ []) notes holds) in
    absurd (omega (arith, same))

-- the file was changed since: whatever the bytes
changed_since : (bytes : List ℕ) (notes : List Note) → HoldsFiles (with_copy bytes 1 notes)
changed_since bytes notes = holds_if bytes 1 notes (λ unchanged. absurd (omega (arith, unchanged)))

-- of itself where no stray access was noted
of_itself : (bytes : List ℕ) (times : ℕ) → StillHolds (with_copy bytes times (makes_pipe ∷ []))
of_itself bytes times = unstrayed_holds (with_copy bytes times (makes_pipe ∷ [])) refl

-- by its bytes where one was
still_its_bytes : StillHolds (with_copy (1 ∷ 2 ∷ 0 ∷ []) 0 (makes_pipe ∷ stray_range ∷ []))
still_its_bytes strayed = its_bytes (makes_pipe ∷ stray_range ∷ [])

still_other_byte : StillHolds (with_copy (1 ∷ 3 ∷ 0 ∷ []) 0 (makes_pipe ∷ stray_range ∷ [])) → ⊥
still_other_byte holds = other_byte (makes_pipe ∷ stray_range ∷ []) (holds refl)

-- its file is known: the number was given, and the file wasn't changed less often than when it was copied
known : KnowsFile (with_copy [] 3 []).tree 2 3
known = record { given = omega arith; up = λ n there. subst (λ (n : Inode). 3 ≤ n.change) (same_Some _ _ there) (omega arith) }

-- a number that wasn't given, and a count that fell
unknown : KnowsFile (with_copy [] 3 []).tree 3 0 → ⊥
unknown knows = let given = knows.given in omega (arith, given)

fell : KnowsFile (with_copy [] 3 []).tree 2 4 → ⊥
fell knows = let up = knows.up (changed 3) refl in omega (arith, up)

-- ---- what ties the parts of a run

tied : AreTied false (with_copy [] 0 [])
tied = record { noted = refl; unmarked = refl }

tied_behind : AreTied true (with_copy [] 0 (stray_range ∷ []))
tied_behind = record { noted = refl; unmarked = refl }

unmarked_stray : AreTied false (with_copy [] 0 (stray_range ∷ [])) → ⊥
unmarked_stray ties = let noted : false ≡ true = ties.noted in cc
