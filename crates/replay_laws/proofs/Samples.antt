-- What a run records of a space, from the boot to its end, computed from the definitions; and that what is told by it is judged Yes.
use Rattle.std.proofs.Common.{◌≡◌, ℕ, ◌+◌, true, false, List, [], ◌∷◌, ◌++◌, map, length, Option, Some, None, Ok, refl, sym, ap, ◌∙◌}
use Rattle.std.specs.Prelude.{if◌then◌else◌, codes, unwrap_or}
use Rattle.byte_words.specs.ByteMap.{with_bytes}
use Rattle.byte_words.specs.Numbers.{number_at, byte_at}
use Rattle.byte_words.specs.Patches.{from_base}
use Rattle.byte_words.specs.Pieces.{pieces}
use Rattle.rv32im_table.specs.Field.{opcode, funct3, funct7, rd, rs1, rs2}
use Rattle.rv32im_table.specs.Immediate.{imm_i, imm_u}
use Rattle.rv32im_table.specs.Table.{decoded}
use Rattle.rv32im_step.specs.Memory.{loaded}
use Rattle.rv32im_step.specs.Meaning.{effect, meaning}
use Rattle.rv32im_step.specs.Registers.{register, with_register}
use Rattle.page_runs.specs.Free.{free_runs}
use Rattle.page_runs.specs.Place.{place}
use Rattle.bflt_format.specs.Image.{flat_image}
use Rattle.call_log.specs.Notes.{Note, has_room}
use Rattle.call_log.specs.Sent.{sent, read_span, bytes_from}
use Rattle.call_log.specs.Strings.{program_strings, strings_in}
use Rattle.mmap_rules.specs.Space.{writable_in}
use Rattle.mmap_rules.specs.Want.{wanted}
use Rattle.mmap_rules.specs.Mappings.{file_pages}
use Rattle.mmap_rules.proofs.FilePages.{length-file_pages}
use Rattle.mem_files.specs.Paths.{names, is_too_long, walked, place_of}
use Rattle.mem_files.specs.Changes.{held}
use Rattle.fd_tables.specs.Files.{nothing_open, view, lowest_free}
use Rattle.fd_tables.specs.Changes.{opened, closed, exec_closed, with_table, with_copy, without_table, all_descriptors}
use Rattle.flat_loader.specs.Original.{block_pages}
use Rattle.flat_loader.specs.Frame.{frame_len, frame, frame_start, frame_fits}
use Rattle.flat_loader.specs.Begin.{begin_space, begin_regs}
use Rattle.flat_loader.specs.Alone.{Item, own_of, writable_of, is_errno, is_call, may_lie, may_map, with_range, solo_step}
use Rattle.quantum_sched.specs.declared.Quantum.{Quantum}
use Rattle.quantum_sched.specs.Picked.{picked}
use Rattle.vfork_exec.specs.Keyed.{find, change, without}
use Rattle.vfork_exec.specs.Families.{resumed, state_behind, ended_behind}
use Rattle.machine_world.specs.World.{Launch, Recording, World}
use Rattle.machine_world.specs.Families.{is_full, borrows, spaces_left, all_left_by, all_roused, ready_pids}
use Rattle.machine_world.specs.Free.{free_runs_in}
use Rattle.machine_world.specs.Asks.{Ask, Reply}
use Rattle.machine_world.specs.PathCalls.{path_of, openat_row}
use Rattle.machine_world.specs.MapCalls.{with_mapping, mmap2_row}
use Rattle.machine_world.specs.Rows.{row}
use Rattle.machine_world.specs.Recordings.{nothing_recorded, is_recorded, raised_in, room_in}
use Rattle.machine_world.specs.Event.{Trace, Outcome, went, full, ask_of, maps_file, brought, served, stepped, exited, ended, forked, cloned, executed, exec, answer, settled, at_process, event}
use Rattle.machine_world.specs.Turns.{Walk, End, out_of_quanta, walked as walked_on, going_on, turned, turn, turns}
use Rattle.machine_world.specs.Boot.{started, all_started, boot}
use Rattle.items_text.specs.Items.{ItemsValue}
use Rattle.alone_laws.specs.Stays.{change_at, collect_all}
use Rattle.alone_laws.proofs.LaidBytes.{read_back}
use Rattle.recording_laws.specs.Homes.{loads_in, home, calls_at}
use Rattle.recording_laws.specs.Items.{with_lists}
use Rattle.recorded_items.specs.Recorded.{recorded}
use Rattle.replay_check.specs.declared.verdict.Verdict.TheVariants.{Yes}
use Rattle.replay_check.specs.Replays.{flat_file, placed_verdict, replayed}
use Rattle.replay_check.specs.Verdicts.{verdict, verdict_from}
use Rattle.replay_laws.proofs.RecordedRun.{forks_file, exits_file, rest, start, map_call, notes, page, mapping, at_boot, at_map, unmapped, mapped, item, calls, open_traces, other_traces, first_stay, first_items, second_items, second_stay, loading, launch, second_launch, first_recording}

-- ---- boot: the first program is loaded into the first space

boots :
    map (λ keep. boot (rest keep 0 (nothing_open [])) (start ∷ [])) (0 ∷ 1 ∷ 2 ∷ [])
    ≡ Ok (at_boot (nothing_recorded 0)) ∷ Ok (at_boot (first_recording 0 [])) ∷ Ok (at_boot (nothing_recorded 2)) ∷ []
unfolding pieces names is_too_long walked place_of free_runs place block_pages frame_len frame_start frame_fits begin_regs with_table free_runs_in started all_started boot
boots = refl

-- ---- up to the mapping

opens : turn 9 1 (at_boot (first_recording 0 [])) ≡ record { world = unmapped (first_recording 9 []); traces = open_traces; end = None }
unfolding number_at byte_at from_base flat_image decoded opcode funct3 funct7 rd rs1 rs2 imm_i imm_u loaded effect meaning register with_register sent read_span writable_in has_room block_pages frame_len frame frame_start begin_space begin_regs find change pieces names is_too_long walked place_of path_of openat_row row held lowest_free opened all_roused stepped served is_errno answer settled at_process event turn
opens = refl

-- ---- the mapping: its page is in the space that is left, and is told and recorded

abbrev asks : Recording → Ask
asks r = ask_of (unmapped r) at_map (begin_space loading) []

abbrev gets : Recording → Reply
gets r = record { value = 0x8000_2000; got = []; rest = (unmapped r).rest; space = with_mapping (begin_space loading) mapping page; over = false }

is_served : (r : Recording) → event (unmapped r) 1 ≡ settled (served (unmapped r) (asks r) (gets r) (gets r).space.bytes)
unfolding number_at byte_at from_base flat_image decoded opcode funct3 funct7 rd rs1 rs2 imm_i imm_u loaded effect meaning register with_register sent writable_in block_pages frame_len frame frame_start begin_space find view wanted free_runs place free_runs_in mmap2_row row answer at_process event
is_served r = refl

-- as these bytes are brought
abbrev brings : Recording → List ℕ → Outcome
brings r bytes =
    if room_in (unmapped r) (if is_recorded r 0 then length bytes + 0 else 0) then
    went (mapped (record r { events = raised_in r 0 1; brought = r.brought ++ (if is_recorded r 0 then (if maps_file map_call then bytes ∷ [] else []) else []) })) (calls 0 (item map_call bytes))
    else full

serves : (r : Recording) → served (unmapped r) (asks r) (gets r) (gets r).space.bytes ≡ brings r (brought map_call (gets r).space.bytes)
unfolding served register with_register find change
serves r = refl

reads_page : (r : Recording) → brought map_call (gets r).space.bytes ≡ page
unfolding is_errno
reads_page r =
    ap (λ (len : ℕ). unwrap_or (bytes_from (with_bytes (begin_space loading).bytes 0x8000_2000 page) 0x8000_2000 len) []) (sym (length-file_pages (codes "abc") 0 1))
    ∙ ap (λ (o : Option (List ℕ)). unwrap_or o []) (read_back (begin_space loading).bytes 0x8000_2000 page)

mapping_is : (r : Recording) → event (unmapped r) 1 ≡ settled (brings r page)
mapping_is r = is_served r ∙ ap settled (serves r ∙ ap (brings r) (reads_page r))

-- of the space that is recorded, and of another one
maps_first : settled (brings (first_recording 9 []) page) ≡ went (mapped (first_recording 10 (page ∷ []))) (calls 0 (item map_call page))
unfolding settled has_room all_roused is_errno file_pages
maps_first = refl

maps_other : settled (brings (nothing_recorded 2) page) ≡ went (mapped (nothing_recorded 2)) (calls 0 (item map_call page))
unfolding settled has_room all_roused is_errno file_pages
maps_other = refl

maps : turn 1 1 (unmapped (first_recording 9 [])) ≡ record { world = mapped (first_recording 10 (page ∷ [])); traces = calls 0 (item map_call page) ∷ []; end = None }
unfolding turn
maps = ap (turned (turn 0 1) (unmapped (first_recording 9 [])) 1) (mapping_is (first_recording 9 []) ∙ maps_first)

-- ---- the vfork, and the child in its own space

abbrev turns_of : ℕ → Quantum
turns_of count = record { pick = 0; count = count }

-- what a run records, its notes, its traces and its end
record Seen : Type 0 where
  recording : Recording
  notes : List Note
  traces : List Trace
  end : Option End

abbrev seen : Walk → Seen
seen walk = record { recording = walk.world.recording; notes = walk.world.notes; traces = walk.traces; end = walk.end }

abbrev others : Recording → Walk
others r = turns (turns_of 9 ∷ turns_of 9 ∷ []) (mapped r)

others_of_first :
    seen (others (first_recording 10 (page ∷ [])))
    ≡ record { recording = first_recording 19 (page ∷ []); notes = notes; traces = other_traces; end = Some out_of_quanta }
unfolding number_at byte_at from_base flat_image decoded opcode funct3 funct7 rd rs1 rs2 imm_i imm_u loaded effect meaning register with_register sent read_span writable_in has_room program_strings strings_in block_pages frame_len frame frame_start frame_fits begin_space begin_regs find change without resumed state_behind ended_behind pieces names is_too_long walked place_of path_of free_runs place free_runs_in closed exec_closed with_copy without_table all_descriptors is_full borrows spaces_left all_left_by all_roused ended stepped exited forked cloned executed exec answer settled at_process event turn ready_pids picked turns file_pages
others_of_first = refl

others_of_second :
    (others (nothing_recorded 2)).world.recording ≡ record { keep = 2; launch = Some second_launch; events = 2; brought = [] }
unfolding number_at byte_at from_base flat_image decoded opcode funct3 funct7 rd rs1 rs2 imm_i imm_u loaded effect meaning register with_register sent read_span writable_in has_room program_strings strings_in block_pages frame_len frame frame_start frame_fits begin_space begin_regs find change without resumed state_behind ended_behind pieces names is_too_long walked place_of path_of free_runs place free_runs_in closed exec_closed with_copy without_table all_descriptors is_full borrows spaces_left all_left_by all_roused ended stepped exited forked cloned executed exec answer settled at_process event turn ready_pids picked turns file_pages
others_of_second = refl

-- ---- the run as a whole, and its stays

abbrev quanta : List Quantum
quanta = turns_of 9 ∷ turns_of 1 ∷ turns_of 9 ∷ turns_of 9 ∷ []

whole : turns quanta (at_boot (first_recording 0 [])) ≡ walked_on open_traces (walked_on (calls 0 (item map_call page) ∷ []) (others (first_recording 10 (page ∷ []))))
unfolding turns picked ready_pids
whole =
    ap (going_on (turns (turns_of 1 ∷ turns_of 9 ∷ turns_of 9 ∷ []))) opens
    ∙ ap (walked_on open_traces) (ap (going_on (turns (turns_of 9 ∷ turns_of 9 ∷ []))) maps)

whole_seen :
    seen (turns quanta (at_boot (first_recording 0 [])))
    ≡ record { recording = first_recording 19 (page ∷ []); notes = notes; traces = open_traces ++ (calls 0 (item map_call page) ∷ other_traces); end = Some out_of_quanta }
whole_seen = ap seen whole ∙ ap (λ (s : Seen). record s { traces = open_traces ++ (calls 0 (item map_call page) ∷ s.traces) }) others_of_first

stays_are : collect_all (first_stay [] 0 ∷ []) (open_traces ++ (calls 0 (item map_call page) ∷ other_traces)) ≡ first_stay first_items 19 ∷ second_stay ∷ []
unfolding change_at collect_all
stays_are = refl

-- ---- the items of both spaces are those of their stays, and judged Yes; without a space there are none

abbrev items_of : Launch → (events : ℕ) → List Item → ItemsValue
items_of l events items = record {
  stack = l.stack;
  base = l.base;
  pid = l.pid;
  events = events;
  args = l.args;
  env = l.env;
  list = map (λ (i : Item). record { entry = i.entry; brought = i.brought }) items;
}

abbrev recorded_are : List (Option ItemsValue)
recorded_are =
    recorded (first_recording 19 (page ∷ [])) notes
    ∷ recorded (record { keep = 2; launch = Some second_launch; events = 2; brought = [] }) notes
    ∷ recorded (nothing_recorded 0) notes
    ∷ []

tells : recorded_are ≡ Some (items_of launch 19 first_items) ∷ Some (items_of second_launch 2 second_items) ∷ None ∷ []
unfolding loads_in home calls_at with_lists is_errno
tells = refl

judged : replayed (flat_file forks_file) (items_of launch 19 first_items) ∷ replayed (flat_file exits_file) (items_of second_launch 2 second_items) ∷ [] ≡ Ok Yes ∷ Ok Yes ∷ []
unfolding number_at byte_at from_base flat_image decoded opcode funct3 funct7 rd rs1 rs2 imm_i imm_u loaded effect meaning register with_register sent read_span block_pages frame_len frame frame_start frame_fits begin_space begin_regs own_of writable_of is_errno is_call may_lie may_map with_range solo_step verdict verdict_from placed_verdict replayed file_pages
judged = refl

-- ---- room: what was brought counts, in the space that is recorded alone

abbrev last : Recording → World
last r = record (mapped r) { notes = notes }

rooms :
    map (λ weight. room_in (last (first_recording 19 (page ∷ []))) weight) (67104762 ∷ 67104763 ∷ [])
    ++ map (λ weight. room_in (last (nothing_recorded 2)) weight) (67108858 ∷ 67108859 ∷ [])
    ≡ true ∷ false ∷ true ∷ false ∷ []
unfolding has_room file_pages
rooms = refl
