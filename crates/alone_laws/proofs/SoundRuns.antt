-- The opening world is sound, and each event, turn and run of a sound world leaves a sound one.
pub use Rattle.alone_laws.proofs.SoundBegins.{boots_are_sound}
use Rattle.std.proofs.Common.{◌≡◌, ℕ, zero, suc, ◌+◌, ◌<◌, ◌≤◌, Bool, true, false, not, inl, inr, List, [], ◌∷◌, ◌++◌, map, sum, Option, Some, None, Result, Ok, Err, refl, sym, ap, subst, arith}
use Rattle.std.specs.Prelude.{◌==◌, nat_le, slice_get, option_map, if◌then◌else◌}
use Rattle.std.proofs.lemmas.Bool.{cases_Bool, eqb-true, and_parts, leb-true}
use Rattle.std.proofs.lemmas.Option.{same_Some}
use Rattle.std.proofs.lemmas.List.Sums.{sum_by-cons}
use Rattle.byte_words.specs.ByteMap.{Bytes}
use Rattle.rv32im_step.specs.Meaning.{Meaning, next, call, trap, refused, meaning}
use Rattle.rv32im_step.proofs.MeaningLaws.{keeps}
use Rattle.call_log.specs.declared.errno.Errno.{Errno}
use Rattle.call_log.specs.declared.errno.Errno.TheVariants.{E2big, Eagain, Enomem, Einval, Enametoolong}
use Rattle.call_log.specs.declared.how.How.TheVariants.{Exit, Signal}
use Rattle.call_log.specs.Errno.{refusal}
use Rattle.call_log.specs.Notes.{GotRange, Note, call_note, end_note, stray_note, calls_in, bytes_in, most_calls, most_bytes, has_room, weight_of}
use Rattle.call_log.specs.Strings.{ProgramStrings, program_strings}
use Rattle.call_log.specs.Sent.{Span, has_zero, sent}
use Rattle.mmap_rules.specs.declared.mapping.Mapping.{Mapping}
use Rattle.mmap_rules.specs.Space.{writable_in}
use Rattle.mmap_rules.specs.Mappings.{Hit, hit}
use Rattle.mem_files.specs.Inodes.{Inodes}
use Rattle.quantum_sched.specs.Picked.{picked}
use Rattle.vfork_exec.specs.declared.family.Who.{Who}
use Rattle.vfork_exec.specs.declared.family.State.{State}
use Rattle.vfork_exec.specs.declared.family.State.TheVariants.{Ready, Waiting}
use Rattle.vfork_exec.specs.declared.family.Ended.{Ended}
use Rattle.vfork_exec.specs.declared.family.Waited.{Waited}
use Rattle.vfork_exec.specs.declared.family.Waited.TheVariants.{Child, NoneYet, Waits}
use Rattle.vfork_exec.specs.Keyed.{Falls, find}
use Rattle.vfork_exec.specs.Families.{without_first}
use Rattle.fd_tables.specs.Changes.{with_copy, exec_closed, without_table}
use Rattle.flat_loader.specs.Original.{block_pages}
use Rattle.flat_loader.specs.Frame.{frame_fits}
use Rattle.flat_loader.specs.Begin.{Loading}
use Rattle.machine_world.specs.World.{Process, LiveSpace, Rest, World, pid_of, id_of}
use Rattle.machine_world.specs.Families.{MayRun, ready_pids, is_full, is_lent}
use Rattle.machine_world.specs.FamilyCalls.{who_of, waitid_fault, child_info, no_info, info_at, vfork_flags, runs}
use Rattle.machine_world.specs.Free.{free}
use Rattle.machine_world.specs.Found.{Found, address_of, taken}
use Rattle.machine_world.specs.Asks.{Ask, arg, Reply, Row, replies, waits, gives, refuses, with_files, storage_of, with_storage}
use Rattle.machine_world.specs.PathCalls.{path_of}
use Rattle.machine_world.specs.MapCalls.{all_maps, unmaps, munmap_row}
use Rattle.machine_world.specs.Rows.{row}
use Rattle.machine_world.specs.Recordings.{room_in}
use Rattle.machine_world.specs.Event.{Outcome, went, strays, full, idle, number_of, args_of, replied, entry_of, exit_code, noted, put_got, room_for, stepped, trapped, ended, served, put, waited, answered, exited, is_exit, reaped, told_in, waitid_behind, waitid, forked, cloned, load_of, executed, exec_at, exec_program, exec_strings, exec, classed, asked, ask_of, answer, settled, effect, in_space, by_process, at_process, event}
use Rattle.machine_world.specs.Turns.{Walk, End, traced, remains_at, turned, turn, going_on, quantum_turn, turns}
use Rattle.machine_world.specs.Ages.{AreChanged, Follows, most_changes, kept_calls, most_at_boot}
use Rattle.machine_world.proofs.EachChange.{Answers, kept_outside}
use Rattle.machine_world.proofs.ByRows.{by_rows}
use Rattle.machine_world.proofs.Aging.{rows_age, table_ages, exec_ages}
use Rattle.machine_world.proofs.Runnable.{may_run_still, ready_found}
use Rattle.alone_laws.specs.Sound.{most_given, IsSound}
use Rattle.alone_laws.specs.Laws.{EventsKeepSound, TurnsKeepSound, RunsKeepSound}
use Rattle.alone_laws.proofs.Bytes.{put_keeps}
use Rattle.alone_laws.proofs.Files.{follows_itself}
use Rattle.alone_laws.proofs.FreePages.{each_of_all}
use Rattle.alone_laws.proofs.Moved.{Goes, ended_sound, awake_sound, own_around, moved_sound, waiting_sound}
use Rattle.alone_laws.proofs.Spaces.{IsFit, InSpace, fit_later, fit_there}
use Rattle.alone_laws.proofs.SoundEnds.{left_sound}
use Rattle.alone_laws.proofs.SoundForks.{forked_sound}
use Rattle.alone_laws.proofs.SoundExecs.{exec_sound}
use Rattle.alone_laws.proofs.RowSpaces.{pipe_isnt_lent, LeavesSpace, row_leaves, row-munmap, row-mmap2}
use Rattle.alone_laws.proofs.Unmaps.{is_hit, fit_unmapped}
use Rattle.alone_laws.proofs.Maps.{fit_mapped}

-- ---- notes

noted_more : (n : Note) (notes : List Note) → kept_calls (n ∷ notes) ≡ calls_in n + kept_calls notes
noted_more n notes = sum_by-cons (λ (k : ℕ). k) (calls_in n) (map calls_in notes)

low_enough : (notes : List Note) → kept_calls notes ≤ most_calls → most_at_boot + kept_calls notes < most_changes
low_enough notes few = omega (arith, few)

room_left : (notes : List Note) (weight : ℕ) → has_room notes weight ≡ true → kept_calls notes + 1 ≤ most_calls
unfolding has_room
room_left notes weight room =
    leb-true (kept_calls notes + 1) most_calls (and_parts (nat_le (sum (map calls_in notes) + 1) most_calls) (nat_le (sum (map bytes_in notes) + weight) most_bytes) room).0

more_changed : (m n : ℕ) (nodes : Inodes) → m ≤ n → AreChanged m nodes → AreChanged n nodes
more_changed m n nodes le low = λ id node there. (let most = low id node there in omega (arith, most, le))

-- ---- rows

same_pages : (a : Ask) → Answers (λ rest. rest.pages ≡ a.rest.pages) (row a)
same_pages a = by_rows (λ rest. rest.pages ≡ a.rest.pages) a (kept_outside (λ programs pages kind. pages ≡ a.rest.pages) a refl) refl

module _ (a : Ask) (front back : List Mapping) (fit : IsFit a.rest.pages front back a.rest.tree a.space) where
  -- a row that leaves the mappings and the bytes
  fit_same : (r : Row) → LeavesSpace a.space r → InSpace (IsFit a.rest.pages front back a.rest.tree) r
  fit_same (replies r) same =
      fit_later a.rest.pages front back a.space r.space a.rest.tree a.rest.tree same.maps (follows_itself a.rest.tree)
      (λ addr locked. ap (λ (f : Bytes). f addr) same.bytes) fit
  fit_same (waits state) same = same

  fit_munmap : InSpace (IsFit a.rest.pages front back a.rest.tree) (munmap_row a)
  unfolding munmap_row
  fit_munmap = by (hit a.space.maps (arg a 0) (arg a 1)) refl
    where
      by : (o : Option Hit) → hit a.space.maps (arg a 0) (arg a 1) ≡ o → InSpace (IsFit a.rest.pages front back a.rest.tree) (unmaps a o)
      by None is = fit
      by (Some h) is = fit_unmapped a.rest.pages front back a.rest.tree a.space (arg a 0) (arg a 1) h fit (is_hit a.space.maps (arg a 0) (arg a 1) h is)

  fit_row : (b : ℕ) → Falls id_of b a.spaces → all_maps a.spaces ≡ front ++ (a.space.maps ++ back) → ((j : ℕ) (m : Mapping) → slice_get (all_maps a.spaces) j ≡ Some m → m.first + m.pages ≤ a.rest.pages)
      → InSpace (IsFit a.rest.pages front back a.rest.tree) (row a)
  fit_row b falls are inside = elim (cases_Bool (a.number == 215)) [
    | inl munmap ↦ subst (InSpace (IsFit a.rest.pages front back a.rest.tree)) (sym (row-munmap a (eqb-true a.number 215 munmap))) fit_munmap
    | inr other ↦ elim (cases_Bool (a.number == 222)) [
      | inl mmap2 ↦ subst (InSpace (IsFit a.rest.pages front back a.rest.tree)) (sym (row-mmap2 a (eqb-true a.number 222 mmap2))) (fit_mapped a front back b falls are inside fit)
      | inr neither ↦ fit_same (row a) (row_leaves a other neither)
    ]
  ]

-- ---- an event

abbrev Leaves : Outcome → Type 0
Leaves (went now t) = IsSound now
Leaves (strays access) = Unit {0}
Leaves full = Unit {0}
Leaves idle = Unit {0}

leaves_if : (b : Bool) (x y : Outcome) → (b ≡ true → Leaves x) → Leaves y → Leaves (if b then x else y)
leaves_if true x y hx hy = hx refl
leaves_if false x y hx hy = hy

leaves_either : (b : Bool) (x y : Outcome) → Leaves x → Leaves y → Leaves (if b then x else y)
leaves_either true x y hx hy = hx
leaves_either false x y hx hy = hy

-- behind a call or a trap those go on who wait on pipes
leaves_settled : (o : Outcome) → Leaves o → Leaves (settled o)
unfolding settled
leaves_settled (went now t) h = awake_sound now h
leaves_settled (strays access) h = tt
leaves_settled full h = tt
leaves_settled idle h = tt

all_inside : (w : World) → IsSound w → (j : ℕ) (m : Mapping) → slice_get (all_maps w.spaces) j ≡ Some m → m.first + m.pages ≤ w.rest.pages
all_inside w h = each_of_all (λ m. m.first + m.pages ≤ w.rest.pages) w.loads w.spaces h.numbers (λ i s found. (h.spaces i s found).inside)

module _ (w : World) (h : IsSound w) (pid : ℕ) (p : Process) (s : LiveSpace) (lives : find pid_of pid w.procs ≡ Some p) (ready : p.state ≡ Ready) (has : find id_of p.space w.spaces ≡ Some s) where
  abbrev front : List Mapping
  front = (own_around w h pid p s lives ready has).front

  abbrev back : List Mapping
  back = (own_around w h pid p s lives ready has).back

  fit : IsFit w.rest.pages front back w.rest.tree s.space
  fit = fit_there w h pid p s lives ready has

  -- nodes that aged as far as a call may change them, under more notes
  goes_on : (rest : Rest) (notes : List Note) (most : ℕ) → rest.pages ≡ w.rest.pages → Follows w.rest.tree rest.tree × AreChanged most rest.tree → most ≤ most_at_boot + kept_calls notes
      → kept_calls w.notes ≤ kept_calls notes → kept_calls notes ≤ most_calls → Goes w rest notes
  goes_on rest notes most pages ages low more few = record {
    pages = pages;
    follows = ages.0;
    changes = more_changed most (most_at_boot + kept_calls notes) rest.tree low ages.1;
    more = more;
    calls = few;
  }

  -- a table goes
  table_gone : (notes : List Note) → kept_calls w.notes ≤ kept_calls notes → kept_calls notes ≤ most_calls
      → Goes w (with_storage w.rest (without_table (storage_of w.rest) p.table)) notes
  table_gone notes more few =
      goes_on (with_storage w.rest (without_table (storage_of w.rest) p.table)) notes (most_at_boot + kept_calls w.notes) refl
      (table_ages (storage_of w.rest) p.table (most_at_boot + kept_calls w.notes) h.changes) (omega (arith, more)) more few

  -- ---- a reply

  -- what a reply leaves
  abbrev Fits : Reply → Type 0
  Fits r = (r.rest.pages ≡ w.rest.pages) × (Follows w.rest.tree r.rest.tree × AreChanged (most_at_boot + kept_calls w.notes + 1) r.rest.tree) × IsFit w.rest.pages front back w.rest.tree r.space

  module _ (bytes : List ℕ) where
    abbrev the_ask : Ask
    the_ask = ask_of w p s.space bytes

    leaves_served : (r : Reply) (m : Bytes) → Fits r → put_got r.space.bytes (writable_in r.space.maps) r.got ≡ Ok m → Leaves (served w the_ask r m)
    unfolding served
    leaves_served r m fits wrote =
        leaves_if (room_for w the_ask r) (went _ _) full
        (λ room. moved_sound w h pid p s lives ready has r.rest (call_note (entry_of the_ask r.value r.got) ∷ w.notes) (w.events + 1) _ (goes room) (replied p.regs r.value) (record r.space { bytes = m })
        now.is_space now.apart now.holds) tt
      where
        counted_more : kept_calls (call_note (entry_of the_ask r.value r.got) ∷ w.notes) ≡ 1 + kept_calls w.notes
        counted_more = noted_more (call_note (entry_of the_ask r.value r.got)) w.notes

        goes : room_for w the_ask r ≡ true → Goes w r.rest (call_note (entry_of the_ask r.value r.got) ∷ w.notes)
        goes room =
            goes_on r.rest (call_note (entry_of the_ask r.value r.got) ∷ w.notes) (most_at_boot + kept_calls w.notes + 1) fits.0 fits.1 (omega (arith, counted_more)) (omega (arith, counted_more))
            (let left = room_left w.notes _ room in omega (arith, left, counted_more))

        now : IsFit w.rest.pages front back r.rest.tree (record r.space { bytes = m })
        now =
            fit_later w.rest.pages front back r.space (record r.space { bytes = m }) w.rest.tree r.rest.tree refl fits.1.0
            (λ addr locked. put_keeps r.got r.space.bytes m (writable_in r.space.maps) addr wrote locked) fits.2

    leaves_put : (r : Reply) (found : Result Bytes Span) → Fits r → put_got r.space.bytes (writable_in r.space.maps) r.got ≡ found → Leaves (put w the_ask r found)
    leaves_put r (Ok m) fits wrote = leaves_served r m fits wrote
    leaves_put r (Err span) fits wrote = tt

    leaves_waited : (state : State) → is_lent state ≡ false → Leaves (waited w p state)
    unfolding waited
    leaves_waited state own = waiting_sound w h pid p s lives ready has state own

    leaves_answered : (r : Row) → ((reply : Reply) → r ≡ replies reply → Fits reply) → ((state : State) → r ≡ waits state → is_lent state ≡ false) → Leaves (answered w the_ask r)
    leaves_answered (replies r) fits own = leaves_put r (put_got r.space.bytes (writable_in r.space.maps) r.got) (fits r refl) refl
    leaves_answered (waits state) fits own = leaves_waited state (own state refl)

    -- a reply, and bytes
    pub leaves_given : (value : ℕ) (got : List GotRange) → Leaves (answered w the_ask (gives the_ask value got w.rest))
    leaves_given value got =
        let r : Reply = record { value = value; got = got; rest = w.rest; space = s.space; over = false } in
        leaves_put r (put_got s.space.bytes (writable_in s.space.maps) got)
        (refl, (follows_itself w.rest.tree, more_changed (most_at_boot + kept_calls w.notes) (most_at_boot + kept_calls w.notes + 1) w.rest.tree (omega arith) h.changes), fit) refl

    pub leaves_refused : (e : Errno) → Leaves (answered w the_ask (refuses the_ask e))
    leaves_refused e = leaves_given (refusal e) []

    in_space_row : InSpace (IsFit w.rest.pages front back w.rest.tree) (row the_ask)
    in_space_row = fit_row the_ask front back fit w.loads h.numbers (own_around w h pid p s lives ready has).is (all_inside w h)

    leaves_row : Leaves (answered w the_ask (row the_ask))
    leaves_row =
        leaves_answered (row the_ask)
        (λ r is. (
          subst (Answers (λ rest. rest.pages ≡ w.rest.pages)) is (same_pages the_ask),
          rows_age the_ask r (most_at_boot + kept_calls w.notes) is h.changes (low_enough w.notes h.calls),
          subst (InSpace (IsFit w.rest.pages front back w.rest.tree)) is in_space_row,
        ))
        (λ state is. pipe_isnt_lent state (subst (InSpace (IsFit w.rest.pages front back w.rest.tree)) is in_space_row))

    -- ---- an end

    leaves_exited : Leaves (exited w the_ask)
    unfolding exited ended
    leaves_exited =
        leaves_if (room_in w (weight_of bytes [])) (went _ _) full
        (λ room. (
        let left = room_left w.notes _ room in
        let one = noted_more (call_note (entry_of the_ask 0 [])) w.notes in
        let both = noted_more (end_note p.pid (Exit (exit_code the_ask))) (call_note (entry_of the_ask 0 []) ∷ w.notes) in
        left_sound w h pid p s lives ready has _ (with_storage w.rest (without_table (storage_of w.rest) p.table))
        (end_note p.pid (Exit (exit_code the_ask)) ∷ call_note (entry_of the_ask 0 []) ∷ w.notes) (w.events + 1) _
        (table_gone (end_note p.pid (Exit (exit_code the_ask)) ∷ call_note (entry_of the_ask 0 []) ∷ w.notes) (omega (arith, one, both)) (omega (arith, left, one, both))))) tt

    -- ---- a child

    leaves_forked : Leaves (forked w the_ask)
    unfolding forked
    leaves_forked =
        leaves_if (room_in w (weight_of bytes [])) (went _ _) full
        (λ room. (
        let left = room_left w.notes _ room in
        let one = noted_more (call_note (entry_of the_ask w.next_pid [])) w.notes in
        forked_sound w h pid p s lives ready has bytes (call_note (entry_of the_ask w.next_pid []) ∷ w.notes) (w.events + 1) _
        (goes_on (with_files w.rest (with_copy w.rest.files p.table)) (call_note (entry_of the_ask w.next_pid []) ∷ w.notes) (most_at_boot + kept_calls w.notes) refl
        (follows_itself w.rest.tree, h.changes) (omega (arith, one)) (omega (arith, one)) (omega (arith, left, one)))
        (omega (arith, one)))) tt

    leaves_cloned : Leaves (cloned w the_ask)
    unfolding cloned
    leaves_cloned =
        leaves_either (not (arg the_ask 0 == vfork_flags)) (answered w the_ask (refuses the_ask Einval)) _ (leaves_refused Einval)
        (leaves_either (is_full w) (answered w the_ask (refuses the_ask Eagain)) (forked w the_ask) (leaves_refused Eagain) leaves_forked)

    -- ---- another program

    leaves_executed : (index page : ℕ) (l : Loading) → l.block ≡ address_of page → taken w (block_pages l.original) (free w) ≡ Some page → Leaves (executed w the_ask index l)
    unfolding executed
    leaves_executed index page l is chosen =
        leaves_if (room_in w (weight_of bytes [])) (went _ _) full
        (λ room. (
        let left = room_left w.notes _ room in
        let one = noted_more (call_note (entry_of the_ask 0 [])) w.notes in
        let both = noted_more (load_of p index l) (call_note (entry_of the_ask 0 []) ∷ w.notes) in
        exec_sound w h pid p s lives ready has page l is chosen (with_storage w.rest (exec_closed (storage_of w.rest) p.table))
        (load_of p index l ∷ call_note (entry_of the_ask 0 []) ∷ w.notes) (w.events + 1) _
        (goes_on (with_storage w.rest (exec_closed (storage_of w.rest) p.table)) (load_of p index l ∷ call_note (entry_of the_ask 0 []) ∷ w.notes) (most_at_boot + kept_calls w.notes) refl
        (exec_ages (storage_of w.rest) p.table (most_at_boot + kept_calls w.notes) h.changes) (omega (arith, one, both)) (omega (arith, one, both)) (omega (arith, left, one, both))))) tt

    leaves_exec_at : (f : Found) (strings : ProgramStrings) (page : Option ℕ) → taken w (block_pages f.original) (free w) ≡ page → Leaves (exec_at w the_ask f strings page)
    leaves_exec_at f strings None chosen = leaves_refused Enomem
    leaves_exec_at f strings (Some page) chosen =
        leaves_executed f.index page (record { original = f.original; block = address_of page; args = strings.args; env = strings.env }) refl chosen

    leaves_exec_program : (strings : ProgramStrings) (o : Result Found Errno) → Leaves (exec_program w the_ask strings o)
    leaves_exec_program strings (Ok f) =
        leaves_either (frame_fits f.original strings.args strings.env) (exec_at w the_ask f strings (taken w (block_pages f.original) (free w))) (answered w the_ask (refuses the_ask E2big))
        (leaves_exec_at f strings (taken w (block_pages f.original) (free w)) refl) (leaves_refused E2big)
    leaves_exec_program strings (Err e) = leaves_refused e

    leaves_exec_strings : (o : Option ProgramStrings) → Leaves (exec_strings w the_ask o)
    leaves_exec_strings (Some strings) = leaves_exec_program strings (runs w.rest (path_of the_ask))
    leaves_exec_strings None = leaves_refused E2big

    leaves_exec : Leaves (exec w the_ask)
    unfolding exec
    leaves_exec =
        leaves_either (has_zero bytes) (exec_strings w the_ask (program_strings bytes (arg the_ask 1) (arg the_ask 2))) (answered w the_ask (refuses the_ask Enametoolong))
        (leaves_exec_strings (program_strings bytes (arg the_ask 1) (arg the_ask 2))) (leaves_refused Enametoolong)

module _ (w : World) (h : IsSound w) (pid : ℕ) (p : Process) (s : LiveSpace) (lives : find pid_of pid w.procs ≡ Some p) (ready : p.state ≡ Ready) (has : find id_of p.space w.spaces ≡ Some s) where
  -- ---- a process asks for its children

  module _ (bytes : List ℕ) where
    leaves_reaped : (who : Who) (r : Result Waited Errno) → Leaves (reaped w (the_ask w h pid p s lives ready has bytes) who r)
    leaves_reaped who (Ok (Child child how)) =
        let ended : List Ended = without_first p.pid who w.ended in
        leaves_given (record w { ended = ended }) (ended_sound w ended h) pid p s lives ready has bytes 0 (info_at (arg (ask_of w p s.space bytes) 2) (child_info child how))
    leaves_reaped who (Ok NoneYet) = leaves_given w h pid p s lives ready has bytes 0 (info_at (arg (ask_of w p s.space bytes) 2) no_info)
    leaves_reaped who (Ok Waits) = leaves_waited w h pid p s lives ready has bytes (Waiting who) refl
    leaves_reaped who (Err e) = leaves_refused w h pid p s lives ready has bytes e

    leaves_waitid : Leaves (waitid w (ask_of w p s.space bytes))
    unfolding waitid
    leaves_waitid = by (waitid_fault (ask_of w p s.space bytes))
      where
        by : (o : Option Errno) → Leaves (waitid_behind w (ask_of w p s.space bytes) o)
        by (Some e) = leaves_refused w h pid p s lives ready has bytes e
        by None = leaves_reaped (who_of (ask_of w p s.space bytes)) (told_in w (ask_of w p s.space bytes))

    leaves_classed : Leaves (classed w (ask_of w p s.space bytes))
    leaves_classed =
        leaves_either (is_exit (number_of p.regs)) (exited w (ask_of w p s.space bytes)) _ (leaves_exited w h pid p s lives ready has bytes)
        (leaves_either (number_of p.regs == 95) (waitid w (ask_of w p s.space bytes)) _ leaves_waitid
        (leaves_either (number_of p.regs == 220) (cloned w (ask_of w p s.space bytes)) _ (leaves_cloned w h pid p s lives ready has bytes)
        (leaves_either (number_of p.regs == 221) (exec w (ask_of w p s.space bytes)) _ (leaves_exec w h pid p s lives ready has bytes) (leaves_row w h pid p s lives ready has bytes))))

  leaves_asked : (found : Result (List ℕ) Span) → Leaves (asked w p s.space found)
  leaves_asked (Ok bytes) = leaves_classed bytes
  leaves_asked (Err span) = tt

  leaves_effect : (m : Meaning) → meaning p.regs s.space.bytes (writable_in s.space.maps) ≡ m → Leaves (effect w p s.space m)
  unfolding stepped trapped ended answer
  leaves_effect (next regs bytes) is =
      let now =
      fit_later w.rest.pages (front w h pid p s lives ready has) (back w h pid p s lives ready has) s.space (record s.space { bytes = bytes }) w.rest.tree w.rest.tree refl (follows_itself w.rest.tree)
      (λ addr locked. (keeps p.regs regs s.space.bytes bytes (writable_in s.space.maps) is).unwritable addr locked) (fit w h pid p s lives ready has) in
      moved_sound w h pid p s lives ready has w.rest w.notes (w.events + 1) _
      (record { pages = refl; follows = follows_itself w.rest.tree; changes = h.changes; more = omega arith; calls = h.calls }) regs (record s.space { bytes = bytes }) now.is_space now.apart now.holds
  leaves_effect (trap signal) is =
      leaves_settled (trapped w p signal)
      (left_sound w h pid p s lives ready has _ (with_storage w.rest (without_table (storage_of w.rest) p.table)) (end_note p.pid (Signal signal) ∷ w.notes) (w.events + 1) _
      (table_gone w h pid p s lives ready has (end_note p.pid (Signal signal) ∷ w.notes) (omega (arith, noted_more (end_note p.pid (Signal signal)) w.notes))
      (let few = h.calls in omega (arith, few, noted_more (end_note p.pid (Signal signal)) w.notes))))
  leaves_effect (refused access) is = tt
  leaves_effect call is = leaves_settled (answer w p s.space) (leaves_asked (sent (number_of p.regs) (args_of p.regs) s.space.bytes))

module _ (w : World) (h : IsSound w) (pid : ℕ) where
  leaves_in : (p : Process) → find pid_of pid w.procs ≡ Some p → p.state ≡ Ready → (found : Option LiveSpace) → find id_of p.space w.spaces ≡ found
      → Leaves (in_space (λ q s. effect w q s (meaning q.regs s.bytes (writable_in s.maps))) p found)
  leaves_in p lives ready None has = tt
  leaves_in p lives ready (Some s) has = leaves_effect w h pid p s lives ready has (meaning p.regs s.space.bytes (writable_in s.space.maps)) refl

  leaves_by : (found : Option Process) → find pid_of pid w.procs ≡ found → option_map (λ p. p.state) found ≡ Some Ready
      → Leaves (by_process w.spaces (λ q s. effect w q s (meaning q.regs s.bytes (writable_in s.maps))) found)
  leaves_by None lives may = tt
  leaves_by (Some p) lives may = leaves_in p lives (same_Some p.state Ready may) (find id_of p.space w.spaces) refl

  leaves_event : MayRun w pid → Leaves (event w pid)
  unfolding event at_process
  leaves_event may = leaves_by (find pid_of pid w.procs) refl may

pub events_keep_sound : EventsKeepSound
events_keep_sound w pid now t h may is = subst Leaves is (leaves_event w h pid may)

-- ---- turns

-- a note of a stray access isn't a call
stray_sound : (w : World) (n : Note) → calls_in n ≡ 0 → IsSound w → IsSound (noted n w)
stray_sound w n none h =
    let same : kept_calls w.notes ≡ kept_calls (n ∷ w.notes) = omega (arith, none, noted_more n w.notes) in
    record {
      some = h.some;
      most = h.most;
      pids = h.pids;
      numbers = h.numbers;
      given = subst (λ (k : ℕ). w.next_pid ≤ most_given + k) same h.given;
      homes = h.homes;
      chains = h.chains;
      spaces = h.spaces;
      apart = h.apart;
      copies = h.copies;
      changes = subst (λ (k : ℕ). AreChanged (most_at_boot + k) w.rest.tree) same h.changes;
      calls = subst (λ (k : ℕ). k ≤ most_calls) same h.calls;
    }

turned_leaves : (more : World → Walk) (w : World) (pid : ℕ) (o : Outcome) → event w pid ≡ o → MayRun w pid → IsSound w → Leaves o
    → ((v : World) → IsSound v → MayRun v pid → IsSound (more v).world) → IsSound (turned more w pid o).world
turned_leaves more w pid (went now t) is may h leaves on = over t.over refl
  where
    over : (b : Bool) → t.over ≡ b → IsSound (traced t (if b then remains_at now None else more now)).world
    over true ends = leaves
    over false ends = on now leaves (may_run_still w pid now t may is ends)
turned_leaves more w pid (strays access) is may h leaves on = stray_sound w (stray_note pid access) refl h
turned_leaves more w pid full is may h leaves on = h
turned_leaves more w pid idle is may h leaves on = h

pub turns_keep_sound : TurnsKeepSound
unfolding turn
turns_keep_sound zero pid w h may = h
turns_keep_sound (suc count) pid w h may =
    turned_leaves (turn count pid) w pid (event w pid) refl may h (leaves_event w h pid may) (λ v sound still. turns_keep_sound count pid v sound still)

quantum_leaves : (more : World → Walk) (w : World) (count : ℕ) (chosen : Option ℕ) → ((pid : ℕ) → chosen ≡ Some pid → MayRun w pid) → IsSound w
    → ((v : World) → IsSound v → IsSound (more v).world) → IsSound (quantum_turn more w count chosen).world
quantum_leaves more w count None may h on = h
quantum_leaves more w count (Some pid) may h on = goes (turn count pid w) (turns_keep_sound count pid w h (may pid refl))
  where
    goes : (walk : Walk) → IsSound walk.world → IsSound (going_on more walk).world
    goes walk sound = at walk.end
      where
        at : (end : Option End) → IsSound (going_on more (record walk { end = end })).world
        at (Some end) = sound
        at None = on walk.world sound

pub runs_keep_sound : RunsKeepSound
unfolding turns
runs_keep_sound [] w h = h
runs_keep_sound (q ∷ qs) w h =
    quantum_leaves (turns qs) w q.count (picked q.pick (ready_pids w.procs)) (λ pid is. ready_found w.procs w.next_pid q.pick pid is h.pids) h (λ v sound. runs_keep_sound qs v sound)
