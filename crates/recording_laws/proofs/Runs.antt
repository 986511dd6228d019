-- What is recorded is right at boot, and behind every turn and run; and then it tells the stay.
use Rattle.std.proofs.Common.{◌≡◌, ℕ, zero, suc, ◌+◌, ◌≤◌, ◌⊎◌, Bool, true, false, inl, inr, List, [], ◌∷◌, ◌++◌, Option, Some, None, Result, Ok, Err, refl, sym, ap, subst, ◌∙◌, arith}
use Rattle.std.specs.Prelude.{◌==◌, nat_lt, slice_get, option_map, if◌then◌else◌}
use Rattle.std.proofs.lemmas.Bool.{cases_Bool}
use Rattle.std.proofs.lemmas.Bool.Decides.{nat_tests}
use Rattle.std.proofs.lemmas.List.{append-nil}
use Rattle.std.proofs.Common.{append_assoc}
use Rattle.byte_words.specs.declared.access.Access.{Access}
use Rattle.call_log.specs.Notes.{CallEntry, stray_note}
use Rattle.vfork_exec.specs.declared.family.State.TheVariants.{Ready}
use Rattle.vfork_exec.specs.Keyed.{find}
use Rattle.vfork_exec.proofs.Keyed.{find_head}
use Rattle.flat_loader.specs.Original.{block_pages}
use Rattle.flat_loader.specs.Frame.{frame_fits}
use Rattle.flat_loader.specs.Begin.{Loading, begin_regs}
use Rattle.flat_loader.specs.Alone.{Item}
use Rattle.fd_tables.specs.Files.{free_number}
use Rattle.machine_world.specs.World.{Process, Rest, World, pid_of}
use Rattle.machine_world.specs.Recordings.{most_count, raised}
use Rattle.machine_world.specs.Free.{free}
use Rattle.machine_world.specs.Event.{maps_file, noted, plain_item}
use Rattle.machine_world.specs.Boot.{StartLine, BootFault, Found, found, start_path, begun, address_of, taken, placed, fitting, located, started, then_started, all_started, empty_world, boot}
use Rattle.alone_laws.specs.Stays.{Stay, loading_at, loading_in, loading_of, first_stay, behind_start, first_stays}
use Rattle.alone_laws.proofs.Lists.{eqb_is, eqb_isnt}
use Rattle.alone_laws.proofs.SoundRuns.{events_keep_sound, turns_keep_sound}
use Rattle.alone_laws.proofs.TurnStays.{along_turns, along_runs}
use Rattle.recording_laws.specs.Homes.{loads_in, home, calls_at, items_of, entries_of}
use Rattle.recording_laws.specs.Items.{first_list, other_lists, with_lists, launch_in, events_of, lists_of, ArePlain, FollowsStay, AreRecorded}
use Rattle.recording_laws.specs.Laws.{BootsRecord, TurnsRecord, RunsRecord, RecordingsTell}
use Rattle.recording_laws.proofs.After.{recorded_begun}
use Rattle.recording_laws.proofs.Events.{events_record}

-- ---- turns and runs

-- a stray access is noted
recorded_stray : (ys : List Stay) (w : World) (pid : ℕ) (seen : Access) → AreRecorded ys w → AreRecorded ys (noted (stray_note pid seen) w)
unfolding loads_in home calls_at
recorded_stray ys w pid seen told = record {
  home = record { count = told.home.count; loads = told.home.loads; homes = told.home.homes; calls = told.home.calls };
  counted = told.counted;
  follows = told.follows;
  none = told.none;
}

pub turns_record : TurnsRecord
turns_record = along_turns AreRecorded recorded_stray events_keep_sound events_record

pub runs_record : RunsRecord
runs_record = along_runs AreRecorded recorded_stray events_keep_sound events_record turns_keep_sound

-- ---- boot

abbrev RecordsBehind : List Stay → Result World BootFault → Type 0
RecordsBehind ys (Ok w) = AreRecorded ys w
RecordsBehind ys (Err fault) = Unit {0}

module _ (ys : List Stay) (w : World) (told : AreRecorded ys w) (s : StartLine) where
  records_begun : (index : ℕ) (l : Loading) → AreRecorded (ys ++ record { loading = l; pid = w.next_pid; items = []; events = 0 } ∷ []) (begun w index l)
  records_begun index l =
      let process : Process = record { pid = w.next_pid; parent = 0; regs = begin_regs l; space = w.loads; table = free_number w.rest.files.tables; state = Ready } in
      recorded_begun ys w told w.next_pid l _ (begun w index l) (record {
        index = index;
        pages = block_pages l.original;
        is_note = refl;
        loads = refl;
        notes = refl;
        homes = λ x q there. elim (cases_Bool (w.next_pid == x)) [
          | inl here ↦
              let is : Some process ≡ Some q = sym (find_head pid_of x process w.procs true here) ∙ there in
              inl (eqb_is w.next_pid x here, (let e : process ≡ q = cc in ap (λ (o : Process). o.space) (sym e)))
          | inr away ↦ inr (eqb_isnt w.next_pid x away, told.home.homes x q (sym (find_head pid_of x process w.procs false away) ∙ there))
        ];
        recording = refl;
        more = omega arith;
      })

  records_placed : (f : Found) (page : Option ℕ) → RecordsBehind (ys ++ first_stay w.next_pid (loading_at s f page)) (placed w s f page)
  records_placed f None = tt
  records_placed f (Some page) = records_begun f.index (record { original = f.original; block = address_of page; args = s.args; env = [] })

  records_fitting : (f : Found) (fits : Bool) → RecordsBehind (ys ++ first_stay w.next_pid (loading_in w s (Some f))) (fitting w s f fits)
  records_fitting f true = records_placed f (taken w (block_pages f.original) (free w))
  records_fitting f false = tt

  records_located : (o : Option Found) → RecordsBehind (ys ++ first_stay w.next_pid (loading_in w s o)) (located w s o)
  records_located None = tt
  records_located (Some f) = records_fitting f (frame_fits f.original s.args [])

  records_started : RecordsBehind (ys ++ first_stay w.next_pid (loading_of w s)) (started w s)
  unfolding started
  records_started = records_located (found w.rest (start_path s))

records_all : (ss : List StartLine) (ys : List Stay) (w : World) → AreRecorded ys w → RecordsBehind (ys ++ first_stays w ss) (all_started w ss)
unfolding all_started first_stays
records_all [] ys w told = subst (λ l. AreRecorded l w) (sym (append-nil ys)) told
records_all (s ∷ ss) ys w told = on (started w s) (records_started ys w told s) (λ zs v t. records_all ss zs v t)
  where
    on : (r : Result World BootFault) → RecordsBehind (ys ++ first_stay w.next_pid (loading_of w s)) r
        → ((zs : List Stay) (v : World) → AreRecorded zs v → RecordsBehind (zs ++ first_stays v ss) (all_started v ss))
        → RecordsBehind (ys ++ (first_stay w.next_pid (loading_of w s) ++ behind_start (λ now. first_stays now ss) r)) (then_started r (λ now. all_started now ss))
    on (Ok v) t more = subst (λ l. RecordsBehind l (all_started v ss)) (append_assoc ys (first_stay w.next_pid (loading_of w s)) (first_stays v ss)) (more (ys ++ first_stay w.next_pid (loading_of w s)) v t)
    on (Err fault) t more = tt

abbrev no_stays : List Stay
no_stays = []

no_stay : (i : ℕ) → slice_get no_stays i ≡ None
no_stay zero = refl
no_stay (suc i) = refl

records_empty : (rest : Rest) → AreRecorded [] (empty_world rest)
unfolding find loads_in calls_at
records_empty rest = record {
  home = record {
    count = refl;
    loads = refl;
    homes = λ pid p lives. absurd cc;
    calls = λ i. ap (λ o. entries_of (items_of o)) (sym (no_stay i));
  };
  counted = λ i y there. absurd (let none : None ≡ Some y = sym (no_stay i) ∙ there in cc);
  follows = λ i is. subst (λ o. FollowsStay o (empty_world rest).recording) (sym (no_stay i)) (record { launch = refl; events = refl; lists = refl; plain = tt });
  none = λ keep. refl;
}

pub boots_record : BootsRecord
unfolding boot
boots_record rest starts w is = subst (RecordsBehind (first_stays (empty_world rest) starts)) is (records_all starts [] (empty_world rest) (records_empty rest))

-- ---- notes and recording tell a stay

with_head : (e : CallEntry) (calls : List CallEntry) (lists : List (List ℕ)) (b : Bool) → maps_file e ≡ b
    → with_lists (e ∷ calls) lists ≡ (if b then record { entry = e; brought = first_list lists } ∷ with_lists calls (other_lists lists) else plain_item e ∷ with_lists calls lists)
unfolding with_lists
with_head e calls lists b is =
    ap (λ (t : Bool). if t then record { entry = e; brought = first_list lists } ∷ with_lists calls (other_lists lists) else plain_item e ∷ with_lists calls lists) is

lists_head : (i : Item) (items : List Item) (b : Bool) → maps_file i.entry ≡ b → lists_of (i ∷ items) ≡ (if b then i.brought ∷ lists_of items else lists_of items)
lists_head i items b is = ap (λ (t : Bool). if t then i.brought ∷ lists_of items else lists_of items) is

same_items : (items : List Item) → ArePlain items → with_lists (entries_of items) (lists_of items) ≡ items
unfolding with_lists
same_items [] plain = refl
same_items (i ∷ items) plain = by (same_items items plain.1) (cases_Bool (maps_file i.entry))
  where
    by : with_lists (entries_of items) (lists_of items) ≡ items → (maps_file i.entry ≡ true) ⊎ (maps_file i.entry ≡ false) → with_lists (entries_of (i ∷ items)) (lists_of (i ∷ items)) ≡ i ∷ items
    by more (inl maps) =
        ap (with_lists (i.entry ∷ entries_of items)) (lists_head i items true maps)
        ∙ with_head i.entry (entries_of items) (i.brought ∷ lists_of items) true maps ∙ ap (λ l. i ∷ l) more
    by more (inr none) =
        ap (with_lists (i.entry ∷ entries_of items)) (lists_head i items false none)
        ∙ with_head i.entry (entries_of items) (lists_of items) false none
        ∙ (λ j. record { entry = i.entry; brought = sym (plain.0 none) j } ∷ more j)

below_most : (n count : ℕ) → count + n ≤ most_count → raised n count ≡ count + n
below_most zero count fits = omega arith
below_most (suc n) count fits =
    let less : nat_lt count most_count ≡ true = grind (arith, nat_tests, fits) in
    ap (λ (t : Bool). raised n (if t then suc count else count)) less
    ∙ below_most n (suc count) (omega (arith, fits)) ∙ (let e : suc count + n ≡ count + suc n = omega arith in e)

pub recordings_tell : RecordingsTell
recordings_tell ys w i y told is there =
    let f = told.follows i is in
    let at : items_of (slice_get ys i) ≡ y.items = ap items_of there in
    let counted = told.counted i y there in
    record {
      launch = f.launch ∙ ap (option_map launch_in) there;
      events = λ fits.
          f.events ∙ ap (λ o. raised (events_of o) 0) there
          ∙ below_most y.events 0 (omega (arith, fits, counted)) ∙ (let e : 0 + y.events ≡ y.events = omega arith in e);
      items =
          (λ j. with_lists ((told.home.calls i ∙ ap entries_of at) j) ((f.lists ∙ ap lists_of at) j))
          ∙ same_items y.items (subst ArePlain at f.plain);
    }
