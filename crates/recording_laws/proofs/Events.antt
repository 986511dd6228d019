-- What is recorded is right behind every event.
use Rattle.std.proofs.Common.{◌≡◌, ℕ, ◌+◌, ◌<◌, ◌≤◌, Bool, true, false, not, inl, inr, List, [], ◌∷◌, ◌++◌, Option, Some, None, Result, Ok, Err, refl, sym, ap, subst, ◌∙◌, arith}
use Rattle.std.specs.Prelude.{◌==◌, ◌&&◌, if◌then◌else◌}
use Rattle.std.proofs.lemmas.Bool.{cases_Bool}
use Rattle.std.proofs.lemmas.Bool.Decides.{nat_tests}
use Rattle.std.proofs.lemmas.List.{append-nil}
use Rattle.byte_words.specs.ByteMap.{Bytes}
use Rattle.rv32im_step.specs.declared.regs.Regs.{Regs}
use Rattle.rv32im_step.specs.Meaning.{Meaning, next, call, trap, refused, meaning}
use Rattle.call_log.specs.declared.errno.Errno.{Errno}
use Rattle.call_log.specs.Errno.{refusal}
use Rattle.call_log.specs.Notes.{GotRange, CallEntry, call_note, weight_of}
use Rattle.call_log.specs.Strings.{ProgramStrings, program_strings}
use Rattle.call_log.specs.Sent.{Span, has_zero, sent}
use Rattle.mmap_rules.specs.declared.want.Want.{Want}
use Rattle.mmap_rules.specs.declared.mapping.Mapping.{Mapping}
use Rattle.mmap_rules.specs.Space.{writable_in}
use Rattle.mmap_rules.specs.Want.{wanted}
use Rattle.vfork_exec.specs.declared.family.Who.{Who}
use Rattle.vfork_exec.specs.declared.family.State.{State}
use Rattle.vfork_exec.specs.declared.family.State.TheVariants.{Waiting}
use Rattle.vfork_exec.specs.declared.family.Ended.{Ended}
use Rattle.vfork_exec.specs.declared.family.Waited.{Waited}
use Rattle.vfork_exec.specs.declared.family.Waited.TheVariants.{Child, NoneYet, Waits}
use Rattle.vfork_exec.specs.Keyed.{find}
use Rattle.vfork_exec.specs.Families.{without_first}
use Rattle.flat_loader.specs.Original.{block_pages}
use Rattle.flat_loader.specs.Frame.{frame_fits}
use Rattle.flat_loader.specs.Begin.{Loading}
use Rattle.flat_loader.specs.Alone.{Item, number_of, args_of, put_got, is_errno}
use Rattle.machine_world.specs.World.{Process, LiveSpace, World, pid_of, id_of}
use Rattle.machine_world.specs.Families.{is_full}
use Rattle.machine_world.specs.Found.{Found, address_of, taken}
use Rattle.machine_world.specs.Free.{free, free_runs_in}
use Rattle.machine_world.specs.Asks.{Ask, Reply, Row, replies, waits, arg, gives, refuses, with_ok}
use Rattle.machine_world.specs.PathCalls.{path_of}
use Rattle.machine_world.specs.MapCalls.{file_side, in_copy, in_free_run, or_own, maps, mapped, mmap2_row}
use Rattle.machine_world.specs.FamilyCalls.{who_of, waitid_fault, child_info, no_info, info_at, vfork_flags, runs}
use Rattle.machine_world.specs.Rows.{row}
use Rattle.machine_world.specs.Recordings.{is_recorded, raised_in, room_in}
use Rattle.machine_world.specs.Event.{Trace, Outcome, went, strays, full, idle, counted_in, noted, ended, stepped, trapped, ask_of, entry_of, item_of, plain_item, maps_file, brought, lists_brought, room_for, served, put, waited, answered, exited, is_exit, reaped, told_in, waitid_behind, waitid, forked, cloned, load_of, executed, exec_at, exec_program, exec_strings, exec, asked, answer, awake, settled, effect, in_space, by_process, at_process, event}
use Rattle.machine_world.proofs.Raised.{raised_none}
use Rattle.machine_world.proofs.Refused.{is_refused, maps_nothing}
use Rattle.machine_world.proofs.States.{find_has}
use Rattle.alone_laws.specs.Stays.{Stay, change_at, longer, begun_stay, collect}
use Rattle.alone_laws.specs.Sound.{IsSound}
use Rattle.alone_laws.proofs.Lists.{eqb_is, if_no}
use Rattle.alone_laws.proofs.Frame.{found_below}
use Rattle.alone_laws.proofs.Forks.{pid_isnt}
use Rattle.alone_laws.proofs.RowSpaces.{row-mmap2}
use Rattle.recording_laws.specs.Homes.{forks, loads_in, home, calls_at, entries_of}
use Rattle.recording_laws.specs.Items.{lists_of, ArePlain, AreRecorded}
use Rattle.recording_laws.specs.Laws.{EventsRecord}
use Rattle.recording_laws.proofs.Lists.{nothing_if, plain_lists}
use Rattle.recording_laws.proofs.After.{Goes, recorded_after, recorded_begun}
use Rattle.recording_laws.proofs.Procs.{Was, was_changed, was_left, was_roused, was_forked, was_exec, home_plain, home_child, home_other, calls_more, home_end, calls_end}

-- ---- a call that makes no process, and whose reply maps a file only where it writes no output

pub record IsTold (a : Ask) (r : Reply) : Type 0 where
  pub plain : forks (entry_of a r.value r.got) ≡ false
  pub lists : (m : Bytes) → put_got r.space.bytes (writable_in r.space.maps) r.got ≡ Ok m
      → lists_brought (entry_of a r.value r.got) m ≡ lists_brought (entry_of a r.value r.got) r.space.bytes

abbrev pub RowTold : Ask → Row → Type 0
RowTold a (replies r) = IsTold a r
RowTold a (waits state) = Unit {0}

first_false : (b c d : Bool) → b ≡ false → (b && c && d) ≡ false
first_false true c d is = absurd cc
first_false false c d is = refl

no_lists : (e : CallEntry) (m : Bytes) → maps_file e ≡ false → lists_brought e m ≡ []
no_lists e m is = ap (λ (b : Bool). if b then brought e m ∷ [] else []) is

told_refused : (a : Ask) (e : Errno) → RowTold a (refuses a e)
told_refused a e =
    let entry : CallEntry = entry_of a (refusal e) [] in
    let maps : maps_file entry ≡ false = maps_nothing entry (is_refused e) in
    record {
      plain = never (a.number == 220) (is_errno (refusal e)) (is_refused e);
      lists = λ m wrote. no_lists entry m maps ∙ sym (no_lists entry a.space.bytes maps);
    }
  where
    never : (b c : Bool) → c ≡ true → (b && not c) ≡ false
    never true true is = refl
    never true false is = absurd cc
    never false c is = refl

-- neither clone nor mmap2
told_other : (a : Ask) → (a.number == 220) ≡ false → (a.number == 222) ≡ false → (r : Row) → RowTold a r
told_other a no_clone no_map (waits state) = tt
told_other a no_clone no_map (replies r) =
    let e : CallEntry = entry_of a r.value r.got in
    let maps : maps_file e ≡ false = first_false (a.number == 222) _ _ no_map in
    record {
      plain = ap (λ (b : Bool). b && not (is_errno r.value)) no_clone;
      lists = λ m wrote. no_lists e m maps ∙ sym (no_lists e r.space.bytes maps);
    }

-- mmap2 writes no output
told_quiet : (a : Ask) → (a.number == 220) ≡ false → (r : Reply) → r.got ≡ [] → IsTold a r
told_quiet a no_clone r quiet = record {
  plain = ap (λ (b : Bool). b && not (is_errno r.value)) no_clone;
  lists = λ m wrote.
      let same : r.space.bytes ≡ m = let e : Ok r.space.bytes ≡ Ok m = ap (put_got r.space.bytes (writable_in r.space.maps)) (sym quiet) ∙ wrote in cc in
      ap (lists_brought (entry_of a r.value r.got)) (sym same);
}

told_maps : (a : Ask) → (a.number == 220) ≡ false → (want : Want) (o : Option Mapping) → RowTold a (maps a want o)
told_maps a no_clone want None = told_refused a _
told_maps a no_clone want (Some m) = told_quiet a no_clone _ refl

told_wanted : (a : Ask) → (a.number == 220) ≡ false → (o : Result Want Errno) → RowTold a (with_ok a o (mapped a))
told_wanted a no_clone (Err e) = told_refused a e
told_wanted a no_clone (Ok want) = told_maps a no_clone want (or_own (in_copy a.spaces want) (in_free_run a.rest.kind (free_runs_in a.rest.pages a.spaces) want))

told_mmap2 : (a : Ask) → (a.number == 220) ≡ false → RowTold a (mmap2_row a)
unfolding mmap2_row
told_mmap2 a no_clone = told_wanted a no_clone (wanted (arg a 0) (arg a 1) (arg a 2) (arg a 3) (arg a 5) (file_side a))

told_row : (a : Ask) → (a.number == 220) ≡ false → RowTold a (row a)
told_row a no_clone = elim (cases_Bool (a.number == 222)) [
  | inl is ↦ subst (RowTold a) (sym (row-mmap2 a (eqb_is a.number 222 is))) (told_mmap2 a no_clone)
  | inr no_map ↦ told_other a no_clone no_map (row a)
]

-- ---- one event

abbrev Keeps : List Stay → Outcome → Type 0
Keeps ys (went now t) = AreRecorded (collect ys t) now
Keeps ys (strays access) = Unit {0}
Keeps ys full = Unit {0}
Keeps ys idle = Unit {0}

keeps_test : (ys : List Stay) (b : Bool) (x y : Outcome) → (b ≡ true → Keeps ys x) → (b ≡ false → Keeps ys y) → Keeps ys (if b then x else y)
keeps_test ys true x y hx hy = hx refl
keeps_test ys false x y hx hy = hy refl

-- those that go on keep their spaces
awake_recorded : (ys : List Stay) (w : World) → AreRecorded ys w → AreRecorded ys (awake w)
awake_recorded ys w told = record {
  home = record {
    count = told.home.count;
    loads = told.home.loads;
    homes = λ pid p lives. let was = was_roused w.procs w.rest.files.changed pid p lives in told.home.homes pid was.0 was.1 ∙ ap Some was.2;
    calls = told.home.calls;
  };
  counted = told.counted;
  follows = told.follows;
  none = told.none;
}

keeps_settled : (ys : List Stay) (o : Outcome) → Keeps ys o → Keeps ys (settled o)
unfolding settled
keeps_settled ys (went now t) h = awake_recorded (collect ys t) now h
keeps_settled ys (strays access) h = tt
keeps_settled ys full h = tt
keeps_settled ys idle h = tt

module _ (ys : List Stay) (w : World) (sound : IsSound w) (told : AreRecorded ys w) (p : Process) (s : LiveSpace)
    (lives : find pid_of p.pid w.procs ≡ Some p) (has : find id_of p.space w.spaces ≡ Some s) where
  given : p.space < w.loads
  given = found_below id_of p.space w.loads w.spaces s sound.numbers has

  at_home : home p.pid w.notes ≡ Some p.space
  at_home = told.home.homes p.pid p lives

  abbrev quiet_trace : ℕ → Bool → Trace
  quiet_trace events over = record { space = p.space; events = events; items = []; begins = None; over = over }

  abbrev call_trace : Item → Bool → Trace
  call_trace item over = record { space = p.space; events = 1; items = item ∷ []; begins = None; over = over }

  -- an event by which no program begins
  goes_on : (t : Trace) (now : World) → t.space ≡ p.space → t.begins ≡ None → Goes w p.space t now → AreRecorded (collect ys t) now
  goes_on t now here none goes =
      let after : AreRecorded (change_at p.space (longer t) ys) now = recorded_after ys w told p.space given t now goes in
      let same : change_at p.space (longer t) ys ≡ collect ys t =
      sym (append-nil (change_at p.space (longer t) ys)) ∙ (λ i. change_at (sym here i) (longer t) ys ++ begun_stay (sym none i)) in
      subst (λ zs. AreRecorded zs now) same after

  -- with no call
  quiet : (t : Trace) (now : World) → t.space ≡ p.space → t.begins ≡ None → t.items ≡ [] → now.loads ≡ w.loads → loads_in now.notes ≡ loads_in w.notes
      → ((x : ℕ) → home x now.notes ≡ home x w.notes) → ((i : ℕ) → calls_at i now.notes ≡ calls_at i w.notes)
      → ((x : ℕ) (q : Process) → find pid_of x now.procs ≡ Some q → Was w.procs x q)
      → now.recording.keep ≡ w.recording.keep → now.recording.launch ≡ w.recording.launch → now.recording.events ≡ raised_in w.recording p.space t.events
      → now.recording.brought ≡ w.recording.brought → w.events + t.events ≤ now.events → AreRecorded (collect ys t) now
  quiet t now here none no_items loads load_notes homes calls was keep launch events brings more = goes_on t now here none (record {
    loads = loads;
    load_notes = load_notes;
    homes = λ x q there. let old = was x q there in homes x ∙ told.home.homes x old.0 old.1 ∙ ap Some old.2;
    calls = λ i.
        calls i ∙ sym (nothing_if (p.space == i) (calls_at i w.notes))
        ∙ ap (λ (items : List Item). calls_at i w.notes ++ (if p.space == i then entries_of items else [])) (sym no_items);
    keep = keep;
    launch = launch;
    events = events;
    brought =
        brings ∙ sym (nothing_if (is_recorded w.recording p.space) w.recording.brought)
        ∙ ap (λ (items : List Item). w.recording.brought ++ (if is_recorded w.recording p.space then lists_of items else [])) (sym no_items);
    plain = subst ArePlain (sym no_items) tt;
    more = more;
  })

  keeps_stepped : (regs : Regs) (bytes : Bytes) → Keeps ys (stepped w p s.space regs bytes)
  unfolding stepped
  keeps_stepped regs bytes =
      quiet (quiet_trace 1 false) _ refl refl refl refl refl (λ x. refl) (λ i. refl) (λ x q. was_changed w.procs p.pid _ (λ o. refl) (λ o. refl) x q) refl refl refl refl (omega arith)

  keeps_trapped : (signal : ℕ) → Keeps ys (trapped w p signal)
  unfolding trapped ended loads_in home calls_at
  keeps_trapped signal = quiet (quiet_trace 1 true) _ refl refl refl refl refl (λ x. refl) (λ i. refl) (λ x q. was_left w.procs p x q) refl refl refl refl (omega arith)

  keeps_waited : (state : State) → Keeps ys (waited w p state)
  unfolding waited
  keeps_waited state =
      quiet (quiet_trace 0 true) _ refl refl refl refl refl (λ x. refl) (λ i. refl) (λ x q. was_changed w.procs p.pid _ (λ o. refl) (λ o. refl) x q) refl refl
      (sym (raised_none (is_recorded w.recording p.space) w.recording.events)) refl (omega arith)

  -- ---- a call

  module _ (bytes : List ℕ) where
    abbrev a : Ask
    a = ask_of w p s.space bytes

    keeps_put : (others : List Ended) (r : Reply) → IsTold a r → (found : Result Bytes Span) → put_got r.space.bytes (writable_in r.space.maps) r.got ≡ found
        → Keeps ys (put (record w { ended = others }) a r found)
    unfolding served loads_in
    keeps_put others r is (Err span) wrote = tt
    keeps_put others r is (Ok m) wrote =
        let e : CallEntry = entry_of a r.value r.got in
        keeps_test ys (room_for (record w { ended = others }) a r) (went _ (call_trace (item_of e m) r.over)) full
        (λ room. goes_on (call_trace (item_of e m) r.over) _ refl refl (record {
          loads = refl;
          load_notes = refl;
          homes = λ x q there.
              let old = was_changed w.procs p.pid _ (λ o. refl) (λ o. refl) x q there in
              home_plain e x w.notes is.plain ∙ told.home.homes x old.0 old.1 ∙ ap Some old.2;
          calls = λ i. calls_more i e w.notes p.space at_home;
          keep = refl;
          launch = refl;
          events = refl;
          brought = ap (λ (lists : List (List ℕ)). w.recording.brought ++ (if is_recorded w.recording p.space then lists else [])) (sym (is.lists m wrote));
          plain = ((λ none. if_no (maps_file e) _ [] none), tt);
          more = omega arith;
        }))
        (λ none. tt)

    keeps_answered : (r : Row) → RowTold a r → Keeps ys (answered w a r)
    keeps_answered (replies r) is = keeps_put w.ended r is (put_got r.space.bytes (writable_in r.space.maps) r.got) refl
    keeps_answered (waits state) is = keeps_waited state

    keeps_refused : (e : Errno) → Keeps ys (answered w a (refuses a e))
    keeps_refused e = keeps_answered (refuses a e) (told_refused a e)

    -- with a list of those that have ended
    module _ (is : (a.number == 95) ≡ true) where
      isnt : (k : ℕ) → (95 == k) ≡ false → (a.number == k) ≡ false
      isnt k other = ap (λ (n : ℕ). n == k) (eqb_is a.number 95 is) ∙ other

      keeps_given : (others : List Ended) (value : ℕ) (got : List GotRange) → Keeps ys (answered (record w { ended = others }) a (gives a value got w.rest))
      keeps_given others value got =
          keeps_put others (record { value = value; got = got; rest = w.rest; space = s.space; over = false }) (told_other a (isnt 220 refl) (isnt 222 refl) (gives a value got w.rest))
          (put_got s.space.bytes (writable_in s.space.maps) got) refl

      keeps_reaped : (who : Who) (r : Result Waited Errno) → Keeps ys (reaped w a who r)
      keeps_reaped who (Ok (Child child how)) = keeps_given (without_first p.pid who w.ended) 0 (info_at (arg a 2) (child_info child how))
      keeps_reaped who (Ok NoneYet) = keeps_given w.ended 0 (info_at (arg a 2) no_info)
      keeps_reaped who (Ok Waits) = keeps_waited (Waiting who)
      keeps_reaped who (Err e) = keeps_refused e

      keeps_waitid : Keeps ys (waitid w a)
      unfolding waitid
      keeps_waitid = by (waitid_fault a)
        where
          by : (o : Option Errno) → Keeps ys (waitid_behind w a o)
          by (Some e) = keeps_refused e
          by None = keeps_reaped (who_of a) (told_in w a)

    -- ---- a call that ends its process

    keeps_exited : is_exit a.number ≡ true → Keeps ys (exited w a)
    unfolding exited ended loads_in
    keeps_exited exits =
        let e : CallEntry = entry_of a 0 [] in
        let plain : forks e ≡ false = ap (λ (b : Bool). b && not (is_errno 0)) (no_clone a.number exits) in
        let maps : maps_file e ≡ false = first_false (a.number == 222) _ _ (no_map a.number exits) in
        keeps_test ys (room_in w (weight_of bytes [])) (went _ (call_trace (plain_item e) true)) full
        (λ room. goes_on (call_trace (plain_item e) true) _ refl refl (record {
          loads = refl;
          load_notes = refl;
          homes = λ x q there.
              let old = was_left w.procs p x q there in
              home_end x p.pid _ _ ∙ home_plain e x w.notes plain ∙ told.home.homes x old.0 old.1 ∙ ap Some old.2;
          calls = λ i. calls_end i p.pid _ _ ∙ calls_more i e w.notes p.space at_home;
          keep = refl;
          launch = refl;
          events = refl;
          brought = sym (plain_lists (is_recorded w.recording p.space) (maps_file e) w.recording.brought maps);
          plain = ((λ none. refl), tt);
          more = omega arith;
        }))
        (λ none. tt)
      where
        no_clone : (n : ℕ) → is_exit n ≡ true → (n == 220) ≡ false
        no_clone n is = grind (arith, nat_tests)

        no_map : (n : ℕ) → is_exit n ≡ true → (n == 222) ≡ false
        no_map n is = grind (arith, nat_tests)

    -- ---- a child more

    module _ (is : (a.number == 220) ≡ true) where
      forks_so : forks (entry_of a w.next_pid []) ≡ true
      forks_so = both (a.number == 220) (is_errno w.next_pid) is (pid_isnt w sound)
        where
          both : (b c : Bool) → b ≡ true → c ≡ false → (b && not c) ≡ true
          both true true is other = absurd cc
          both true false is other = refl
          both false c is other = absurd cc

      keeps_forked : Keeps ys (forked w a)
      unfolding forked loads_in
      keeps_forked =
          let e : CallEntry = entry_of a w.next_pid [] in
          let maps : maps_file e ≡ false = first_false (a.number == 222) _ _ (ap (λ (n : ℕ). n == 222) (eqb_is a.number 220 is)) in
          keeps_test ys (room_in w (weight_of bytes [])) (went _ (call_trace (plain_item e) true)) full
          (λ room. goes_on (call_trace (plain_item e) true) _ refl refl (record {
            loads = refl;
            load_notes = refl;
            homes = λ x q there. elim (was_forked w a x q there) [
              | inl child ↦ home_child e x w.notes forks_so child.0 ∙ at_home ∙ ap Some (sym child.1)
              | inr other ↦ home_other e x w.notes other.0 ∙ told.home.homes x other.1.0 other.1.1 ∙ ap Some other.1.2
            ];
            calls = λ i. calls_more i e w.notes p.space at_home;
            keep = refl;
            launch = refl;
            events = refl;
            brought = sym (plain_lists (is_recorded w.recording p.space) (maps_file e) w.recording.brought maps);
            plain = ((λ none. refl), tt);
            more = omega arith;
          }))
          (λ none. tt)

      keeps_cloned : Keeps ys (cloned w a)
      unfolding cloned
      keeps_cloned =
          keeps_test ys (not (arg a 0 == vfork_flags)) (answered w a (refuses a _)) _ (λ other. keeps_refused _)
          (λ flags. keeps_test ys (is_full w) (answered w a (refuses a _)) (forked w a) (λ many. keeps_refused _) (λ few. keeps_forked))

    -- ---- another program

    module _ (is : (a.number == 221) ≡ true) where
      module _ (index : ℕ) (l : Loading) where
        abbrev e : CallEntry
        e = entry_of a 0 []

        -- the call, before its program begins
        abbrev mid : World
        mid = noted (call_note e) (counted_in p.space w)

        abbrev then_trace : Trace
        then_trace = record { space = p.space; events = 1; items = plain_item e ∷ []; begins = None; over = false }

        plain : forks e ≡ false
        plain = ap (λ (n : ℕ). n == 220 && not (is_errno 0)) (eqb_is a.number 221 is)

        told_mid : AreRecorded (change_at p.space (longer then_trace) ys) mid
        unfolding loads_in
        told_mid = recorded_after ys w told p.space given then_trace mid (record {
          loads = refl;
          load_notes = refl;
          homes = λ x q there. home_plain e x w.notes plain ∙ told.home.homes x q there;
          calls = λ i. calls_more i e w.notes p.space at_home;
          keep = refl;
          launch = refl;
          events = refl;
          brought = sym (plain_lists (is_recorded w.recording p.space) (maps_file e) w.recording.brought
              (first_false (a.number == 222) _ _ (ap (λ (n : ℕ). n == 222) (eqb_is a.number 221 is))));
          plain = ((λ none. refl), tt);
          more = omega arith;
        })

        keeps_executed : Keeps ys (executed w a index l)
        unfolding executed
        keeps_executed =
            keeps_test ys (room_in w (weight_of bytes [])) (went _ _) full
            (λ room. recorded_begun (change_at p.space (longer then_trace) ys) mid told_mid p.pid l (load_of p index l) _ (record {
              index = index;
              pages = block_pages l.original;
              is_note = refl;
              loads = refl;
              notes = refl;
              homes = λ x q there. elim (was_exec w p l lives x q there) [
                | inl own ↦ inl own
                | inr other ↦ inr (other.0, home_plain e x w.notes plain ∙ told.home.homes x other.1.0 other.1.1 ∙ ap Some other.1.2)
              ];
              recording = refl;
              more = omega arith;
            }))
            (λ none. tt)

      keeps_exec_at : (f : Found) (strings : ProgramStrings) (page : Option ℕ) → Keeps ys (exec_at w a f strings page)
      keeps_exec_at f strings None = keeps_refused _
      keeps_exec_at f strings (Some page) = keeps_executed f.index (record { original = f.original; block = address_of page; args = strings.args; env = strings.env })

      keeps_exec_program : (strings : ProgramStrings) (o : Result Found Errno) → Keeps ys (exec_program w a strings o)
      keeps_exec_program strings (Err e) = keeps_refused e
      keeps_exec_program strings (Ok f) =
          keeps_test ys (frame_fits f.original strings.args strings.env) (exec_at w a f strings (taken w (block_pages f.original) (free w))) (answered w a (refuses a _))
          (λ fits. keeps_exec_at f strings (taken w (block_pages f.original) (free w))) (λ big. keeps_refused _)

      keeps_exec_strings : (o : Option ProgramStrings) → Keeps ys (exec_strings w a o)
      keeps_exec_strings (Some strings) = keeps_exec_program strings (runs w.rest (path_of a))
      keeps_exec_strings None = keeps_refused _

      keeps_exec : Keeps ys (exec w a)
      unfolding exec
      keeps_exec =
          keeps_test ys (has_zero bytes) (exec_strings w a (program_strings bytes (arg a 1) (arg a 2))) (answered w a (refuses a _))
          (λ ends. keeps_exec_strings (program_strings bytes (arg a 1) (arg a 2))) (λ none. keeps_refused _)

  -- ---- any event

  keeps_asked : (found : Result (List ℕ) Span) → Keeps ys (asked w p s.space found)
  keeps_asked (Err span) = tt
  keeps_asked (Ok bytes) =
      let a : Ask = ask_of w p s.space bytes in
      keeps_test ys (is_exit a.number) (exited w a) _ (λ exits. keeps_exited bytes exits)
      (λ stays. keeps_test ys (a.number == 95) (waitid w a) _ (λ asks. keeps_waitid bytes asks)
      (λ others. keeps_test ys (a.number == 220) (cloned w a) _ (λ clones. keeps_cloned bytes clones)
      (λ no_clone. keeps_test ys (a.number == 221) (exec w a) (answered w a (row a)) (λ execs. keeps_exec bytes execs)
      (λ no_execve. keeps_answered bytes (row a) (told_row a no_clone)))))

  keeps_effect : (m : Meaning) → Keeps ys (effect w p s.space m)
  unfolding answer
  keeps_effect (next regs bytes) = keeps_stepped regs bytes
  keeps_effect (trap signal) = keeps_settled ys (trapped w p signal) (keeps_trapped signal)
  keeps_effect (refused access) = tt
  keeps_effect call = keeps_settled ys (answer w p s.space) (keeps_asked (sent (number_of p.regs) (args_of p.regs) s.space.bytes))

module _ (ys : List Stay) (w : World) (sound : IsSound w) (told : AreRecorded ys w) where
  keeps_in : (p : Process) → find pid_of p.pid w.procs ≡ Some p → (found : Option LiveSpace) → find id_of p.space w.spaces ≡ found
      → Keeps ys (in_space (λ q s. effect w q s (meaning q.regs s.bytes (writable_in s.maps))) p found)
  keeps_in p lives None has = tt
  keeps_in p lives (Some s) has = keeps_effect ys w sound told p s lives has (meaning p.regs s.space.bytes (writable_in s.space.maps))

  keeps_by : (pid : ℕ) (found : Option Process) → find pid_of pid w.procs ≡ found
      → Keeps ys (by_process w.spaces (λ q s. effect w q s (meaning q.regs s.bytes (writable_in s.maps))) found)
  keeps_by pid None lives = tt
  keeps_by pid (Some p) lives =
      keeps_in p (ap (λ n. find pid_of n w.procs) (find_has pid_of pid w.procs p lives) ∙ lives) (find id_of p.space w.spaces) refl

  keeps_event : (pid : ℕ) → Keeps ys (event w pid)
  unfolding event at_process
  keeps_event pid = keeps_by pid (find pid_of pid w.procs) refl

pub events_record : EventsRecord
events_record ys w pid now t sound may told is = subst (Keeps ys) is (keeps_event ys w sound told pid)
