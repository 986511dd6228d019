-- The items that a run records are those of the stay of its load note, and have a text.
use Rattle.std.proofs.Common.{◌≡◌, ◌≢◌, ℕ, zero, suc, ◌≤◌, Bool, true, false, List, [], ◌∷◌, map, length, Option, Some, None, Ok, refl, sym, ap, subst, ◌∙◌, arith}
use Rattle.std.specs.Prelude.{◌==◌, ◌&&◌, if◌then◌else◌, slice_get, option_map}
use Rattle.std.specs.List.{AllByRecursion}
use Rattle.std.proofs.lemmas.Option.{same_Some}
use Rattle.call_log.specs.Notes.{CallEntry, Note, call_note, load_note, end_note, stray_note}
use Rattle.vfork_exec.specs.Procs.{most_entries}
use Rattle.flat_loader.specs.Begin.{Loading}
use Rattle.flat_loader.specs.Alone.{Item}
use Rattle.quantum_sched.specs.declared.Quantum.{Quantum}
use Rattle.items_text.specs.Items.{ItemsValue, IsBase, IsItem, AreSpelled}
use Rattle.machine_world.specs.World.{Launch, Recording, Rest, World}
use Rattle.machine_world.specs.Recordings.{most_count, is_kept, is_recorded}
use Rattle.machine_world.specs.Event.{maps_file, plain_item}
use Rattle.machine_world.specs.Turns.{turns}
use Rattle.machine_world.specs.Boot.{StartLine, empty_world, boot}
use Rattle.alone_laws.specs.Stays.{Stay, first_stays}
use Rattle.alone_laws.specs.Sound.{IsSound}
use Rattle.alone_laws.specs.Laws.{CanBoot}
use Rattle.alone_laws.proofs.Lists.{eqb_other, eqb_same}
use Rattle.alone_laws.proofs.SoundBegins.{some_pages}
use Rattle.alone_laws.proofs.SoundRuns.{boots_are_sound}
use Rattle.recording_laws.specs.Homes.{home, is_in, calls_at}
use Rattle.recording_laws.specs.Items.{first_list, other_lists, with_lists, launch_in, AreRecorded}
use Rattle.recording_laws.proofs.Runs.{boots_record, runs_record, recordings_tell}
use Rattle.recorded_items.specs.Recorded.{kept_space, calls_of, told_item, items_with, recorded}
use Rattle.recorded_items.specs.Spelled.{IsLoaded, IsAnswered, IsNoted, HasLoaded, AreReadable}
use Rattle.recorded_items.specs.Laws.{items_of_stay, stay_of, stays_behind, ItemsAreOfTheStay, AreStrings, ItemsAreSpelled}
use Rattle.recorded_items.proofs.Readable.{all_append}
use Rattle.recorded_items.proofs.ReadableRuns.{readable_boots, readable_runs}
use Rattle.recorded_items.proofs.SameKeep.{boot_keeps, keep_stays}

-- ---- what is recorded is of a stay, if anything is

module _ (ys : List Stay) (w : World) (told : AreRecorded ys w) where
  recorded_by : (o : Option Launch) → w.recording.launch ≡ o → recorded w.recording w.notes ≡ option_map (λ l. items_with l w.recording w.notes) o
  recorded_by o is = ap (option_map (λ l. items_with l w.recording w.notes)) is

  kept_here : (space : ℕ) → w.recording.keep ≡ suc space → is_recorded w.recording space ≡ true
  kept_here space keep = ap (λ k. is_kept k space) keep ∙ eqb_same space space refl

  kept_in : (space : ℕ) (o : Option Stay) → w.recording.keep ≡ suc space → slice_get ys space ≡ o → w.events ≤ most_count → recorded w.recording w.notes ≡ option_map items_of_stay o
  kept_in space None keep there few =
      let is : is_recorded w.recording space ≡ true = kept_here space keep in
      recorded_by None ((told.follows space is).launch ∙ ap (option_map launch_in) there)
  kept_in space (Some y) keep there few =
      let is : is_recorded w.recording space ≡ true = kept_here space keep in
      let tells = recordings_tell ys w space y told is there in
      let calls : calls_of (kept_space w.recording.keep) w.notes ≡ calls_at space w.notes = ap (λ k. calls_of (kept_space k) w.notes) keep in
      recorded_by (Some (launch_in y)) tells.launch
      ∙ ap (λ (n : ℕ). Some (record (items_with (launch_in y) w.recording w.notes) { events = n })) (tells.events few)
      ∙ ap (λ (items : List Item). Some (record (items_of_stay y) { list = map told_item items })) (ap (λ cs. with_lists cs w.recording.brought) calls ∙ tells.items)

  kept_by : (keep : ℕ) → w.recording.keep ≡ keep → w.events ≤ most_count → recorded w.recording w.notes ≡ option_map items_of_stay (stay_of keep ys)
  kept_by zero is few = recorded_by None (told.none is)
  kept_by (suc space) is few = kept_in space (slice_get ys space) is refl few

-- ---- and it has a text

answered_calls : (i : ℕ) (notes : List Note) → AllByRecursion IsNoted notes → AllByRecursion IsAnswered (calls_at i notes)
unfolding calls_at
answered_calls i [] all = tt
answered_calls i (call_note e ∷ notes) all = all_append IsAnswered (calls_at i notes) _ (answered_calls i notes all.1) (by (is_in i (home e.pid notes)))
  where
    by : (b : Bool) → AllByRecursion IsAnswered (if b then e ∷ [] else [])
    by true = (all.0, tt)
    by false = tt
answered_calls i (load_note l ∷ notes) all = answered_calls i notes all.1
answered_calls i (end_note pid how ∷ notes) all = answered_calls i notes all.1
answered_calls i (stray_note pid seen ∷ notes) all = answered_calls i notes all.1

answered_of : (o : Option ℕ) (notes : List Note) → AllByRecursion IsNoted notes → AllByRecursion IsAnswered (calls_of o notes)
answered_of None notes all = tt
answered_of (Some space) notes all = answered_calls space notes all

first_false : (b c d : Bool) → b ≡ false → (b && c && d) ≡ false
first_false true c d is = absurd cc
first_false false c d is = refl

-- a call that maps a file is an mmap2
is_map : (e : CallEntry) → maps_file e ≡ true → e.call ≢ 222 → ⊥
is_map e maps other = let none : maps_file e ≡ false = first_false (e.call == 222) _ _ (eqb_other e.call 222 other) in let never : false ≡ true = sym none ∙ maps in cc

spelled_items : (calls : List CallEntry) (lists : List (List ℕ)) → AllByRecursion IsAnswered calls → AllByRecursion IsItem (map told_item (with_lists calls lists))
unfolding with_lists
spelled_items [] lists all = tt
spelled_items (e ∷ calls) lists all = by (λ others. spelled_items calls others all.1) (maps_file e) refl
  where
    by : ((others : List (List ℕ)) → AllByRecursion IsItem (map told_item (with_lists calls others))) → (b : Bool) → maps_file e ≡ b
        → AllByRecursion IsItem (map told_item (if b then record { entry = e; brought = first_list lists } ∷ with_lists calls (other_lists lists) else plain_item e ∷ with_lists calls lists))
    by more true is = (record { args = all.0.args; got = all.0.got; brought = λ other. absurd (is_map e is other) }, more (other_lists lists))
    by more false is = (record { args = all.0.args; got = all.0.got; brought = λ other. refl }, more lists)

is_base : (l : Loading) → IsLoaded l → IsBase l.block
is_base l is =
    let at = is.block in
    let inside = is.inside in
    let some = some_pages l.original in
    record { on_page = omega (arith, at); from = omega (arith, at); to = omega (arith, at, inside, some) }

spelled_with : (y : Stay) (r : Recording) (notes : List Note) → HasLoaded y → AllByRecursion IsNoted notes → AreSpelled (items_with (launch_in y) r notes)
spelled_with y r notes is all = record {
  base = is_base y.loading is;
  args = is.args;
  env = is.env;
  list = spelled_items (calls_of (kept_space r.keep) notes) r.brought (answered_of (kept_space r.keep) notes all);
}

pub has_loaded : (ys : List Stay) (i : ℕ) (y : Stay) → AllByRecursion HasLoaded ys → slice_get ys i ≡ Some y → HasLoaded y
has_loaded [] i y all there = absurd cc
has_loaded (x ∷ xs) zero y all there = subst HasLoaded (same_Some x y there) all.0
has_loaded (x ∷ xs) (suc i) y all there = has_loaded xs i y all.1 there

module _ (ys : List Stay) (w : World) (told : AreRecorded ys w) (are : AreReadable ys w) (items : ItemsValue) (is : recorded w.recording w.notes ≡ Some items) where
  none_is : w.recording.launch ≡ None → AreSpelled items
  none_is none = absurd (let never : None ≡ Some items = sym (recorded_by ys w told None none) ∙ is in cc)

  spelled_in : (space : ℕ) (o : Option Stay) → w.recording.keep ≡ suc space → slice_get ys space ≡ o → AreSpelled items
  spelled_in space None keep there = none_is ((told.follows space (kept_here ys w told space keep)).launch ∙ ap (option_map launch_in) there)
  spelled_in space (Some y) keep there =
      let launch : w.recording.launch ≡ Some (launch_in y) = (told.follows space (kept_here ys w told space keep)).launch ∙ ap (option_map launch_in) there in
      let same : Some (items_with (launch_in y) w.recording w.notes) ≡ Some items = sym (recorded_by ys w told (Some (launch_in y)) launch) ∙ is in
      subst AreSpelled (same_Some _ items same) (spelled_with y w.recording w.notes (has_loaded ys space y are.loads there) are.notes)

  pub spelled_by : (keep : ℕ) → w.recording.keep ≡ keep → AreSpelled items
  spelled_by zero none = none_is (told.none none)
  spelled_by (suc space) keep = spelled_in space (slice_get ys space) keep refl

-- ---- from boot on

module _ (rest : Rest) (starts : List StartLine) (w : World) (quanta : List Quantum) (can : CanBoot rest) (few : length starts ≤ most_entries) (is : boot rest starts ≡ Ok w) where
  abbrev now : World
  now = (turns quanta w).world

  abbrev ys : List Stay
  ys = stays_behind rest starts w quanta

  pub sound : IsSound w
  sound = boots_are_sound rest starts w can few is

  pub told : AreRecorded ys now
  told = runs_record (first_stays (empty_world rest) starts) quanta w sound (boots_record rest starts w is)

  pub readable : AreStrings starts → AreReadable ys now
  readable clear = readable_runs (first_stays (empty_world rest) starts) quanta w sound (readable_boots rest starts w can.most clear is)

  pub same_keep : now.recording.keep ≡ rest.keep
  same_keep = keep_stays rest.keep quanta w (boot_keeps rest starts w is)

pub items_are_of_the_stay : ItemsAreOfTheStay
items_are_of_the_stay rest starts w quanta can few is within =
    kept_by (stays_behind rest starts w quanta) (turns quanta w).world (told rest starts w quanta can few is) rest.keep (same_keep rest starts w quanta can few is) within

pub items_are_spelled : ItemsAreSpelled
items_are_spelled rest starts w quanta items can few clear is tells =
    spelled_by (stays_behind rest starts w quanta) (turns quanta w).world (told rest starts w quanta can few is) (readable rest starts w quanta can few is clear) items tells
    rest.keep (same_keep rest starts w quanta can few is)
