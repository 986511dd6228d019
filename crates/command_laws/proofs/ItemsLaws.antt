-- What a run records of one space is the stay of that space, and its text is what is stored.
use Rattle.std.proofs.Common.{◌≡◌, ℕ, zero, suc, ◌+◌, ◌≤◌, true, List, [], ◌∷◌, ◌++◌, map, filter, Option, Some, None, refl, ap, subst, ◌∙◌, arith}
use Rattle.std.specs.Prelude.{option_map, slice_get}
use Rattle.std.specs.FinMap.{insert}
use Rattle.host_io.specs.Host.{Told}
use Rattle.page_runs.specs.declared.place.Kind.{Kind}
use Rattle.quantum_sched.specs.declared.Quantum.{Quantum}
use Rattle.items_text.specs.Items.{ItemValue}
use Rattle.manifest_text.specs.Values.{Item, Manifest}
use Rattle.manifest_text.specs.Laws.{Reasonable}
use Rattle.machine_world.specs.World.{World}
use Rattle.machine_world.specs.Recordings.{is_kept, most_count}
use Rattle.machine_world.specs.Boot.{empty_world}
use Rattle.alone_laws.specs.Stays.{Stay, first_stays}
use Rattle.alone_laws.proofs.Lists.{eqb_same}
use Rattle.recording_laws.specs.Items.{with_lists, launch_in, AreRecorded}
use Rattle.recording_laws.proofs.Runs.{boots_record, runs_record, recordings_tell}
use Rattle.recorded_items.specs.Recorded.{kept_space, calls_of, told_item, items_with, recorded}
use Rattle.region_watch.specs.declared.mode.Mode.TheVariants.{Halt}
use Rattle.flat_machine.specs.Runs.{repeated}
use Rattle.file_commands.specs.Outcome.{Request, load, store, Outcome}
use Rattle.file_commands.specs.Arguments.{Invocation}
use Rattle.file_commands.specs.Items.{has_file}
use Rattle.file_commands.specs.HostCourse.{AreLoads, after_answer, after_answers}
use Rattle.suite_top.specs.Telling.{Report}
use Rattle.suite_top.specs.KeptItems.{text_or_none, kept_text}
use Rattle.suite_top.specs.Result.{command_outcome}
use Rattle.suite_top.specs.Run.{start_line, opening, run_outcome}
use Rattle.suite_top.specs.Call.{outcome_of}
use Rattle.suite_top.proofs.Booted.{kept_boot, no_event_yet, events_fit}
use Rattle.command_laws.specs.Booted.{Booted, last_world, booted_stays}
use Rattle.command_laws.specs.RunLaws.{Opens, opened_outcome, IsStop}
use Rattle.command_laws.specs.Beside.{halting}
use Rattle.command_laws.specs.ItemsLaws.{items_of_stay, stay_at, TextsAreOfStays, ItemsAreStored}
use Rattle.command_laws.proofs.KeptWorlds.{keep_stays, events_most}
use Rattle.command_laws.proofs.OneFileLaws.{shows}
use Rattle.command_laws.proofs.Headline.{stops_answer}
use Rattle.command_laws.proofs.BootedRuns.{sound}
use Rattle.command_laws.proofs.RunLaws.{reasonable, runs_where_it_opens, opens_where_it_stops}

-- ---- what is recorded

module _ (ys : List Stay) (w : World) (told : AreRecorded ys w) (most : w.events ≤ most_count) where
  nothing : w.recording.launch ≡ None → recorded w.recording w.notes ≡ None
  nothing none = ap (option_map (λ l. items_with l w.recording w.notes)) none

  -- of space i
  module _ (i : ℕ) (keep : w.recording.keep ≡ suc i) where
    is_here : is_kept w.recording.keep i ≡ true
    is_here = ap (λ k. is_kept k i) keep ∙ eqb_same i i refl

    tells : (o : Option Stay) → slice_get ys i ≡ o → recorded w.recording w.notes ≡ option_map items_of_stay o
    tells None none = nothing ((told.follows i is_here).launch ∙ ap (option_map launch_in) none)
    tells (Some y) there =
        let t = recordings_tell ys w i y told is_here there in
        let items : map told_item (with_lists (calls_of (kept_space w.recording.keep) w.notes) w.recording.brought) ≡ map told_item y.items =
        ap (λ k. map told_item (with_lists (calls_of (kept_space k) w.notes) w.recording.brought)) keep ∙ ap (map told_item) t.items in
        ap (option_map (λ l. items_with l w.recording w.notes)) t.launch
        ∙ ap (λ n. Some (record (items_with (launch_in y) w.recording w.notes) { events = n })) (t.events most)
        ∙ ap (λ (list : List ItemValue). Some (record (items_of_stay y) { list = list })) items

  pub recorded_is : (keep : ℕ) → w.recording.keep ≡ keep → recorded w.recording w.notes ≡ option_map items_of_stay (stay_at keep ys)
  recorded_is zero keep = nothing (told.none keep)
  recorded_is (suc i) keep = tells i keep (slice_get ys i) refl

-- ---- of a run

module _ {keep : ℕ} {kind : Kind} {m : Manifest} {files : List (List ℕ)} (is : Reasonable m) (b : Booted keep kind m files) where
  abbrev quanta : List Quantum
  quanta = repeated m.repeat m.quanta

  keeps : (last_world b).recording.keep ≡ keep
  keeps = keep_stays keep quanta b.world (kept_boot (λ v. v.recording.keep) (λ v i l. refl) (opening keep kind m b.brought) (map start_line m.starts) b.world b.boots)

  few : (last_world b).events ≤ most_count
  few =
      let none = no_event_yet (opening keep kind m b.brought) (map start_line m.starts) b.world b.boots in
      let most = events_most m.repeat m.quanta b.world in
      let fit = events_fit m is b.world.events none in
      omega (arith, most, fit)

  told : AreRecorded (booted_stays b) (last_world b)
  told =
      let rest = opening keep kind m b.brought in
      let starts = map start_line m.starts in
      runs_record (first_stays (empty_world rest) starts) quanta b.world (sound is b) (boots_record rest starts b.world b.boots)

  pub is_stay_text : kept_text (last_world b) ≡ text_or_none (option_map items_of_stay (stay_at keep (booted_stays b)))
  is_stay_text = ap text_or_none (recorded_is (booted_stays b) (last_world b) told few keep keeps)

pub texts_are_of_stays : TextsAreOfStays
texts_are_of_stays inputs name keep kind o = is_stay_text (reasonable o) o.booted

-- ---- of a call

-- behind loads one store
stored_last : (requests : List Request) (name bytes : List ℕ) (t : Told) → AreLoads requests → (after_answers t (requests ++ store name bytes ∷ [])).files ≡ insert t.files name bytes
stored_last [] name bytes t are = refl
stored_last (load other ∷ requests) name bytes t are = stored_last requests name bytes (after_answer t (load other)) are
stored_last (store other more ∷ requests) name bytes t are = absurd are

all_loads : (items : List Item) → AreLoads (map (λ i. load i.name) items)
all_loads [] = tt
all_loads (item ∷ items) = all_loads items

pub items_are_stored : ItemsAreStored
items_are_stored c t t_after manifest options kept is stop =
    let telling = Report (record options { mode = Halt; kept = Some kept }) in
    let told = shows c t t_after is.files (outcome_of c) refl (stops_answer c.status stop) in
    let same : outcome_of c ≡ run_outcome manifest telling c.inputs = ap (λ (o : Option Invocation). command_outcome o c.inputs) is.command in
    let stops = subst IsStop (told.status ∙ ap (λ (x : Outcome). x.ending.status) same) stop in
    let opens : Opens c.inputs manifest kept.number options.kind = opens_where_it_stops c.inputs manifest telling stops in
    let opened : outcome_of c ≡ opened_outcome telling opens = same ∙ runs_where_it_opens c.inputs manifest telling opens in
    let requests = load manifest ∷ map (λ (i : Item). load i.name) (filter (λ (i : Item). has_file i.kind) opens.manifest.items) in (
      opens,
      ap (λ (u : Told). u.files) told.told
          ∙ ap (λ (x : Outcome). (after_answers t x.requests).files) opened
          ∙ stored_last requests kept.file (kept_text (halting opens).world) t (all_loads (filter (λ (i : Item). has_file i.kind) opens.manifest.items))
          ∙ ap (insert t.files kept.file) (texts_are_of_stays c.inputs manifest kept.number options.kind opens),
    )
