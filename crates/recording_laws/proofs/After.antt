-- What is recorded is right behind an event in one space, and where a program begins in a new one.
use Rattle.std.proofs.Common.{◌≡◌, ◌≢◌, ℕ, zero, suc, ◌+◌, ◌<◌, ◌≤◌, ◌⊎◌, true, false, inl, inr, List, [], ◌∷◌, ◌++◌, length, Option, Some, refl, sym, ap, subst, ◌∙◌, arith, length-append}
use Rattle.std.specs.Prelude.{◌==◌, option_map, slice_get, if◌then◌else◌}
use Rattle.std.proofs.lemmas.Bool.{cases_Bool}
use Rattle.call_log.specs.Notes.{Note, load_note}
use Rattle.vfork_exec.specs.Keyed.{find}
use Rattle.flat_loader.specs.Begin.{Loading}
use Rattle.machine_world.specs.World.{Process, Recording, World, pid_of}
use Rattle.machine_world.specs.Recordings.{is_kept, is_recorded, launch_of, launched, raised, raised_in}
use Rattle.machine_world.specs.Event.{Trace}
use Rattle.machine_world.proofs.Raised.{raised_twice}
use Rattle.alone_laws.specs.Stays.{Stay, change_at, longer}
use Rattle.alone_laws.proofs.Lists.{eqb_is, eqb_isnt, eqb_same, eqb_other, if_yes, if_no, length-change_at, changed_here, changed_beside, more_item}
use Rattle.recording_laws.specs.Homes.{loads_in, home, calls_at, items_of, entries_of, AreAtHome}
use Rattle.recording_laws.specs.Items.{launch_in, events_of, lists_of, ArePlain, FollowsStay, AreRecorded}
use Rattle.recording_laws.proofs.Lists.{items_after, events_after, launch_after, pushed_own, pushed_beside, by_push, entries_if, lists_if, plain_if}

-- one space alone is recorded
pub recorded_by : (keep i space : ℕ) → is_kept keep i ≡ true → is_kept keep space ≡ (space == i)
recorded_by zero i space is = absurd cc
recorded_by (suc keep) i space is =
    let same : keep ≡ i = eqb_is keep i is in
    elim (cases_Bool (space == i)) [
      | inl here ↦ eqb_same keep space (same ∙ sym (eqb_is space i here)) ∙ sym here
      | inr away ↦ eqb_other keep space (λ e. eqb_isnt space i away (sym e ∙ same)) ∙ sym away
    ]

-- ---- an event in a space, by which no program begins

pub record Goes (w : World) (space : ℕ) (t : Trace) (now : World) : Type 0 where
  pub loads : now.loads ≡ w.loads
  pub load_notes : loads_in now.notes ≡ loads_in w.notes
  pub homes : (pid : ℕ) (p : Process) → find pid_of pid now.procs ≡ Some p → home pid now.notes ≡ Some p.space
  pub calls : (i : ℕ) → calls_at i now.notes ≡ calls_at i w.notes ++ (if space == i then entries_of t.items else [])
  pub keep : now.recording.keep ≡ w.recording.keep
  pub launch : now.recording.launch ≡ w.recording.launch
  pub events : now.recording.events ≡ raised_in w.recording space t.events
  pub brought : now.recording.brought ≡ w.recording.brought ++ (if is_recorded w.recording space then lists_of t.items else [])
  pub plain : ArePlain t.items
  pub more : w.events + t.events ≤ now.events

module _ (ys : List Stay) (w : World) (told : AreRecorded ys w) (space : ℕ) (given : space < w.loads) (t : Trace) (now : World) (goes : Goes w space t now) where
  less : space < length ys
  less = let count = told.home.count in omega (arith, given, count)

  abbrev behind : List Stay
  behind = change_at space (longer t) ys

  home_after : AreAtHome behind now
  home_after = record {
    count = length-change_at (longer t) space ys ∙ told.home.count ∙ sym goes.loads;
    loads = goes.load_notes ∙ told.home.loads ∙ sym goes.loads;
    homes = goes.homes;
    calls = λ i.
        goes.calls i ∙ ap (λ l. l ++ (if space == i then entries_of t.items else [])) (told.home.calls i)
        ∙ sym (entries_if (space == i) (items_of (slice_get ys i)) t.items) ∙ ap entries_of (sym (items_after t space ys less i));
  }

  counted_after : (i : ℕ) (y : Stay) → slice_get behind i ≡ Some y → y.events ≤ now.events
  counted_after i y there = elim (cases_Bool (space == i)) [
    | inl here ↦
        let same : space ≡ i = eqb_is space i here in
        let was = changed_here (longer t) space ys y (ap (slice_get behind) same ∙ there) in
        let old = told.counted space was.old was.there in
        let is : was.old.events + t.events ≡ y.events = ap (λ (z : Stay). z.events) was.is in
        let more = goes.more in
        omega (arith, old, is, more)
    | inr away ↦
        let ne : space ≢ i = eqb_isnt space i away in
        let old = told.counted i y (sym (changed_beside (longer t) space i ys (λ e. ne (sym e))) ∙ there) in
        let more = goes.more in
        omega (arith, old, more)
  ]

  follows_after : (i : ℕ) → is_recorded now.recording i ≡ true → FollowsStay (slice_get behind i) now.recording
  follows_after i is =
      let was : is_recorded w.recording i ≡ true = ap (λ keep. is_kept keep i) (sym goes.keep) ∙ is in
      let f = told.follows i was in
      let by : is_recorded w.recording space ≡ (space == i) = recorded_by w.recording.keep i space was in
      let o : Option Stay = slice_get ys i in
      record {
        launch = goes.launch ∙ f.launch ∙ sym (launch_after t space ys less i);
        events =
            goes.events ∙ (λ j. raised (if by j then t.events else 0) (f.events j))
            ∙ raised_twice true (events_of o) (if space == i then t.events else 0) 0
            ∙ ap (λ n. raised n 0) (sym (events_after t space ys less i));
        lists =
            goes.brought ∙ (λ j. f.lists j ++ (if by j then lists_of t.items else []))
            ∙ sym (lists_if (space == i) (items_of o) t.items) ∙ ap lists_of (sym (items_after t space ys less i));
        plain = subst ArePlain (sym (items_after t space ys less i)) (plain_if (space == i) (items_of o) t.items f.plain goes.plain);
      }

  pub recorded_after : AreRecorded behind now
  recorded_after = record {
    home = home_after;
    counted = counted_after;
    follows = follows_after;
    none = λ keep. goes.launch ∙ told.none (sym goes.keep ∙ keep);
  }

-- ---- a program begins in a new space

pub record Begins (mid : World) (pid : ℕ) (l : Loading) (note : Note) (now : World) : Type 0 where
  pub index : ℕ
  pub pages : ℕ
  pub is_note : note ≡ load_note (record { pid = pid; program = index; base = l.block; pages = pages })
  pub loads : now.loads ≡ mid.loads + 1
  pub notes : now.notes ≡ note ∷ mid.notes
  pub homes : (x : ℕ) (q : Process) → find pid_of x now.procs ≡ Some q
      → ((pid ≡ x) × (q.space ≡ mid.loads)) ⊎ ((pid ≢ x) × (home x mid.notes ≡ Some q.space))
  pub recording : now.recording ≡ launched mid.loads pid l mid.recording
  pub more : mid.events ≤ now.events

module _ (zs : List Stay) (mid : World) (told : AreRecorded zs mid) (pid : ℕ) (l : Loading) (note : Note) (now : World) (begins : Begins mid pid l note now) where
  abbrev new : Stay
  new = record { loading = l; pid = pid; items = []; events = 0 }

  are : now.notes ≡ load_note (record { pid = pid; program = begins.index; base = l.block; pages = begins.pages }) ∷ mid.notes
  are = begins.notes ∙ ap (λ n. n ∷ mid.notes) begins.is_note

  items_pushed : (i : ℕ) → items_of (slice_get (zs ++ new ∷ []) i) ≡ items_of (slice_get zs i)
  items_pushed = by_push items_of new refl zs

  home_begun : AreAtHome (zs ++ new ∷ []) now
  unfolding loads_in home calls_at
  home_begun = record {
    count = length-append zs (new ∷ []) ∙ ap (λ n. n + 1) told.home.count ∙ sym begins.loads;
    loads = ap loads_in are ∙ ap (λ n. n + 1) told.home.loads ∙ sym begins.loads;
    homes = λ x q lives. ap (home x) are ∙ elim (begins.homes x q lives) [
      | inl own ↦ if_yes (pid == x) (Some (loads_in mid.notes)) (home x mid.notes) (eqb_same pid x own.0) ∙ ap Some (told.home.loads ∙ sym own.1)
      | inr other ↦ if_no (pid == x) (Some (loads_in mid.notes)) (home x mid.notes) (eqb_other pid x other.0) ∙ other.1
    ];
    calls = λ i. ap (calls_at i) are ∙ told.home.calls i ∙ ap entries_of (sym (items_pushed i));
  }

  same_keep : now.recording.keep ≡ mid.recording.keep
  same_keep = ap (λ (r : Recording). r.keep) begins.recording

  launch_begun : (i : ℕ) → is_recorded mid.recording i ≡ true → mid.recording.launch ≡ option_map launch_in (slice_get zs i)
      → (launched mid.loads pid l mid.recording).launch ≡ option_map launch_in (slice_get (zs ++ new ∷ []) i)
  launch_begun i is was =
      let by : is_recorded mid.recording mid.loads ≡ (mid.loads == i) = recorded_by mid.recording.keep i mid.loads is in
      elim (cases_Bool (mid.loads == i)) [
        | inl here ↦
            let at : length zs ≡ i = told.home.count ∙ eqb_is mid.loads i here in
            if_yes (is_recorded mid.recording mid.loads) (Some (launch_of pid l)) mid.recording.launch (by ∙ here)
            ∙ sym (ap (λ j. option_map launch_in (slice_get (zs ++ new ∷ []) j)) (sym at) ∙ ap (option_map launch_in) (pushed_own zs new))
        | inr away ↦
            let ne : length zs ≢ i = λ e. eqb_isnt mid.loads i away (sym told.home.count ∙ e) in
            if_no (is_recorded mid.recording mid.loads) (Some (launch_of pid l)) mid.recording.launch (by ∙ away) ∙ was
            ∙ ap (option_map launch_in) (sym (pushed_beside zs new i ne))
      ]

  follows_begun : (i : ℕ) → is_recorded now.recording i ≡ true → FollowsStay (slice_get (zs ++ new ∷ []) i) now.recording
  follows_begun i is =
      let was : is_recorded mid.recording i ≡ true = ap (λ keep. is_kept keep i) (sym same_keep) ∙ is in
      let f = told.follows i was in
      record {
        launch = ap (λ (r : Recording). r.launch) begins.recording ∙ launch_begun i was f.launch;
        events = ap (λ (r : Recording). r.events) begins.recording ∙ f.events ∙ ap (λ n. raised n 0) (sym (by_push events_of new refl zs i));
        lists = ap (λ (r : Recording). r.brought) begins.recording ∙ f.lists ∙ ap lists_of (sym (items_pushed i));
        plain = subst ArePlain (sym (items_pushed i)) f.plain;
      }

  none_kept : (keep space : ℕ) → keep ≡ 0 → is_kept keep space ≡ false
  none_kept keep space is = ap (λ k. is_kept k space) is

  pub recorded_begun : AreRecorded (zs ++ new ∷ []) now
  recorded_begun = record {
    home = home_begun;
    counted = λ i y there. elim (more_item zs new i y there) [
      | inl old ↦ (let was = told.counted i y old in let more = begins.more in omega (arith, was, more))
      | inr own ↦ (let none : y.events ≡ 0 = ap (λ (z : Stay). z.events) own.1 in omega (arith, none))
    ];
    follows = follows_begun;
    none = λ keep.
        let was : mid.recording.keep ≡ 0 = sym same_keep ∙ keep in
        ap (λ (r : Recording). r.launch) begins.recording
        ∙ if_no (is_recorded mid.recording mid.loads) (Some (launch_of pid l)) mid.recording.launch (none_kept mid.recording.keep mid.loads was) ∙ told.none was;
  }
