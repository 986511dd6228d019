-- An event of a run, by the event within reach: behind the run's first stray access comes its note.
use Rattle.std.proofs.Common.{◌≡◌, ◌≢◌, ℕ, suc, ◌+◌, Bool, true, false, List, [], Some, None, Result, Ok, Err, refl, sym, ap, subst, ◌∙◌, arith}
use Rattle.std.specs.Prelude.{IfOk, OnErr}
use Rattle.std.specs.Result.{IsErr}
use Rattle.std.specs.declared.alloc.AllocError.{AllocError}
use Rattle.std.proofs.lemmas.Bool.{false≢true}
use Rattle.page_runs.specs.declared.place.Kind.{Kind}
use Rattle.bflt_format.specs.Values.{Values}
use Rattle.byte_words.specs.declared.access.Access.{Access}
use Rattle.rv32im_step.specs.declared.stop.Stop.{Stop}
use Rattle.rv32im_step.specs.declared.stop.Stop.TheVariants.{Next, Call, Trap, Refused}
use Rattle.call_log.specs.Notes.{stray_note}
use Rattle.vfork_exec.specs.Procs.{CanRun}
use Rattle.machine_world.specs.World.{World}
use Rattle.machine_world.specs.Event.{Outcome, went, strays, full, idle, noted, stray_in, stray, event}
use Rattle.memory_world.specs.Physical.{Physical, After as Outcome_in, after as goes, no_room, nobody, has_stray, first_stray_in, with_stray, event_in, turn_in, WalkIn}
use Rattle.memory_world.specs.Courses.{LeadsIn, StandsIn}
use Rattle.memory_world.specs.After.{AfterHas}
use Rattle.memory_world.specs.Growth.{Adds}
use Rattle.memory_world.proofs.Growth.{events_add, turns_add}
use Rattle.memory_world.proofs.Moves.{noted_unstrayed, first_strays}
use Rattle.memory_world.proofs.TurnsIn.{leads_in_event, turn_in_used}
use Rattle.region_watch.specs.declared.mode.Mode.{Mode}
use Rattle.region_watch.specs.declared.mode.Mode.TheVariants.{Halt, GoOn}
use Rattle.kept_parts.specs.Copies.{HoldsFiles}
use Rattle.kept_parts.specs.Flats.{AreFlats}
use Rattle.kept_parts.specs.Kept.{Kept}
use Rattle.kept_parts.specs.Regular.{IsRegular}
use Rattle.kept_parts.specs.Stands.{About, later, world_of}
use Rattle.kept_parts.specs.InMemory.{headers_of, physical_of, with_range, without_newest}
use Rattle.kept_parts.proofs.Common.AnyRun.{about_with, some_are_flats}
use Rattle.syscall_layer.specs.Parts.{RunParts}
use Rattle.watch_points.specs.declared.hits.Hit.{Hit}
use Rattle.watch_points.specs.declared.point.PointKind.{PointKind}
use Rattle.watch_points.specs.declared.span.Span.{Span}
use Rattle.watch_points.specs.Points.{Found, with_hits}
use Rattle.watch_points.proofs.HitLists.{with_hits-nil}
use Rattle.flat_machine.specs.declared.turn.After.{After}
use Rattle.flat_machine.specs.declared.turn.After.TheVariants as after
use Rattle.flat_machine.specs.State.{is_whole}
use Rattle.flat_machine.specs.Leaves.{Carried, CarriedOrEnds, CarriedOrPast}
use Rattle.flat_machine.specs.LeavesIn.{CarriedIn, CarriedWithin, EventIn, StandsWithin}
use Rattle.flat_machine.specs.ByMode.{GoOnWithin}
use Rattle.flat_machine.specs.Keeps.{KeepsRun}
use Rattle.flat_machine.specs.Hits.{turn_hits_in}
use Rattle.flat_machine.specs.HitsLeft.{HitsLead, EventHits}
use Rattle.flat_machine.proofs.Picks.{may_run}
use Rattle.flat_machine.proofs.StraysOn.{StraysIn, first_is_quiet, before_is, behind_is, strays_on}
use Rattle.flat_machine.proofs.HitsOn.{lead_used, no_hits_in, quiet_next_in, strays_hit}

abbrev pub NotStray : After → Type 0
NotStray r = (access : Access) → r ≢ after.Strays access

-- ---- in the private spaces, where it doesn't stray

module _ (a : About) (old new : Kept) (pid : ℕ) where
  pub as_ends : (o : Outcome) (r : After) → NotStray r → Carried a o old new pid (Ok r) → CarriedOrEnds a o old new pid (Ok r)
  as_ends (went now t) r other x = x
  as_ends full r other x = x
  as_ends idle r other x = x
  as_ends (strays access) (after.Strays seen) other x = absurd (other seen refl)
  as_ends (strays access) after.GoesOn other x = x
  as_ends (strays access) after.TurnEnds other x = x
  as_ends (strays access) after.LogFull other x = x

  pub as_past : (o : Outcome) (r : After) → Carried a o old new pid (Ok r) → CarriedOrPast a o old new pid (Ok r)
  as_past (went now t) r x = x
  as_past full r x = x
  as_past idle r x = x
  as_past (strays access) (after.Strays seen) x = x
  as_past (strays access) after.GoesOn x = absurd x
  as_past (strays access) after.TurnEnds x = absurd x
  as_past (strays access) after.LogFull x = absurd x

  pub as_past_result : (o : Outcome) (r : Result After AllocError) (access : Access) → r ≡ Ok (after.Strays access) → Carried a o old new pid r → CarriedOrPast a o old new pid r
  as_past_result o r access is x =
      let P : Result After AllocError → Type 0 = λ y. CarriedOrPast a o old new pid y in
      subst P (sym is) (as_past o (after.Strays access) (subst (λ (y : Result After AllocError). Carried a o old new pid y) is x))

  pub of_ends : (o : Outcome) (r : After) → NotStray r → CarriedOrEnds a o old new pid (Ok r) → Carried a o old new pid (Ok r)
  of_ends (went now t) r other x = x
  of_ends full r other x = x
  of_ends idle r other x = x
  of_ends (strays access) (after.Strays seen) other x = absurd (other seen refl)
  of_ends (strays access) after.GoesOn other x = x
  of_ends (strays access) after.TurnEnds other x = x
  of_ends (strays access) after.LogFull other x = x

  -- out of memory nothing changed
  pub err_ends : (o : Outcome) (r : Result After AllocError) → IsErr r → new ≡ old → CarriedOrEnds a o old new pid r
  err_ends o (Ok done) is same = absurd cc
  err_ends (went now t) (Err error) is same = same
  err_ends (strays access) (Err error) is same = same
  err_ends full (Err error) is same = same
  err_ends idle (Err error) is same = same

  pub err_past : (o : Outcome) (r : Result After AllocError) → IsErr r → new ≡ old → CarriedOrPast a o old new pid r
  err_past o (Ok done) is same = absurd cc
  err_past (went now t) (Err error) is same = same
  err_past (strays access) (Err error) is same = same
  err_past full (Err error) is same = same
  err_past idle (Err error) is same = same

  -- an event that strays is that of this access
  stray_event : (o : Outcome) (access : Access) → event (world_of a old) pid ≡ o → Carried a o old new pid (Ok (after.Strays access)) → event (world_of a old) pid ≡ strays access
  stray_event (strays seen) access is x = is ∙ ap strays (sym x.0)
  stray_event (went now t) access is x = absurd x
  stray_event full access is x = absurd x
  stray_event idle access is x = absurd x

  pub strays_is : (access : Access) → Carried a (event (world_of a old) pid) old new pid (Ok (after.Strays access)) → event (world_of a old) pid ≡ strays access
  strays_is access x = stray_event (event (world_of a old) pid) access refl x

-- ---- in the one memory

module _ (headers : List (List ℕ)) (a : About) (old new : Kept) (pid : ℕ) where
  abbrev from : Physical
  from = physical_of headers a old

  abbrev to : Physical
  to = physical_of headers (later 1 a) new

  event_by : (o : Outcome_in) → event_in from pid ≡ o → (r : Result After AllocError) → CarriedIn headers a o old new pid r → EventIn headers a old new pid r
  event_by o is (Err error) x = x
  event_by (goes now over) is (Ok after.GoesOn) x =
      (subst (λ (p : Physical). LeadsIn pid from 1 p) x.0 (leads_in_event pid from now (is ∙ ap (λ (b : Bool). goes now b) x.1)), x.2)
  event_by (goes now over) is (Ok after.TurnEnds) x = is ∙ ap (λ (b : Bool). goes now b) x.1 ∙ ap (λ (p : Physical). goes p true) x.0
  event_by (goes now over) is (Ok (after.Strays access)) x = absurd x
  event_by (goes now over) is (Ok after.LogFull) x = absurd x
  event_by (no_room now) is (Ok after.LogFull) x = is ∙ ap no_room x
  event_by (no_room now) is (Ok after.GoesOn) x = absurd x
  event_by (no_room now) is (Ok after.TurnEnds) x = absurd x
  event_by (no_room now) is (Ok (after.Strays access)) x = absurd x
  event_by nobody is (Ok after.GoesOn) x = absurd x
  event_by nobody is (Ok after.TurnEnds) x = absurd x
  event_by nobody is (Ok (after.Strays access)) x = absurd x
  event_by nobody is (Ok after.LogFull) x = absurd x

  -- over all of memory
  pub event_whole : (r : Result After AllocError) → CarriedIn headers a (event_in from pid) old new pid r → EventIn headers a old new pid r
  event_whole r x = event_by (event_in from pid) refl r x

  -- so within reach, where it doesn't stray
  pub carried_whole : (r : After) → NotStray r → CarriedWithin headers a old new pid (Ok r) → CarriedIn headers a (event_in from pid) old new pid (Ok r)
  carried_whole after.GoesOn other x = x
  carried_whole after.TurnEnds other x = x
  carried_whole after.LogFull other x = x
  carried_whole (after.Strays access) other x = absurd (other access refl)

  pub event_reach : (r : After) → NotStray r → CarriedWithin headers a old new pid (Ok r) → EventIn headers a old new pid (Ok r)
  event_reach r other x = event_whole (Ok r) (carried_whole r other x)

  -- once a stray access was noted it never strays
  whole_by : (o : Outcome_in) → event_in from pid ≡ o → has_stray old.notes ≡ true → (r : Result After AllocError) → CarriedWithin headers a old new pid r → CarriedIn headers a (event_in from pid) old new pid r
  unfolding physical_of world_of
  whole_by o is was (Ok (after.Strays access)) x = absurd (let none : None ≡ Some access = sym (noted_unstrayed from pid was) ∙ x.0 in cc)
  whole_by o is was (Ok after.GoesOn) x = x
  whole_by o is was (Ok after.TurnEnds) x = x
  whole_by o is was (Ok after.LogFull) x = x
  whole_by o is was (Err error) x = x

  pub carried_noted : has_stray old.notes ≡ true → (r : Result After AllocError) → CarriedWithin headers a old new pid r → CarriedIn headers a (event_in from pid) old new pid r
  carried_noted was r x = whole_by (event_in from pid) refl was r x

  pub err_in : (r : Result After AllocError) → IsErr r → new ≡ old → EventIn headers a old new pid r
  err_in (Ok done) is same = absurd cc
  err_in (Err error) is same = same

  -- what it adds
  event_adds : (r : After) → EventIn headers a old new pid (Ok r) → Adds (world_of a old) (world_of a new)
  unfolding physical_of world_of
  event_adds after.GoesOn x = subst (λ (w : WalkIn). Adds from.world w.now.world) (turn_in_used pid from to 1 x.0) (turns_add 1 pid from)
  event_adds after.TurnEnds x = subst (AfterHas (Adds from.world)) x (events_add from pid)
  event_adds after.LogFull x = subst (AfterHas (Adds from.world)) x (events_add from pid)
  event_adds (after.Strays access) x = absurd x

-- whatever is known of the run
adds_so : (a b : About) (old new : Kept) → Adds (world_of a old) (world_of a new) → Adds (world_of b old) (world_of b new)
unfolding world_of
adds_so a b old new x = x

pub adds_event : (kind : Kind) (flats : List Values) (old new : Kept) (pid : ℕ) (r : After)
    → ((a : About) → a.kind ≡ kind → AreFlats a.programs flats → EventIn (headers_of flats) a old new pid (Ok r)) → (a : About) → Adds (world_of a old) (world_of a new)
adds_event kind flats old new pid r memory a =
    let b = about_with kind flats in
    adds_so b a old new (event_adds (headers_of flats) b old new pid r (memory b refl (some_are_flats flats)))

-- ---- up to the first stray access, which is noted before what its event leaves

module _ (headers : List (List ℕ)) (a : About) (old new : Kept) (pid : ℕ) where
  abbrev now_in : Physical
  now_in = physical_of headers a old

  noted_adds : (access : Access) → (o : Outcome_in) → event_in (with_stray pid (Some access) now_in) pid ≡ o → (r : After) → NotStray r → CarriedIn headers a o old new pid (Ok r)
      → Adds (noted (stray_note pid access) (world_of a old)) (world_of a new)
  unfolding physical_of world_of
  noted_adds access (goes now over) is after.GoesOn other x =
      let v = with_stray pid (Some access) now_in in
      subst (λ (p : Physical). Adds v.world p.world) x.0 (subst (AfterHas (Adds v.world)) is (events_add v pid))
  noted_adds access (goes now over) is after.TurnEnds other x =
      let v = with_stray pid (Some access) now_in in
      subst (λ (p : Physical). Adds v.world p.world) x.0 (subst (AfterHas (Adds v.world)) is (events_add v pid))
  noted_adds access (goes now over) is (after.Strays seen) other x = absurd x
  noted_adds access (goes now over) is after.LogFull other x = absurd x
  noted_adds access (no_room now) is after.LogFull other x =
      let v = with_stray pid (Some access) now_in in
      subst (λ (p : Physical). Adds v.world p.world) x (subst (AfterHas (Adds v.world)) is (events_add v pid))
  noted_adds access (no_room now) is after.GoesOn other x = absurd x
  noted_adds access (no_room now) is after.TurnEnds other x = absurd x
  noted_adds access (no_room now) is (after.Strays seen) other x = absurd x
  noted_adds access nobody is after.GoesOn other x = absurd x
  noted_adds access nobody is after.TurnEnds other x = absurd x
  noted_adds access nobody is (after.Strays seen) other x = absurd x
  noted_adds access nobody is after.LogFull other x = absurd x

  first_adds : (access : Access) → event (world_of a old) pid ≡ strays access → has_stray old.notes ≡ false → (r : After) → NotStray r → CarriedIn headers a (event_in now_in pid) old new pid (Ok r)
      → Adds (noted (stray_note pid access) (world_of a old)) (world_of a new)
  unfolding physical_of world_of stray
  first_adds access is quiet r other x =
      let first = first_strays now_in pid access quiet (ap stray_in is) in
      let v = with_stray pid (Some access) now_in in
      let at : StraysIn pid now_in v = record { access = access; first = first; noted = refl } in
      noted_adds access (event_in now_in pid) (behind_is pid now_in v at ∙ sym (before_is pid now_in v at)) r other x

  past_strays : (access : Access) (r : After) → NotStray r → Adds (noted (stray_note pid access) (world_of a old)) (world_of a new) → CarriedOrPast a (strays access) old new pid (Ok r)
  past_strays access (after.Strays seen) other adds = absurd (other seen refl)
  past_strays access after.GoesOn other adds = adds
  past_strays access after.TurnEnds other adds = adds
  past_strays access after.LogFull other adds = adds

  past_by : (o : Outcome) → event (world_of a old) pid ≡ o → has_stray old.notes ≡ false → (r : After) → NotStray r → CarriedIn headers a (event_in now_in pid) old new pid (Ok r)
      → (stray_in o ≡ None → Carried a o old new pid (Ok r)) → CarriedOrPast a o old new pid (Ok r)
  past_by (strays access) is quiet r other memory carried = past_strays access r other (first_adds access is quiet r other memory)
  past_by (went now t) is quiet r other memory carried = carried refl
  past_by full is quiet r other memory carried = carried refl
  past_by idle is quiet r other memory carried = carried refl

  pub past_event_of : has_stray old.notes ≡ false → (r : After) → NotStray r → CarriedIn headers a (event_in now_in pid) old new pid (Ok r)
      → (stray_in (event (world_of a old) pid) ≡ None → Carried a (event (world_of a old) pid) old new pid (Ok r)) → CarriedOrPast a (event (world_of a old) pid) old new pid (Ok r)
  past_event_of quiet r other memory carried = past_by (event (world_of a old) pid) refl quiet r other memory carried

-- those that are no stray access
pub goes_other : NotStray after.GoesOn
goes_other access is = cc

pub ends_other : NotStray after.TurnEnds
ends_other access is = cc

pub full_other : NotStray after.LogFull
full_other access is = cc

-- ---- the hits of one that isn't an instruction that is carried out

module _ (point : PointKind) (spans : List Span) (pid : ℕ) where
  abbrev T : ℕ → Physical → List Hit
  T = turn_hits_in point spans pid

  module _ (headers : List (List ℕ)) (a : About) (old new : Kept) (stop : Stop) (stands : StandsIn (physical_of headers a old) pid stop) (found : Found) where
    abbrev at : Physical
    at = physical_of headers a old

    abbrev behind : Physical
    behind = physical_of headers (later 1 a) new

    none_found : (o : Outcome_in) → event_in at pid ≡ o → ((n : ℕ) → T (suc n) at ≡ []) → (left : ℕ) → found ≡ with_hits found (T (suc left) at)
    none_found o is none left = sym (with_hits-nil found) ∙ ap (with_hits found) (sym (none left))

    hits_by : (o : Outcome_in) → event_in at pid ≡ o → (r : Result After AllocError) → CarriedIn headers a o old new pid r → EventHits T found found at behind r
    hits_by o is (Err error) x = refl
    hits_by (goes now over) is (Ok after.GoesOn) x = λ left.
        let sum : suc left ≡ 1 + left = omega arith in
        let is_on : event_in at pid ≡ goes now false = is ∙ ap (λ (b : Bool). goes now b) x.1 in
        ap (with_hits found) (sym (quiet_next_in point spans pid left at stop stands (goes now false) is_on ∙ ap (T left) x.0))
        ∙ ap (λ (n : ℕ). with_hits found (T n at)) sum
    hits_by (goes now over) is (Ok after.TurnEnds) x =
        let is_over : event_in at pid ≡ goes now true = is ∙ ap (λ (b : Bool). goes now b) x.1 in
        none_found (goes now over) is (λ n. quiet_next_in point spans pid n at stop stands (goes now true) is_over)
    hits_by (goes now over) is (Ok (after.Strays access)) x = absurd x
    hits_by (goes now over) is (Ok after.LogFull) x = absurd x
    hits_by (no_room now) is (Ok after.LogFull) x = none_found (no_room now) is (λ n. quiet_next_in point spans pid n at stop stands (no_room now) is)
    hits_by (no_room now) is (Ok after.GoesOn) x = absurd x
    hits_by (no_room now) is (Ok after.TurnEnds) x = absurd x
    hits_by (no_room now) is (Ok (after.Strays access)) x = absurd x
    hits_by nobody is (Ok after.GoesOn) x = absurd x
    hits_by nobody is (Ok after.TurnEnds) x = absurd x
    hits_by nobody is (Ok (after.Strays access)) x = absurd x
    hits_by nobody is (Ok after.LogFull) x = absurd x

    pub hits_whole : (r : Result After AllocError) → CarriedIn headers a (event_in at pid) old new pid r → EventHits T found found at behind r
    hits_whole r x = hits_by (event_in at pid) refl r x

  -- where nothing was carried out none was found
  pub none_hit_by : (before found : Found) (old new : Physical) → HitsLead T before found old 0 new → found ≡ before
  none_hit_by before found old new lead =
      lead_used T before found old new 0 (no_hits_in point spans pid new) lead ∙ ap (with_hits before) (no_hits_in point spans pid old) ∙ with_hits-nil before

  -- out of memory
  pub hits_on_err : (before found : Found) (old new : Physical) (r : Result After AllocError) → EventHits T before found old new r → OnErr r (found ≡ before)
  hits_on_err before found old new (Ok done) x = tt
  hits_on_err before found old new (Err error) x = x

  pub err_hits : (before found : Found) (old new : Physical) (r : Result After AllocError) → IsErr r → found ≡ before → EventHits T before found old new r
  err_hits before found old new (Ok done) is same = absurd cc
  err_hits before found old new (Err error) is same = same

-- ---- where it stands firmly: an access that is refused within its own bytes strays

pub firm : (reach : Mode) (p : Physical) (pid : ℕ) (stop : Stop) → StandsWithin reach p pid stop → (reach ≡ Halt → (access : Access) → stop ≡ Refused access → ⊥) → StandsIn p pid stop
firm Halt p pid (Refused access) s other = absurd (other refl access refl)
firm Halt p pid Next s other = s
firm Halt p pid Call s other = s
firm Halt p pid (Trap signal) s other = s
firm GoOn p pid stop s other = s

pub firm_whole : (reach : Mode) (p : Physical) (pid : ℕ) (stop : Stop) → is_whole reach ≡ true → StandsWithin reach p pid stop → StandsIn p pid stop
firm_whole Halt p pid stop is s = absurd (false≢true is)
firm_whole GoOn p pid stop is s = s

-- ---- behind the note of the run's first stray access

module _ (headers : List (List ℕ)) (a : About) (old : Kept) (pid : ℕ) (access : Access) (first : first_stray_in (physical_of headers a old) pid ≡ Some access) where
  abbrev before_it : Physical
  before_it = physical_of headers a old

  abbrev behind_it : Physical
  behind_it = physical_of headers a (with_range pid (Some access) old)

  strays_here : StraysIn pid before_it behind_it
  unfolding physical_of world_of
  strays_here = record { access = access; first = first; noted = refl }

  leads_behind : CanRun old.procs pid → (now : Physical) → LeadsIn pid behind_it 1 now → LeadsIn pid before_it 1 now
  unfolding physical_of
  leads_behind can now x left =
      let sum : 1 + left ≡ suc left = omega arith in
      ap (λ (n : ℕ). turn_in n pid before_it) sum ∙ strays_on pid before_it behind_it strays_here (may_run a (with_range pid (Some access) old) pid can) left
      ∙ ap (λ (n : ℕ). turn_in n pid behind_it) (sym sum) ∙ x left

  event_behind : CanRun old.procs pid → (new : Kept) (r : After) → EventIn headers a (with_range pid (Some access) old) new pid (Ok r) → EventIn headers a old new pid (Ok r)
  event_behind can new after.GoesOn x = (leads_behind can (physical_of headers (later 1 a) new) x.0, x.1)
  event_behind can new after.TurnEnds x = before_is pid before_it behind_it strays_here ∙ sym (behind_is pid before_it behind_it strays_here) ∙ x
  event_behind can new after.LogFull x = before_is pid before_it behind_it strays_here ∙ sym (behind_is pid before_it behind_it strays_here) ∙ x
  event_behind can new (after.Strays seen) x = absurd x

  pub memory_behind : CanRun old.procs pid → (new : Kept) (r : Result After AllocError) → OnErr r (new ≡ old)
      → IfOk r (λ x. EventIn headers a (with_range pid (Some access) old) new pid r) → EventIn headers a old new pid r
  memory_behind can new (Ok r) same x = event_behind can new r x
  memory_behind can new (Err error) same x = same

  module _ (point : PointKind) (spans : List Span) (before found : Found) (new : Physical) where
    hits_behind_event : (r : After) → EventHits (turn_hits_in point spans pid) before found behind_it new (Ok r) → EventHits (turn_hits_in point spans pid) before found before_it new (Ok r)
    hits_behind_event after.GoesOn x = λ left. x left ∙ ap (with_hits before) (strays_hit point spans pid before_it behind_it strays_here (1 + left))
    hits_behind_event after.TurnEnds x = λ left. x left ∙ ap (with_hits before) (strays_hit point spans pid before_it behind_it strays_here (suc left))
    hits_behind_event after.LogFull x = λ left. x left ∙ ap (with_hits before) (strays_hit point spans pid before_it behind_it strays_here (suc left))
    hits_behind_event (after.Strays seen) x = λ left. x left ∙ ap (with_hits before) (strays_hit point spans pid before_it behind_it strays_here (suc left))

    pub hits_behind : (r : Result After AllocError) → OnErr r (found ≡ before)
        → IfOk r (λ x. EventHits (turn_hits_in point spans pid) before found behind_it new r) → EventHits (turn_hits_in point spans pid) before found before_it new r
    hits_behind (Ok r) same x = hits_behind_event r x
    hits_behind (Err error) same x = same

-- up to there its note stands before what it adds
noted_world : (pid : ℕ) (access : Access) (old : Kept) (a : About) → world_of a (with_range pid (Some access) old) ≡ noted (stray_note pid access) (world_of a old)
unfolding world_of
noted_world pid access old a = refl

module _ (kind : Kind) (flats : List Values) (old new : Kept) (pid : ℕ) (access : Access) where
  abbrev EventBehind : Result After AllocError → Type 0
  EventBehind r = (a : About) → a.kind ≡ kind → AreFlats a.programs flats → EventIn (headers_of flats) a (with_range pid (Some access) old) new pid r

  adds_behind : (r : After) → EventBehind (Ok r) → (a : About) → Adds (noted (stray_note pid access) (world_of a old)) (world_of a new)
  adds_behind r memory a = subst (λ (w : World). Adds w (world_of a new)) (noted_world pid access old a) (adds_event kind flats (with_range pid (Some access) old) new pid r memory a)

  pub past_behind : (r : Result After AllocError) → OnErr r (new ≡ old) → IfOk r (λ x. EventBehind r) → (a : About) → CarriedOrPast a (strays access) old new pid r
  past_behind (Ok (after.Strays seen)) same memory a = absurd (memory (about_with kind flats) refl (some_are_flats flats))
  past_behind (Ok after.GoesOn) same memory a = adds_behind after.GoesOn memory a
  past_behind (Ok after.TurnEnds) same memory a = adds_behind after.TurnEnds memory a
  past_behind (Ok after.LogFull) same memory a = adds_behind after.LogFull memory a
  past_behind (Err error) same memory a = same

-- ---- an event that is a closure, which tells of the parts that it is shown

pub either_way : {A E : Type 0} (P : Type 0) (r : Result A E) → OnErr r P → IfOk r (λ x. P) → P
either_way P (Ok x) failed done = done
either_way P (Err error) failed done = failed

module _ (kind : Kind) (pid : ℕ) (r : Result After AllocError) where
  abbrev pub EventTo : RunParts → RunParts → Type 0
  EventTo p q = (a : About) → a.kind ≡ kind → AreFlats a.programs p.programs → EventIn (headers_of p.programs) a p.kept q.kept pid r

  pub event_to : (shown left p q : RunParts) → shown ≡ p → left ≡ q → EventTo shown left → EventTo p q
  event_to shown left p q shows leaves x = subst (λ (y : RunParts). EventTo y q) shows (subst (λ (y : RunParts). EventTo shown y) leaves x)

  module _ (point : PointKind) (spans : List Span) where
    abbrev pub HitsTo : Found → Found → RunParts → RunParts → Type 0
    HitsTo before found p q = (a : About) → a.kind ≡ kind → AreFlats a.programs p.programs
        → EventHits (turn_hits_in point spans pid) before found (physical_of (headers_of p.programs) a p.kept) (physical_of (headers_of p.programs) (later 1 a) q.kept) r

    pub hits_to : (f g before found : Found) (shown left p q : RunParts) → f ≡ before → g ≡ found → shown ≡ p → left ≡ q → HitsTo f g shown left → HitsTo before found p q
    hits_to f g before found shown left p q f_is g_is shows leaves x =
        subst (λ (y : RunParts). HitsTo before found y q) shows (subst (λ (y : RunParts). HitsTo before found shown y) leaves
        (subst (λ (h : Found). HitsTo h found shown left) f_is (subst (λ (h : Found). HitsTo f h shown left) g_is x)))

    -- out of memory it finds no hit
    pub hits_kept : (before found : Found) (p q : RunParts) → HitsTo before found p q → OnErr r (found ≡ before)
    hits_kept before found p q hits =
        let b = about_with kind p.programs in
        hits_on_err point spans pid before found (physical_of (headers_of p.programs) b p.kept) (physical_of (headers_of p.programs) (later 1 b) q.kept) r (hits b refl (some_are_flats p.programs))

pub both_kept : {A E P C : Type 0} (r : Result A E) (p q : P) (c d : C) → OnErr r (q ≡ p) → OnErr r (d ≡ c) → OnErr r ((q ≡ p) × (d ≡ c))
both_kept (Ok x) p q c d parts beside = tt
both_kept (Err error) p q c d parts beside = (parts, beside)

pub err_never : {A E : Type 0} (r : Result A E) (x : A) → IsErr r → r ≡ Ok x → ⊥
err_never (Ok y) x err is = absurd cc
err_never (Err error) x err is = absurd cc

first_quiet_of : (headers : List (List ℕ)) (a : About) (old : Kept) (pid : ℕ) (access : Access) → first_stray_in (physical_of headers a old) pid ≡ Some access → has_stray old.notes ≡ false
unfolding physical_of world_of
first_quiet_of headers a old pid access first = first_is_quiet (physical_of headers a old) pid access first

-- an event that strays leaves all as it was, and is the run's first
pub stray_same : (kind : Kind) (flats : List Values) (old new : Kept) (pid : ℕ) (access : Access) (mode : Mode) → (mode ≡ Halt → has_stray old.notes ≡ false)
    → (mode ≡ Halt → (a : About) → a.kind ≡ kind → AreFlats a.programs flats → Carried a (event (world_of a old) pid) old new pid (Ok (after.Strays access)))
    → (mode ≡ GoOn → (a : About) → a.kind ≡ kind → AreFlats a.programs flats → CarriedWithin (headers_of flats) a old new pid (Ok (after.Strays access))) → (new ≡ old) × (has_stray old.notes ≡ false)
stray_same kind flats old new pid access Halt halting halts memory =
    let b = about_with kind flats in
    (left_by b (event (world_of b old) pid) (halts refl b refl (some_are_flats flats)), halting refl)
  where
    left_by : (a : About) (o : Outcome) → Carried a o old new pid (Ok (after.Strays access)) → new ≡ old
    left_by a (strays seen) x = x.1
    left_by a (went now t) x = absurd x
    left_by a full x = absurd x
    left_by a idle x = absurd x
stray_same kind flats old new pid access GoOn halting halts memory =
    let b = about_with kind flats in
    let x = memory refl b refl (some_are_flats flats) in
    (x.1, first_quiet_of (headers_of flats) b old pid access x.0)

-- up to there, by what comes of it in the private spaces
past_event_is : (a : About) (old new : Kept) (pid : ℕ) (o : Outcome) (access : Access) → event (world_of a old) pid ≡ o → CarriedOrPast a o old new pid (Ok (after.Strays access)) → event (world_of a old) pid ≡ strays access
past_event_is a old new pid (strays seen) access is x = is ∙ ap strays (sym x.0)
past_event_is a old new pid (went now t) access is x = absurd x
past_event_is a old new pid full access is x = absurd x
past_event_is a old new pid idle access is x = absurd x

pub past_is : (a : About) (old new : Kept) (pid : ℕ) (access : Access) → CarriedOrPast a (event (world_of a old) pid) old new pid (Ok (after.Strays access)) → event (world_of a old) pid ≡ strays access
past_is a old new pid access x = past_event_is a old new pid (event (world_of a old) pid) access refl x

pub parts_same : (old new : RunParts) → new.kept ≡ old.kept → new.programs ≡ old.programs → new.mode ≡ old.mode → new.noted ≡ old.noted → new ≡ old
parts_same old new kept programs mode noted = λ i. record { kept = kept i; programs = programs i; mode = mode i; noted = noted i }

pub if_ok : {A E : Type 0} (T : Type 0) (r : Result A E) (x : A) → IfOk r (λ y. T) → r ≡ Ok x → T
if_ok T (Ok y) x holds is = holds
if_ok T (Err error) x holds is = absurd cc

-- it changes no copy
pub noted_holds : (pid : ℕ) (access : Access) (old mid : Kept) → mid ≡ with_range pid (Some access) old → has_stray old.notes ≡ false → IsRegular (without_newest mid) → HoldsFiles mid
noted_holds pid access old mid note quiet regular = regular.1.hold (ap (λ (k : Kept). has_stray (without_newest k).notes) note ∙ quiet)

-- of the parts: one that strays leaves them as they were
pub strayed_same : (kind : Kind) (old new : RunParts) (pid : ℕ) (access : Access) → (old.mode ≡ Halt → has_stray old.kept.notes ≡ false)
    → (old.mode ≡ Halt → (a : About) → a.kind ≡ kind → AreFlats a.programs old.programs → Carried a (event (world_of a old.kept) pid) old.kept new.kept pid (Ok (after.Strays access)))
    → (old.mode ≡ GoOn → GoOnWithin kind old.programs pid old.kept new.kept (Ok (after.Strays access))) → old.noted ≡ has_stray old.kept.notes → KeepsRun old new
    → (new ≡ old) × (has_stray old.kept.notes ≡ false)
strayed_same kind old new pid access halting halts within noted keeps =
    let so_it_is = stray_same kind old.programs old.kept new.kept pid access old.mode halting halts (λ go. (within go).memory) in
    (parts_same old new so_it_is.0 keeps.programs keeps.mode (keeps.noted ∙ ap (λ (k : Kept). has_stray k.notes) so_it_is.0 ∙ sym noted), so_it_is.1)
