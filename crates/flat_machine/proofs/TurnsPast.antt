-- A turn of a run that goes on, up to its first stray access and past it.
use Rattle.std.proofs.Common.{◌≡◌, ℕ, ◌+◌, ◌<◌, ◌≤◌, inl, inr, true, false, List, Some, Ok, refl, sym, ap, subst, ◌∙◌, arith}
use Rattle.std.proofs.lemmas.Bool.{false≢true, cases_Bool}
use Rattle.page_runs.specs.declared.place.Kind.{Kind}
use Rattle.bflt_format.specs.Values.{Values}
use Rattle.byte_words.specs.declared.access.Access.{Access}
use Rattle.call_log.specs.Notes.{stray_note}
use Rattle.machine_world.specs.World.{World}
use Rattle.machine_world.specs.Event.{Outcome, went, strays, full, idle, noted, event}
use Rattle.machine_world.specs.Turns.{Walk, stray_at, remains_at, turn, walked}
use Rattle.machine_world.proofs.TurnLaws.{turn_strays, turn_from}
use Rattle.memory_world.specs.Physical.{has_stray}
use Rattle.memory_world.specs.Physical.{WalkIn}
use Rattle.memory_world.specs.Courses.{LeadsIn}
use Rattle.memory_world.specs.Growth.{Adds}
use Rattle.memory_world.proofs.Growth.{turns_add}
use Rattle.memory_world.proofs.TurnsIn.{turn_in_used}
use Rattle.kept_parts.specs.Flats.{AreFlats}
use Rattle.kept_parts.specs.Kept.{Kept}
use Rattle.kept_parts.specs.Stands.{About, later, world_of}
use Rattle.kept_parts.specs.InMemory.{physical_of}
use Rattle.kept_parts.proofs.Common.AnyRun.{some_about}
use Rattle.flat_machine.specs.declared.turn.After.{After}
use Rattle.flat_machine.specs.declared.turn.After.TheVariants as after
use Rattle.flat_machine.specs.Leaves.{Carried, CarriedOrPast}
use Rattle.flat_machine.specs.LeavesIn.{GoesPast}
use Rattle.flat_machine.proofs.NotedIn.{went_quiet, adds_stray, adds_trans}
use Rattle.flat_machine.proofs.Turned.{Reached, reached_none, reached_on, event_on}

-- ---- the event of the first stray access

-- it strays in the private spaces, and behind its note the new world only adds
pub record WentPast (a : About) (old new : Kept) (pid : ℕ) : Type 0 where
  pub access : Access
  pub strays : event (world_of a old) pid ≡ strays access
  pub adds : Adds (noted (stray_note pid access) (world_of a old)) (world_of a new)

module _ (a : About) (old new : Kept) (pid : ℕ) where
  went_on_quiet : (now : World) → (has_stray (world_of a old).notes ≡ false → has_stray now.notes ≡ false) → has_stray old.notes ≡ false → now ≡ world_of (later 1 a) new → has_stray new.notes ≡ false
  unfolding world_of
  went_on_quiet now is quiet same = ap (λ (w : World). has_stray w.notes) (sym same) ∙ is quiet

  noted_strays : (access : Access) → Adds (noted (stray_note pid access) (world_of a old)) (world_of a new) → has_stray new.notes ≡ true
  unfolding world_of
  noted_strays access adds = adds_stray (noted (stray_note pid access) (world_of a old)) (world_of a new) adds refl

  -- where still none was noted it is the event of the private spaces
  pub past_quiet : (o : Outcome) (r : After) → has_stray new.notes ≡ false → CarriedOrPast a o old new pid (Ok r) → Carried a o old new pid (Ok r)
  past_quiet (strays access) (after.Strays seen) quiet x = x
  past_quiet (strays access) after.GoesOn quiet x = absurd (false≢true (sym quiet ∙ noted_strays access x))
  past_quiet (strays access) after.TurnEnds quiet x = absurd (false≢true (sym quiet ∙ noted_strays access x))
  past_quiet (strays access) after.LogFull quiet x = absurd (false≢true (sym quiet ∙ noted_strays access x))
  past_quiet (went now t) r quiet x = x
  past_quiet full r quiet x = x
  past_quiet idle r quiet x = x

  -- and else it is the first
  went_past : (o : Outcome) → event (world_of a old) pid ≡ o → (r : After) → has_stray old.notes ≡ false → has_stray new.notes ≡ true → CarriedOrPast a o old new pid (Ok r) → WentPast a old new pid
  went_past (strays access) is (after.Strays seen) quiet was x = absurd (false≢true (sym quiet ∙ ap (λ (k : Kept). has_stray k.notes) (sym x.1) ∙ was))
  went_past (strays access) is after.GoesOn quiet was x = record { access = access; strays = is; adds = x }
  went_past (strays access) is after.TurnEnds quiet was x = record { access = access; strays = is; adds = x }
  went_past (strays access) is after.LogFull quiet was x = record { access = access; strays = is; adds = x }
  went_past (went now t) is after.GoesOn quiet was x = absurd (false≢true (sym (went_on_quiet now (λ q. went_quiet (world_of a old) q pid now t is) quiet x.0) ∙ was))
  went_past (went now t) is after.TurnEnds quiet was x = absurd (false≢true (sym (went_on_quiet now (λ q. went_quiet (world_of a old) q pid now t is) quiet x.0) ∙ was))
  went_past (went now t) is (after.Strays access) quiet was x = absurd x
  went_past (went now t) is after.LogFull quiet was x = absurd x
  went_past full is after.LogFull quiet was x = absurd (false≢true (sym quiet ∙ ap (λ (k : Kept). has_stray k.notes) (sym x) ∙ was))
  went_past full is after.GoesOn quiet was x = absurd x
  went_past full is after.TurnEnds quiet was x = absurd x
  went_past full is (after.Strays access) quiet was x = absurd x
  went_past idle is r quiet was x = absurd x

  pub goes_past : (r : After) → has_stray old.notes ≡ false → has_stray new.notes ≡ true → CarriedOrPast a (event (world_of a old) pid) old new pid (Ok r) → WentPast a old new pid
  goes_past r quiet was x = went_past (event (world_of a old) pid) refl r quiet was x

-- ---- behind so many events

-- the turn of the private spaces ended at one of them, however long it is
abbrev pub PastReached : Kind → List Values → ℕ → Kept → ℕ → Kept → Type 0
PastReached kind flats pid old n now =
    (a : About) → a.kind ≡ kind → AreFlats a.programs flats → (count : ℕ) → n ≤ count → GoesPast (turn count pid (world_of a old)) (world_of (later n a) now)

pub record FirstReached (kind : Kind) (flats : List Values) (pid : ℕ) (old : Kept) (n : ℕ) (now : Kept) : Type 0 where
  pub quiet : has_stray now.notes ≡ false → Reached kind flats pid old n now
  pub past : has_stray now.notes ≡ true → PastReached kind flats pid old n now

-- whatever is known of the run
pub past_so : (walk : Walk) (a b : About) (k : Kept) → GoesPast walk (world_of a k) → GoesPast walk (world_of b k)
unfolding world_of
past_so walk a b k x = record { pid = x.pid; access = x.access; ends = x.ends; adds = x.adds }

added : (a b : About) (old new : Kept) → Adds (world_of a old) (world_of a new) → Adds (world_of a old) (world_of b new)
unfolding world_of
added a b old new x = x

stays_noted : (a : About) (old new : Kept) → Adds (world_of a old) (world_of a new) → has_stray old.notes ≡ true → has_stray new.notes ≡ true
unfolding world_of
stays_noted a old new adds was = adds_stray (world_of a old) (world_of a new) adds was

-- instructions within reach only add
pub reached_adds : (headers : List (List ℕ)) (pid : ℕ) (old new : Kept) (j : ℕ) → ((a : About) → LeadsIn pid (physical_of headers a old) j (physical_of headers (later j a) new)) → (a : About) → Adds (world_of a old) (world_of a new)
unfolding physical_of world_of
reached_adds headers pid old new j leads a =
    let from = physical_of headers a old in
    let to = physical_of headers (later j a) new in
    subst (λ (w : WalkIn). Adds from.world w.now.world) (turn_in_used pid from to j (leads a)) (turns_add j pid from)

module _ (kind : Kind) (flats : List Values) (pid : ℕ) (old : Kept) where
  pub first_reached_none : has_stray old.notes ≡ false → FirstReached kind flats pid old 0 old
  first_reached_none none = record {
    quiet = λ still. reached_none kind flats pid old;
    past = λ was. absurd (false≢true (sym none ∙ was));
  }

  module _ (mid new : Kept) (n : ℕ) (x : FirstReached kind flats pid old n mid) (adds : (a : About) → Adds (world_of a mid) (world_of a new)) where
    past_adds : (j : ℕ) → PastReached kind flats pid old n mid → PastReached kind flats pid old (n + j) new
    past_adds j past a so are count most =
        let before = past a so are count (omega (arith, most)) in
        let behind : Adds (world_of (later n a) mid) (world_of (later (n + j) a) new) = added (later n a) (later (n + j) a) mid new (adds (later n a)) in
        record { pid = before.pid; access = before.access; ends = before.ends; adds = adds_trans (turn count pid (world_of a old)).world (world_of (later n a) mid) (world_of (later (n + j) a) new) before.adds behind }

    -- instructions within reach
    pub first_reached_on : (j : ℕ) → has_stray new.notes ≡ has_stray mid.notes → (has_stray mid.notes ≡ false → Reached kind flats pid mid j new) → FirstReached kind flats pid old (n + j) new
    first_reached_on j same leads = record {
      quiet = λ still. reached_on kind flats pid old mid new n j (x.quiet (sym same ∙ still)) (leads (sym same ∙ still));
      past = λ was. past_adds j (x.past (sym same ∙ was));
    }

    still_quiet : has_stray new.notes ≡ false → has_stray mid.notes ≡ false
    still_quiet quiet = elim (cases_Bool (has_stray mid.notes)) [
      | inl was ↦ absurd (false≢true (sym quiet ∙ stays_noted some_about mid new (adds some_about) was))
      | inr none ↦ none
    ]

    -- the event of the first stray access
    first_past : Reached kind flats pid old n mid → ((a : About) → a.kind ≡ kind → AreFlats a.programs flats → WentPast a mid new pid) → PastReached kind flats pid old (n + 1) new
    first_past reached past a so are count most =
        let w = past (later n a) so are in
        let now : World = noted (stray_note pid w.access) (world_of (later n a) mid) in
        let less : n < count = omega (arith, most) in
        let same : turn count pid (world_of a old) ≡ walked (reached a so are).traces (remains_at now (Some (stray_at pid w.access))) =
        turn_from pid (world_of a old) (world_of (later n a) mid) n (reached a so are) count (remains_at now (Some (stray_at pid w.access))) less (turn_strays pid (world_of (later n a) mid) w.access w.strays) in
        past_so (turn count pid (world_of a old)) (later n a) (later (n + 1) a) new
        (record { pid = pid; access = w.access; ends = ap (λ (v : Walk). v.end) same; adds = subst (λ (v : Walk). Adds v.world (world_of (later n a) new)) (sym same) w.adds })

    module _ (r : After) (carried : has_stray mid.notes ≡ false → (a : About) → a.kind ≡ kind → AreFlats a.programs flats → CarriedOrPast a (event (world_of a mid) pid) mid new pid (Ok r)) where
      -- none was noted by it: that of the private spaces
      pub carried_quiet : has_stray new.notes ≡ false → (a : About) → a.kind ≡ kind → AreFlats a.programs flats → Carried a (event (world_of a mid) pid) mid new pid (Ok r)
      carried_quiet quiet a so are = past_quiet a mid new pid (event (world_of a mid) pid) r quiet (carried (still_quiet quiet) a so are)

      pub reached_quiet : has_stray new.notes ≡ false → Reached kind flats pid old n mid
      reached_quiet quiet = x.quiet (still_quiet quiet)

      pub past_event : has_stray new.notes ≡ true → PastReached kind flats pid old (n + 1) new
      past_event was = elim (cases_Bool (has_stray mid.notes)) [
        | inl before ↦ past_adds 1 (x.past before)
        | inr none ↦ first_past (x.quiet none) (λ a so are. goes_past a mid new pid r none was (carried none a so are))
      ]

    -- with which the turn goes on
    pub first_reached_event : (has_stray mid.notes ≡ false → (a : About) → a.kind ≡ kind → AreFlats a.programs flats → CarriedOrPast a (event (world_of a mid) pid) mid new pid (Ok after.GoesOn))
        → FirstReached kind flats pid old (n + 1) new
    first_reached_event carried = record {
      quiet = λ still. reached_on kind flats pid old mid new n 1 (reached_quiet after.GoesOn carried still) (event_on mid new pid kind flats (carried_quiet after.GoesOn carried still));
      past = past_event after.GoesOn carried;
    }
