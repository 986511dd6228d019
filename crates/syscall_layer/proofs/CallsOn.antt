-- A call of a run that goes on, by the call within reach.
use Rattle.std.proofs.Common.{◌≡◌, ◌≢◌, ℕ, Bool, true, false, List, Option, Some, None, Ok, refl, sym, ap, subst, ◌∙◌}
use Rattle.std.specs.Prelude.{if◌then◌else◌, Result, Err, IfOk, OnErr}
use Rattle.std.specs.declared.alloc.AllocError.{AllocError}
use Rattle.byte_words.specs.declared.access.Access.{Access}
use Rattle.machine_world.specs.Event.{Outcome, went, strays, full, idle, called, stray_in}
use Rattle.memory_world.specs.Physical.{Physical, After, after, no_room, nobody, has_stray, with_stray, called_in}
use Rattle.kept_parts.specs.declared.served.Served.{Served}
use Rattle.kept_parts.specs.declared.served.Served.TheVariants as served
use Rattle.region_watch.specs.declared.mode.Mode.{Mode}
use Rattle.region_watch.specs.declared.mode.Mode.TheVariants.{Halt, GoOn}
use Rattle.kept_parts.specs.Kept.{Kept}
use Rattle.kept_parts.specs.Reach.{is_whole}
use Rattle.kept_parts.specs.Stands.{About, world_of}
use Rattle.kept_parts.specs.Serves.{Answered, Serves}
use Rattle.syscall_layer.specs.ByMode.{ServesFirst, GoOnServes, LeavesBehind}
use Rattle.syscall_layer.specs.Parts.{RunParts, KeepsRun, noted_by}
use Rattle.syscall_layer.proofs.CallsKeep.{parts_with}
use Rattle.bflt_format.specs.Values.{Values}
use Rattle.page_runs.specs.declared.place.Kind.{Kind}
use Rattle.kept_parts.specs.Flats.{ForRuns}
use Rattle.std.specs.Result.{IsErr}
use Rattle.kept_parts.specs.InMemory.{headers_of, physical_of, GoesIn, InReach, ServesOn, first_range, called_on, with_range}

abbrev IsStray : Served → Type 0
IsStray (served.Stray access) = Unit {0}
IsStray served.Replied = ⊥
IsStray served.TurnEnds = ⊥
IsStray served.Waits = ⊥
IsStray served.Ended = ⊥
IsStray served.LogFull = ⊥

not_stray : (s : Served) → ((access : Access) → s ≢ served.Stray access) → IsStray s → ⊥
not_stray (served.Stray access) other is = other access refl
not_stray served.Replied other is = is
not_stray served.TurnEnds other is = is
not_stray served.Waits other is = is
not_stray served.Ended other is = is
not_stray served.LogFull other is = is

-- within its own bytes none was noted
pub own_reach : (mode : Mode) → is_whole mode ≡ false → mode ≡ Halt
own_reach Halt is = refl
own_reach GoOn is = absurd (let e : true ≡ false = is in cc)

-- and over all of memory one was
pub whole_reach : (mode : Mode) → is_whole mode ≡ true → mode ≡ GoOn
whole_reach GoOn is = refl
whole_reach Halt is = absurd (let e : false ≡ true = is in cc)

module _ (headers : List (List ℕ)) (a : About) (old : Kept) (pid : ℕ) where
  abbrev there : Physical
  there = physical_of headers a old

  abbrev outcome : Outcome
  outcome = called (world_of a old) pid

  range_is : (was : Bool) → has_stray old.notes ≡ was → first_range there pid ≡ (if was then None else stray_in outcome)
  unfolding physical_of world_of first_range
  range_is was is = ap (λ (b : Bool). if b then None else stray_in outcome) is

  noted_in : (access : Access) → physical_of headers a (with_range pid (Some access) old) ≡ with_stray pid (Some access) there
  unfolding physical_of world_of
  noted_in access = refl

  -- ---- none strays, or one did before

  quiet_by : (o : Outcome) (new : Kept) (s : Served) → (IsStray s → ⊥) → Answered a o old new pid s → stray_in o ≡ None
  quiet_by (went now t) new s other x = refl
  quiet_by full new s other x = refl
  quiet_by idle new s other x = absurd x
  quiet_by (strays access) new (served.Stray seen) other x = absurd (other tt)
  quiet_by (strays access) new served.Replied other x = absurd x
  quiet_by (strays access) new served.TurnEnds other x = absurd x
  quiet_by (strays access) new served.Waits other x = absurd x
  quiet_by (strays access) new served.Ended other x = absurd x
  quiet_by (strays access) new served.LogFull other x = absurd x

  goes_of : (mode : Mode) (o : After) (new : Kept) (s : Served) → (IsStray s → ⊥) → InReach mode headers a o old new pid (Ok s) → GoesIn headers a o old new pid s
  goes_of GoOn o new s other x = x
  goes_of Halt o new (served.Stray access) other x = absurd (other tt)
  goes_of Halt o new served.Replied other x = x
  goes_of Halt o new served.TurnEnds other x = x
  goes_of Halt o new served.Waits other x = x
  goes_of Halt o new served.Ended other x = x
  goes_of Halt o new served.LogFull other x = x

  none_first : (mode : Mode) → has_stray old.notes ≡ is_whole mode → (mode ≡ Halt → stray_in outcome ≡ None) → first_range there pid ≡ None
  none_first Halt strayed quiet = range_is false strayed ∙ quiet refl
  none_first GoOn strayed quiet = range_is true strayed

  as_found : (range : Option Access) → first_range there pid ≡ range → (new : Kept) (s : Served) → GoesIn headers a (called_in (with_stray pid range there) pid) (with_range pid range old) new pid s
      → ServesOn headers a old new pid (Ok s)
  unfolding called_on
  as_found range is new s x =
      subst (λ (found : Option Access). GoesIn headers a (called_in (with_stray pid found there) pid) (with_range pid found old) new pid s) (sym is) x

  module _ (mode : Mode) (strayed : has_stray old.notes ≡ is_whole mode) (new : Kept) (s : Served) (other : (access : Access) → s ≢ served.Stray access)
      (serves : mode ≡ Halt → Answered a outcome old new pid s) where
    unstrayed : first_range there pid ≡ None
    unstrayed = none_first mode strayed (λ own. quiet_by outcome new s (not_stray s other) (serves own))

    pub serves_unstrayed : InReach mode headers a (called_in there pid) old new pid (Ok s) → ServesOn headers a old new pid (Ok s)
    serves_unstrayed x = as_found None unstrayed new s (goes_of mode (called_in there pid) new s (not_stray s other) x)

    pub notes_unstrayed : new.notes ≡ old.notes → new.notes ≡ (with_range pid (first_range there pid) old).notes
    notes_unstrayed is = is ∙ ap (λ (found : Option Access). (with_range pid found old).notes) (sym unstrayed)

    -- so it is the call of the private spaces
    first_unstrayed : (o : Outcome) (t : Served) → (IsStray t → ⊥) → Answered a o old new pid t → ServesFirst a o old new pid (Ok t)
    first_unstrayed (went now t) s goes x = x
    first_unstrayed full s goes x = x
    first_unstrayed idle s goes x = x
    first_unstrayed (strays access) (served.Stray seen) goes x = absurd (goes tt)
    first_unstrayed (strays access) served.Replied goes x = absurd x
    first_unstrayed (strays access) served.TurnEnds goes x = absurd x
    first_unstrayed (strays access) served.Waits goes x = absurd x
    first_unstrayed (strays access) served.Ended goes x = absurd x
    first_unstrayed (strays access) served.LogFull goes x = absurd x

    pub serves_first : has_stray old.notes ≡ false → ServesFirst a outcome old new pid (Ok s)
    serves_first quiet = first_unstrayed outcome s (not_stray s other) (serves (own_reach mode (sym strayed ∙ quiet)))

  -- ---- one strays

  -- where it was noted, or out of memory
  first_noted : (o : Outcome) (access : Access) (new : Kept) (s : Served) → stray_in o ≡ Some access → has_stray new.notes ≡ true → ServesFirst a o old new pid (Ok s)
  first_noted (strays seen) access new s is was = was
  first_noted (went now t) access new s is was = absurd cc
  first_noted full access new s is was = absurd cc
  first_noted idle access new s is was = absurd cc

  none_first_of : (o : Outcome) (new : Kept) (error : AllocError) → new ≡ old → ServesFirst a o old new pid (Err error)
  none_first_of (went now t) new error same = same
  none_first_of (strays access) new error same = same
  none_first_of full new error same = same
  none_first_of idle new error same = same

  never_strays : (o : After) (new : Kept) (access : Access) → GoesIn headers a o old new pid (served.Stray access) → ⊥
  never_strays (after p over) new access x = absurd x.1
  never_strays (no_room p) new access x = absurd x.2
  never_strays nobody new access x = absurd x

  -- it is within its own bytes that one strays
  stray_own : (mode : Mode) (o : After) (new : Kept) (access : Access) → InReach mode headers a o old new pid (Ok (served.Stray access)) → mode ≡ Halt
  stray_own Halt o new access x = refl
  stray_own GoOn o new access x = absurd (never_strays o new access x)

  stray_is : (o : Outcome) (new : Kept) (access : Access) → Answered a o old new pid (served.Stray access) → stray_in o ≡ Some access
  stray_is (strays seen) new access x = ap Some (sym x.0)
  stray_is (went now t) new access x = absurd x.1
  stray_is full new access x = absurd x
  stray_is idle new access x = absurd x

  -- none was noted before, and it is this one
  pub record IsFirst (access : Access) : Type 0 where
    pub quiet : has_stray old.notes ≡ false
    pub is : stray_in outcome ≡ Some access

  pub strays_by : (mode : Mode) → has_stray old.notes ≡ is_whole mode → (mid : Kept) (access : Access) (s : Served) → s ≡ served.Stray access
      → (mode ≡ Halt → has_stray old.notes ≡ false → Answered a outcome old mid pid s) → InReach mode headers a (called_in there pid) old mid pid (Ok s) → IsFirst access
  strays_by mode strayed mid access s same serves memory =
      let own = stray_own mode (called_in there pid) mid access (subst (λ (t : Served). InReach mode headers a (called_in there pid) old mid pid (Ok t)) same memory) in
      let quiet = strayed ∙ ap is_whole own in
      record { quiet = quiet; is = stray_is outcome mid access (subst (Answered a outcome old mid pid) same (serves own quiet)) }

  module _ (access : Access) (quiet : has_stray old.notes ≡ false) (is : stray_in outcome ≡ Some access) where
    pub first_is : first_range there pid ≡ Some access
    first_is = range_is false quiet ∙ is

    abbrev behind : Kept
    behind = with_range pid (Some access) old

    serves_noted : (new : Kept) (s : Served) → InReach GoOn headers a (called_in (physical_of headers a behind) pid) behind new pid (Ok s) → ServesOn headers a old new pid (Ok s)
    serves_noted new s x = as_found (Some access) first_is new s (subst (λ (p : Physical). GoesIn headers a (called_in p pid) behind new pid s) (noted_in access) x)

    notes_behind : (new : Kept) → new.notes ≡ behind.notes → new.notes ≡ (with_range pid (first_range there pid) old).notes
    notes_behind new same = same ∙ ap (λ (found : Option Access). (with_range pid found old).notes) (sym first_is)

-- ---- the call behind that note, by what it tells of the parts that it is shown

pub leaves_behind : (kind : Kind) (pid : ℕ) (r : Result Served AllocError) (shown left p q : RunParts) → shown ≡ p → left ≡ q → LeavesBehind kind pid shown left r → LeavesBehind kind pid p q r
leaves_behind kind pid r shown left p q shows leaves x =
    subst (λ (y : RunParts). LeavesBehind kind pid y q r) shows (subst (λ (y : RunParts). LeavesBehind kind pid shown y r) leaves x)

module _ (kind : Kind) (pid : ℕ) (access : Access) (old new : RunParts) (first : ForRuns kind old.programs (λ a. IsFirst (headers_of old.programs) a old.kept pid access)) where
  pub goes_on_behind : (r : Result Served AllocError) → OnErr r (new ≡ old) → IfOk r (λ done. LeavesBehind kind pid (noted_by pid access old) new r) → GoOnServes kind pid old new r
  goes_on_behind (Ok s) same left = record {
    memory = λ a so are.
        let at = first a so are in
        serves_noted (headers_of old.programs) a old.kept pid access at.quiet at.is new.kept s (left.memory a so are);
    unnoted = λ is a so are.
        let at = first a so are in
        notes_behind (headers_of old.programs) a old.kept pid access at.quiet at.is new.kept (left.unnoted is);
    first = λ quiet a so are.
        first_noted (headers_of old.programs) a old.kept pid (called (world_of a old.kept) pid) access new.kept s (first a so are).is left.strayed;
  }
  goes_on_behind (Err error) same left = record {
    memory = λ a so are. ap (λ (p : RunParts). p.kept) same;
    unnoted = λ is. absurd cc;
    first = λ quiet a so are. none_first_of (headers_of old.programs) a old.kept pid (called (world_of a old.kept) pid) new.kept error (ap (λ (p : RunParts). p.kept) same);
  }

-- ---- out of memory

pub unchanged_by : (headers : List (List ℕ)) (a : About) (o : After) (old new : Kept) (pid : ℕ) (mode : Mode) (r : Result Served AllocError) → InReach mode headers a o old new pid r → OnErr r (new ≡ old)
unchanged_by headers a o old new pid mode (Ok s) x = tt
unchanged_by headers a o old new pid Halt (Err error) x = x
unchanged_by headers a o old new pid GoOn (Err error) x = x

pub of_err : {A E : Type 0} (P : Type 0) (r : Result A E) → IsErr r → OnErr r P → P
of_err P (Ok x) is p = absurd cc
of_err P (Err error) is p = p

pub on_err : {A E : Type 0} (P : Type 0) (r : Result A E) → P → OnErr r P
on_err P (Ok x) is = tt
on_err P (Err error) is = is

pub on_ok : {A E : Type 0} (P : Type 0) (r : Result A E) → P → IfOk r (λ x. P)
on_ok P (Ok x) is = is
on_ok P (Err error) is = tt

-- ---- an access beyond reach

-- it strays, and nothing is done
pub stray_answers : (a : About) (o : Outcome) (old new : Kept) (pid : ℕ) (access : Access) (r : Result Served AllocError) → (r ≡ Ok (served.Stray access)) × (new ≡ old) → Answered a o old old pid (served.Stray access)
    → Serves a o old new pid r
stray_answers a o old new pid access r same x =
    subst (λ (t : Result Served AllocError). Serves a o old new pid t) (sym same.0) (subst (λ (now : Kept). Answered a o old now pid (served.Stray access)) (sym same.1) x)

-- the parts of a run are unchanged where what is kept is
pub parts_unchanged : {A : Type 0} (r : Result A AllocError) (programs : List Values) (mode : Mode) (noted : Bool) (old new : Kept) → OnErr r (new ≡ old) → OnErr r (parts_with programs mode noted new ≡ parts_with programs mode noted old)
parts_unchanged (Ok x) programs mode noted old new same = tt
parts_unchanged (Err error) programs mode noted old new same = ap (parts_with programs mode noted) same

-- behind the note of a stray access they keep what a run keeps, and out of memory too
pub keeps_behind : (pid : ℕ) (access : Access) (old new : RunParts) (r : Result Served AllocError) → old.noted ≡ has_stray old.kept.notes → OnErr r (new ≡ old) → IfOk r (λ done. KeepsRun (noted_by pid access old) new)
    → KeepsRun old new
keeps_behind pid access old new (Ok s) tied same keeps = record { programs = keeps.programs; mode = keeps.mode; noted = keeps.noted }
keeps_behind pid access old new (Err error) tied same keeps = record {
  programs = ap (λ (p : RunParts). p.programs) same;
  mode = ap (λ (p : RunParts). p.mode) same;
  noted = ap (λ (p : RunParts). p.noted) same ∙ tied ∙ sym (ap (λ (p : RunParts). has_stray p.kept.notes) same);
}
