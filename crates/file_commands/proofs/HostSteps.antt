-- What the answers of a host say as steps of a course.
use Rattle.std.proofs.Common.{◌≡◌, ◌≢◌, ℕ, zero, suc, ◌+◌, ◌≤◌, Bool, true, false, cond, List, [], ◌∷◌, length, replicate, Option, Some, None, Ok, Err, refl, sym, ap, subst, ◌∙◌, arith}
use Rattle.std.specs.Prelude.{IfSome, option_map, nat_lt}
use Rattle.std.specs.FinMap.{get}
use Rattle.std.proofs.lemmas.List.{length-replicate}
use Rattle.std.proofs.lemmas.Bool.Decides.{nat_tests}
use Rattle.host_io.specs.Faults.{HasCause}
use Rattle.host_io.specs.Host.{Told, loads, LoadTold, StoreTold}
use Rattle.host_io.specs.declared.host.Loaded.{Loaded}
use Rattle.host_io.specs.declared.host.Loaded.TheVariants as loaded
use Rattle.host_io.specs.declared.host.HostError.TheVariants as error
use Rattle.file_commands.specs.declared.status.Status.TheVariants as status
use Rattle.file_commands.specs.Texts.Refusals.{too_long_at}
use Rattle.file_commands.specs.Ending.{Ending, refused_ending, memory_ending, OrMemory}
use Rattle.file_commands.specs.Outcome.{load, store, Outcome, Inputs, failure_ending, storing}
use Rattle.file_commands.specs.Load.{at_once, behind, with_limited, with_load}
use Rattle.file_commands.specs.Observed.{Observed}
use Rattle.file_commands.specs.HostCourse.{complete, after_answer, after_failure, inputs_in, Performs, PerformsOver, PerformsCommand}
use Rattle.file_commands.specs.FileLoad.{GaveFile}
use Rattle.file_commands.proofs.Stops.{stands}
use Rattle.file_commands.proofs.HostCourses as courses
use Rattle.file_commands.proofs.HostCourses.{runs_out, ends_at_once, fails}

-- ---- what a host tells after each answer

load_answered : (old new : Option Told) (name : List ℕ) (limit : ℕ) (into : List ℕ) (x : Loaded) → LoadTold old new name limit into (Ok x) → new ≡ option_map (λ t. after_answer t (load name)) old
load_answered None new name limit into x h = h
load_answered (Some t) new name limit into x h = h.0

load_failed : (old new : Option Told) (name : List ℕ) (limit : ℕ) (into : List ℕ) → LoadTold old new name limit into (Err error.Failed) → new ≡ option_map (λ t. after_failure t (load name)) old
load_failed None new name limit into h = h
load_failed (Some t) new name limit into h = h.0

load_out_of_memory : (old new : Option Told) (name : List ℕ) (limit : ℕ) (into : List ℕ) → LoadTold old new name limit into (Err error.Memory) → new ≡ old
load_out_of_memory None new name limit into h = h
load_out_of_memory (Some t) new name limit into h = h.0

store_answered : (old new : Option Told) (name bytes : List ℕ) → StoreTold {T = Unit {0}} old new name bytes (Ok tt) → new ≡ option_map (λ t. after_answer t (store name bytes)) old
store_answered None new name bytes h = h
store_answered (Some t) new name bytes h = h

store_failed : (old new : Option Told) (name bytes : List ℕ) → StoreTold {T = Unit {0}} old new name bytes (Err error.Failed) → new ≡ option_map (λ t. after_failure t (store name bytes)) old
store_failed None new name bytes h = h
store_failed (Some t) new name bytes h = h

store_out_of_memory : (old new : Option Told) (name bytes : List ℕ) → StoreTold {T = Unit {0}} old new name bytes (Err error.Memory) → new ≡ old
store_out_of_memory None new name bytes h = h
store_out_of_memory (Some t) new name bytes h = h

-- ---- a store at the end

pub stores : (old new : Observed Told) (name bytes : List ℕ) (wanted : Ending) → wanted.status ≢ status.HostRead → StoreTold {T = Unit {0}} old.told new.told name bytes (Ok tt) → HasCause {T = Unit {0}} error.Failed old.faults new.faults (Ok tt)
    → Performs old new (storing name bytes wanted) wanted
stores old new name bytes wanted other told cause = record {
  course = complete;
  is_course = tt;
  told = store_answered _ _ _ _ told;
  faults = stands {T = Unit {0}} error.Failed old.faults new.faults (Ok tt) cause (λ e. cc);
  ends = (refl, other);
}

module _ (old new : Observed Told) (name bytes : List ℕ) (wanted ending : Ending) where
  pub fails_to_store : StoreTold {T = Unit {0}} old.told new.told name bytes (Err error.Failed) → HasCause {T = Unit {0}} error.Failed old.faults new.faults (Err error.Failed) → OrMemory (failure_ending (store name bytes)) ending
      → Performs old new (record { requests = store name bytes ∷ []; ending = wanted }) ending
  fails_to_store told cause ends =
      fails old new (store name bytes) (record { requests = []; ending = wanted }) ending (store_failed _ _ _ _ told) (cause.fault refl) ends

  pub runs_out_at_store : StoreTold {T = Unit {0}} old.told new.told name bytes (Err error.Memory) → HasCause {T = Unit {0}} error.Failed old.faults new.faults (Err error.Memory) → ending ≡ memory_ending
      → Performs old new (record { requests = store name bytes ∷ []; ending = wanted }) ending
  runs_out_at_store told cause is =
      subst (Performs old new (record { requests = store name bytes ∷ []; ending = wanted })) (sym is)
      (runs_out old new _ (store_out_of_memory _ _ _ _ told) (stands {T = Unit {0}} error.Failed old.faults new.faults (Err error.Memory) cause (λ e. cc)))

-- ---- a load, and what goes on with its file

-- a file that is longer than a limit
longer : (limit : ℕ) → (e : List ℕ) × (nat_lt limit (length e) ≡ true)
longer limit = (replicate (limit + 1) 0, rw (length-replicate {A = ℕ} (limit + 1) 0) (grind (arith, nat_tests)))

abbrev showing : Bool → List ℕ → Loaded × List ℕ
showing b e = cond b (loaded.TooLong, []) (loaded.All, e)

abbrev sort_of : Loaded × List ℕ → Loaded
sort_of shown = shown.0

showing_all : (b : Bool) (e into : List ℕ) → showing b e ≡ (loaded.All, into) → (b ≡ false) × (e ≡ into)
showing_all true e into h = let k : loaded.TooLong ≡ loaded.All = ap sort_of h in absurd cc
showing_all false e into h = (refl, ap (λ (shown : Loaded × List ℕ). shown.1) h)

showing_long : (b : Bool) (e into : List ℕ) → showing b e ≡ (loaded.TooLong, into) → b ≡ true
showing_long true e into h = refl
showing_long false e into h = let k : loaded.All ≡ loaded.TooLong = ap sort_of h in absurd cc

-- the whole file
is_found : (limit : ℕ) (o : Option (List ℕ)) (into : List ℕ) → option_map (λ e. loads e limit) o ≡ Some (loaded.All, into) → o ≡ Some into
is_found limit None into h = absurd cc
is_found limit (Some e) into h = ap Some (showing_all (nat_lt limit (length e)) e into cc).1

load_found : (limit : ℕ) (old new : Option Told) (name into : List ℕ) → LoadTold old new name limit into (Ok loaded.All) → IfSome old (λ t. get t.files name ≡ Some into)
load_found limit None new name into h = tt
load_found limit (Some t) new name into h = is_found limit (get t.files name) into h.1

-- these files, behind one more
first_input : Option (List ℕ) → Inputs → Inputs
first_input first more zero name = first
first_input first more (suc i) name = more i name

behind_first : (first : Option (List ℕ)) (more : Inputs) → behind (first_input first more) ≡ more
unfolding first_input
behind_first first more = refl

-- a course for any files that a host may give
pub for_any_inputs : (old new : Observed Told) (outcome : Inputs → Outcome) (ending : Ending) → ((inputs : Inputs) → Performs old new (outcome inputs) ending) → PerformsCommand old new outcome ending
for_any_inputs old new outcome ending go = elim old.told as (λ (t : Option Told). PerformsOver t old new outcome ending) [
  | None ↦ ((λ i n. None), go (λ i n. None))
  | Some t ↦ go (inputs_in t.files)
]

module _ (limit : ℕ) (line : Option ℕ) (name : List ℕ) (rest : List ℕ → Inputs → Outcome) where
  abbrev wanted : Inputs → Outcome
  wanted inputs = with_load limit line name rest inputs

  -- the rest of a command goes on with the file
  pub performs_rest : (old mid new : Observed Told) (bytes : List ℕ) (ending : Ending)
      → GaveFile limit old mid name bytes → PerformsCommand mid new (rest bytes) ending → PerformsCommand old new wanted ending
  unfolding first_input
  performs_rest old mid new bytes ending given performs = by_told old.told refl
    where
      fits : nat_lt limit (length bytes) ≡ false
      fits = let short : length bytes ≤ limit = given.fits in grind (arith, nat_tests)

      goes_on : (inputs : Inputs) → Performs mid new (rest bytes inputs) ending → Performs mid new (with_limited limit line name (Some bytes) (λ e. rest e inputs)) ending
      goes_on inputs p = rw fits p

      by_told : (o : Option Told) → old.told ≡ o → PerformsOver o old new wanted ending
      by_told None is =
          let told : mid.told ≡ None = given.told ∙ ap (option_map (λ t. after_answer t (load name))) is in
          let p = subst (λ (o : Option Told). PerformsOver o mid new (rest bytes) ending) told performs in
          (first_input (Some bytes) p.0, courses.loads old mid new name (with_limited limit line name (Some bytes) (λ e. rest e p.0)) ending given.told given.faults (goes_on p.0 p.1))
      by_told (Some t) is =
          let told : mid.told ≡ Some (after_answer t (load name)) = given.told ∙ ap (option_map (λ u. after_answer u (load name))) is in
          let p = subst (λ (o : Option Told). PerformsOver o mid new (rest bytes) ending) told performs in
          let file : get t.files name ≡ Some bytes = subst (λ (o : Option Told). IfSome o (λ u. get u.files name ≡ Some bytes)) is given.file in
          let found = subst (λ (o : Option (List ℕ)). Performs mid new (with_limited limit line name o (λ e. rest e (inputs_in t.files))) ending) (sym file) (goes_on (inputs_in t.files) p) in
          courses.loads old mid new name (with_limited limit line name (get t.files name) (λ e. rest e (inputs_in t.files))) ending given.told given.faults found

  -- a file that is too long
  pub loads_too_long : (old mid : Observed Told) (into : List ℕ) (ending : Ending)
      → LoadTold old.told mid.told name limit into (Ok loaded.TooLong) → HasCause error.Failed old.faults mid.faults (Ok loaded.TooLong)
      → OrMemory (refused_ending (too_long_at line)) ending → PerformsCommand old mid wanted ending
  unfolding first_input
  loads_too_long old mid into ending told cause ends = by_told old.told refl
    where
      faults : mid.faults ≡ old.faults
      faults = stands error.Failed old.faults mid.faults (Ok loaded.TooLong) cause (λ e. cc)

      answered : mid.told ≡ option_map (λ t. after_answer t (load name)) old.told
      answered = load_answered old.told mid.told name limit into loaded.TooLong told

      refuses : (e : List ℕ) (inputs : Inputs) → nat_lt limit (length e) ≡ true → Performs mid mid (with_limited limit line name (Some e) (λ x. rest x inputs)) ending
      refuses e inputs is = rw is (ends_at_once mid (refused_ending (too_long_at line)) ending (λ h. cc) ends)

      found : (o : Option (List ℕ)) (inputs : Inputs) → option_map (λ e. loads e limit) o ≡ Some (loaded.TooLong, into) → Performs mid mid (with_limited limit line name o (λ x. rest x inputs)) ending
      found None inputs shown = absurd cc
      found (Some e) inputs shown = refuses e inputs (showing_long (nat_lt limit (length e)) e into cc)

      by_told : (o : Option Told) → old.told ≡ o → PerformsOver o old mid wanted ending
      by_told None is =
          let long = longer limit in
          (first_input (Some long.0) (λ i n. None), courses.loads old mid mid name (with_limited limit line name (Some long.0) (λ e. rest e (λ i n. None))) ending answered faults (refuses long.0 (λ i n. None) long.1))
      by_told (Some t) is =
          let h : LoadTold (Some t) mid.told name limit into (Ok loaded.TooLong) = subst (λ (o : Option Told). LoadTold o mid.told name limit into (Ok loaded.TooLong)) is told in
          courses.loads old mid mid name (with_limited limit line name (get t.files name) (λ e. rest e (inputs_in t.files))) ending answered faults (found (get t.files name) (inputs_in t.files) h.1)

  pub fails_to_load : (old new : Observed Told) (into : List ℕ) (ending : Ending)
      → LoadTold old.told new.told name limit into (Err error.Failed) → HasCause {T = Loaded} error.Failed old.faults new.faults (Err error.Failed)
      → OrMemory (failure_ending (load name)) ending → PerformsCommand old new wanted ending
  fails_to_load old new into ending told cause ends =
      for_any_inputs old new wanted ending
      (λ inputs. fails old new (load name) (with_limited limit line name (inputs 0 name) (λ e. rest e (behind inputs))) ending (load_failed _ _ _ _ _ told) (cause.fault refl) ends)

  pub runs_out_at_load : (old new : Observed Told) (into : List ℕ)
      → LoadTold old.told new.told name limit into (Err error.Memory) → HasCause {T = Loaded} error.Failed old.faults new.faults (Err error.Memory)
      → PerformsCommand old new wanted memory_ending
  runs_out_at_load old new into told cause =
      for_any_inputs old new wanted memory_ending
      (λ inputs. runs_out old new (wanted inputs) (load_out_of_memory _ _ _ _ _ told) (stands {T = Loaded} error.Failed old.faults new.faults (Err error.Memory) cause (λ e. cc)))

pub gave_file : (limit : ℕ) (old new : Observed Told) (name into : List ℕ)
    → LoadTold old.told new.told name limit into (Ok loaded.All) → HasCause error.Failed old.faults new.faults (Ok loaded.All) → length into ≤ limit
    → GaveFile limit old new name into
gave_file limit old new name into told cause short = record {
  told = load_answered _ _ _ _ _ loaded.All told;
  faults = stands error.Failed old.faults new.faults (Ok loaded.All) cause (λ e. cc);
  file = load_found limit _ _ _ _ told;
  fits = short;
}

-- nothing is asked
pub asks_nothing : (old : Observed Told) (wanted ending : Ending) → wanted.status ≢ status.HostRead → OrMemory wanted ending → PerformsCommand old old (λ inputs. at_once wanted) ending
asks_nothing old wanted ending other ends = for_any_inputs old old (λ inputs. at_once wanted) ending (λ inputs. ends_at_once old wanted ending other ends)

-- out of memory before the next request
pub memory_now : (old : Observed Told) (outcome : Inputs → Outcome) → PerformsCommand old old outcome memory_ending
memory_now old outcome = for_any_inputs old old outcome memory_ending (λ inputs. runs_out old old (outcome inputs) refl refl)
