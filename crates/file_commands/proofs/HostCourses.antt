-- A course grows from its end: nothing requested, and one more request in front.
use Rattle.std.proofs.Common.{◌≡◌, ◌≢◌, ℕ, List, [], ◌∷◌, Option, Some, None, refl, sym, ap, subst, ◌∙◌, inl, inr}
use Rattle.std.specs.Prelude.{option_map}
use Rattle.host_io.specs.Faults.{Rose}
use Rattle.host_io.specs.Host.{Told}
use Rattle.file_commands.specs.declared.status.Status.TheVariants as status
use Rattle.file_commands.specs.Ending.{Ending, memory_ending, OrMemory}
use Rattle.file_commands.specs.Outcome.{Request, load, Outcome, after, failure_ending}
use Rattle.file_commands.specs.Observed.{Observed}
use Rattle.file_commands.specs.HostCourse.{HostCourse, complete, failed, out_of_memory, IsCourseOf, after_answer, after_failure, told_after, FaultsAfter, EndsAfter, Performs}

option_map-same : {A : Type 0} (o : Option A) → o ≡ option_map (λ x. x) o
option_map-same None = refl
option_map-same (Some x) = refl

-- out of memory before the first request
pub runs_out : (old new : Observed Told) (outcome : Outcome) → new.told ≡ old.told → new.faults ≡ old.faults → Performs old new outcome memory_ending
runs_out old new outcome told faults = record {
  course = out_of_memory [];
  is_course = (outcome.requests, refl, tt);
  told = told ∙ option_map-same old.told;
  faults = faults;
  ends = refl;
}

-- nothing is requested
pub ends_at_once : (old : Observed Told) (wanted ending : Ending) → wanted.status ≢ status.HostRead → OrMemory wanted ending → Performs old old (record { requests = []; ending = wanted }) ending
ends_at_once old wanted ending other ends_so =
    elim ends_so [
      | inl is ↦ record {
        course = complete;
        is_course = tt;
        told = option_map-same old.told;
        faults = refl;
        ends = (is, subst (λ (s : Ending). s.status ≢ status.HostRead) (sym is) other);
      }
      | inr is ↦ subst (Performs old old (record { requests = []; ending = wanted })) (sym is) (runs_out old old _ refl refl)
    ]

-- the host fails at the first request
pub fails : (old new : Observed Told) (request : Request) (rest : Outcome) (ending : Ending) → new.told ≡ option_map (λ t. after_failure t request) old.told → Rose old.faults new.faults → OrMemory (failure_ending request) ending → Performs old new (after request rest) ending
fails old new request rest ending told rose ends_so = record {
  course = failed [] request;
  is_course = (rest.requests, refl, tt);
  told = told;
  faults = rose;
  ends = ends_so;
}

with_front : Request → HostCourse → HostCourse
with_front request complete = complete
with_front request (failed done last) = failed (request ∷ done) last
with_front request (out_of_memory done) = out_of_memory (request ∷ done)

module _ (name : List ℕ) (rest : Outcome) (ending : Ending) where
  front_is_course : (c : HostCourse) → IsCourseOf rest.requests c → IsCourseOf (load name ∷ rest.requests) (with_front (load name) c)
  unfolding with_front
  front_is_course complete h = tt
  front_is_course (failed done last) h = (h.0, ap (λ (requests : List Request). load name ∷ requests) h.1, h.2)
  front_is_course (out_of_memory done) h = (h.0, ap (λ (requests : List Request). load name ∷ requests) h.1, h.2)

  front_told : (c : HostCourse) (old : Option Told) → option_map (told_after rest.requests c) (option_map (λ t. after_answer t (load name)) old) ≡ option_map (told_after (load name ∷ rest.requests) (with_front (load name) c)) old
  unfolding with_front
  front_told c None = refl
  front_told complete (Some t) = refl
  front_told (failed done last) (Some t) = refl
  front_told (out_of_memory done) (Some t) = refl

  front_faults : (c : HostCourse) (before mid now : ℕ) → mid ≡ before → FaultsAfter c mid now → FaultsAfter (with_front (load name) c) before now
  unfolding with_front
  front_faults complete before mid now e h = h ∙ e
  front_faults (failed done last) before mid now e h = subst (λ n. Rose n now) e h
  front_faults (out_of_memory done) before mid now e h = h ∙ e

  front_ends : (c : HostCourse) → EndsAfter rest.ending c ending → EndsAfter rest.ending (with_front (load name) c) ending
  unfolding with_front
  front_ends complete h = h
  front_ends (failed done last) h = h
  front_ends (out_of_memory done) h = h

-- the host answers the load that is requested first, and goes on
pub loads : (old mid new : Observed Told) (name : List ℕ) (rest : Outcome) (ending : Ending) → mid.told ≡ option_map (λ t. after_answer t (load name)) old.told → mid.faults ≡ old.faults → Performs mid new rest ending → Performs old new (after (load name) rest) ending
loads old mid new name rest ending told faults performs = record {
  course = with_front (load name) performs.course;
  is_course = front_is_course name rest ending performs.course performs.is_course;
  told = performs.told ∙ ap (option_map (told_after rest.requests performs.course)) told ∙ front_told name rest ending performs.course old.told;
  faults = front_faults name rest ending performs.course old.faults mid.faults new.faults faults performs.faults;
  ends = front_ends name rest ending performs.course performs.ends;
}
