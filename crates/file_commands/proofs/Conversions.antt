-- What `convert` and `check` do with an ELF file, behind its load.
use Rattle.std.proofs.Common.{◌≡◌, ◌≢◌, ℕ, Bool, true, false, List, Option, Some, None, refl, sym, ap, subst, ◌∙◌, inl, inr}
use Rattle.std.specs.Prelude.{◌⊎◌}
use Rattle.host_io.specs.Host.{Told}
use Rattle.elf2flt_tool.specs.declared.refusal.Refusal.{Refusal}
use Rattle.elf2flt_tool.specs.declared.refusal.Refusal.TheVariants as refusal
use Rattle.elf2flt_tool.specs.Fault.{fault}
use Rattle.file_commands.specs.declared.status.Status.TheVariants as status
use Rattle.bflt_format.specs.Values.{Values}
use Rattle.bflt_format.specs.Spelling.{spell}
use Rattle.elf2flt_tool.specs.Converted.{converted, flat}
use Rattle.file_commands.specs.Sizes.{Sizes, sizes, sizes_of}
use Rattle.file_commands.specs.Texts.{refusal_tail, convert_line, check_line}
use Rattle.file_commands.specs.Ending.{Ending, done_ending, memory_ending, refused_ending, listed_ending, OrMemory}
use Rattle.file_commands.specs.Arguments.{default_stack}
use Rattle.file_commands.specs.Convert.{stored_outcome, judged_outcome, converted_outcome}
use Rattle.file_commands.specs.Check.{faults_text, verdict, checked_ending, checked_outcome}
use Rattle.file_commands.specs.Observed.{Observed}
use Rattle.file_commands.specs.HostCourse.{Performs}
use Rattle.file_commands.proofs.HostCourses.{runs_out, ends_at_once}
use Rattle.file_commands.proofs.SizesLaw.{converted_sizes}

module _ (e : List ℕ) (first : Refusal) (ending : Ending) (why : (first ≡ refusal.Memory) ⊎ (fault e ≡ Some first)) (ends : OrMemory (refused_ending (refusal_tail first)) ending) (missing : first ≡ refusal.Memory → ending ≡ memory_ending) where
  pub convert_refuses : (old : Observed Told) (flt : List ℕ) (stack : ℕ) → Performs old old (converted_outcome flt stack e) ending
  convert_refuses old flt stack =
      elim why [
        | inl is ↦ subst (Performs old old (converted_outcome flt stack e)) (sym (missing is)) (runs_out old old _ refl refl)
        | inr is ↦ subst (λ (o : Option Refusal). Performs old old (judged_outcome flt stack e o) ending) (sym is) (ends_at_once old (refused_ending (refusal_tail first)) ending (λ other. cc) ends)
      ]

  pub check_refuses : OrMemory (checked_ending false e) ending
  check_refuses =
      elim why [
        | inl is ↦ inr (missing is)
        | inr is ↦ subst (λ (o : Option Refusal). OrMemory (verdict e false o) ending) (sym is) ends
      ]

module _ (e : List ℕ) (first : Refusal) (ending : Ending) (why : (first ≡ refusal.Memory) ⊎ (fault e ≡ Some first)) (ends : OrMemory (listed_ending (faults_text e) (refusal_tail first)) ending) (missing : first ≡ refusal.Memory → ending ≡ memory_ending) where
  pub check_lists : OrMemory (checked_ending true e) ending
  check_lists =
      elim why [
        | inl is ↦ inr (missing is)
        | inr is ↦ subst (λ (o : Option Refusal). OrMemory (verdict e true o) ending) (sym is) ends
      ]

-- the flat file of an ELF file without a fault
module _ (e : List ℕ) (stack : ℕ) (f : Values) (none : fault e ≡ None) (is : f ≡ converted e stack) (ending : Ending) where
  pub convert_accepts : (old new : Observed Told) (flt : List ℕ) → Performs old new (stored_outcome flt (spell f) (convert_line (sizes_of f))) ending → Performs old new (converted_outcome flt stack e) ending
  unfolding flat
  convert_accepts old new flt performs =
      let at = subst (λ (g : Values). Performs old new (stored_outcome flt (spell g) (convert_line (sizes_of g))) ending) is performs in
      let sized : Performs old new (stored_outcome flt (flat e stack) (convert_line (sizes e stack))) ending = subst (λ (s : Sizes). Performs old new (stored_outcome flt (flat e stack) (convert_line s)) ending) (converted_sizes e stack) at in
      subst (λ (o : Option Refusal). Performs old new (judged_outcome flt stack e o) ending) (sym none) sized

pub check_accepts : (e : List ℕ) (all : Bool) (f : Values) (ending : Ending) → fault e ≡ None → f ≡ converted e default_stack → OrMemory (done_ending (check_line (sizes_of f))) ending → OrMemory (checked_ending all e) ending
check_accepts e all f ending none is ends =
    let sized : check_line (sizes_of f) ≡ check_line (sizes e default_stack) = ap (λ (g : Values). check_line (sizes_of g)) is ∙ ap check_line (converted_sizes e default_stack) in
    let wanted : done_ending (check_line (sizes_of f)) ≡ checked_ending all e = ap done_ending sized ∙ sym (ap (verdict e all) none) in
    subst (λ (t : Ending). OrMemory t ending) wanted ends

reads : (e : List ℕ) (all : Bool) (o : Option Refusal) → (verdict e all o).status ≢ status.HostRead
reads e all None = λ h. cc
reads e true (Some first) = λ h. cc
reads e false (Some first) = λ h. cc

-- behind its load `check` ends
pub checks : (old : Observed Told) (e : List ℕ) (all : Bool) (ending : Ending) → OrMemory (checked_ending all e) ending → Performs old old (checked_outcome all e) ending
checks old e all ending ends = ends_at_once old (checked_ending all e) ending (reads e all (fault e)) ends
