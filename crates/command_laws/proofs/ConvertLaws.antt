-- What a call of `convert` does.
use Rattle.std.proofs.Common.{◌≡◌, ℕ, List, [], ◌∷◌, ◌++◌, Option, Some, None, refl, sym, ap, subst, ◌∙◌, append_assoc, inl, inr}
use Rattle.std.specs.Prelude.{◌⊎◌, option_map}
use Rattle.std.specs.FinMap.{get, insert}
use Rattle.host_io.specs.Host.{Files, Told}
use Rattle.elf2flt_tool.specs.declared.refusal.Refusal.{Refusal}
use Rattle.elf2flt_tool.specs.Fault.{fault}
use Rattle.elf2flt_tool.specs.Converted.{flat}
use Rattle.file_commands.specs.declared.status.Status.TheVariants.{Done, Refused}
use Rattle.file_commands.specs.Sizes.{sizes}
use Rattle.file_commands.specs.Texts.{refusal_tail, convert_line}
use Rattle.file_commands.specs.Ending.{Ending, refused_ending}
use Rattle.file_commands.specs.Outcome.{Request, load, Outcome, after}
use Rattle.file_commands.specs.Arguments.{convert}
use Rattle.file_commands.specs.OneFile.{with_found}
use Rattle.file_commands.specs.Convert.{stored_outcome, judged_outcome, converted_outcome}
use Rattle.file_commands.specs.HostCourse.{HostCourse, complete, failed, out_of_memory, IsCourseOf, after_answer, after_answers, told_after, EndsAfter}
use Rattle.suite_top.specs.Call.{Call, outcome_of}
use Rattle.command_laws.specs.OneFileLaws.{elf_tail}
use Rattle.command_laws.specs.ConvertLaws.{IsConvert, ConvertChangesOneFile, ConvertIsDone, ConvertIsRefused, ConvertCompletes}
use Rattle.suite_top.proofs.Outcomes.{Behind, requests_behind}
use Rattle.suite_top.proofs.HostLaws.{told_is, loads_keep}
use Rattle.command_laws.proofs.OneFileLaws.{outcome_is, Shows, is_refused, is_done, is_completed}

-- the file FLT alone, by the flat file of what was found
abbrev Stored : Files → Files → (flt : List ℕ) (stack : ℕ) → Option (List ℕ) → Type 0
Stored old new flt stack found = (e : List ℕ) × (found ≡ Some e) × (fault e ≡ None) × (new ≡ insert old flt (flat e stack))

all_behind : (flt : List ℕ) (stack : ℕ) (found : Option (List ℕ)) (requests : List Request) (t : Told) → Behind flt stack found requests → ((after_answers t requests).files ≡ t.files) ⊎ Stored t.files (after_answers t requests).files flt stack found
all_behind flt stack found requests t (inl none) = inl (ap (λ (a : List Request). (after_answers t a).files) none)
all_behind flt stack found requests t (inr (e, is, accepted, one)) = inr (e, is, accepted, ap (λ (a : List Request). (after_answers t a).files) one)

abbrev requests_of_convert : (elf flt : List ℕ) (stack : ℕ) → Option (List ℕ) → List Request
requests_of_convert elf flt stack found = load elf ∷ (with_found elf found (converted_outcome flt stack)).requests

abbrev Ends : Files → Files → (flt : List ℕ) (stack : ℕ) → Option (List ℕ) → Type 0 → Type 0
Ends old new flt stack found Whole = (new ≡ old) ⊎ ((e : List ℕ) × (found ≡ Some e) × (fault e ≡ None) × (new ≡ insert old flt (flat e stack)) × Whole)

files_at : (elf flt : List ℕ) (stack : ℕ) (found : Option (List ℕ)) (requests : List Request) → requests ≡ requests_of_convert elf flt stack found → (wanted ending : Ending) (k : HostCourse) → IsCourseOf requests k → EndsAfter wanted k ending → (t : Told) → Ends t.files (told_after requests k t).files flt stack found (ending ≡ wanted)
files_at elf flt stack found requests by wanted ending complete is ends t =
    let same = ap (λ (a : List Request). (after_answers t a).files) by in
    elim (all_behind flt stack found (with_found elf found (converted_outcome flt stack)).requests (after_answer t (load elf)) (requests_behind elf flt stack found)) [
      | inl kept ↦ inl (same ∙ kept)
      | inr (e, is_e, accepted, new) ↦ inr (e, is_e, accepted, same ∙ new, ends.0)
    ]
files_at elf flt stack found requests by wanted ending (failed done last) is ends t = inl (loads_keep done t is.2)
files_at elf flt stack found requests by wanted ending (out_of_memory done) is ends t = inl (loads_keep done t is.2)

outcome_of_convert : (c : Call) (t t_after : Told) (elf flt : List ℕ) (stack : ℕ) → IsConvert c t t_after elf flt stack → outcome_of c ≡ after (load elf) (with_found elf (get t.files elf) (converted_outcome flt stack))
outcome_of_convert c t t_after elf flt stack is = outcome_is c t t_after is.files (convert elf flt stack) is.command

changes : (c : Call) (t t_after : Told) (elf flt : List ℕ) (stack : ℕ) → IsConvert c t t_after elf flt stack → (ending : Ending) (k : HostCourse) → IsCourseOf (outcome_of c).requests k → c.host_after.told ≡ option_map (told_after (outcome_of c).requests k) c.host.told
    → EndsAfter (outcome_of c).ending k ending → Ends t.files t_after.files flt stack (get t.files elf) (ending ≡ (outcome_of c).ending)
changes c t t_after elf flt stack is ending k is_course told ends =
    let after_is = told_is (told_after (outcome_of c).requests k) c.host.told c.host_after.told t t_after told is.files.told is.files.told_after in
    let requests = ap (λ (o : Outcome). o.requests) (outcome_of_convert c t t_after elf flt stack is) in
    subst (λ (new : Files). Ends t.files new flt stack (get t.files elf) (ending ≡ (outcome_of c).ending)) (sym (ap (λ (u : Told). u.files) after_is))
    (files_at elf flt stack (get t.files elf) (outcome_of c).requests requests (outcome_of c).ending ending k is_course ends t)

pub convert_changes_one_file : ConvertChangesOneFile
convert_changes_one_file c t t_after elf flt stack is =
    let meets = is.files.meets in
    (meets.0, meets.2, changes c t t_after elf flt stack is meets.0 meets.1.course meets.1.is_course meets.1.told meets.1.ends)

-- ---- the answers

refused : (flt : List ℕ) (stack : ℕ) (e : List ℕ) (o : Option Refusal) → fault e ≡ o → (judged_outcome flt stack e o).ending.status ≡ Refused
    → (tail : List ℕ) × (elf_tail e ≡ Some tail) × (judged_outcome flt stack e o ≡ record { requests = []; ending = refused_ending tail })
refused flt stack e None is status = absurd (let h : Done ≡ Refused = status in cc)
refused flt stack e (Some first) is status = (refusal_tail first, ap (option_map refusal_tail) is, refl)

accepted : (flt : List ℕ) (stack : ℕ) (e : List ℕ) (o : Option Refusal) → (judged_outcome flt stack e o).ending.status ≡ Done → o ≡ None
accepted flt stack e None status = refl
accepted flt stack e (Some first) status = absurd (let h : Refused ≡ Done = status in cc)

pub convert_is_refused : ConvertIsRefused
convert_is_refused c t t_after elf flt stack is status =
    is_refused c t t_after is.files elf (converted_outcome flt stack) (outcome_of_convert c t t_after elf flt stack is) elf_tail (λ e. refused flt stack e (fault e) refl) status

converts : (c : Call) (t t_after : Told) (elf flt : List ℕ) (stack : ℕ) (e : List ℕ) → Shows c t t_after (after (load elf) (stored_outcome flt (flat e stack) (convert_line (sizes e stack)))) → t_after.asked ≡ t.asked ++ elf ∷ flt ∷ []
converts c t t_after elf flt stack e s = ap (λ (u : Told). u.asked) s.told ∙ append_assoc t.asked (elf ∷ []) (flt ∷ [])

pub convert_is_done : ConvertIsDone
convert_is_done c t t_after elf flt stack is status =
    let (e, file, ends, at) = is_done c t t_after is.files elf (converted_outcome flt stack) (outcome_of_convert c t t_after elf flt stack is) status in
    let none : fault e ≡ None = accepted flt stack e (fault e) ends in
    let s : Shows c t t_after (after (load elf) (stored_outcome flt (flat e stack) (convert_line (sizes e stack)))) = subst (λ (o : Option Refusal). Shows c t t_after (after (load elf) (judged_outcome flt stack e o))) none at in
    record {
      bytes = e;
      file = file;
      accepted = none;
      files = ap (λ (u : Told). u.files) s.told;
      asked = converts c t t_after elf flt stack e s;
      out = s.out;
      report = s.report;
    }

pub convert_completes : ConvertCompletes
convert_completes c t t_after elf flt stack is e file none calm =
    is_completed c t t_after is.files elf (converted_outcome flt stack) (outcome_of_convert c t t_after elf flt stack is) e file
    (ap (λ (o : Option Refusal). (judged_outcome flt stack e o).ending.status) none) calm
