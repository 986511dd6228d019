-- What a call of `list` does.
use Rattle.std.proofs.Common.{◌≡◌, ℕ, List, [], Option, Some, None, refl, ap, subst, ◌∙◌}
use Rattle.std.specs.Prelude.{option_map}
use Rattle.std.specs.FinMap.{get}
use Rattle.host_io.specs.Host.{Told}
use Rattle.bflt_format.specs.declared.fault.FlatFault.{FlatFault}
use Rattle.bflt_format.specs.Fault.{flat_fault}
use Rattle.file_commands.specs.declared.status.Status.TheVariants.{Done, Refused}
use Rattle.file_commands.specs.Texts.Listing.{flat_tail}
use Rattle.file_commands.specs.Ending.{Ending, refused_ending}
use Rattle.file_commands.specs.Outcome.{load, Outcome, after}
use Rattle.file_commands.specs.Arguments.{Invocation, list}
use Rattle.file_commands.specs.OneFile.{with_found}
use Rattle.file_commands.specs.List.{judged_ending, listed_outcome}
use Rattle.suite_top.specs.Result.{command_outcome}
use Rattle.suite_top.specs.Call.{Call, outcome_of}
use Rattle.command_laws.specs.ListLaws.{IsList, ListAsksOneLoad, ListIsDone, list_tail, ListIsRefused, ListCompletes}
use Rattle.suite_top.proofs.Outcomes.{list_requests}
use Rattle.command_laws.proofs.OneFileLaws.{outcome_is, Shows, is_refused, is_done, is_completed}

pub list_asks_one_load : ListAsksOneLoad
list_asks_one_load c flt is = ap (λ (o : Option Invocation). (command_outcome o c.inputs).requests) is ∙ list_requests flt c.inputs

outcome_of_list : (c : Call) (t t_after : Told) (flt : List ℕ) → IsList c t t_after flt → outcome_of c ≡ after (load flt) (with_found flt (get t.files flt) listed_outcome)
outcome_of_list c t t_after flt is = outcome_is c t t_after is.files (list flt) is.command

-- nothing is requested behind the load
abbrev at_once : Ending → Outcome
at_once ending = record { requests = []; ending = ending }

refused : (e : List ℕ) (o : Option FlatFault) → flat_fault e ≡ o → (judged_ending e o).status ≡ Refused
    → (tail : List ℕ) × (list_tail e ≡ Some tail) × (at_once (judged_ending e o) ≡ at_once (refused_ending tail))
refused e None is status = absurd (let h : Done ≡ Refused = status in cc)
refused e (Some first) is status = (flat_tail first, ap (option_map flat_tail) is, refl)

accepted : (e : List ℕ) (o : Option FlatFault) → (judged_ending e o).status ≡ Done → o ≡ None
accepted e None status = refl
accepted e (Some first) status = absurd (let h : Refused ≡ Done = status in cc)

pub list_is_refused : ListIsRefused
list_is_refused c t t_after flt is status =
    is_refused c t t_after is.files flt listed_outcome (outcome_of_list c t t_after flt is) list_tail (λ e. refused e (flat_fault e) refl) status

pub list_is_done : ListIsDone
list_is_done c t t_after flt is status =
    let (e, file, ends, at) = is_done c t t_after is.files flt listed_outcome (outcome_of_list c t t_after flt is) status in
    let none : flat_fault e ≡ None = accepted e (flat_fault e) ends in
    let s = subst (λ (o : Option FlatFault). Shows c t t_after (after (load flt) (at_once (judged_ending e o)))) none at in
    record {
      bytes = e;
      file = file;
      accepted = none;
      shown = record { files = ap (λ (u : Told). u.files) s.told; asked = ap (λ (u : Told). u.asked) s.told; out = s.out; report = s.report };
    }

pub list_completes : ListCompletes
list_completes c t t_after flt is e file none calm =
    is_completed c t t_after is.files flt listed_outcome (outcome_of_list c t t_after flt is) e file
    (ap (λ (o : Option FlatFault). (judged_ending e o).status) none) calm
