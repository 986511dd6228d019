-- What a call of `check` does.
use Rattle.std.proofs.Common.{◌≡◌, ℕ, Bool, true, false, List, [], Option, Some, None, refl, sym, ap, subst, ◌∙◌, inl, inr}
use Rattle.std.specs.Prelude.{option_map}
use Rattle.std.specs.FinMap.{get}
use Rattle.host_io.specs.Host.{Told}
use Rattle.elf2flt_tool.specs.declared.refusal.Refusal.{Refusal}
use Rattle.elf2flt_tool.specs.Fault.{fault}
use Rattle.file_commands.specs.declared.status.Status.TheVariants.{Done, HostRead, Refused}
use Rattle.file_commands.specs.Texts.{refusal_tail, too_long_tail}
use Rattle.file_commands.specs.Ending.{Ending, listed_ending}
use Rattle.file_commands.specs.Outcome.{load, Outcome, after}
use Rattle.file_commands.specs.Arguments.{Invocation, check}
use Rattle.file_commands.specs.OneFile.{file_limit, with_found}
use Rattle.file_commands.specs.Check.{verdict, checked_outcome}
use Rattle.suite_top.specs.Result.{command_outcome}
use Rattle.suite_top.specs.Call.{Call, outcome_of}
use Rattle.suite_top.specs.StatusLaws.{IsAnswer}
use Rattle.command_laws.specs.OneFileLaws.{elf_tail}
use Rattle.command_laws.specs.CheckLaws.{IsCheck, CheckAsksOneLoad, CheckIsDone, listed_of, HasFaults, IsCheckRefused, CheckIsRefused, CheckCompletes}
use Rattle.suite_top.proofs.Outcomes.{check_requests}
use Rattle.command_laws.proofs.OneFileLaws.{outcome_is, Shows, Found, missing, long, fits, found, shows_behind, is_done, is_completed}

pub check_asks_one_load : CheckAsksOneLoad
check_asks_one_load c elf all is = ap (λ (o : Option Invocation). (command_outcome o c.inputs).requests) is ∙ check_requests elf all c.inputs

outcome_of_check : (c : Call) (t t_after : Told) (elf : List ℕ) (all : Bool) → IsCheck c t t_after elf all → outcome_of c ≡ after (load elf) (with_found elf (get t.files elf) (checked_outcome all))
outcome_of_check c t t_after elf all is = outcome_is c t t_after is.files (check elf all) is.command

-- nothing is requested behind the load
abbrev pub at_once : Ending → Outcome
at_once ending = record { requests = []; ending = ending }

-- a refused file has a first fault, and all are listed where that is asked for
abbrev IsTold : (e : List ℕ) (all : Bool) → Outcome → Type 0
IsTold e all x = (tail : List ℕ) × (elf_tail e ≡ Some tail) × (x ≡ at_once (listed_ending (listed_of all e) tail))

refused : (e : List ℕ) (all : Bool) (o : Option Refusal) → fault e ≡ o → (verdict e all o).status ≡ Refused → IsTold e all (at_once (verdict e all o))
refused e all None is status = absurd (let h : Done ≡ Refused = status in cc)
refused e true (Some first) is status = (refusal_tail first, ap (option_map refusal_tail) is, refl)
refused e false (Some first) is status = (refusal_tail first, ap (option_map refusal_tail) is, refl)

accepted : (e : List ℕ) (all : Bool) (o : Option Refusal) → (verdict e all o).status ≡ Done → o ≡ None
accepted e all None status = refl
accepted e true (Some first) status = absurd (let h : Refused ≡ Done = status in cc)
accepted e false (Some first) status = absurd (let h : Refused ≡ Done = status in cc)

module _ (c : Call) (t t_after : Told) (elf : List ℕ) (all : Bool) (is : IsCheck c t t_after elf all) (status : c.status ≡ Refused) where
  behind : (x : Outcome) → with_found elf (get t.files elf) (checked_outcome all) ≡ x → Shows c t t_after (after (load elf) x)
  behind x w = shows_behind c t t_after is.files elf (checked_outcome all) (outcome_of_check c t t_after elf all is) x w (subst IsAnswer (sym status) tt)

  told : (listed tail : List ℕ) → with_found elf (get t.files elf) (checked_outcome all) ≡ at_once (listed_ending listed tail) → HasFaults t elf all listed tail → IsCheckRefused c t t_after elf all
  told listed tail w cause =
      let s = behind (at_once (listed_ending listed tail)) w in
      record { listed = listed; tail = tail; cause = cause; files = ap (λ (u : Told). u.files) s.told; asked = ap (λ (u : Told). u.asked) s.told; out = s.out; report = s.report }

  told_at : Found file_limit elf (checked_outcome all) (get t.files elf) → IsCheckRefused c t t_after elf all
  told_at (missing w) = absurd (let h : HostRead ≡ Refused = sym (behind _ w).status ∙ status in cc)
  told_at (long e o lt w) = told [] too_long_tail w (e, o, inl (lt, refl, refl))
  told_at (fits e o le w) =
      let r = refused e all (fault e) refl (sym (behind (checked_outcome all e) w).status ∙ status) in
      told (listed_of all e) r.0 (w ∙ r.2) (e, o, inr (le, refl, r.1))

pub check_is_refused : CheckIsRefused
check_is_refused c t t_after elf all is status = told_at c t t_after elf all is status (found file_limit elf (checked_outcome all) (get t.files elf))

pub check_is_done : CheckIsDone
check_is_done c t t_after elf all is status =
    let (e, file, ends, at) = is_done c t t_after is.files elf (checked_outcome all) (outcome_of_check c t t_after elf all is) status in
    let none : fault e ≡ None = accepted e all (fault e) ends in
    let s = subst (λ (o : Option Refusal). Shows c t t_after (after (load elf) (at_once (verdict e all o)))) none at in
    record {
      bytes = e;
      file = file;
      accepted = none;
      shown = record { files = ap (λ (u : Told). u.files) s.told; asked = ap (λ (u : Told). u.asked) s.told; out = s.out; report = s.report };
    }

pub check_completes : CheckCompletes
check_completes c t t_after elf all is e file none calm =
    is_completed c t t_after is.files elf (checked_outcome all) (outcome_of_check c t t_after elf all is) e file
    (ap (λ (o : Option Refusal). (verdict e all o).status) none) calm
