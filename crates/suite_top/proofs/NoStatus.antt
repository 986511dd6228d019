-- No status but Memory comes always: without arguments a call ends as Usage, if no sink fails, and `list` with a name never does.
use Rattle.std.proofs.Common.{◌≡◌, ◌≢◌, ℕ, List, [], ◌∷◌, ◌++◌, Some, None, refl, sym, ap, subst, ◌∙◌, inl, inr}
use Rattle.std.specs.Prelude.{codes}
use Rattle.file_commands.specs.declared.status.Status.{Status}
use Rattle.file_commands.specs.declared.status.Status.TheVariants.{Done, Usage, HostRead, Refused, Stray, OutOfQuanta, LogFull, SinkWrite, Memory, HostWrite, Stuck, Refuted}
use Rattle.file_commands.specs.Outcome.{Request, load, store}
use Rattle.file_commands.specs.Arguments.{list, command_of}
use Rattle.suite_top.specs.Result.{result_of}
use Rattle.file_commands.specs.Delivery.{sink_failed}
use Rattle.suite_top.specs.Call.{Call, outcome_of, MeetsOutcome}
use Rattle.suite_top.specs.StatusLaws.{IsAnswer, FailsAt, IsCut, IsNeverOf, NoStatusIsAlways}
use Rattle.suite_top.proofs.Outcomes.{usage_is_exact}
use Rattle.suite_top.proofs.StatusLaws.{answers_are_whole, reads_fail, writes_fail, sinks_fail}

-- an answer that is the outcome's
ends_as_told : (c : Call) → MeetsOutcome c → (status : Status) → IsAnswer status → c.status ≡ status → status ≡ (outcome_of c).ending.status
ends_as_told c meets status answer so =
    let whole = answers_are_whole c meets (subst IsAnswer (sym so) answer) in
    sym so ∙ whole.status

-- ---- without arguments

module _ (c : Call) (is : c.arguments ≡ []) where
  usage : (outcome_of c).ending.status ≡ Usage
  usage = ap (λ (words : List (List ℕ)). (result_of words c.inputs).ending.status) is

  nothing_asked : (outcome_of c).requests ≡ []
  nothing_asked = ap (λ (words : List (List ℕ)). (result_of words c.inputs).requests) is

  never_asked : (request : Request) → FailsAt c request → ⊥
  never_asked request fails = none fails.done (sym fails.requests ∙ nothing_asked)
    where
      none : (done : List Request) → done ++ request ∷ fails.rest ≡ [] → ⊥
      none [] e = cc
      none (r ∷ done) e = cc

-- an answer but Usage
no_answer : (status : Status) → IsAnswer status → status ≢ Usage → IsNeverOf status []
no_answer status answer other c is calm meets so = other (ends_as_told c meets status answer so ∙ usage c is)

no_read : IsNeverOf HostRead []
no_read c is calm meets so = let fails = reads_fail c meets so in never_asked c is (load fails.0) fails.1

no_write : IsNeverOf HostWrite []
no_write c is calm meets so = let fails = writes_fail c meets so in never_asked c is (store fails.0 fails.1) fails.2

no_failure : IsNeverOf SinkWrite []
no_failure c is calm meets so = by_cut (sinks_fail c meets so)
  where
    by_cut : IsCut sink_failed c → ⊥
    by_cut (inl cut) = calm.out cut.out.1.0
    by_cut (inr (inl cut)) = calm.report cut.report.1.0
    by_cut (inr (inr (inl cut))) = calm.report cut.report.1.0
    by_cut (inr (inr (inr cut))) = calm.report cut.report.1.0

-- ---- with a command

abbrev listing : List (List ℕ)
listing = codes "list" ∷ codes "a" ∷ []

a_command : command_of listing ≡ Some (list (codes "a"))
a_command = refl

no_usage : IsNeverOf Usage listing
no_usage c is calm meets so =
    let none : command_of c.arguments ≡ None = (usage_is_exact c.arguments c.inputs).0 (sym (ends_as_told c meets Usage tt so)) in
    let some : Some (list (codes "a")) ≡ None = sym a_command ∙ ap command_of (sym is) ∙ none in
    cc

pub no_status_is_always : NoStatusIsAlways
no_status_is_always Usage other = (listing, no_usage)
no_status_is_always Done other = ([], no_answer Done tt (λ is. cc))
no_status_is_always Refused other = ([], no_answer Refused tt (λ is. cc))
no_status_is_always Stray other = ([], no_answer Stray tt (λ is. cc))
no_status_is_always OutOfQuanta other = ([], no_answer OutOfQuanta tt (λ is. cc))
no_status_is_always LogFull other = ([], no_answer LogFull tt (λ is. cc))
no_status_is_always Stuck other = ([], no_answer Stuck tt (λ is. cc))
no_status_is_always Refuted other = ([], no_answer Refuted tt (λ is. cc))
no_status_is_always HostRead other = ([], no_read)
no_status_is_always HostWrite other = ([], no_write)
no_status_is_always SinkWrite other = ([], no_failure)
no_status_is_always Memory other = absurd (other refl)
