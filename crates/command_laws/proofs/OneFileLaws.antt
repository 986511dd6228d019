-- What a call of a command that loads one file does, by what the load found.
use Rattle.std.proofs.Common.{◌≡◌, ℕ, ◌≤◌, ◌<◌, Bool, true, false, cond, List, [], length, nat_lt, Option, Some, None, refl, sym, ap, subst, ◌∙◌, arith, inl, inr}
use Rattle.std.specs.Prelude.{◌⊎◌}
use Rattle.std.proofs.lemmas.Bool.Decides.{nat_tests}
use Rattle.std.specs.FinMap.{get}
use Rattle.host_io.specs.Host.{Told}
use Rattle.file_commands.specs.declared.status.Status.TheVariants.{Done, HostRead, Refused, Memory}
use Rattle.file_commands.specs.Texts.{too_long_tail}
use Rattle.file_commands.specs.Ending.{refused_ending}
use Rattle.file_commands.specs.Outcome.{load, failure_ending, Outcome, Inputs, after}
use Rattle.file_commands.specs.Arguments.{Invocation, command_of}
use Rattle.file_commands.specs.Load.{with_limited}
use Rattle.file_commands.specs.OneFile.{file_limit, with_found}
use Rattle.suite_top.specs.Result.{command_outcome}
use Rattle.file_commands.specs.HostCourse.{after_answers, inputs_in}
use Rattle.file_commands.specs.Delivery.{TookAll}
use Rattle.suite_top.specs.Call.{Call, outcome_of, OverFiles}
use Rattle.suite_top.specs.StatusLaws.{IsAnswer, IsCalm}
use Rattle.command_laws.specs.OneFileLaws.{IsFile, HasTail, IsRefused}
use Rattle.suite_top.proofs.HostLaws.{told_is}
use Rattle.suite_top.proofs.StatusLaws.{answers_are_whole, completes}

-- the outcome of a call of this command
pub outcome_is : (c : Call) (t t_after : Told) → OverFiles c t t_after → (k : Invocation) → command_of c.arguments ≡ Some k → outcome_of c ≡ command_outcome (Some k) (inputs_in t.files)
outcome_is c t t_after over k command =
    ap (λ (o : Option Invocation). command_outcome o c.inputs) command ∙ ap (λ (i : Inputs). command_outcome (Some k) i) over.inputs

-- a whole call with this outcome
pub record Shows (c : Call) (t t_after : Told) (x : Outcome) : Type 0 where
  pub status : c.status ≡ x.ending.status
  pub told : t_after ≡ after_answers t x.requests
  pub out : TookAll c.out c.out_after x.ending.out
  pub report : TookAll c.report c.report_after x.ending.report

pub shows : (c : Call) (t t_after : Told) → OverFiles c t t_after → (x : Outcome) → outcome_of c ≡ x → IsAnswer c.status → Shows c t t_after x
shows c t t_after over x is answer =
    let whole = answers_are_whole c over.meets answer in
    subst (Shows c t t_after) is (record {
      status = whole.status;
      told = told_is (λ u. after_answers u (outcome_of c).requests) c.host.told c.host_after.told t t_after whole.performed.told over.told over.told_after;
      out = whole.out;
      report = whole.report;
    })

-- ---- what the load found

abbrev pub too_long : Outcome
too_long = record { requests = []; ending = refused_ending too_long_tail }

pub data Found (limit : ℕ) (name : List ℕ) (rest : List ℕ → Outcome) (o : Option (List ℕ)) : Type 0 where
  missing : with_limited limit None name o rest ≡ record { requests = []; ending = failure_ending (load name) } → Found limit name rest o
  long : (e : List ℕ) → o ≡ Some e → limit < length e → with_limited limit None name o rest ≡ too_long → Found limit name rest o
  fits : (e : List ℕ) → o ≡ Some e → length e ≤ limit → with_limited limit None name o rest ≡ rest e → Found limit name rest o

pub found : (limit : ℕ) (name : List ℕ) (rest : List ℕ → Outcome) (o : Option (List ℕ)) → Found limit name rest o
found limit name rest None = missing refl
found limit name rest (Some e) = by_test (nat_lt limit (length e)) refl
  where
    by_test : (b : Bool) → nat_lt limit (length e) ≡ b → Found limit name rest (Some e)
    by_test true is = long e refl (grind (arith, nat_tests)) (ap (λ (b : Bool). cond b too_long (rest e)) is)
    by_test false is = fits e refl (grind (arith, nat_tests)) (ap (λ (b : Bool). cond b too_long (rest e)) is)

module _ (c : Call) (t t_after : Told) (over : OverFiles c t t_after) (name : List ℕ) (rest : List ℕ → Outcome) (is : outcome_of c ≡ after (load name) (with_found name (get t.files name) rest)) where
  -- the outcome behind the load is x
  pub shows_behind : (x : Outcome) → with_found name (get t.files name) rest ≡ x → IsAnswer c.status → Shows c t t_after (after (load name) x)
  shows_behind x w answer = shows c t t_after over (after (load name) x) (is ∙ ap (after (load name)) w) answer

  -- Refused: by the tail of each file that `rest` refuses
  module _ (tail_of : List ℕ → Option (List ℕ)) (refusal : (e : List ℕ) → (rest e).ending.status ≡ Refused → (tail : List ℕ) × (tail_of e ≡ Some tail) × (rest e ≡ record { requests = []; ending = refused_ending tail })) (status : c.status ≡ Refused) where
    answer : IsAnswer c.status
    answer = subst IsAnswer (sym status) tt

    refused_by : (tail : List ℕ) → with_found name (get t.files name) rest ≡ record { requests = []; ending = refused_ending tail } → HasTail t name tail_of tail → IsRefused c t t_after name tail_of
    refused_by tail w cause =
        let s = shows_behind (record { requests = []; ending = refused_ending tail }) w answer in
        record { tail = tail; cause = cause; files = ap (λ (u : Told). u.files) s.told; asked = ap (λ (u : Told). u.asked) s.told; out = s.out; report = s.report }

    refused_at : Found file_limit name rest (get t.files name) → IsRefused c t t_after name tail_of
    refused_at (missing w) = absurd (let h : HostRead ≡ Refused = sym (shows_behind _ w answer).status ∙ status in cc)
    refused_at (long e o lt w) = refused_by too_long_tail w (e, o, inl (lt, refl))
    refused_at (fits e o le w) =
        let r = refusal e (sym (shows_behind (rest e) w answer).status ∙ status) in
        refused_by r.0 (w ∙ r.2) (e, o, inr (le, r.1))

    pub is_refused : IsRefused c t t_after name tail_of
    is_refused = refused_at (found file_limit name rest (get t.files name))

  -- Done: there is a file that `rest` takes
  module _ (status : c.status ≡ Done) where
    done : IsAnswer c.status
    done = subst IsAnswer (sym status) tt

    done_at : Found file_limit name rest (get t.files name) → (e : List ℕ) × IsFile t name e × ((rest e).ending.status ≡ Done) × Shows c t t_after (after (load name) (rest e))
    done_at (missing w) = absurd (let h : HostRead ≡ Done = sym (shows_behind _ w done).status ∙ status in cc)
    done_at (long e o lt w) = absurd (let h : Refused ≡ Done = sym (shows_behind _ w done).status ∙ status in cc)
    done_at (fits e o le w) =
        let s = shows_behind (rest e) w done in
        (e, record { found = o; fits = le }, sym s.status ∙ status, s)

    pub is_done : (e : List ℕ) × IsFile t name e × ((rest e).ending.status ≡ Done) × Shows c t t_after (after (load name) (rest e))
    is_done = done_at (found file_limit name rest (get t.files name))

  -- a file that `rest` takes brings Done
  taken : (e : List ℕ) → IsFile t name e → with_found name (get t.files name) rest ≡ rest e
  taken e file =
      let short : length e ≤ file_limit = file.fits in
      let fits : nat_lt file_limit (length e) ≡ false = grind (arith, nat_tests) in
      ap (λ (o : Option (List ℕ)). with_found name o rest) file.found ∙ ap (λ (b : Bool). cond b too_long (rest e)) fits

  pub is_completed : (e : List ℕ) → IsFile t name e → (rest e).ending.status ≡ Done → IsCalm c → (c.status ≡ Memory) ⊎ (c.status ≡ Done)
  is_completed e file ends calm =
      elim (completes c over.meets calm) [
        | inl memory ↦ inl memory
        | inr whole ↦ inr (whole.status ∙ ap (λ (o : Outcome). o.ending.status) (is ∙ ap (after (load name)) (taken e file)) ∙ ends)
      ]
