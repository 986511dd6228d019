-- What a call of `replay` does, by what its loads found.
use Rattle.std.proofs.Common.{◌≡◌, ℕ, ◌≤◌, Bool, true, false, cond, List, [], ◌∷◌, length, nat_lt, Option, Some, None, Result, Ok, Err, refl, sym, ap, subst, ◌∙◌, inl, inr, append_assoc}
use Rattle.std.specs.Prelude.{◌⊎◌, ◌||◌}
use Rattle.std.specs.FinMap.{get}
use Rattle.host_io.specs.Host.{Told}
use Rattle.bflt_format.specs.declared.fault.FlatFault.{FlatFault}
use Rattle.bflt_format.specs.Header.{flat_values}
use Rattle.bflt_format.specs.Fault.{flat_fault}
use Rattle.elf2flt_tool.specs.declared.refusal.Refusal.{Refusal}
use Rattle.elf2flt_tool.specs.Fault.{fault}
use Rattle.flat_loader.specs.Original.{flat_original}
use Rattle.originals.specs.Originals.{elf_original}
use Rattle.items_text.specs.Items.{ItemsValue}
use Rattle.items_text.specs.Reading.{items_of}
use Rattle.replay_check.specs.declared.fault.ReplayFault.{ReplayFault}
use Rattle.replay_check.specs.declared.fault.ReplayFault.TheVariants as why
use Rattle.replay_check.specs.declared.verdict.Verdict.{Verdict}
use Rattle.replay_check.specs.declared.verdict.Verdict.TheVariants.{Yes, No}
use Rattle.replay_check.specs.Replays.{OriginalFile, elf_file, flat_file, placed_verdict, unless_refused, replayed, JudgesRun}
use Rattle.file_commands.specs.declared.status.Status.TheVariants.{Done, HostRead, Refused, Refuted}
use Rattle.file_commands.specs.declared.command.Format.{Format}
use Rattle.file_commands.specs.declared.command.Format.TheVariants as format
use Rattle.file_commands.specs.Texts.{too_long_tail}
use Rattle.file_commands.specs.Texts.Listing.{flat_tail}
use Rattle.file_commands.specs.Texts.Replays.{items_tail, replay_tail}
use Rattle.file_commands.specs.Ending.{Ending, refused_ending}
use Rattle.file_commands.specs.Outcome.{Request, load, failure_ending, Outcome, Inputs, after}
use Rattle.file_commands.specs.Load.{at_once, behind, with_limited}
use Rattle.file_commands.specs.OneFile.{file_limit}
use Rattle.file_commands.specs.Arguments.{Invocation, replay}
use Rattle.file_commands.specs.HostCourse.{after_answers, inputs_in}
use Rattle.file_commands.specs.Delivery.{TookAll}
use Rattle.file_commands.specs.Replay.{items_limit, verdict_ending, replayed_ending, flat_ending, program_ending, read_ending, replay_ending, loaded_outcome, replay_outcome}
use Rattle.suite_top.specs.Result.{command_outcome}
use Rattle.suite_top.specs.Call.{Call, outcome_of}
use Rattle.suite_top.specs.StatusLaws.{IsAnswer}
use Rattle.command_laws.specs.ReplayLaws.{IsReplay, ReplayAsksItsFiles, AreFiles, IsText, IsProgram, IsJudged, IsTold, ReplayIsDone, ReplayIsRefuted, Cause, long_program, long_items, no_items, no_flat_file, no_run, IsReplayRefused, ReplayIsRefused, ReplayCompletes}
use Rattle.items_text.proofs.Whole.{items_again, items_found}
use Rattle.items_text.proofs.Faulty.{fault_found}
use Rattle.replay_check.proofs.Placing.{placed_judges}
use Rattle.suite_top.proofs.StatusLaws.{completes}
use Rattle.command_laws.proofs.OneFileLaws.{outcome_is, shows, Found, missing, long, fits, found}
use Rattle.suite_top.proofs.Opened.{is_within}

-- ---- the verdict is on the run of the program by itself

judges : (o : OriginalFile) (i : ItemsValue) (v : Verdict) → replayed o i ≡ Ok v → JudgesRun o i v
unfolding replayed
judges (flat_file f) i v is = placed_judges (flat_original f) i (Ok v) is
judges (elf_file e) i v is = by (fault e) (nat_lt i.stack 16 || nat_lt 1048576 i.stack) is
  where
    by : (o : Option Refusal) (b : Bool) → unless_refused o (cond b (Err why.Stack) (placed_verdict (elf_original e i.stack) i)) ≡ Ok v → JudgesRun (elf_file e) i v
    by (Some refusal) b same = absurd cc
    by None true same = absurd cc
    by None false same = placed_judges (elf_original e i.stack) i (Ok v) same

-- ---- the outcome, by what is there

-- behind both loads
abbrev pub behind_both : (file items : List ℕ) → Ending → Outcome
behind_both file items ending = after (load file) (after (load items) (at_once ending))

-- a load found nothing; or something is refused, behind one load or both; or there is a verdict
data Course (t : Told) (kind : Format) (file items : List ℕ) (x : Outcome) : Type 0 where
  unread : (name : List ℕ) → x.ending ≡ failure_ending (load name) → Course t kind file items x
  refuses : (tail : List ℕ) → Cause t kind file items tail → x ≡ after (load file) (at_once (refused_ending tail)) → Course t kind file items x
  refuses_items : (tail : List ℕ) → Cause t kind file items tail → x ≡ behind_both file items (refused_ending tail) → Course t kind file items x
  tells : (v : Verdict) (j : IsJudged t kind file items v) → x ≡ behind_both file items (verdict_ending j.values v) → Course t kind file items x

module _ (t : Told) (kind : Format) (file items : List ℕ) (x : Outcome) where
  module _ (program text : List ℕ) (there : AreFiles t file items program text) where
    module _ (i : ItemsValue) (reads : IsText text i) where
      by_replay : (o : OriginalFile) → IsProgram kind program o → (r : Result Verdict ReplayFault) → replayed o i ≡ r
          → x ≡ behind_both file items (replayed_ending i r) → Course t kind file items x
      by_replay o is (Ok v) replays at =
          tells v (record { program = program; text = text; there = there; values = i; reads = reads; original = o; originates = is; replays = replays }) at
      by_replay o is (Err first) replays at = refuses_items (replay_tail first) (no_run program text there i reads o is first replays refl) at

      by_flat : kind ≡ format.Flat → (o : Option FlatFault) → flat_fault program ≡ o → x ≡ behind_both file items (flat_ending program i o) → Course t kind file items x
      by_flat flat None none at =
          let o = flat_file (flat_values program) in
          by_replay o (subst (λ k. IsProgram k program o) (sym flat) (none, refl)) (replayed o i) refl at
      by_flat flat (Some first) some at = refuses_items (flat_tail first) (no_flat_file program text there i reads flat first some refl) at

      by_kind : (k : Format) → kind ≡ k → x ≡ behind_both file items (program_ending k program i) → Course t kind file items x
      by_kind format.Elf elf at = by_replay (elf_file program) (subst (λ k. IsProgram k program (elf_file program)) (sym elf) refl) (replayed (elf_file program) i) refl at
      by_kind format.Flat flat at = by_flat flat (flat_fault program) refl at

    by_text : (r : Result ItemsValue ℕ) → items_of text ≡ r → x ≡ behind_both file items (read_ending kind program r) → Course t kind file items x
    by_text (Ok i) is at =
        let (held, spelled, same) = items_found text i is in
        by_kind i (record { held = held; spelled = spelled; text_is = same }) kind refl at
    by_text (Err line) is at = refuses_items (items_tail line) (no_items program text there line (fault_found text line is) refl) at

    by_both : x ≡ behind_both file items (replay_ending kind program text) → Course t kind file items x
    unfolding replay_ending
    by_both at = by_text (items_of text) refl at

  module _ (program : List ℕ) (is_there : get t.files file ≡ Some program) (short : length program ≤ file_limit) where
    by_items : Found items_limit items (λ text. at_once (replay_ending kind program text)) (get t.files items)
        → x ≡ after (load file) (loaded_outcome kind program items (inputs_in t.files)) → Course t kind file items x
    by_items (missing w) at = unread items (ap (λ (o : Outcome). o.ending) at ∙ ap (λ (o : Outcome). o.ending) w)
    by_items (long text o lt w) at =
        refuses_items too_long_tail (long_items program text is_there short o lt refl) (at ∙ ap (λ (r : Outcome). after (load file) (after (load items) r)) w)
    by_items (fits text o le w) at =
        by_both program text (record { program_found = is_there; program_fits = short; items_found = o; items_fit = le })
        (at ∙ ap (λ (r : Outcome). after (load file) (after (load items) r)) w)

  by_program : Found file_limit file (λ program. loaded_outcome kind program items (inputs_in t.files)) (get t.files file)
      → x ≡ replay_outcome kind file items (inputs_in t.files) → Course t kind file items x
  unfolding replay_outcome
  by_program (missing w) at = unread file (ap (λ (o : Outcome). o.ending) at ∙ ap (λ (o : Outcome). o.ending) w)
  by_program (long program o lt w) at = refuses too_long_tail (long_program program o lt refl) (at ∙ ap (after (load file)) w)
  by_program (fits program o le w) at =
      by_items program o le (found items_limit items (λ text. at_once (replay_ending kind program text)) (get t.files items)) (at ∙ ap (after (load file)) w)

-- ---- the laws

module _ (c : Call) (t t_after : Told) (kind : Format) (file items : List ℕ) (is : IsReplay c t t_after kind file items) where
  abbrev Course_of : Type 0
  Course_of = Course t kind file items (outcome_of c)

  course : Course_of
  course =
      by_program t kind file items (outcome_of c) (found file_limit file (λ program. loaded_outcome kind program items (inputs_in t.files)) (get t.files file))
      (outcome_is c t t_after is.files (replay kind file items) is.command)

  module _ (answer : IsAnswer c.status) where
    unread_not : (name : List ℕ) → (outcome_of c).ending ≡ failure_ending (load name) → c.status ≡ HostRead
    unread_not name ends = (shows c t t_after is.files (outcome_of c) refl answer).status ∙ ap (λ (e : Ending). e.status) ends

    status_is : (x : Outcome) → outcome_of c ≡ x → c.status ≡ x.ending.status
    status_is x at = (shows c t t_after is.files x at answer).status

    is_told : (v : Verdict) (j : IsJudged t kind file items v) → outcome_of c ≡ behind_both file items (verdict_ending j.values v) → (verdict_ending j.values v).report ≡ [] → IsTold c t t_after kind file items v
    is_told v j at none =
        let s = shows c t t_after is.files (behind_both file items (verdict_ending j.values v)) at answer in
        record {
          judged = j;
          alone = judges j.original j.values v j.replays;
          files = ap (λ (u : Told). u.files) s.told;
          asked = ap (λ (u : Told). u.asked) s.told ∙ append_assoc t.asked (file ∷ []) (items ∷ []);
          out = s.out;
          report = subst (λ (r : List ℕ). TookAll c.report c.report_after r) none s.report;
        }

    told_at : (v : Verdict) (j : IsJudged t kind file items v) → outcome_of c ≡ behind_both file items (verdict_ending j.values v) → IsTold c t t_after kind file items v
    told_at Yes j at = is_told Yes j at refl
    told_at (No item events) j at = is_told (No item events) j at refl

    refused_at : (tail : List ℕ) → Cause t kind file items tail → (x : Outcome) → outcome_of c ≡ x → (after_answers t x.requests).files ≡ t.files → x.ending ≡ refused_ending tail → IsReplayRefused c t t_after kind file items
    refused_at tail cause x at stay ends =
        let s = shows c t t_after is.files x at answer in
        record {
          tail = tail;
          cause = cause;
          files = ap (λ (u : Told). u.files) s.told ∙ stay;
          out = subst (λ (e : Ending). TookAll c.out c.out_after e.out) ends s.out;
          report = subst (λ (e : Ending). TookAll c.report c.report_after e.report) ends s.report;
        }

  done_by : c.status ≡ Done → IsAnswer c.status → Course_of → IsTold c t t_after kind file items Yes
  done_by status answer (unread name ends) = absurd (let h : HostRead ≡ Done = sym (unread_not answer name ends) ∙ status in cc)
  done_by status answer (refuses tail cause at) = absurd (let h : Refused ≡ Done = sym (status_is answer _ at) ∙ status in cc)
  done_by status answer (refuses_items tail cause at) = absurd (let h : Refused ≡ Done = sym (status_is answer _ at) ∙ status in cc)
  done_by status answer (tells Yes j at) = told_at answer Yes j at
  done_by status answer (tells (No item events) j at) = absurd (let h : Refuted ≡ Done = sym (status_is answer _ at) ∙ status in cc)

  refuted_by : c.status ≡ Refuted → IsAnswer c.status → Course_of → (item : ℕ) × (events : ℕ) × IsTold c t t_after kind file items (No item events)
  refuted_by status answer (unread name ends) = absurd (let h : HostRead ≡ Refuted = sym (unread_not answer name ends) ∙ status in cc)
  refuted_by status answer (refuses tail cause at) = absurd (let h : Refused ≡ Refuted = sym (status_is answer _ at) ∙ status in cc)
  refuted_by status answer (refuses_items tail cause at) = absurd (let h : Refused ≡ Refuted = sym (status_is answer _ at) ∙ status in cc)
  refuted_by status answer (tells Yes j at) = absurd (let h : Done ≡ Refuted = sym (status_is answer _ at) ∙ status in cc)
  refuted_by status answer (tells (No item events) j at) = (item, events, told_at answer (No item events) j at)

  refused_by : c.status ≡ Refused → IsAnswer c.status → Course_of → IsReplayRefused c t t_after kind file items
  refused_by status answer (unread name ends) = absurd (let h : HostRead ≡ Refused = sym (unread_not answer name ends) ∙ status in cc)
  refused_by status answer (refuses tail cause at) = refused_at answer tail cause _ at refl refl
  refused_by status answer (refuses_items tail cause at) = refused_at answer tail cause _ at refl refl
  refused_by status answer (tells Yes j at) = absurd (let h : Done ≡ Refused = sym (status_is answer _ at) ∙ status in cc)
  refused_by status answer (tells (No item events) j at) = absurd (let h : Refuted ≡ Refused = sym (status_is answer _ at) ∙ status in cc)

pub replay_is_done : ReplayIsDone
replay_is_done c t t_after kind file items is status = done_by c t t_after kind file items is status (subst IsAnswer (sym status) tt) (course c t t_after kind file items is)

pub replay_is_refuted : ReplayIsRefuted
replay_is_refuted c t t_after kind file items is status = refuted_by c t t_after kind file items is status (subst IsAnswer (sym status) tt) (course c t t_after kind file items is)

pub replay_is_refused : ReplayIsRefused
replay_is_refused c t t_after kind file items is status = refused_by c t t_after kind file items is status (subst IsAnswer (sym status) tt) (course c t t_after kind file items is)

-- ---- where there is a verdict

ends_with : (k : Format) (program : List ℕ) (i : ItemsValue) (o : OriginalFile) (v : Verdict) → IsProgram k program o → replayed o i ≡ Ok v → program_ending k program i ≡ verdict_ending i v
ends_with format.Elf program i o v is replays = ap (replayed_ending i) (ap (λ (x : OriginalFile). replayed x i) (sym is) ∙ replays)
ends_with format.Flat program i o v is replays =
    ap (flat_ending program i) is.0 ∙ ap (replayed_ending i) (ap (λ (x : OriginalFile). replayed x i) (sym is.1) ∙ replays)

pub tells_where_judged : (t : Told) (kind : Format) (file items : List ℕ) (v : Verdict) (j : IsJudged t kind file items v)
    → replay_outcome kind file items (inputs_in t.files) ≡ behind_both file items (verdict_ending j.values v)
unfolding replay_outcome replay_ending
tells_where_judged t kind file items v j =
    ap (after (load file))
    (is_within file_limit None file (get t.files file) j.program (λ program. loaded_outcome kind program items (inputs_in t.files)) j.there.program_found j.there.program_fits
    ∙ ap (after (load items))
    (is_within items_limit None items (get t.files items) j.text (λ text. at_once (replay_ending kind j.program text)) j.there.items_found j.there.items_fit
    ∙ ap at_once
    (ap (read_ending kind j.program) (ap items_of j.reads.text_is ∙ items_again j.values j.reads.held j.reads.spelled)
    ∙ ends_with kind j.program j.values j.original v j.originates j.replays)))

pub replay_completes : ReplayCompletes
replay_completes c t t_after kind file items is v j calm =
    elim (completes c is.files.meets calm) [
      | inl memory ↦ inl memory
      | inr whole ↦
          inr (whole.status ∙ ap (λ (x : Outcome). x.ending.status) (outcome_is c t t_after is.files (replay kind file items) is.command ∙ tells_where_judged t kind file items v j))
    ]

-- ---- what is asked for

abbrev AsksFiles : (file items : List ℕ) → List Request → Type 0
AsksFiles file items requests = (requests ≡ load file ∷ []) ⊎ (requests ≡ load file ∷ load items ∷ [])

-- behind a load nothing more
asks_no_more : (limit : ℕ) (name : List ℕ) (rest : List ℕ → Outcome) (o : Option (List ℕ)) → ((e : List ℕ) → (rest e).requests ≡ []) → Found limit name rest o → (with_limited limit None name o rest).requests ≡ []
asks_no_more limit name rest o none (missing w) = ap (λ (x : Outcome). x.requests) w
asks_no_more limit name rest o none (long e is lt w) = ap (λ (x : Outcome). x.requests) w
asks_no_more limit name rest o none (fits e is le w) = ap (λ (x : Outcome). x.requests) w ∙ none e

asks : (kind : Format) (file items : List ℕ) (inputs : Inputs) → Found file_limit file (λ program. loaded_outcome kind program items (behind inputs)) (inputs 0 file)
    → AsksFiles file items (replay_outcome kind file items inputs).requests
unfolding replay_outcome
asks kind file items inputs (missing w) = inl (ap (λ (x : Outcome). load file ∷ x.requests) w)
asks kind file items inputs (long e is lt w) = inl (ap (λ (x : Outcome). load file ∷ x.requests) w)
asks kind file items inputs (fits program is le w) =
    let rest : List ℕ → Outcome = λ text. at_once (replay_ending kind program text) in
    inr
    (ap (λ (x : Outcome). load file ∷ x.requests) w
    ∙ ap (λ (rs : List Request). load file ∷ load items ∷ rs)
    (asks_no_more items_limit items rest (behind inputs 0 items) (λ text. refl) (found items_limit items rest (behind inputs 0 items))))

pub replay_asks_its_files : ReplayAsksItsFiles
replay_asks_its_files c kind file items is =
    let same : outcome_of c ≡ replay_outcome kind file items c.inputs = ap (λ (o : Option Invocation). command_outcome o c.inputs) is in
    subst (λ (x : Outcome). AsksFiles file items x.requests) (sym same)
    (asks kind file items c.inputs (found file_limit file (λ program. loaded_outcome kind program items (behind c.inputs)) (c.inputs 0 file)))
