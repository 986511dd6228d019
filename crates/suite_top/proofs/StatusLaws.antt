-- When each status comes: each course of the host with each end of the delivery.
use Rattle.std.proofs.Common.{◌≡◌, ℕ, List, [], length, Option, Some, refl, sym, ap, subst, ◌∙◌, arith, length-append, inl, inr}
use Rattle.std.specs.Prelude.{◌⊎◌, option_map}
use Rattle.host_io.specs.Faults.{Rose}
use Rattle.host_io.specs.Host.{Told}
use Rattle.host_io.specs.Sink.{TakesPrefix}
use Rattle.file_commands.specs.declared.status.Status.{Status}
use Rattle.file_commands.specs.declared.status.Status.TheVariants.{HostRead, SinkWrite, Memory, HostWrite}
use Rattle.file_commands.specs.Ending.{Ending, memory_ending, OrMemory}
use Rattle.file_commands.specs.Observed.{ObservedSink}
use Rattle.file_commands.specs.Outcome.{Request, load, store, failure_ending}
use Rattle.file_commands.specs.HostCourse.{HostCourse, complete, failed, out_of_memory, AreLoads, IsCourseOf, after_answers, told_after, FaultsAfter, EndsAfter, Performs}
use Rattle.file_commands.specs.Delivery.{SinkStop, sink_failed, sink_memory, status_at, TookAll, CutShort, Delivery, whole, stopped_at_out, stopped_at_report, Delivered}
use Rattle.suite_top.specs.Call.{Call, outcome_of}
use Rattle.suite_top.specs.StatusLaws.{IsAnswer, IsWhole, AnswersAreWhole, Completes, FailsAt, ReadsFail, WritesFail, CutAtOut, CutAtReport, FilesRemain, CutAtFailure, CutAtMemory, IsCut, SinksFail, IsMemoryTold, MemoryIsTold, IsSupplied, MemoryIsOneLine, HasShortage, ShortagesStop}
use Rattle.suite_top.proofs.Outcomes.{never}
use Rattle.suite_top.proofs.HostLaws.{told_is, loads_keep}

-- the texts of the ending were taken whole
abbrev IsTaken : Call → Ending → Type 0
IsTaken c ending = TookAll c.out c.out_after ending.out × TookAll c.report c.report_after ending.report × (c.status ≡ ending.status)

-- a status that no stop gives
module _ (c : Call) (ending : Ending) (P : Status → Type 0) (sink : P SinkWrite → ⊥) (memory : P Memory → ⊥) where
  no_stop : (stop : SinkStop) → P (status_at stop) → ⊥
  no_stop sink_failed p = sink p
  no_stop sink_memory p = memory p

  taken : (d : Delivery) → Delivered d ending c.out c.out_after c.report c.report_after c.status → P c.status → IsTaken c ending
  taken whole h p = h
  taken (stopped_at_out stop) h p = absurd (no_stop stop (subst P h.2 p))
  taken (stopped_at_report stop) h p = absurd (no_stop stop (subst P h.2 p))

-- the status where the host failed
fails_status : (P : Status → Type 0) → (P HostRead → ⊥) → (P HostWrite → ⊥) → (P Memory → ⊥) → (last : Request) (ending : Ending) → OrMemory (failure_ending last) ending → P ending.status → ⊥
fails_status P read write memory (load name) ending (inl is) p = read (subst (λ (s : Ending). P s.status) is p)
fails_status P read write memory (store name bytes) ending (inl is) p = write (subst (λ (s : Ending). P s.status) is p)
fails_status P read write memory last ending (inr is) p = memory (subst (λ (s : Ending). P s.status) is p)

never_fails : (last : Request) → (failure_ending last).status ≡ Memory → ⊥
never_fails (load name) e = cc
never_fails (store name bytes) e = cc

-- each course by its parts, where the texts were taken whole
module _ (c : Call) (ending : Ending) (t : IsTaken c ending) where
  whole_at : c.host_after.told ≡ option_map (λ h. after_answers h (outcome_of c).requests) c.host.told → c.host_after.faults ≡ c.host.faults → ending ≡ (outcome_of c).ending → IsWhole c
  whole_at told faults is = record {
    status = t.2 ∙ ap (λ (s : Ending). s.status) is;
    performed = record { told = told; faults = faults };
    out = subst (λ (s : Ending). TookAll c.out c.out_after s.out) is t.0;
    report = subst (λ (s : Ending). TookAll c.report c.report_after s.report) is t.1;
  }

  answer_at : (k : HostCourse) → c.host_after.told ≡ option_map (told_after (outcome_of c).requests k) c.host.told → FaultsAfter k c.host.faults c.host_after.faults → EndsAfter (outcome_of c).ending k ending → IsAnswer ending.status → IsWhole c
  answer_at complete told faults_so ends p = whole_at told faults_so ends.0
  answer_at (failed done last) told faults_so ends p = absurd (fails_status IsAnswer (λ h. h) (λ h. h) (λ h. h) last ending ends p)
  answer_at (out_of_memory done) told faults_so ends p = absurd (let h : IsAnswer Memory = subst (λ (s : Ending). IsAnswer s.status) ends p in h)

  complete_at : (k : HostCourse) → c.host_after.told ≡ option_map (told_after (outcome_of c).requests k) c.host.told → FaultsAfter k c.host.faults c.host_after.faults → EndsAfter (outcome_of c).ending k ending → (Rose c.host.faults c.host_after.faults → ⊥) → (c.status ≡ Memory) ⊎ IsWhole c
  complete_at complete told faults_so ends calm = inr (whole_at told faults_so ends.0)
  complete_at (failed done last) told faults_so ends calm = absurd (calm faults_so)
  complete_at (out_of_memory done) told faults_so ends calm = inl (t.2 ∙ ap (λ (s : Ending). s.status) ends)

  -- the host failed at `last`, and its line was taken
  fails_at : (done : List Request) (last : Request) → IsCourseOf (outcome_of c).requests (failed done last) → c.host_after.told ≡ option_map (told_after (outcome_of c).requests (failed done last)) c.host.told → Rose c.host.faults c.host_after.faults → ending ≡ failure_ending last → (failure_ending last).out ≡ [] → FailsAt c last
  fails_at done last is_course told rose is nothing = record {
    done = done;
    rest = is_course.0;
    requests = is_course.1;
    rose = rose;
    told = told;
    out = subst (λ (text : List ℕ). TookAll c.out c.out_after text) (ap (λ (s : Ending). s.out) is ∙ nothing) t.0;
    report = subst (λ (s : Ending). TookAll c.report c.report_after s.report) is t.1;
  }

  read_at : (k : HostCourse) → IsCourseOf (outcome_of c).requests k → c.host_after.told ≡ option_map (told_after (outcome_of c).requests k) c.host.told → FaultsAfter k c.host.faults c.host_after.faults → EndsAfter (outcome_of c).ending k ending → ending.status ≡ HostRead → (name : List ℕ) × FailsAt c (load name)
  read_at complete is_course told faults_so ends p = absurd (ends.1 p)
  read_at (failed done (load name)) is_course told faults_so (inl is) p = (name, fails_at done (load name) is_course told faults_so is refl)
  read_at (failed done (store name bytes)) is_course told faults_so (inl is) p = absurd (let h : HostWrite ≡ HostRead = sym (ap (λ (s : Ending). s.status) is) ∙ p in cc)
  read_at (failed done last) is_course told faults_so (inr is) p = absurd (let h : Memory ≡ HostRead = sym (ap (λ (s : Ending). s.status) is) ∙ p in cc)
  read_at (out_of_memory done) is_course told faults_so ends p = absurd (let h : Memory ≡ HostRead = sym (ap (λ (s : Ending). s.status) ends) ∙ p in cc)

  write_at : (k : HostCourse) → IsCourseOf (outcome_of c).requests k → c.host_after.told ≡ option_map (told_after (outcome_of c).requests k) c.host.told → FaultsAfter k c.host.faults c.host_after.faults → EndsAfter (outcome_of c).ending k ending → ending.status ≡ HostWrite → (name : List ℕ) × (bytes : List ℕ) × FailsAt c (store name bytes)
  write_at complete is_course told faults_so ends p =
      absurd (never HostWrite (λ e. cc) (λ e. cc) (λ e. cc) (λ e. cc) (λ e. cc) (λ e. cc) (λ e. cc) (λ e. cc) (λ e. cc) c.arguments c.inputs (sym (ap (λ (s : Ending). s.status) ends.0) ∙ p))
  write_at (failed done (store name bytes)) is_course told faults_so (inl is) p = (name, bytes, fails_at done (store name bytes) is_course told faults_so is refl)
  write_at (failed done (load name)) is_course told faults_so (inl is) p = absurd (let h : HostRead ≡ HostWrite = sym (ap (λ (s : Ending). s.status) is) ∙ p in cc)
  write_at (failed done last) is_course told faults_so (inr is) p = absurd (let h : Memory ≡ HostWrite = sym (ap (λ (s : Ending). s.status) is) ∙ p in cc)
  write_at (out_of_memory done) is_course told faults_so ends p = absurd (let h : Memory ≡ HostWrite = sym (ap (λ (s : Ending). s.status) ends) ∙ p in cc)

  -- out of memory: the line `memory` was taken, and no file changed
  abbrev FilesStay : Type 0
  FilesStay = (u u_after : Told) → c.host.told ≡ Some u → c.host_after.told ≡ Some u_after → u_after.files ≡ u.files

  memory_at : (k : HostCourse) → IsCourseOf (outcome_of c).requests k → c.host_after.told ≡ option_map (told_after (outcome_of c).requests k) c.host.told → EndsAfter (outcome_of c).ending k ending → ending.status ≡ Memory → (ending ≡ memory_ending) × FilesStay
  memory_at complete is_course told ends p = absurd (never Memory (λ e. cc) (λ e. cc) (λ e. cc) (λ e. cc) (λ e. cc) (λ e. cc) (λ e. cc) (λ e. cc) (λ e. cc) c.arguments c.inputs (sym (ap (λ (s : Ending). s.status) ends.0) ∙ p))
  memory_at (failed done last) is_course told (inl is) p = absurd (never_fails last (sym (ap (λ (s : Ending). s.status) is) ∙ p))
  memory_at (failed done last) is_course told (inr is) p =
      (is, λ u u_after old new. ap (λ (v : Told). v.files) (told_is (told_after (outcome_of c).requests (failed done last)) c.host.told c.host_after.told u u_after told old new) ∙ loads_keep done u is_course.2)
  memory_at (out_of_memory done) is_course told ends p =
      (ends, λ u u_after old new. ap (λ (v : Told). v.files) (told_is (told_after (outcome_of c).requests (out_of_memory done)) c.host.told c.host_after.told u u_after told old new) ∙ loads_keep done u is_course.2)

  memory_told : Performs c.host c.host_after (outcome_of c) ending → (ending ≡ memory_ending) × FilesStay → IsMemoryTold c
  memory_told performs (is, kept) = record {
    performs = subst (Performs c.host c.host_after (outcome_of c)) is performs;
    files = kept;
    out = subst (λ (s : Ending). TookAll c.out c.out_after s.out) is t.0;
    report = subst (λ (s : Ending). TookAll c.report c.report_after s.report) is t.1;
  }

  -- no ending is a sink's fault
  sink_at : (k : HostCourse) → EndsAfter (outcome_of c).ending k ending → ending.status ≡ SinkWrite → ⊥
  sink_at complete ends p = never SinkWrite (λ e. cc) (λ e. cc) (λ e. cc) (λ e. cc) (λ e. cc) (λ e. cc) (λ e. cc) (λ e. cc) (λ e. cc) c.arguments c.inputs (sym (ap (λ (s : Ending). s.status) ends.0) ∙ p)
  sink_at (failed done last) ends p = fails_status (λ s. s ≡ SinkWrite) (λ e. cc) (λ e. cc) (λ e. cc) last ending ends p
  sink_at (out_of_memory done) ends p = let h : Memory ≡ SinkWrite = sym (ap (λ (s : Ending). s.status) ends) ∙ p in cc

-- ---- a sink that stopped

-- what was cut short isn't empty
not_empty : (old new : Option (List ℕ)) (text : List ℕ) → TakesPrefix old new text → text ≡ [] → ⊥
not_empty old new text (rest, some, sent) empty = let same = ap length (sym empty ∙ sent.whole) in omega (arith, same, length-append sent.prefix rest, some)

failure_is_early : (last : Request) → (failure_ending last).out ≡ []
failure_is_early (load name) = refl
failure_is_early (store name bytes) = refl

-- an ending has no text for `out`, or it is the outcome's
early_at : (c : Call) (ending : Ending) (k : HostCourse) → EndsAfter (outcome_of c).ending k ending → (ending.out ≡ []) ⊎ ((k ≡ complete) × (ending ≡ (outcome_of c).ending))
early_at c ending complete ends = inr (refl, ends.0)
early_at c ending (failed done last) (inl is) = inl (ap (λ (s : Ending). s.out) is ∙ failure_is_early last)
early_at c ending (failed done last) (inr is) = inl (ap (λ (s : Ending). s.out) is)
early_at c ending (out_of_memory done) is = inl (ap (λ (s : Ending). s.out) is)

module _ (c : Call) (ending : Ending) (performs : Performs c.host c.host_after (outcome_of c) ending) (stop : SinkStop) where
  cut_at_out : CutShort stop c.out c.out_after ending.out → c.report_after ≡ c.report → CutAtOut stop c
  cut_at_out cut untouched =
      elim (early_at c ending performs.course performs.ends) [
        | inl early ↦ absurd (not_empty _ _ _ cut.0 early)
        | inr (is_complete, is) ↦ record {
          performed = record {
            told = subst (λ (k : HostCourse). c.host_after.told ≡ option_map (told_after (outcome_of c).requests k) c.host.told) is_complete performs.told;
            faults = subst (λ (k : HostCourse). FaultsAfter k c.host.faults c.host_after.faults) is_complete performs.faults;
          };
          out = subst (λ (s : Ending). CutShort stop c.out c.out_after s.out) is cut;
          report = untouched;
        }
      ]

  -- where loads alone were answered no file changed
  loads_stay : (done : List Request) (k : HostCourse) → c.host_after.told ≡ option_map (told_after (outcome_of c).requests k) c.host.told
      → ((t : Told) → (told_after (outcome_of c).requests k t).files ≡ (after_answers t done).files) → AreLoads done → FilesRemain c
  loads_stay done k told same loads t t_after old new =
      ap (λ (v : Told). v.files) (told_is (told_after (outcome_of c).requests k) c.host.told c.host_after.told t t_after told old new) ∙ same t ∙ loads_keep done t loads

  cut_by_memory : (done : List Request) (k : HostCourse) → c.host_after.told ≡ option_map (told_after (outcome_of c).requests k) c.host.told
      → ((t : Told) → (told_after (outcome_of c).requests k t).files ≡ (after_answers t done).files) → AreLoads done → ending ≡ memory_ending
      → TookAll c.out c.out_after ending.out → CutShort stop c.report c.report_after ending.report → CutAtMemory stop c
  cut_by_memory done k told same loads is took cut = record {
    performs = subst (Performs c.host c.host_after (outcome_of c)) is performs;
    files = loads_stay done k told same loads;
    out = subst (λ (s : Ending). TookAll c.out c.out_after s.out) is took;
    report = subst (λ (s : Ending). CutShort stop c.report c.report_after s.report) is cut;
  }

  cut_by_course : (k : HostCourse) → IsCourseOf (outcome_of c).requests k → c.host_after.told ≡ option_map (told_after (outcome_of c).requests k) c.host.told
      → FaultsAfter k c.host.faults c.host_after.faults → EndsAfter (outcome_of c).ending k ending
      → TookAll c.out c.out_after ending.out → CutShort stop c.report c.report_after ending.report → CutAtReport stop c ⊎ (CutAtFailure stop c ⊎ CutAtMemory stop c)
  cut_by_course complete is_course told faults ends took cut = inl (record {
    performed = record { told = told; faults = faults };
    out = subst (λ (s : Ending). TookAll c.out c.out_after s.out) ends.0 took;
    report = subst (λ (s : Ending). CutShort stop c.report c.report_after s.report) ends.0 cut;
  })
  cut_by_course (failed done last) is_course told faults (inl is) took cut = inr (inl (record {
    done = done;
    request = last;
    rest = is_course.0;
    requests = is_course.1;
    rose = faults;
    told = told;
    files = loads_stay done (failed done last) told (λ t. refl) is_course.2;
    out = subst (λ (text : List ℕ). TookAll c.out c.out_after text) (ap (λ (s : Ending). s.out) is ∙ failure_is_early last) took;
    report = subst (λ (s : Ending). CutShort stop c.report c.report_after s.report) is cut;
  }))
  cut_by_course (failed done last) is_course told faults (inr is) took cut =
      inr (inr (cut_by_memory done (failed done last) told (λ t. refl) is_course.2 is took cut))
  cut_by_course (out_of_memory done) is_course told faults ends took cut =
      inr (inr (cut_by_memory done (out_of_memory done) told (λ t. refl) is_course.2 ends took cut))

  cut_at_report : TookAll c.out c.out_after ending.out → CutShort stop c.report c.report_after ending.report → IsCut stop c
  cut_at_report took cut = inr (cut_by_course performs.course performs.is_course performs.told performs.faults performs.ends took cut)

-- ---- the laws

pub answers_are_whole : AnswersAreWhole
answers_are_whole c (ending, performs, (d, delivered)) p =
    let t = taken c ending IsAnswer (λ h. h) (λ h. h) d delivered p in
    answer_at c ending t performs.course performs.told performs.faults performs.ends (subst IsAnswer t.2 p)

pub completes : Completes
completes c (ending, performs, (whole, delivered)) calm = complete_at c ending delivered performs.course performs.told performs.faults performs.ends calm.host
completes c (ending, performs, (stopped_at_out sink_failed, delivered)) calm = absurd (calm.out delivered.0.1.0)
completes c (ending, performs, (stopped_at_out sink_memory, delivered)) calm = inl delivered.2
completes c (ending, performs, (stopped_at_report sink_failed, delivered)) calm = absurd (calm.report delivered.1.1.0)
completes c (ending, performs, (stopped_at_report sink_memory, delivered)) calm = inl delivered.2

pub reads_fail : ReadsFail
reads_fail c (ending, performs, (d, delivered)) p =
    let t = taken c ending (λ s. s ≡ HostRead) (λ e. cc) (λ e. cc) d delivered p in
    read_at c ending t performs.course performs.is_course performs.told performs.faults performs.ends (sym t.2 ∙ p)

pub writes_fail : WritesFail
writes_fail c (ending, performs, (d, delivered)) p =
    let t = taken c ending (λ s. s ≡ HostWrite) (λ e. cc) (λ e. cc) d delivered p in
    write_at c ending t performs.course performs.is_course performs.told performs.faults performs.ends (sym t.2 ∙ p)

pub sinks_fail : SinksFail
sinks_fail c (ending, performs, (whole, delivered)) p = absurd (sink_at c ending delivered performs.course performs.ends (sym delivered.2 ∙ p))
sinks_fail c (ending, performs, (stopped_at_out sink_failed, delivered)) p = inl (cut_at_out c ending performs sink_failed delivered.0 delivered.1)
sinks_fail c (ending, performs, (stopped_at_out sink_memory, delivered)) p = absurd (let h : Memory ≡ SinkWrite = sym delivered.2 ∙ p in cc)
sinks_fail c (ending, performs, (stopped_at_report sink_failed, delivered)) p = cut_at_report c ending performs sink_failed delivered.0 delivered.1
sinks_fail c (ending, performs, (stopped_at_report sink_memory, delivered)) p = absurd (let h : Memory ≡ SinkWrite = sym delivered.2 ∙ p in cc)

pub memory_is_told : MemoryIsTold
memory_is_told c (ending, performs, (whole, delivered)) p =
    inl (memory_told c ending delivered performs (memory_at c ending delivered performs.course performs.is_course performs.told performs.ends (sym delivered.2 ∙ p)))
memory_is_told c (ending, performs, (stopped_at_out sink_memory, delivered)) p = inr (inl (cut_at_out c ending performs sink_memory delivered.0 delivered.1))
memory_is_told c (ending, performs, (stopped_at_report sink_memory, delivered)) p = inr (cut_at_report c ending performs sink_memory delivered.0 delivered.1)
memory_is_told c (ending, performs, (stopped_at_out sink_failed, delivered)) p = absurd (let h : SinkWrite ≡ Memory = sym delivered.2 ∙ p in cc)
memory_is_told c (ending, performs, (stopped_at_report sink_failed, delivered)) p = absurd (let h : SinkWrite ≡ Memory = sym delivered.2 ∙ p in cc)

-- a text that was cut short for want of memory raised the count of its sink
cut_short : (c : Call) → IsSupplied c → IsCut sink_memory c → ⊥
cut_short c supplied (inl cut) = supplied.out cut.out.1.0
cut_short c supplied (inr (inl cut)) = supplied.report cut.report.1.0
cut_short c supplied (inr (inr (inl cut))) = supplied.report cut.report.1.0
cut_short c supplied (inr (inr (inr cut))) = supplied.report cut.report.1.0

pub memory_is_one_line : MemoryIsOneLine
memory_is_one_line c meets supplied p = elim (memory_is_told c meets p) [ inl told ↦ told | inr cut ↦ absurd (cut_short c supplied cut) ]

-- neither count of shortages changed
no_shortage : (c : Call) → c.out_after.shortages ≡ c.out.shortages → c.report_after.shortages ≡ c.report.shortages → HasShortage c → ⊥
no_shortage c out report (inl other) = other out
no_shortage c out report (inr other) = other report

pub shortages_stop : ShortagesStop
shortages_stop c (ending, performs, (whole, delivered)) short = absurd (no_shortage c delivered.0.2 delivered.1.2 short)
shortages_stop c (ending, performs, (stopped_at_out sink_failed, delivered)) short =
    absurd (no_shortage c delivered.0.1.1 (ap (λ (s : ObservedSink). s.shortages) delivered.1) short)
shortages_stop c (ending, performs, (stopped_at_out sink_memory, delivered)) short = (delivered.2, inl (cut_at_out c ending performs sink_memory delivered.0 delivered.1))
shortages_stop c (ending, performs, (stopped_at_report sink_failed, delivered)) short = absurd (no_shortage c delivered.0.2 delivered.1.1.1 short)
shortages_stop c (ending, performs, (stopped_at_report sink_memory, delivered)) short = (delivered.2, cut_at_report c ending performs sink_memory delivered.0 delivered.1)
