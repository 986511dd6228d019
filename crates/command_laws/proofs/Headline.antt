-- The headline, by the laws of a call's status and of a run's opening world.
use Rattle.std.proofs.Common.{◌≡◌, ℕ, List, Option, Some, None, inl, inr, refl, sym, ap, subst, ◌∙◌}
use Rattle.host_io.specs.Host.{Told}
use Rattle.page_runs.specs.declared.place.Kind.{Kind}
use Rattle.region_watch.specs.declared.mode.Mode.{Mode}
use Rattle.region_watch.specs.declared.mode.Mode.TheVariants.{Halt, GoOn}
use Rattle.file_commands.specs.declared.status.Status.{Status}
use Rattle.file_commands.specs.declared.status.Status.TheVariants.{Done, Usage, HostRead, Refused, Stray, OutOfQuanta, LogFull, SinkWrite, Memory, HostWrite, Stuck, Refuted}
use Rattle.file_commands.specs.Arguments.{RunOptions, Invocation, run, replay, command_of}
use Rattle.file_commands.specs.HostCourse.{AreLoads, after_answers, inputs_in}
use Rattle.file_commands.specs.Delivery.{TookAll}
use Rattle.file_commands.specs.Ending.{Ending, refused_ending}
use Rattle.file_commands.specs.Outcome.{Outcome, Inputs}
use Rattle.suite_top.specs.Telling.{Report}
use Rattle.suite_top.specs.Call.{Call, outcome_of, MeetsOutcome, MeetsOver}
use Rattle.suite_top.specs.Result.{command_outcome}
use Rattle.suite_top.specs.KeptItems.{keep_of}
use Rattle.suite_top.specs.Run.{mode_ending, run_outcome}
use Rattle.suite_top.specs.StatusLaws.{IsAnswer, IsPerformed, FilesRemain}
use Rattle.suite_top.proofs.HostLaws.{told_is, loads_keep}
use Rattle.suite_top.proofs.Outcomes.{refuted_is_of_replay, usage_is_exact}
use Rattle.suite_top.proofs.StatusLaws.{answers_are_whole, reads_fail, writes_fail, sinks_fail, memory_is_told}
use Rattle.command_laws.specs.RunLaws.{Opens, opened_outcome, IsStop}
use Rattle.command_laws.specs.WatchLaws.{world_behind}
use Rattle.command_laws.specs.Headline.{call_of, quanta_of, ForItsFiles, RanAsAlone, IsRefusedAtFirst, EndsBy, RunsEndByStatus}
use Rattle.command_laws.proofs.BootedRuns.{does_as_alone, ends_as_alone}
use Rattle.command_laws.proofs.RunLaws.{reasonable, runs_where_it_opens, opens_where_it_stops}
use Rattle.command_laws.proofs.RunsGoOn.{runs_go_on_well}
use Rattle.command_laws.proofs.Printed.{are_noted, are_printed, are_whole}
use Rattle.command_laws.proofs.FirstFault.{stops_or_loads, first_fault}

-- a machine's stop comes of the input alone
pub stops_answer : (status : Status) → IsStop status → IsAnswer status
stops_answer Done stop = tt
stops_answer Stray stop = tt
stops_answer OutOfQuanta stop = tt
stops_answer LogFull stop = tt
stops_answer Stuck stop = tt
stops_answer Usage stop = absurd stop
stops_answer HostRead stop = absurd stop
stops_answer Refused stop = absurd stop
stops_answer SinkWrite stop = absurd stop
stops_answer Memory stop = absurd stop
stops_answer HostWrite stop = absurd stop
stops_answer Refuted stop = absurd stop

-- the console of the world behind the turns is what goes to `out`
console_is_out : {inputs : Inputs} {name : List ℕ} {keep : ℕ} {kind : Kind} (options : RunOptions) (o : Opens inputs name keep kind) (mode : Mode)
    → (mode_ending (Report options) mode (quanta_of o) o.manifest.watches o.manifest.dumps o.booted.brought.headers o.booted.world).out ≡ (world_behind mode o).rest.console
console_is_out options o Halt = refl
console_is_out options o GoOn = refl

module _ (c : Call) (manifest : List ℕ) (options : RunOptions) (meets : MeetsOutcome c) (command : command_of c.arguments ≡ Some (run manifest options)) where
  same : outcome_of c ≡ run_outcome manifest (Report options) c.inputs
  same = ap (λ (o : Option Invocation). command_outcome o c.inputs) command

  ran_as_alone : IsStop c.status → RanAsAlone c manifest options
  ran_as_alone stop =
      let whole = answers_are_whole c meets (stops_answer c.status stop) in
      let stops = subst IsStop (whole.status ∙ ap (λ (x : Outcome). x.ending.status) same) stop in
      let opens = opens_where_it_stops c.inputs manifest (Report options) stops in
      let opened : outcome_of c ≡ opened_outcome (Report options) opens = same ∙ runs_where_it_opens c.inputs manifest (Report options) opens in
      record {
        opens = opens;
        performed = whole.performed;
        status = whole.status ∙ ap (λ (x : Outcome). x.ending.status) opened;
        noted = are_noted opens options.mode;
        whole = are_whole opens options.mode;
        out =
            subst (TookAll c.out c.out_after) (ap (λ (x : Outcome). x.ending.out) opened ∙ console_is_out options opens options.mode ∙ are_printed opens options.mode) whole.out;
        report = subst (λ (x : Outcome). TookAll c.report c.report_after x.ending.report) opened whole.report;
        goes_on = λ mode. runs_go_on_well c.inputs manifest (keep_of options.kept) options.kind opens;
        lives = does_as_alone (reasonable opens) opens.booted;
        ends = ends_as_alone (reasonable opens) opens.booted;
      }

  -- behind loads the files are as before
  remain : IsPerformed c → AreLoads (outcome_of c).requests → FilesRemain c
  remain performed loads t t_after old new =
      ap (λ (v : Told). v.files) (told_is (λ u. after_answers u (outcome_of c).requests) c.host.told c.host_after.told t t_after performed.told old new) ∙ loads_keep (outcome_of c).requests t loads

  refused_loads : (run_outcome manifest (Report options) c.inputs).ending.status ≡ Refused → AreLoads (run_outcome manifest (Report options) c.inputs).requests
  refused_loads is = elim (stops_or_loads manifest (Report options) c.inputs) [ inl stops ↦ absurd (subst IsStop is stops) | inr loads ↦ loads ]

  is_refused : c.status ≡ Refused → IsRefusedAtFirst c manifest options
  is_refused is =
      let whole = answers_are_whole c meets (subst IsAnswer (sym is) tt) in
      let refused : (run_outcome manifest (Report options) c.inputs).ending.status ≡ Refused = sym (whole.status ∙ ap (λ (x : Outcome). x.ending.status) same) ∙ is in
      let (tail, first, told) = first_fault c.inputs manifest (Report options) refused in
      let ending : (outcome_of c).ending ≡ refused_ending tail = ap (λ (x : Outcome). x.ending) same ∙ told in
      record {
        tail = tail;
        first = first;
        performed = whole.performed;
        files = remain whole.performed (subst (λ (x : Outcome). AreLoads x.requests) (sym same) (refused_loads refused));
        out = subst (λ (e : Ending). TookAll c.out c.out_after e.out) ending whole.out;
        report = subst (λ (e : Ending). TookAll c.report c.report_after e.report) ending whole.report;
      }

  never_usage : c.status ≡ Usage → ⊥
  never_usage is =
      let whole = answers_are_whole c meets (subst IsAnswer (sym is) tt) in
      let none : command_of c.arguments ≡ None = (usage_is_exact c.arguments c.inputs).0 (sym whole.status ∙ is) in
      cc

  never_refuted : c.status ≡ Refuted → ⊥
  never_refuted is =
      let whole = answers_are_whole c meets (subst IsAnswer (sym is) tt) in
      let (kind, file, items, other) = refuted_is_of_replay c.arguments c.inputs (sym whole.status ∙ is) in
      let wrong : ◌≡◌ {A = Option Invocation} (Some (replay kind file items)) (Some (run manifest options)) = sym other ∙ command in
      cc

  ends_by : (status : Status) → c.status ≡ status → EndsBy status c manifest options
  ends_by Done is = ran_as_alone (subst IsStop (sym is) tt)
  ends_by Stray is = ran_as_alone (subst IsStop (sym is) tt)
  ends_by OutOfQuanta is = ran_as_alone (subst IsStop (sym is) tt)
  ends_by LogFull is = ran_as_alone (subst IsStop (sym is) tt)
  ends_by Stuck is = ran_as_alone (subst IsStop (sym is) tt)
  ends_by Refused is = is_refused is
  ends_by HostRead is = reads_fail c meets is
  ends_by HostWrite is = writes_fail c meets is
  ends_by SinkWrite is = sinks_fail c meets is
  ends_by Memory is = memory_is_told c meets is
  ends_by Usage is = never_usage is
  ends_by Refuted is = never_refuted is

pub runs_end_by_status : RunsEndByStatus
runs_end_by_status s manifest options is = by_files s.host.told is.meets
  where
    of_files : (inputs : Inputs) → MeetsOutcome (call_of s inputs) → EndsBy s.status (call_of s inputs) manifest options
    of_files inputs meets = ends_by (call_of s inputs) manifest options meets is.command s.status refl

    by_files : (told : Option Told) → MeetsOver told (call_of s) → ForItsFiles told (λ inputs. EndsBy s.status (call_of s inputs) manifest options)
    by_files (Some t) meets = of_files (inputs_in t.files) meets
    by_files None meets = (meets.0, of_files meets.0 meets.1)
