-- When each status comes, and what was written then: laws over every call.
use Rattle.std.specs.Prelude.{◌≡◌, ◌≢◌, ◌⊎◌, ◌++◌, ◌↔◌, ℕ, ◌≤◌, true, List, [], ◌∷◌, decimal, Option, Some, None, option_map}
use Rattle.host_io.specs.Faults.{Rose}
use Rattle.host_io.specs.Host.{Told}
use Rattle.file_commands.specs.declared.status.Status.{Status}
use Rattle.file_commands.specs.declared.status.Status.TheVariants.{Done, Usage, HostRead, Refused, Stray, OutOfQuanta, LogFull, SinkWrite, Memory, HostWrite, Stuck, Refuted}
use Rattle.elf2flt_tool.specs.declared.refusal.Refusal.{Refusal}
use Rattle.elf2flt_tool.specs.Fault.{fault}
use Rattle.file_commands.specs.Texts.{refusal_tail, memory_line}
use Rattle.file_commands.specs.Ending.{Ending, listed_ending, memory_ending}
use Rattle.file_commands.specs.Check.{faults_text}
use Rattle.file_commands.specs.Outcome.{Request, load, store, failure_ending, Inputs}
use Rattle.file_commands.specs.declared.command.Format.{Format}
use Rattle.file_commands.specs.Arguments.{Invocation, check, replay, IsNoRun, least_stack, most_stack, stack_of, command_of}
use Rattle.suite_top.specs.Result.{result_of}
use Rattle.file_commands.specs.HostCourse.{after_failure, after_answers, Performs}
use Rattle.file_commands.specs.Delivery.{SinkStop, sink_failed, sink_memory, TookAll, CutShort}
use Rattle.suite_top.specs.Call.{Call, outcome_of, MeetsOutcome}

-- the statuses that come of the input alone
abbrev pub IsAnswer : Status → Type 0
IsAnswer Done = Unit {0}
IsAnswer Usage = Unit {0}
IsAnswer Refused = Unit {0}
IsAnswer Stray = Unit {0}
IsAnswer OutOfQuanta = Unit {0}
IsAnswer LogFull = Unit {0}
IsAnswer Stuck = Unit {0}
IsAnswer Refuted = Unit {0}
IsAnswer HostRead = ⊥
IsAnswer HostWrite = ⊥
IsAnswer SinkWrite = ⊥
IsAnswer Memory = ⊥

-- the host answered every request, and no fault of it was counted
pub record IsPerformed (c : Call) : Type 0 where
  pub told : c.host_after.told ≡ option_map (λ t. after_answers t (outcome_of c).requests) c.host.told
  pub faults : c.host_after.faults ≡ c.host.faults

-- and both texts were taken whole
pub record IsWhole (c : Call) : Type 0 where
  pub status : c.status ≡ (outcome_of c).ending.status
  pub performed : IsPerformed c
  pub out : TookAll c.out c.out_after (outcome_of c).ending.out
  pub report : TookAll c.report c.report_after (outcome_of c).ending.report

-- these statuses come only where they are the outcome's
abbrev pub AnswersAreWhole : Type 0
AnswersAreWhole = (c : Call) → MeetsOutcome c → IsAnswer c.status → IsWhole c

-- no fault was counted
pub record IsCalm (c : Call) : Type 0 where
  pub host : Rose c.host.faults c.host_after.faults → ⊥
  pub out : Rose c.out.faults c.out_after.faults → ⊥
  pub report : Rose c.report.faults c.report_after.faults → ⊥

-- then the call ends as its outcome says, or was out of memory
abbrev pub Completes : Type 0
Completes = (c : Call) → MeetsOutcome c → IsCalm c → (c.status ≡ Memory) ⊎ IsWhole c

-- the host failed at this request, behind these; the line names it
pub record FailsAt (c : Call) (request : Request) : Type 0 where
  pub done : List Request
  pub rest : List Request
  pub requests : (outcome_of c).requests ≡ done ++ request ∷ rest
  pub rose : Rose c.host.faults c.host_after.faults
  pub told : c.host_after.told ≡ option_map (λ t. after_failure (after_answers t done) request) c.host.told
  pub out : TookAll c.out c.out_after []
  pub report : TookAll c.report c.report_after (failure_ending request).report

abbrev pub ReadsFail : Type 0
ReadsFail = (c : Call) → MeetsOutcome c → c.status ≡ HostRead → (name : List ℕ) × FailsAt c (load name)

abbrev pub WritesFail : Type 0
WritesFail = (c : Call) → MeetsOutcome c → c.status ≡ HostWrite → (name : List ℕ) × (bytes : List ℕ) × FailsAt c (store name bytes)

-- the host answered every request; `out` stopped behind a prefix of its text, and `report` took nothing
pub record CutAtOut (stop : SinkStop) (c : Call) : Type 0 where
  pub performed : IsPerformed c
  pub out : CutShort stop c.out c.out_after (outcome_of c).ending.out
  pub report : c.report_after ≡ c.report

-- the host answered every request, and `out` took its whole text; `report` stopped behind a prefix of its own
pub record CutAtReport (stop : SinkStop) (c : Call) : Type 0 where
  pub performed : IsPerformed c
  pub out : TookAll c.out c.out_after (outcome_of c).ending.out
  pub report : CutShort stop c.report c.report_after (outcome_of c).ending.report

-- the files of a host that tells them are as before
abbrev pub FilesRemain : Call → Type 0
FilesRemain c = (t t_after : Told) → c.host.told ≡ Some t → c.host_after.told ≡ Some t_after → t_after.files ≡ t.files

-- the host failed at a request, and `report` stopped behind a prefix of its line
pub record CutAtFailure (stop : SinkStop) (c : Call) : Type 0 where
  pub done : List Request
  pub request : Request
  pub rest : List Request
  pub requests : (outcome_of c).requests ≡ done ++ request ∷ rest
  pub rose : Rose c.host.faults c.host_after.faults
  pub told : c.host_after.told ≡ option_map (λ t. after_failure (after_answers t done) request) c.host.told
  pub files : FilesRemain c
  pub out : TookAll c.out c.out_after []
  pub report : CutShort stop c.report c.report_after (failure_ending request).report

-- the call was out of memory, and `report` stopped behind a prefix of the line `memory`
pub record CutAtMemory (stop : SinkStop) (c : Call) : Type 0 where
  pub performs : Performs c.host c.host_after (outcome_of c) memory_ending
  pub files : FilesRemain c
  pub out : TookAll c.out c.out_after []
  pub report : CutShort stop c.report c.report_after memory_line

-- a sink stopped within one of these texts, and no other one was written behind it
abbrev pub IsCut : SinkStop → Call → Type 0
IsCut stop c = CutAtOut stop c ⊎ (CutAtReport stop c ⊎ (CutAtFailure stop c ⊎ CutAtMemory stop c))

-- a text stands in one sink alone: with Done and Refuted in `out`, and else in `report`
abbrev pub IsOneText : Ending → Type 0
IsOneText ending = (ending.out ≡ []) ⊎ (((ending.status ≡ Done) ⊎ (ending.status ≡ Refuted)) × (ending.report ≡ []))

-- or every fault of a file was asked for: their listing goes to `out`, and the line of the first one to `report`
pub record IsListing (asked : Option Invocation) (inputs : Inputs) (ending : Ending) : Type 0 where
  pub elf : List ℕ
  pub command : asked ≡ Some (check elf true)
  pub bytes : List ℕ
  pub found : inputs 0 elf ≡ Some bytes
  pub first : Refusal
  pub faulty : fault bytes ≡ Some first
  pub texts : ending ≡ listed_ending (faults_text bytes) (refusal_tail first)

-- but for such a listing, only where a machine runs both may have one
abbrev pub TextsAreApart : Type 0
TextsAreApart = (arguments : List (List ℕ)) (inputs : Inputs) → IsNoRun (command_of arguments)
    → IsOneText (result_of arguments inputs).ending ⊎ IsListing (command_of arguments) inputs (result_of arguments inputs).ending

-- a sink failed, and no other text was written behind its prefix
abbrev pub SinksFail : Type 0
SinksFail = (c : Call) → MeetsOutcome c → c.status ≡ SinkWrite → IsCut sink_failed c

-- the call was out of memory before any text: no file changed, and the one line is `memory`
pub record IsMemoryTold (c : Call) : Type 0 where
  pub performs : Performs c.host c.host_after (outcome_of c) memory_ending
  pub files : FilesRemain c
  pub out : TookAll c.out c.out_after []
  pub report : TookAll c.report c.report_after memory_line

-- or a sink was out of memory, so that its count of shortages rose, and no other text was written behind its prefix
abbrev pub MemoryIsTold : Type 0
MemoryIsTold = (c : Call) → MeetsOutcome c → c.status ≡ Memory → IsMemoryTold c ⊎ IsCut sink_memory c

-- no sink was out of memory
pub record IsSupplied (c : Call) : Type 0 where
  pub out : Rose c.out.shortages c.out_after.shortages → ⊥
  pub report : Rose c.report.shortages c.report_after.shortages → ⊥

-- then Memory is told by its one line
abbrev pub MemoryIsOneLine : Type 0
MemoryIsOneLine = (c : Call) → MeetsOutcome c → IsSupplied c → c.status ≡ Memory → IsMemoryTold c

-- the count of shortages of a sink isn't what it was
abbrev pub HasShortage : Call → Type 0
HasShortage c = (c.out_after.shortages ≢ c.out.shortages) ⊎ (c.report_after.shortages ≢ c.report.shortages)

-- a sink that was out of memory stops all further writing, with the status Memory
abbrev pub ShortagesStop : Type 0
ShortagesStop = (c : Call) → MeetsOutcome c → HasShortage c → (c.status ≡ Memory) × IsCut sink_memory c

-- Usage is the outcome exactly of arguments that are no command, and then nothing is requested
abbrev pub UsageIsExact : Type 0
UsageIsExact = (arguments : List (List ℕ)) (inputs : Inputs)
    → ((result_of arguments inputs).ending.status ≡ Usage → command_of arguments ≡ None)
    × (command_of arguments ≡ None → ((result_of arguments inputs).ending.status ≡ Usage) × ((result_of arguments inputs).requests ≡ []))

-- Refuted is the outcome of `replay` alone
abbrev pub RefutedIsOfReplay : Type 0
RefutedIsOfReplay = (arguments : List (List ℕ)) (inputs : Inputs) → (result_of arguments inputs).ending.status ≡ Refuted
    → (kind : Format) × (file : List ℕ) × (items : List ℕ) × (command_of arguments ≡ Some (replay kind file items))

-- the argument of `--stack` says a number exactly where it spells it and it is in the range
abbrev pub StackIsSpelled : Type 0
StackIsSpelled = (text : List ℕ) (n : ℕ) → (stack_of text ≡ Some n) ↔ ((text ≡ decimal n) × (least_stack ≤ n) × (n ≤ most_stack))

-- ---- no status always

-- no fault of a sink was counted
pub record AreSinksCalm (c : Call) : Type 0 where
  pub out : Rose c.out.faults c.out_after.faults → ⊥
  pub report : Rose c.report.faults c.report_after.faults → ⊥

-- with these arguments no call ends so, if no sink fails, whatever the host does
abbrev pub IsNeverOf : Status → List (List ℕ) → Type 0
IsNeverOf status arguments = (c : Call) → c.arguments ≡ arguments → AreSinksCalm c → MeetsOutcome c → c.status ≢ status

-- each status but Memory has such arguments: no body that always ends with one and the same does what the clause of `suite` says
abbrev pub NoStatusIsAlways : Type 0
NoStatusIsAlways = (status : Status) → status ≢ Memory → (arguments : List (List ℕ)) × IsNeverOf status arguments
