-- What a run of programs tells: with `run` its report, with `trace` its calls as a trace, and with `demo` a line.
use Rattle.std.specs.Prelude.{◌≡◌, ℕ, Bool, false, List, ◌++◌, reverse, length, sum_by, Option, Some, None, Result, IfOk}
use Rattle.std.specs.declared.alloc.AllocError.{AllocError}
use Rattle.call_log.specs.declared.how.How.TheVariants as how
use Rattle.call_log.specs.Notes.{Note, end_note}
use Rattle.machine_world.specs.World.{World}
use Rattle.machine_world.specs.Turns.{End, all_ended}
use Rattle.flat_machine.specs.declared.run.End.{End as Told}
use Rattle.flat_machine.specs.Runs.{Ends}
use Rattle.watch_points.specs.declared.point.PointKind.{PointKind}
use Rattle.page_runs.specs.declared.place.Kind.{Kind}
use Rattle.page_runs.specs.declared.place.Kind.TheVariants.{First}
use Rattle.region_watch.specs.declared.mode.Mode.{Mode}
use Rattle.region_watch.specs.declared.mode.Mode.TheVariants.{Halt}
use Rattle.file_commands.specs.declared.command.TraceOptions.{TraceOptions}
use Rattle.file_commands.specs.Arguments.{KeptItems, RunOptions, options_value}
use Rattle.suite_top.specs.declared.telling.Telling.{Telling as Asked}
use Rattle.suite_top.specs.declared.telling.Telling.TheVariants as asked
use Rattle.file_commands.specs.Texts.{demo_line}
use Rattle.file_commands.specs.declared.answer.Answer.{Answer}
use Rattle.file_commands.specs.Ending.{Ending, done_ending}
use Rattle.flat_machine.specs.State.{State, world}
use Rattle.suite_top.specs.Report.{status_of_end, report_text, trace_report}

-- what is asked of a run of programs, by its command
pub data Telling : Type 0 where
  Report : (options : RunOptions) → Telling
  Trace : (options : TraceOptions) → Telling
  Demo : (programs : ℕ) → Telling

-- what becomes of it at its first stray access, where programs are placed, what is kept of it, and which hits are told
abbrev pub mode_of : Telling → Mode
mode_of (Report options) = options.mode
mode_of (Trace options) = Halt
mode_of (Demo programs) = Halt

abbrev pub placement_of : Telling → Kind
placement_of (Report options) = options.kind
placement_of (Trace options) = options.kind
placement_of (Demo programs) = First

abbrev pub kept_of : Telling → Option KeptItems
kept_of (Report options) = options.kept
kept_of (Trace options) = None
kept_of (Demo programs) = None

abbrev pub watch_of : Telling → Option PointKind
watch_of (Report options) = options.watch
watch_of (Trace options) = None
watch_of (Demo programs) = None

-- the exit code of a process that ends, and 0 of any other note
abbrev pub exit_code : Note → ℕ
exit_code (end_note pid (how.Exit code)) = code
exit_code note = 0

abbrev pub exit_sum : World → ℕ
exit_sum w = sum_by exit_code (reverse w.notes)

-- the console goes to `out`, and this report to `report`, whatever the end
abbrev pub ending_with : (report : List ℕ) → World → Option End → Ending
ending_with report w end = record { status = status_of_end end; out = w.rest.console; report = report }

abbrev pub reported_ending : (log : Bool) → (shown : List ℕ) → World → Option End → Ending
reported_ending log shown w end = ending_with (report_text log shown w end) w end

abbrev pub traced_ending : Option ℕ → (counted : Bool) → (shown : List ℕ) → World → Option End → Ending
traced_ending pid counted shown w end = ending_with (trace_report pid counted shown w end) w end

-- where all n programs of a demo ended, the console and the line go to `out`, and nothing to `report`
abbrev pub demo_text : (n : ℕ) → World → List ℕ
demo_text n w = w.rest.console ++ demo_line n w.events (length w.rest.console) (exit_sum w)

-- and else what the run tells without its calls
abbrev pub demonstrated_ending : (n : ℕ) → (shown : List ℕ) → World → Option End → Ending
demonstrated_ending n shown w (Some all_ended) = done_ending (demo_text n w)
demonstrated_ending n shown w end = reported_ending false shown w end

-- in this world, with this text of its hits and dumps and this end
abbrev pub told_ending : Telling → (shown : List ℕ) → World → Option End → Ending
told_ending (Report options) shown w end = reported_ending options.log shown w end
told_ending (Trace options) shown w end = traced_ending options.pid options.counted shown w end
told_ending (Demo programs) shown w end = demonstrated_ending programs shown w end

-- the ending that an answer is behind this console
abbrev pub ending_behind : (console : List ℕ) → Answer → Ending
ending_behind console answer = record { status = answer.status; out = console ++ answer.out.items; report = answer.report.items }

-- behind the console of this world the answer has this ending, if there was memory for it
abbrev pub HasEndingBehind : World → Ending → Result Answer AllocError → Type 0
HasEndingBehind w wanted result = IfOk result (λ answer. ending_behind w.rest.console answer ≡ wanted)

-- of each end that the code's end says, behind its console
abbrev pub EndsWith : (report : List ℕ) → World → Told → Answer → Type 0
EndsWith report w told answer = (end : Option End) → Ends end told → ending_behind w.rest.console answer ≡ ending_with report w end

abbrev pub IsReported : (log : Bool) → (shown : List ℕ) → State → Told → Result Answer AllocError → Type 0
IsReported log shown s told result = (end : Option End) → Ends end told → HasEndingBehind (world s) (reported_ending log shown (world s) end) result

abbrev pub IsTraced : Option ℕ → (counted : Bool) → (shown : List ℕ) → State → Told → Result Answer AllocError → Type 0
IsTraced pid counted shown s told result = (end : Option End) → Ends end told → HasEndingBehind (world s) (traced_ending pid counted shown (world s) end) result

abbrev pub IsTold : Telling → (shown : List ℕ) → State → Told → Result Answer AllocError → Type 0
IsTold telling shown s told result = (end : Option End) → Ends end told → HasEndingBehind (world s) (told_ending telling shown (world s) end) result

-- what the program was asked for
abbrev pub telling_value : Asked → Telling
telling_value (asked.Report options) = Report (options_value options)
telling_value (asked.Trace options) = Trace options
telling_value (asked.Demo programs) = Demo programs
