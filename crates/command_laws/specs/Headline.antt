-- The headline, of each call of `run`: what it did, by the status that it ended with.
use Rattle.std.specs.Prelude.{◌≡◌, ◌⊎◌, ℕ, List, [], Option, Some, None}
use Rattle.host_io.specs.Host.{Told}
use Rattle.call_log.specs.Notes.{CallEntry}
use Rattle.page_runs.specs.declared.place.Kind.{Kind}
use Rattle.region_watch.specs.declared.mode.Mode.{Mode}
use Rattle.region_watch.specs.declared.mode.Mode.TheVariants.{Halt, GoOn}
use Rattle.quantum_sched.specs.declared.Quantum.{Quantum}
use Rattle.memory_world.specs.Physical.{opening_in}
use Rattle.alone_laws.specs.Stays.{kept_calls_of}
use Rattle.end_laws.specs.Console.{moments, all_calls, all_printed, AllWhole}
use Rattle.end_laws.specs.ConsoleIn.{moments_in, all_calls_in, all_printed_in, AllWholeIn}
use Rattle.flat_machine.specs.Runs.{repeated}
use Rattle.file_commands.specs.declared.status.Status.{Status}
use Rattle.file_commands.specs.declared.status.Status.TheVariants.{Done, Usage, HostRead, Refused, Stray, OutOfQuanta, LogFull, SinkWrite, Memory, HostWrite, Stuck, Refuted}
use Rattle.file_commands.specs.Arguments.{RunOptions, run, command_of}
use Rattle.file_commands.specs.Texts.{refused_line}
use Rattle.file_commands.specs.Ending.{Ending}
use Rattle.file_commands.specs.Outcome.{load, store, Inputs}
use Rattle.file_commands.specs.Observed.{Observed, ObservedSink}
use Rattle.file_commands.specs.HostCourse.{inputs_in}
use Rattle.file_commands.specs.Delivery.{sink_failed, sink_memory, TookAll}
use Rattle.suite_top.specs.Telling.{Report}
use Rattle.suite_top.specs.KeptItems.{keep_of}
use Rattle.suite_top.specs.Run.{mode_ending}
use Rattle.suite_top.specs.Call.{Call, MeetsResult}
use Rattle.suite_top.specs.StatusLaws.{IsPerformed, FilesRemain, FailsAt, IsCut, IsMemoryTold}
use Rattle.command_laws.specs.Booted.{DoesAsAlone, EndsAsAlone}
use Rattle.command_laws.specs.RunLaws.{Opens}
use Rattle.command_laws.specs.FirstFault.{FirstFault}
use Rattle.command_laws.specs.Beside.{halting, going_on, GoesOnWell}
use Rattle.command_laws.specs.WatchLaws.{world_behind}

-- ---- a call

-- what is seen of a call of `suite`
pub record Seen : Type 0 where
  pub arguments : List (List ℕ)
  pub host : Observed Told
  pub host_after : Observed Told
  pub out : ObservedSink
  pub out_after : ObservedSink
  pub report : ObservedSink
  pub report_after : ObservedSink
  pub status : Status

-- it is one of `run MANIFEST`, of which the clause of `suite` holds
pub record IsRun (s : Seen) (manifest : List ℕ) (options : RunOptions) : Type 0 where
  pub meets : MeetsResult s.arguments s.host s.host_after s.out s.out_after s.report s.report_after s.status
  pub command : command_of s.arguments ≡ Some (run manifest options)

-- the call, if its loads gave these files
abbrev pub call_of : Seen → Inputs → Call
call_of s inputs = record {
  arguments = s.arguments;
  inputs = inputs;
  host = s.host;
  host_after = s.host_after;
  out = s.out;
  out_after = s.out_after;
  report = s.report;
  report_after = s.report_after;
  status = s.status;
}

-- the loads of a host that tells its files gave these, and those of another host gave some
abbrev pub ForItsFiles : Option Told → (Inputs → Type 0) → Type 0
ForItsFiles (Some t) says = says (inputs_in t.files)
ForItsFiles None says = (inputs : Inputs) × says inputs

-- ---- the turns, and the console

module _ {inputs : Inputs} {name : List ℕ} {keep : ℕ} {kind : Kind} (o : Opens inputs name keep kind) where
  abbrev pub quanta_of : List Quantum
  quanta_of = repeated o.manifest.repeat o.manifest.quanta

  -- what the turns give, or, of a run that goes on, those over one memory: its report has the notes, the hits that are asked for, the dumps of
  -- the manifest, and why the run stopped
  abbrev pub ending_by : RunOptions → Ending
  ending_by options = mode_ending (Report options) options.mode quanta_of o.manifest.watches o.manifest.dumps o.booted.brought.headers o.booted.world

  -- the calls that the events of the turns made, one after the other
  abbrev pub calls_by : Mode → List CallEntry
  calls_by Halt = all_calls (moments quanta_of o.booted.world)
  calls_by GoOn = all_calls_in (moments_in quanta_of (opening_in o.booted.brought.headers o.booted.world))

  -- the data of those among them that write to the console
  abbrev pub printed_by : Mode → List ℕ
  printed_by Halt = all_printed (moments quanta_of o.booted.world)
  printed_by GoOn = all_printed_in (moments_in quanta_of (opening_in o.booted.brought.headers o.booted.world))

  -- each of these that isn't refused wrote all of its data, and its reply is their count
  abbrev pub AreWholeBy : Mode → Type 0
  AreWholeBy Halt = AllWhole (moments quanta_of o.booted.world)
  AreWholeBy GoOn = AllWholeIn (moments_in quanta_of (opening_in o.booted.brought.headers o.booted.world))

-- ---- a run whose machine stopped

-- The files that the loads gave open a world, and its turns give the status and the report, which its sink took whole. `out` took the
-- joined data of the noted writes to the console, and no other byte. Up to the first stray access the turns are those of private spaces,
-- and what each process did in them, and how it ended, is what its own program does alone: loaded at its place, relocated by the psABI
-- where it is an ELF file, under the replies that it had.
pub record RanAsAlone (c : Call) (manifest : List ℕ) (options : RunOptions) : Type 0 where
  pub opens : Opens c.inputs manifest (keep_of options.kept) options.kind
  pub performed : IsPerformed c
  pub status : c.status ≡ (ending_by opens options).status
  pub noted : kept_calls_of (world_behind options.mode opens).notes ≡ calls_by opens options.mode
  pub whole : AreWholeBy opens options.mode
  pub out : TookAll c.out c.out_after (printed_by opens options.mode)
  pub report : TookAll c.report c.report_after (ending_by opens options).report
  pub goes_on : options.mode ≡ GoOn → GoesOnWell (halting opens) (going_on opens)
  pub lives : DoesAsAlone opens.booted
  pub ends : EndsAsAlone opens.booted

-- ---- a run that was refused

-- by the one line of its first fault: no file has changed, and nothing else was written
pub record IsRefusedAtFirst (c : Call) (manifest : List ℕ) (options : RunOptions) : Type 0 where
  pub tail : List ℕ
  pub first : FirstFault c.inputs manifest (keep_of options.kept) options.kind tail
  pub performed : IsPerformed c
  pub files : FilesRemain c
  pub out : TookAll c.out c.out_after []
  pub report : TookAll c.report c.report_after (refused_line tail)

-- ---- each call

-- what a call of `run` did that ended with this status: it ran, or was refused; the host failed, so that its count rose, at a load or at a
-- store; a sink failed, so that its count rose; or the call was out of memory, or a sink was. No call of `run` ends with another status
abbrev pub EndsBy : Status → Call → (manifest : List ℕ) → RunOptions → Type 0
EndsBy Done c manifest options = RanAsAlone c manifest options
EndsBy Stray c manifest options = RanAsAlone c manifest options
EndsBy OutOfQuanta c manifest options = RanAsAlone c manifest options
EndsBy LogFull c manifest options = RanAsAlone c manifest options
EndsBy Stuck c manifest options = RanAsAlone c manifest options
EndsBy Refused c manifest options = IsRefusedAtFirst c manifest options
EndsBy HostRead c manifest options = (name : List ℕ) × FailsAt c (load name)
EndsBy HostWrite c manifest options = (name : List ℕ) × (bytes : List ℕ) × FailsAt c (store name bytes)
EndsBy SinkWrite c manifest options = IsCut sink_failed c
EndsBy Memory c manifest options = IsMemoryTold c ⊎ IsCut sink_memory c
EndsBy Usage c manifest options = ⊥
EndsBy Refuted c manifest options = ⊥

-- so it is of each of them
abbrev pub RunsEndByStatus : Type 0
RunsEndByStatus = (s : Seen) (manifest : List ℕ) (options : RunOptions)
    → IsRun s manifest options → ForItsFiles s.host.told (λ inputs. EndsBy s.status (call_of s inputs) manifest options)
