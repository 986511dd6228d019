-- How far the two sinks took the texts of an ending, and the status that the call ends with.
use Rattle.std.specs.Prelude.{◌≡◌, ℕ, List, Result, Ok, Err}
use Rattle.host_io.specs.Faults.{Rose}
use Rattle.host_io.specs.Sink.{Takes, TakesPrefix}
use Rattle.file_commands.specs.declared.status.Status.{Status}
use Rattle.file_commands.specs.declared.status.Status.TheVariants as status
use Rattle.file_commands.specs.Ending.{Ending}
use Rattle.file_commands.specs.Observed.{ObservedSink}

-- why a sink took no more: it failed, or it was out of memory
pub data SinkStop : Type 0 where
  sink_failed : SinkStop
  sink_memory : SinkStop

-- this takes the place of the status
abbrev pub status_at : SinkStop → Status
status_at sink_failed = status.SinkWrite
status_at sink_memory = status.Memory

-- its count of faults rose where it failed, and that of its shortages where it was out of memory; the other count stands
abbrev pub StopCounts : SinkStop → ObservedSink → ObservedSink → Type 0
StopCounts sink_failed old new = Rose old.faults new.faults × (new.shortages ≡ old.shortages)
StopCounts sink_memory old new = Rose old.shortages new.shortages × (new.faults ≡ old.faults)

-- a sink, observed before and after, took the whole text, and neither count rose
abbrev pub TookAll : ObservedSink → ObservedSink → List ℕ → Type 0
TookAll old new text = Takes old.told new.told text × (new.faults ≡ old.faults) × (new.shortages ≡ old.shortages)

-- it took a prefix of the text, and not all
abbrev pub CutShort : SinkStop → ObservedSink → ObservedSink → List ℕ → Type 0
CutShort stop old new text = TakesPrefix old.told new.told text × StopCounts stop old new

-- a text was written, or the sink stopped and the call ends with this status
abbrev pub WroteText : ObservedSink → ObservedSink → List ℕ → Result (Unit {0}) Status → Type 0
WroteText old new text (Ok x) = TookAll old new text
WroteText old new text (Err status) = (stop : SinkStop) × CutShort stop old new text × (status ≡ status_at stop)

-- where the delivery ended
pub data Delivery : Type 0 where
  whole : Delivery
  stopped_at_out : SinkStop → Delivery
  stopped_at_report : SinkStop → Delivery

-- after a stop nothing more is written
abbrev pub Delivered : Delivery → Ending → (out out_after report report_after : ObservedSink) → Status → Type 0
Delivered whole ending out out_after report report_after status =
    TookAll out out_after ending.out × TookAll report report_after ending.report × (status ≡ ending.status)
Delivered (stopped_at_out stop) ending out out_after report report_after status =
    CutShort stop out out_after ending.out × (report_after ≡ report) × (status ≡ status_at stop)
Delivered (stopped_at_report stop) ending out out_after report report_after status =
    TookAll out out_after ending.out × CutShort stop report report_after ending.report × (status ≡ status_at stop)

abbrev pub Delivers : Ending → (out out_after report report_after : ObservedSink) → Status → Type 0
Delivers ending out out_after report report_after status = (d : Delivery) × Delivered d ending out out_after report report_after status
