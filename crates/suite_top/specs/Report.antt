-- The report of a run, which standard error takes, and the status that the run ends with.
use Rattle.std.specs.Prelude.{◌≡◌, ℕ, Bool, true, if◌then◌else◌, List, [], ◌∷◌, ◌++◌, map, reverse, codes, decimal, Option, Some, None}
use Rattle.std.specs.List.{flat_map}
use Rattle.hex.specs.Hex.{encode_lower}
use Rattle.call_log.specs.Notes.{Note, call_note}
use Rattle.call_log.specs.Lines.{line}
use Rattle.manifest_text.specs.declared.manifest.Dump.{Dump}
use Rattle.machine_world.specs.World.{World, program_path}
use Rattle.machine_world.specs.Turns.{End, all_ended, stuck, out_of_quanta, stray_at, log_full}
use Rattle.flat_machine.specs.declared.run.End.{End as Told}
use Rattle.flat_machine.specs.Runs.{Ends}
use Rattle.region_watch.specs.declared.mode.Mode.{Mode}
use Rattle.region_watch.specs.declared.mode.Mode.TheVariants.{Halt, GoOn}
use Rattle.flat_machine.specs.State.{State, world, one_memory}
use Rattle.flat_machine.specs.OwnBytes.{own_bytes, memory_bytes}
use Rattle.memory_world.specs.Physical.{Physical}
use Rattle.file_commands.specs.declared.status.Status.{Status}
use Rattle.file_commands.specs.declared.status.Status.TheVariants as status
use Rattle.file_commands.specs.Texts.{joined, address_words}
use Rattle.trace_text.specs.Texts.{trace_texts}

-- calls are told only with `--log`, and all other notes always
abbrev pub is_told : Bool → Note → Bool
is_told log (call_note e) = log
is_told log note = true

-- where the programs have these paths
abbrev pub note_text : Bool → List (List ℕ) → Note → List ℕ
note_text log paths note = if is_told log note then line paths note else []

-- two digits a byte, or `none` where not all of them are shown
abbrev pub bytes_text : Option (List ℕ) → List ℕ
bytes_text (Some bytes) = encode_lower bytes
bytes_text None = codes "none"

-- `dump PID 0xADDR LEN HEX`, with the bytes that are shown behind the run
abbrev pub dump_line : (shown : Option (List ℕ)) → Dump → List ℕ
dump_line shown d = joined
    (codes "dump " ∷ decimal d.pid ∷ codes " " ∷ address_words d.addr ∷ codes " " ∷ decimal d.len ∷ codes " "
    ∷ bytes_text shown ∷ codes "\n" ∷ [])

-- a process's own bytes, or, of a run that goes on, those of memory
abbrev pub own_dumps : World → List Dump → List ℕ
own_dumps w dumps = flat_map (λ d. dump_line (own_bytes w d.pid d.addr d.len) d) dumps

abbrev pub memory_dumps : Physical → List Dump → List ℕ
memory_dumps p dumps = flat_map (λ d. dump_line (memory_bytes p d.pid d.addr d.len) d) dumps

-- what a machine shows of a process
abbrev pub shown_of : State → ℕ → ℕ → ℕ → Option (List ℕ)
shown_of s pid addr len = by_mode s.mode
  where
    by_mode : Mode → Option (List ℕ)
    by_mode Halt = own_bytes (world s) pid addr len
    by_mode GoOn = memory_bytes (one_memory s) pid addr len

abbrev pub dumps_of : State → List Dump → List ℕ
dumps_of s dumps = flat_map (λ d. dump_line (shown_of s d.pid d.addr d.len) d) dumps

-- why a run stopped. One that has no end yet is out of quanta
abbrev pub stop_word : Option End → List ℕ
stop_word (Some all_ended) = codes "done"
stop_word (Some stuck) = codes "stuck"
stop_word (Some (stray_at pid access)) = codes "stray"
stop_word (Some out_of_quanta) = codes "quanta"
stop_word (Some log_full) = codes "log"
stop_word None = codes "quanta"

-- `stop WORD events N`
abbrev pub stop_line : List ℕ → ℕ → List ℕ
stop_line word events = joined (codes "stop " ∷ word ∷ codes " events " ∷ decimal events ∷ codes "\n" ∷ [])

-- what is told of the notes, what is shown behind them (the hits and the dumps), and why the run stopped
abbrev pub report_of : (notes shown : List ℕ) → World → Option End → List ℕ
report_of notes shown w end = notes ++ shown ++ stop_line (stop_word end) w.events

-- the notes, oldest first
abbrev pub notes_text : Bool → World → List ℕ
notes_text log w = flat_map (note_text log (map program_path w.rest.programs)) (reverse w.notes)

unfoldable pub report_text : Bool → (shown : List ℕ) → World → Option End → List ℕ
report_text log shown w end = report_of (notes_text log w) shown w end

-- with the notes as a trace
abbrev pub traced_notes : Option ℕ → (counted : Bool) → World → List ℕ
traced_notes pid counted w = trace_texts pid counted (map program_path w.rest.programs) (reverse w.notes)

unfoldable pub trace_report : Option ℕ → (counted : Bool) → (shown : List ℕ) → World → Option End → List ℕ
trace_report pid counted shown w end = report_of (traced_notes pid counted w) shown w end

abbrev pub status_of_end : Option End → Status
status_of_end (Some all_ended) = status.Done
status_of_end (Some stuck) = status.Stuck
status_of_end (Some (stray_at pid access)) = status.Stray
status_of_end (Some out_of_quanta) = status.OutOfQuanta
status_of_end (Some log_full) = status.LogFull
status_of_end None = status.OutOfQuanta

-- of each end that the code's end says
abbrev pub IsStopWord : Told → List ℕ → Type 0
IsStopWord told word = (end : Option End) → Ends end told → word ≡ stop_word end

abbrev pub IsReportOf : (notes shown : List ℕ) → State → Told → List ℕ → Type 0
IsReportOf notes shown s told text = (end : Option End) → Ends end told → text ≡ report_of notes shown (world s) end

abbrev pub IsReport : Bool → (shown : List ℕ) → State → Told → List ℕ → Type 0
IsReport log shown s told text = (end : Option End) → Ends end told → text ≡ report_text log shown (world s) end

abbrev pub IsTraceReport : Option ℕ → (counted : Bool) → (shown : List ℕ) → State → Told → List ℕ → Type 0
IsTraceReport pid counted shown s told text = (end : Option End) → Ends end told → text ≡ trace_report pid counted shown (world s) end

abbrev pub IsStatus : Told → Status → Type 0
IsStatus told s = (end : Option End) → Ends end told → s ≡ status_of_end end
