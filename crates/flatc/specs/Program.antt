-- What the program does with its arguments: a page of its own, or else the top call.
use Rattle.std.specs.Prelude.{◌≡◌, ◌≢◌, ℕ, List, [], map, drop, String, string_bytes, Option, Some, None, Result, Ok, Err}
use Rattle.std.specs.declared.alloc.Global.{Global}
use Rattle.std.specs.declared.io.ErrorKind.{ErrorKind}
use Rattle.std.specs.declared.io.ErrorKind.TheVariants as kind
use Rattle.host_io.specs.Host.{Told}
use Rattle.file_commands.specs.declared.status.Status.{Status}
use Rattle.file_commands.specs.Status.{code_of}
use Rattle.file_commands.specs.Ending.{done_ending, memory_ending}
use Rattle.file_commands.specs.Observed.{Observed, ObservedSink}
use Rattle.file_commands.specs.Delivery.{Delivers}
use Rattle.suite_top.specs.Call.{MeetsResult}
use Rattle.flatc.specs.declared.program.Arguments.{Arguments}
use Rattle.flatc.specs.declared.program.Arguments.TheVariants.{Words, NotText, OutOfMemory}

-- what is made of what was read of a process: all words but the first, which is the program's name; or there was no memory for them, or
-- for the reading; or it had another error, as where an argument isn't text
abbrev pub IsReadOf : {A E : Type 0} → (words_of : A → List (String Global)) → (kind_of : E → ErrorKind) → Result A E → Arguments → Type 0
IsReadOf words_of kind_of (Ok all) (Words words) = words.items ≡ drop 1 (words_of all)
IsReadOf words_of kind_of (Ok all) NotText = ⊥
IsReadOf words_of kind_of (Ok all) OutOfMemory = Unit {0}
IsReadOf words_of kind_of (Err error) (Words words) = ⊥
IsReadOf words_of kind_of (Err error) NotText = kind_of error ≢ kind.OutOfMemory
IsReadOf words_of kind_of (Err error) OutOfMemory = kind_of error ≡ kind.OutOfMemory

-- a page goes to `out`, and the host isn't asked; the host and the two sinks before and after
abbrev pub EndsBy : (page : Option (List ℕ)) (arguments : List (List ℕ)) (host host_after : Observed Told) (out out_after report report_after : ObservedSink) → Status → Type 0
EndsBy (Some page) arguments host host_after out out_after report report_after status =
    (host_after ≡ host) × Delivers (done_ending page) out out_after report report_after status
EndsBy None arguments host host_after out out_after report report_after status = MeetsResult arguments host host_after out out_after report report_after status

-- arguments that aren't text are no command; and where there was no memory to read them the host isn't asked
abbrev pub Ends : (page_of : List (List ℕ) → Option (List ℕ)) → Arguments → (host host_after : Observed Told) (out out_after report report_after : ObservedSink) → Status → Type 0
Ends page_of (Words words) host host_after out out_after report report_after status =
    EndsBy (page_of (map string_bytes words.items)) (map string_bytes words.items) host host_after out out_after report report_after status
Ends page_of NotText host host_after out out_after report report_after status =
    MeetsResult [] host host_after out out_after report report_after status
Ends page_of OutOfMemory host host_after out out_after report report_after status =
    (host_after ≡ host) × Delivers memory_ending out out_after report report_after status

-- the exit status is the code of the status that the program ends with
abbrev pub Exits : (page_of : List (List ℕ) → Option (List ℕ)) → Arguments → (host host_after : Observed Told) (out out_after report report_after : ObservedSink) → ℕ → Type 0
Exits page_of arguments host host_after out out_after report report_after code =
    (status : Status) × (code ≡ code_of status) × Ends page_of arguments host host_after out out_after report report_after status
