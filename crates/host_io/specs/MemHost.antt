-- The memory host: files in a map, the names asked, and the calls.
use Rattle.std.specs.Prelude.{ℕ, List, [], map, if◌then◌else◌, Option, Some, None, Result, Ok, Err, String, Vec, string_bytes, refl}
use Rattle.std.specs.Coded.{Coded, code_by, coded×, coded_list, coded_ℕ}
use Rattle.std.specs.FinMap as fin
use Rattle.host_io.specs.Calls.{CallCounts, call_counts_code, is_failing, counted, with_fault}
use Rattle.host_io.specs.Host.{Files, Told, loads, asks, stored}
use Rattle.host_io.specs.declared.host.Loaded.{Loaded}
use Rattle.host_io.specs.declared.host.HostError.{HostError}
use Rattle.host_io.specs.declared.host.HostError.TheVariants.{Failed, Memory}

pub record HostState : Type 0 where
  pub files : Files
  pub asked : List (List ℕ)
  pub calls : CallCounts

abbrev pub host_state_code : Coded HostState
host_state_code =
    code_by (Files × (List (List ℕ) × CallCounts)) (coded× (fin.code (coded_list coded_ℕ) (coded_list coded_ℕ)) (coded× (coded_list (coded_list coded_ℕ)) call_counts_code))
    (λ s. (s.files, (s.asked, s.calls))) (λ p. record { files = p.0; asked = p.1.0; calls = p.1.1 }) (λ _. refl)

-- the files that the entries of the map are
abbrev pub files_of : {Y Z : Type 0} → List (String Y × Vec ℕ Z) → Files
files_of entries = fin.from_entries (map (λ e. (string_bytes e.0, e.1.items)) entries)

-- what the host tells
abbrev pub told_of : HostState → Option Told
told_of s = Some (record { files = s.files; asked = s.asked })

-- a load of what stands at the name, and what it leaves in the buffer: a name that isn't there is Failed
abbrev pub load_found : Option (List ℕ) → ℕ → Result Loaded HostError × List ℕ
load_found None limit = (Err Failed, [])
load_found (Some bytes) limit = let found = loads bytes limit in (Ok found.0, found.1)

-- the answer of a load: Failed exactly where this call is named to fail, or the name isn't there
abbrev pub load_answer : HostState → List ℕ → ℕ → Result Loaded HostError × List ℕ
load_answer s name limit = if is_failing s.calls then (Err Failed, []) else load_found (fin.get s.files name) limit

-- the answer of a store: Failed exactly where this call is named to fail
abbrev pub store_answer : HostState → Result (Unit {0}) HostError
store_answer s = if is_failing s.calls then Err Failed else Ok tt

-- the calls after a call with this answer: one more, unless memory was missing
abbrev pub calls_after : {T : Type 0} → Result T HostError → CallCounts → CallCounts
calls_after (Err Failed) calls = with_fault (counted calls)
calls_after (Err Memory) calls = calls
calls_after (Ok x) calls = counted calls

abbrev pub after_load : HostState → List ℕ → Result Loaded HostError → HostState
after_load s name result =
    record { files = s.files; asked = asks result (record { files = s.files; asked = s.asked }) name; calls = calls_after result s.calls }

abbrev pub after_store : HostState → List ℕ → List ℕ → Result (Unit {0}) HostError → HostState
after_store s name bytes result =
    record { files = stored result s.files name bytes; asked = asks result (record { files = s.files; asked = s.asked }) name; calls = calls_after result s.calls }
