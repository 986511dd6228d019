-- The memory sink: the bytes taken, the calls, how much one write takes, and how often memory was short.
use Rattle.std.specs.Prelude.{ℕ, ◌<◌, List, ◌++◌, length, min, if◌then◌else◌, Option, None, Some, IfSome, Result, Ok, Err, refl}
use Rattle.std.specs.Coded.{Coded, code_by, coded×, coded_list, coded_option, coded_ℕ}
use Rattle.host_io.specs.Calls.{CallCounts, call_counts_code, one_more, is_failing, counted, with_fault}
use Rattle.host_io.specs.Sink.{bytes_taken}
use Rattle.host_io.specs.declared.sink.SinkError.{SinkError}
use Rattle.host_io.specs.declared.sink.SinkError.TheVariants.{Failed, Memory}

pub record SinkState : Type 0 where
  pub bytes : List ℕ
  pub calls : CallCounts
  -- the most bytes that a write takes, if there is such a limit
  pub most : Option ℕ
  -- how many writes were out of memory
  pub shortages : ℕ

abbrev pub sink_state_code : Coded SinkState
sink_state_code =
    code_by (List ℕ × (CallCounts × (Option ℕ × ℕ))) (coded× (coded_list coded_ℕ) (coded× call_counts_code (coded× (coded_option coded_ℕ) coded_ℕ)))
    (λ s. (s.bytes, (s.calls, (s.most, s.shortages)))) (λ p. record { bytes = p.0; calls = p.1.0; most = p.1.1.0; shortages = p.1.1.1 }) (λ _. refl)

-- a limit is at least one byte
abbrev pub TakesSome : Option ℕ → Type 0
TakesSome most = IfSome most (λ n. 0 < n)

-- how many bytes of a piece of so many a write takes: all of them, or as many as the limit allows
abbrev pub part_taken : (most : Option ℕ) → (size : ℕ) → ℕ
part_taken None size = size
part_taken (Some most) size = min most size

-- the answer of a write: that part of the piece is taken, or Failed exactly where this call is named to fail
abbrev pub write_answer : SinkState → List ℕ → Result ℕ SinkError
write_answer s piece = if is_failing s.calls then Err Failed else Ok (part_taken s.most (length piece))

-- the calls after a write with this answer: one more, unless memory was missing
abbrev pub calls_after : Result ℕ SinkError → CallCounts → CallCounts
calls_after (Err Failed) calls = with_fault (counted calls)
calls_after (Err Memory) calls = calls
calls_after (Ok n) calls = counted calls

abbrev pub shortages_after : Result ℕ SinkError → ℕ → ℕ
shortages_after (Err Memory) n = one_more n
shortages_after (Err Failed) n = n
shortages_after (Ok taken) n = n

abbrev pub after_write : SinkState → List ℕ → Result ℕ SinkError → SinkState
after_write s piece result =
    record { bytes = s.bytes ++ bytes_taken result piece; calls = calls_after result s.calls; most = s.most; shortages = shortages_after result s.shortages }
