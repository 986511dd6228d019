-- What the log keeps of a run, as plain values.
use Rattle.std.specs.Prelude.{ℕ, ◌+◌, Bool, ◌&&◌, nat_le, List, map, sum, length}
use Rattle.call_log.specs.declared.how.How.{How}
use Rattle.byte_words.specs.declared.access.Access.{Access}

-- bytes that a call wrote into its caller's memory, from an address on
pub record GotRange : Type 0 where
  pub addr : ℕ
  pub bytes : List ℕ

-- a system call: its number, its six arguments, all bytes that it read in the order read, its reply, and what it wrote
pub record CallEntry : Type 0 where
  pub pid : ℕ
  pub call : ℕ
  pub args : List ℕ
  pub sent : List ℕ
  pub reply : ℕ
  pub got : List GotRange

-- a program that begins: its index, its block's first address and pages
pub record LoadEntry : Type 0 where
  pub pid : ℕ
  pub program : ℕ
  pub base : ℕ
  pub pages : ℕ

pub data Note : Type 0 where
  call_note : CallEntry → Note
  load_note : LoadEntry → Note
  end_note : ℕ → How → Note
  stray_note : ℕ → Access → Note

-- the most calls, and the most sent and got bytes, that a log keeps
abbrev pub most_calls : ℕ
most_calls = 1048576

abbrev pub most_bytes : ℕ
most_bytes = 67108864

-- the bytes that a call's note holds
abbrev pub weight_of : List ℕ → List GotRange → ℕ
weight_of sent got = length sent + sum (map (λ w. length w.bytes) got)

abbrev pub calls_in : Note → ℕ
calls_in (call_note entry) = 1
calls_in (load_note entry) = 0
calls_in (end_note pid how) = 0
calls_in (stray_note pid seen) = 0

abbrev pub bytes_in : Note → ℕ
bytes_in (call_note entry) = weight_of entry.sent entry.got
bytes_in (load_note entry) = 0
bytes_in (end_note pid how) = 0
bytes_in (stray_note pid seen) = 0

-- a call with so many sent and got bytes can be noted
unfoldable pub has_room : List Note → ℕ → Bool
has_room notes bytes = nat_le (sum (map calls_in notes) + 1) most_calls && nat_le (sum (map bytes_in notes) + bytes) most_bytes
