-- What a log's fields say.
use Rattle.std.specs.Prelude.{◌≡◌, ◌+◌, ◌≤◌, map, reverse, sum, List, vec_len, vec_capacity}
use Rattle.call_log.specs.declared.log.Log.TheInside.{Inside}
use Rattle.call_log.specs.Notes.{Note, most_calls, most_bytes, calls_in, bytes_in}
use Rattle.call_log.specs.Values.{note_value}
use Rattle.call_log.specs.Log.{KeptNotes}

abbrev pub notes_of : Inside → List Note
notes_of s = reverse (map note_value s.notes.items)

abbrev pub kept : Inside → KeptNotes
kept s = record { notes = notes_of s; spare = s.ready }

-- the two counts are the sums that the limits are about, and there is memory for the notes that it is kept ready for
pub record Counted (s : Inside) : Type 0 where
  pub calls : s.calls ≡ sum (map calls_in (notes_of s))
  pub bytes : s.bytes ≡ sum (map bytes_in (notes_of s))
  pub calls_fit : s.calls ≤ most_calls
  pub bytes_fit : s.bytes ≤ most_bytes
  pub ready : vec_len s.notes + s.ready ≤ vec_capacity s.notes
