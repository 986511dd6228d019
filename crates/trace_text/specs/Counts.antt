-- How often each call was made, how often it was refused, and how many bytes it moved.
use Rattle.std.specs.Prelude.{ℕ, ◌+◌, ◌-◌, ◌^◌, ◌==◌, Bool, true, nat_lt, min, if◌then◌else◌, List, [], ◌∷◌, map, filter, fold, length, sum, sum_by, count_by, codes, decimal, Option, Some, None}
use Rattle.std.specs.List.{filter_map}
use Rattle.call_log.specs.Notes.{CallEntry, Note, call_note, load_note, end_note, stray_note}
use Rattle.call_log.specs.Lines.{joined}
use Rattle.trace_text.specs.declared.count.Count.{Count}
use Rattle.trace_text.specs.Errors.{is_error}
use Rattle.trace_text.specs.Lines.{name_text}

-- a call is shown where no process is asked for, or where this one made it
abbrev pub is_shown : Option ℕ → CallEntry → Bool
is_shown None e = true
is_shown (Some pid) e = e.pid == pid

-- the call of a note, if it is shown
abbrev pub shown_call : Option ℕ → Note → Option CallEntry
shown_call pid (call_note e) = if is_shown pid e then Some e else None
shown_call pid (load_note e) = None
shown_call pid (end_note p how) = None
shown_call pid (stray_note p seen) = None

abbrev pub shown_calls : Option ℕ → List Note → List CallEntry
shown_calls pid notes = filter_map (shown_call pid) notes

-- a sum stands still at the end of its 64 bits
abbrev pub kept : ℕ → ℕ
kept sum = min sum (2 ^ 64 - 1)

abbrev pub got_len : CallEntry → ℕ
got_len e = sum (map (λ w. length w.bytes) e.got)

abbrev pub calls_of : ℕ → List CallEntry → List CallEntry
calls_of number entries = filter (λ e. e.call == number) entries

-- of calls that all have this number
abbrev pub count_of : ℕ → List CallEntry → Count
count_of number entries = record {
  number = number;
  calls = kept (length entries);
  errors = kept (count_by (λ e. is_error e.reply) entries);
  sent = kept (sum_by (λ e. length e.sent) entries);
  got = kept (sum_by got_len entries);
}

-- with one more call
abbrev pub count_with : Count → CallEntry → Count
count_with c e = record {
  number = c.number;
  calls = kept (c.calls + 1);
  errors = kept (c.errors + (if is_error e.reply then 1 else 0));
  sent = kept (c.sent + length e.sent);
  got = kept (c.got + got_len e);
}

-- a number among ascending ones, each once
abbrev pub with_number : List ℕ → ℕ → List ℕ
with_number [] n = n ∷ []
with_number (m ∷ ms) n = if nat_lt n m then n ∷ m ∷ ms else if n == m then m ∷ ms else m ∷ with_number ms n

-- the numbers of the calls, ascending, each once
abbrev pub numbers_of : List CallEntry → List ℕ
numbers_of entries = fold (λ numbers e. with_number numbers e.call) [] entries

-- each number with the count of its calls
abbrev pub tally : List CallEntry → List (ℕ × Count)
tally entries = map (λ n. (n, count_of n (calls_of n entries))) (numbers_of entries)

unfoldable pub counts_of : List CallEntry → List Count
counts_of entries = map (λ n. count_of n (calls_of n entries)) (numbers_of entries)

-- `count NUMBER NAME calls C errors E sent S got G`
unfoldable pub count_line : Count → List ℕ
count_line c = joined
    (codes "count " ∷ decimal c.number ∷ codes " " ∷ name_text c.number ∷ codes " calls " ∷ decimal c.calls ∷ codes " errors " ∷ decimal c.errors
    ∷ codes " sent " ∷ decimal c.sent ∷ codes " got " ∷ decimal c.got ∷ codes "\n" ∷ [])
