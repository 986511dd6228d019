-- What a trace line tells of its call, and which numbers are counted.
use Rattle.std.specs.Prelude.{ℕ, Bool, ◌==◌, List, [], ◌∷◌, ◌≡◌, ◌<◌, ◌^◌}
use Rattle.std.specs.List.{AllByRecursion, list_any}
use Rattle.call_log.specs.Notes.{CallEntry}
use Rattle.trace_text.specs.Lines.{trace_line}
use Rattle.trace_text.specs.Counts.{numbers_of}

-- as in every entry of the code
pub record HasWords (e : CallEntry) : Type 0 where
  pub pid : e.pid < 2 ^ 32
  pub call : e.call < 2 ^ 32
  pub reply : e.reply < 2 ^ 32

pub record SameCall (a b : CallEntry) : Type 0 where
  pub pid : a.pid ≡ b.pid
  pub call : a.call ≡ b.call
  pub reply : a.reply ≡ b.reply

-- two calls with equal lines have the same pid, number and reply, whatever is quoted
abbrev pub LinesTell : Type 0
LinesTell = (a b : CallEntry) → HasWords a → HasWords b → trace_line a ≡ trace_line b → SameCall a b

-- each number is below all that come behind it
abbrev pub Ascends : List ℕ → Type 0
Ascends [] = Unit {0}
Ascends (n ∷ ns) = AllByRecursion (λ m. n < m) ns × Ascends ns

abbrev pub is_among : ℕ → List ℕ → Bool
is_among number numbers = list_any (λ n. n == number) numbers

-- the numbers that are counted ascend, and are those of the calls and no others
pub record CountsEach (entries : List CallEntry) : Type 0 where
  pub ascends : Ascends (numbers_of entries)
  pub numbers : (number : ℕ) → is_among number (numbers_of entries) ≡ list_any (λ e. e.call == number) entries

abbrev pub NumbersAscend : Type 0
NumbersAscend = (entries : List CallEntry) → CountsEach entries
