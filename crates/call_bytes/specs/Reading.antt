-- What the reading of a call's bytes answers.
use Rattle.std.specs.Prelude.{◌≡◌, ℕ, List, [], ◌∷◌, ◌++◌, Vec, Option, Some, None, Result, Ok, Err, ⊤}
use Rattle.call_log.specs.Sent.{Span}
use Rattle.call_bytes.specs.declared.unread.Unread.{Unread}
use Rattle.call_bytes.specs.declared.unread.Unread.TheVariants.{Stray, Memory}

-- what was read, or the range that strays; out of memory says nothing
abbrev pub Reads : {Y : Type 0} → Result (List ℕ) Span → Result (Vec ℕ Y) Unread → Type 0
Reads found (Ok bytes) = found ≡ Ok bytes.items
Reads found (Err (Stray addr len)) = found ≡ Err (record { addr = addr; len = len })
Reads found (Err Memory) = Unit {0}

-- a byte alone
abbrev pub ReadsByte : Result (List ℕ) Span → Result ℕ Unread → Type 0
ReadsByte found (Ok byte) = found ≡ Ok (byte ∷ [])
ReadsByte found (Err (Stray addr len)) = found ≡ Err (record { addr = addr; len = len })
ReadsByte found (Err Memory) = Unit {0}

-- what is read, behind what was read before
abbrev pub appended : List ℕ → Result (List ℕ) Span → Result (List ℕ) Span
appended front (Ok back) = Ok (front ++ back)
appended front (Err span) = Err span

-- the same where the bytes are added to a list
abbrev pub Appends : Result (List ℕ) Span → List ℕ → List ℕ → Result ⊤ Unread → Type 0
Appends found old new (Ok done) = appended old found ≡ Ok new
Appends found old new (Err (Stray addr len)) = found ≡ Err (record { addr = addr; len = len })
Appends found old new (Err Memory) = Unit {0}

-- the same for a number, whose bytes are added
abbrev pub AppendsNumber : (List ℕ → ℕ) → Result (List ℕ) Span → List ℕ → List ℕ → Result ℕ Unread → Type 0
AppendsNumber value found old new (Ok number) = (bytes : List ℕ) × (found ≡ Ok bytes) × (new ≡ old ++ bytes) × (number ≡ value bytes)
AppendsNumber value found old new (Err (Stray addr len)) = found ≡ Err (record { addr = addr; len = len })
AppendsNumber value found old new (Err Memory) = Unit {0}

-- a reading with another one behind it: both read what is added, and what the other one reads with what is left of the most
-- bytes. Where they are passed, nothing is read behind it
abbrev pub ReadsOn : ((ℕ → Result (List ℕ) Span) → Result (List ℕ) Span) → List ℕ → List ℕ → Result (Option ℕ) Unread → Type 0
ReadsOn reads old new (Ok (Some left)) = (more : ℕ → Result (List ℕ) Span) → appended old (reads more) ≡ appended new (more left)
ReadsOn reads old new (Ok None) = (more : ℕ → Result (List ℕ) Span) → appended old (reads more) ≡ Ok new
ReadsOn reads old new (Err (Stray addr len)) = (more : ℕ → Result (List ℕ) Span) → reads more ≡ Err (record { addr = addr; len = len })
ReadsOn reads old new (Err Memory) = Unit {0}
