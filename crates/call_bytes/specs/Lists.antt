-- Where the strings of an execve are too long: strings that stand in the caller's memory, and what they count (Linux, execve(2): E2BIG,
-- with this project's limit).
use Rattle.std.specs.Prelude.{◌≡◌, ◌≢◌, ◌⊎◌, ℕ, ◌+◌, ◌%◌, ◌^◌, ◌<◌, nat_le, if◌then◌else◌, List, [], ◌∷◌, length, Some, None, Ok}
use Rattle.std.specs.List.{sum_by}
use Rattle.byte_words.specs.Numbers.{low_first, number_at}
use Rattle.byte_words.specs.ByteMap.{Bytes}
use Rattle.call_log.specs.Sent.{read_span, most_path, most_strings, exec_sent}
use Rattle.call_log.specs.Strings.{program_strings}

-- a string stands at an address: its bytes, none of them zero, and a zero behind them
abbrev pub StringAt : Bytes → ℕ → List ℕ → Type 0
StringAt m at [] = m (at % 2 ^ 32) ≡ Some 0
StringAt m at (b ∷ bs) = (m (at % 2 ^ 32) ≡ Some b) × (b ≢ 0) × StringAt m (at + 1) bs

abbrev pub WordAt : Bytes → ℕ → ℕ → Type 0
WordAt m at word = (bytes : List ℕ) × (read_span m (record { addr = at % 2 ^ 32; len = 4 }) ≡ Ok bytes) × (number_at low_first 4 bytes 0 ≡ word)

-- pointers to strings stand at an address, one behind the other, and behind them the pointer that is zero
abbrev pub PointersAt : Bytes → ℕ → List (List ℕ) → Type 0
PointersAt m at [] = WordAt m at 0
PointersAt m at (s ∷ ss) = (pointer : ℕ) × WordAt m at pointer × (pointer ≢ 0) × StringAt m pointer s × PointersAt m (at + 4) ss

-- a list of strings; none stands at 0
abbrev pub ListAt : Bytes → ℕ → List (List ℕ) → Type 0
ListAt m at ss = ((at ≡ 0) × (ss ≡ [])) ⊎ ((at ≢ 0) × PointersAt m at ss)

-- what strings count: four bytes for each pointer, and those of the string with its zero
abbrev pub counted : List (List ℕ) → ℕ
counted ss = sum_by (λ s. 4 + (length s + 1)) ss

-- an execve reads just these arguments and this environment where both count 1,048,576 at most, and where they count more it reads
-- what has no strings, so that it is E2BIG
abbrev pub ReadsUpToMost : Type 0
ReadsUpToMost =
    (m : Bytes) (path args env : ℕ) (name : List ℕ) (arg_list env_list : List (List ℕ)) →
    StringAt m path name → length name < most_path → ListAt m args arg_list → ListAt m env env_list →
    (sent : List ℕ) × (exec_sent m path args env ≡ Ok sent) × (program_strings sent args env ≡
    (if nat_le (counted arg_list + counted env_list) most_strings then Some (record { args = arg_list; env = env_list }) else None))
