-- The path and the strings that an execve read (Linux, execve(2), in this project's profile).
use Rattle.std.specs.Prelude.{ℕ, zero, suc, ◌+◌, ◌==◌, not, nat_lt, if◌then◌else◌, List, [], ◌∷◌, length, drop, take_while, Option, Some, None}
use Rattle.byte_words.specs.Numbers.{low_first, number_at}
use Rattle.call_log.specs.Sent.{has_zero}

-- what stands before the first zero, and what stands behind it
abbrev pub before_zero : List ℕ → List ℕ
before_zero bytes = take_while (λ b. not (b == 0)) bytes

abbrev pub behind_zero : List ℕ → List ℕ
behind_zero bytes = drop (length (before_zero bytes) + 1) bytes

-- the strings of a list, and what was read behind it
pub record Strings : Type 0 where
  pub strings : List (List ℕ)
  pub behind : List ℕ

abbrev pub string_more : List ℕ → Option Strings → Option Strings
string_more string None = None
string_more string (Some s) = Some (record s { strings = string ∷ s.strings })

-- each pointer with its string, up to the pointer that is zero; none where the reading stopped before that
unfoldable pub strings_in : ℕ → List ℕ → Option Strings
strings_in zero bytes = None
strings_in (suc most) bytes =
    if nat_lt (length bytes) 4 then None
    else if number_at low_first 4 bytes 0 == 0 then Some (record { strings = []; behind = drop 4 bytes })
    else if has_zero (drop 4 bytes) then string_more (before_zero (drop 4 bytes)) (strings_in most (behind_zero (drop 4 bytes)))
    else None

-- of the list at an address; there is none at 0
abbrev pub strings_of : (at : ℕ) → List ℕ → Option Strings
strings_of at bytes = if at == 0 then Some (record { strings = []; behind = bytes }) else strings_in (length bytes) bytes

-- the arguments and the environment of a program
pub record ProgramStrings : Type 0 where
  pub args : List (List ℕ)
  pub env : List (List ℕ)

abbrev pub with_env : List (List ℕ) → Option Strings → Option ProgramStrings
with_env args None = None
with_env args (Some s) = Some (record { args = args; env = s.strings })

abbrev pub env_behind : (env : ℕ) → Option Strings → Option ProgramStrings
env_behind env None = None
env_behind env (Some s) = with_env s.strings (strings_of env s.behind)

-- what an execve read behind its path; none where that is more than the most bytes, so that the reading stopped
unfoldable pub program_strings : List ℕ → (args env : ℕ) → Option ProgramStrings
program_strings sent args env = env_behind env (strings_of args (behind_zero sent))
