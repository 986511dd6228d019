-- What an execve reads and what its strings are, computed from the definitions.
use Rattle.std.proofs.Common.{◌≡◌, ℕ, List, [], ◌∷◌, ◌++◌, Some, None, Ok, Err, take, refl}
use Rattle.std.specs.Prelude.{Result}
use Rattle.byte_words.specs.ByteMap.{Bytes, with_bytes, little_bytes}
use Rattle.byte_words.specs.Numbers.{number_at}
use Rattle.call_log.specs.Sent.{Span, read_span, string_from, strings_from, list_sent, exec_sent, sent}
use Rattle.call_log.specs.Strings.{strings_in, program_strings}

-- the path "/a" at 16, the string "a" at 32 and "bc" at 40, and at 64 their pointers with a zero behind them
abbrev memory : Bytes
memory =
    with_bytes
    (with_bytes (with_bytes (with_bytes (λ a. None) 16 (47 ∷ 97 ∷ 0 ∷ [])) 32 (97 ∷ 0 ∷ [])) 40 (98 ∷ 99 ∷ 0 ∷ []))
    64
    (little_bytes 4 32 ++ (little_bytes 4 40 ++ little_bytes 4 0))

abbrev path : List ℕ
path = 47 ∷ 97 ∷ 0 ∷ []

-- each pointer with its string
abbrev list : List ℕ
list = 32 ∷ 0 ∷ 0 ∷ 0 ∷ 97 ∷ 0 ∷ 40 ∷ 0 ∷ 0 ∷ 0 ∷ 98 ∷ 99 ∷ 0 ∷ 0 ∷ 0 ∷ 0 ∷ 0 ∷ []

-- ---- what is read

-- execve("/a", {"a", "bc"}, NULL)
two_strings : sent 221 (16 ∷ 64 ∷ 0 ∷ []) memory ≡ Ok (path ++ list)
unfolding sent string_from strings_from read_span number_at
two_strings = refl

-- the same list as environment, and none of arguments
environment : exec_sent memory 16 0 64 ≡ Ok (path ++ list)
unfolding string_from strings_from read_span number_at
environment = refl

-- both, one behind the other
both_lists : exec_sent memory 16 64 64 ≡ Ok (path ++ (list ++ list))
unfolding string_from strings_from read_span number_at
both_lists = refl

-- a list that isn't there
no_list : exec_sent memory 16 80 0 ≡ Err (record { addr = 80; len = 4 })
unfolding strings_from read_span
no_list = refl

-- ---- where the most bytes are passed, here fewer: the strings count thirteen, and the zero behind their pointers nothing

abbrev done : ℕ → Result (List ℕ) Span
done left = Ok []

all_read : list_sent memory 64 13 done ≡ Ok list
unfolding string_from strings_from read_span number_at
all_read = refl

-- the zero of "bc" passes them
last_passes : list_sent memory 64 12 done ≡ Ok (take 13 list)
unfolding string_from strings_from read_span number_at
last_passes = refl

-- the second pointer
pointer_passes : list_sent memory 64 9 done ≡ Ok (take 10 list)
unfolding string_from strings_from read_span number_at
pointer_passes = refl

-- the first byte of "bc"
byte_passes : list_sent memory 64 10 done ≡ Ok (take 11 list)
unfolding string_from strings_from read_span number_at
byte_passes = refl

-- ---- the strings

two_parsed : program_strings (path ++ list) 64 0 ≡ Some (record { args = (97 ∷ []) ∷ (98 ∷ 99 ∷ []) ∷ []; env = [] })
unfolding program_strings strings_in number_at
two_parsed = refl

both_parsed : program_strings (path ++ (list ++ list)) 64 64 ≡ Some (record { args = (97 ∷ []) ∷ (98 ∷ 99 ∷ []) ∷ []; env = (97 ∷ []) ∷ (98 ∷ 99 ∷ []) ∷ [] })
unfolding program_strings strings_in number_at
both_parsed = refl

none_parsed : program_strings path 0 0 ≡ Some (record { args = []; env = [] })
unfolding program_strings
none_parsed = refl

-- none where the reading stopped behind the last string, behind a pointer, or in a string
cut_behind : program_strings (path ++ take 13 list) 64 0 ≡ None
unfolding program_strings strings_in number_at
cut_behind = refl

cut_pointer : program_strings (path ++ take 10 list) 64 0 ≡ None
unfolding program_strings strings_in number_at
cut_pointer = refl

cut_byte : program_strings (path ++ take 11 list) 64 0 ≡ None
unfolding program_strings strings_in number_at
cut_byte = refl

-- or in the environment
cut_environment : program_strings (path ++ (list ++ take 13 list)) 64 64 ≡ None
unfolding program_strings strings_in number_at
cut_environment = refl
