-- The strings of an execve whose environment alone has some, whole and cut short; and how long a start frame is.
use Rattle.std.proofs.Common.{◌≡◌, ℕ, List, [], ◌∷◌, map, Option, Some, None, take, refl}
use Rattle.std.specs.Prelude.{codes}
use Rattle.byte_words.specs.Numbers.{number_at}
use Rattle.flat_loader.specs.Frame.{frame_len}
use Rattle.call_log.specs.Strings.{ProgramStrings, strings_in, program_strings}

-- the path "/a", and behind it the pointer 32 with "a", the pointer 40 with "bc", and the zero
abbrev list : List ℕ
list = 32 ∷ 0 ∷ 0 ∷ 0 ∷ 97 ∷ 0 ∷ 40 ∷ 0 ∷ 0 ∷ 0 ∷ 98 ∷ 99 ∷ 0 ∷ 0 ∷ 0 ∷ 0 ∷ 0 ∷ []

abbrev parsed : List ℕ → Option ProgramStrings
parsed read = program_strings (47 ∷ 97 ∷ 0 ∷ read) 0 64

environment : parsed list ≡ Some (record { args = []; env = codes "a" ∷ codes "bc" ∷ [] })
unfolding program_strings strings_in number_at
environment = refl

-- behind the last string, behind a pointer, and in a string
environment-cut : map parsed (take 13 list ∷ take 10 list ∷ take 11 list ∷ []) ≡ None ∷ None ∷ None ∷ []
unfolding program_strings strings_in number_at
environment-cut = refl

-- three arguments, one of them empty, and an environment of one string
frame : frame_len (codes "/hi" ∷ codes "a" ∷ [] ∷ []) (codes "B=1" ∷ []) ≡ 39
unfolding frame_len
frame = refl
