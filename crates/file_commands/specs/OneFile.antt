-- A command that begins with the load of a file.
use Rattle.std.specs.Prelude.{ℕ, List, Option, None}
use Rattle.file_commands.specs.Outcome.{load, Outcome, after}
use Rattle.file_commands.specs.Load.{with_limited}

-- the most bytes of an ELF or flat file that is loaded
abbrev pub file_limit : ℕ
file_limit = 67108864

-- the outcome behind the load: `rest` where the file is there and isn't too long
abbrev pub with_found : List ℕ → Option (List ℕ) → (List ℕ → Outcome) → Outcome
with_found name found rest = with_limited file_limit None name found rest

abbrev pub with_file : List ℕ → Option (List ℕ) → (List ℕ → Outcome) → Outcome
with_file name found rest = after (load name) (with_found name found rest)
