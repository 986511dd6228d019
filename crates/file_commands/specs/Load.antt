-- A command that goes on with the file of a load.
use Rattle.std.specs.Prelude.{ℕ, suc, List, [], length, nat_lt, Option, Some, None, if◌then◌else◌}
use Rattle.file_commands.specs.Texts.Refusals.{too_long_at}
use Rattle.file_commands.specs.Ending.{Ending, refused_ending}
use Rattle.file_commands.specs.Outcome.{load, failure_ending, Outcome, Inputs, after}

-- nothing more is requested
abbrev pub at_once : Ending → Outcome
at_once ending = record { requests = []; ending = ending }

-- the files of the loads behind the first
abbrev pub behind : Inputs → Inputs
behind inputs i name = inputs (suc i) name

-- the outcome behind the load: `rest` where the file is there and has at most `limit` bytes. The line is that of a manifest,
-- if one brings the file in
abbrev pub with_limited : (limit : ℕ) → (line : Option ℕ) → (name : List ℕ) → Option (List ℕ) → (List ℕ → Outcome) → Outcome
with_limited limit line name None rest = at_once (failure_ending (load name))
with_limited limit line name (Some bytes) rest = if nat_lt limit (length bytes) then at_once (refused_ending (too_long_at line)) else rest bytes

-- a load, and then `rest`
abbrev pub with_load : (limit : ℕ) → (line : Option ℕ) → (name : List ℕ) → (List ℕ → Inputs → Outcome) → Inputs → Outcome
with_load limit line name rest inputs = after (load name) (with_limited limit line name (inputs 0 name) (λ bytes. rest bytes (behind inputs)))
