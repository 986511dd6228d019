-- What a command requests of the host, in order, and what it then ends with.
use Rattle.std.specs.Prelude.{ℕ, List, [], ◌∷◌, Option}
use Rattle.file_commands.specs.declared.status.Status.TheVariants as status
use Rattle.file_commands.specs.Texts.{cannot_read_line, cannot_write_line}
use Rattle.file_commands.specs.Ending.{Ending, early_ending}

-- to load the file of a name, or to make bytes the file of a name
pub data Request : Type 0 where
  load : (name : List ℕ) → Request
  store : (name bytes : List ℕ) → Request

abbrev pub name_of : Request → List ℕ
name_of (load name) = name
name_of (store name bytes) = name

-- the host failed at this request
abbrev pub failure_ending : Request → Ending
failure_ending (load name) = early_ending status.HostRead (cannot_read_line name)
failure_ending (store name bytes) = early_ending status.HostWrite (cannot_write_line name)

pub record Outcome : Type 0 where
  pub requests : List Request
  pub ending : Ending

-- the file that load number i gives for a name, or none
abbrev pub Inputs : Type 0
Inputs = ℕ → List ℕ → Option (List ℕ)

-- the outcome of a command that first makes this request
abbrev pub after : Request → Outcome → Outcome
after request rest = record { requests = request ∷ rest.requests; ending = rest.ending }

-- the bytes become the file of this name, and then the command ends so
abbrev pub storing : (name bytes : List ℕ) → Ending → Outcome
storing name bytes ending = record { requests = store name bytes ∷ []; ending = ending }
