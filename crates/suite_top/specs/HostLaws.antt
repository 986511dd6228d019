-- What the host was asked, and which files changed: laws over every call.
use Rattle.std.specs.Prelude.{◌≡◌, ◌⊎◌, ◌++◌, ℕ, List, map, Option, Some, None, option_map}
use Rattle.std.specs.FinMap.{insert}
use Rattle.std.specs.Option.{option_and_then}
use Rattle.host_io.specs.Host.{Files, Told}
use Rattle.file_commands.specs.Outcome.{name_of}
use Rattle.file_commands.specs.HostCourse.{after_answers}
use Rattle.file_commands.specs.Arguments.{Invocation, convert, run, romfs, command_of}
use Rattle.suite_top.specs.Call.{Call, outcome_of, MeetsOutcome}

-- the names asked are a prefix of those of the outcome
abbrev pub NamesAreAPrefix : Type 0
NamesAreAPrefix = (c : Call) (t t_after : Told) → MeetsOutcome c → c.host.told ≡ Some t → c.host_after.told ≡ Some t_after
    → (prefix : List (List ℕ)) × (rest : List (List ℕ)) × (map name_of (outcome_of c).requests ≡ prefix ++ rest) × (t_after.asked ≡ t.asked ++ prefix)

-- arguments that are no command leave the host untouched
abbrev pub NothingIsAsked : Type 0
NothingIsAsked = (c : Call) → MeetsOutcome c → command_of c.arguments ≡ None
    → (c.host_after.told ≡ c.host.told) × (c.host_after.faults ≡ c.host.faults)

-- the name of the one file that a command stores, if it stores one
abbrev pub stores_of : Invocation → Option (List ℕ)
stores_of (convert elf flt stack) = Some flt
stores_of (run manifest options) = option_map (λ k. k.file) options.kept
stores_of (romfs manifest image) = Some image
stores_of other = None

abbrev pub stored_name : List (List ℕ) → Option (List ℕ)
stored_name arguments = option_and_then stores_of (command_of arguments)

-- the files are as before, but for the one of this name, if there is one
abbrev pub ChangesAtMost : (stored : Option (List ℕ)) → (old new : Files) → Type 0
ChangesAtMost None old new = new ≡ old
ChangesAtMost (Some name) old new = (new ≡ old) ⊎ ((bytes : List ℕ) × (new ≡ insert old name bytes))

-- however a call ends, no file changes but the one that its command stores
abbrev pub OthersChangeNoFile : Type 0
OthersChangeNoFile = (c : Call) (t t_after : Told) → MeetsOutcome c → c.host.told ≡ Some t → c.host_after.told ≡ Some t_after
    → ChangesAtMost (stored_name c.arguments) t.files t_after.files

-- however a call ends, the files are as before, or as the requests of its outcome leave them
abbrev pub StoresAreWhole : Type 0
StoresAreWhole = (c : Call) (t t_after : Told) → MeetsOutcome c → c.host.told ≡ Some t → c.host_after.told ≡ Some t_after
    → (t_after.files ≡ t.files) ⊎ (t_after.files ≡ (after_answers t (outcome_of c).requests).files)
