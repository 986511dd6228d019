-- What a host tells, and what a load and a store do to it.
use Rattle.std.specs.Prelude.{◌≡◌, ℕ, List, [], ◌∷◌, ◌++◌, length, nat_lt, if◌then◌else◌, Option, Some, None, Result, Ok, Err, IfOk, option_map}
use Rattle.std.specs.Ordering.{nat_cmp}
use Rattle.std.specs.Cmp.Lexicographic.{slice_cmp}
use Rattle.std.specs.FinMap.{FinMap, get, insert}
use Rattle.host_io.specs.declared.host.Loaded.{Loaded}
use Rattle.host_io.specs.declared.host.Loaded.TheVariants.{All, TooLong}
use Rattle.host_io.specs.declared.host.HostError.{HostError}
use Rattle.host_io.specs.declared.host.HostError.TheVariants.{Failed, Memory}

-- files: from the bytes of a name to the bytes of the file
abbrev pub Files : Type 0
Files = FinMap (slice_cmp nat_cmp) (List ℕ)

-- what a host tells: its files, and the names that it was asked for, in order
pub record Told : Type 0 where
  pub files : Files
  pub asked : List (List ℕ)

-- what a load of a file with these bytes gives, and what it leaves in the buffer
abbrev pub loads : List ℕ → ℕ → Loaded × List ℕ
loads bytes limit = if nat_lt limit (length bytes) then (TooLong, []) else (All, bytes)

-- the names asked after a call that asked for `name`: one more, unless memory was missing
abbrev pub asks : {T : Type 0} → Result T HostError → Told → List ℕ → List (List ℕ)
asks (Err Memory) told name = told.asked
asks (Err Failed) told name = told.asked ++ name ∷ []
asks (Ok x) told name = told.asked ++ name ∷ []

-- a load leaves the files, and an answer without an error is that of the file of this name
abbrev pub LoadTold : Option Told → Option Told → List ℕ → ℕ → List ℕ → Result Loaded HostError → Type 0
LoadTold None new name limit into result = new ≡ None
LoadTold (Some told) new name limit into result =
    (new ≡ Some (record { files = told.files; asked = asks result told name }))
    × IfOk result (λ loaded. option_map (λ bytes. loads bytes limit) (get told.files name) ≡ Some (loaded, into))

-- the files after a store: this name has these bytes, unless there was an error
abbrev pub stored : {T : Type 0} → Result T HostError → Files → List ℕ → List ℕ → Files
stored (Ok x) files name bytes = insert files name bytes
stored (Err e) files name bytes = files

abbrev pub StoreTold : {T : Type 0} → Option Told → Option Told → List ℕ → List ℕ → Result T HostError → Type 0
StoreTold None new name bytes result = new ≡ None
StoreTold (Some told) new name bytes result =
    new ≡ Some (record { files = stored result told.files name bytes; asked = asks result told name })
