-- What the calls that change files or descriptors answer, each for itself.
use Rattle.std.specs.Prelude.{◌≡◌, ℕ, ◌==◌, ◌≤◌, not, List, [], take_while, Option, Some, None, IsSome, Result, Ok, Err, ⊤}
use Rattle.std.specs.Borrow.{Bor}
use Rattle.call_log.specs.declared.errno.Errno as log
use Rattle.call_log.specs.declared.errno.Errno.TheVariants.{Emfile}
use Rattle.mem_files.specs.declared.fault.FileFault.{FileFault}
use Rattle.mem_files.specs.declared.fault.FileFault.TheVariants.{Errno, Memory}
use Rattle.machine_world.specs.World.{Rest}
use Rattle.machine_world.specs.Asks.{Ask, Row, gives, refuses}

-- a row of the call, and what is left then: a refusal changes nothing, and neither does a call that is out of memory
abbrev pub Answers : Ask → Row → Rest → Result ℕ FileFault → Type 0
Answers a row rest (Ok value) = row ≡ gives a value [] rest
Answers a row rest (Err (Errno errno)) = (row ≡ refuses a errno) × (rest ≡ a.rest)
Answers a row rest (Err Memory) = rest ≡ a.rest

-- the path of what was sent, before its zero
abbrev pub sent_path : List ℕ → List ℕ
sent_path sent = take_while (λ b. not (b == 0)) sent

-- a path, or why it isn't walked
abbrev pub IsPathOr : Option log.Errno → List ℕ → Result (Bor (List ℕ)) log.Errno → Type 0
IsPathOr None path (Ok given) = given.now ≡ path
IsPathOr None path (Err errno) = ⊥
IsPathOr (Some fault) path (Ok given) = ⊥
IsPathOr (Some fault) path (Err errno) = errno ≡ fault

abbrev pub fault_or_ok : Option log.Errno → Result ⊤ log.Errno
fault_or_ok None = Ok tt
fault_or_ok (Some fault) = Err fault

-- a descriptor is free, and there is memory to open it; EMFILE where none is
abbrev pub HasFree : Option ℕ → ℕ → Result ⊤ FileFault → Type 0
HasFree free spare (Ok done) = IsSome free × (1 ≤ spare)
HasFree free spare (Err (Errno errno)) = (free ≡ None) × (errno ≡ Emfile)
HasFree free spare (Err Memory) = ⊤
