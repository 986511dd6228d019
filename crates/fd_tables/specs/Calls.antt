-- What the calls of `Files` answer.
use Rattle.std.specs.Prelude.{◌≡◌, ℕ, ◌==◌, Bool, false, not, nat_lt, [], ◌∷◌, Option, Some, None, is_some, Result, Ok, Err, ⊤}
use Rattle.byte_words.specs.Search.{first}
use Rattle.call_log.specs.declared.errno.Errno as log
use Rattle.call_log.specs.declared.errno.Errno.TheVariants.{Ebadf, Einval, Emfile}
use Rattle.fd_tables.specs.declared.view.View.{View}
use Rattle.fd_tables.specs.declared.view.Way.{Way}
use Rattle.fd_tables.specs.declared.pipe_view.Ends.{Ends}
use Rattle.fd_tables.specs.declared.fault.FdFault.{FdFault}
use Rattle.fd_tables.specs.declared.fault.FdFault.TheVariants.{Errno, Memory}
use Rattle.fd_tables.specs.Files.{most_descriptors, OpenFiles}
use Rattle.fd_tables.specs.Changes.{Storage, opened, piped, duplicated}

-- `view`: EBADF where the descriptor isn't open
abbrev pub view_or_errno : Option View → Result View log.Errno
view_or_errno (Some v) = Ok v
view_or_errno None = Err Ebadf

-- `open`: EMFILE where no descriptor is free
abbrev pub Opens : Option ℕ → Storage → ℕ → ℕ → Way → Storage → Result ℕ FdFault → Type 0
Opens (Some free) old t node way new (Ok fd) = (fd ≡ free) × (new ≡ opened old t free node way)
Opens (Some free) old t node way new (Err (Errno errno)) = ⊥
Opens (Some free) old t node way new (Err Memory) = new ≡ old
Opens None old t node way new (Ok fd) = ⊥
Opens None old t node way new (Err (Errno errno)) = (errno ≡ Emfile) × (new ≡ old)
Opens None old t node way new (Err Memory) = new ≡ old

-- `pipe`: EMFILE where fewer than two descriptors are free
abbrev pub Pipes : Option Ends → OpenFiles → ℕ → (cloexec : Bool) → OpenFiles → Result Ends FdFault → Type 0
Pipes (Some free) old t cloexec new (Ok ends) = (ends ≡ free) × (new ≡ piped old t free cloexec)
Pipes (Some free) old t cloexec new (Err (Errno errno)) = ⊥
Pipes (Some free) old t cloexec new (Err Memory) = new ≡ old
Pipes None old t cloexec new (Ok ends) = ⊥
Pipes None old t cloexec new (Err (Errno errno)) = (errno ≡ Emfile) × (new ≡ old)
Pipes None old t cloexec new (Err Memory) = new ≡ old

-- without free descriptors the answer is EMFILE, and not that memory is out
abbrev pub IsFull : {A B : Type 0} → Option A → Result B FdFault → Type 0
IsFull (Some free) result = ⊤
IsFull None result = result ≡ Err (Errno Emfile)

-- a fault for another cause than memory, or none
abbrev pub IsNotMemory : Result ℕ FdFault → Type 0
IsNotMemory (Ok fd) = ⊤
IsNotMemory (Err (Errno errno)) = ⊤
IsNotMemory (Err Memory) = ⊥

-- `dup`: EBADF where the descriptor isn't open, and then EMFILE where none is free
abbrev pub dup_number : Option View → Option ℕ → Result ℕ log.Errno
dup_number None free = Err Ebadf
dup_number (Some v) None = Err Emfile
dup_number (Some v) (Some free) = Ok free

abbrev pub Duplicates : Result ℕ log.Errno → OpenFiles → ℕ → ℕ → OpenFiles → Result ℕ log.Errno → Type 0
Duplicates (Ok free) old t fd new (Ok number) = (number ≡ free) × (new ≡ duplicated old t fd free false)
Duplicates (Ok free) old t fd new (Err errno) = ⊥
Duplicates (Err fault) old t fd new (Ok number) = ⊥
Duplicates (Err fault) old t fd new (Err errno) = (errno ≡ fault) × (new ≡ old)

-- `dup3`: the first that holds
abbrev pub dup3_fault : Option View → (old new : ℕ) → Option log.Errno
dup3_fault v old new = first ((old == new, Einval) ∷ (not (is_some v), Ebadf) ∷ (not (nat_lt new most_descriptors), Ebadf) ∷ [])

-- a call that is refused for one cause
abbrev pub Does : Option log.Errno → (old now new : Storage) → Result ⊤ log.Errno → Type 0
Does None old now new (Ok done) = new ≡ now
Does None old now new (Err errno) = ⊥
Does (Some fault) old now new (Ok done) = ⊥
Does (Some fault) old now new (Err errno) = (errno ≡ fault) × (new ≡ old)

abbrev pub close_fault : Option View → Option log.Errno
close_fault (Some v) = None
close_fault None = Some Ebadf

-- `next_changed`: the lowest pipe that is marked, whose mark goes
abbrev pub Unmarks : OpenFiles → OpenFiles → Option ℕ → Type 0
Unmarks old new None = (old.changed ≡ []) × (new ≡ old)
Unmarks old new (Some id) = (old.changed ≡ id ∷ new.changed) × (new ≡ record old { changed = new.changed })
