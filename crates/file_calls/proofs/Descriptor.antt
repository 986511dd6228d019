-- The rows of dup, dup3 and close.
use Rattle.std.proofs.Common.{◌≡◌, ℕ, ◌==◌, true, false, ◌||◌, [], Option, Some, None, Result, Ok, Err, refl}
use Rattle.std.specs.Prelude.{⊤}
use Rattle.call_log.specs.declared.errno.Errno as log
use Rattle.call_log.specs.declared.errno.Errno.TheVariants.{Einval}
use Rattle.fd_tables.specs.Files.{OpenFiles}
use Rattle.fd_tables.specs.Changes.{Storage, duplicated, replaced, closed}
use Rattle.fd_tables.specs.Calls.{dup_number, Duplicates, dup3_fault, close_fault, Does}
use Rattle.machine_world.specs.Asks.{Ask, arg, gives, refuses, unless, with_ok, view_of, free_of, with_files, storage_of, with_storage}
use Rattle.machine_world.specs.Descriptors.{dup_row, dup3_row, close_row}
use Rattle.file_calls.specs.Answers.{Answers}
use Rattle.file_calls.proofs.Faults.{faulted, done}

duplicates : (a : Ask) (new : OpenFiles) (n : Result ℕ log.Errno) (r : Result ℕ log.Errno) →
    Duplicates n a.rest.files a.process.table (arg a 0) new r →
    Answers a (with_ok a n (λ free. gives a free [] (with_files a.rest (duplicated a.rest.files a.process.table (arg a 0) free false)))) (with_files a.rest new) (faulted r)
duplicates a new (Ok free) (Ok number) h = rw (h.0, h.1) refl
duplicates a new (Ok free) (Err errno) h = absurd h
duplicates a new (Err fault) (Ok number) h = absurd h
duplicates a new (Err fault) (Err errno) h = (rw h.0 refl, rw h.1 refl)

pub dup_says : (a : Ask) (new : OpenFiles) (r : Result ℕ log.Errno) →
    Duplicates (dup_number (view_of a (arg a 0)) (free_of a)) a.rest.files a.process.table (arg a 0) new r → Answers a (dup_row a) (with_files a.rest new) (faulted r)
unfolding dup_row
dup_says a new r h = duplicates a new (dup_number (view_of a (arg a 0)) (free_of a)) r h

does : (a : Ask) (fault : Option log.Errno) (value : ℕ) (now new : Storage) (r : Result ⊤ log.Errno) →
    Does fault (storage_of a.rest) now new r → Answers a (unless a fault (gives a value [] (with_storage a.rest now))) (with_storage a.rest new) (done value r)
does a None value now new (Ok d) h = rw h refl
does a None value now new (Err errno) h = absurd h
does a (Some fault) value now new (Ok d) h = absurd h
does a (Some fault) value now new (Err errno) h = (rw h.0 refl, rw h.1 refl)

pub close_says : (a : Ask) (new : Storage) (r : Result ⊤ log.Errno) →
    Does (close_fault (view_of a (arg a 0))) (storage_of a.rest) (closed (storage_of a.rest) a.process.table (arg a 0)) new r → Answers a (close_row a) (with_storage a.rest new) (done 0 r)
unfolding close_row
close_says a new r h = does a (close_fault (view_of a (arg a 0))) 0 (closed (storage_of a.rest) a.process.table (arg a 0)) new r h

pub dup3_flags : (a : Ask) → (arg a 2 == 0 || arg a 2 == 524288) ≡ false → dup3_row a ≡ refuses a Einval
unfolding dup3_row
dup3_flags a bad = rw bad refl

pub dup3_says : (a : Ask) (new : Storage) (r : Result ⊤ log.Errno) → (arg a 2 == 0 || arg a 2 == 524288) ≡ true →
    Does (dup3_fault (view_of a (arg a 0)) (arg a 0) (arg a 1)) (storage_of a.rest) (replaced (storage_of a.rest) a.process.table (arg a 0) (arg a 1) (arg a 2 == 524288)) new r →
    Answers a (dup3_row a) (with_storage a.rest new) (done (arg a 1) r)
unfolding dup3_row
dup3_says a new r fine h =
    rw fine (does a (dup3_fault (view_of a (arg a 0)) (arg a 0) (arg a 1)) (arg a 1) (replaced (storage_of a.rest) a.process.table (arg a 0) (arg a 1) (arg a 2 == 524288)) new r h)
