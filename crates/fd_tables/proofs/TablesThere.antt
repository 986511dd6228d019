-- Which tables are there: none comes or goes but by the calls that say so.
use Rattle.std.proofs.Common.{◌≡◌, ◌≢◌, ℕ, Bool, true, false, cond, List, [], ◌∷◌, ◌++◌, length, drop, Option, Some, None, Result, Ok, Err, refl, ap, ◌∙◌}
use Rattle.std.specs.Prelude.{⊤, ◌==◌, is_some, nat_le, slice_set}
use Rattle.call_log.specs.declared.errno.Errno as log
use Rattle.fd_tables.specs.declared.view.Way.{Way}
use Rattle.fd_tables.specs.declared.pipe_view.Ends.{Ends}
use Rattle.fd_tables.specs.declared.fault.FdFault.{FdFault}
use Rattle.fd_tables.specs.declared.fault.FdFault.TheVariants.{Errno, Memory}
use Rattle.fd_tables.specs.declared.open_file.OpenFile.{OpenFile}
use Rattle.fd_tables.specs.declared.open_file.Handle.{Handle}
use Rattle.fd_tables.specs.declared.open_file.Handle.TheVariants.{Input, Output, Open}
use Rattle.fd_tables.specs.declared.open_file.Descriptor.{Descriptor}
use Rattle.fd_tables.specs.Files.{Table, OpenFiles, at_number, free_number, with_next, table_at, descriptor}
use Rattle.fd_tables.specs.Pipes.{pipe_at, pipe_taken, pipe_put}
use Rattle.fd_tables.specs.Changes.{Storage, with_descriptor, with_file, shared, dropped, dropped_file, closed, closed_descriptor, opened, copied_descriptor, with_cloexec, piped, duplicated, replaced, moved, moved_handle, taken, first_table, with_table, all_shared, with_copy, all_closed, all_descriptors, exec_closed, without_table}
use Rattle.fd_tables.specs.Calls.{Opens, Duplicates, Does}
use Rattle.fd_tables.proofs.AtNumbers.{item_there, item_other, gone_there, others_there}
use Rattle.fd_tables.proofs.NextNumbers.{next_there, next_keeps}
use Rattle.fd_tables.proofs.Items.{length-item}
use Rattle.fd_tables.proofs.EndCounts.{untouched, tables-let_go}

abbrev pub has_table : OpenFiles → ℕ → Bool
has_table fs t = is_some (table_at fs t)

-- the tables stay where an open file is shared or let go
pub tables-shared : (fs : OpenFiles) (h : Handle) → (shared fs h).tables ≡ fs.tables
tables-shared fs (Open n) = refl
tables-shared fs Input = refl
tables-shared fs Output = refl

by_last : (s : Storage) (n : ℕ) (f : OpenFile) (b : Bool) → nat_le f.uses 1 ≡ b → (dropped_file s n (Some f)).files.tables ≡ s.files.tables
by_last s n f true e = rw e (tables-let_go (record s { files = with_file (λ f. None) s.files n }) f f.object)
by_last s n f false e = rw e refl

tables-dropped_file : (s : Storage) (n : ℕ) (o : Option OpenFile) → (dropped_file s n o).files.tables ≡ s.files.tables
tables-dropped_file s n None = refl
tables-dropped_file s n (Some f) = by_last s n f _ refl

pub tables-dropped : (s : Storage) (h : Handle) → (dropped s h).files.tables ≡ s.files.tables
tables-dropped s (Open n) = tables-dropped_file s n (at_number s.files.files n)
tables-dropped s Input = refl
tables-dropped s Output = refl

-- and where bytes of a pipe come or go
tables-unless : (fs new : OpenFiles) (b : Bool) → new.tables ≡ fs.tables → (cond b fs new).tables ≡ fs.tables
tables-unless fs new true same = refl
tables-unless fs new false same = same

pub tables-pipe_taken : (fs : OpenFiles) (id n : ℕ) → (pipe_taken fs id n).tables ≡ fs.tables
unfolding pipe_taken
tables-pipe_taken fs id n = tables-unless fs _ (n == 0) (untouched (λ p. Some (record p { bytes = drop n p.bytes })) fs id (pipe_at fs id)).1

pub tables-pipe_put : (fs : OpenFiles) (id : ℕ) (bytes : List ℕ) → (pipe_put fs id bytes).tables ≡ fs.tables
unfolding pipe_put
tables-pipe_put fs id bytes = tables-unless fs _ (length bytes == 0) (untouched (λ p. Some (record p { bytes = p.bytes ++ bytes })) fs id (pipe_at fs id)).1

-- a pipe changes one table, and leaves as many
pub other-piped : (fs : OpenFiles) (t other : ℕ) (ends : Ends) (cloexec : Bool) → other ≢ t → table_at (piped fs t ends cloexec) other ≡ table_at fs other
unfolding piped
other-piped fs t other ends cloexec beside =
    item_other _ _ t other beside ∙ item_other _ fs.tables t other beside

pub length-piped : (fs : OpenFiles) (t : ℕ) (ends : Ends) (cloexec : Bool) → length (piped fs t ends cloexec).tables ≡ length fs.tables
unfolding piped
length-piped fs t ends cloexec = length-item _ _ t ∙ length-item _ fs.tables t

module _ (t : ℕ) where
  pub has-with_descriptor : (fs : OpenFiles) (u fd : ℕ) (d : Option Descriptor) → has_table (with_descriptor fs u fd d) t ≡ has_table fs t
  has-with_descriptor fs u fd d = item_there (λ table. slice_set table fd d) fs.tables u t

  has-closed_descriptor : (s : Storage) (u fd : ℕ) (o : Option Descriptor) → has_table (closed_descriptor s u fd o).files t ≡ has_table s.files t
  has-closed_descriptor s u fd None = refl
  has-closed_descriptor s u fd (Some d) = ap (λ (ts : List (Option Table)). is_some (at_number ts t)) (tables-dropped (record s { files = with_descriptor s.files u fd None }) d.handle) ∙ has-with_descriptor s.files u fd None

  pub has-closed : (s : Storage) (u fd : ℕ) → has_table (closed s u fd).files t ≡ has_table s.files t
  unfolding closed
  has-closed s u fd = has-closed_descriptor s u fd (descriptor s.files u fd)

  pub has-opened : (s : Storage) (u fd node : ℕ) (way : Way) → has_table (opened s u fd node way).files t ≡ has_table s.files t
  unfolding opened
  has-opened s u fd node way = item_there (λ table. slice_set table fd _) s.files.tables u t

  pub has-piped : (fs : OpenFiles) (u : ℕ) (ends : Ends) (cloexec : Bool) → has_table (piped fs u ends cloexec) t ≡ has_table fs t
  unfolding piped
  has-piped fs u ends cloexec = item_there (λ table. slice_set table ends.write _) _ u t ∙ item_there (λ table. slice_set table ends.read _) fs.tables u t

  pub has-Opens : (free : Option ℕ) (old : Storage) (u node : ℕ) (way : Way) (new : Storage) (r : Result ℕ FdFault) → Opens free old u node way new r → has_table new.files t ≡ has_table old.files t
  has-Opens (Some free) old u node way new (Ok fd) done = rw done.1 (has-opened old u free node way)
  has-Opens (Some free) old u node way new (Err (Errno errno)) done = absurd done
  has-Opens (Some free) old u node way new (Err Memory) done = rw done refl
  has-Opens None old u node way new (Ok fd) done = absurd done
  has-Opens None old u node way new (Err (Errno errno)) done = rw done.1 refl
  has-Opens None old u node way new (Err Memory) done = rw done refl

  has-copied_descriptor : (fs : OpenFiles) (u fd : ℕ) (o : Option Descriptor) → has_table (copied_descriptor fs u fd o) t ≡ has_table fs t
  has-copied_descriptor fs u fd None = refl
  has-copied_descriptor fs u fd (Some d) = ap (λ (ts : List (Option Table)). is_some (at_number ts t)) (tables-shared (with_descriptor fs u fd (Some d)) d.handle) ∙ has-with_descriptor fs u fd (Some d)

  pub has-duplicated : (fs : OpenFiles) (u old new : ℕ) (cloexec : Bool) → has_table (duplicated fs u old new cloexec) t ≡ has_table fs t
  unfolding duplicated
  has-duplicated fs u old new cloexec = has-copied_descriptor fs u new (with_cloexec cloexec (descriptor fs u old))

  pub has-replaced : (s : Storage) (u old new : ℕ) (cloexec : Bool) → has_table (replaced s u old new cloexec).files t ≡ has_table s.files t
  unfolding replaced
  has-replaced s u old new cloexec = has-duplicated (closed s u new).files u old new cloexec ∙ has-closed s u new

  -- the same of the calls that may be refused
  pub has-Duplicates : (wanted : Result ℕ log.Errno) (old : OpenFiles) (u fd : ℕ) (new : OpenFiles) (r : Result ℕ log.Errno) → Duplicates wanted old u fd new r → has_table new t ≡ has_table old t
  has-Duplicates (Ok free) old u fd new (Ok number) done = rw done.1 (has-duplicated old u fd free false)
  has-Duplicates (Ok free) old u fd new (Err errno) done = absurd done
  has-Duplicates (Err fault) old u fd new (Ok number) done = absurd done
  has-Duplicates (Err fault) old u fd new (Err errno) done = rw done.1 refl

  pub has-Does : (fault : Option log.Errno) (old now new : Storage) (r : Result ⊤ log.Errno) → Does fault old now new r → has_table now.files t ≡ has_table old.files t → has_table new.files t ≡ has_table old.files t
  has-Does None old now new (Ok d) done same = rw done same
  has-Does None old now new (Err errno) done same = absurd done
  has-Does (Some fault) old now new (Ok d) done same = absurd done
  has-Does (Some fault) old now new (Err errno) done same = rw done.1 refl

  by_handle : (fs : OpenFiles) (at : ℕ) (h : Handle) (cloexec : Bool) → has_table (moved_handle fs at (Some (record { handle = h; cloexec = cloexec }))) t ≡ has_table fs t
  by_handle fs at (Open n) cloexec = refl
  by_handle fs at Input cloexec = refl
  by_handle fs at Output cloexec = refl

  has-moved_handle : (fs : OpenFiles) (at : ℕ) (o : Option Descriptor) → has_table (moved_handle fs at o) t ≡ has_table fs t
  has-moved_handle fs at None = refl
  has-moved_handle fs at (Some d) = by_handle fs at d.handle d.cloexec

  pub has-moved : (fs : OpenFiles) (u fd at : ℕ) → has_table (moved fs u fd at) t ≡ has_table fs t
  unfolding moved
  has-moved fs u fd at = has-moved_handle fs at (descriptor fs u fd)

  pub has-taken : (fs : OpenFiles) (n : ℕ) → has_table (taken fs n) t ≡ has_table fs t
  unfolding taken
  has-taken fs n = refl

  by_test : (test : Descriptor → Bool) (s : Storage) (u fd : ℕ) (d : Descriptor) (b : Bool) → descriptor s.files u fd ≡ Some d → test d ≡ b → has_table (all_closed test s u (fd ∷ [])).files t ≡ has_table s.files t
  by_test test s u fd d true e f = rw (e, f) (has-closed s u fd)
  by_test test s u fd d false e f = rw (e, f) refl

  by_descriptor : (test : Descriptor → Bool) (s : Storage) (u fd : ℕ) (o : Option Descriptor) → descriptor s.files u fd ≡ o → has_table (all_closed test s u (fd ∷ [])).files t ≡ has_table s.files t
  by_descriptor test s u fd None e = rw e refl
  by_descriptor test s u fd (Some d) e = by_test test s u fd d _ e refl

  has-all_closed : (test : Descriptor → Bool) (u : ℕ) (fds : List ℕ) (s : Storage) → has_table (all_closed test s u fds).files t ≡ has_table s.files t
  has-all_closed test u [] s = refl
  has-all_closed test u (fd ∷ fds) s = has-all_closed test u fds _ ∙ by_descriptor test s u fd _ refl

  pub has-exec_closed : (s : Storage) (u : ℕ) → has_table (exec_closed s u).files t ≡ has_table s.files t
  unfolding exec_closed
  has-exec_closed s u = has-all_closed (λ d. d.cloexec) u all_descriptors s

  -- a table that goes isn't there, and all others stay
  pub dropped_table_is_gone : (s : Storage) → table_at (without_table s t).files t ≡ None
  unfolding without_table
  dropped_table_is_gone s = gone_there (all_closed (λ d. true) s t all_descriptors).files.tables t

  pub has-without_table : (s : Storage) (u : ℕ) → t ≢ u → has_table (without_table s u).files t ≡ has_table s.files t
  unfolding without_table
  has-without_table s u other = ap (λ (o : Option Table). is_some o) (others_there (all_closed (λ d. true) s u all_descriptors).files.tables u t other) ∙ has-all_closed (λ d. true) u all_descriptors s

  -- a new table and a copy leave those that are there
  pub table_keeps_tables : (fs : OpenFiles) (table : Table) → table_at fs t ≡ Some table → table_at (with_table fs) t ≡ Some table
  unfolding with_table
  table_keeps_tables fs table there = next_keeps first_table table fs.tables t there

tables-all_shared : (ds : List (Option Descriptor)) (fs : OpenFiles) → (all_shared fs ds).tables ≡ fs.tables
tables-all_shared [] fs = refl
tables-all_shared (Some d ∷ ds) fs = tables-all_shared ds (shared fs d.handle) ∙ tables-shared fs d.handle
tables-all_shared (None ∷ ds) fs = tables-all_shared ds fs

tables-with_copy : (fs : OpenFiles) (u : ℕ) (table : Table) → table_at fs u ≡ Some table → (with_copy fs u).tables ≡ with_next table fs.tables
unfolding with_copy
tables-with_copy fs u table there = rw there (tables-all_shared table (record fs { tables = with_next table fs.tables }))

pub copy_keeps_tables : (t : ℕ) (fs : OpenFiles) (u : ℕ) (copied table : Table) → table_at fs u ≡ Some copied → table_at fs t ≡ Some table → table_at (with_copy fs u) t ≡ Some table
copy_keeps_tables t fs u copied table from there = ap (λ (ts : List (Option Table)). at_number ts t) (tables-with_copy fs u copied from) ∙ next_keeps copied table fs.tables t there

-- they stand at the number that is answered
pub new_table_there : (fs : OpenFiles) → table_at (with_table fs) (free_number fs.tables) ≡ Some first_table
unfolding with_table
new_table_there fs = next_there first_table fs.tables

pub copy_there : (fs : OpenFiles) (u : ℕ) (table : Table) → table_at fs u ≡ Some table → table_at (with_copy fs u) (free_number fs.tables) ≡ Some table
copy_there fs u table from = ap (λ (ts : List (Option Table)). at_number ts (free_number fs.tables)) (tables-with_copy fs u table from) ∙ next_there table fs.tables

pub has-new_table : (fs new : OpenFiles) (t : ℕ) → t ≡ free_number fs.tables → new ≡ with_table fs → has_table new t ≡ true
has-new_table fs new t number is = rw (number, is, new_table_there fs) refl

pub has-copy : (fs new : OpenFiles) (u t : ℕ) (table : Table) → table_at fs u ≡ Some table → t ≡ free_number fs.tables → new ≡ with_copy fs u → has_table new t ≡ true
has-copy fs new u t table from number is = rw (number, is, copy_there fs u table from) refl
