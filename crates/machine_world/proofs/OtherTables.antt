-- The tables of descriptors beside one that changes: what they have stays, and so does which of them are there.
use Rattle.std.proofs.Common.{◌≡◌, ◌≢◌, ℕ, zero, suc, Bool, true, false, cond, List, [], ◌∷◌, ◌++◌, length, drop, Option, Some, None, refl, ap, ◌∙◌}
use Rattle.std.specs.Prelude.{◌==◌, IsSome, nat_le, slice_get}
use Rattle.fd_tables.specs.declared.view.Way.{Way}
use Rattle.fd_tables.specs.declared.open_file.OpenFile.{OpenFile}
use Rattle.fd_tables.specs.declared.open_file.Handle.{Handle}
use Rattle.fd_tables.specs.declared.open_file.Handle.TheVariants.{Input, Output, Open}
use Rattle.fd_tables.specs.declared.open_file.Descriptor.{Descriptor}
use Rattle.fd_tables.specs.Files.{Table, Pipe, OpenFiles, at_number, table_at, descriptor}
use Rattle.fd_tables.specs.Changes.{Storage, with_item, with_descriptor, with_file, shared, dropped, dropped_file, closed, closed_descriptor, opened, copied_descriptor, with_cloexec, duplicated, replaced, moved, moved_handle, taken, all_closed, all_descriptors, copied_table, with_copy, exec_closed, without_table, with_open_file, pipe_end, with_end, piped}
use Rattle.fd_tables.specs.declared.pipe_view.Ends.{Ends}
use Rattle.fd_tables.specs.Pipes.{pipe_at, with_pipe, with_changed, pipe_taken, pipe_put}
use Rattle.fd_tables.proofs.EndCounts.{tables-let_go}
use Rattle.fd_tables.proofs.TablesThere.{copy_keeps_tables}
use Rattle.machine_world.specs.World.{Rest}
use Rattle.machine_world.specs.Asks.{Ask}
use Rattle.machine_world.specs.Descriptors.{table_of}
use Rattle.machine_world.proofs.EachChange.{EachChange}

-- ---- one item of a list

module _ {A : Type 0} (f : A → Option A) where
  behind_head : (y : Option A) (xs : List (Option A)) (i : ℕ) (o : Option (Option A)) → slice_get xs i ≡ o → with_item f (y ∷ xs) (suc i) ≡ y ∷ with_item f xs i
  behind_head y xs i (Some (Some x)) e = rw e refl
  behind_head y xs i (Some None) e = rw e refl
  behind_head y xs i None e = rw e refl

  other_item : (xs : List (Option A)) (i k : ℕ) → k ≢ i → at_number (with_item f xs i) k ≡ at_number xs k
  other_item [] i k other = refl
  other_item (y ∷ xs) zero zero other = absurd (other refl)
  other_item (Some y ∷ xs) zero (suc k) other = refl
  other_item (None ∷ xs) zero (suc k) other = refl
  other_item (y ∷ xs) (suc i) zero other = ap (λ zs. at_number zs zero) (behind_head y xs i _ refl)
  other_item (y ∷ xs) (suc i) (suc k) other = ap (λ zs. at_number zs (suc k)) (behind_head y xs i _ refl) ∙ other_item xs i k (λ e. other (ap suc e))

-- ---- counts and positions touch no table

tables-shared : (fs : OpenFiles) (h : Handle) → (shared fs h).tables ≡ fs.tables
tables-shared fs (Open n) = refl
tables-shared fs Input = refl
tables-shared fs Output = refl

tables-last : (s : Storage) (n : ℕ) (f : OpenFile) (b : Bool) → nat_le f.uses 1 ≡ b → (dropped_file s n (Some f)).files.tables ≡ s.files.tables
tables-last s n f true e = rw e (tables-let_go (record s { files = with_file (λ f. None) s.files n }) f f.object)
tables-last s n f false e = rw e refl

tables-dropped_file : (s : Storage) (n : ℕ) (o : Option OpenFile) → (dropped_file s n o).files.tables ≡ s.files.tables
tables-dropped_file s n None = refl
tables-dropped_file s n (Some f) = tables-last s n f _ refl

tables-dropped : (s : Storage) (h : Handle) → (dropped s h).files.tables ≡ s.files.tables
tables-dropped s (Open n) = tables-dropped_file s n (at_number s.files.files n)
tables-dropped s Input = refl
tables-dropped s Output = refl

tables-handle : (fs : OpenFiles) (at : ℕ) (h : Handle) (cloexec : Bool) → (moved_handle fs at (Some (record { handle = h; cloexec = cloexec }))).tables ≡ fs.tables
tables-handle fs at (Open n) cloexec = refl
tables-handle fs at Input cloexec = refl
tables-handle fs at Output cloexec = refl

tables-moved_handle : (fs : OpenFiles) (at : ℕ) (o : Option Descriptor) → (moved_handle fs at o).tables ≡ fs.tables
tables-moved_handle fs at None = refl
tables-moved_handle fs at (Some d) = tables-handle fs at d.handle d.cloexec

pub tables-with_changed : (f : Pipe → Option Pipe) (fs : OpenFiles) (id : ℕ) (o : Option Pipe) → (with_changed f fs id o).tables ≡ fs.tables
tables-with_changed f fs id (Some p) = refl
tables-with_changed f fs id None = refl

tables-unless : (b : Bool) (fs now : OpenFiles) → now.tables ≡ fs.tables → (cond b fs now).tables ≡ fs.tables
tables-unless true fs now same = refl
tables-unless false fs now same = same

pub tables-pipe_taken : (fs : OpenFiles) (id n : ℕ) → (pipe_taken fs id n).tables ≡ fs.tables
unfolding pipe_taken
tables-pipe_taken fs id n = tables-unless (n == 0) fs _ (tables-with_changed (λ p. Some (record p { bytes = drop n p.bytes })) fs id (pipe_at fs id))

pub tables-pipe_put : (fs : OpenFiles) (id : ℕ) (bytes : List ℕ) → (pipe_put fs id bytes).tables ≡ fs.tables
unfolding pipe_put
tables-pipe_put fs id bytes = tables-unless (length bytes == 0) fs _ (tables-with_changed (λ p. Some (record p { bytes = p.bytes ++ bytes })) fs id (pipe_at fs id))

-- ---- the changes of one table

module _ (t other : ℕ) (beside : other ≢ t) where
  other-with_descriptor : (fs : OpenFiles) (fd : ℕ) (d : Option Descriptor) → table_at (with_descriptor fs t fd d) other ≡ table_at fs other
  other-with_descriptor fs fd d = other_item _ fs.tables t other beside

  other-closed_descriptor : (s : Storage) (fd : ℕ) (o : Option Descriptor) → table_at (closed_descriptor s t fd o).files other ≡ table_at s.files other
  other-closed_descriptor s fd None = refl
  other-closed_descriptor s fd (Some d) =
      ap (λ (ts : List (Option Table)). at_number ts other) (tables-dropped (record s { files = with_descriptor s.files t fd None }) d.handle)
      ∙ other-with_descriptor s.files fd None

  other-closed : (s : Storage) (fd : ℕ) → table_at (closed s t fd).files other ≡ table_at s.files other
  unfolding closed
  other-closed s fd = other-closed_descriptor s fd (descriptor s.files t fd)

  other-opened : (s : Storage) (fd node : ℕ) (way : Way) → table_at (opened s t fd node way).files other ≡ table_at s.files other
  unfolding opened
  other-opened s fd node way = other_item _ s.files.tables t other beside

  other-copied_descriptor : (fs : OpenFiles) (fd : ℕ) (o : Option Descriptor) → table_at (copied_descriptor fs t fd o) other ≡ table_at fs other
  other-copied_descriptor fs fd None = refl
  other-copied_descriptor fs fd (Some d) =
      ap (λ (ts : List (Option Table)). at_number ts other) (tables-shared (with_descriptor fs t fd (Some d)) d.handle)
      ∙ other-with_descriptor fs fd (Some d)

  other-duplicated : (fs : OpenFiles) (old new : ℕ) (cloexec : Bool) → table_at (duplicated fs t old new cloexec) other ≡ table_at fs other
  unfolding duplicated
  other-duplicated fs old new cloexec = other-copied_descriptor fs new (with_cloexec cloexec (descriptor fs t old))

  other-replaced : (s : Storage) (old new : ℕ) (cloexec : Bool) → table_at (replaced s t old new cloexec).files other ≡ table_at s.files other
  unfolding replaced
  other-replaced s old new cloexec = other-duplicated (closed s t new).files old new cloexec ∙ other-closed s new

  other-moved : (fs : OpenFiles) (fd at : ℕ) → table_at (moved fs t fd at) other ≡ table_at fs other
  unfolding moved
  other-moved fs fd at = ap (λ (ts : List (Option Table)). at_number ts other) (tables-moved_handle fs at (descriptor fs t fd))

  other-taken : (fs : OpenFiles) (n : ℕ) → table_at (taken fs n) other ≡ table_at fs other
  unfolding taken
  other-taken fs n = refl

  other-piped : (fs : OpenFiles) (ends : Ends) (cloexec : Bool) → table_at (piped fs t ends cloexec) other ≡ table_at fs other
  unfolding piped
  other-piped fs ends cloexec =
      other-with_descriptor (with_open_file (with_end (with_pipe fs) t ends.read fs.next_pipe false cloexec) (pipe_end fs.next_pipe true)) ends.write _
      ∙ other-with_descriptor (with_open_file (with_pipe fs) (pipe_end fs.next_pipe false)) ends.read _

  other-test : (test : Descriptor → Bool) (s : Storage) (fd : ℕ) (d : Descriptor) (b : Bool) → descriptor s.files t fd ≡ Some d → test d ≡ b
      → table_at (all_closed test s t (fd ∷ [])).files other ≡ table_at s.files other
  other-test test s fd d true e f = rw (e, f) (other-closed s fd)
  other-test test s fd d false e f = rw (e, f) refl

  other-descriptor : (test : Descriptor → Bool) (s : Storage) (fd : ℕ) (o : Option Descriptor) → descriptor s.files t fd ≡ o
      → table_at (all_closed test s t (fd ∷ [])).files other ≡ table_at s.files other
  other-descriptor test s fd None e = rw e refl
  other-descriptor test s fd (Some d) e = other-test test s fd d _ e refl

  other-all_closed : (test : Descriptor → Bool) (fds : List ℕ) (s : Storage) → table_at (all_closed test s t fds).files other ≡ table_at s.files other
  other-all_closed test [] s = refl
  other-all_closed test (fd ∷ fds) s = other-all_closed test fds _ ∙ other-descriptor test s fd _ refl

  pub other-without_table : (s : Storage) → table_at (without_table s t).files other ≡ table_at s.files other
  unfolding without_table
  other-without_table s =
      other_item (λ table. None) (all_closed (λ d. true) s t all_descriptors).files.tables t other beside ∙ other-all_closed (λ d. true) all_descriptors s

  pub other-exec_closed : (s : Storage) → table_at (exec_closed s t).files other ≡ table_at s.files other
  unfolding exec_closed
  other-exec_closed s = other-all_closed (λ d. d.cloexec) all_descriptors s

-- ---- a copy takes a number that is free

module _ (fs : OpenFiles) (t other : ℕ) where
  copy_keeps : (table : Table) → table_at fs other ≡ Some table → (o : Option Table) → table_at fs t ≡ o → table_at (with_copy fs t) other ≡ Some table
  unfolding with_copy
  copy_keeps table there None is = ap (λ (o : Option Table). table_at (copied_table fs o) other) is ∙ there
  copy_keeps table there (Some copied) is = copy_keeps_tables other fs t copied table is there

  copy_leaves : (o : Option Table) → table_at fs other ≡ o → IsSome o → table_at (with_copy fs t) other ≡ o
  copy_leaves (Some table) there some = copy_keeps table there (table_at fs t) refl
  copy_leaves None there some = let no : ⊥ = cc in absurd no

  pub other-with_copy : IsSome (table_at fs other) → table_at (with_copy fs t) other ≡ table_at fs other
  other-with_copy some = copy_leaves (table_at fs other) refl some

-- ---- all rows

-- each table but one is as in these open files
abbrev pub OthersAsIn : ℕ → OpenFiles → Rest → Type 0
OthersAsIn t old now = (other : ℕ) → other ≢ t → table_at now.files other ≡ table_at old other

pub other_tables : (a : Ask) → EachChange (OthersAsIn (table_of a) a.rest.files) a
other_tables a =
    let t : ℕ = table_of a in
    let files : OpenFiles = a.rest.files in
    record {
      dup = λ free is other beside. other-duplicated t other beside files _ _ _;
      dup3 = λ is other beside. other-replaced t other beside _ _ _ _;
      close = λ is other beside. other-closed t other beside _ _;
      seek = λ v node at shows is other beside. other-moved t other beside files _ at;
      list = λ v node shows is other beside. other-moved t other beside files _ _;
      read = λ v node spans shows reads is other beside. other-moved t other beside files _ _;
      take = λ v spans shows reads other beside. other-taken t other beside files _;
      write = λ v node bytes nodes shows writes some is other beside. other-moved t other beside files _ _;
      print = λ v bytes shows writes other beside. refl;
      pipe = λ ends free other beside. other-piped t other beside files ends _;
      drain = λ v id end spans shows reads other beside. ap (λ (ts : List (Option Table)). at_number ts other) (tables-pipe_taken files id _);
      fill = λ v id end bytes shows writes other beside. ap (λ (ts : List (Option Table)). at_number ts other) (tables-pipe_put files id _);
      make = λ nodes is other beside. refl;
      remove = λ nodes is other beside. refl;
      open_old = λ fd node free is none other beside. other-opened t other beside _ fd node _;
      open_new = λ fd nodes free is may made other beside. other-opened t other beside _ fd _ _;
    }
