-- What opens and closes leaves a tree of names, and as many tables as before.
use Rattle.std.proofs.Common.{◌≡◌, ℕ, ◌+◌, ◌≤◌, Bool, true, false, List, [], ◌∷◌, length, Option, Some, None, refl, ap, ◌∙◌, arith}
use Rattle.std.specs.Prelude.{nat_le}
use Rattle.mem_files.specs.Trees.{IsTree}
use Rattle.mem_files.proofs.Alike.{tree-held, tree-let_go}
use Rattle.fd_tables.specs.declared.view.Way.{Way}
use Rattle.fd_tables.specs.declared.open_file.OpenFile.{OpenFile}
use Rattle.fd_tables.specs.declared.open_file.Object.{Object}
use Rattle.fd_tables.specs.declared.open_file.Object.TheVariants.{File, PipeEnd}
use Rattle.fd_tables.specs.declared.open_file.Handle.{Handle}
use Rattle.fd_tables.specs.declared.open_file.Handle.TheVariants.{Input, Output, Open}
use Rattle.fd_tables.specs.declared.open_file.Descriptor.{Descriptor}
use Rattle.fd_tables.specs.Files.{Table, OpenFiles, at_number, with_next, table_at, descriptor}
use Rattle.fd_tables.specs.Changes.{Storage, with_descriptor, with_file, let_go, with_end, piped, dropped, dropped_file, closed, closed_descriptor, opened, shared, copied_descriptor, with_cloexec, duplicated, replaced, moved, moved_handle, taken, all_shared, copied_table, with_copy, all_closed, all_descriptors, exec_closed, without_table}
use Rattle.fd_tables.proofs.Items.{length-item}
use Rattle.fd_tables.specs.declared.pipe_view.Ends.{Ends}
use Rattle.fd_tables.specs.Pipes.{with_pipe, pipe_taken, pipe_put}
use Rattle.fd_tables.proofs.TablesThere.{tables-shared}
use Rattle.fd_tables.proofs.EndCounts.{tables-without_end}
use Rattle.machine_world.proofs.OtherTables.{tables-pipe_taken, tables-pipe_put}
use Rattle.machine_world.proofs.FreeNumbers.{length-one_more}

-- a tree of names, and so many tables
pub record Steady (n : ℕ) (s : Storage) : Type 0 where
  pub tree : IsTree s.nodes
  pub tables : length s.files.tables ≡ n

-- ---- files alone

tables-handle : (fs : OpenFiles) (at : ℕ) (h : Handle) (cloexec : Bool) → (moved_handle fs at (Some (record { handle = h; cloexec = cloexec }))).tables ≡ fs.tables
tables-handle fs at (Open n) cloexec = refl
tables-handle fs at Input cloexec = refl
tables-handle fs at Output cloexec = refl

tables-moved_handle : (fs : OpenFiles) (at : ℕ) (o : Option Descriptor) → (moved_handle fs at o).tables ≡ fs.tables
tables-moved_handle fs at None = refl
tables-moved_handle fs at (Some d) = tables-handle fs at d.handle d.cloexec

pub length-moved : (fs : OpenFiles) (t fd at : ℕ) → length (moved fs t fd at).tables ≡ length fs.tables
unfolding moved
length-moved fs t fd at = ap length (tables-moved_handle fs at (descriptor fs t fd))

pub length-taken : (fs : OpenFiles) (n : ℕ) → length (taken fs n).tables ≡ length fs.tables
unfolding taken
length-taken fs n = refl

length-copied : (fs : OpenFiles) (t fd : ℕ) (o : Option Descriptor) → length (copied_descriptor fs t fd o).tables ≡ length fs.tables
length-copied fs t fd None = refl
length-copied fs t fd (Some d) = ap length (tables-shared (with_descriptor fs t fd (Some d)) d.handle) ∙ length-item _ fs.tables t

pub length-duplicated : (fs : OpenFiles) (t old new : ℕ) (cloexec : Bool) → length (duplicated fs t old new cloexec).tables ≡ length fs.tables
unfolding duplicated
length-duplicated fs t old new cloexec = length-copied fs t new (with_cloexec cloexec (descriptor fs t old))

pub length-piped : (fs : OpenFiles) (t : ℕ) (ends : Ends) (cloexec : Bool) → length (piped fs t ends cloexec).tables ≡ length fs.tables
unfolding piped
length-piped fs t ends cloexec =
    length-item _ (with_end (with_pipe fs) t ends.read fs.next_pipe false cloexec).tables t ∙ length-item _ fs.tables t

pub length-pipe_taken : (fs : OpenFiles) (id n : ℕ) → length (pipe_taken fs id n).tables ≡ length fs.tables
length-pipe_taken fs id n = ap length (tables-pipe_taken fs id n)

pub length-pipe_put : (fs : OpenFiles) (id : ℕ) (bytes : List ℕ) → length (pipe_put fs id bytes).tables ≡ length fs.tables
length-pipe_put fs id bytes = ap length (tables-pipe_put fs id bytes)

tables-all_shared : (ds : List (Option Descriptor)) (fs : OpenFiles) → (all_shared fs ds).tables ≡ fs.tables
tables-all_shared [] fs = refl
tables-all_shared (Some d ∷ ds) fs = tables-all_shared ds (shared fs d.handle) ∙ tables-shared fs d.handle
tables-all_shared (None ∷ ds) fs = tables-all_shared ds fs

copied_length : (fs : OpenFiles) (o : Option Table) → length (copied_table fs o).tables ≤ length fs.tables + 1
copied_length fs None = omega arith
copied_length fs (Some table) =
    let same : length (copied_table fs (Some table)).tables ≡ length (with_next table fs.tables) =
    ap length (tables-all_shared table (record fs { tables = with_next table fs.tables })) in
    omega (arith, same, length-one_more table fs.tables)

-- a copy is one table more at most
pub length-with_copy : (fs : OpenFiles) (t : ℕ) → length (with_copy fs t).tables ≤ length fs.tables + 1
unfolding with_copy
length-with_copy fs t = copied_length fs (table_at fs t)

-- ---- files and nodes

module _ (n : ℕ) where
  steady-object : (s : Storage) (f : OpenFile) (o : Object) → Steady n s → Steady n (let_go s f o)
  steady-object s f (File node) h = record { tree = tree-let_go s.nodes node h.tree; tables = h.tables }
  steady-object s f (PipeEnd id) h = record { tree = h.tree; tables = ap length (tables-without_end s.files id f.write) ∙ h.tables }

  steady-last : (s : Storage) (k : ℕ) (f : OpenFile) (b : Bool) → nat_le f.uses 1 ≡ b → Steady n s → Steady n (dropped_file s k (Some f))
  steady-last s k f true e h = rw e (steady-object (record s { files = with_file (λ f. None) s.files k }) f f.object (record { tree = h.tree; tables = h.tables }))
  steady-last s k f false e h = rw e (record { tree = h.tree; tables = h.tables })

  steady-dropped_file : (s : Storage) (k : ℕ) (o : Option OpenFile) → Steady n s → Steady n (dropped_file s k o)
  steady-dropped_file s k None h = h
  steady-dropped_file s k (Some f) h = steady-last s k f _ refl h

  steady-dropped : (s : Storage) (d : Handle) → Steady n s → Steady n (dropped s d)
  steady-dropped s (Open k) h = steady-dropped_file s k (at_number s.files.files k) h
  steady-dropped s Input h = h
  steady-dropped s Output h = h

  steady-closed_descriptor : (s : Storage) (t fd : ℕ) (o : Option Descriptor) → Steady n s → Steady n (closed_descriptor s t fd o)
  steady-closed_descriptor s t fd None h = h
  steady-closed_descriptor s t fd (Some d) h =
      steady-dropped (record s { files = with_descriptor s.files t fd None }) d.handle (record { tree = h.tree; tables = length-item _ s.files.tables t ∙ h.tables })

  pub steady-closed : (s : Storage) (t fd : ℕ) → Steady n s → Steady n (closed s t fd)
  unfolding closed
  steady-closed s t fd h = steady-closed_descriptor s t fd (descriptor s.files t fd) h

  pub steady-opened : (s : Storage) (t fd node : ℕ) (way : Way) → Steady n s → Steady n (opened s t fd node way)
  unfolding opened
  steady-opened s t fd node way h = record { tree = tree-held s.nodes node h.tree; tables = length-item _ s.files.tables t ∙ h.tables }

  pub steady-replaced : (s : Storage) (t old new : ℕ) (cloexec : Bool) → Steady n s → Steady n (replaced s t old new cloexec)
  unfolding replaced
  steady-replaced s t old new cloexec h =
      let now = steady-closed s t new h in
      record { tree = now.tree; tables = length-duplicated (closed s t new).files t old new cloexec ∙ now.tables }

  steady-test : (test : Descriptor → Bool) (s : Storage) (t fd : ℕ) (d : Descriptor) (b : Bool) → descriptor s.files t fd ≡ Some d → test d ≡ b → Steady n s → Steady n (all_closed test s t (fd ∷ []))
  steady-test test s t fd d true e f h = rw (e, f) (steady-closed s t fd h)
  steady-test test s t fd d false e f h = rw (e, f) h

  steady-descriptor : (test : Descriptor → Bool) (s : Storage) (t fd : ℕ) (o : Option Descriptor) → descriptor s.files t fd ≡ o → Steady n s → Steady n (all_closed test s t (fd ∷ []))
  steady-descriptor test s t fd None e h = rw e h
  steady-descriptor test s t fd (Some d) e h = steady-test test s t fd d _ e refl h

  steady-all_closed : (test : Descriptor → Bool) (t : ℕ) (fds : List ℕ) (s : Storage) → Steady n s → Steady n (all_closed test s t fds)
  steady-all_closed test t [] s h = h
  steady-all_closed test t (fd ∷ fds) s h = steady-all_closed test t fds _ (steady-descriptor test s t fd _ refl h)

  pub steady-without_table : (s : Storage) (t : ℕ) → Steady n s → Steady n (without_table s t)
  unfolding without_table
  steady-without_table s t h =
      let now = steady-all_closed (λ d. true) t all_descriptors s h in
      record { tree = now.tree; tables = length-item (λ table. None) (all_closed (λ d. true) s t all_descriptors).files.tables t ∙ now.tables }

  pub steady-exec_closed : (s : Storage) (t : ℕ) → Steady n s → Steady n (exec_closed s t)
  unfolding exec_closed
  steady-exec_closed s t h = steady-all_closed (λ d. d.cloexec) t all_descriptors s h
