-- What each change of open files leaves of what the descriptors of other tables show of pipes.
use Rattle.std.proofs.Common.{◌≡◌, ◌≢◌, ℕ, ◌-◌, ◌≤◌, Bool, true, false, cond, List, [], ◌∷◌, ◌++◌, length, drop, Option, Some, None, refl, sym, ap, subst, ◌∙◌, ◌⊎◌, inl, inr, arith}
use Rattle.std.specs.Prelude.{◌||◌, ◌&&◌, ◌==◌, not, IsSome, nat_le, slice_set}
use Rattle.std.proofs.lemmas.Bool.{cases_eq}
use Rattle.vfork_exec.proofs.Keyed.{eqb_is, find_later}
use Rattle.mem_files.specs.Inodes.{raised}
use Rattle.fd_tables.specs.declared.view.Way.{Way}
use Rattle.fd_tables.specs.declared.pipe_view.Ends.{Ends}
use Rattle.fd_tables.specs.declared.pipe_view.PipeView.{PipeView}
use Rattle.fd_tables.specs.declared.open_file.OpenFile.{OpenFile}
use Rattle.fd_tables.specs.declared.open_file.Object.{Object}
use Rattle.fd_tables.specs.declared.open_file.Object.TheVariants.{File, PipeEnd}
use Rattle.fd_tables.specs.declared.open_file.Handle.{Handle}
use Rattle.fd_tables.specs.declared.open_file.Handle.TheVariants.{Input, Output, Open}
use Rattle.fd_tables.specs.declared.open_file.Descriptor.{Descriptor}
use Rattle.fd_tables.specs.Files.{Table, Pipe, OpenFiles, at_number, table_at, with_next, descriptor_in, descriptor}
use Rattle.fd_tables.specs.Pipes.{pipe_id, pipe_at, shown_pipe, pipe_view, is_marked, with_changed, with_pipe, pipe_taken, pipe_put}
use Rattle.fd_tables.specs.Changes.{Storage, storage, with_item, with_descriptor, with_file, shared, let_go, dropped, dropped_file, closed, closed_descriptor, new_file, with_open_file, opened, pipe_end, with_end, piped, copied_descriptor, with_cloexec, duplicated, replaced, moved, moved_handle, taken, first_table, with_table, all_shared, copied_table, with_copy, all_closed, all_descriptors, exec_closed, without_table}
use Rattle.fd_tables.specs.Counts.{uses_in, stands_for, leads_to, Counted}
use Rattle.fd_tables.specs.CountLaws.{same_flag, shows_same, MarksExactly}
use Rattle.fd_tables.proofs.AtNumbers.{made, item_at, item_other}
use Rattle.fd_tables.proofs.NextNumbers.{next_keeps}
use Rattle.fd_tables.proofs.TablesThere.{tables-dropped}
use Rattle.fd_tables.proofs.EndCounts.{files-let_go, next-without_end}
use Rattle.fd_tables.proofs.Sharing.{one, descriptor_counts}
use Rattle.fd_tables.proofs.Uses.{itself}
use Rattle.fd_tables.proofs.Counting.{counted-closed}
use Rattle.fd_tables.proofs.MarksExact.{marks-closed, marks-pipe_taken, marks-pipe_put}
use Rattle.machine_world.specs.Order.{AreCounted}
use Rattle.machine_world.proofs.Counted.{closed-files, exec_closed-files, without_table-files}
use Rattle.waits_laws.proofs.Shown.{Shows, shows_itself, shows_then, StaysAs, FilesStay, stays_itself, stays_as, still_shown, Quiet, quiet_shows}

-- ---- open files

module _ (Goes : Type 0) (g : OpenFile → Option OpenFile) (each : (f : OpenFile) → StaysAs Goes (Some f) (g f)) where
  made_stays : (o : Option OpenFile) → StaysAs Goes o (made g o)
  made_stays None = tt
  made_stays (Some f) = each f

  item_stays : (xs : List (Option OpenFile)) (k : ℕ) → FilesStay Goes xs (with_item g xs k)
  item_stays xs k n = by (cases_eq n k)
    where
      by : (n ≡ k) ⊎ (n ≡ k → ⊥) → StaysAs Goes (at_number xs n) (at_number (with_item g xs k) n)
      by (inl e) = subst (λ (j : ℕ). StaysAs Goes (at_number xs j) (at_number (with_item g xs k) j)) (sym e) (subst (StaysAs Goes (at_number xs k)) (sym (item_at g xs k)) (made_stays (at_number xs k)))
      by (inr other) = stays_as Goes (at_number xs n) (at_number (with_item g xs k) n) (item_other g xs k n other)

next_stays : (f : OpenFile) (xs : List (Option OpenFile)) → FilesStay ⊥ xs (with_next f xs)
next_stays f xs n = by (at_number xs n) refl
  where
    by : (o : Option OpenFile) → at_number xs n ≡ o → StaysAs ⊥ o (at_number (with_next f xs) n)
    by None is = tt
    by (Some g) is = stays_as ⊥ (Some g) (at_number (with_next f xs) n) (next_keeps f g xs n is)

-- ---- changes at which none goes

abbrev quiet_files : (t : ℕ) (fs : OpenFiles) (files : List (Option OpenFile)) → FilesStay ⊥ fs.files files → Quiet t fs (record fs { files = files })
quiet_files t fs files stays = record {
  tables = λ other beside there. refl;
  files = stays;
  pipes = refl;
  changed = refl;
  next = refl;
}

quiet_itself : (t : ℕ) (fs : OpenFiles) → Quiet t fs fs
quiet_itself t fs = record { tables = λ other beside there. refl; files = λ n. stays_itself ⊥ (at_number fs.files n); pipes = refl; changed = refl; next = refl }

module _ (t : ℕ) where
  shows-with_descriptor : (fs : OpenFiles) (fd : ℕ) (d : Option Descriptor) → Shows t fs (with_descriptor fs t fd d)
  shows-with_descriptor fs fd d = quiet_shows t fs (with_descriptor fs t fd d) (record {
    tables = λ other beside there. item_other (λ table. Some (slice_set table fd d)) fs.tables t other beside;
    files = λ n. stays_itself ⊥ (at_number fs.files n);
    pipes = refl;
    changed = refl;
    next = refl;
  })

  shows-shared : (fs : OpenFiles) (h : Handle) → Shows t fs (shared fs h)
  shows-shared fs (Open n) = quiet_shows t fs (shared fs (Open n)) (quiet_files t fs _ (item_stays ⊥ (λ f. Some (record f { uses = raised f.uses })) (λ f. record { object = refl; read = refl; write = refl; append = refl }) fs.files n))
  shows-shared fs Input = shows_itself t fs
  shows-shared fs Output = shows_itself t fs

  shows-with_open_file : (fs : OpenFiles) (f : OpenFile) → Shows t fs (with_open_file fs f)
  shows-with_open_file fs f = quiet_shows t fs (with_open_file fs f) (quiet_files t fs (with_next f fs.files) (next_stays f fs.files))

  pub shows-opened : (s : Storage) (fd node : ℕ) (way : Way) → Shows t s.files (opened s t fd node way).files
  unfolding opened
  shows-opened s fd node way =
      shows_then t s.files (with_open_file s.files (new_file node way)) (opened s t fd node way).files
      (shows-with_open_file s.files (new_file node way)) (shows-with_descriptor (with_open_file s.files (new_file node way)) fd _)

  shows-with_end : (fs : OpenFiles) (fd id : ℕ) (write cloexec : Bool) → Shows t fs (with_end fs t fd id write cloexec)
  shows-with_end fs fd id write cloexec =
      shows_then t fs (with_open_file fs (pipe_end id write)) (with_end fs t fd id write cloexec)
      (shows-with_open_file fs (pipe_end id write)) (shows-with_descriptor (with_open_file fs (pipe_end id write)) fd _)

  shows-with_pipe : (fs : OpenFiles) → Shows t fs (with_pipe fs)
  unfolding pipe_view
  shows-with_pipe fs = record {
    tables = λ other beside there. refl;
    views = λ other fd v id write beside is leads. still_shown ⊥ fs (with_pipe fs) (λ n. stays_itself ⊥ (at_number fs.files n)) other fd v id write leads refl (λ d n of handle none goes. goes) is;
    marks = λ id unmarked. unmarked;
    pipes = λ id given unmarked. ap shown_pipe (find_later pipe_id id _ fs.pipes (λ e. absurd (omega arith)));
    next = omega arith;
  }

  pub shows-piped : (fs : OpenFiles) (ends : Ends) (cloexec : Bool) → Shows t fs (piped fs t ends cloexec)
  unfolding piped
  shows-piped fs ends cloexec =
      let one : OpenFiles = with_end (with_pipe fs) t ends.read fs.next_pipe false cloexec in
      shows_then t fs one (with_end one t ends.write fs.next_pipe true cloexec)
      (shows_then t fs (with_pipe fs) one (shows-with_pipe fs) (shows-with_end (with_pipe fs) ends.read fs.next_pipe false cloexec))
      (shows-with_end one ends.write fs.next_pipe true cloexec)

  shows-copied_descriptor : (fs : OpenFiles) (fd : ℕ) (o : Option Descriptor) → Shows t fs (copied_descriptor fs t fd o)
  shows-copied_descriptor fs fd None = shows_itself t fs
  shows-copied_descriptor fs fd (Some d) =
      shows_then t fs (with_descriptor fs t fd (Some d)) (shared (with_descriptor fs t fd (Some d)) d.handle)
      (shows-with_descriptor fs fd (Some d)) (shows-shared (with_descriptor fs t fd (Some d)) d.handle)

  pub shows-duplicated : (fs : OpenFiles) (old new : ℕ) (cloexec : Bool) → Shows t fs (duplicated fs t old new cloexec)
  unfolding duplicated
  shows-duplicated fs old new cloexec = shows-copied_descriptor fs new (with_cloexec cloexec (descriptor fs t old))

  shows-handle : (fs : OpenFiles) (at : ℕ) (h : Handle) (cloexec : Bool) → Shows t fs (moved_handle fs at (Some (record { handle = h; cloexec = cloexec })))
  shows-handle fs at (Open n) cloexec =
      quiet_shows t fs (with_file (λ f. Some (record f { at = at })) fs n)
      (quiet_files t fs _ (item_stays ⊥ (λ f. Some (record f { at = at })) (λ f. record { object = refl; read = refl; write = refl; append = refl }) fs.files n))
  shows-handle fs at Input cloexec = shows_itself t fs
  shows-handle fs at Output cloexec = shows_itself t fs

  shows-moved_handle : (fs : OpenFiles) (at : ℕ) (o : Option Descriptor) → Shows t fs (moved_handle fs at o)
  shows-moved_handle fs at None = shows_itself t fs
  shows-moved_handle fs at (Some d) = shows-handle fs at d.handle d.cloexec

  pub shows-moved : (fs : OpenFiles) (fd at : ℕ) → Shows t fs (moved fs t fd at)
  unfolding moved
  shows-moved fs fd at = shows-moved_handle fs at (descriptor fs t fd)

  pub shows-taken : (fs : OpenFiles) (n : ℕ) → Shows t fs (taken fs n)
  unfolding taken
  shows-taken fs n = quiet_shows t fs (record fs { stdin = drop n fs.stdin }) (record {
    tables = λ other beside there. refl;
    files = λ k. stays_itself ⊥ (at_number fs.files k);
    pipes = refl;
    changed = refl;
    next = refl;
  })

  -- ---- tables

  shows-with_next : (fs : OpenFiles) (table : Table) → Shows t fs (record fs { tables = with_next table fs.tables })
  shows-with_next fs table = quiet_shows t fs (record fs { tables = with_next table fs.tables }) (record {
    tables = λ other beside there. by other (table_at fs other) refl there;
    files = λ n. stays_itself ⊥ (at_number fs.files n);
    pipes = refl;
    changed = refl;
    next = refl;
  })
    where
      by : (other : ℕ) (o : Option Table) → table_at fs other ≡ o → IsSome o → at_number (with_next table fs.tables) other ≡ table_at fs other
      by other (Some old) is there = next_keeps table old fs.tables other is ∙ sym is
      by other None is there = absurd cc

  pub shows-with_table : (fs : OpenFiles) → Shows t fs (with_table fs)
  unfolding with_table
  shows-with_table fs = shows-with_next fs first_table

  shows-all_shared : (ds : List (Option Descriptor)) (fs : OpenFiles) → Shows t fs (all_shared fs ds)
  shows-all_shared [] fs = shows_itself t fs
  shows-all_shared (Some d ∷ ds) fs = shows_then t fs (shared fs d.handle) (all_shared (shared fs d.handle) ds) (shows-shared fs d.handle) (shows-all_shared ds (shared fs d.handle))
  shows-all_shared (None ∷ ds) fs = shows-all_shared ds fs

  shows-copied_table : (fs : OpenFiles) (o : Option Table) → Shows t fs (copied_table fs o)
  shows-copied_table fs None = shows_itself t fs
  shows-copied_table fs (Some table) =
      let more : OpenFiles = record fs { tables = with_next table fs.tables } in
      shows_then t fs more (all_shared more table) (shows-with_next fs table) (shows-all_shared table more)

  pub shows-with_copy : (fs : OpenFiles) (u : ℕ) → Shows t fs (with_copy fs u)
  unfolding with_copy
  shows-with_copy fs u = shows-copied_table fs (table_at fs u)

-- ---- where a pipe that shows something else is marked

and_left : (x y : Bool) → (x && y) ≡ true → x ≡ true
and_left true y is = refl
and_left false y is = is

and_right : (x y : Bool) → (x && y) ≡ true → y ≡ true
and_right true y is = is
and_right false y is = absurd cc

or_left : (x y : Bool) → (x || y) ≡ false → x ≡ false
or_left true y is = is
or_left false y is = refl

or_right : (x y : Bool) → (x || y) ≡ false → y ≡ false
or_right true y is = absurd cc
or_right false y is = is

not_false : (x : Bool) → not x ≡ false → x ≡ true
not_false true is = refl
not_false false is = absurd cc

flags : (x y : Bool) → same_flag x y ≡ true → y ≡ x
flags true true is = refl
flags true false is = absurd cc
flags false true is = absurd cc
flags false false is = refl

shown_same : (a b : PipeView) → shows_same a b ≡ true → b ≡ a
shown_same a b is =
    let heads : Bool = a.held == b.held && same_flag a.read_open b.read_open in
    let first : heads ≡ true = and_left heads (same_flag a.write_open b.write_open) is in
    let held : b.held ≡ a.held = sym (eqb_is a.held b.held (and_left (a.held == b.held) (same_flag a.read_open b.read_open) first)) in
    let read : b.read_open ≡ a.read_open = flags a.read_open b.read_open (and_right (a.held == b.held) (same_flag a.read_open b.read_open) first) in
    let write : b.write_open ≡ a.write_open = flags a.write_open b.write_open (and_right heads (same_flag a.write_open b.write_open) is) in
    λ j. record { held = held j; read_open = read j; write_open = write j }

module _ (t : ℕ) (old new : OpenFiles) (exact : MarksExactly old new) where
  pub marks_exactly : (id : ℕ) → is_marked id new ≡ false → is_marked id old ≡ false
  marks_exactly id unmarked = or_left (is_marked id old) (not (shows_same (pipe_view old id) (pipe_view new id))) (sym (exact id) ∙ unmarked)

  pub pipes_exactly : (id : ℕ) → is_marked id new ≡ false → pipe_view new id ≡ pipe_view old id
  pipes_exactly id unmarked =
      shown_same (pipe_view old id) (pipe_view new id)
      (not_false (shows_same (pipe_view old id) (pipe_view new id)) (or_right (is_marked id old) (not (shows_same (pipe_view old id) (pipe_view new id))) (sym (exact id) ∙ unmarked)))

-- ---- bytes of a pipe

files-with_changed : (f : Pipe → Option Pipe) (fs : OpenFiles) (id : ℕ) (o : Option Pipe) →
    ((with_changed f fs id o).files ≡ fs.files) × ((with_changed f fs id o).tables ≡ fs.tables) × ((with_changed f fs id o).next_pipe ≡ fs.next_pipe)
files-with_changed f fs id None = (refl, refl, refl)
files-with_changed f fs id (Some p) = (refl, refl, refl)

-- where the marks are exact, and neither files nor tables change
shows_marked : (t : ℕ) (old new : OpenFiles) → MarksExactly old new → new.files ≡ old.files → new.tables ≡ old.tables → new.next_pipe ≡ old.next_pipe → Shows t old new
shows_marked t old new exact files tables next = record {
  tables = λ other beside there. ap (λ (ts : List (Option Table)). at_number ts other) tables;
  views = λ other fd v id write beside is leads.
      still_shown ⊥ old new (λ n. stays_as ⊥ (at_number old.files n) (at_number new.files n) (ap (λ (fs : List (Option OpenFile)). at_number fs n) files)) other fd v id write leads
      (ap (λ (ts : List (Option Table)). at_number ts other) tables) (λ d n of handle none goes. goes) is;
  marks = marks_exactly t old new exact;
  pipes = λ id given. pipes_exactly t old new exact id;
  next = omega arith;
}

untouched_if : (b : Bool) (fs new : OpenFiles) → ((new.files ≡ fs.files) × (new.tables ≡ fs.tables) × (new.next_pipe ≡ fs.next_pipe)) →
    ((cond b fs new).files ≡ fs.files) × ((cond b fs new).tables ≡ fs.tables) × ((cond b fs new).next_pipe ≡ fs.next_pipe)
untouched_if true fs new same = (refl, refl, refl)
untouched_if false fs new same = same

untouched_taken : (fs : OpenFiles) (id n : ℕ) → ((pipe_taken fs id n).files ≡ fs.files) × ((pipe_taken fs id n).tables ≡ fs.tables) × ((pipe_taken fs id n).next_pipe ≡ fs.next_pipe)
unfolding pipe_taken
untouched_taken fs id n = untouched_if (n == 0) fs _ (files-with_changed (λ p. Some (record p { bytes = drop n p.bytes })) fs id (pipe_at fs id))

pub shows-pipe_taken : (t : ℕ) (fs : OpenFiles) (id n : ℕ) → n ≤ (pipe_view fs id).held → Shows t fs (pipe_taken fs id n)
shows-pipe_taken t fs id n few = let same = untouched_taken fs id n in shows_marked t fs (pipe_taken fs id n) (marks-pipe_taken fs id n few) same.0 same.1 same.2

untouched_put : (fs : OpenFiles) (id : ℕ) (bytes : List ℕ) → ((pipe_put fs id bytes).files ≡ fs.files) × ((pipe_put fs id bytes).tables ≡ fs.tables) × ((pipe_put fs id bytes).next_pipe ≡ fs.next_pipe)
unfolding pipe_put
untouched_put fs id bytes = untouched_if (length bytes == 0) fs _ (files-with_changed (λ p. Some (record p { bytes = p.bytes ++ bytes })) fs id (pipe_at fs id))

pub shows-pipe_put : (t : ℕ) (fs : OpenFiles) (id : ℕ) (bytes : List ℕ) → Shows t fs (pipe_put fs id bytes)
shows-pipe_put t fs id bytes = let same = untouched_put fs id bytes in shows_marked t fs (pipe_put fs id bytes) (marks-pipe_put fs id bytes) same.0 same.1 same.2

-- ---- a descriptor closes

next-let_go : (s : Storage) (f : OpenFile) (o : Object) → (let_go s f o).files.next_pipe ≡ s.files.next_pipe
next-let_go s f (File node) = refl
next-let_go s f (PipeEnd id) = next-without_end s.files id f.write

gone_last : (s : Storage) (n : ℕ) (f : OpenFile) (b : Bool) → nat_le f.uses 1 ≡ b →
    FilesStay (Unit {0}) s.files.files (dropped_file s n (Some f)).files.files × ((dropped_file s n (Some f)).files.next_pipe ≡ s.files.next_pipe)
gone_last s n f true e =
    let now : Storage = record s { files = with_file (λ f. None) s.files n } in
    rw e (
      subst (FilesStay (Unit {0}) s.files.files) (sym (files-let_go now f f.object)) (item_stays (Unit {0}) (λ f. None) (λ f. tt) s.files.files n),
      next-let_go now f f.object,
    )
gone_last s n f false e =
    rw e (item_stays (Unit {0}) (λ f. Some (record f { uses = f.uses - 1 })) (λ f. record { object = refl; read = refl; write = refl; append = refl }) s.files.files n, refl)

gone_file : (s : Storage) (n : ℕ) (o : Option OpenFile) → FilesStay (Unit {0}) s.files.files (dropped_file s n o).files.files × ((dropped_file s n o).files.next_pipe ≡ s.files.next_pipe)
gone_file s n None = (λ k. stays_itself (Unit {0}) (at_number s.files.files k), refl)
gone_file s n (Some f) = gone_last s n f _ refl

gone_handle : (s : Storage) (h : Handle) → FilesStay (Unit {0}) s.files.files (dropped s h).files.files × ((dropped s h).files.next_pipe ≡ s.files.next_pipe)
gone_handle s Input = (λ k. stays_itself (Unit {0}) (at_number s.files.files k), refl)
gone_handle s Output = (λ k. stays_itself (Unit {0}) (at_number s.files.files k), refl)
gone_handle s (Open n) = gone_file s n (at_number s.files.files n)

gone_descriptor : (s : Storage) (t fd : ℕ) (o : Option Descriptor) →
    FilesStay (Unit {0}) s.files.files (closed_descriptor s t fd o).files.files × ((closed_descriptor s t fd o).files.next_pipe ≡ s.files.next_pipe)
gone_descriptor s t fd None = (λ k. stays_itself (Unit {0}) (at_number s.files.files k), refl)
gone_descriptor s t fd (Some d) = gone_handle (record s { files = with_descriptor s.files t fd None }) d.handle

tables_descriptor : (s : Storage) (t fd : ℕ) (o : Option Descriptor) (other : ℕ) → other ≢ t → table_at (closed_descriptor s t fd o).files other ≡ table_at s.files other
tables_descriptor s t fd None other beside = refl
tables_descriptor s t fd (Some d) other beside =
    ap (λ (ts : List (Option Table)). at_number ts other) (tables-dropped (record s { files = with_descriptor s.files t fd None }) d.handle)
    ∙ item_other (λ table. Some (slice_set table fd None)) s.files.tables t other beside

-- what another descriptor shares doesn't go
shared_stays : (s : Storage) (other fd : ℕ) (d : Descriptor) (n : ℕ) → Counted s → descriptor s.files other fd ≡ Some d → d.handle ≡ Open n → at_number s.files.files n ≡ None → ⊥
shared_stays s other fd d n counts is leads none =
    let stands : one (stands_for n (descriptor s.files other fd)) ≡ 1 = ap (λ o. one (stands_for n o)) is ∙ ap (λ h. one (leads_to n h)) leads ∙ itself n in
    let gone : uses_in (at_number s.files.files n) ≡ 0 = ap uses_in none in
    omega (arith, counts.uses n, descriptor_counts s.files other fd n, stands, gone)

module _ (t : ℕ) where
  tables_of : (s : Storage) (fd other : ℕ) → other ≢ t → table_at (closed s t fd).files other ≡ table_at s.files other
  unfolding closed
  tables_of s fd other beside = tables_descriptor s t fd (descriptor s.files t fd) other beside

  gone_of : (s : Storage) (fd : ℕ) → FilesStay (Unit {0}) s.files.files (closed s t fd).files.files × ((closed s t fd).files.next_pipe ≡ s.files.next_pipe)
  unfolding closed
  gone_of s fd = gone_descriptor s t fd (descriptor s.files t fd)

  shows-one_closed : (s : Storage) (fd : ℕ) → Counted s → Shows t s.files (closed s t fd).files
  shows-one_closed s fd counts =
      let now : Storage = closed s t fd in
      let tables : (other : ℕ) → other ≢ t → table_at now.files other ≡ table_at s.files other = tables_of s fd in
      let files : FilesStay (Unit {0}) s.files.files now.files.files = (gone_of s fd).0 in
      let next : now.files.next_pipe ≡ s.files.next_pipe = (gone_of s fd).1 in
      record {
        tables = λ other beside there. tables other beside;
        views = λ other k v id write beside is leads.
            still_shown (Unit {0}) s.files now.files files other k v id write leads (tables other beside)
            (λ d n of handle none goes. shared_stays now other k d n (counted-closed s t fd counts) (ap (λ o. descriptor_in o k) (tables other beside) ∙ of) handle none) is;
        marks = marks_exactly t s.files now.files (marks-closed s t fd counts);
        pipes = λ id given. pipes_exactly t s.files now.files (marks-closed s t fd counts) id;
        next = omega arith;
      }

  -- it shows so whatever the nodes
  pub shows-closed : (s : Storage) (fd : ℕ) → AreCounted s.files → Shows t s.files (closed s t fd).files
  shows-closed s fd c = subst (Shows t s.files) (closed-files c.nodes s.nodes s.files t fd) (shows-one_closed (storage c.nodes s.files) fd c.counts)

  pub shows-replaced : (s : Storage) (old new : ℕ) (cloexec : Bool) → AreCounted s.files → Shows t s.files (replaced s t old new cloexec).files
  unfolding replaced
  shows-replaced s old new cloexec counts =
      shows_then t s.files (closed s t new).files (duplicated (closed s t new).files t old new cloexec)
      (shows-closed s new counts) (shows-duplicated t (closed s t new).files old new cloexec)

  -- ---- many close

  module _ (test : Descriptor → Bool) where
    counts_by : (s : Storage) (fd : ℕ) (d : Descriptor) (b : Bool) → descriptor s.files t fd ≡ Some d → test d ≡ b → Counted s → Shows t s.files (all_closed test s t (fd ∷ [])).files × Counted (all_closed test s t (fd ∷ []))
    counts_by s fd d true e f counts = rw (e, f) (shows-one_closed s fd counts, counted-closed s t fd counts)
    counts_by s fd d false e f counts = rw (e, f) (shows_itself t s.files, counts)

    one_closed : (s : Storage) (fd : ℕ) (o : Option Descriptor) → descriptor s.files t fd ≡ o → Counted s → Shows t s.files (all_closed test s t (fd ∷ [])).files × Counted (all_closed test s t (fd ∷ []))
    one_closed s fd None e counts = rw e (shows_itself t s.files, counts)
    one_closed s fd (Some d) e counts = counts_by s fd d _ e refl counts

    shows-all_closed : (fds : List ℕ) (s : Storage) → Counted s → Shows t s.files (all_closed test s t fds).files
    shows-all_closed [] s counts = shows_itself t s.files
    shows-all_closed (fd ∷ fds) s counts =
        let first = one_closed s fd _ refl counts in
        shows_then t s.files (all_closed test s t (fd ∷ [])).files (all_closed test s t (fd ∷ fds)).files first.0 (shows-all_closed fds (all_closed test s t (fd ∷ [])) first.1)

  shows-exec : (s : Storage) → Counted s → Shows t s.files (exec_closed s t).files
  unfolding exec_closed
  shows-exec s counts = shows-all_closed (λ d. d.cloexec) all_descriptors s counts

  pub shows-exec_closed : (s : Storage) → AreCounted s.files → Shows t s.files (exec_closed s t).files
  shows-exec_closed s c = subst (Shows t s.files) (exec_closed-files c.nodes s.nodes s.files t) (shows-exec (storage c.nodes s.files) c.counts)

  -- the table goes
  shows-gone : (fs : OpenFiles) → Shows t fs (record fs { tables = with_item (λ table. None) fs.tables t })
  shows-gone fs = quiet_shows t fs (record fs { tables = with_item (λ table. None) fs.tables t }) (record {
    tables = λ other beside there. item_other (λ table. None) fs.tables t other beside;
    files = λ n. stays_itself ⊥ (at_number fs.files n);
    pipes = refl;
    changed = refl;
    next = refl;
  })

  shows-departed : (s : Storage) → Counted s → Shows t s.files (without_table s t).files
  unfolding without_table
  shows-departed s counts =
      let now : Storage = all_closed (λ d. true) s t all_descriptors in
      shows_then t s.files now.files (record now.files { tables = with_item (λ table. None) now.files.tables t })
      (shows-all_closed (λ d. true) all_descriptors s counts) (shows-gone now.files)

  pub shows-without_table : (s : Storage) → AreCounted s.files → Shows t s.files (without_table s t).files
  shows-without_table s c = subst (Shows t s.files) (without_table-files c.nodes s.nodes s.files t) (shows-departed (storage c.nodes s.files) c.counts)
