-- Each row gives one number of a node, and one of a pipe, at most; and so does each event, with its call.
use Rattle.std.proofs.Common.{◌≡◌, ℕ, ◌+◌, ◌≤◌, Bool, true, false, cond, List, [], ◌∷◌, ◌++◌, length, drop, Option, Some, None, Result, Ok, Err, refl, ap, subst, ◌∙◌, arith}
use Rattle.std.specs.Prelude.{◌==◌, ◌&&◌, nat_le, nat_lt, if◌then◌else◌}
use Rattle.std.proofs.lemmas.List.{length-append}
use Rattle.call_log.specs.declared.errno.Errno.{Errno}
use Rattle.call_log.specs.Notes.{CallEntry, call_note}
use Rattle.mmap_rules.specs.Space.{Space}
use Rattle.mem_files.specs.Inodes.{file, folder, Inode, Inodes, new_inode, kind_of, size_of, most_nodes, most_of_one, most_of_all, node_count, byte_count}
use Rattle.mem_files.specs.Paths.{Place, place_of}
use Rattle.mem_files.specs.Changes.{with_change, held, let_go, or_no_space, overwritten, with_bytes, written, truncated, with_entry, with_new, with_folder, with_file, may_be_entry, without_entry, naming_fault, unless_fault, unnamed, unnamed_at, unlinked}
use Rattle.mem_files.proofs.TreesKept.{Leaves, made_leaves}
use Rattle.fd_tables.specs.declared.open_file.OpenFile.{OpenFile}
use Rattle.fd_tables.specs.declared.open_file.Object.{Object}
use Rattle.fd_tables.specs.declared.open_file.Object.TheVariants.{File, PipeEnd}
use Rattle.fd_tables.specs.declared.open_file.Handle.{Handle}
use Rattle.fd_tables.specs.declared.open_file.Handle.TheVariants.{Input, Output, Open}
use Rattle.fd_tables.specs.declared.open_file.Descriptor.{Descriptor}
use Rattle.fd_tables.specs.Files.{Table, Pipe, OpenFiles, at_number, table_at, descriptor, with_next}
use Rattle.fd_tables.specs.Pipes.{with_changed, pipe_at, pipe_taken, pipe_put}
use Rattle.fd_tables.specs.Changes.{Storage, with_descriptor, with_file as with_opened, shared, let_go as let_go_object, dropped, dropped_file, closed, closed_descriptor, opened, copied_descriptor, with_cloexec, duplicated, replaced, moved, moved_handle, taken, piped, all_shared, copied_table, with_copy, all_closed, all_descriptors, exec_closed, without_table}
use Rattle.fd_tables.proofs.Items.{length-item}
use Rattle.fd_tables.proofs.Holds.{change_item}
use Rattle.fd_tables.proofs.EndCounts.{next-without_end}
use Rattle.machine_world.specs.World.{Process, Rest, World}
use Rattle.machine_world.specs.Asks.{Ask, arg, storage_of}
use Rattle.machine_world.specs.Descriptors.{table_of, close_on_exec}
use Rattle.machine_world.specs.PathCalls.{path_of, remove_folder, writes, truncates, emptied}
use Rattle.machine_world.specs.Transfers.{write_position}
use Rattle.machine_world.specs.Rows.{row}
use Rattle.machine_world.specs.Ages.{kept_calls}
use Rattle.machine_world.specs.Event.{ask_of, entry_of, ended, event}
use Rattle.machine_world.proofs.EachChange.{Answers, EachChange, opened_as, fitting}
use Rattle.machine_world.proofs.ByRows.{by_rows}
use Rattle.machine_world.proofs.ByEvents.{Went, Answered, Happened, by_event}
use Rattle.machine_world.proofs.OrderKept.{noted_call}
use Rattle.refusal_laws.specs.Numbers.{GivesNumbers, EventsGiveNumbers}

-- ---- nodes

length-change : (f : Inode → Option Inode) (ns : Inodes) (id : ℕ) → length (with_change f ns id) ≡ length ns
length-change f ns id = ap length (change_item f ns id) ∙ length-item f ns id

length-held : (ns : Inodes) (id : ℕ) → length (held ns id) ≡ length ns
unfolding held
length-held ns id = length-change _ ns id

length-let_go : (ns : Inodes) (id : ℕ) → length (let_go ns id) ≡ length ns
unfolding let_go
length-let_go ns id = length-change _ ns id

length-truncated : (ns : Inodes) (id : ℕ) → length (truncated ns id) ≡ length ns
unfolding truncated
length-truncated ns id = length-change _ ns id

length-new : (ns : Inodes) (at : ℕ) (name : List ℕ) (n : Inode) → length (with_new ns at name n) ≤ length ns + 1
length-new ns at name n =
    let parts = length-append (with_entry ns at name (length ns)) (Some n ∷ []) in
    let same : length (with_entry ns at name (length ns)) ≡ length ns = length-change _ ns at in
    omega (arith, parts, same)

length-unnamed : (ns : Inodes) (p : Place) (id : ℕ) → length (unnamed ns p id) ≡ length ns
length-unnamed ns p id = length-change _ (without_entry ns p.folder p.name) id ∙ length-change _ ns p.folder

-- ---- a change that may be refused

module _ (P : Inodes → Type 0) where
  refused : (errno : Errno) → Leaves P (Err errno)
  refused errno new is = let never : ⊥ = cc in absurd never

  done : (now : Inodes) → P now → Leaves P (Ok now)
  done now holds new is = let e : now ≡ new = cc in subst P e holds

  either : (b : Bool) (x y : Result Inodes Errno) → Leaves P x → Leaves P y → Leaves P (cond b x y)
  either true x y first second = first
  either false x y first second = second

  by_space : (now : Inodes) → P now → Leaves P (or_no_space now)
  by_space now holds = either (nat_le (node_count now) most_nodes && nat_le (byte_count now) most_of_all) _ _ (done now holds) (refused _)

  by_fault : (now : Inodes) (fault : Option Errno) → P now → Leaves P (unless_fault fault now)
  by_fault now None holds = done now holds
  by_fault now (Some errno) holds = refused errno

module _ (ns : Inodes) where
  -- one node more at most
  abbrev Few : Inodes → Type 0
  Few new = length new ≤ length ns + 1

  few_same : (new : Inodes) → length new ≡ length ns → Few new
  few_same new same = omega (arith, same)

  few_written : (new : Inodes) (id at : ℕ) (bytes : List ℕ) → written ns id at bytes ≡ Ok new → Few new
  unfolding written
  few_written new id at bytes is =
      either Few (length bytes == 0) _ _ (done Few ns (omega arith))
      (either Few (nat_lt most_of_one (at + length bytes)) _ _ (refused Few _) (by_space Few _ (few_same (with_change (λ n. Some (with_bytes (overwritten at bytes) n)) ns id) (length-change _ ns id))))
      new is

  few_folder : (new : Inodes) (path : List ℕ) → with_folder ns path ≡ Ok new → Few new
  unfolding with_folder
  few_folder new path is =
      made_leaves Few (λ parent. folder parent []) None ns (place_of ns path) (λ p at none. length-new ns p.folder p.name (new_inode (folder p.folder []) None)) new is

  few_file : (new : Inodes) (path bytes : List ℕ) (program : Option ℕ) → with_file ns path bytes program ≡ Ok new → Few new
  unfolding with_file
  few_file new path bytes program is =
      made_leaves Few (λ parent. file bytes) program ns (place_of ns path) (λ p at none. length-new ns p.folder p.name (new_inode (file bytes) program)) new is

  few_by_node : (dir : Bool) (id : Option ℕ) (at : ℕ) (name : List ℕ) → Leaves Few (unnamed_at dir ns (Ok (record { id = id; folder = at; name = name })))
  few_by_node dir (Some id) at name =
      let p : Place = record { id = Some id; folder = at; name = name } in
      either Few (may_be_entry name) _ _
      (by_fault Few _ (naming_fault dir (kind_of ns id) (size_of ns id)) (few_same (unnamed ns p id) (length-unnamed ns p id))) (refused Few _)
  few_by_node dir None at name = either Few (may_be_entry name) _ _ (refused Few _) (refused Few _)

  few_by_place : (dir : Bool) (r : Result Place Errno) → Leaves Few (unnamed_at dir ns r)
  few_by_place dir (Err errno) = refused Few errno
  few_by_place dir (Ok p) = few_by_node dir p.id p.folder p.name

  few_unlinked : (new : Inodes) (path : List ℕ) (dir : Bool) → unlinked ns path dir ≡ Ok new → Few new
  unfolding unlinked
  few_unlinked new path dir is = few_by_place dir (place_of ns path) new is

-- ---- open files

-- so many nodes, and this number for the next pipe
pub record Counts (nodes pipe : ℕ) (s : Storage) : Type 0 where
  pub are : length s.nodes ≡ nodes
  pub next : s.files.next_pipe ≡ pipe

module _ (nodes pipe : ℕ) where
  counts_object : (s : Storage) (f : OpenFile) (o : Object) → Counts nodes pipe s → Counts nodes pipe (let_go_object s f o)
  counts_object s f (File node) h = record { are = length-let_go s.nodes node ∙ h.are; next = h.next }
  counts_object s f (PipeEnd id) h = record { are = h.are; next = next-without_end s.files id f.write ∙ h.next }

  counts_last : (s : Storage) (k : ℕ) (f : OpenFile) (b : Bool) → nat_le f.uses 1 ≡ b → Counts nodes pipe s → Counts nodes pipe (dropped_file s k (Some f))
  counts_last s k f true e h = rw e (counts_object (record s { files = with_opened (λ f. None) s.files k }) f f.object (record { are = h.are; next = h.next }))
  counts_last s k f false e h = rw e (record { are = h.are; next = h.next })

  counts_dropped_file : (s : Storage) (k : ℕ) (o : Option OpenFile) → Counts nodes pipe s → Counts nodes pipe (dropped_file s k o)
  counts_dropped_file s k None h = h
  counts_dropped_file s k (Some f) h = counts_last s k f _ refl h

  counts_dropped : (s : Storage) (d : Handle) → Counts nodes pipe s → Counts nodes pipe (dropped s d)
  counts_dropped s (Open k) h = counts_dropped_file s k (at_number s.files.files k) h
  counts_dropped s Input h = h
  counts_dropped s Output h = h

  counts_descriptor : (s : Storage) (t fd : ℕ) (o : Option Descriptor) → Counts nodes pipe s → Counts nodes pipe (closed_descriptor s t fd o)
  counts_descriptor s t fd None h = h
  counts_descriptor s t fd (Some d) h = counts_dropped (record s { files = with_descriptor s.files t fd None }) d.handle (record { are = h.are; next = h.next })

  counts_closed : (s : Storage) (t fd : ℕ) → Counts nodes pipe s → Counts nodes pipe (closed s t fd)
  unfolding closed
  counts_closed s t fd h = counts_descriptor s t fd (descriptor s.files t fd) h

  counts_tested : (test : Descriptor → Bool) (s : Storage) (t fd : ℕ) (d : Descriptor) (b : Bool) → descriptor s.files t fd ≡ Some d → test d ≡ b
      → Counts nodes pipe s → Counts nodes pipe (all_closed test s t (fd ∷ []))
  counts_tested test s t fd d true e f h = rw (e, f) (counts_closed s t fd h)
  counts_tested test s t fd d false e f h = rw (e, f) h

  counts_one : (test : Descriptor → Bool) (s : Storage) (t fd : ℕ) (o : Option Descriptor) → descriptor s.files t fd ≡ o
      → Counts nodes pipe s → Counts nodes pipe (all_closed test s t (fd ∷ []))
  counts_one test s t fd None e h = rw e h
  counts_one test s t fd (Some d) e h = counts_tested test s t fd d _ e refl h

  counts_all : (test : Descriptor → Bool) (t : ℕ) (fds : List ℕ) (s : Storage) → Counts nodes pipe s → Counts nodes pipe (all_closed test s t fds)
  counts_all test t [] s h = h
  counts_all test t (fd ∷ fds) s h = counts_all test t fds _ (counts_one test s t fd _ refl h)

  counts_table : (s : Storage) (t : ℕ) → Counts nodes pipe s → Counts nodes pipe (without_table s t)
  unfolding without_table
  counts_table s t h = let all = counts_all (λ d. true) t all_descriptors s h in record { are = all.are; next = all.next }

  counts_exec : (s : Storage) (t : ℕ) → Counts nodes pipe s → Counts nodes pipe (exec_closed s t)
  unfolding exec_closed
  counts_exec s t h = counts_all (λ d. d.cloexec) t all_descriptors s h

next-shared : (fs : OpenFiles) (h : Handle) → (shared fs h).next_pipe ≡ fs.next_pipe
next-shared fs (Open n) = refl
next-shared fs Input = refl
next-shared fs Output = refl

next-copied : (fs : OpenFiles) (t fd : ℕ) (o : Option Descriptor) → (copied_descriptor fs t fd o).next_pipe ≡ fs.next_pipe
next-copied fs t fd None = refl
next-copied fs t fd (Some d) = next-shared (with_descriptor fs t fd (Some d)) d.handle

next-duplicated : (fs : OpenFiles) (t old new : ℕ) (cloexec : Bool) → (duplicated fs t old new cloexec).next_pipe ≡ fs.next_pipe
unfolding duplicated
next-duplicated fs t old new cloexec = next-copied fs t new (with_cloexec cloexec (descriptor fs t old))

next-handle : (fs : OpenFiles) (at : ℕ) (h : Handle) (cloexec : Bool) → (moved_handle fs at (Some (record { handle = h; cloexec = cloexec }))).next_pipe ≡ fs.next_pipe
next-handle fs at (Open n) cloexec = refl
next-handle fs at Input cloexec = refl
next-handle fs at Output cloexec = refl

next-moved_handle : (fs : OpenFiles) (at : ℕ) (o : Option Descriptor) → (moved_handle fs at o).next_pipe ≡ fs.next_pipe
next-moved_handle fs at None = refl
next-moved_handle fs at (Some d) = next-handle fs at d.handle d.cloexec

next-moved : (fs : OpenFiles) (t fd at : ℕ) → (moved fs t fd at).next_pipe ≡ fs.next_pipe
unfolding moved
next-moved fs t fd at = next-moved_handle fs at (descriptor fs t fd)

next-changed : (f : Pipe → Option Pipe) (fs : OpenFiles) (id : ℕ) (o : Option Pipe) → (with_changed f fs id o).next_pipe ≡ fs.next_pipe
next-changed f fs id None = refl
next-changed f fs id (Some p) = refl

next-if : (b : Bool) (fs now : OpenFiles) → now.next_pipe ≡ fs.next_pipe → (if b then fs else now).next_pipe ≡ fs.next_pipe
next-if true fs now same = refl
next-if false fs now same = same

next-pipe_taken : (fs : OpenFiles) (id n : ℕ) → (pipe_taken fs id n).next_pipe ≡ fs.next_pipe
unfolding pipe_taken
next-pipe_taken fs id n =
    let takes = λ (p : Pipe). Some (record p { bytes = drop n p.bytes }) in
    next-if (n == 0) fs (with_changed takes fs id (pipe_at fs id)) (next-changed takes fs id (pipe_at fs id))

next-pipe_put : (fs : OpenFiles) (id : ℕ) (bytes : List ℕ) → (pipe_put fs id bytes).next_pipe ≡ fs.next_pipe
unfolding pipe_put
next-pipe_put fs id bytes =
    let puts = λ (p : Pipe). Some (record p { bytes = p.bytes ++ bytes }) in
    next-if (length bytes == 0) fs (with_changed puts fs id (pipe_at fs id)) (next-changed puts fs id (pipe_at fs id))

next-all_shared : (ds : Table) (fs : OpenFiles) → (all_shared fs ds).next_pipe ≡ fs.next_pipe
next-all_shared [] fs = refl
next-all_shared (Some d ∷ ds) fs = next-all_shared ds (shared fs d.handle) ∙ next-shared fs d.handle
next-all_shared (None ∷ ds) fs = next-all_shared ds fs

next-copied_table : (fs : OpenFiles) (o : Option Table) → (copied_table fs o).next_pipe ≡ fs.next_pipe
next-copied_table fs None = refl
next-copied_table fs (Some table) = next-all_shared table (record fs { tables = with_next table fs.tables })

next-with_copy : (fs : OpenFiles) (t : ℕ) → (with_copy fs t).next_pipe ≡ fs.next_pipe
unfolding with_copy
next-with_copy fs t = next-copied_table fs (table_at fs t)

-- ---- all rows

-- behind a row one node more at most, and one pipe
pub record Grown (old now : Rest) : Type 0 where
  pub nodes : length now.tree ≤ length old.tree + 1
  pub pipes : now.files.next_pipe ≤ old.files.next_pipe + 1

module _ (a : Ask) where
  same_rest : Grown a.rest a.rest
  same_rest = record { nodes = omega arith; pipes = omega arith }

  grown_files : (files : OpenFiles) → files.next_pipe ≡ a.rest.files.next_pipe → Grown a.rest (record a.rest { files = files })
  grown_files files same = record { nodes = omega arith; pipes = omega (arith, same) }

  grown_storage : (s : Storage) → Counts (length a.rest.tree) a.rest.files.next_pipe s → Grown a.rest (record a.rest { tree = s.nodes; files = s.files })
  grown_storage s h = record { nodes = omega (arith, h.are); pipes = omega (arith, h.next) }

  grown_tree : (nodes : Inodes) → length nodes ≤ length a.rest.tree + 1 → Grown a.rest (record a.rest { tree = nodes })
  grown_tree nodes few = record { nodes = few; pipes = omega arith }

  grown_opened : (fd node : ℕ) (nodes : Inodes) → length nodes ≤ length a.rest.tree + 1 → Grown a.rest (opened_as a fd node nodes)
  unfolding opened
  grown_opened fd node nodes few = record { nodes = omega (arith, length-held nodes node, few); pipes = omega arith }

  length-emptied : (node : ℕ) (b : Bool) → length (cond b (truncated a.rest.tree node) a.rest.tree) ≤ length a.rest.tree + 1
  length-emptied node true = omega (arith, length-truncated a.rest.tree node)
  length-emptied node false = omega arith

  counted_here : Counts (length a.rest.tree) a.rest.files.next_pipe (storage_of a.rest)
  counted_here = record { are = refl; next = refl }

  counts_replaced : (t old new : ℕ) (cloexec : Bool) → Counts (length a.rest.tree) a.rest.files.next_pipe (replaced (storage_of a.rest) t old new cloexec)
  unfolding replaced
  counts_replaced t old new cloexec =
      let first = counts_closed (length a.rest.tree) a.rest.files.next_pipe (storage_of a.rest) t new counted_here in
      record { are = first.are; next = next-duplicated (closed (storage_of a.rest) t new).files t old new cloexec ∙ first.next }

  grown_piped : (files : OpenFiles) → files.next_pipe ≡ a.rest.files.next_pipe + 1 → Grown a.rest (record a.rest { files = files })
  grown_piped files more = record { nodes = omega arith; pipes = omega (arith, more) }

  kept_grown : EachChange (Grown a.rest) a
  unfolding taken piped
  kept_grown = record {
    dup = λ free is. grown_files _ (next-duplicated a.rest.files (table_of a) (arg a 0) free false);
    dup3 = λ none. grown_storage (replaced (storage_of a.rest) (table_of a) (arg a 0) (arg a 1) (arg a 2 == close_on_exec)) (counts_replaced (table_of a) (arg a 0) (arg a 1) (arg a 2 == close_on_exec));
    close = λ none. grown_storage (closed (storage_of a.rest) (table_of a) (arg a 0)) (counts_closed (length a.rest.tree) a.rest.files.next_pipe (storage_of a.rest) (table_of a) (arg a 0) counted_here);
    seek = λ v node at shows is. grown_files _ (next-moved a.rest.files (table_of a) (arg a 0) at);
    list = λ v node shows is. grown_files _ (next-moved a.rest.files (table_of a) (arg a 0) _);
    read = λ v node spans shows reads is. grown_files _ (next-moved a.rest.files (table_of a) (arg a 0) _);
    take = λ v spans shows reads. grown_files _ refl;
    write = λ v node bytes nodes shows may some is.
        record { nodes = few_written a.rest.tree nodes node (write_position a v node) bytes is; pipes = omega (arith, next-moved a.rest.files (table_of a) (arg a 0) (write_position a v node + length bytes)) };
    print = λ v bytes shows may. record { nodes = omega arith; pipes = omega arith };
    pipe = λ ends free. grown_piped _ refl;
    drain = λ v id end spans shows reads. grown_files _ (next-pipe_taken a.rest.files id _);
    fill = λ v id end bytes shows may. grown_files _ (next-pipe_put a.rest.files id (fitting a id bytes));
    make = λ nodes is. grown_tree nodes (few_folder a.rest.tree nodes (path_of a) is);
    remove = λ nodes is. grown_tree nodes (few_unlinked a.rest.tree nodes (path_of a) (arg a 2 == remove_folder) is);
    open_old = λ fd node free found none. grown_opened fd node (emptied a.rest.tree node (arg a 2)) (length-emptied node (truncates (arg a 2) && writes (arg a 2)));
    open_new = λ fd nodes free found may made. grown_opened fd (length a.rest.tree) nodes (few_file a.rest.tree nodes (path_of a) [] None made);
  }

  all_rows : Answers (Grown a.rest) (row a)
  all_rows = by_rows (Grown a.rest) a kept_grown same_rest

-- ---- an event

module _ (w : World) where
  -- behind a noted call
  behind_call : (e : CallEntry) (now : World) → kept_calls now.notes ≡ kept_calls (call_note e ∷ w.notes) → Grown w.rest now.rest → GivesNumbers w now
  behind_call e now is h =
      let more : kept_calls now.notes ≡ kept_calls w.notes + 1 = is ∙ noted_call e w.notes in
      record { nodes = omega (arith, more, h.nodes); pipes = omega (arith, more, h.pipes) }

  -- and where nothing is given
  gives_none : (now : World) → kept_calls now.notes ≡ kept_calls w.notes → length now.rest.tree ≡ length w.rest.tree → now.rest.files.next_pipe ≡ w.rest.files.next_pipe → GivesNumbers w now
  gives_none now is nodes pipe = record { nodes = omega (arith, is, nodes); pipes = omega (arith, is, pipe) }

  table_gone : (t : ℕ) → Counts (length w.rest.tree) w.rest.files.next_pipe (without_table (storage_of w.rest) t)
  table_gone t = counts_table (length w.rest.tree) w.rest.files.next_pipe (storage_of w.rest) t (record { are = refl; next = refl })

  table_closes : (t : ℕ) → Counts (length w.rest.tree) w.rest.files.next_pipe (exec_closed (storage_of w.rest) t)
  table_closes t = counts_exec (length w.rest.tree) w.rest.files.next_pipe (storage_of w.rest) t (record { are = refl; next = refl })

  grown_to : (s : Storage) → Counts (length w.rest.tree) w.rest.files.next_pipe s → Grown w.rest (record w.rest { tree = s.nodes; files = s.files })
  grown_to s h = record { nodes = omega (arith, h.are); pipes = omega (arith, h.next) }

  call_gives : (a : Ask) → Answered (λ now t. GivesNumbers w now) (Grown w.rest) w a
  unfolding ended
  call_gives a = record {
    reply = λ ended r m grown room. behind_call (entry_of a r.value r.got) _ refl grown;
    wait = λ state. gives_none _ refl refl refl;
    exit = λ room. behind_call (entry_of a 0 []) _ refl (grown_to (without_table (storage_of w.rest) a.process.table) (table_gone a.process.table));
    fork = λ few room. behind_call (entry_of a w.next_pid []) _ refl (record { nodes = omega arith; pipes = omega (arith, next-with_copy w.rest.files a.process.table) });
    load = λ f s page is fits room. behind_call (entry_of a 0 []) _ refl (grown_to (exec_closed (storage_of w.rest) a.process.table) (table_closes a.process.table));
  }

  act_gives : (p : Process) (s : Space) → Happened (λ now t. GivesNumbers w now) (Grown w.rest) w p s
  unfolding ended
  act_gives p s = record {
    step = λ regs bytes. gives_none _ refl refl refl;
    trap = λ signal. let gone = table_gone p.table in gives_none _ refl gone.are gone.next;
    calls = λ bytes. call_gives (ask_of w p s bytes);
  }

  pub event_gives : (pid : ℕ) → Went (λ now t. GivesNumbers w now) (event w pid)
  event_gives pid =
      by_event (λ now t. GivesNumbers w now) (Grown w.rest) (λ now t h. record { nodes = h.nodes; pipes = h.pipes }) w (record { nodes = omega arith; pipes = omega arith }) pid
      (λ p s lives has. act_gives p s.space) (λ p s bytes. all_rows (ask_of w p s bytes))

pub events_give_numbers : EventsGiveNumbers
events_give_numbers w pid now t is = subst (Went (λ v u. GivesNumbers w v)) is (event_gives w pid)
