-- Nodes age by each row and each event.
use Rattle.std.proofs.Common.{◌≡◌, ℕ, ◌+◌, ◌<◌, Bool, true, false, cond, List, [], ◌∷◌, length, Option, Some, None, Ok, refl, subst}
use Rattle.std.specs.Prelude.{◌==◌, ◌&&◌, nat_le}
use Rattle.mmap_rules.specs.Space.{Space}
use Rattle.mem_files.specs.Inodes.{Inodes}
use Rattle.mem_files.specs.Changes.{held, let_go, truncated, with_folder, with_file}
use Rattle.fd_tables.specs.declared.open_file.OpenFile.{OpenFile}
use Rattle.fd_tables.specs.declared.open_file.Object.{Object}
use Rattle.fd_tables.specs.declared.open_file.Object.TheVariants.{File, PipeEnd}
use Rattle.fd_tables.specs.declared.open_file.Handle.{Handle}
use Rattle.fd_tables.specs.declared.open_file.Handle.TheVariants.{Input, Output, Open}
use Rattle.fd_tables.specs.declared.open_file.Descriptor.{Descriptor}
use Rattle.fd_tables.specs.Files.{at_number, descriptor}
use Rattle.fd_tables.specs.Changes.{Storage, with_descriptor, with_file as with_opened, let_go as let_go_object, dropped, dropped_file, closed, closed_descriptor, opened, replaced, all_closed, all_descriptors, exec_closed, without_table}
use Rattle.machine_world.specs.World.{Process, Rest, World}
use Rattle.machine_world.specs.Asks.{Ask, arg, Reply, replies, storage_of}
use Rattle.machine_world.specs.Descriptors.{table_of, close_on_exec}
use Rattle.machine_world.specs.PathCalls.{path_of, remove_folder, writes, truncates, emptied}
use Rattle.machine_world.specs.Transfers.{write_position}
use Rattle.machine_world.specs.Rows.{row}
use Rattle.machine_world.specs.Event.{ask_of, ended, event}
use Rattle.machine_world.specs.Ages.{AreChanged, Follows, most_changes, EventsAgeFiles}
use Rattle.machine_world.proofs.EachChange.{Answers, EachChange, opened_as}
use Rattle.machine_world.proofs.ByRows.{by_rows}
use Rattle.machine_world.proofs.ByEvents.{Went, Answered, Happened, by_event}
use Rattle.machine_world.proofs.NodesAge.{Since, since_itself, since_on, since_more, held_ages, let_go_ages, truncated_ages, written_ages, folder_ages, file_ages, unlinked_ages}

-- ---- a new folder or file is unchanged

pub folder_unchanged : (ns new : Inodes) (path : List ℕ) (most : ℕ) → with_folder ns path ≡ Ok new → AreChanged most ns → AreChanged most new
folder_unchanged ns new path most is low = (folder_ages most ns new path is low).1

pub file_unchanged : (ns new : Inodes) (path bytes : List ℕ) (program : Option ℕ) (most : ℕ) → with_file ns path bytes program ≡ Ok new
    → AreChanged most ns → AreChanged most new
file_unchanged ns new path bytes program most is low = (file_ages most ns new path bytes program is low).1

-- ---- descriptors close: P holds of the nodes as long as it does where one is let go

module _ (P : Inodes → Type 0) (lets : (ns : Inodes) (id : ℕ) → P ns → P (let_go ns id)) where
  by_object : (s : Storage) (f : OpenFile) (o : Object) → P s.nodes → P (let_go_object s f o).nodes
  by_object s f (File node) h = lets s.nodes node h
  by_object s f (PipeEnd id) h = h

  by_last : (s : Storage) (k : ℕ) (f : OpenFile) (b : Bool) → nat_le f.uses 1 ≡ b → P s.nodes → P (dropped_file s k (Some f)).nodes
  by_last s k f true e h = rw e (by_object (record s { files = with_opened (λ f. None) s.files k }) f f.object h)
  by_last s k f false e h = rw e h

  by_dropped_file : (s : Storage) (k : ℕ) (o : Option OpenFile) → P s.nodes → P (dropped_file s k o).nodes
  by_dropped_file s k None h = h
  by_dropped_file s k (Some f) h = by_last s k f _ refl h

  by_dropped : (s : Storage) (d : Handle) → P s.nodes → P (dropped s d).nodes
  by_dropped s (Open k) h = by_dropped_file s k (at_number s.files.files k) h
  by_dropped s Input h = h
  by_dropped s Output h = h

  by_descriptor : (s : Storage) (t fd : ℕ) (o : Option Descriptor) → P s.nodes → P (closed_descriptor s t fd o).nodes
  by_descriptor s t fd None h = h
  by_descriptor s t fd (Some d) h = by_dropped (record s { files = with_descriptor s.files t fd None }) d.handle h

  by_closed : (s : Storage) (t fd : ℕ) → P s.nodes → P (closed s t fd).nodes
  unfolding closed
  by_closed s t fd h = by_descriptor s t fd (descriptor s.files t fd) h

  by_replaced : (s : Storage) (t old new : ℕ) (cloexec : Bool) → P s.nodes → P (replaced s t old new cloexec).nodes
  unfolding replaced
  by_replaced s t old new cloexec h = by_closed s t new h

  by_tested : (test : Descriptor → Bool) (s : Storage) (t fd : ℕ) (d : Descriptor) (b : Bool) → descriptor s.files t fd ≡ Some d → test d ≡ b
      → P s.nodes → P (all_closed test s t (fd ∷ [])).nodes
  by_tested test s t fd d true e f h = rw (e, f) (by_closed s t fd h)
  by_tested test s t fd d false e f h = rw (e, f) h

  by_one : (test : Descriptor → Bool) (s : Storage) (t fd : ℕ) (o : Option Descriptor) → descriptor s.files t fd ≡ o
      → P s.nodes → P (all_closed test s t (fd ∷ [])).nodes
  by_one test s t fd None e h = rw e h
  by_one test s t fd (Some d) e h = by_tested test s t fd d _ e refl h

  by_all : (test : Descriptor → Bool) (t : ℕ) (fds : List ℕ) (s : Storage) → P s.nodes → P (all_closed test s t fds).nodes
  by_all test t [] s h = h
  by_all test t (fd ∷ fds) s h = by_all test t fds _ (by_one test s t fd _ refl h)

  by_table : (s : Storage) (t : ℕ) → P s.nodes → P (without_table s t).nodes
  unfolding without_table
  by_table s t h = by_all (λ d. true) t all_descriptors s h

  by_exec : (s : Storage) (t : ℕ) → P s.nodes → P (exec_closed s t).nodes
  unfolding exec_closed
  by_exec s t h = by_all (λ d. d.cloexec) t all_descriptors s h

-- ---- the nodes since older ones

module _ (old : Inodes) (most : ℕ) where
  since_let_go : (ns : Inodes) (id : ℕ) → Since old most ns → Since old most (let_go ns id)
  since_let_go ns id h = since_on old ns (let_go ns id) most most h (let_go_ages ns id most h.1)

  since_held : (ns : Inodes) (id : ℕ) → Since old most ns → Since old most (held ns id)
  since_held ns id h = since_on old ns (held ns id) most most h (held_ages ns id most h.1)

pub table_ages : (s : Storage) (t most : ℕ) → AreChanged most s.nodes
    → Follows s.nodes (without_table s t).nodes × AreChanged most (without_table s t).nodes
table_ages s t most low = by_table (Since s.nodes most) (since_let_go s.nodes most) s t (since_itself s.nodes most low)

pub exec_ages : (s : Storage) (t most : ℕ) → AreChanged most s.nodes → Since s.nodes most (exec_closed s t).nodes
exec_ages s t most low = by_exec (Since s.nodes most) (since_let_go s.nodes most) s t (since_itself s.nodes most low)

-- ---- all rows

module _ (a : Ask) (most : ℕ) (low : AreChanged most a.rest.tree) (few : most < most_changes) where
  abbrev Later : Inodes → Type 0
  Later = Since a.rest.tree (most + 1)

  unchanged : Later a.rest.tree
  unchanged = since_more a.rest.tree a.rest.tree most (since_itself a.rest.tree most low)

  lets : (ns : Inodes) (id : ℕ) → Later ns → Later (let_go ns id)
  lets = since_let_go a.rest.tree (most + 1)

  emptied_ages : (node : ℕ) (b : Bool) → Later (cond b (truncated a.rest.tree node) a.rest.tree)
  emptied_ages node true = truncated_ages a.rest.tree most few low node
  emptied_ages node false = unchanged

  opened_ages : (fd node : ℕ) (nodes : Inodes) → Later nodes → Later (opened_as a fd node nodes).tree
  unfolding opened
  opened_ages fd node nodes h = since_held a.rest.tree (most + 1) nodes node h

  kept_later : EachChange (λ rest. Later rest.tree) a
  kept_later = record {
    dup = λ free is. unchanged;
    dup3 = λ none. by_replaced Later lets (storage_of a.rest) (table_of a) (arg a 0) (arg a 1) (arg a 2 == close_on_exec) unchanged;
    close = λ none. by_closed Later lets (storage_of a.rest) (table_of a) (arg a 0) unchanged;
    seek = λ v node at shows is. unchanged;
    list = λ v node shows is. unchanged;
    read = λ v node spans shows reads is. unchanged;
    take = λ v spans shows reads. unchanged;
    write = λ v node bytes nodes shows may some is. written_ages a.rest.tree nodes node (write_position a v node) bytes most is few low;
    print = λ v bytes shows may. unchanged;
    pipe = λ ends free. unchanged;
    drain = λ v id end spans shows reads. unchanged;
    fill = λ v id end bytes shows may. unchanged;
    make = λ nodes is. since_more a.rest.tree nodes most (folder_ages most a.rest.tree nodes (path_of a) is low);
    remove = λ nodes is. since_more a.rest.tree nodes most (unlinked_ages most a.rest.tree nodes (path_of a) (arg a 2 == remove_folder) is low);
    open_old = λ fd node free found none.
        opened_ages fd node (emptied a.rest.tree node (arg a 2)) (emptied_ages node (truncates (arg a 2) && writes (arg a 2)));
    open_new = λ fd nodes free found may made.
        opened_ages fd (length a.rest.tree) nodes (since_more a.rest.tree nodes most (file_ages most a.rest.tree nodes (path_of a) [] None made low));
  }

  all_rows : Answers (λ rest. Later rest.tree) (row a)
  all_rows = by_rows (λ rest. Later rest.tree) a kept_later unchanged

pub rows_age : (a : Ask) (r : Reply) (most : ℕ) → row a ≡ replies r → AreChanged most a.rest.tree → most < most_changes
    → Follows a.rest.tree r.rest.tree × AreChanged (most + 1) r.rest.tree
rows_age a r most is low few = subst (Answers (λ rest. Since a.rest.tree (most + 1) rest.tree)) is (all_rows a most low few)

-- ---- all events

module _ (w : World) (most : ℕ) (low : AreChanged most w.rest.tree) (few : most < most_changes) where
  abbrev LaterIn : Rest → Type 0
  LaterIn rest = Since w.rest.tree (most + 1) rest.tree

  same_tree : LaterIn w.rest
  same_tree = since_more w.rest.tree w.rest.tree most (since_itself w.rest.tree most low)

  -- a table goes
  table_gone : (t : ℕ) → Since w.rest.tree (most + 1) (without_table (storage_of w.rest) t).nodes
  table_gone t = since_more w.rest.tree (without_table (storage_of w.rest) t).nodes most (table_ages (storage_of w.rest) t most low)

  -- descriptors close at an execve
  table_closes : (t : ℕ) → Since w.rest.tree (most + 1) (exec_closed (storage_of w.rest) t).nodes
  table_closes t = since_more w.rest.tree (exec_closed (storage_of w.rest) t).nodes most (exec_ages (storage_of w.rest) t most low)

  call_ages : (a : Ask) → Answered (λ now t. LaterIn now.rest) LaterIn w a
  unfolding ended
  call_ages a = record {
    reply = λ ended r m later room. later;
    wait = λ state. same_tree;
    exit = λ room. table_gone a.process.table;
    fork = λ few room. same_tree;
    load = λ f s page is fits room. table_closes a.process.table;
  }

  act_ages : (p : Process) (s : Space) → Happened (λ now t. LaterIn now.rest) LaterIn w p s
  unfolding ended
  act_ages p s = record {
    step = λ regs bytes. same_tree;
    trap = λ signal. table_gone p.table;
    calls = λ bytes. call_ages (ask_of w p s bytes);
  }

  event_ages : (pid : ℕ) → Went (λ now t. LaterIn now.rest) (event w pid)
  event_ages pid =
      by_event (λ now t. LaterIn now.rest) LaterIn (λ now t later. later) w same_tree pid (λ p s lives has. act_ages p s.space) (λ p s bytes. all_rows (ask_of w p s bytes) most low few)

pub events_age_files : EventsAgeFiles
events_age_files w pid now t most low few is = subst (Went (λ v u. LaterIn w most low few v.rest)) is (event_ages w most low few pid)
